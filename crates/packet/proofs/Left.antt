-- A packet that is not dropped: what it asks before it writes, and that it leaves what the rules leave.
use mathlib.Core.Path.{◌≡◌, refl, sym, ap, subst, ◌∙◌}
use mathlib.Core.Bool.{Bool, true, false, ◌&&◌, false≢true}
use mathlib.Core.List.{List, [], ◌∷◌, append-nil}
use Prim.Native.Nat.{ℕ, ◌+◌, ◌*◌, ◌<◌, ◌≤◌}
use native.Mathlib.Omega.{arith}
use Rattle.std.specs.Prelude.{Ok}
use lib.ListN.{length, get_or}
use lib.Seq.{sets}
use Rattle.rules.specs.declared.Stamp.{Stamp}
use Rattle.usb.specs.Packet.{reason_of}
use Rattle.rows.specs.Widths.{event_width, packet_width, request_width}
use Rattle.rows.proofs.WidthsLaws.{each-log}
use Rattle.rows.specs.One.{one}
use Rattle.transaction.specs.Payload.{start_pid}
use Rattle.transaction.specs.Status.{transaction_status}
use Rattle.transaction.specs.Table.{pick}
use Rattle.usb.specs.Fields.{setup_data_of}
use Rattle.transaction.specs.declared.Transaction.{Transaction}
use Rattle.transaction.proofs.Laws.{extract-keeps}
use Rattle.endpoints.proofs.TableLaws.{fits-entry}
use Rattle.details.specs.declared.Device.{Device}
use Rattle.rules.specs.Rows.{Asked, asking, request_words, log}
use Rattle.rules.specs.World.{World, with_shelf, stamped, with_id, waiting_of}
use Rattle.rules.specs.Transactions.{is_dropped, state_at, shelf_with}
use Rattle.rules.specs.Decoder.{handle_raw_packet}
use Rattle.rules.specs.declared.Slot.{Slot}
use Rattle.rules.specs.declared.Slot.TheVariants.{Empty, Current, Suspended}
use Rattle.tally.specs.Tally.{in_log, words_for, Adds}
use Rattle.tally.specs.declared.add.Tally.{Tally}
use Rattle.update.specs.Update.{when, decide_resume}
use Rattle.record.proofs.FormedLaws.{WellFormed}
use Rattle.record.proofs.TabledLaws.{first-kept}
use Rattle.record.specs.Bools.{both}
use Rattle.record.specs.Room.{fitting, numbered}
use Rattle.record.specs.RoomLaws.{Within, within, Short, Numbered, numbered_is}
use Rattle.record.specs.declared.Counts.{Counts}
use Rattle.record.specs.declared.Decoder.{Decoder}
use Rattle.plan.specs.Packet.{resumes, slot_then, going, old_endpoint, transaction_then, keeps, plan_by, plan_of, played}
use Rattle.plan.specs.Step.{opened, begun}
use Rattle.plan.specs.Sound.{world1, world2, PlanFits}
use Rattle.plan.specs.declared.Plan.{Plan}
use Rattle.plan.proofs.Packet.{plan-shelf, packet-laden}
use Rattle.plan.proofs.Played.{played-log, played-event, played-keepalive, played-slot, tied_to, played-tied}
use Rattle.plan.specs.Devices.{changes, adds_device, length_of, row_asked}
use Rattle.plan.proofs.Devices.{device_begun, asked_close, played-devices, played-device-count, plan-behind}
use Rattle.plan.proofs.Requests.{played-requests}
use Rattle.descriptors.specs.Complete.{note_by, shelf_by}
use Rattle.shelving.specs.Shelve.{is_asked, reading_of, asked_with, laid_shelf, RoomIf, shelf_after, note_after, row_after as rowShelved, request_after, Shelves}
use Rattle.shelving.specs.declared.Shelved.{Shelved}
use Rattle.shelving.proofs.Rules.{row_of, shelf-is, row_is, request-is}
use Rattle.plan.proofs.Sound.{Sane, fits-packet, played-count, words-packet}
use Rattle.plan.specs.Words.{plan_words}
use Rattle.call.specs.Outcome.{counts_after, decoder_of, DevicesOf, TableOf, Appends, Left, is_ill, world_at}
use Rattle.call.proofs.OutcomeLaws.{sound}
use Rattle.call.proofs.StateLaws.{word_each}
use Rattle.call.specs.State.{State, logs, state, room_by, room_of, held_at}
use Rattle.call.specs.Share.{Known, tied}
use Rattle.tally.specs.Passes.{plan_passes}
use Rattle.tally.specs.Tallies.{tally_plan, add_counts, room_for}
use Rattle.tally.proofs.Least.{plan-links, plan-rows}
use Rattle.tally.proofs.Counted.{adds-shelf, played-adds}
use Rattle.tally.proofs.Counts.{counts-after, world_has}
use Rattle.tally.proofs.Formed.{three, old_stands, waiting-is}
use Rattle.tally.proofs.Planned.{plan_suits}
use Rattle.write.proofs.Holds.{Worded}
use Rattle.write_packet.specs.Asked.{PlanAsks}
use Rattle.write_packet.specs.Desk.{Desk, desk, performed}
use Rattle.write_packet.proofs.Held.{HoldsAll, Matches, SpaceAll, Brought}
use Rattle.write_packet.proofs.PlanLaws.{all_start, room-all, played-holds, ready}
use Rattle.packet.specs.After.{answer_in, sum_by, sum_of, sum_plan, tally_of, accepted, hand_of, decoder_by, change_by, own_row, changed, shelved, requested, Placed}
use Rattle.packet.specs.declared.change.Change.{Change}
use Rattle.packet.specs.declared.sum.Sum.{Sum}
use Rattle.packet.proofs.Changes.{changed-length, changed_beyond, put_at, begun-told, change-told, change_in}
use Rattle.packet.proofs.Owners.{plan-kept, plan-asked, plan-long}
use Rattle.packet.proofs.Places.{plan-place}

-- the desk at the call's entry
abbrev pub entry_desk : ℕ → ℕ → State → Desk
entry_desk time reason s =
    desk (hand_of time reason s.decoder (held_at s) s.table) s.table s.logs.devices s.logs.endpoints s.logs.transactions s.logs.groups s.logs.statebytes s.logs.states s.logs.items s.logs.links

-- what the code knows when it is to write: the tests that were passed, and what is known of the arguments
pub record Begins (packet : List ℕ) (s : State) : Type 0 where
  pub ill : is_ill s ≡ false
  pub live : is_dropped s.decoder.slot s.decoder.transaction ≡ false
  pub known : Known s.table
  pub many : length s.devices ≡ 64
  pub token : start_pid s.decoder.transaction.style < 256
  pub first : get_or packet 0 0 < 256
  pub sum : answer_in (sum_plan s.decoder (held_at s) (plan_of s.decoder.high packet (world_at s)) (length packet) (room_of s.logs)) ≡ 0

-- a sum with the answer 0: there is room, and no total passes
sum_room : (over : Bool) (d : Decoder) (held : Counts) (t : Tally) (room : Counts) → answer_in (sum_of over d held t room) ≡ 0
    → (room_for held d.counts t room ≡ true) × ((over ≡ false) × (sum_of over d held t room ≡ Ok (accepted d t)))
sum_room over d held t room h = by (room_for held d.counts t room) over h
  where
    by : (b o : Bool) → answer_in (sum_by b o d t) ≡ 0 → (b ≡ true) × ((o ≡ false) × (sum_by b o d t ≡ Ok (accepted d t)))
    by true true h = absurd (omega arith)
    by true false h = (refl, (refl, refl))
    by false o h = absurd (omega arith)

-- of two that are not both true, the second is false where the first is true
other_false : (a c : Bool) → (a && c) ≡ false → a ≡ true → c ≡ false
other_false true c h q = h
other_false false c h q = absurd (false≢true q)

module _ (packet : List ℕ) (time : ℕ) (s : State) (h : List ℕ) (b : Begins packet s) where
  abbrev d : Decoder
  d = s.decoder

  -- the world with the lent shelf h, and with the packet's payload on it
  abbrev lent : World
  lent = with_shelf h (world_at s)

  abbrev l : List ℕ
  l = shelf_with (keeps d.high (plan_of d.high packet lent)) (plan_of d.high packet lent).end.entry packet h

  abbrev pub w : World
  w = with_shelf l (world_at s)

  -- the plan, which does not go by the shelf
  abbrev pub p : Plan
  p = plan_of d.high packet w

  pub same : p ≡ plan_of d.high packet (world_at s)
  same = plan-shelf d.high packet l (world_at s)

  same-lent : plan_of d.high packet lent ≡ p
  same-lent = plan-shelf d.high packet h (world_at s) ∙ sym same

  abbrev room : Counts
  room = room_of s.logs

  -- the rows held
  abbrev n : Counts
  n = held_at s

  abbrev t : Tally
  t = tally_of d p (length packet)

  -- the world that the steps leave
  abbrev pub after : World
  after = played p packet time w

  well : WellFormed d s.devices s.table room
  well = (sound s b.ill).0

  brief : Short room
  brief = (sound s b.ill).1

  -- ---- room

  summed : (room_for n d.counts t room ≡ true) × ((plan_passes p ≡ false) × (sum_of (plan_passes p) d n t room ≡ Ok (accepted d t)))
  unfolding sum_plan
  summed = sum_room (plan_passes p) d n t room (ap (λ (q : Plan). answer_in (sum_plan d n q (length packet) room)) same ∙ b.sum)

  fitted : (fitting (add_counts n t) room ≡ true) × (numbered (add_counts d.counts t) ≡ true)
  fitted = both (fitting (add_counts n t) room) (numbered (add_counts d.counts t)) summed.0

  roomy : Within (add_counts n t) room
  roomy = within (add_counts n t) room fitted.0

  -- the numbers then
  numbers : Numbered (add_counts d.counts t)
  numbers = numbered_is (add_counts d.counts t) fitted.1

  adds : Adds t w after
  adds =
      subst (λ (m : ℕ). Adds (tally_plan p (length packet) w.count m) w after) (waiting-is well)
      (played-adds p packet time w (plan_suits d.high packet time w (three well) (old_stands well)))

  words : (k : ℕ) → length (log k after.journal) ≡ words_for k t
  words k = adds.words k ∙ omega arith

  space : SpaceAll (entry_desk time (reason_of packet) s) after.journal
  unfolding in_log add_counts room_by
  space =
      record {
        memory = record {
          groups = omega (arith, words 6, roomy.groups);
          statebytes = omega (arith, words 7, roomy.statebytes);
          states = omega (arith, words 8, roomy.states);
          items = omega (arith, words 9, roomy.items);
          links = omega (arith, words 10, roomy.links);
        };
        devices = omega (arith, words 1, roomy.devices);
        endpoints = omega (arith, words 2, roomy.endpoints);
        transactions = omega (arith, words 5, roomy.transactions);
      }

  -- ---- the packet's own rows

  bytes_are : log 0 after.journal ≡ packet
  bytes_are = played-log 0 refl refl refl refl refl refl refl refl refl p packet time w ∙ append-nil packet

  packets_are : log 3 after.journal ≡ d.counts.bytes ∷ time ∷ []
  packets_are = played-log 3 refl refl refl refl refl refl refl refl refl p packet time w

  events_are : log 4 after.journal ≡ []
  events_are = played-log 4 refl refl refl refl refl refl refl refl refl p packet time w

  pub bytes_fit : n.bytes + length packet ≤ length s.logs.bytes
  unfolding in_log add_counts room_by
  bytes_fit = let e = ap length bytes_are in omega (arith, words 0, roomy.bytes, e)

  pub packets_fit : (n.packets + 1) * packet_width ≤ length s.logs.packets
  unfolding in_log add_counts room_by
  packets_fit = let e = ap length packets_are in omega (arith, words 3, roomy.packets, e)

  -- ---- what carrying it out asks

  sane : Sane d.high packet w
  unfolding add_counts
  sane =
      record {
        special = let h = three well in omega (arith, h);
        room = let c = played-count d.high packet time w in let e = adds.endpoints in let f = roomy.few_endpoints in omega (arith, c, e, f);
        devices = well.counts.few_devices;
        links = d.counts.links;
        few = λ j h. let e = (well.endpoints j h).entry in record { transactions = e.transactions; groups = e.groups };
        linked = let l = plan-links p (length packet) d.counts.endpoints d.waiting in omega (arith, l, numbers.links);
        started = let l = plan-links p (length packet) d.counts.endpoints d.waiting in omega (arith, l, numbers.links);
        rows = let r = plan-rows d.high packet w (length packet) d.counts.endpoints d.waiting in omega (arith, r, numbers.transactions);
        fits = λ j h. fits-entry s.table j;
        old = old_stands well;
        token = b.token;
        first = b.first;
      }

  fits : PlanFits p packet time w
  unfolding plan_passes
  fits = fits-packet d.high packet w sane time (λ q. other_false p.closes _ summed.1.0 q)

  -- the plan that the code has made in words is the plan
  pub in_words : plan_words p ≡ p
  in_words = words-packet d.high packet w sane

  -- the old transaction, once it is resumed
  then_is : (world2 p packet time w).transaction ≡ transaction_then w.slot w.transactions (w.endpoints (old_endpoint w.slot w.transaction)) w.transaction
  unfolding plan_of plan_by begun opened
  then_is = by w.slot
    where
      by : (l : Slot) → (when (resumes l) (begun w.packets (going true (with_id w.transactions w.transaction) decide_resume)) (world1 packet time w)).transaction
          ≡ transaction_then l w.transactions (w.endpoints (old_endpoint l w.transaction)) w.transaction
      by Empty = refl
      by Current = refl
      by Suspended = refl

  brought : p.ends ≡ true → Brought p.brought (world2 p packet time w).transaction
  unfolding plan_of plan_by
  brought q =
      let x0 = old_endpoint w.slot w.transaction in
      let u = transaction_then w.slot w.transactions (w.endpoints x0) w.transaction in
      let k = extract-keeps d.high u (transaction_status d.high (state_at (slot_then w.slot) u) packet).pid (length packet) (setup_data_of packet) in
      record {
        id = k.id ∙ ap (λ (a : Transaction). a.id) (sym then_is);
        style = k.style ∙ ap (λ (a : Transaction). a.style) (sym then_is);
        linked = k.linked ∙ ap (λ (a : Transaction). a.linked) (sym then_is);
        link = k.link ∙ ap (λ (a : Transaction). a.link) (sym then_is);
      }

  matches : Matches (stamped time (reason_of packet) w) (entry_desk time (reason_of packet) s)
  matches =
      record {
        sized = b.known.size;
        entries = λ j h. refl;
        stored = λ j h. (well.endpoints j h).words;
        linked = refl;
        link = refl;
        last_item = refl;
        groups = omega (arith, well.begun.groups);
        statebytes = omega (arith, well.begun.statebytes);
        items = omega (arith, well.begun.items);
        devices = refl;
        endpoints = refl;
      }

  held : HoldsAll (entry_desk time (reason_of packet) s) after (performed p (entry_desk time (reason_of packet) s))
  held = played-holds p packet time w fits brought (all_start packet time w (entry_desk time (reason_of packet) s) refl refl matches)

  -- the numbers that it ends with are words
  worded : Worded after
  unfolding add_counts
  worded =
      record {
        groups = let e = adds.groups in let f = numbers.groups in omega (arith, e, f);
        statebytes = let e = adds.statebytes in let f = numbers.statebytes in omega (arith, e, f);
        items = let e = adds.items in let f = numbers.items in omega (arith, e, f);
      }

  pub asks : PlanAsks p (entry_desk time (reason_of packet) s)
  asks = ready p packet time w fits brought (all_start packet time w (entry_desk time (reason_of packet) s) refl refl matches) (room-all held space worded)

  -- ---- what it leaves

  abbrev sum : Sum
  sum = accepted d t

  pub sum_is : sum_plan d n p (length packet) room ≡ Ok sum
  unfolding sum_plan
  sum_is = summed.1.1

  module _ (k : Desk) (e : k ≡ performed p (entry_desk time (reason_of packet) s)) where
    now-held : HoldsAll (entry_desk time (reason_of packet) s) after k
    now-held = subst (HoldsAll (entry_desk time (reason_of packet) s) after) (sym e) held

    transaction-is : tied p.begin.transaction k.hand.written ≡ after.transaction
    transaction-is =
        let a = played-tied p packet time w in
        let m = now-held.memory in
        (λ i. tied_to p.begin.transaction (m.linked i) (m.link i)) ∙ sym a

    decoder-is : decoder_by d p sum k.hand ≡ decoder_of d d.finished after
    unfolding decoder_of
    decoder-is =
        let n : sum.counts ≡ counts_after d.counts after = sym (counts-after (world_has d s.devices s.table) (adds-shelf l adds)) in
        let m : sum.waiting ≡ waiting_of after = sym adds.waiting in
        let g = played-slot p packet time w in
        let v = played-event p packet time w in
        let a = played-keepalive p packet time w in
        let l = now-held.memory.last_item in
        let c : k.hand.written.stamp.time ≡ after.context.time = ap (λ (x : Stamp). x.time) (now-held.memory.stamp ∙ sym now-held.memory.context) in
        λ i. record { counts = n i; slot = sym g i; transaction = transaction-is i; last = l i; event = sym v i; keepalive = sym a i; waiting = m i; finished = d.finished; high = d.high; time = c i }

    few : after.count ≤ 128
    unfolding add_counts
    few = let e = adds.endpoints in let f = roomy.few_endpoints in omega (arith, e, f)

    table_is : TableOf after s.table k.table
    table_is =
        let a = now-held.table in
        record {
          size = a.size ∙ sym b.known.size;
          entries = now-held.memory.endpoints;
          words = a.stored;
          beyond = a.beyond;
          firsts = λ j. first-kept a few j;
        }

  -- ---- the devices

  owned : (i : ℕ) → i < w.count → (w.endpoints i).device < w.device_count
  owned i h = (well.endpoints i h).entry.device

  -- how many there are then: no more than fit
  many_are : after.device_count ≤ 64
  unfolding add_counts
  many_are = let e = adds.devices in let f = roomy.few_devices in omega (arith, e, f)

  -- the change that the code makes of it
  abbrev change : Change
  change = change_by d.high p d.counts.devices n.requests

  count-is : after.device_count ≡ w.device_count + one p.begin.device + one (p.closes && adds_device p.close.effect)
  count-is = played-device-count d.high packet time w

  placed_in : (change.place < after.device_count) × ((change.at < after.device_count) × (((reading_of d.high p).device < after.device_count) × ((reading_of d.high p).place < after.device_count)))
  placed_in = change_in d.high p d.counts.devices n.requests after.device_count some begun added kept asked
    where
      some : 0 < after.device_count
      some = let f = well.specials.some in let c = count-is in omega (arith, f, c)

      begun_by : (v : Bool) → p.begin.device ≡ v → changes p.begin ≡ true → p.begin.place < after.device_count
      begun_by true e h = let q = plan-behind w d.high packet e in let c = count-is ∙ ap (λ (z : Bool). w.device_count + one z + one (p.closes && adds_device p.close.effect)) e in omega (arith, q, c)
      begun_by false e h = let q = plan-place w (let f = three well in omega (arith, f)) owned d.high packet h e in let c = count-is in omega (arith, q, c)

      begun : changes p.begin ≡ true → p.begin.place < after.device_count
      begun h = begun_by p.begin.device refl h

      added : (p.closes && adds_device p.close.effect) ≡ true → d.counts.devices + one p.begin.device < after.device_count
      added h = let c = count-is ∙ ap (λ (z : Bool). w.device_count + one p.begin.device + one z) h in omega (arith, c)

      kept : p.end.entry.device < after.device_count
      kept = let q = plan-kept w (let f = three well in omega (arith, f)) owned packet (old_stands well) d.high in let c = count-is in omega (arith, q, c)

      asked : p.close.entry.device < after.device_count
      asked = let q = plan-asked w (let f = three well in omega (arith, f)) owned packet (old_stands well) d.high in let c = count-is in omega (arith, q, c)

  -- the row of a request that completes has room
  row_room : RoomIf (reading_of d.high p) n.requests s.logs.requests
  unfolding in_log add_counts room_by
  row_room q =
      let e = ap length (played-requests d.high packet time w ∙ ap (λ (c : Bool). pick c (request_words asked) []) q) in
      omega (arith, words 11, roomy.requests, e)
    where
      asked : Asked
      asked = asking p.begin.transaction.endpoint p.close.entry.setup (length_of p.close.effect) (note_by (asked_close d.high packet time w) w.shelf)

  pub change-placed : Placed change packet s.logs.requests
  change-placed =
      let m = many_are in
      let i = placed_in in
      record {
        place = let a = i.0 in omega (arith, a, m);
        at = let a = i.1.0 in omega (arith, a, m);
        device = let a = i.1.1.0 in omega (arith, a, m);
        owner = let a = i.1.1.1 in omega (arith, a, m);
        long = λ q. plan-long d.high packet w q;
        room = row_room;
      }

  inside : (m : ℕ) → m < 64 → m < length s.devices
  inside m h = let q = b.many in omega (arith, q, h)

  -- ---- what is read: as the rules have it, of the row that the device has when the packet's own transaction ends

  abbrev own : Device
  own = row_of d.high packet time lent

  own_is : is_asked p ≡ true → own_row change s.devices ≡ own
  own_is q =
      put_at change s.devices (reading_of d.high p).place (inside change.place change-placed.place)
      ∙ begun-told d.high p s.devices d.counts.devices n.requests (reading_of d.high p).place
      ∙ ap (λ (c : Bool). device_begun d.high packet time w (pick c p.close.entry.device 0)) q

  -- a part of it, which goes by the row only where a request completes
  read_as : {A : Type 0} (f : Device → A) (x : A) → pick (is_asked p) (f (own_row change s.devices)) x ≡ pick (is_asked p) (f own) x
  read_as f x = by (is_asked p) (λ q. own_is q)
    where
      by : (c : Bool) → (c ≡ true → own_row change s.devices ≡ own) → pick c (f (own_row change s.devices)) x ≡ pick c (f own) x
      by true h = ap f (h refl)
      by false h = refl

  -- with that row, by the plan on the lent shelf
  abbrev read : Shelved
  read = record { note = note_after (reading_of d.high (plan_of d.high packet lent)) own packet h; row = rowShelved (reading_of d.high (plan_of d.high packet lent)) own packet h }

  shelves : Shelves (reading_of d.high (plan_of d.high packet lent)) own packet h (shelf_after (reading_of d.high (plan_of d.high packet lent)) own packet h) read
  shelves = record { stored = refl; note = refl; row = refl }

  pub shelf-left : shelved change packet h s.devices ≡ (handle_raw_packet d.high packet time lent).shelf
  unfolding shelved
  shelf-left =
      read_as (λ e. shelf_by (asked_with (reading_of d.high p) e.kept e.chosen) (laid_shelf (reading_of d.high p) packet h)) (laid_shelf (reading_of d.high p) packet h)
      ∙ ap (λ (q : Plan). shelf_after (reading_of d.high q) own packet h) (sym same-lent)
      ∙ shelf-is d.high packet time lent (shelf_after (reading_of d.high (plan_of d.high packet lent)) own packet h) read shelves b.live

  requests_are : requested change packet h s.devices s.logs.requests ≡ sets s.logs.requests (n.requests * request_width) (log 11 after.journal)
  unfolding requested
  requests_are =
      ap (λ (m : ℕ). request_after (reading_of d.high p) n.requests m s.logs.requests) (read_as (λ e. note_by (asked_with (reading_of d.high p) e.kept e.chosen) (laid_shelf (reading_of d.high p) packet h)) 0)
      ∙ ap (λ (q : Plan). request_after (reading_of d.high q) n.requests (note_after (reading_of d.high q) own packet h) s.logs.requests) (sym same-lent)
      ∙ request-is d.high packet time lent (shelf_after (reading_of d.high (plan_of d.high packet lent)) own packet h) read shelves b.live refl s.logs.requests (n.requests * request_width)
      ∙ ap (λ (v : World). sets s.logs.requests (n.requests * request_width) (log 11 v.journal)) (packet-laden d.high packet time lent b.live)

  row-left : is_asked p ≡ true → rowShelved (reading_of d.high p) (own_row change s.devices) packet h ≡ row_asked p.close (device_begun d.high packet time w) w.shelf
  row-left q =
      ap (λ (e : Device). rowShelved (reading_of d.high p) e packet h) (own_is q)
      ∙ ap (λ (z : Plan). rowShelved (reading_of d.high z) own packet h) (sym same-lent)
      ∙ row_is d.high packet time lent (shelf_after (reading_of d.high (plan_of d.high packet lent)) own packet h) read shelves
      ∙ ap (λ (c : Bool). pick c (row_asked p.close (device_begun d.high packet time w) w.shelf) own) q

  devices_are : DevicesOf after s.devices (changed change packet h s.devices)
  devices_are =
      let v = s.devices in
      let i = placed_in in
      record {
        size = changed-length change packet h v;
        there = λ j u. change-told d.high p v d.counts.devices n.requests packet h (row_asked p.close (device_begun d.high packet time w) w.shelf) row-left j (inside change.place change-placed.place) (inside (reading_of d.high p).place change-placed.owner) (inside change.at change-placed.at) ∙ sym (played-devices d.high packet time w j);
        beyond = λ j u. changed_beyond change packet h v j (let a = i.0 in λ e. omega (arith, a, u, e)) (let a = i.1.1.1 in λ e. omega (arith, a, u, e)) (let a = i.1.0 in λ e. omega (arith, a, u, e));
      }

  -- ---- all of it

  module _ (k : Desk) (e : k ≡ performed p (entry_desk time (reason_of packet) s)) (y z : List ℕ) (f : y ≡ sets s.logs.bytes n.bytes packet) (g : z ≡ sets s.logs.packets (n.packets * packet_width) (d.counts.bytes ∷ time ∷ [])) where
    logs_are : Appends after n s.logs (logs y k.devices k.endpoints z s.logs.events k.transactions k.groups k.statebytes k.states k.items k.links (requested change packet h s.devices s.logs.requests))
    logs_are =
        let a = now-held k e in
        let m = a.memory in
        each-log _
        (f ∙ ap (sets s.logs.bytes n.bytes) (sym bytes_are) ∙ word_each s.logs.bytes (log 0 after.journal) n.bytes)
        (a.devices.written ∙ word_each s.logs.devices (log 1 after.journal) n.devices)
        a.endpoints.written
        (g ∙ ap (sets s.logs.packets (n.packets * packet_width)) (sym packets_are))
        (ap (sets s.logs.events (n.events * event_width)) (sym events_are))
        a.transactions.written
        m.groups.written
        (m.statebytes.written ∙ word_each s.logs.statebytes (log 7 after.journal) n.statebytes)
        (m.states.written ∙ word_each s.logs.states (log 8 after.journal) n.states)
        (m.items.written ∙ word_each s.logs.items (log 9 after.journal) n.items)
        m.links.written
        requests_are

    abbrev pub left-state : State
    left-state =
        state (decoder_by d p sum k.hand) (changed change packet h s.devices) k.table
        (logs y k.devices k.endpoints z s.logs.events k.transactions k.groups k.statebytes k.states k.items k.links (requested change packet h s.devices s.logs.requests))

    pub left : Left (handle_raw_packet d.high packet time lent) d.finished s left-state
    left =
        subst (λ (v : World). Left v d.finished s left-state) (sym (packet-laden d.high packet time lent b.live))
        (record { decoder = decoder-is k e; devices = devices_are; table = table_is k e; logs = logs_are })
