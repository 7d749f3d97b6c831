-- The answer of a packet, and the outcome with each: accepted, refused, and dropped (answer 8).
use mathlib.Core.Path.{◌≡◌, refl, sym, ap, subst, ◌∙◌}
use mathlib.Core.Bool.{Bool, true, false, not, cond, false≢true}
use mathlib.Core.List.{List, [], ◌∷◌, append-nil}
use Prim.Native.Nat.{ℕ, ◌+◌, ◌*◌, ◌/◌, ◌<◌, ◌≤◌}
use native.Mathlib.Omega.{arith}
use Rattle.std.specs.Prelude.{Result, Ok, Err}
use borrow.Author.Tests.{le-ltb}
use lib.ListN.{length, get_or}
use lib.Seq.{sets}
use Rattle.usb.specs.Packet.{reason_of}
use Rattle.rows.specs.Widths.{packet_width}
use Rattle.rows.proofs.WidthsLaws.{each-log}
use Rattle.transaction.specs.Payload.{start_pid}
use Rattle.endpoints.specs.Table.{entry_at}
use Rattle.endpoints.specs.Word as word
use Rattle.details.specs.declared.Device.{Device}
use Rattle.rules.specs.Rows.{log}
use Rattle.rules.specs.World.{World, stamp, with_shelf, with_slot, waiting_of}
use Rattle.rules.specs.Transactions.{is_dropped}
use Rattle.rules.specs.declared.EventState.TheVariants.{Idle}
use Rattle.rules.specs.declared.Slot.TheVariants.{Empty}
use Rattle.update.specs.Update.{when}
use Rattle.tally.specs.Tally.{Adds}
use Rattle.tally.specs.declared.add.Tally.{Tally}
use Rattle.tally.proofs.Added.{adds_none}
use Rattle.tally.proofs.Steps.{packet-adds}
use Rattle.record.specs.Answers.{first_of, packet_tests}
use Rattle.record.proofs.FormedLaws.{WellFormed}
use Rattle.record.specs.declared.Counts.{Counts}
use Rattle.record.specs.declared.Decoder.{Decoder}
use Rattle.plan.specs.Packet.{kept, plan_of}
use Rattle.plan.specs.declared.Plan.{Plan}
use Rattle.plan.proofs.Packet.{plan-shelf, packet-laden, dropped-is, plan-reason}
use Rattle.plan.specs.Packet.{with_packet}
use Rattle.plan.specs.Words.{plan_words}
use Rattle.call.specs.Outcome.{Answers, Left, counts_after, decoder_of, is_ill, is_full, is_over, accepts, world_at}
use Rattle.call.proofs.OutcomeLaws.{sound, refused, accepted}
use Rattle.call.proofs.StateLaws.{word_each}
use Rattle.call.specs.State.{Logs, State, logs, state, held_at, room_by, room_of}
use Rattle.call.specs.Share.{Known}
use Rattle.tally.specs.Passes.{plan_passes}
use Rattle.tally.specs.Suited.{Totalled}
use Rattle.tally.specs.Tallies.{add_counts, room_for}
use Rattle.tally.proofs.Counted.{same-adds, adds-shelf}
use Rattle.tally.proofs.Counts.{counts-after, world_has, state-full}
use Rattle.tally.proofs.Formed.{waiting-is, packet-full-is, packet-over-is}
use Rattle.tally.proofs.Least.{tally-words, passes-words}
use Rattle.tally.proofs.Totals.{totalled-over}
use Rattle.write_packet.specs.Asked.{PlanAsks}
use Rattle.write_packet.specs.Desk.{Desk, desk, performed}
use Rattle.write_packet.specs.declared.Hand.{Hand}
use Rattle.packet.specs.After.{refusal, answer_in, sum_by, sum_of, sum_plan, sum_dropped, tally_of, tally_dropped, hand_of, dropped_decoder, decoder_by, keeping, change_by, is_change, changed, shelved, requested, Placed}
use Rattle.packet.specs.After as after
use Rattle.packet.specs.Call.{tests_of, PacketCall, after as after_call}
use Rattle.packet.specs.Dropped as dropping
use Rattle.packet.specs.Dropped.{answer_of, left_of, is_room, Drops}
use Rattle.packet.specs.declared.change.Change.{Change}
use Rattle.packet.specs.declared.inner.Inner.{Inner}
use Rattle.packet.specs.declared.sum.Refusal.{Refusal}
use Rattle.packet.specs.declared.sum.Refusal.TheVariants.{NoRoom, Total}
use Rattle.packet.specs.declared.sum.Sum.{Sum}
use Rattle.packet.proofs.Changes.{changed-none, shelved-none, requested-none}
use Rattle.packet.proofs.Left.{Begins, entry_desk, same, bytes_fit, packets_fit, in_words, asks, change-placed, shelf-left, sum_is, left-state, left}

-- ---- the answer, once the first tests are passed

answer_by : (full over dropped : Bool) (len : ℕ) → len ≤ 4096 → first_of (packet_tests false false len full over dropped) ≡ cond full 7 (cond over 9 (cond dropped 8 0))
unfolding first_of
answer_by full over dropped len h = let e = le-ltb 4096 len h in rw e

-- the world with the packet's payload on the shelf
abbrev pub laden : List ℕ → State → List ℕ → World
laden packet s shelf = let w = with_shelf shelf (world_at s) in kept s.decoder.high (plan_of s.decoder.high packet w) packet w

-- logs with another log of requests
abbrev pub with_requests : List ℕ → Logs → Logs
with_requests q l = logs l.bytes l.devices l.endpoints l.packets l.events l.transactions l.groups l.statebytes l.states l.items l.links q

-- what the public call tests
pub record Passes (packet : List ℕ) (s : State) : Type 0 where
  pub ill : is_ill s ≡ false
  pub finished : s.decoder.finished ≡ false
  pub short : length packet ≤ 4096

module _ (packet : List ℕ) (time : ℕ) (s : State) (shelf : List ℕ) (h : Passes packet s) where
  answer-is : first_of (tests_of packet time s shelf)
      ≡ cond (is_full s (after_call packet time s shelf)) 7 (cond (is_over (after_call packet time s shelf)) 9 (cond (is_dropped s.decoder.slot s.decoder.transaction) 8 0))
  answer-is =
      ap (λ (i : Bool). first_of (packet_tests i s.decoder.finished (length packet) (is_full s (after_call packet time s shelf)) (is_over (after_call packet time s shelf)) (is_dropped s.decoder.slot s.decoder.transaction))) h.ill
      ∙ (ap (λ (f : Bool). first_of (packet_tests false f (length packet) (is_full s (after_call packet time s shelf)) (is_over (after_call packet time s shelf)) (is_dropped s.decoder.slot s.decoder.transaction))) h.finished
      ∙ answer_by _ _ _ (length packet) h.short)

  well : WellFormed s.decoder s.devices s.table (room_of s.logs)
  well = (sound s h.ill).0

-- a table's totals are words
totalled : (s : State) (shelf : List ℕ) → Known s.table → Totalled (with_shelf shelf (world_at s))
unfolding entry_at
totalled s shelf k i h = let e = k.words (i * word.width + word.total) in omega (arith, e)

-- ---- a packet that is not dropped

module _ (packet : List ℕ) (time : ℕ) (s : State) (shelf : List ℕ) (h : Passes packet s) (known : Known s.table) (live : is_dropped s.decoder.slot s.decoder.transaction ≡ false) where
  -- the plan, on the world that has the packet's payload on the shelf
  abbrev p : Plan
  p = plan_of s.decoder.high packet (laden packet s shelf)

  full_is : is_full s (after_call packet time s shelf) ≡ not (room_for (held_at s) s.decoder.counts (tally_of s.decoder p (length packet)) (room_of s.logs))
  full_is = ap (is_full s) (packet-laden s.decoder.high packet time (with_shelf shelf (world_at s)) live) ∙ packet-full-is s.decoder.high packet time (laden packet s shelf).shelf s (room_of s.logs) (well packet time s shelf h)

  over-is : is_over (after_call packet time s shelf) ≡ plan_passes p
  over-is = ap is_over (packet-laden s.decoder.high packet time (with_shelf shelf (world_at s)) live) ∙ packet-over-is s.decoder.high packet time (laden packet s shelf).shelf s (room_of s.logs) (well packet time s shelf h) (totalled s (laden packet s shelf).shelf known)

  -- the sum's answer is the call's
  sum-answer : answer_in (sum_plan s.decoder (held_at s) p (length packet) (room_of s.logs)) ≡ first_of (tests_of packet time s shelf)
  unfolding sum_plan
  sum-answer = by (room_for (held_at s) s.decoder.counts (tally_of s.decoder p (length packet)) (room_of s.logs)) (plan_passes p) full_is over-is ∙ sym (answer-is packet time s shelf h)
    where
      by : (a o : Bool) {full over : Bool} → full ≡ not a → over ≡ o → answer_in (sum_by a o s.decoder (tally_of s.decoder p (length packet))) ≡ cond full 7 (cond over 9 (cond (is_dropped s.decoder.slot s.decoder.transaction) 8 0))
      by true true e f = rw (e, f)
      by true false e f = rw (e, f, live)
      by false o e f = rw e

  -- a refused call leaves all as it was
  pub refused-call : (a : ℕ) → a ≡ answer_in (sum_plan s.decoder (held_at s) p (length packet) (room_of s.logs)) → accepts a ≡ false → PacketCall packet time s shelf a s shelf
  refused-call a e r = record { answers = refused a (e ∙ sum-answer) r; shelf = ap (λ (c : Bool). cond c (after_call packet time s shelf).shelf shelf) (sym r) }

  pub accepted-call : (b : Begins packet s) (k : Desk) (e : k ≡ performed p (entry_desk time (reason_of packet) s)) (y z : List ℕ) (f : y ≡ sets s.logs.bytes (held_at s).bytes packet) (g : z ≡ sets s.logs.packets ((held_at s).packets * packet_width) (s.decoder.counts.bytes ∷ time ∷ []))
      → PacketCall packet time s shelf 0 (left-state packet time s shelf b k e y z f g) (shelved (change_by s.decoder.high p s.decoder.counts.devices (held_at s).requests) packet shelf s.devices)
  accepted-call b k e y z f g =
      record {
        answers = accepted 0 (sym (ap (λ (q : Plan). answer_in (sum_plan s.decoder (held_at s) q (length packet) (room_of s.logs))) (same packet time s shelf b) ∙ b.sum) ∙ sum-answer) refl (left packet time s shelf b k e y z f g);
        shelf = shelf-left packet time s shelf b;
      }

-- the same with what is the caller's replaced by what equals it
pub with_parts : (packet : List ℕ) (time : ℕ) (s : State) (shelf : List ℕ) {a : ℕ} {s' : State} {h' : List ℕ} {v : List Device} {q h : List ℕ} → v ≡ s'.devices → q ≡ s'.logs.requests → h ≡ h'
    → PacketCall packet time s shelf a s' h' → PacketCall packet time s shelf a (state s'.decoder v s'.table (with_requests q s'.logs)) h
with_parts packet time s shelf {a} {s'} {h'} {v} {q} {h} e f g r =
    subst (λ (u : List Device). PacketCall packet time s shelf a (state s'.decoder u s'.table (with_requests q s'.logs)) h) (sym e)
    (subst (λ (u : List ℕ). PacketCall packet time s shelf a (state s'.decoder s'.devices s'.table (with_requests u s'.logs)) h) (sym f)
    (subst (λ (u : List ℕ). PacketCall packet time s shelf a s' u) (sym g) r))

-- where nothing of it changes
pub unchanged : (packet : List ℕ) (time : ℕ) (s : State) (shelf : List ℕ) {a : ℕ} (x : Decoder) (t : List ℕ) (l : Logs) (c : Change) → is_change c ≡ false
    → PacketCall packet time s shelf a (state x s.devices t (with_requests s.logs.requests l)) shelf
    → PacketCall packet time s shelf a (state x (changed c packet shelf s.devices) t (with_requests (requested c packet shelf s.devices s.logs.requests) l)) (shelved c packet shelf s.devices)
unchanged packet time s shelf x t l c h r =
    with_parts packet time s shelf (changed-none c packet shelf s.devices h) (requested-none c packet shelf s.devices h s.logs.requests) (shelved-none c packet shelf s.devices h) r

-- a refusal is no answer of a packet that is accepted
not-accepted : (r : Refusal) → accepts (refusal r) ≡ false
not-accepted NoRoom = refl
not-accepted Total = refl

-- what an accepted sum is
abbrev sum_or : Sum → Result Sum Refusal → Sum
sum_or s (Ok z) = z
sum_or s (Err r) = s

-- ---- the same, of what the code has: each part with its equation

pub none-placed : {c : Change} (packet requests : List ℕ) → c ≡ keeping → Placed c packet requests
none-placed packet requests e = subst (λ (c : Change). Placed c packet requests) (sym e) (record { place = omega arith; at = omega arith; device = omega arith; owner = omega arith; long = λ q. absurd (false≢true q); room = λ q. absurd (false≢true q) })

-- the desk at the call's entry, with this hand
abbrev pub desk_by : Hand → State → Desk
desk_by h s =
    desk h s.table s.logs.devices s.logs.endpoints s.logs.transactions s.logs.groups s.logs.statebytes s.logs.states s.logs.items s.logs.links

pub record Decided (packet : List ℕ) (s : State) (p : Plan) (h n : Counts) (z : Result Sum Refusal) : Type 0 where
  pub passes : Passes packet s
  pub known : Known s.table
  pub live : is_dropped s.decoder.slot s.decoder.transaction ≡ false
  pub many : length s.devices ≡ 64
  pub token : start_pid s.decoder.transaction.style < 256
  pub first : get_or packet 0 0 < 256
  -- the plan, which the code may have made in words
  pub words : Bool
  pub plan : p ≡ when words plan_words (plan_of s.decoder.high packet (world_at s))
  pub rows : h ≡ held_at s
  pub room : n ≡ room_of s.logs
  pub sum : z ≡ sum_plan s.decoder h p (length packet) n

-- a plan in words has the sum of the plan
sum-words : (b : Bool) (d : Decoder) (held : Counts) (p : Plan) (len : ℕ) (room : Counts) → sum_plan d held (when b plan_words p) len room ≡ sum_plan d held p len room
unfolding sum_plan
sum-words true d held p len room = λ i. sum_of (passes-words p i) d held (tally-words p len d.counts.endpoints d.waiting i) room
sum-words false d held p len room = refl

module _ (packet : List ℕ) (time : ℕ) (s : State) {plan : Plan} {rows room : Counts} {sum : Result Sum Refusal} (q : Decided packet s plan rows room sum) where
  sum_at : sum ≡ sum_plan s.decoder (held_at s) (plan_of s.decoder.high packet (world_at s)) (length packet) (room_of s.logs)
  sum_at = q.sum ∙ ((λ i. sum_plan s.decoder (q.rows i) (q.plan i) (length packet) (q.room i)) ∙ sum-words q.words s.decoder (held_at s) (plan_of s.decoder.high packet (world_at s)) (length packet) (room_of s.logs))

  -- the plan does not go by the shelf
  sum-laden : (shelf : List ℕ) → sum ≡ sum_plan s.decoder (held_at s) (plan_of s.decoder.high packet (laden packet s shelf)) (length packet) (room_of s.logs)
  sum-laden shelf = sum_at ∙ ap (λ (x : Plan). sum_plan s.decoder (held_at s) x (length packet) (room_of s.logs)) (sym (plan-shelf s.decoder.high packet (laden packet s shelf).shelf (world_at s)))

  pub refused_by : {r : Refusal} → sum ≡ Err r → {c : Change} → c ≡ keeping → {x : Inner} → x ≡ dropping.refused r s.decoder c → (shelf : List ℕ)
      → PacketCall packet time s shelf x.answer (state x.decoder (changed x.change packet shelf s.devices) s.table (with_requests (requested x.change packet shelf s.devices s.logs.requests) s.logs)) (shelved x.change packet shelf s.devices)
  refused_by {r} bad {c} e f shelf =
      subst (λ (y : Inner). PacketCall packet time s shelf y.answer (state y.decoder (changed y.change packet shelf s.devices) s.table (with_requests (requested y.change packet shelf s.devices s.logs.requests) s.logs)) (shelved y.change packet shelf s.devices)) (sym f)
      (unchanged packet time s shelf s.decoder s.table s.logs c (ap is_change e)
      (refused-call packet time s shelf q.passes q.known q.live (refusal r) (ap answer_in (sym bad ∙ sum-laden shelf)) (not-accepted r)))

  module _ {z : Sum} (ok : sum ≡ Ok z) where
    begins : Begins packet s
    begins =
        record { ill = q.passes.ill; live = q.live; known = q.known; many = q.many; token = q.token; first = q.first; sum = ap answer_in (sym sum_at ∙ ok) }

    -- there is room, so the plan's numbers are words
    plan-is : (shelf : List ℕ) → plan ≡ plan_of s.decoder.high packet (laden packet s shelf)
    plan-is shelf = q.plan ∙ ap (when q.words plan_words) (sym (same packet time s shelf begins)) ∙ by q.words
      where
        by : (b : Bool) → when b plan_words (plan_of s.decoder.high packet (laden packet s shelf)) ≡ plan_of s.decoder.high packet (laden packet s shelf)
        by true = in_words packet time s shelf begins
        by false = refl

    reason-is : plan.reason ≡ reason_of packet
    reason-is = ap (λ (x : Plan). x.reason) (plan-is []) ∙ plan-reason s.decoder.high packet (laden packet s [])

    pub rows_fit : (rows.bytes + length packet ≤ length s.logs.bytes) × ((rows.packets + 1) * packet_width ≤ length s.logs.packets)
    rows_fit =
        subst (λ (h : Counts). (h.bytes + length packet ≤ length s.logs.bytes) × ((h.packets + 1) * packet_width ≤ length s.logs.packets)) (sym q.rows)
        (bytes_fit packet time s [] begins, packets_fit packet time s [] begins)

    pub few-devices : s.decoder.counts.devices ≤ 64
    few-devices = (well packet time s [] q.passes).counts.few_devices

    pub asks_by : {h : Hand} → h ≡ hand_of time plan.reason s.decoder rows s.table → PlanAsks plan (desk_by h s)
    asks_by {h} e =
        subst (λ (x : Plan). PlanAsks x (desk_by h s)) (sym (plan-is []))
        (subst (λ (x : Hand). PlanAsks (plan_of s.decoder.high packet (laden packet s [])) (desk_by x s)) (sym (e ∙ λ i. hand_of time (reason-is i) s.decoder (q.rows i) s.table)) (asks packet time s [] begins))

    -- the change, as the rules have it
    change-is : (shelf : List ℕ) {c : Change} → c ≡ change_by s.decoder.high plan s.decoder.counts.devices rows.requests → c ≡ change_by s.decoder.high (plan_of s.decoder.high packet (laden packet s shelf)) s.decoder.counts.devices (held_at s).requests
    change-is shelf e = e ∙ λ i. change_by s.decoder.high (plan-is shelf i) s.decoder.counts.devices (q.rows i).requests

    pub placed_by : {c : Change} → c ≡ change_by s.decoder.high plan s.decoder.counts.devices rows.requests → Placed c packet s.logs.requests
    placed_by e = subst (λ (c : Change). Placed c packet s.logs.requests) (sym (change-is [] e)) (change-placed packet time s [] begins)

    sum-is : (shelf : List ℕ) → z ≡ after.accepted s.decoder (tally_of s.decoder (plan_of s.decoder.high packet (laden packet s shelf)) (length packet))
    sum-is shelf = ap (sum_or z) (sym ok ∙ (sum-laden shelf ∙ sum_is packet time s shelf begins))

    pub accepted-by : {h : Hand} {k : Desk} {x : Decoder} {c : Change} {y m : List ℕ} → h ≡ hand_of time plan.reason s.decoder rows s.table → k ≡ performed plan (desk_by h s)
        → y ≡ sets s.logs.bytes rows.bytes packet → m ≡ sets s.logs.packets (rows.packets * packet_width) (s.decoder.counts.bytes ∷ time ∷ [])
        → x ≡ decoder_by s.decoder plan z k.hand → c ≡ change_by s.decoder.high plan s.decoder.counts.devices rows.requests → (shelf : List ℕ)
        → PacketCall packet time s shelf 0 (state x (changed c packet shelf s.devices) k.table (logs y k.devices k.endpoints m s.logs.events k.transactions k.groups k.statebytes k.states k.items k.links (requested c packet shelf s.devices s.logs.requests))) (shelved c packet shelf s.devices)
    accepted-by {h} {k} {x} {c} {y} {m} e1 e2 f g e3 e4 shelf =
        let p = plan_of s.decoder.high packet (laden packet s shelf) in
        let k1 : k ≡ performed p (entry_desk time (reason_of packet) s) = e2 ∙ λ i. performed (plan-is shelf i) (desk_by ((e1 ∙ λ j. hand_of time (reason-is j) s.decoder (q.rows j) s.table) i) s) in
        let y1 = f ∙ ap (λ (a : Counts). sets s.logs.bytes a.bytes packet) q.rows in
        let z1 = g ∙ ap (λ (a : Counts). sets s.logs.packets (a.packets * packet_width) (s.decoder.counts.bytes ∷ time ∷ [])) q.rows in
        let x1 : x ≡ decoder_by s.decoder p (after.accepted s.decoder (tally_of s.decoder p (length packet))) k.hand = e3 ∙ λ i. decoder_by s.decoder (plan-is shelf i) (sum-is shelf i) k.hand in
        subst (λ (a : Decoder). PacketCall packet time s shelf 0 (state a (changed c packet shelf s.devices) k.table (logs y k.devices k.endpoints m s.logs.events k.transactions k.groups k.statebytes k.states k.items k.links (requested c packet shelf s.devices s.logs.requests))) (shelved c packet shelf s.devices)) (sym x1)
        (subst (λ (a : Change). PacketCall packet time s shelf 0 (state (decoder_by s.decoder p (after.accepted s.decoder (tally_of s.decoder p (length packet))) k.hand) (changed a packet shelf s.devices) k.table (logs y k.devices k.endpoints m s.logs.events k.transactions k.groups k.statebytes k.states k.items k.links (requested a packet shelf s.devices s.logs.requests))) (shelved a packet shelf s.devices)) (sym (change-is shelf e4))
        (accepted-call packet time s shelf q.passes q.known q.live begins k k1 y m y1 z1))

-- ---- a packet that drops the suspended transaction

module _ (packet : List ℕ) (time : ℕ) (s : State) (shelf : List ℕ) (h : Passes packet s) (known : Known s.table) (dropped : is_dropped s.decoder.slot s.decoder.transaction ≡ true) where
  abbrev d : Decoder
  d = s.decoder

  abbrev world : World
  world = with_slot Empty (with_packet packet time (with_shelf shelf (world_at s)))

  world_is : after_call packet time s shelf ≡ world
  world_is = dropped-is s.decoder.high packet time (with_shelf shelf (world_at s)) dropped

  abbrev t : Tally
  t = tally_dropped d (length packet)

  adds : Adds t (world_at s) world
  adds =
      subst (λ (m : ℕ). Adds (after.tally_of_dropped m (length packet)) (world_at s) world) (waiting-is (well packet time s shelf h))
      (adds-shelf shelf (same-adds Empty d.transaction Idle d.keepalive _ (world_at s).devices (packet-adds (same-adds d.slot d.transaction Idle d.keepalive (stamp d.counts.packets time (reason_of packet)) (world_at s).devices (adds_none (with_shelf shelf (world_at s)))) packet time)))

  over_none : is_over world ≡ false
  over_none = totalled-over world (totalled s shelf known)

  sum-by : (fits : Bool) → room_for (held_at s) d.counts t (room_of s.logs) ≡ fits
      → first_of (tests_of packet time s shelf) ≡ cond fits 8 7
  sum-by fits e =
      answer-is packet time s shelf h
      ∙ (ap (λ (v : World). cond (is_full s v) 7 (cond (is_over v) 9 (cond (is_dropped d.slot d.transaction) 8 0))) world_is
      ∙ (ap (λ (f : Bool). cond f 7 (cond (is_over world) 9 (cond (is_dropped d.slot d.transaction) 8 0))) (state-full s (well packet time s shelf h).begun adds ∙ ap not e)
      ∙ (ap (λ (o : Bool). cond (not fits) 7 (cond o 9 (cond (is_dropped d.slot d.transaction) 8 0))) over_none
      ∙ (ap (λ (o : Bool). cond (not fits) 7 (cond o 8 0)) dropped ∙ turn fits))))
    where
      turn : (f : Bool) → ◌≡◌ {A = ℕ} (cond (not f) 7 8) (cond f 8 7)
      turn true = refl
      turn false = refl

  left-dropped : room_for (held_at s) d.counts t (room_of s.logs) ≡ true → (y z : List ℕ) → y ≡ sets s.logs.bytes (held_at s).bytes packet → z ≡ sets s.logs.packets ((held_at s).packets * packet_width) (d.counts.bytes ∷ time ∷ [])
      → Left world d.finished s (state (dropped_decoder d time (after.accepted d t)) s.devices s.table (logs y s.logs.devices s.logs.endpoints z s.logs.events s.logs.transactions s.logs.groups s.logs.statebytes s.logs.states s.logs.items s.logs.links s.logs.requests))
  unfolding decoder_of
  left-dropped e y z f g =
      let n : add_counts d.counts t ≡ counts_after d.counts world = sym (counts-after (world_has d s.devices s.table) adds) in
      let m : t.waiting ≡ waiting_of world = sym adds.waiting in
      record {
        decoder = λ i. record { counts = n i; slot = Empty; transaction = d.transaction; last = d.last; event = Idle; keepalive = d.keepalive; waiting = m i; finished = d.finished; high = d.high; time = time };
        devices = record { size = refl; there = λ i u. refl; beyond = λ i u. refl };
        table = record { size = refl; entries = λ i u. refl; words = λ i u. ((well packet time s shelf h).endpoints i u).words; beyond = λ i u. refl; firsts = λ k. refl };
        logs =
            each-log _
            (f ∙ ap (sets s.logs.bytes (held_at s).bytes) (sym (append-nil packet)) ∙ word_each s.logs.bytes (log 0 world.journal) (held_at s).bytes)
            refl refl g refl refl refl refl refl refl refl refl;
      }

  dropped_sum : (b : Bool) → room_for (held_at s) d.counts t (room_of s.logs) ≡ b → sum_dropped d (held_at s) (length packet) (room_of s.logs) ≡ sum_by b false d t
  unfolding sum_dropped
  dropped_sum b e = ap (λ (c : Bool). sum_by c false d t) e

  -- the state with these three parts changed
  abbrev state_by : Decoder → List ℕ → List ℕ → State
  state_by x y z = state x s.devices s.table (logs y s.logs.devices s.logs.endpoints z s.logs.events s.logs.transactions s.logs.groups s.logs.statebytes s.logs.states s.logs.items s.logs.links s.logs.requests)

  pub dropped-call : (r : Inner) (y z : List ℕ) → Drops d (held_at s) keeping packet time (room_of s.logs) s.logs.bytes s.logs.packets r y z
      → PacketCall packet time s shelf r.answer (state_by r.decoder y z) shelf
  dropped-call r y z q = by (room_for (held_at s) d.counts t (room_of s.logs)) refl
    where
      by : (b : Bool) → room_for (held_at s) d.counts t (room_of s.logs) ≡ b → PacketCall packet time s shelf r.answer (state_by r.decoder y z) shelf
      by true e =
          let q1 = dropped_sum true e in
          let a : r.answer ≡ 8 = q.answer ∙ ap answer_of q1 in
          let c : r.decoder ≡ dropped_decoder d time (after.accepted d t) = q.decoder ∙ ap (left_of d time) q1 in
          let u = q.bytes ∙ ap (λ (z : Result Sum Refusal). cond (is_room z) (sets s.logs.bytes (held_at s).bytes packet) s.logs.bytes) q1 in
          let v = q.packets ∙ ap (λ (z : Result Sum Refusal). cond (is_room z) (sets s.logs.packets ((held_at s).packets * packet_width) (d.counts.bytes ∷ time ∷ [])) s.logs.packets) q1 in
          record {
            answers =
                accepted r.answer (a ∙ sym (sum-by true e)) (ap accepts a)
                (subst (λ (x : Decoder). Left (after_call packet time s shelf) d.finished s (state_by x y z)) (sym c)
                (subst (λ (x : World). Left x d.finished s (state_by (dropped_decoder d time (after.accepted d t)) y z)) (sym world_is) (left-dropped e y z u v)));
            shelf = sym (ap (λ (n : ℕ). cond (accepts n) (after_call packet time s shelf).shelf shelf) a ∙ ap (λ (x : World). x.shelf) world_is);
          }
      by false e =
          let q1 = dropped_sum false e in
          let a : r.answer ≡ 7 = q.answer ∙ ap answer_of q1 in
          let c : r.decoder ≡ d = q.decoder ∙ ap (left_of d time) q1 in
          let u = q.bytes ∙ ap (λ (z : Result Sum Refusal). cond (is_room z) (sets s.logs.bytes (held_at s).bytes packet) s.logs.bytes) q1 in
          let v = q.packets ∙ ap (λ (z : Result Sum Refusal). cond (is_room z) (sets s.logs.packets ((held_at s).packets * packet_width) (d.counts.bytes ∷ time ∷ [])) s.logs.packets) q1 in
          record {
            answers = subst (λ (x : State). Answers (tests_of packet time s shelf) (after_call packet time s shelf) d.finished s r.answer x) (λ i. state_by (sym c i) (sym u i) (sym v i)) (refused r.answer (a ∙ sym (sum-by false e)) (ap accepts a));
            shelf = sym (ap (λ (n : ℕ). cond (accepts n) (after_call packet time s shelf).shelf shelf) a);
          }

  pub dropped_by : {none : Change} {rows room : Counts} (r : Inner) (y z : List ℕ) → none ≡ keeping → rows ≡ held_at s → room ≡ room_of s.logs → Drops d rows none packet time room s.logs.bytes s.logs.packets r y z
      → PacketCall packet time s shelf r.answer (state r.decoder (changed r.change packet shelf s.devices) s.table (with_requests (requested r.change packet shelf s.devices s.logs.requests) (state_by r.decoder y z).logs)) (shelved r.change packet shelf s.devices)
  dropped_by {none} {rows} {room} r y z e g f q =
      unchanged packet time s shelf r.decoder s.table (state_by r.decoder y z).logs r.change (ap is_change (q.change ∙ e))
      (dropped-call r y z
      (subst (λ (c : Change). Drops d (held_at s) c packet time (room_of s.logs) s.logs.bytes s.logs.packets r y z) e
      (subst (λ (n : Counts). Drops d (held_at s) none packet time n s.logs.bytes s.logs.packets r y z) f
      (subst (λ (h : Counts). Drops d h none packet time room s.logs.bytes s.logs.packets r y z) g q))))

-- the room of the two logs that a packet's own rows go to
pub room-rows : (s : State) {room : Counts} → room ≡ room_of s.logs → (room.bytes ≤ length s.logs.bytes) × (room.packets * packet_width ≤ length s.logs.packets)
unfolding room_by
room-rows s {room} e =
    let a : room.bytes ≡ length s.logs.bytes = ap (λ (n : Counts). n.bytes) e in
    let b : room.packets ≡ length s.logs.packets / 2 = ap (λ (n : Counts). n.packets) e in
    (omega (arith, a), omega (arith, b))
