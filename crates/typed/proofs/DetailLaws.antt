-- Laws (proved): the detail call, over plain values: its outcome from the tests in their order, that any two outcomes coincide, and that none spoils the
-- record.
use Rattle.std.specs.Prelude.{ℕ, zero, suc, ◌+◌, ◌<◌, ◌≡◌, Bool, cond, ◌&&◌, ◌||◌, List, [], ◌∷◌, eqb, ltb, get_or, set, Option, Some, None}
use Rattle.std.proofs.Common.{arith, sym, ◌∙◌, ltb-false, eqb-true}
use Rattle.std.proofs.Math.Path.{refl, ap}
use Rattle.std.proofs.Math.Bool.{true, false, not}
use Rattle.std.proofs.lemmas.Bool.{eqb-false}
use Rattle.std.proofs.Math.ListN.{length-set}
use Rattle.std.proofs.Math.Seq.{get_or-set_other}
use Rattle.usb.specs.Types.{Control}
use Rattle.transaction.specs.Table.{pick}
use Rattle.details.specs.Details.{wrong, with_detail}
use Rattle.details.specs.Lookup.{detail_answer, is_device, found_device}
use Rattle.details.proofs.DetailsLaws.{detail-kept}
use Rattle.details.specs.Search.{blank}
use Rattle.details.proofs.SearchLaws.{last-is}
use Rattle.details.specs.declared.Device.{Device}
use Rattle.rules.specs.Decoder.{handle_detail}
use Rattle.rules.specs.Endpoints.{device_for, detailed}
use Rattle.rules.specs.World.{with_devices, change_device}
use Rattle.record.specs.Answers.{first_of, missing, detail_tests}
use Rattle.record.proofs.AnswersLaws.{accepted as first-accepted, detail-tests}
use Rattle.record.specs.Bools.{neither, nor}
use Rattle.record.specs.Formed.{well_formed}
use Rattle.record.proofs.FormedLaws.{well-formed}
use Rattle.record.specs.Room.{long}
use Rattle.record.specs.RoomLaws.{long-short}
use Rattle.record.specs.declared.Counts.{Counts}
use Rattle.record.specs.declared.Decoder.{Decoder}
use Rattle.call.specs.Outcome.{is_ill, counts_after, decoder_of, TableOf, Left, accepts, world_at}
use Rattle.call.proofs.OutcomeLaws.{unique, same_left, refused, accepted, sound, sound_by, ill_by, waiting-entries}
use Rattle.call.specs.State.{State, state, room_of}
use Rattle.typed.specs.Detail.{Details}
use Rattle.typed.specs.Judges.{Judges}

-- 01: "any two permitted outcomes coincide"
pub detail_unique : (address number direction kind max : ℕ) (s : State) (a b : ℕ) (s' s'' : State)
    → Details address number direction kind max s a s' → Details address number direction kind max s b s'' → (a ≡ b) × (s' ≡ s'')
unfolding Details
detail_unique address number direction kind max s a b s' s'' x y = unique x y

-- ---- one device changed

-- what stands at a place after a change there, past the end too if the change leaves what is read there
set-changed : (l : List Device) (i : ℕ) (f : Device → Device) → f blank ≡ blank → get_or (set l i (f (get_or l i blank))) i blank ≡ f (get_or l i blank)
set-changed [] i f h = sym h
set-changed (x ∷ l) zero f h = refl
set-changed (x ∷ l) (suc i) f h = set-changed l i f h

blank-stays : (number direction kind max : ℕ) → with_detail blank number direction kind max ≡ blank
unfolding with_detail
blank-stays number direction kind max = refl

module _ (number direction kind max : ℕ) where
  -- the devices with that detail on the device at a place
  abbrev pub changed : List Device → ℕ → List Device
  changed v at = set v at (with_detail (get_or v at blank) number direction kind max)

  changed_at : (v : List Device) (at i : ℕ) → get_or (changed v at) i blank ≡ pick (eqb i at) (with_detail (get_or v i blank) number direction kind max) (get_or v i blank)
  changed_at v at i = by (eqb i at) refl
    where
      by : (b : Bool) → eqb i at ≡ b → get_or (changed v at) i blank ≡ pick b (with_detail (get_or v i blank) number direction kind max) (get_or v i blank)
      by true e = let q = eqb-true i at e in rw q (set-changed v at (detailed number direction kind max) (blank-stays number direction kind max))
      by false e = get_or-set_other v at i _ blank (eqb-false i at e)

-- ---- what is left where only devices change

-- no row is appended, so the record is as it was
same-decoder : (s : State) (f : ℕ → Device) → is_ill s ≡ false → s.decoder ≡ decoder_of s.decoder s.decoder.finished (with_devices f (world_at s))
unfolding decoder_of counts_after
same-decoder s f h =
    let d = s.decoder in
    let n = d.counts in
    λ i. record {
      counts = record {
        bytes = n.bytes;
        devices = n.devices;
        endpoints = n.endpoints;
        packets = n.packets;
        events = none n.events i;
        transactions = n.transactions;
        groups = n.groups;
        statebytes = n.statebytes;
        states = none n.states i;
        items = n.items;
        links = none n.links i;
        requests = none n.requests i;
      };
      slot = d.slot;
      transaction = d.transaction;
      last = d.last;
      event = d.event;
      keepalive = d.keepalive;
      waiting = ((sound s h).0.waiting ∙ waiting-entries s.table n.endpoints) i;
      finished = d.finished;
      high = d.high;
      time = d.time;
    }
  where
    none : (m : ℕ) → m ≡ m + 0
    none m = omega arith

same-table : (s : State) (f : ℕ → Device) → is_ill s ≡ false → TableOf (with_devices f (world_at s)) s.table s.table
same-table s f h = record { size = refl; entries = λ i u. refl; words = λ i u. ((sound s h).0.endpoints i u).words; beyond = λ i u. refl; firsts = λ k. refl }

-- ---- the outcome, by the tests in their order

-- the search of the code is that of the rules
device-found : (s : State) (address : ℕ) → found_device s.devices s.decoder.counts.devices address ≡ device_for address (world_at s)
unfolding found_device
device-found s address = refl

-- the verdict of the code, on the room of the lent logs, is that of the state
pub judged_at : (s : State) (address number direction kind : ℕ) (room : Counts) → room ≡ room_of s.logs → (a at : ℕ)
    → Judges (long room || not (well_formed s.decoder s.devices s.table room)) s.decoder.finished number direction kind (found_device s.devices s.decoder.counts.devices address) a at
    → Judges (is_ill s) s.decoder.finished number direction kind (device_for address (world_at s)) a at
judged_at s address number direction kind room e a at j = rw (ill_by s room e, device-found s address) at j

-- a device that was found is one of those that there are
found_in : (devices : List Device) (n address at : ℕ) → found_device devices n address ≡ Some at → at < n
unfolding found_device
found_in devices n address at e = (rw e at (last-is (is_device devices address) n)).0

pub found_below : (s : State) (address at : ℕ) → device_for address (world_at s) ≡ Some at → at < s.decoder.counts.devices
found_below s address at e = found_in s.devices s.decoder.counts.devices address at (device-found s address ∙ e)

-- ---- the verdict

module _ (ill finished : Bool) (number direction kind : ℕ) (device : Option ℕ) where
  pub judged-ill : ill ≡ true → Judges ill finished number direction kind device 1 0
  unfolding first_of
  judged-ill h = record { answer = rw h; place = λ z. absurd (omega arith) }

  pub judged-finished : ill ≡ false → finished ≡ true → Judges ill finished number direction kind device 2 0
  unfolding first_of
  judged-finished h g = record { answer = rw (h, g); place = λ z. absurd (omega arith) }

  -- 5, 6 and 0 are those of `detail_answer`
  pub judged-detail : ill ≡ false → finished ≡ false → (a at : ℕ) → a ≡ detail_answer number direction kind device → (a ≡ 0 → device ≡ Some at) → Judges ill finished number direction kind device a at
  unfolding first_of
  judged-detail h g a at e p = record { answer = e ∙ rw (h, g) (detail-tests number direction kind device); place = p }

  -- an answer that is not 0 refuses: none of a detail call is 8
  refuses : (first_of (detail_tests ill finished number direction kind device) ≡ 0 → ⊥) → accepts (first_of (detail_tests ill finished number direction kind device)) ≡ false
  unfolding first_of
  refuses n = each ill finished (wrong number direction kind) (missing device) n
    where
      each : (a b c d : Bool) → (◌≡◌ {A = ℕ} (cond a 1 (cond b 2 (cond c 5 (cond d 6 0)))) 0 → ⊥) → accepts (cond a 1 (cond b 2 (cond c 5 (cond d 6 0)))) ≡ false
      each true b c d n = refl
      each false true c d n = refl
      each false false true d n = refl
      each false false false true n = refl
      each false false false false n = absurd (n refl)

-- answer 0: the record is well formed, and the detail has an entry
pub passed : {ill finished : Bool} {number direction kind : ℕ} {device : Option ℕ} {a at : ℕ} → Judges ill finished number direction kind device a at → a ≡ 0
    → (ill ≡ false) × ((number < 16) × (direction < 2))
passed {ill} {finished} {number} {direction} {kind} {device} j z =
    let p = (first-accepted (detail_tests ill finished number direction kind device) (sym j.answer ∙ z)).0 in
    let h1 = neither (ltb 15 number) (ltb 3 kind || (ltb 1 direction || (eqb number 0 && not (eqb kind Control)))) p.detail in
    let h2 = neither (ltb 3 kind) (ltb 1 direction || (eqb number 0 && not (eqb kind Control))) h1.1 in
    let h3 = neither (ltb 1 direction) (eqb number 0 && not (eqb kind Control)) h2.1 in
    let m = ltb-false 15 number h1.0 in
    let n = ltb-false 1 direction h3.0 in
    (p.ill, (omega arith, omega arith))

-- an address with no device is never answered 0
pub no-device : (number direction kind : ℕ) → detail_answer number direction kind None ≡ 0 → ⊥
unfolding detail_answer
no-device number direction kind h = never (wrong number direction kind) h
  where
    never : (b : Bool) → ◌≡◌ {A = ℕ} (cond b 5 6) 0 → ⊥
    never true e = omega arith
    never false e = omega arith

-- so its row is one of the 64
pub row_below : (d : Decoder) (devices : List Device) (table : List ℕ) (room : Counts) (address : ℕ) {number direction kind at : ℕ}
    → Judges (long room || not (well_formed d devices table room)) d.finished number direction kind (found_device devices d.counts.devices address) 0 at → at < 64
row_below d devices table room address {at = at} j =
    let n = (sound_by d devices table room (passed j refl).0).0.counts.few_devices in
    let b = found_in devices d.counts.devices address at (j.place refl) in
    omega arith

-- ---- the outcome, by the verdict

module _ (address number direction kind max : ℕ) (s : State) where
  pub detail-refused : (a at : ℕ) → Judges (is_ill s) s.decoder.finished number direction kind (device_for address (world_at s)) a at → (a ≡ 0 → ⊥) → Details address number direction kind max s a s
  unfolding Details
  detail-refused a at j n =
      refused a j.answer (ap accepts j.answer ∙ refuses (is_ill s) s.decoder.finished number direction kind (device_for address (world_at s)) (λ z. n (j.answer ∙ z)))

  -- 0, for the device at a place
  module _ (at : ℕ) (f : device_for address (world_at s) ≡ Some at) where
    -- the state then
    abbrev pub after : State
    after = state s.decoder (changed number direction kind max s.devices at) s.table s.logs

    left : is_ill s ≡ false → Left (handle_detail address number direction kind max (world_at s)) s.decoder.finished s after
    unfolding handle_detail
    left h = rw f one
      where
        one : Left (change_device at (detailed number direction kind max) (world_at s)) s.decoder.finished s after
        one =
            record {
              decoder = same-decoder s _ h;
              devices = record { size = length-set s.devices at _; there = λ i u. changed_at number direction kind max s.devices at i; beyond = λ i u. let b = found_below s address at f in get_or-set_other s.devices at i _ blank (λ e. omega arith) };
              table = same-table s _ h;
              logs = λ k u. refl;
            }

    accept : is_ill s ≡ false → (a : ℕ) → a ≡ first_of (detail_tests (is_ill s) s.decoder.finished number direction kind (device_for address (world_at s))) → a ≡ 0
        → Details address number direction kind max s a after
    unfolding Details
    accept h a e z = accepted a e (ap accepts z) (left h)

    pub detail-accepted : {x : Device} → is_ill s ≡ false → (a : ℕ) → Judges (is_ill s) s.decoder.finished number direction kind (device_for address (world_at s)) a at → a ≡ 0
        → x ≡ with_detail (get_or s.devices at blank) number direction kind max → Details address number direction kind max s a (state s.decoder (set s.devices at x) s.table s.logs)
    detail-accepted h a j z e = rw e (accept h a j.answer z)

    -- a detail leaves every address
    first-stays : (get_or after.devices 0 blank).address ≡ (get_or s.devices 0 blank).address
    first-stays = ap (λ (d : Device). d.address) (changed_at number direction kind max s.devices at 0) ∙ by (eqb 0 at)
      where
        by : (b : Bool) → (pick b (with_detail (get_or s.devices 0 blank) number direction kind max) (get_or s.devices 0 blank)).address ≡ (get_or s.devices 0 blank).address
        by true = (detail-kept (get_or s.devices 0 blank) number direction kind max).address
        by false = refl

    -- so the record is well formed as before
    after-well : is_ill s ≡ false → is_ill after ≡ false
    unfolding is_ill
    after-well h =
        let g = sound s h in
        let w = g.0 in
        let p = w.specials in
        nor _ _ (long-short _ g.1)
        (ap not
        (well-formed _ _ _ _
        (record {
          begun = w.begun;
          counts = w.counts;
          numbered = w.numbered;
          specials = record { some = p.some; address = first-stays ∙ p.address; three = p.three; event = p.event; invalid = p.invalid; framing = p.framing };
          rests = w.rests;
          endpoints = w.endpoints;
          held = w.held;
          last = w.last;
          waiting = w.waiting;
        })))

  -- with no device the rules leave all as it is
  left-none : device_for address (world_at s) ≡ None → is_ill s ≡ false → Left (handle_detail address number direction kind max (world_at s)) s.decoder.finished s s
  unfolding handle_detail
  left-none f h = rw f one
    where
      one : Left (world_at s) s.decoder.finished s s
      one =
          record {
            decoder = same-decoder s (world_at s).devices h;
            devices = record { size = refl; there = λ i u. refl; beyond = λ i u. refl };
            table = same-table s (world_at s).devices h;
            logs = λ k u. refl;
          }

  -- no call spoils the record: one that was well formed is so after it, whatever the answer (01, "Ruled out")
  pub detail-well : (a : ℕ) (s' : State) → Details address number direction kind max s a s' → is_ill s ≡ false → is_ill s' ≡ false
  unfolding Details
  detail-well a s' x h = by (accepts (first_of (detail_tests (is_ill s) s.decoder.finished number direction kind (device_for address (world_at s))))) refl
    where
      on : (found : Option ℕ) → device_for address (world_at s) ≡ found → Left (handle_detail address number direction kind max (world_at s)) s.decoder.finished s s' → is_ill s' ≡ false
      on (Some at) f l = ap is_ill (same_left l (left at f h)) ∙ after-well at f h
      on None f l = ap is_ill (same_left l (left-none f h)) ∙ h

      by : (b : Bool) → accepts (first_of (detail_tests (is_ill s) s.decoder.finished number direction kind (device_for address (world_at s)))) ≡ b → is_ill s' ≡ false
      by true e = on (device_for address (world_at s)) refl (x.left e)
      by false e = ap is_ill (x.kept e) ∙ h
