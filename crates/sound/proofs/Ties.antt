-- Between a state and a world of the rules. `fit_of`, `tokened_of`, `linked_of`, `paid_of`: what a sound state's world has. `left_sound`: a state that a
-- call leaves is sound where the call's world has those four and there is room for its rows.
use Prim.Native.Nat.{ℕ, ◌+◌, ◌*◌, ◌<◌, ◌≤◌}
use native.Mathlib.Omega.{arith}
use mathlib.Core.Path.{◌≡◌, refl, sym, ap, ◌∙◌}
use mathlib.Core.Bool.{Bool, true, false, not, ◌&&◌, ◌||◌, false≢true}
use mathlib.Core.List.{List, [], ◌∷◌}
use borrow.Author.Tests.{ltb-true, lt-ltb, leb-true, le-leb, eqb-true, eqb-false, eq-eqb, ne_eqb}
use lib.Dec.{eqb, ltb}
use lib.ListN.{length, length-append}
use Rattle.rows.specs.One.{one}
use Rattle.rows.specs.Widths.{width_of}
use Rattle.transaction.specs.Table.{pick}
use Rattle.transaction.specs.declared.Style.{Style}
use Rattle.transaction.specs.declared.Style.TheVariants.{Nothing, Simple, Split, Token}
use Rattle.transaction.specs.declared.Transaction.{Transaction}
use Rattle.endpoints.specs.Phases.{count, waiting}
use Rattle.endpoints.proofs.PhasesLaws.{count_ext}
use Rattle.endpoints.specs.Table.{entry_at}
use Rattle.details.specs.declared.Device.{Device}
use Rattle.endpoints.specs.declared.Endpoint.{Endpoint}
use Rattle.endpoints.specs.declared.Phase.{Phase}
use Rattle.endpoints.specs.declared.Phase.TheVariants.{None, Early, Active, Ended}
use Rattle.rules.specs.Linked.{excused, linked_at, LinkedIn, Linked}
use Rattle.rules.specs.Rows.{Row, written, log}
use Rattle.rules.specs.Tokened.{TokenedAt, TokenedIn, Tokened}
use Rattle.rules.specs.World.{World, is_ended, ended_in, waiting_of}
use Rattle.rules.specs.declared.Slot.{Slot}
use Rattle.rules.specs.declared.Slot.TheVariants.{Empty, Current, Suspended}
use Rattle.rules.proofs.Counted.{written-width}
use Rattle.record.specs.Bools.{both, and, nor, or_right, every_at, every_true}
use Rattle.record.specs.Formed.{standing, held_style, may_lack, holds, every}
use Rattle.record.proofs.FormedLaws.{EntryFormed, HeldFormed, Special, resting, WellFormed, well-formed}
use Rattle.record.specs.RoomLaws.{Roomy, roomy_same, Short, long-short}
use Rattle.record.specs.declared.Counts.{Counts}
use Rattle.call.specs.Outcome.{is_ill, counts_after, decoder_of, Left, world_at}
use Rattle.call.proofs.OutcomeLaws.{same-room, sound, waiting-entries}
use Rattle.call.specs.State.{State, state, held_at, room_of}
use Rattle.sound.specs.Fit.{link_rows, Fit, in_hand, brings, Paid}
use Rattle.sound.specs.Sound.{is_paid, sound_in, is_sound}

-- ---- what a sound state's world has

not_false : (b : Bool) → not b ≡ true → b ≡ false
not_false true h = absurd (false≢true h)
not_false false h = refl

-- the test's two parts
parts : (s : State) → is_sound s ≡ true → (is_ill s ≡ false) × (every (is_paid s.decoder s.table) 0 s.decoder.counts.endpoints ≡ true)
unfolding sound_in is_ill
parts s h = let g = both (not (is_ill s)) (every (is_paid s.decoder s.table) 0 s.decoder.counts.endpoints) h in (not_false (is_ill s) g.0, g.1)

-- 01, answer 1: it is never given on a sound state
pub sound-well : (s : State) → is_sound s ≡ true → is_ill s ≡ false
sound-well s h = (parts s h).0

style-of : (t : Style) (x : ℕ) → held_style t x ≡ true → TokenedAt t x
style-of Nothing x h = false≢true h
style-of (Simple first) x h = λ z. omega (arith, ltb-true 0 x h)
style-of (Split sc kind) x h = eqb-true x 0 h
style-of (Token sc kind token) x h = λ z. omega (arith, ltb-true 0 x h)

tokened_in : (z : Slot) (t : Style) (x : ℕ) → (holds z ≡ true → TokenedAt t x) → TokenedIn z t x
tokened_in Empty t x h = tt
tokened_in Current t x h = h refl
tokened_in Suspended t x h = h refl

excused_of : (p : Phase) (first : ℕ) → may_lack p first ≡ excused p first
excused_of None first = refl
excused_of Early first = refl
excused_of Active first = refl
excused_of Ended first = refl

linked_in : (z : Slot) (t : Transaction) (f : ℕ → Endpoint) → (holds z ≡ true → linked_at t f ≡ true) → LinkedIn z t f
linked_in Empty t f h = tt
linked_in Current t f h = h refl
linked_in Suspended t f h = h refl

link_of : (n : Counts) (t : Transaction) (f : ℕ → Endpoint) → HeldFormed n t (f t.endpoint) → linked_at t f ≡ true
link_of n t f h = by (eqb t.endpoint 0) refl t.linked refl
  where
    by : (a : Bool) → eqb t.endpoint 0 ≡ a → (b : Bool) → t.linked ≡ b → (a || (b || excused (f t.endpoint).phase (f t.endpoint).first)) ≡ true
    by true p b q = refl
    by false p true q = refl
    by false p false q =
        let z = eqb-false t.endpoint 0 p in
        sym (excused_of (f t.endpoint).phase (f t.endpoint).first) ∙ h.lacks (omega arith) q

module _ (s : State) (h : is_sound s ≡ true) where
  well : WellFormed s.decoder s.devices s.table (room_of s.logs)
  well = (sound s (sound-well s h)).0

  pub fit_of : Fit s.decoder.counts.links (world_at s)
  fit_of =
      record {
        device = well.specials.some;
        first = well.specials.address;
        three = well.specials.three;
        event = well.specials.event;
        invalid = well.specials.invalid;
        framing = well.specials.framing;
        rests = ap standing well.rests;
        entries =
            λ i u. let e = (well.endpoints i u).entry in
            record { transactions = omega (arith, e.transactions); groups = omega (arith, e.groups); device = e.device; pendinglink = e.pendinglink; group = e.group };
        held = λ q. let t = well.held q in record { endpoint = t.endpoint; id = t.id; link = t.link };
        last = well.last;
      }

  pub tokened_of : Tokened (world_at s)
  tokened_of = tokened_in s.decoder.slot s.decoder.transaction.style s.decoder.transaction.endpoint (λ q. style-of s.decoder.transaction.style s.decoder.transaction.endpoint (well.held q).style)

  pub linked_of : Linked (world_at s)
  linked_of = linked_in s.decoder.slot s.decoder.transaction (entry_at s.table) (λ q. link_of s.decoder.counts s.decoder.transaction (entry_at s.table) (well.held q))

  pub paid_of : Paid (world_at s)
  paid_of i u = leb-true _ _ (every_at (is_paid s.decoder s.table) s.decoder.counts.endpoints 0 i (parts s h).1 (omega arith) (omega arith))

-- ---- a world that has them makes a sound state

above : (x : ℕ) → ¬ (x ≡ 0) → ltb 0 x ≡ true
above x n = lt-ltb 0 x (omega arith)

style-is : (t : Style) (x : ℕ) → TokenedAt t x → held_style t x ≡ true
style-is Nothing x h = absurd h
style-is (Simple first) x h = above x h
style-is (Split sc kind) x h = eq-eqb x 0 h
style-is (Token sc kind token) x h = above x h

tokened-held : (z : Slot) (t : Style) (x : ℕ) → TokenedIn z t x → holds z ≡ true → TokenedAt t x
tokened-held Empty t x h q = absurd (false≢true q)
tokened-held Current t x h q = h
tokened-held Suspended t x h q = h

linked-held : (z : Slot) (t : Transaction) (f : ℕ → Endpoint) → LinkedIn z t f → holds z ≡ true → linked_at t f ≡ true
linked-held Empty t f h q = absurd (false≢true q)
linked-held Current t f h q = h
linked-held Suspended t f h q = h

lacks_by : (z l x : Bool) → (z || (l || x)) ≡ true → z ≡ false → l ≡ false → x ≡ true
lacks_by z l x h p q = rw (p, q) at h

-- each link row takes four words
row_words : (r : Row) → length (pick (eqb (written r).0 10) (written r).1 []) ≡ one (eqb (written r).0 10) * 4
row_words r = by (eqb (written r).0 10) refl
  where
    by : (b : Bool) → eqb (written r).0 10 ≡ b → length (pick b (written r).1 []) ≡ one b * 4
    by true e = let q = eqb-true (written r).0 10 e in written-width r (λ z. omega arith) (λ z. omega arith) ∙ ap width_of q
    by false e = refl

link-words : (js : List Row) → length (log 10 js) ≡ link_rows js * 4
link-words [] = refl
link-words (r ∷ js) = simp length-append (omega (arith, link-words js, row_words r))

-- a transaction that is held brings its payload to its endpoint
brings-own : (z : Slot) (t : Transaction) → holds z ≡ true → t.filled ≡ true → brings z t t.endpoint ≡ t.payload
brings-own z t q fl = let e = eq-eqb t.endpoint t.endpoint refl in all (holds z) t.filled (eqb t.endpoint 0) (eqb t.endpoint t.endpoint) q fl e
  where
    all : (a b c d : Bool) → a ≡ true → b ≡ true → d ≡ true → pick (a && (b && (c || d))) t.payload 0 ≡ t.payload
    all true true c true x y z = rw (or_right c true refl)
    all true true c false x y z = absurd (false≢true z)
    all true false c d x y z = absurd (false≢true y)
    all false b c d x y z = absurd (false≢true x)

-- a payload that waits is part of what is in hand
waits_by : (e : Endpoint) (m k : ℕ) → e.pending ≡ true → in_hand e + k ≤ m → e.pendinglength ≤ m
waits_by e m k q h = let p = rw q at h in omega arith

-- n rows stood before a call that leaves the world w: its endpoints and its transaction, by the counts after it
module _ (n : Counts) (w : World) (fit : Fit n.links w) (paid : Paid w) where
  entry-formed : (i : ℕ) → i < w.count → EntryFormed (counts_after n w) (w.endpoints i)
  unfolding counts_after
  entry-formed i u =
      let e = fit.entries i u in
      let p = paid i u in
      let l = link-words w.journal in
      record {
        transactions = omega (arith, e.transactions, l);
        groups = omega (arith, e.groups, l);
        device = e.device;
        pendinglink = e.pendinglink;
        payload = omega (arith, p);
        pendinglength = λ q. waits_by (w.endpoints i) w.bytes (brings w.slot w.transaction i) q p;
        group = e.group;
      }

  held-formed : Tokened w → Linked w → holds w.slot ≡ true → HeldFormed (counts_after n w) w.transaction (w.endpoints w.transaction.endpoint)
  unfolding counts_after
  held-formed token link q =
      let t = w.transaction in
      let x = t.endpoint in
      let h = fit.held q in
      record {
        endpoint = h.endpoint;
        id = h.id;
        link = h.link;
        payload = λ g. let p = paid x h.endpoint in let b = brings-own w.slot t q g in omega (arith, p, b);
        style = style-is t.style x (tokened-held w.slot t.style x token q);
        lacks =
            λ u v. excused_of (w.endpoints x).phase (w.endpoints x).first
            ∙ lacks_by (eqb x 0) t.linked _ (linked-held w.slot t w.endpoints link q) (ne_eqb x 0 (λ z. omega arith)) v;
      }

-- ---- a state that a call leaves

-- as many endpoints wait by the table as by the world
same-waiting : (w : World) (t : List ℕ) → ((i : ℕ) → i < w.count → entry_at t i ≡ w.endpoints i) → waiting_of w ≡ waiting t w.count
same-waiting w t e =
    sym (waiting-entries t w.count ∙ count_ext w.count (ended_in w.endpoints) (ended_in (entry_at t)) 0 (λ j u v. ap (λ (a : Endpoint). is_ended a.phase) (e j (omega arith))))

-- no log is too long, the record is well formed, and the payloads do not pass the packet bytes
pub sound-is : (s : State) → Short (room_of s.logs) → WellFormed s.decoder s.devices s.table (room_of s.logs) → Paid (world_at s) → is_sound s ≡ true
unfolding sound_in
sound-is s short formed paid =
    and _ _ (ap not (nor _ _ (long-short _ short) (ap not (well-formed _ _ _ _ formed))))
    (every_true (is_paid s.decoder s.table) s.decoder.counts.endpoints 0 (λ i u v. le-leb _ _ (paid i (omega arith))))

module _ (s s' : State) (w : World) (f : Bool) (left : Left w f s s') (fit : Fit s.decoder.counts.links w) (paid : Paid w) where
  entries : (i : ℕ) → i < w.count → entry_at s'.table i ≡ w.endpoints i
  entries = left.table.entries

  formed : (room : Counts) → Tokened w → Linked w → Roomy s.table (counts_after s.decoder.counts w) room → WellFormed (decoder_of s.decoder f w) s'.devices s'.table room
  unfolding decoder_of counts_after
  formed room token link roomy =
      let three = fit.three in
      let r = roomy_same left.table.firsts refl roomy in
      record {
        begun = r.begun;
        counts = r.held;
        numbered = r.numbered;
        specials =
            record {
              some = fit.device;
              address = ap (λ (d : Device). d.address) (left.devices.there 0 fit.device) ∙ fit.first;
              three = three;
              event = special-is 0 (omega arith) 0x10 fit.event;
              invalid = special-is 1 (omega arith) 0x11 fit.invalid;
              framing = special-is 2 (omega arith) 0x12 fit.framing;
            };
        rests = ap (λ (e : Endpoint). e.phase) (entries 0 (omega arith)) ∙ resting (w.endpoints 0).phase (ap not fit.rests);
        endpoints = λ i u. let q = entries i u in record { entry = rw q (entry-formed s.decoder.counts w fit paid i u); words = left.table.words i u };
        held = λ q. let e = entries w.transaction.endpoint (fit.held q).endpoint in rw e (held-formed s.decoder.counts w fit paid token link q);
        last = fit.last;
        waiting = same-waiting w s'.table entries;
      }
    where
      special-is : (i : ℕ) → i < w.count → (number : ℕ) → Special (w.endpoints i) number → Special (entry_at s'.table i) number
      special-is i u number h = let q = entries i u in rw q h

  -- the state, with its record as the world gives it
  abbrev there : State
  there = state (decoder_of s.decoder f w) s'.devices s'.table s'.logs

  paid-there : Paid (world_at there)
  unfolding decoder_of counts_after
  paid-there i u = let q = entries i u in rw q (paid i u)

  pub left_sound : Short (room_of s.logs) → Roomy s.table (counts_after s.decoder.counts w) (room_of s.logs) → Tokened w → Linked w → is_sound s' ≡ true
  left_sound short within token link = ap is_sound same ∙ sound-is there (rw room short) (formed (room_of s'.logs) token link (rw room within)) paid-there
    where
      same : s' ≡ there
      same = λ i. record { decoder = left.decoder i; devices = s'.devices; table = s'.table; logs = s'.logs }

      room : room_of s'.logs ≡ room_of s.logs
      room = same-room w (held_at s) s.logs s'.logs left.logs
