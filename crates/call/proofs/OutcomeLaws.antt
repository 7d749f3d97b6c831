-- Laws (proved): the laws of an outcome: any two that `Answers` permits coincide (01, "What the contracts owe us"), how a call shows its own, and what the
-- first test tells a call that passes it.
use Rattle.std.specs.Prelude.{ℕ, ◌+◌, ◌*◌, ◌/◌, ◌%◌, ◌<◌, ◌≡◌, refl, Bool, true, false, not, ◌||◌, List, ltb, length, get_or}
use Rattle.std.proofs.Common.{div-add-mod', arith, sym, ap, ◌∙◌, true≢false, ltb-true, ltb-false, ext_get_or}
use Rattle.std.proofs.lemmas.Bool.{false≢true}
use Rattle.std.proofs.Math.Seq.{length-sets}
use Rattle.rows.specs.Widths.{place}
use Rattle.endpoints.specs.Phases.{in_phase, count, waiting}
use Rattle.endpoints.proofs.PhasesLaws.{count_ext, phase-entry}
use Rattle.details.specs.Search.{blank}
use Rattle.endpoints.specs.Table.{entry_at, first_at}
use Rattle.endpoints.specs.Word as word
use Rattle.details.specs.declared.Device.{Device}
use Rattle.rules.specs.Rows.{log}
use Rattle.rules.specs.World.{World, ended_in}
use Rattle.record.specs.Answers.{Tests, first_of}
use Rattle.record.specs.Bools.{neither}
use Rattle.record.specs.Formed.{well_formed}
use Rattle.record.proofs.FormedLaws.{WellFormed, well}
use Rattle.record.specs.RoomLaws.{Short, short}
use Rattle.record.specs.Room.{long}
use Rattle.record.proofs.StoredLaws.{determined}
use Rattle.record.specs.declared.Counts.{Counts}
use Rattle.record.specs.declared.Decoder.{Decoder}
use Rattle.call.specs.State.{Logs, State, log_at, count_at, held_at, room_of}
use Rattle.call.proofs.StateLaws.{same-each, sizes-room}
use Rattle.call.specs.Outcome.{is_ill, Appends, DevicesOf, TableOf, Left, Answers, accepts}

-- ---- what the rules leave is one thing

-- devices that are those of one world, and else as they were, are the same
same-devices : {w : World} {v a b : List Device} → DevicesOf w v a → DevicesOf w v b → a ≡ b
same-devices {w} {v} {a} {b} p q = ext_get_or blank a b (p.size ∙ sym q.size) (λ i h. at i (ltb i w.device_count) refl)
  where
    at : (i : ℕ) (c : Bool) → ltb i w.device_count ≡ c → get_or a i blank ≡ get_or b i blank
    at i true e = let h = ltb-true i w.device_count e in p.there i h ∙ sym (q.there i h)
    at i false e = let h = ltb-false i w.device_count e in p.beyond i h ∙ sym (q.beyond i h)

-- a word's place by its row and its place there
row_and-word : (i : ℕ) → i / word.width * word.width + i % word.width ≡ i
row_and-word i = div-add-mod' i word.width

-- tables that hold the entries of one world in stored words, and else what was there, are the same
same-table : {w : World} {t a b : List ℕ} → TableOf w t a → TableOf w t b → a ≡ b
same-table {w} {t} {a} {b} p q = ext_get_or 0 a b (p.size ∙ sym q.size) (λ i h. at i (ltb i (w.count * word.width)) refl)
  where
    row : (i : ℕ) → i / word.width < w.count → get_or a (i / word.width * word.width + i % word.width) 0 ≡ get_or b (i / word.width * word.width + i % word.width) 0
    row i h = determined a b (i / word.width) (p.words _ h) (q.words _ h) (p.entries _ h ∙ sym (q.entries _ h)) (i % word.width) (omega arith)

    at : (i : ℕ) (c : Bool) → ltb i (w.count * word.width) ≡ c → get_or a i 0 ≡ get_or b i 0
    at i true e = let h = ltb-true i (w.count * word.width) e in rw (row_and-word i) at (row i (omega arith))
    at i false e = let h = ltb-false i (w.count * word.width) e in p.beyond i h ∙ sym (q.beyond i h)

-- logs with the same rows behind the same words are the same
same-logs : (w : World) (n : Counts) (l a b : Logs) → Appends w n l a → Appends w n l b → a ≡ b
same-logs w n l a b p q = same-each a b (λ k h. p k h ∙ sym (q k h))

pub same_left : {w : World} {f : Bool} {s a b : State} → Left w f s a → Left w f s b → a ≡ b
same_left {w} {f} {s} {a} {b} p q =
    λ i. record {
      decoder = (p.decoder ∙ sym q.decoder) i;
      devices = same-devices p.devices q.devices i;
      table = same-table p.table q.table i;
      logs = same-logs w (held_at s) s.logs a.logs b.logs p.logs q.logs i;
    }

-- 01: "any two permitted outcomes coincide"
pub unique : {q : Tests} {w : World} {f : Bool} {s : State} {a b : ℕ} {s' s'' : State} → Answers q w f s a s' → Answers q w f s b s'' → (a ≡ b) × (s' ≡ s'')
unique {q} {w} {f} {s} {a} {b} {s'} {s''} x y = (x.answer ∙ sym y.answer, pick (accepts (first_of q)) refl)
  where
    pick : (c : Bool) → accepts (first_of q) ≡ c → s' ≡ s''
    pick true e = same_left (x.left e) (y.left e)
    pick false e = x.kept e ∙ sym (y.kept e)

-- accepted or refused, a call leaves the first numbers
pub same-firsts : {q : Tests} {w : World} {f : Bool} {s : State} {a : ℕ} {s' : State} → Answers q w f s a s' → (k : ℕ) → first_at k s'.table ≡ first_at k s.table
same-firsts {q} {s = s} {s' = s'} x k = by (accepts (first_of q)) refl
  where
    by : (b : Bool) → accepts (first_of q) ≡ b → first_at k s'.table ≡ first_at k s.table
    by true e = (x.left e).table.firsts k
    by false e = ap (λ (z : State). first_at k z.table) (x.kept e)

-- what the rules leave leaves every log as long as it was
pub same-room : (w : World) (n : Counts) (l l' : Logs) → Appends w n l l' → room_of l' ≡ room_of l
same-room w n l l' a = sizes-room l l' (λ k h. ap length (a k h) ∙ length-sets (log_at k l) (place k (count_at k n)) (log k w.journal))

-- ---- how a call shows its outcome

-- it is refused: the answer is another than 0 and 8, and all is as it was
pub refused : {q : Tests} {w : World} {f : Bool} {s : State} (a : ℕ) → a ≡ first_of q → accepts a ≡ false → Answers q w f s a s
refused {q} a e r = record { answer = e; left = λ h. absurd (false≢true (sym r ∙ (ap accepts e ∙ h))); kept = λ h. refl }

-- it is accepted: the answer is 0 or 8, and the state is what the rules leave
pub accepted : {q : Tests} {w : World} {f : Bool} {s : State} (a : ℕ) {s' : State} → a ≡ first_of q → accepts a ≡ true → Left w f s s' → Answers q w f s a s'
accepted {q} a e r l = record { answer = e; left = λ h. l; kept = λ h. absurd (true≢false (sym r ∙ (ap accepts e ∙ h))) }

-- ---- what the first test tells

pub not_true : (b : Bool) → not b ≡ false → b ≡ true
not_true true h = refl
not_true false h = absurd (true≢false h)

-- as the code makes the test: the record is well formed, and no log is too long
pub sound_by : (d : Decoder) (v : List Device) (t : List ℕ) (room : Counts) → (long room || not (well_formed d v t room)) ≡ false → WellFormed d v t room × Short room
sound_by d v t room h = let g = neither (long room) (not (well_formed d v t room)) h in (well d v t room (not_true _ g.1), short room g.0)

-- of a state that is not ill
pub sound : (s : State) → is_ill s ≡ false → WellFormed s.decoder s.devices s.table (room_of s.logs) × Short (room_of s.logs)
unfolding is_ill
sound s h = sound_by s.decoder s.devices s.table (room_of s.logs) h

-- the test as the code makes it, on the room of the lent logs
pub ill_by : (s : State) (room : Counts) → room ≡ room_of s.logs → (long room || not (well_formed s.decoder s.devices s.table room)) ≡ is_ill s
unfolding is_ill
ill_by s room e = rw e

-- ---- who waits

-- as many endpoints wait by the table's words as by its entries
pub waiting-entries : (t : List ℕ) (n : ℕ) → waiting t n ≡ count (ended_in (entry_at t)) 0 n
waiting-entries t n =
    count_ext n (ended_in (entry_at t)) (in_phase word.Ended t) 0 (λ j u v. phase-entry t j word.Ended (omega arith) (omega arith))
