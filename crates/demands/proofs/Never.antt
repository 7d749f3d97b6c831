-- No call of a sequence spoils the record, so none answers 1 (01, "Answer numbers"): every call keeps `sound`, and on a sound state none does.
use Prim.Native.Nat.{ℕ}
use native.Mathlib.Omega.{arith}
use mathlib.Core.Path.{◌≡◌, refl, sym, ◌∙◌}
use mathlib.Core.Bool.{Bool, true, false, cond}
use mathlib.Core.List.{List}
use Rattle.rules.specs.Demand.{Call, packet, event, detail, finishing}
use Rattle.rules.specs.Rows.{Row}
use Rattle.record.specs.Answers.{Tests, first_of}
use Rattle.call.specs.Outcome.{is_ill}
use Rattle.call.specs.State.{State}
use Rattle.sound.specs.Sound.{is_sound}
use Rattle.sound.proofs.Keeps.{kept}
use Rattle.demands.specs.Sequence.{Does, Sequence, made, then}
use Rattle.demands.proofs.Steps.{tests_for, answers}

-- an answer after the first is another number
other : (b : Bool) (n rest : ℕ) → ¬ (n ≡ 1) → ¬ (rest ≡ 1) → ¬ (cond b n rest ≡ 1)
other true n rest a c = a
other false n rest a c = c

not_first : (q : Tests) → q.ill ≡ false → ¬ (first_of q ≡ 1)
unfolding first_of
not_first q h =
    rw h
    (other q.finished 2 _ (λ e. omega arith)
    (other q.long 3 _ (λ e. omega arith)
    (other q.kind 4 _ (λ e. omega arith)
    (other q.detail 5 _ (λ e. omega arith)
    (other q.address 6 _ (λ e. omega arith)
    (other q.full 7 _ (λ e. omega arith)
    (other q.over 9 _ (λ e. omega arith)
    (other q.dropped 8 0 (λ e. omega arith) (λ e. omega arith)))))))))

ill_of : (k : Call) (s : State) → (tests_for k s).ill ≡ is_ill s
ill_of (packet p time shelf) s = refl
ill_of (event kind code time) s = refl
ill_of (detail a n r k m) s = refl
ill_of finishing s = refl

pub not_1 : (k : Call) (s : State) (a : ℕ) (s' : State) → is_ill s ≡ false → Does k s a s' → ¬ (a ≡ 1)
not_1 k s a s' h d e = not_first (tests_for k s) (ill_of k s ∙ h) (sym (answers k s a s' d).answer ∙ e)

-- ---- a sequence leaves sound states

next : (k : Call) (s : State) (a : ℕ) (s' : State) → Does k s a s' → is_sound s ≡ true → is_sound s' ≡ true
next (packet bytes time shelf) s a s' d = kept.packet bytes time shelf d.left s a s' d.does
next (event kind code time) s a s' d = kept.event kind code time s a s' d
next (detail address number direction kind max) s a s' d = kept.detail address number direction kind max s a s' d
next finishing s a s' d = kept.finish s a s' d

always_sound : {js : List Row} {s : State} → Sequence js s → is_sound s ≡ true
always_sound (made {high} {v} {t} {l} {s} hv ht m) = kept.fresh high v t l s m ht (omega arith)
always_sound (then {js} {s} k a s' q d) = next k s a s' d (always_sound q)

pub never-ill : {js : List Row} {s : State} → Sequence js s → is_ill s ≡ false
never-ill {js} {s} q = kept.well s (always_sound q)
