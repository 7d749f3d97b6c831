-- The tests that come before the packet is looked at: answers 1, 2 and 3.
use mathlib.Core.Path.{◌≡◌, refl, sym, ap, ◌∙◌}
use mathlib.Core.Bool.{Bool, true, false, not, cond, ◌||◌}
use mathlib.Core.List.{List}
use Prim.Native.Nat.{ℕ, ◌≤◌}
use native.Mathlib.Omega.{arith}
use borrow.Author.Tests.{ltb-false}
use lib.Dec.{eqb, ltb}
use lib.ListN.{length}
use Rattle.record.specs.Answers.{first_of, packet_tests}
use Rattle.record.specs.declared.Counts.{Counts}
use Rattle.call.specs.Outcome.{is_ill, accepts}
use Rattle.call.proofs.OutcomeLaws.{ill_by, refused}
use Rattle.call.specs.State.{State, room_of}
use Rattle.packet.specs.Call.{after, tests_of, PacketCall}
use Rattle.call.specs.Share.{first_tests}
use Rattle.packet.proofs.Answers.{Passes}

-- the first three tests, by themselves
abbrev three : Bool → Bool → Bool → ℕ
three ill finished long = cond ill 1 (cond finished 2 (cond long 3 0))

module _ (full over dropped : Bool) (len : ℕ) where
  -- where one applies it is the answer, and no call is accepted with it
  three-first : (ill finished long : Bool) → ltb 4096 len ≡ long → (three ill finished long ≡ 0 → ⊥) → (three ill finished long ≡ first_of (packet_tests ill finished len full over dropped)) × (accepts (three ill finished long) ≡ false)
  unfolding first_of
  three-first true finished long e ne = (refl, refl)
  three-first false true long e ne = (refl, refl)
  three-first false false true e ne = (rw e, refl)
  three-first false false false e ne = absurd (ne refl)

three-none : (ill finished long : Bool) → three ill finished long ≡ 0 → (ill ≡ false) × ((finished ≡ false) × (long ≡ false))
three-none true finished long h = absurd (omega arith)
three-none false true long h = absurd (omega arith)
three-none false false true h = absurd (omega arith)
three-none false false false h = (refl, (refl, refl))

module _ (packet : List ℕ) (time : ℕ) (s : State) (shelf : List ℕ) {room : Counts} (e : room ≡ room_of s.logs) {a : ℕ} (f : a ≡ first_tests s.decoder s.devices s.table room (length packet) 4096 3) where
  is-three : a ≡ three (is_ill s) s.decoder.finished (ltb 4096 (length packet))
  is-three = f ∙ ap (λ (b : Bool). three b s.decoder.finished (ltb 4096 (length packet))) (ill_by s room e)

  pub first-refused : (a ≡ 0 → ⊥) → PacketCall packet time s shelf a s shelf
  first-refused ne =
      let h = three-first _ _ _ (length packet) (is_ill s) s.decoder.finished (ltb 4096 (length packet)) refl (λ z. ne (is-three ∙ z)) in
      let r = ap accepts is-three ∙ h.1 in
      record { answers = refused a (is-three ∙ h.0) r; shelf = ap (λ (c : Bool). cond c (after packet time s shelf).shelf shelf) (sym r) }

  pub first_passed : a ≡ 0 → Passes packet s
  first_passed z =
      let h = three-none (is_ill s) s.decoder.finished (ltb 4096 (length packet)) (sym is-three ∙ z) in
      record { ill = h.0; finished = h.1.0; short = ltb-false 4096 (length packet) h.1.1 }
