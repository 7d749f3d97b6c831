-- Words stored in all of a lent array, as its contract says it: one behind the other, from its start.
-- Assumes nothing.
use Prim.Native.Nat.{ℕ, ◌+◌}
use native.Mathlib.Omega.{arith}
use mathlib.Core.Path.{◌≡◌, refl, sym, ◌∙◌}
use mathlib.Core.List.{List, append-nil}
use lib.ListN.{length}
use lib.Seq.{sets, sets-eq}
use Rattle.std.proofs.lemmas.List.{drop_all}

pub filled : (l vs : List ℕ) → length l ≡ length vs → {ws : List ℕ} → ws ≡ vs → ws ≡ sets l 0 vs
filled l vs h e = e ∙ sym (sets-eq vs l 0 (omega (arith, h)) ∙ rw (drop_all (0 + length vs) l (omega (arith, h)), append-nil vs) refl)
