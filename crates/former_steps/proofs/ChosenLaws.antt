-- Laws (proved), of descriptors: where the loops over the entries that a choice means begin, and a turn of them.
-- Assumes nothing.
use Rattle.std.specs.Prelude.{ℕ, ◌+◌, ◌-◌, ◌*◌, ◌≡◌, Bool, true, false, get_or, drop}
use native.Mathlib.Omega.{arith}
use Rattle.std.proofs.Math.Path.{ap}
use mathlib.Core.List.{List}
use Rattle.std.proofs.Math.ListN.{take}
use Rattle.details.specs.declared.Device.{Device}
use Rattle.descriptors.specs.Store.{stored_at}
use Rattle.descriptors.proofs.ChosenLaws.{Applying, Counting}
use Rattle.descriptors.proofs.ChosenLaws as now
use Rattle.descriptors.specs.Chosen.{set_from, set_if, applied, count_set}
use Rattle.descriptors.specs.declared.choose.Choice.{Choice}

module _ (store : List ℕ) (from : ℕ) where
  pub set_at : (on : Bool) (d : Device) → on ≡ true
      → set_from (get_or store (from + 3) 0) (get_or store (from + 4) 0) (get_or store (from + 5) 0) (get_or store (from + 6) 0) d ≡ set_if on (take 7 (drop from store)) d
  set_at on d h = rw h (now.set_at store from d)

  pub set-none : (on : Bool) (d : Device) → on ≡ false → d ≡ set_if on (take 7 (drop from store)) d
  unfolding set_if
  set-none on d h = rw h

module _ (c : Choice) (base kept : ℕ) (store : List ℕ) where
  pub at-start : stored_at base kept store ≡ stored_at (base + 0 * 7) (kept - 0) store
  at-start =
      let z : base ≡ base + 0 * 7 = omega arith in
      let y : kept ≡ kept - 0 = omega arith in
      λ i. stored_at (z i) (y i) store

  pub applying-start : (d : Device) → Applying c base kept store d d 0
  applying-start d = record { most = omega arith; left = ap (λ (es : List (List ℕ)). applied c es d) at-start }

  pub counting-start : Counting c base kept store 0 0
  counting-start = record { most = omega arith; few = omega arith; left = omega (arith, ap (count_set c) at-start) }
