-- Laws (proved), of descriptors: the store keeps its length where entries are forgotten, and there are no fewer behind a read.
-- Assumes nothing.
use Rattle.std.specs.Prelude.{ℕ, ◌≤◌, ◌≡◌}
use Rattle.std.proofs.Common.{arith, ◌∙◌}
use Rattle.std.proofs.Math.Path.{ap}
use mathlib.Core.List.{List}
use Rattle.std.proofs.Math.ListN.{length}
use Rattle.std.proofs.Math.Seq.{length-sets}
use Rattle.descriptors.specs.Whole.{joined}
use Rattle.descriptors.specs.Store.{stored_at, without}
use Rattle.descriptors.specs.Steps.{Keeps, Forgets}

pub forgets-length : {base kept value : ℕ} {store store₁ : List ℕ} {n : ℕ} → Forgets base kept value store store₁ n → length store₁ ≡ length store
forgets-length {base} {kept} {value} {store} f = ap length f.stored ∙ length-sets store base (joined (without value (stored_at base kept store)))

pub keeps-more : {base n m : ℕ} {es : List (List ℕ)} {store store₁ : List ℕ} → Keeps base n es store store₁ m → n ≤ m
keeps-more k = omega (arith, k.counted)
