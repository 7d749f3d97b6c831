-- The endpoint of the transaction that is held is there.
use Rattle.std.proofs.Common.{◌≡◌, ℕ, ◌<◌, ◌≤◌, true, refl, arith}
use Rattle.transaction.specs.declared.Transaction.{Transaction}
use Rattle.rules.specs.declared.Slot.{Slot}
use Rattle.rules.specs.declared.Slot.TheVariants.{Empty, Current, Suspended}
use Rattle.record.specs.Formed.{holds}
use Rattle.plan.specs.Packet.{old_endpoint}
use Rattle.plan.specs.Ending.{current_endpoint}

module _ {n : ℕ} (t : Transaction) (three : 3 ≤ n) where
  pub old-there : (s : Slot) → (holds s ≡ true → t.endpoint < n) → old_endpoint s t < n
  old-there Empty h = omega arith
  old-there Current h = h refl
  old-there Suspended h = h refl

  pub current-there : (s : Slot) → (holds s ≡ true → t.endpoint < n) → current_endpoint s t < n
  current-there Empty h = omega arith
  current-there Current h = h refl
  current-there Suspended h = omega arith
