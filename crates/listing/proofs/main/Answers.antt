use Rattle.std.proofs.Common.{arith, ℕ, ◌≤◌, subst}
use Rattle.listing.specs.Prints.{no_rows, text_room}
use Rattle.listing.proofs.Shown.{zeros, own_room}
use Rattle.listing.proofs.main.Goals as goal

pub print-end-requires : goal.print-end-requires
print-end-requires c = subst (λ (k : ℕ). text_room no_rows ≤ k) (zeros 379548) (omega (arith, own_room))
