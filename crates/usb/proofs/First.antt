-- The check of a packet by its first byte.
-- Assumes nothing.
use Prim.Native.Nat.{ℕ}
use mathlib.Core.Path.{◌≡◌, refl}
use mathlib.Core.List.{List, [], ◌∷◌}
use native.Mathlib.Omega.{arith}
use lib.ListN.{length, get_or}
use Rattle.std.specs.Prelude.{Err}
use Rattle.usb.proofs.Laws.{checked-is}
use Rattle.usb.specs.Packet.{format_of, format_reason, with_pid, checked_of}
use Rattle.usb.specs.declared.reason.Reason.TheVariants.{Empty}

pub none : (p : List ℕ) → length p ≡ 0 → Err Empty ≡ checked_of p
unfolding checked_of
none [] e = refl
none (b ∷ p) e = absurd (omega arith)

pub some : (p : List ℕ) → (length p ≡ 0 → ⊥) → checked_of p ≡ with_pid (get_or p 0 0) (format_reason (format_of (get_or p 0 0)) p)
unfolding checked_of
some [] n = absurd (n refl)
some (b ∷ p) n = checked-is b p
