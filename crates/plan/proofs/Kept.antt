-- The payload that a packet brings: whether a step has a row, and its last packet, tell whether the transaction goes on.
use mathlib.Core.Path.{◌≡◌, refl, sym}
use mathlib.Core.Bool.{Bool, true, false, ◌&&◌, not}
use mathlib.Core.List.{List}
use Prim.Native.Nat.{ℕ}
use lib.Dec.{eqb}
use Rattle.usb.specs.Pid.{SPLIT, MALFORMED}
use Rattle.transaction.specs.Table.{pick}
use Rattle.transaction.specs.declared.Status.{Status}
use Rattle.transaction.specs.declared.Style.{Style}
use Rattle.transaction.specs.declared.Style.TheVariants.{Nothing, Simple, Split, Token}
use Rattle.transaction.specs.declared.Transaction.{Transaction}
use Rattle.details.specs.Kind.{Unknown}
use Rattle.endpoints.specs.declared.Endpoint.{Endpoint}
use Rattle.rules.specs.World.{World, invalid_ep, with_shelf}
use Rattle.rules.specs.Transactions.{is_kept, shelf_with}
use Rattle.plan.specs.Packet.{standing, place_of, start_on, start_split, start_plain, starting, appending_at, appending, kept}
use Rattle.plan.specs.declared.Plan.{Plan}

pub starting-row : (s : Status) (x0 : ℕ) (e0 : Endpoint) (pid : ℕ) (packet : List ℕ) (n : ℕ) (w : World) → (starting s x0 e0 pid packet n w).begin.row ≡ true
unfolding starting
starting-row s x0 e0 pid packet n w = by (eqb pid MALFORMED) (eqb pid SPLIT)
  where
    by : (a c : Bool) → (pick a (start_on s (standing x0 e0 invalid_ep w) Unknown 0 pid n) (pick c (start_split packet pid n (standing x0 e0 invalid_ep w)) (start_plain s (place_of x0 e0 pid packet w) pid packet n))).begin.row ≡ true
    by true c = refl
    by false true = refl
    by false false = refl

module _ (s : Status) (x0 : ℕ) (e0 : Endpoint) (pid : ℕ) (packet : List ℕ) (b : Transaction) (w : World) where
  pub appending-row : (appending s x0 e0 pid packet b w).begin.row ≡ false
  unfolding appending
  appending-row = by b.style
    where
      by : (y : Style) → (appending_at y s x0 e0 pid packet b w).begin.row ≡ false
      by Nothing = refl
      by (Simple first) = refl
      by (Split sc kind) = refl
      by (Token sc kind token) = refl

  pub appending-last : (appending s x0 e0 pid packet b w).begin.transaction.last ≡ pid
  unfolding appending
  appending-last = by b.style
    where
      by : (y : Style) → (appending_at y s x0 e0 pid packet b w).begin.transaction.last ≡ pid
      by Nothing = refl
      by (Simple first) = refl
      by (Split sc kind) = refl
      by (Token sc kind token) = refl

-- a step with a row of its own keeps none
pub unkept : (high : Bool) (p : Plan) (packet : List ℕ) (v : World) → p.begin.row ≡ true → v ≡ kept high p packet v
unkept high p packet v h = λ i. with_shelf (shelf_with (not (sym h i) && is_kept high p.brought p.end.entry p.begin.transaction.last) p.end.entry packet v.shelf) v
