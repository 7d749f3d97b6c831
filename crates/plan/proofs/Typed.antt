-- What is known of an endpoint once a split's type is stored for it, said by its details alone.
use mathlib.Core.Path.{◌≡◌, refl, sym, ap, ◌∙◌}
use mathlib.Core.Bool.{Bool, true, false, not, ◌&&◌, cond}
use mathlib.Core.List.{List, [], ◌∷◌}
use Prim.Native.Nat.{ℕ, zero, suc}
use native.Mathlib.Omega.{arith}
use borrow.Author.Tests.{eqb-true, le-ltb}
use lib.Dec.{eqb, ltb}
use lib.ListN.{get_or, set}
use Rattle.transaction.specs.Table.{pick}
use Rattle.usb.specs.Types.{Control}
use Rattle.details.specs.Kind.{Unknown, Event, Invalid, Framing}
use Rattle.details.specs.Details.{bare, number_of, entry_for, stored, storable, change, ordinary, details_of, with_type}
use Rattle.details.specs.declared.Detail.{Detail}
use Rattle.details.specs.declared.Device.{Device}
use Rattle.plan.specs.Packet.{typed_detail}

-- an entry that is not there has the kind 0
there : (l : List Detail) (i : ℕ) (x : Detail) → (get_or l i (bare 0)).kind ≡ Unknown → get_or (set l i x) i (bare 0) ≡ x
there [] i x h = absurd (let z : ◌≡◌ {A = ℕ} 0 4 = h in omega arith)
there (y ∷ l) zero x h = refl
there (y ∷ l) (suc i) x h = there l i x h

module _ (d : Device) (address k : ℕ) where
  abbrev n : ℕ
  n = number_of address

  abbrev known : Detail
  known = stored d (entry_for address)

  -- an ordinary number
  abbrev put : Bool → Device
  put b = cond b (change d (entry_for address) (record { kind = k; given = known.given; max = known.max })) d

  ordinary-typed : (b : Bool) → eqb known.kind Unknown ≡ b → stored (put b) (entry_for address) ≡ pick b (record { kind = k; given = known.given; max = known.max }) known
  ordinary-typed true h = there d.details (entry_for address) (record { kind = k; given = known.given; max = known.max }) (eqb-true known.kind Unknown h)
  ordinary-typed false h = refl

  -- by whether the number is one of the special three, 0, or below 16
  abbrev details : Bool → Bool → Bool → Bool → Bool → Device → Detail
  details e i f nil few v =
      cond e (bare Event) (cond i (bare Invalid) (cond f (bare Framing) (cond nil (record { kind = Control; given = (stored v 0).given; max = (stored v 0).max }) (cond few (stored v (entry_for address)) (bare Unknown)))))

  abbrev typed : Bool → Bool → Detail → Detail
  typed nil few x = pick (not nil && (few && eqb x.kind Unknown)) (record { kind = k; given = x.given; max = x.max }) x

  abbrev with : Bool → Bool → Device
  with nil few = put (not nil && (few && eqb known.kind Unknown))

  by : (e i f nil few : Bool) → (e ≡ true → few ≡ false) → (i ≡ true → few ≡ false) → (f ≡ true → few ≡ false)
      → details e i f nil few (with nil few) ≡ typed nil few (details e i f nil few d)
  by true i f nil few p q r = let h = p refl in rw h (none nil)
    where
      none : (z : Bool) → bare Event ≡ pick (not z && false) (record { kind = k; given = false; max = 0 }) (bare Event)
      none true = refl
      none false = refl
  by false true f nil few p q r = let h = q refl in rw h (none nil)
    where
      none : (z : Bool) → bare Invalid ≡ pick (not z && false) (record { kind = k; given = false; max = 0 }) (bare Invalid)
      none true = refl
      none false = refl
  by false false true nil few p q r = let h = r refl in rw h (none nil)
    where
      none : (z : Bool) → bare Framing ≡ pick (not z && false) (record { kind = k; given = false; max = 0 }) (bare Framing)
      none true = refl
      none false = refl
  by false false false true few p q r = refl
  by false false false false true p q r = ordinary-typed (eqb known.kind Unknown) refl
  by false false false false false p q r = refl

  pub typed-detail : details_of (with_type d address k) address ≡ typed_detail address k (details_of d address)
  unfolding details_of with_type
  typed-detail =
      by (eqb n 16) (eqb n 17) (eqb n 18) (eqb n 0) (ltb n 16)
      (λ h. le-ltb n 16 (omega (arith, eqb-true n 16 h)))
      (λ h. le-ltb n 16 (omega (arith, eqb-true n 17 h)))
      (λ h. le-ltb n 16 (omega (arith, eqb-true n 18 h)))
