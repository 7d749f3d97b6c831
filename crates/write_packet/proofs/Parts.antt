-- What the functions lean on: desks and hands that agree in each part are one, and the room that a step's parts have.
use Prim.Native.Nat.{ℕ, ◌+◌, ◌*◌, ◌≤◌}
use native.Mathlib.Omega.{arith}
use mathlib.Core.Bool.{Bool, true, false}
use mathlib.Core.List.{List, [], ◌∷◌}
use mathlib.Core.Path.{◌≡◌, refl}
use lib.ListN.{length}
use lib.Seq.{sets, length-sets}
use Rattle.rows.specs.Widths.{link_width, transaction_width}
use Rattle.rows.specs.Sets.{opt}
use Rattle.write.specs.declared.Written.{Written}
use Rattle.endpoints.specs.Table.{entry_at}
use Rattle.group.specs.declared.Effect.TheVariants.{NewDevice, IndexData}
use Rattle.rules.specs.Rows.{Named, transaction_words}
use Rattle.write_packet.specs.Asked.{RoomEffect}
use Rattle.write_packet.specs.Desk.{Desk, desk, plus, total_words, effect_desk}
use Rattle.write_packet.specs.declared.Hand.{Hand}

abbrev pub hand : Written → ℕ → ℕ → ℕ → Hand
hand d r v n = record { written = d; transactions = r; devices = v; endpoints = n }

pub hands : {d d' : Written} {r r' v v' n n' : ℕ} → d ≡ d' → r ≡ r' → v ≡ v' → n ≡ n' → hand d r v n ≡ hand d' r' v' n'
hands d r v n = rw (d, r, v, n) refl

pub desks : {h h' : Hand} {t t' d d' e e' r r' g g' m m' s s' i i' l l' : List ℕ}
    → h ≡ h' → t ≡ t' → d ≡ d' → e ≡ e' → r ≡ r' → g ≡ g' → m ≡ m' → s ≡ s' → i ≡ i' → l ≡ l'
    → desk h t d e r g m s i l ≡ desk h' t' d' e' r' g' m' s' i' l'
desks h t d e r g m s i l = rw (h, t, d, e, r, g, m, s, i, l) refl

-- a log has room for a row where it has it after the row, and the count then fits
pub row1-fits : (b : Bool) (a at : ℕ) (l : List ℕ) → plus b at ≤ length (sets l at (opt b (a ∷ []))) → at + length (opt b (a ∷ [])) ≤ length l
row1-fits true a at l h = omega (arith, length-sets l at (a ∷ []))
row1-fits false a at l h = omega arith

-- of a transaction row
pub row_fits : (b : Bool) (r : Named) (at : ℕ) (l : List ℕ) → plus b at * transaction_width ≤ length (sets l (at * transaction_width) (opt b (transaction_words r))) → at * transaction_width + length (opt b (transaction_words r)) ≤ length l
row_fits true r at l h = omega (arith, length-sets l (at * transaction_width) (transaction_words r))
row_fits false r at l h = omega arith

pub row3-fits : (b : Bool) (x y z at : ℕ) (l : List ℕ) → plus b at * 3 ≤ length (sets l (at * 3) (opt b (x ∷ y ∷ z ∷ []))) → at * 3 + length (opt b (x ∷ y ∷ z ∷ [])) ≤ length l
row3-fits true x y z at l h = omega (arith, length-sets l (at * 3) (x ∷ y ∷ z ∷ []))
row3-fits false x y z at l h = omega arith

pub plus_le : (b : Bool) (n : ℕ) → n ≤ plus b n
plus_le true n = omega arith
plus_le false n = omega arith

-- what the rows of an effect ask
module _ (k : Desk) where
  pub device-asks : (a x : ℕ) → RoomEffect (effect_desk (NewDevice a) x k) → k.hand.devices + 1 ≤ length k.devices
  device-asks a x r = omega (arith, r.devices, length-sets k.devices k.hand.devices (a ∷ []))

  pub total-asks : (n : ℕ) (waited : Bool) (i x : ℕ) → RoomEffect (effect_desk (IndexData n waited i) x k) → (k.hand.written.links + 1) * link_width ≤ length k.links
  total-asks n waited i x r = omega (arith, r.links, length-sets k.links (k.hand.written.links * link_width) (total_words (IndexData n waited i) x (entry_at k.table x) k.hand.written.link))
