-- Laws: what an event does once no transaction is current.
use mathlib.Core.Path.{◌≡◌, refl}
use mathlib.Core.Bool.{Bool, false}
use Prim.Native.Nat.{ℕ, pred}
use Rattle.rules.specs.World.{World, ◌▷◌, event_ep}
use Rattle.rules.specs.Groups.{push_group, add_group_entry, add_item}
use Rattle.rules.specs.Transactions.{transaction_end_at, transaction_end, push_transaction}
use Rattle.rules.specs.Events as rules
use Rattle.rules.specs.declared.Slot.{Slot}
use Rattle.rules.specs.declared.Slot.TheVariants.{Empty, Current, Suspended}
use Rattle.event.specs.Event.{is_current}

-- no transaction is current, so event_add_subgroup ends none
pub settled : (w : World) → is_current w.slot ≡ false → transaction_end false false w ≡ w
settled w h = by w.slot h
  where
    by : (s : Slot) → is_current s ≡ false → transaction_end_at s false false w ≡ w
    by Empty h = refl
    by Current h = cc
    by Suspended h = refl

-- event_subgroup_start and event_add_group, once the transaction has ended
abbrev pub subgroup : ℕ → World → World
subgroup id w = w ▷ push_transaction id ▷ rules.event_link

abbrev pub group : ℕ → Bool → World → World
group id start w = subgroup id w ▷ (λ v. push_group event_ep (pred (v.endpoints event_ep).transactions) v) ▷ add_group_entry event_ep start ▷ add_item event_ep
