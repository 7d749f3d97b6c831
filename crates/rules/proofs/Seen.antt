-- What a step leaves of the transaction: its slot, its style and its endpoint, which only transaction_start, _append and _end and a keepalive change.
use mathlib.Core.Path.{◌≡◌, refl, ◌∙◌}
use mathlib.Core.Bool.{Bool, true, false, ◌||◌}
use mathlib.Core.List.{List}
use Prim.Native.Nat.{ℕ}
use lib.Dec.{eqb}
use lib.ListN.{length}
use Rattle.usb.specs.Fields.{setup_data_of}
use Rattle.transaction.specs.Table.{pick}
use Rattle.transaction.proofs.Laws.{extract-keeps}
use Rattle.transaction.specs.declared.Style.{Style}
use Rattle.endpoints.specs.Table.{with_phase}
use Rattle.std.specs.Prelude.{Option, Some, None as Absent}
use Rattle.endpoints.specs.declared.Phase.{Phase}
use Rattle.endpoints.specs.declared.Phase.TheVariants.{None, Early, Active, Ended}
use Rattle.rules.specs.World.{World, phase, change}
use Rattle.rules.specs.Endpoints.{device_for, add_endpoint_on, found, packet_endpoint_at, packet_endpoint}
use Rattle.rules.specs.Groups.{link, link_once, end_early, end_active, add_group, undecided, group_early_append, starts_early, group_early_start}
use Rattle.rules.specs.Transactions.{extracted}
use Rattle.rules.specs.declared.Slot.{Slot}

pub record Seen : Type 0 where
  pub slot : Slot
  pub style : Style
  pub endpoint : ℕ

abbrev pub seen : World → Seen
seen w = record { slot = w.slot; style = w.transaction.style; endpoint = w.transaction.endpoint }

add-seen : (g : Option ℕ) (d a : ℕ) (w : World) → seen (add_endpoint_on g d a w) ≡ seen w
add-seen (Some i) d a w = refl
add-seen Absent d a w = refl

place-seen : (g : Option ℕ) (pid : ℕ) (p : List ℕ) (w : World) → seen (packet_endpoint_at g pid p w) ≡ seen w
place-seen (Some i) pid p w = refl
place-seen Absent pid p w = add-seen (device_for _ w) _ _ w

pub packet-seen : (pid : ℕ) (p : List ℕ) (w : World) → seen (packet_endpoint pid p w) ≡ seen w
packet-seen pid p w = place-seen (found pid p w) pid p w

end_early-seen : (p : Phase) (x : ℕ) (w : World) → seen (end_early p x w) ≡ seen w
end_early-seen None x w = refl
end_early-seen Early x w = refl
end_early-seen Active x w = refl
end_early-seen Ended x w = refl

end_active-seen : (p : Phase) (x : ℕ) (w : World) → seen (end_active p x w) ≡ seen w
end_active-seen None x w = refl
end_active-seen Early x w = refl
end_active-seen Active x w = refl
end_active-seen Ended x w = refl

once-seen : (b : Bool) (x : ℕ) (w : World) → seen (pick b w (link x w)) ≡ seen w
once-seen true x w = refl
once-seen false x w = refl

early-seen : (b : Bool) (x : ℕ) (w : World) → seen (pick b (change x (with_phase Early) (add_group x (end_early (phase x w) x w))) w) ≡ seen w
early-seen true x w = once-seen v.transaction.linked x v ∙ (end_active-seen (phase x u) x u ∙ end_early-seen (phase x w) x w)
  where
    u : World
    u = end_early (phase x w) x w

    v : World
    v = end_active (phase x u) x u
early-seen false x w = refl

pub start_seen : (pid x : ℕ) (w : World) → seen (group_early_start pid x w) ≡ seen w
unfolding group_early_start
start_seen pid x w = early-seen (starts_early pid (phase x w)) x w

pub append-seen : (w : World) → seen (group_early_append w) ≡ seen w
unfolding group_early_append
append-seen w = by (eqb w.transaction.endpoint 0 || undecided (w.endpoints w.transaction.endpoint))
  where
    by : (b : Bool) → seen (pick b w (link_once w.transaction.endpoint w)) ≡ seen w
    by true = refl
    by false = once-seen w.transaction.linked w.transaction.endpoint w

pub extract-seen : (high : Bool) (pid : ℕ) (p : List ℕ) (w : World) → seen (extracted high pid p w) ≡ seen w
extract-seen high pid p w = let k = extract-keeps high w.transaction pid (length p) (setup_data_of p) in rw (k.style, k.endpoint)
