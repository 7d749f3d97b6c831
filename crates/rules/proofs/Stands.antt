-- A transaction's end, whatever the group's status, leaves the number of endpoints and the event endpoint's address: so the special endpoints stand.
use mathlib.Core.Path.{◌≡◌, refl, sym, ap, ◌∙◌}
use mathlib.Core.Bool.{Bool, true, false}
use Prim.Native.Nat.{ℕ, ◌+◌}
use borrow.Author.Tests.{eqb-true}
use lib.Dec.{eqb}
use Rattle.transaction.specs.Table.{pick}
use Rattle.transaction.specs.Payload.{start_pid}
use Rattle.endpoints.specs.Table.{with_phase}
use Rattle.endpoints.specs.declared.Endpoint.{Endpoint}
use Rattle.endpoints.specs.declared.Phase.{Phase}
use Rattle.endpoints.specs.declared.Phase.TheVariants.{None, Early, Active, Ended}
use Rattle.group.specs.declared.Effect.{Effect}
use Rattle.group.specs.declared.Effect.TheVariants.{NoEffect, NewDevice, Request, PendingData, IndexData}
use Rattle.group.specs.declared.Grouped.{Grouped}
use Rattle.group.specs.declared.GroupStatus.{GroupStatus}
use Rattle.group.specs.declared.GroupStatus.TheVariants.{Single, New, Continue, Retry, Done, Invalid}
use Rattle.group.proofs.Laws.{group-keeps}
use Rattle.rules.specs.World.{World, phase, change, with_last, cleared, with_pending, with_total, more_transactions, more_groups}
use Rattle.rules.specs.Endpoints.{detail_of}
use Rattle.rules.specs.Groups.{add_item, add_group_entry, link, link_once, over, end_active, add_group, group_end_at, group_end, activated, activate, group_start_at, group_start, group_append_at, group_append, group_step, effect_step, grouped, becomes, group_update}
use Rattle.rules.specs.Tokened.{Stands}
use Rattle.rules.specs.Transactions.{transaction_end_at, transaction_end, resume_at}
use Rattle.rules.specs.declared.Slot.{Slot}
use Rattle.rules.specs.declared.Slot.TheVariants.{Empty, Current, Suspended}

-- ---- one endpoint changed

stands_by : (f : Endpoint → Endpoint) (b : Bool) (a : Endpoint) → (f a).address ≡ a.address → (pick b (f a) a).address ≡ a.address
stands_by f true a h = h
stands_by f false a h = refl

changed : (f : Endpoint → Endpoint) → ((a : Endpoint) → (f a).address ≡ a.address) → (x : ℕ) (w : World) → Stands w → Stands (change x f w)
changed f h x w s = (s.0, stands_by f (eqb 0 x) (w.endpoints 0) (h (w.endpoints 0)) ∙ s.1)

-- as group_status leaves it
became : (b : Endpoint) (x : ℕ) (w : World) → b.address ≡ (w.endpoints x).address → Stands w → Stands (change x (becomes b) w)
became b x w h s = (s.0, at (eqb 0 x) refl ∙ s.1)
  where
    at : (c : Bool) → eqb 0 x ≡ c → (pick c b (w.endpoints 0)).address ≡ (w.endpoints 0).address
    at true q = h ∙ ap (λ (j : ℕ). (w.endpoints j).address) (sym (eqb-true 0 x q))
    at false q = refl

-- ---- groups

linked : (x : ℕ) (w : World) → Stands w → Stands (link x w)
linked x w s = changed more_transactions (λ a. refl) x w s

once : (b : Bool) (x : ℕ) (w : World) → Stands w → Stands (pick b w (link x w))
once true x w s = s
once false x w s = linked x w s

overed : (x : ℕ) (w : World) → Stands w → Stands (over x w)
overed x w s = changed (with_phase Ended) (λ a. refl) x w s

active-ended : (p : Phase) (x : ℕ) (w : World) → Stands w → Stands (end_active p x w)
active-ended None x w s = s
active-ended Early x w s = s
active-ended Active x w s = overed x w s
active-ended Ended x w s = s

group_added : (x : ℕ) (w : World) → Stands w → Stands (add_group x w)
group_added x w s = changed more_groups (λ a. refl) x (link_once x v) (once v.transaction.linked x v (active-ended (phase x w) x w s))
  where
    v : World
    v = end_active (phase x w) x w

ended_at : (p : Phase) (x : ℕ) (w : World) → Stands w → Stands (group_end_at p x w)
ended_at None x w s = s
ended_at Early x w s = s
ended_at Active x w s = by (eqb v.last_item x) (overed x w s)
  where
    v : World
    v = add_group_entry x false (over x w)

    by : (b : Bool) → Stands v → Stands (pick b v (add_item x v))
    by true h = h
    by false h = h
ended_at Ended x w s = s

ended : (x : ℕ) (w : World) → Stands w → Stands (group_end x w)
ended x w s = ended_at (phase x w) x (change x cleared w) (changed cleared (λ a. refl) x w s)

activates : (done : Bool) (x : ℕ) (w : World) → Stands w → Stands (activate done x w)
activates done x w s = changed (activated done (start_pid w.transaction.style)) (λ a. refl) x w s

started_at : (p : Phase) (done : Bool) (x : ℕ) (w : World) → Stands w → Stands (group_start_at p done x w)
started_at None done x w s = activates done x (add_group x w) (group_added x w s)
started_at Early done x w s = activates done x w s
started_at Active done x w s = activates done x (add_group x w) (group_added x w s)
started_at Ended done x w s = activates done x (add_group x w) (group_added x w s)

started : (done : Bool) (x : ℕ) (w : World) → Stands w → Stands (group_start done x w)
started done x w s = started_at (phase x w) done x w s

appended_at : (p : Phase) (done : Bool) (x : ℕ) (w : World) → Stands w → Stands (group_append_at p done x w)
appended_at None done x w s = started done x w s
appended_at Early done x w s = started done x w s
appended_at Active done x w s = by done
  where
    v : World
    v = link_once x w

    h : Stands v
    h = once w.transaction.linked x w s

    by : (b : Bool) → Stands (pick b (change x (with_last (start_pid v.transaction.style)) v) v)
    by true = changed (with_last (start_pid v.transaction.style)) (λ a. refl) x v h
    by false = h
appended_at Ended done x w s = started done x w s

appended : (done : Bool) (x : ℕ) (w : World) → Stands w → Stands (group_append done x w)
appended done x w s = appended_at (phase x w) done x w s

stepped : (g : GroupStatus) (x : ℕ) (w : World) → Stands w → Stands (group_step g x w)
stepped Single x w s = ended x (group_start true x w) (started true x w s)
stepped New x w s = started true x w s
stepped Continue x w s = appended true x w s
stepped Retry x w s = appended false x w s
stepped Done x w s = ended x (group_append true x w) (appended true x w s)
stepped Invalid x w s = ended x (group_start false x w) (started false x w s)

affected : (f : Effect) (x : ℕ) (w : World) → Stands w → Stands (effect_step f x w)
affected NoEffect x w s = s
affected (NewDevice address) x w s = s
affected (Request n) x w s = s
affected (PendingData n) x w s = changed (with_pending n w.transaction.link) (λ a. refl) x w s
affected (IndexData n waited i) x w s = changed (with_total ((w.endpoints x).total + n)) (λ a. refl) x w s

updated : (x : ℕ) (success complete : Bool) (w : World) → Stands w → Stands (group_update x success complete w)
unfolding group_update
updated x success complete w s =
    affected r.effect x (group_step r.status x v) (stepped r.status x v (became r.endpoint x w (group-keeps (w.endpoints x) w.transaction (detail_of x w) success complete).address s))
  where
    r : Grouped
    r = grouped x success complete w

    v : World
    v = change x (becomes r.endpoint) w

-- ---- transactions

end_at : (z : Slot) (success complete : Bool) (w : World) → Stands w → Stands (transaction_end_at z success complete w)
end_at Empty success complete w s = s
end_at Current success complete w s = by (eqb w.transaction.endpoint 0)
  where
    by : (b : Bool) → Stands (pick b w (group_update w.transaction.endpoint success complete w))
    by true = s
    by false = updated w.transaction.endpoint success complete w s
end_at Suspended success complete w s = s

pub end_stands : (success complete : Bool) (w : World) → Stands w → Stands (transaction_end success complete w)
end_stands success complete w s = end_at w.slot success complete w s

pub resume_stands : (z : Slot) (n : ℕ) (w : World) → Stands w → Stands (resume_at z n w)
resume_stands Empty n w s = s
resume_stands Current n w s = s
resume_stands Suspended n w s = linked w.transaction.endpoint w s
