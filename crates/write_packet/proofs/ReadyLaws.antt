-- Laws (proved): what a step asks of memory follows from what it asks of the world that the desk holds (plan, Sound) and from the room at its end.
use Rattle.std.specs.Prelude.{ℕ, ◌+◌, ◌^◌, ◌<◌, ◌≤◌, Bool, true, false, [], ◌≡◌, refl, eqb}
use Rattle.std.proofs.lemmas.Bool.{false≢true}
use Rattle.std.proofs.Common.{sym, ap, ◌∙◌, subst, eq-eqb}
use Rattle.rows.specs.One.{one}
use Rattle.endpoints.specs.Table.{entry_at}
use Rattle.endpoints.specs.declared.Endpoint.{Endpoint}
use Rattle.transaction.specs.Payload.{start_pid}
use Rattle.transaction.specs.Table.{pick}
use Rattle.rules.specs.World.{World, change}
use Rattle.rules.specs.Groups.{becomes}
use Rattle.update.specs.Effect.{passes}
use Rattle.update.specs.Update.{when}
use Rattle.plan.specs.Sound.{BeginFits, EndFits}
use Rattle.plan.specs.declared.Begin.{Begin}
use Rattle.plan.specs.declared.End.{End}
use Rattle.plan.proofs.Frame.{act_fixed, total_fixed}
use Rattle.write_packet.specs.Asked.{RoomAll, BeginAsks, EndAsks, BeginReady, EndReady, BeginsIf, EndsIf}
use Rattle.write_packet.proofs.BesideLaws.{beside-act}
use Rattle.write_packet.specs.Desk.{Desk, desk, begun_desk, stored_desk, closing_desk, ended_desk}
use Rattle.write_packet.proofs.Held.{HoldsAll}
use Rattle.write_packet.proofs.HeldLaws.{opened-holds, stored-holds, closing-holds}

-- ---- numbers

pub begin-asks : {k₀ k : Desk} {w : World} (id : ℕ) (s : Begin) → BeginFits id s w → HoldsAll k₀ w k → k₀.hand.written.stamp.packet ≡ id → BeginAsks s k
begin-asks {k₀} {k} {w} id s fits h own =
    let o = opened-holds id s fits h own in
    let e = o.memory.endpoints s.transaction.endpoint fits.there in
    record {
      few = subst (λ (c : ℕ). c ≤ 128) (sym o.count) fits.few;
      there = subst (λ (c : ℕ). s.transaction.endpoint < c) (sym o.count) fits.there;
      transactions = subst (λ (a : Endpoint). a.transactions + one s.update.link < 2 ^ 64) (sym e) fits.transactions;
      groups = subst (λ (a : Endpoint). a.groups + one s.update.start < 2 ^ 64) (sym e) fits.groups;
    }

pick_same : (x : ℕ) (a b : Endpoint) → pick (eqb x x) a b ≡ a
pick_same x a b = rw (eq-eqb x x refl) refl

module _ {k₀ k : Desk} {w : World} (x : ℕ) (s : End) (fits : EndFits x s w) (h : HoldsAll k₀ w k) where
  -- the entry is stored
  entry-stored : entry_at (stored_desk x s.entry k).table x ≡ s.entry
  entry-stored = (stored-holds x s fits h).memory.endpoints x fits.there ∙ pick_same x s.entry (w.endpoints x)

  -- and the update keeps its total
  total_kept : (entry_at (closing_desk x w.transaction.id (start_pid w.transaction.style) s k).table x).total ≡ s.entry.total
  total_kept =
      let v = change x (becomes s.entry) w in
      ap (λ (e : Endpoint). e.total) ((closing-holds x s fits h).memory.endpoints x (subst (λ (c : ℕ). x < c) (sym (beside-act x s.update v).count) fits.there))
      ∙ act_fixed (λ e. e.total) total_fixed s.update x x v
      ∙ ap (λ (e : Endpoint). e.total) (pick_same x s.entry (w.endpoints x))

  pub end-asks : (id pid : ℕ) → w.transaction.id ≡ id → start_pid w.transaction.style ≡ pid → EndAsks x id pid s k
  end-asks id pid e f =
      subst (λ (i : ℕ). EndAsks x i pid s k) e
      (subst (λ (p : ℕ). EndAsks x w.transaction.id p s k) f
      (record {
        few = subst (λ (c : ℕ). c ≤ 128) (sym h.count) fits.few;
        there = subst (λ (c : ℕ). x < c) (sym h.count) fits.there;
        transactions = subst (λ (a : Endpoint). a.transactions + one s.update.link < 2 ^ 64) (sym entry-stored) fits.transactions;
        groups = subst (λ (a : Endpoint). a.groups + one s.update.start < 2 ^ 64) (sym entry-stored) fits.groups;
        total = subst (λ (t : ℕ). passes s.effect t ≡ false) (sym total_kept) fits.total;
      }))

-- ---- with the room at the end, and of the logs that are lent

when_on : (b : Bool) (f : Desk → Desk) (k : Desk) → b ≡ true → RoomAll (when b f k) → RoomAll (f k)
when_on true f k e r = r
when_on false f k e r = absurd (false≢true e)

begin-ready : (s : Begin) (k : Desk) → RoomAll (begun_desk s k) → BeginAsks s k
    → BeginReady s (desk k.hand k.table k.devices k.endpoints k.transactions k.groups k.statebytes k.states k.items k.links)
unfolding begun_desk
begin-ready s k r a =
    record {
      asks = record { few = a.few; there = a.there; transactions = a.transactions; groups = a.groups };
      memory = r.memory;
      rows = record { devices = r.devices; endpoints = r.endpoints; transactions = r.transactions };
    }

end-ready : (x id pid : ℕ) (s : End) (k : Desk) → RoomAll (ended_desk x id pid s k) → EndAsks x id pid s k
    → EndReady x id pid s (desk k.hand k.table k.devices [] [] k.groups k.statebytes k.states k.items k.links)
unfolding ended_desk
end-ready x id pid s k r a =
    record {
      asks = record { few = a.few; there = a.there; transactions = a.transactions; groups = a.groups; total = a.total };
      memory = r.memory;
      effect = record { devices = r.devices; links = r.memory.links };
    }

-- what begin_if and end_if require, of the desk k₁ that is k
pub begins_if : (on : Bool) (s : Begin) (k k₁ : Desk) → k₁ ≡ k → RoomAll (when on (begun_desk s) k) → (on ≡ true → BeginAsks s k)
    → BeginsIf on s (desk k₁.hand k₁.table k₁.devices k₁.endpoints k₁.transactions k₁.groups k₁.statebytes k₁.states k₁.items k₁.links)
begins_if on s k k₁ e r a =
    subst (λ (y : Desk). BeginsIf on s (desk y.hand y.table y.devices y.endpoints y.transactions y.groups y.statebytes y.states y.items y.links)) (sym e)
    (λ t. begin-ready s k (when_on on (begun_desk s) k t r) (a t))

pub ends_if : (on : Bool) (x id pid pid₁ : ℕ) (s : End) (k k₁ : Desk) → k₁ ≡ k → pid₁ ≡ pid → RoomAll (when on (ended_desk x id pid s) k) → (on ≡ true → EndAsks x id pid s k)
    → EndsIf on x id pid₁ s (desk k₁.hand k₁.table k₁.devices [] [] k₁.groups k₁.statebytes k₁.states k₁.items k₁.links)
ends_if on x id pid pid₁ s k k₁ e f r a =
    subst (λ (y : Desk). EndsIf on x id pid₁ s (desk y.hand y.table y.devices [] [] y.groups y.statebytes y.states y.items y.links)) (sym e)
    (subst (λ (p : ℕ). EndsIf on x id p s (desk k.hand k.table k.devices [] [] k.groups k.statebytes k.states k.items k.links)) (sym f)
    (λ t. end-ready x id pid s k (when_on on (ended_desk x id pid s) k t r) (a t)))
