-- The end of the current transaction: from the state that a call begins with to the world and the memory after it.
use Prim.Native.Nat.{ℕ, ◌<◌, ◌≤◌}
use mathlib.Core.Bool.{Bool, true, false}
use mathlib.Core.Path.{◌≡◌, refl, sym, ap, ◌∙◌, subst}
use native.Mathlib.Omega.{arith}
use Rattle.transaction.specs.Payload.{start_pid}
use Rattle.group.specs.declared.Effect.{Effect}
use Rattle.group.specs.declared.Effect.TheVariants.{NoEffect}
use Rattle.rules.specs.Groups.{becomes, effect_step}
use Rattle.rules.specs.Rows.{log}
use Rattle.rules.specs.Decoder.{end_all_active}
use Rattle.rules.specs.World.{World, change, with_slot, with_keepalive}
use Rattle.rules.specs.declared.Slot.{Slot}
use Rattle.rules.specs.declared.Stamp.{Stamp}
use Rattle.update.specs.Update.{when, act}
use Rattle.write.proofs.HoldsLaws.{holds-altered}
use Rattle.write.specs.Memory.{Memory}
use Rattle.write_update.proofs.CarriedLaws.{holds-carried}
use Rattle.write_update.proofs.TabledLaws.{carried_tabled}
use Rattle.record.proofs.TabledLaws.{tabled_store, tabled-ended}
use Rattle.call.specs.State.{State}
use Rattle.plan.specs.Sound.{EndFits}
use Rattle.plan.specs.Step.{ended}
use Rattle.plan.specs.declared.End.{End}
use Rattle.plan.proofs.Frame.{Rest, act-rest, act-log}
use Rattle.plan.proofs.Played.{event_untouched, keepalive_untouched, ended-keeps, ended-tied}
use Rattle.write_event.proofs.EndedLaws.{over-log, ended-holds as all-holds}
use Rattle.write_event.specs.Rows.{all_ended}
use Rattle.write_event.proofs.RowsLaws.{holds_alike, slot_alike, keepalive_alike}
use Rattle.events.specs.Ended.{closed_on}
use Rattle.events.proofs.Reached.{HoldsAt, Reached}

-- an end that has no effect
quiet : (x : ℕ) (e : End) (w : World) → e.effect ≡ NoEffect → ended x e w ≡ act e.update x (change x (becomes e.entry) w)
unfolding ended
quiet x e w q = ap (λ (f : Effect). effect_step f x (act e.update x (change x (becomes e.entry) w))) q

module _ (c : Stamp) (s : State) (b : Bool) (w : World) (m : Memory) (h : Reached c s b w m) where
  pub reached-ended : (x : ℕ) (e : End) → EndFits x e w → e.effect ≡ NoEffect
      → Reached c s b (ended x e w) (closed_on x e s.decoder.counts.endpoints s.decoder.transaction.id (start_pid s.decoder.transaction.style) m)
  reached-ended x e f q =
      record {
        holds =
            subst (λ (v : World). HoldsAt c s v after) (sym (quiet x e w q))
            (holds-carried few byte x there e.update (holds-altered h.holds x (becomes e.entry) there few (λ a b. f.bytes)));
        table = carried_tabled few byte x there e.update s.decoder.transaction.id _ (tabled_store h.table few x e.entry there f.bytes);
        devices = λ j. ap (λ (v : World). v.devices j) (quiet x e w q) ∙ ap (λ (r : Rest). r.devices j) (act-rest e.update x (change x (becomes e.entry) w)) ∙ h.devices j;
        transaction = ended-tied s.decoder.transaction x e w h.transaction;
        event = ended-keeps _ event_untouched x e w ∙ h.event;
        keepalive = ended-keeps _ keepalive_untouched x e w ∙ h.keepalive;
        transactions = ap (λ (v : World). v.transactions) (quiet x e w q) ∙ ap (λ (r : Rest). r.transactions) (act-rest e.update x (change x (becomes e.entry) w)) ∙ h.transactions;
        logs =
            λ k a. ap (λ (v : World). log k v.journal) (quiet x e w q)
            ∙ act-log k (a 6 (omega arith) (omega arith)) (a 7 (omega arith) (omega arith)) (a 8 (omega arith) (omega arith)) (a 9 (omega arith) (omega arith)) (a 10 (omega arith) (omega arith)) e.update x (change x (becomes e.entry) w)
            ∙ h.logs k a;
      }
    where
      after : Memory
      after = closed_on x e s.decoder.counts.endpoints s.decoder.transaction.id (start_pid s.decoder.transaction.style) m

      few : s.decoder.counts.endpoints ≤ 128
      few = subst (λ (c : ℕ). c ≤ 128) h.holds.count f.few

      there : x < s.decoder.counts.endpoints
      there = subst (λ (c : ℕ). x < c) h.holds.count f.there

      byte : start_pid s.decoder.transaction.style < 256
      byte = subst (λ (p : ℕ). p < 256) h.holds.began f.token

  -- another slot
  pub reached-slot : (z : Slot) → Reached c s b (with_slot z w) m
  reached-slot z =
      record { holds = holds_alike (slot_alike w z) h.holds; table = h.table; devices = h.devices; transaction = h.transaction; event = h.event; keepalive = h.keepalive; transactions = h.transactions; logs = h.logs }

  -- another keepalive group
  pub reached-keepalive : (k : Bool) → Reached c s k (with_keepalive k w) m
  reached-keepalive k =
      record { holds = holds_alike (keepalive_alike w k) h.holds; table = h.table; devices = h.devices; transaction = h.transaction; event = h.event; keepalive = refl; transactions = h.transactions; logs = h.logs }

  -- every active group ends
  pub reached-all : s.decoder.counts.endpoints ≤ 128 → Reached c s b (end_all_active w) (all_ended s.decoder.counts.endpoints m)
  reached-all few =
      record {
        holds = all-holds h.holds few;
        table = tabled-ended h.table few;
        devices = h.devices;
        transaction = h.transaction;
        event = h.event;
        keepalive = h.keepalive;
        transactions = h.transactions;
        logs = λ k a. over-log k w.count w.endpoints w.journal ∙ h.logs k a;
      }

-- a step that may be absent
pub reached-when : (c : Stamp) (s : State) (b on : Bool) (f : World → World) (g : Memory → Memory) (w : World) (m : Memory) → (on ≡ true → Reached c s b (f w) (g m)) → Reached c s b w m → Reached c s b (when on f w) (when on g m)
reached-when c s b true f g w m step h = step refl
reached-when c s b false f g w m step h = h
