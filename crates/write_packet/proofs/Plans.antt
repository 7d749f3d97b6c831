-- A packet's steps in a row: a step that has room had it before too, so what each step asks follows from what all ask and the room at the end.
use Prim.Native.Nat.{ℕ, ◌*◌, ◌≤◌}
use native.Mathlib.Omega.{arith}
use mathlib.Core.Bool.{Bool, true, false}
use mathlib.Core.List.{[]}
use mathlib.Core.Path.{◌≡◌, refl, ap, ◌∙◌}
use lib.Seq.{length-sets}
use Rattle.rows.specs.Widths.{endpoint_width, transaction_width}
use Rattle.endpoints.specs.Table.{entry_at}
use Rattle.transaction.specs.Payload.{start_pid}
use Rattle.group.specs.declared.Effect.{Effect}
use Rattle.group.specs.declared.Effect.TheVariants.{NoEffect, NewDevice, Request, PendingData, IndexData}
use Rattle.update.specs.Update.{when}
use Rattle.write.specs.Memory.{Memory, Room}
use Rattle.write_update.specs.Carried.{opened, carried}
use Rattle.write_update.proofs.Rooms.{room-opened, room-closed}
use Rattle.update.specs.declared.Update.{Update}
use Rattle.plan.specs.declared.Begin.{Begin}
use Rattle.plan.specs.declared.End.{End}
use Rattle.plan.specs.declared.Plan.{Plan}
use Rattle.write_packet.specs.Asked.{RoomAll, BeginsIf, EndsIf, PlanAsks}
use Rattle.write_packet.specs.Desk.{Desk, desk, memory_of, transaction_words_if, device_words, endpoint_words, opened_desk, begun_desk, stored_desk, devices_by, new_device_words, closing_desk, ended_desk, desk2, desk3, desk4}
use Rattle.write_packet.proofs.ReadyLaws.{begins_if, ends_if}
use Rattle.write_packet.proofs.Parts.{plus_le}
use Rattle.write_packet.proofs.Steps.{room_effect}

-- ---- room before a step, from room after it

carried-room : (u : Update) (n x id pid : ℕ) (m : Memory) → Room (carried u n x id pid m) → Room m
carried-room u n x id pid m r = room-opened u n x id m (room-closed u n x pid (opened u n x id m) r)

pub room-begun : (s : Begin) (k : Desk) → RoomAll (begun_desk s k) → RoomAll k
unfolding begun_desk
room-begun s k r =
    record {
      memory = bare (carried-room s.update _ s.transaction.endpoint s.transaction.id (start_pid s.transaction.style) (memory_of (opened_desk s k)) r.memory);
      devices = omega (arith, r.devices, plus_le s.device k.hand.devices, length-sets k.devices k.hand.devices (device_words s));
      endpoints = omega (arith, r.endpoints, plus_le s.endpoint k.hand.endpoints, length-sets k.endpoints (k.hand.endpoints * endpoint_width) (endpoint_words s));
      transactions = omega (arith, r.transactions, plus_le s.row k.hand.transactions, length-sets k.transactions (k.hand.transactions * transaction_width) (transaction_words_if k.hand.written.stamp s));
    }
  where
    bare : Room (memory_of (opened_desk s k)) → Room (memory_of k)
    bare a = record { groups = a.groups; states = a.states; statebytes = a.statebytes; items = a.items; links = a.links; numbers = record { groups = a.numbers.groups; statebytes = a.numbers.statebytes; items = a.numbers.items } }

devices_le : (f : Effect) (n : ℕ) → n ≤ devices_by f n
devices_le NoEffect n = omega arith
devices_le (NewDevice address) n = omega arith
devices_le (Request m) n = omega arith
devices_le (PendingData m) n = omega arith
devices_le (IndexData m waited i) n = omega arith

pub room-ended : (x id pid : ℕ) (s : End) (k : Desk) → RoomAll (ended_desk x id pid s k) → RoomAll k
unfolding ended_desk
room-ended x id pid s k r =
    record {
      memory = bare (carried-room s.update _ x id pid (memory_of (stored_desk x s.entry k)) (room_effect s.effect x (closing_desk x id pid s k) r.memory));
      devices = omega (arith, r.devices, devices_le s.effect k.hand.devices, length-sets k.devices k.hand.devices (new_device_words s.effect));
      endpoints = r.endpoints;
      transactions = r.transactions;
    }
  where
    bare : Room (memory_of (stored_desk x s.entry k)) → Room (memory_of k)
    bare a = record { groups = a.groups; states = a.states; statebytes = a.statebytes; items = a.items; links = a.links; numbers = record { groups = a.numbers.groups; statebytes = a.numbers.statebytes; items = a.numbers.items } }

when-room : (b : Bool) (f : Desk → Desk) → ((k : Desk) → RoomAll (f k) → RoomAll k) → (k : Desk) → RoomAll (when b f k) → RoomAll k
when-room true f step k r = step k r
when-room false f step k r = r

-- ---- the four steps

module _ (p : Plan) (k : Desk) (a : PlanAsks p k) where
  room4 : RoomAll (desk4 p k)
  room4 = when-room p.closes _ (λ y r. room-ended p.begin.transaction.endpoint p.begin.transaction.id (start_pid p.begin.transaction.style) p.close y r) (desk4 p k) a.room

  room3 : RoomAll (desk3 p k)
  room3 = room-begun p.begin (desk3 p k) room4

  room2 : RoomAll (desk2 p k)
  room2 = when-room p.ends _ (λ y r. room-ended p.old p.brought.id (start_pid p.brought.style) p.end y r) (desk2 p k) room3

  pub first : BeginsIf p.resumes p.resume (desk k.hand k.table k.devices k.endpoints k.transactions k.groups k.statebytes k.states k.items k.links)
  first = begins_if p.resumes p.resume k k refl room2 a.resume

  pub second : (pid : ℕ) → pid ≡ start_pid p.brought.style → (k₁ : Desk) → k₁ ≡ desk2 p k
      → EndsIf p.ends p.old p.brought.id pid p.end (desk k₁.hand k₁.table k₁.devices [] [] k₁.groups k₁.statebytes k₁.states k₁.items k₁.links)
  second pid f k₁ e = ends_if p.ends p.old p.brought.id (start_pid p.brought.style) pid p.end (desk2 p k) k₁ e f room3 a.end

  pub third : (k₁ : Desk) → k₁ ≡ desk3 p k
      → BeginsIf true p.begin (desk k₁.hand k₁.table k₁.devices k₁.endpoints k₁.transactions k₁.groups k₁.statebytes k₁.states k₁.items k₁.links)
  third k₁ e = begins_if true p.begin (desk3 p k) k₁ e room4 (λ t. a.begin)

  pub fourth : (pid : ℕ) → pid ≡ start_pid p.begin.transaction.style → (k₁ : Desk) → k₁ ≡ desk4 p k
      → EndsIf p.closes p.begin.transaction.endpoint p.begin.transaction.id pid p.close (desk k₁.hand k₁.table k₁.devices [] [] k₁.groups k₁.statebytes k₁.states k₁.items k₁.links)
  fourth pid f k₁ e =
      ends_if p.closes p.begin.transaction.endpoint p.begin.transaction.id (start_pid p.begin.transaction.style) pid p.close (desk4 p k) k₁ e f a.room a.close

-- an end with the token as the code has it
pub end-then : (on : Bool) (x id pid pid₁ : ℕ) (s : End) (k k₁ k₂ : Desk) → k₁ ≡ k → pid₁ ≡ pid → k₂ ≡ when on (ended_desk x id pid₁ s) k₁ → k₂ ≡ when on (ended_desk x id pid s) k
end-then on x id pid pid₁ s k k₁ k₂ e f g =
    g ∙ ap (λ (p : ℕ). when on (ended_desk x id p s) k₁) f ∙ ap (when on (ended_desk x id pid s)) e
