-- What the two steps ask of their parts and what their parts make of the desk, over plain variables.
use Prim.Native.Nat.{ℕ, ◌+◌, ◌*◌, ◌^◌, ◌<◌, ◌≤◌}
use native.Mathlib.Omega.{arith}
use mathlib.Core.Bool.{false}
use mathlib.Core.List.{List, []}
use mathlib.Core.Path.{◌≡◌, sym, ap, ◌∙◌, subst}
use lib.Seq.{length-sets}
use Rattle.rows.specs.One.{one}
use Rattle.rows.specs.Widths.{link_width}
use Rattle.endpoints.specs.Table.{entry_at, store_at}
use Rattle.transaction.specs.Payload.{start_pid}
use Rattle.group.specs.declared.Effect.{Effect}
use Rattle.group.specs.declared.Effect.TheVariants.{NoEffect, NewDevice, Request, PendingData, IndexData}
use Rattle.update.specs.Effect.{passes}
use Rattle.update.specs.declared.Update.{Update}
use Rattle.write.specs.Memory.{Memory, Room, memory}
use Rattle.write_update.specs.Carried.{carried}
use Rattle.plan.specs.declared.Begin.{Begin}
use Rattle.plan.specs.declared.End.{End}
use Rattle.write_packet.specs.Asked.{RoomRows, RoomEffect, BeginReady, EndReady}
use Rattle.write_packet.specs.Desk.{Desk, desk, memory_of, with_written, with_memory, acted_desk, opened_desk, begun_desk, total_words, effect_desk, closing_desk, ended_desk}
use Rattle.write_packet.specs.declared.Hand.{Hand}

-- what carry_out asks, of the desk k that it begins with
abbrev pub CarryAsks : Update → ℕ → ℕ → ℕ → Desk → Type 0
CarryAsks u x id pid k =
    (k.hand.endpoints ≤ 128)
    × ((x < k.hand.endpoints)
    × (((entry_at k.table x).transactions + one u.link < 2 ^ 64)
    × (((entry_at k.table x).groups + one u.start < 2 ^ 64)
    × Room (carried u k.hand.endpoints x id pid (memory_of k)))))

-- and what it leaves
pub acted : (u : Update) (x id pid : ℕ) (k : Desk) (m : Memory) (r : Hand) → m ≡ carried u k.hand.endpoints x id pid (memory_of k) → r ≡ with_written m.written k.hand
    → desk r m.table k.devices k.endpoints k.transactions m.groups m.statebytes m.states m.items m.links ≡ acted_desk u x id pid k
acted u x id pid k m r e f =
    ap (λ (h : Hand). desk h m.table k.devices k.endpoints k.transactions m.groups m.statebytes m.states m.items m.links) f
    ∙ ap (λ (a : Memory). with_memory a k) e

-- ---- a step that begins

module _ (s : Begin) (k : Desk) (a : BeginReady s k) where
  pub open-asks : RoomRows (opened_desk s (desk k.hand k.table k.devices k.endpoints k.transactions [] [] [] [] []))
  unfolding begun_desk
  open-asks = record { devices = a.rows.devices; endpoints = a.rows.endpoints; transactions = a.rows.transactions }

  pub begin_carries : (k₁ : Desk) → k₁ ≡ opened_desk s k → (pid : ℕ) → pid ≡ start_pid s.transaction.style
      → CarryAsks s.update s.transaction.endpoint s.transaction.id pid k₁
  unfolding begun_desk
  begin_carries k₁ e pid f =
      subst (λ (y : Desk). CarryAsks s.update s.transaction.endpoint s.transaction.id pid y) (sym e)
      (subst (λ (p : ℕ). CarryAsks s.update s.transaction.endpoint s.transaction.id p (opened_desk s k)) (sym f)
      (a.asks.few, (a.asks.there, (a.asks.transactions, (a.asks.groups, a.memory)))))

pub begins : (s : Begin) (k k₁ k₂ : Desk) (pid : ℕ) → k₁ ≡ opened_desk s k → pid ≡ start_pid s.transaction.style
    → k₂ ≡ acted_desk s.update s.transaction.endpoint s.transaction.id pid k₁ → k₂ ≡ begun_desk s k
unfolding begun_desk
begins s k k₁ k₂ pid e f g =
    g ∙ ap (λ (p : ℕ). acted_desk s.update s.transaction.endpoint s.transaction.id p k₁) f
    ∙ ap (acted_desk s.update s.transaction.endpoint s.transaction.id (start_pid s.transaction.style)) e

-- ---- a step that ends

-- an effect has links at most
pub room_effect : (f : Effect) (x : ℕ) (k : Desk) → Room (memory_of (effect_desk f x k)) → Room (memory_of k)
room_effect NoEffect x k r = record { groups = r.groups; states = r.states; statebytes = r.statebytes; items = r.items; links = r.links; numbers = record { groups = r.numbers.groups; statebytes = r.numbers.statebytes; items = r.numbers.items } }
room_effect (NewDevice address) x k r = record { groups = r.groups; states = r.states; statebytes = r.statebytes; items = r.items; links = r.links; numbers = record { groups = r.numbers.groups; statebytes = r.numbers.statebytes; items = r.numbers.items } }
room_effect (Request n) x k r = record { groups = r.groups; states = r.states; statebytes = r.statebytes; items = r.items; links = r.links; numbers = record { groups = r.numbers.groups; statebytes = r.numbers.statebytes; items = r.numbers.items } }
room_effect (PendingData n) x k r = record { groups = r.groups; states = r.states; statebytes = r.statebytes; items = r.items; links = r.links; numbers = record { groups = r.numbers.groups; statebytes = r.numbers.statebytes; items = r.numbers.items } }
room_effect (IndexData n waited i) x k r =
    record {
      groups = r.groups;
      states = r.states;
      statebytes = r.statebytes;
      items = r.items;
      links = omega (arith, r.links, length-sets k.links (k.hand.written.links * link_width) (total_words (IndexData n waited i) x (entry_at k.table x) k.hand.written.link));
      numbers = record { groups = r.numbers.groups; statebytes = r.numbers.statebytes; items = r.numbers.items };
    }

module _ (x id pid : ℕ) (s : End) (k : Desk) (a : EndReady x id pid s k) where
  pub end-there : x < 128
  end-there = omega (arith, a.asks.there, a.asks.few)

  pub end_carries : (t : List ℕ) → t ≡ store_at k.table x s.entry
      → CarryAsks s.update x id pid (desk k.hand t k.devices k.endpoints k.transactions k.groups k.statebytes k.states k.items k.links)
  unfolding ended_desk
  end_carries t e =
      subst (λ (y : List ℕ). CarryAsks s.update x id pid (desk k.hand y k.devices k.endpoints k.transactions k.groups k.statebytes k.states k.items k.links)) (sym e)
      (a.asks.few, (a.asks.there, (a.asks.transactions, (a.asks.groups, room_effect s.effect x (closing_desk x id pid s k) a.memory))))

  pub effect-asks : (k₂ : Desk) → k₂ ≡ closing_desk x id pid s k
      → (x < 128) × ((passes s.effect (entry_at k₂.table x).total ≡ false) × RoomEffect (effect_desk s.effect x (desk k₂.hand k₂.table k₂.devices [] [] [] [] [] [] k₂.links)))
  unfolding ended_desk
  effect-asks k₂ e =
      subst (λ (y : Desk). (x < 128) × ((passes s.effect (entry_at y.table x).total ≡ false) × RoomEffect (effect_desk s.effect x (desk y.hand y.table y.devices [] [] [] [] [] [] y.links)))) (sym e)
      (end-there, (a.asks.total, record { devices = a.effect.devices; links = a.effect.links }))

pub stored_acted : (x id pid : ℕ) (s : End) (k k₂ : Desk) (t : List ℕ) → t ≡ store_at k.table x s.entry
    → k₂ ≡ acted_desk s.update x id pid (desk k.hand t k.devices k.endpoints k.transactions k.groups k.statebytes k.states k.items k.links)
    → k₂ ≡ closing_desk x id pid s k
stored_acted x id pid s k k₂ t e g =
    g ∙ ap (λ (y : List ℕ). acted_desk s.update x id pid (desk k.hand y k.devices k.endpoints k.transactions k.groups k.statebytes k.states k.items k.links)) e

pub ends : (x id pid : ℕ) (s : End) (k k₂ k₃ : Desk) → k₂ ≡ closing_desk x id pid s k → k₃ ≡ effect_desk s.effect x k₂ → k₃ ≡ ended_desk x id pid s k
unfolding ended_desk
ends x id pid s k k₂ k₃ e g = g ∙ ap (effect_desk s.effect x) e
