-- Inner (cited by private contracts alone): what carrying a step out asks: numbers in their ranges, and room for its rows in the logs that are lent.
use Rattle.std.specs.Prelude.{ℕ, ◌+◌, ◌*◌, ◌^◌, ◌<◌, ◌≤◌, Bool, true, false, List, ◌≡◌, length}
use Rattle.rows.specs.One.{one}
use Rattle.rows.specs.Widths.{endpoint_width, link_width, transaction_width}
use Rattle.endpoints.specs.Table.{entry_at}
use Rattle.transaction.specs.Payload.{start_pid}
use Rattle.update.specs.Effect.{passes}
use Rattle.write.specs.Memory.{Room}
use Rattle.plan.specs.declared.Begin.{Begin}
use Rattle.plan.specs.declared.End.{End}
use Rattle.plan.specs.declared.Plan.{Plan}
use Rattle.write_packet.specs.Desk.{Desk, desk, memory_of, opened_desk, begun_desk, stored_desk, closing_desk, ended_desk, desk2, desk3, desk4, performed}
use Rattle.write_packet.specs.declared.Hand.{Hand}

-- ---- room: the rows fit their logs

-- in the logs of rows that a step begins with; in those of an effect; in all eight
pub record RoomRows (k : Desk) : Type 0 where
  pub devices : k.hand.devices ≤ length k.devices
  pub endpoints : k.hand.endpoints * endpoint_width ≤ length k.endpoints
  pub transactions : k.hand.transactions * transaction_width ≤ length k.transactions

pub record RoomEffect (k : Desk) : Type 0 where
  pub devices : k.hand.devices ≤ length k.devices
  pub links : k.hand.written.links * link_width ≤ length k.links

pub record RoomAll (k : Desk) : Type 0 where
  pub memory : Room (memory_of k)
  pub devices : k.hand.devices ≤ length k.devices
  pub endpoints : k.hand.endpoints * endpoint_width ≤ length k.endpoints
  pub transactions : k.hand.transactions * transaction_width ≤ length k.transactions

-- ---- a step that begins

pub record BeginAsks (s : Begin) (k : Desk) : Type 0 where
  pub few : (opened_desk s k).hand.endpoints ≤ 128
  pub there : s.transaction.endpoint < (opened_desk s k).hand.endpoints
  pub transactions : (entry_at (opened_desk s k).table s.transaction.endpoint).transactions + one s.update.link < 2 ^ 64
  pub groups : (entry_at (opened_desk s k).table s.transaction.endpoint).groups + one s.update.start < 2 ^ 64

-- ---- a step that ends

pub record EndAsks (x id pid : ℕ) (s : End) (k : Desk) : Type 0 where
  pub few : k.hand.endpoints ≤ 128
  pub there : x < k.hand.endpoints
  pub transactions : (entry_at (stored_desk x s.entry k).table x).transactions + one s.update.link < 2 ^ 64
  pub groups : (entry_at (stored_desk x s.entry k).table x).groups + one s.update.start < 2 ^ 64
  -- no byte total passes 2^64 - 1 (answer 9)
  pub total : passes s.effect (entry_at (closing_desk x id pid s k).table x).total ≡ false

-- ---- where the flag says so; a log that is not lent holds nothing here, and a step does not write on it

pub record BeginReady (s : Begin) (k : Desk) : Type 0 where
  pub asks : BeginAsks s k
  pub memory : Room (memory_of (begun_desk s k))
  pub rows : RoomRows (begun_desk s k)

pub record EndReady (x id pid : ℕ) (s : End) (k : Desk) : Type 0 where
  pub asks : EndAsks x id pid s k
  pub memory : Room (memory_of (ended_desk x id pid s k))
  pub effect : RoomEffect (ended_desk x id pid s k)

abbrev pub BeginsIf : Bool → Begin → Desk → Type 0
BeginsIf on s k = on ≡ true → BeginReady s k

abbrev pub EndsIf : Bool → ℕ → ℕ → ℕ → End → Desk → Type 0
EndsIf on x id pid s k = on ≡ true → EndReady x id pid s k

-- ---- all steps of a packet

pub record PlanAsks (p : Plan) (k : Desk) : Type 0 where
  pub resume : p.resumes ≡ true → BeginAsks p.resume k
  pub end : p.ends ≡ true → EndAsks p.old p.brought.id (start_pid p.brought.style) p.end (desk2 p k)
  pub begin : BeginAsks p.begin (desk3 p k)
  pub close : p.closes ≡ true → EndAsks p.begin.transaction.endpoint p.begin.transaction.id (start_pid p.begin.transaction.style) p.close (desk4 p k)
  pub room : RoomAll (performed p k)

-- ---- a step f over some of the logs, whatever the others hold: what stands after it is f of what stood before

abbrev pub OnRows : (Desk → Desk) → Hand → List ℕ → List ℕ → List ℕ → List ℕ → Hand → List ℕ → List ℕ → List ℕ → List ℕ → Type 0
OnRows f h t d e r h' t' d' e' r' = (g m s i l : List ℕ) → desk h' t' d' e' r' g m s i l ≡ f (desk h t d e r g m s i l)

abbrev pub OnEffect : (Desk → Desk) → Hand → List ℕ → List ℕ → List ℕ → Hand → List ℕ → List ℕ → List ℕ → Type 0
OnEffect f h t d l h' t' d' l' = (e r g m s i : List ℕ) → desk h' t' d' e r g m s i l' ≡ f (desk h t d e r g m s i l)

abbrev pub OnEnd : (Desk → Desk) → Hand → List ℕ → List ℕ → List ℕ → List ℕ → List ℕ → List ℕ → List ℕ → Hand → List ℕ → List ℕ → List ℕ → List ℕ → List ℕ → List ℕ → List ℕ → Type 0
OnEnd f h t d g m s i l h' t' d' g' m' s' i' l' = (e r : List ℕ) → desk h' t' d' e r g' m' s' i' l' ≡ f (desk h t d e r g m s i l)
