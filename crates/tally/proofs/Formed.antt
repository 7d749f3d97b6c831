-- What a well-formed record gives the reckoning, and answers 7 and 9 of a packet and of finish from it.
use mathlib.Core.Path.{◌≡◌, refl, sym, ap, subst, ◌∙◌}
use mathlib.Core.Bool.{Bool, true, false, not, cond}
use mathlib.Core.List.{List}
use Prim.Native.Nat.{ℕ, zero, suc, ◌+◌, ◌<◌, ◌≤◌, ◌^◌}
use native.Mathlib.Omega.{arith}
use lib.ListN.{length}
use Rattle.plan.proofs.Ends.{ending-context}
use Rattle.plan.specs.declared.Ending.{Ending}
use Rattle.rules.specs.declared.Stamp.{Stamp}
use Rattle.transaction.specs.declared.Transaction.{Transaction}
use Rattle.endpoints.specs.Phases.{count, in_phase, waiting}
use Rattle.endpoints.proofs.PhasesLaws.{count_ext, phase-entry}
use Rattle.endpoints.specs.Table.{entry_at}
use Rattle.endpoints.specs.Word as word
use Rattle.details.specs.declared.Device.{Device}
use Rattle.rules.specs.World.{World, with_context, with_shelf}
use Rattle.rules.specs.declared.Slot.{Slot}
use Rattle.rules.specs.declared.Slot.TheVariants.{Empty, Current, Suspended}
use Rattle.rules.specs.World.{ended_in, waiting_of}
use Rattle.record.specs.Formed.{holds}
use Rattle.record.proofs.FormedLaws.{WellFormed}
use Rattle.record.specs.World.{world_of}
use Rattle.record.specs.declared.Counts.{Counts}
use Rattle.record.specs.declared.Decoder.{Decoder}
use Rattle.call.specs.Outcome.{is_full, is_over, world_at}
use Rattle.call.specs.State.{State, held_at, room_of}
use Rattle.plan.specs.Ending.{current_endpoint, ending_of, end_played}
use Rattle.plan.specs.Packet.{old_endpoint, plan_of, played}
use Rattle.tally.specs.Passes.{plan_passes}
use Rattle.tally.specs.Suited.{PlanSuits, EndingSuits, Totalled}
use Rattle.tally.specs.Tallies.{tally_plan, tally_ending, room_for}
use Rattle.tally.proofs.Counts.{played-full, ending-full}
use Rattle.tally.proofs.Planned.{plan_suits, ending_suits}
use Rattle.tally.proofs.Quiet.{plan-totals}
use Rattle.tally.proofs.Totals.{played-over}

pub count_few : (test : ℕ → Bool) (n i : ℕ) → count test i n ≤ n
count_few test zero i = omega arith
count_few test (suc n) i = by (test i) (count test (suc i) n) (count_few test n (suc i))
  where
    by : (b : Bool) (m : ℕ) → m ≤ n → cond b (suc m) m ≤ suc n
    by true m h = omega arith
    by false m h = omega arith

-- the old transaction's endpoint, where there is one, is that of the transaction held
old-there : (s : Slot) (t : Transaction) (n : ℕ) → 0 < n → (holds s ≡ true → t.endpoint < n) → old_endpoint s t < n
old-there Empty t n h f = h
old-there Current t n h f = f refl
old-there Suspended t n h f = f refl

current-there : (s : Slot) (t : Transaction) (n : ℕ) → 0 < n → (holds s ≡ true → t.endpoint < n) → current_endpoint s t < n
current-there Empty t n h f = h
current-there Current t n h f = f refl
current-there Suspended t n h f = h

module _ {d : Decoder} {devices : List Device} {table : List ℕ} {room : Counts} (h : WellFormed d devices table room) where
  pub three : 2 < (world_of d devices table).count
  three = let l = h.specials.three in omega (arith, l)

  some : 0 < d.counts.endpoints
  some = let l = three in omega (arith, l)

  pub old_stands : old_endpoint d.slot d.transaction < d.counts.endpoints
  old_stands = old-there d.slot d.transaction d.counts.endpoints some (λ r. (h.held r).endpoint)

  pub current_stands : current_endpoint d.slot d.transaction < d.counts.endpoints
  current_stands = current-there d.slot d.transaction d.counts.endpoints some (λ r. (h.held r).endpoint)

  pub waiting-is : waiting_of (world_of d devices table) ≡ d.waiting
  waiting-is =
      count_ext d.counts.endpoints (in_phase word.Ended table) (ended_in (entry_at table)) 0 (λ j u v. sym (phase-entry table j word.Ended (omega arith) (omega arith)))
      ∙ sym h.waiting

  pub waiting_few : d.waiting ≤ 128
  waiting_few = let c = count_few (in_phase word.Ended table) d.counts.endpoints 0 in let f = h.counts.few_endpoints in let e = h.waiting in omega (arith, c, f, e)

-- answer 7 of a packet, by the record's count of those that wait, whatever the shelf holds
pub packet-full-is : (high : Bool) (packet : List ℕ) (time : ℕ) (shelf : List ℕ) (s : State) (room : Counts) → WellFormed s.decoder s.devices s.table room
    → (let w = with_shelf shelf (world_at s) in is_full s (played (plan_of high packet w) packet time w)
    ≡ not (room_for (held_at s) s.decoder.counts (tally_plan (plan_of high packet w) (length packet) s.decoder.counts.endpoints s.decoder.waiting) (room_of s.logs)))
packet-full-is high packet time shelf s room h =
    let w = with_shelf shelf (world_at s) in
    let p = plan_of high packet w in
    played-full p packet time shelf s h.begun (plan_suits high packet time w (three h) (old_stands h))
    ∙ ap (λ (m : ℕ). not (room_for (held_at s) s.decoder.counts (tally_plan p (length packet) s.decoder.counts.endpoints m) (room_of s.logs))) (waiting-is h)

-- answer 9 of a packet
pub packet-over-is : (high : Bool) (packet : List ℕ) (time : ℕ) (shelf : List ℕ) (s : State) (room : Counts) → WellFormed s.decoder s.devices s.table room → Totalled (with_shelf shelf (world_at s))
    → (let w = with_shelf shelf (world_at s) in is_over (played (plan_of high packet w) packet time w) ≡ plan_passes (plan_of high packet w))
packet-over-is high packet time shelf s room h t =
    let w = with_shelf shelf (world_at s) in
    played-over (plan_of high packet w) packet time w (plan-totals high packet time w (three h) (old_stands h)) t

-- answer 7 of finish
pub finish-full-is : (c : Stamp) (s : State) (room : Counts) → WellFormed s.decoder s.devices s.table room
    → is_full s (end_played (ending_of (world_at s)) (with_context c (world_at s)))
    ≡ not (room_for (held_at s) s.decoder.counts (tally_ending (ending_of (world_at s)) s.decoder.counts.endpoints s.decoder.waiting) (room_of s.logs))
finish-full-is c s room h =
    let e = ending_of (world_at s) in
    ending-full c e s h.begun (subst (λ (a : Ending). EndingSuits a (with_context c (world_at s))) (ending-context c (world_at s)) (ending_suits (with_context c (world_at s)) (current_stands h)))
    ∙ ap (λ (m : ℕ). not (room_for (held_at s) s.decoder.counts (tally_ending e s.decoder.counts.endpoints m) (room_of s.logs))) (waiting-is h)
