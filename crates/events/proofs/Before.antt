-- An event up to its own rows: the world and the memory once the transaction and every active group have ended, or the transaction is suspended.
use Prim.Native.Nat.{ℕ, ◌+◌, ◌^◌, ◌<◌, ◌≤◌}
use native.Mathlib.Omega.{arith}
use mathlib.Core.Bool.{Bool, true, false, false≢true}
use mathlib.Core.Path.{◌≡◌, refl, sym, subst}
use Rattle.rows.specs.One.{one}
use Rattle.transaction.specs.Payload.{start_pid}
use Rattle.transaction.specs.Table.{pick}
use Rattle.rules.specs.Decoder.{suspend, end_all_active}
use Rattle.rules.specs.Events as rules
use Rattle.rules.specs.World.{World, with_slot, with_keepalive}
use Rattle.rules.specs.declared.Stamp.{Stamp}
use Rattle.update.specs.Update.{when}
use Rattle.write.specs.Memory.{Memory, Room}
use Rattle.event.specs.Event.{is_current, adds_row, adds_group}
use Rattle.call.specs.Outcome.{is_ill, world_at}
use Rattle.call.specs.State.{State, room_of}
use Rattle.call.specs.Share.{Known}
use Rattle.plan.specs.Ending.{slot_ended, ending_of, end_played}
use Rattle.plan.specs.Step.{ended}
use Rattle.tally.proofs.Events.{suspended, settled}
use Rattle.tally.proofs.Formed.{three}
use Rattle.events.specs.After.{slot_after, keepalive_then}
use Rattle.events.specs.Ended.{ended_memory, settled_memory, SettlesIf}
use Rattle.events.proofs.Ends.{reached-slot, reached-keepalive, reached-all}
use Rattle.events.proofs.Reached.{memory_at, world_with, Reached, reached-start}
use Rattle.events.proofs.Sane.{end_rows, formed, few-ended, reached-end, endable}

abbrev pub before_of : Bool → Stamp → State → World
before_of true c s = with_keepalive false (end_all_active (end_played (ending_of (world_at s)) (world_with c s)))
before_of false c s = suspend (world_with c s)

abbrev pub memory_then : Bool → Stamp → State → Memory
memory_then r c s = settled_memory r (ending_of (world_at s)) s.decoder.counts.endpoints s.decoder.transaction.id (start_pid s.decoder.transaction.style) (memory_at c s)

pub none_then : (k : Bool) → false ≡ keepalive_then true k
none_then true = refl
none_then false = refl

pub same_then : (k : Bool) → k ≡ keepalive_then false k
same_then true = refl
same_then false = refl

pub rests : (r : Bool) (c : Stamp) (s : State) → is_current (before_of r c s).slot ≡ false
unfolding end_played
rests true c s = settled s.decoder.slot
rests false c s = suspended s.decoder.slot

pub slot_is : (r : Bool) (c : Stamp) (s : State) → (before_of r c s).slot ≡ slot_after r s.decoder.slot
unfolding end_played
slot_is true c s = refl
slot_is false c s = refl

-- the event endpoint's counts can grow by the rows of an act
pub record Grows (a : rules.Act) (k : Bool) (w : World) : Type 0 where
  pub transactions : (w.endpoints 0).transactions + one (adds_row a) < 2 ^ 64
  pub groups : (w.endpoints 0).groups + one (adds_group a k) < 2 ^ 64

module _ (s : State) (sane : is_ill s ≡ false) where
  pub few : s.decoder.counts.endpoints ≤ 128
  few = (formed s sane).counts.few_endpoints

  pub some : 0 < s.decoder.counts.endpoints
  some = let l = three (formed s sane) in omega (arith, l)

  module _ (c : Stamp) (known : Known s.table) (byte : start_pid s.decoder.transaction.style < 256) where
    reached-reset : s.decoder.counts.links + end_rows s < 2 ^ 64 → Reached c s false (before_of true c s) (memory_then true c s)
    unfolding settled_memory end_played
    reached-reset numbers =
        let e = ending_of (world_at s) in
        let k = s.decoder.keepalive in
        let v = when e.ends (ended e.old e.end) (world_with c s) in
        let m = ended_memory e s.decoder.counts.endpoints s.decoder.transaction.id (start_pid s.decoder.transaction.style) (memory_at c s) in
        let a = reached-slot c s k v m (reached-end s sane c known byte numbers) (slot_ended s.decoder.slot) in
        reached-keepalive c s k _ _ (reached-all c s k (with_slot (slot_ended s.decoder.slot) v) m a few) false

    reached_suspended : Reached c s s.decoder.keepalive (before_of false c s) (memory_then false c s)
    unfolding settled_memory
    reached_suspended = reached-slot c s s.decoder.keepalive (world_with c s) (memory_at c s) (reached-start c s (room_of s.logs) (formed s sane) known) _

    -- there are numbers for the rows up to here
    pub reached-before : (r : Bool) → s.decoder.counts.links + pick r (end_rows s) 0 < 2 ^ 64 → Reached c s (keepalive_then r s.decoder.keepalive) (before_of r c s) (memory_then r c s)
    reached-before true numbers = subst (λ (b : Bool). Reached c s b (before_of true c s) (memory_then true c s)) (none_then s.decoder.keepalive) (reached-reset numbers)
    reached-before false numbers = subst (λ (b : Bool). Reached c s b (before_of false c s) (memory_then false c s)) (same_then s.decoder.keepalive) reached_suspended

    -- and for those of the act
    pub grows : (r : Bool) (a : rules.Act) (k : Bool) → s.decoder.counts.links + pick r (end_rows s) 0 + one (adds_row a) + one (adds_group a k) < 2 ^ 64 → Grows a k (before_of r c s)
    unfolding end_played
    grows true a k numbers =
        let f = few-ended s sane c 0 (subst (λ (n : ℕ). 0 < n) (sym (reached-end s sane c known byte (omega (arith, numbers))).holds.count) some) in
        record { transactions = omega (arith, f.transactions, numbers); groups = omega (arith, f.groups, numbers) }
    grows false a k numbers = let f = ((formed s sane).endpoints 0 some).entry in record { transactions = omega (arith, f.transactions, numbers); groups = omega (arith, f.groups, numbers) }

    -- what settle asks, from the room after it
    pub settles_if : (r : Bool) → s.decoder.counts.links + pick r (end_rows s) 0 < 2 ^ 64 → Room (memory_then r c s)
        → SettlesIf r (ending_of (world_at s)) s.decoder.counts.endpoints s.decoder.transaction.id (start_pid s.decoder.transaction.style) (memory_at c s)
    unfolding settled_memory
    settles_if true numbers m on = endable s sane c known byte numbers (record { groups = m.groups; states = m.states; statebytes = m.statebytes; items = m.items; links = m.links; numbers = record { groups = m.numbers.groups; statebytes = m.numbers.statebytes; items = m.numbers.items } })
    settles_if false numbers m on = absurd (false≢true on)
