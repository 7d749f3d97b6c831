-- Finish, over plain values: its answer, what carrying it out asks, and that what it leaves is what the rules leave.
use Prim.Native.Nat.{ℕ, ◌+◌, ◌^◌, ◌<◌}
use mathlib.Core.Bool.{Bool, true, false, not, cond}
use mathlib.Core.List.{[]}
use mathlib.Core.Path.{◌≡◌, refl, sym, ap, ◌∙◌, subst}
use borrow.Author.Tests.{ne_eqb}
use native.Mathlib.Omega.{arith}
use lib.Seq.{sets}
use Rattle.std.specs.Prelude.{Option, Some, None}
use Rattle.tally.specs.Suited.{EndingTotals}
use Rattle.transaction.specs.Payload.{start_pid}
use Rattle.rules.specs.Decoder.{finish}
use Rattle.rules.specs.Rows.{log}
use Rattle.rules.specs.World.{World, with_slot}
use Rattle.update.specs.Update.{when}
use Rattle.write.proofs.HoldsLaws.{holds-room}
use Rattle.write.specs.Memory.{Memory}
use Rattle.write.specs.declared.Written.{Written}
use Rattle.record.specs.Answers.{first_of, finish_tests}
use Rattle.record.specs.Bools.{both}
use Rattle.record.specs.Room.{fitting, numbered}
use Rattle.record.specs.RoomLaws.{within, numbered_is}
use Rattle.record.specs.declared.Counts.{Counts}
use Rattle.record.specs.declared.Decoder.{Decoder}
use Rattle.call.specs.Outcome.{Left, is_ill, is_full, is_over, world_at}
use Rattle.call.proofs.OutcomeLaws.{refused, accepted}
use Rattle.call.specs.State.{State, state, logs, room_of, held_at}
use Rattle.call.specs.Share.{Known, written_of, last_stamp}
use Rattle.plan.specs.Ending.{slot_ended, ending_of, end_played}
use Rattle.plan.specs.Step.{ended}
use Rattle.plan.specs.declared.Ending.{Ending}
use Rattle.plan.proofs.Ends.{finish-is}
use Rattle.tally.specs.Tallies.{tally_ending, add_counts, room_for}
use Rattle.tally.proofs.Counts.{counts-after, world_has}
use Rattle.tally.proofs.Formed.{finish-full-is}
use Rattle.tally.proofs.Least.{ending-links}
use Rattle.tally.proofs.Quiet.{ending-totals}
use Rattle.tally.proofs.Unpassed.{ending-over}
use Rattle.events.specs.After.{sum_then, sum_of, finished_decoder}
use Rattle.events.proofs.Decisions.{none-by, some-by}
use Rattle.events.specs.Call.{finish_tests_of, FinishCall}
use Rattle.events.specs.Ended.{ended_memory, Endable}
use Rattle.events.specs.declared.sum.Sum.{Sum}
use Rattle.events.proofs.Ends.{reached-slot}
use Rattle.events.proofs.Reached.{worded, first_memory, memory_at, space, left_of, world_with}
use Rattle.events.proofs.Sane.{end_rows, totalled, formed, end-adds, reached-end, endable, ending-with}

module _ (s : State) where
  -- the end of its transaction, and what that comes to
  abbrev pub end_at : Ending
  end_at = ending_of (world_at s)

  abbrev pub fits_at : Bool
  fits_at = room_for (held_at s) s.decoder.counts (tally_ending end_at s.decoder.counts.endpoints s.decoder.waiting) (room_of s.logs)

  abbrev pub sum_at : Option Sum
  sum_at = sum_of (held_at s) s.decoder.counts (tally_ending end_at s.decoder.counts.endpoints s.decoder.waiting) (room_of s.logs)

  abbrev pub sum_left : Sum
  sum_left = sum_then s.decoder.counts (tally_ending end_at s.decoder.counts.endpoints s.decoder.waiting)

  pub none_at : None ≡ sum_at → fits_at ≡ false
  unfolding sum_of
  none_at e = none-by fits_at _ _ e

  pub some_at : {z : Sum} → Some z ≡ sum_at → (fits_at ≡ true) × (z ≡ sum_left)
  unfolding sum_of
  some_at e = some-by fits_at _ _ e

  abbrev pub ended_at : Memory
  ended_at = ended_memory end_at s.decoder.counts.endpoints s.decoder.transaction.id (start_pid s.decoder.transaction.style) (memory_at (last_stamp s.decoder) s)

module _ (s : State) (sane : is_ill s ≡ false) (known : Known s.table) where
  full_is : is_full s (finish (world_at s)) ≡ not (fits_at s)
  unfolding sum_of
  full_is = ap (is_full s) (finish-is (world_at s)) ∙ finish-full-is (last_stamp s.decoder) s (room_of s.logs) (formed s sane)

  over-is : is_over (finish (world_at s)) ≡ false
  over-is = ap is_over (finish-is (world_at s)) ∙ ending-over (end_at s) (world_with (last_stamp s.decoder) s) (subst (λ (a : Ending). EndingTotals a (world_with (last_stamp s.decoder) s)) (ending-with (last_stamp s.decoder) s) (ending-totals (world_with (last_stamp s.decoder) s))) (totalled s known)

  answer-is : s.decoder.finished ≡ false → (b : Bool) → fits_at s ≡ b → cond b 0 7 ≡ first_of (finish_tests_of (finish (world_at s)) s)
  unfolding first_of
  answer-is going b e = by (is_ill s) s.decoder.finished (is_full s (finish (world_at s))) (is_over (finish (world_at s))) b sane going (full_is ∙ ap not e) over-is
    where
      by : (ill finished full over b : Bool) → ill ≡ false → finished ≡ false → full ≡ not b → over ≡ false → cond b 0 7 ≡ first_of (finish_tests ill finished full over)
      by ill finished full over true e f g h = rw (e, f, g, h)
      by ill finished full over false e f g h = rw (e, f, g)

  pub finish-full : s.decoder.finished ≡ false → fits_at s ≡ false → FinishCall s 7 s
  finish-full going e = refused 7 (answer-is going false e) refl

  module _ (byte : start_pid s.decoder.transaction.style < 256) (going : s.decoder.finished ≡ false) (fits : fits_at s ≡ true) where
    -- there are numbers for its T rows and G rows
    numbers : s.decoder.counts.links + end_rows s < 2 ^ 64
    unfolding sum_of add_counts
    numbers =
        let t = tally_ending (end_at s) s.decoder.counts.endpoints s.decoder.waiting in
        let l = ending-links (end_at s) s.decoder.counts.endpoints s.decoder.waiting in
        omega (arith, l, (numbered_is (add_counts s.decoder.counts t) (both (fitting (add_counts (held_at s) t) (room_of s.logs)) (numbered (add_counts s.decoder.counts t)) fits).1).links)

    pub finish_endable : Endable (end_at s) s.decoder.counts.endpoints s.decoder.transaction.id (start_pid s.decoder.transaction.style) (memory_at (last_stamp s.decoder) s)
    unfolding sum_of end_played
    finish_endable =
        endable s sane (last_stamp s.decoder) known byte numbers
        (let t = tally_ending (end_at s) s.decoder.counts.endpoints s.decoder.waiting in
        let g = both (fitting (add_counts (held_at s) t) (room_of s.logs)) (numbered (add_counts s.decoder.counts t)) fits in
        holds-room (reached-end s sane (last_stamp s.decoder) known byte numbers).holds (space (last_stamp s.decoder) s t (end_played (end_at s) (world_with (last_stamp s.decoder) s)) (end-adds s sane (last_stamp s.decoder)) (within _ _ g.0))
        (let z = worded s t (end_played (end_at s) (world_with (last_stamp s.decoder) s)) (end-adds s sane (last_stamp s.decoder)) (numbered_is _ g.1) in record { groups = z.groups; statebytes = z.statebytes; items = z.items }))

    -- the state that it leaves
    abbrev pub finished_state : State
    finished_state =
        state (finished_decoder s.decoder (sum_left s) (ended_at s).written) s.devices (ended_at s).table
        (logs s.logs.bytes s.logs.devices s.logs.endpoints s.logs.packets s.logs.events s.logs.transactions (ended_at s).groups (ended_at s).statebytes (ended_at s).states (ended_at s).items (ended_at s).links s.logs.requests)

    played-left : Left (end_played (end_at s) (world_with (last_stamp s.decoder) s)) true s finished_state
    unfolding sum_of end_played
    played-left =
        let v = when (end_at s).ends (ended (end_at s).old (end_at s).end) (world_with (last_stamp s.decoder) s) in
        let r = reached-slot (last_stamp s.decoder) s s.decoder.keepalive v (ended_at s) (reached-end s sane (last_stamp s.decoder) known byte numbers) (slot_ended s.decoder.slot) in
        let a = end-adds s sane (last_stamp s.decoder) in
        let none : (k : ℕ) → k < 6 → log k v.journal ≡ [] = λ k u. r.logs k (λ j g h. ne_eqb j k (λ e. omega arith)) in
        left_of (last_stamp s.decoder) s (with_slot (slot_ended s.decoder.slot) v) (ended_at s) r.holds r.table (formed s sane).counts.few_endpoints known.size r.devices r.transaction true _ _ _ _ _
        (counts-after (world_has s.decoder s.devices s.table) a) refl r.event r.keepalive a.waiting s.logs.packets s.logs.events s.logs.transactions
        (record {
          bytes = none 0 (omega arith);
          devices = none 1 (omega arith);
          endpoints = none 2 (omega arith);
          requests = r.logs 11 (λ j g h. ne_eqb j 11 (λ e. omega arith));
          packet_rows = ap (sets s.logs.packets _) (sym (none 3 (omega arith)));
          event_rows = ap (sets s.logs.events _) (sym (none 4 (omega arith)));
          transaction_rows = ap (sets s.logs.transactions _) (sym (none 5 (omega arith)));
        })

    pub finish-accepted : FinishCall s 0 finished_state
    finish-accepted = accepted 0 (answer-is going true fits) refl (subst (λ (w : World). Left w true s finished_state) (sym (finish-is (world_at s))) played-left)

-- ---- as the code has its parts

pub sum-at : (s : State) (e : Ending) (room : Counts) (r : Option Sum) → e ≡ end_at s → room ≡ room_of s.logs
    → {held : Counts} → held ≡ held_at s → r ≡ sum_of held s.decoder.counts (tally_ending e s.decoder.counts.endpoints s.decoder.waiting) room → r ≡ sum_at s
sum-at s e room r p q {held} g h =
    h ∙ ap (λ (x : Counts). sum_of x s.decoder.counts (tally_ending e s.decoder.counts.endpoints s.decoder.waiting) room) g
    ∙ ap (λ (x : Ending). sum_of (held_at s) s.decoder.counts (tally_ending x s.decoder.counts.endpoints s.decoder.waiting) room) p
    ∙ ap (sum_of (held_at s) s.decoder.counts (tally_ending (end_at s) s.decoder.counts.endpoints s.decoder.waiting)) q

pub end-asks : (s : State) (e : Ending) (pid : ℕ) (h : Written) → e ≡ end_at s → pid ≡ start_pid s.decoder.transaction.style → h ≡ written_of (last_stamp s.decoder) (held_at s) s.decoder s.table
    → Endable (end_at s) s.decoder.counts.endpoints s.decoder.transaction.id (start_pid s.decoder.transaction.style) (memory_at (last_stamp s.decoder) s)
    → Endable e s.decoder.counts.endpoints s.decoder.transaction.id pid (first_memory s h)
end-asks s e pid h p q r a =
    subst (λ (x : Ending). Endable x s.decoder.counts.endpoints s.decoder.transaction.id pid (first_memory s h)) (sym p)
    (subst (λ (x : ℕ). Endable (end_at s) s.decoder.counts.endpoints s.decoder.transaction.id x (first_memory s h)) (sym q)
    (subst (λ (x : Written). Endable (end_at s) s.decoder.counts.endpoints s.decoder.transaction.id (start_pid s.decoder.transaction.style) (first_memory s x)) (sym r) a))

pub ended-at : (s : State) (e : Ending) (pid : ℕ) (h : Written) (m : Memory) → e ≡ end_at s → pid ≡ start_pid s.decoder.transaction.style → h ≡ written_of (last_stamp s.decoder) (held_at s) s.decoder s.table
    → m ≡ ended_memory e s.decoder.counts.endpoints s.decoder.transaction.id pid (first_memory s h) → m ≡ ended_at s
ended-at s e pid h m p q r a =
    a ∙ ap (λ (x : Ending). ended_memory x s.decoder.counts.endpoints s.decoder.transaction.id pid (first_memory s h)) p
    ∙ ap (λ (x : ℕ). ended_memory (end_at s) s.decoder.counts.endpoints s.decoder.transaction.id x (first_memory s h)) q
    ∙ ap (λ (x : Written). ended_memory (end_at s) s.decoder.counts.endpoints s.decoder.transaction.id (start_pid s.decoder.transaction.style) (first_memory s x)) r

-- the state with this memory
abbrev pub state_of : State → Decoder → Memory → State
state_of s d m =
    state d s.devices m.table
    (logs s.logs.bytes s.logs.devices s.logs.endpoints s.logs.packets s.logs.events s.logs.transactions m.groups m.statebytes m.states m.items m.links s.logs.requests)

pub finish_returns : (s : State) (m : Memory) (d : Decoder) (sum : Sum) → FinishCall s 0 (state_of s (finished_decoder s.decoder (sum_left s) (ended_at s).written) (ended_at s)) → m ≡ ended_at s → sum ≡ sum_left s
    → d ≡ finished_decoder s.decoder sum m.written → FinishCall s 0 (state_of s d m)
finish_returns s m d sum a p q r =
    subst (λ (x : Decoder). FinishCall s 0 (state_of s x m)) (sym r)
    (subst (λ (x : Sum). FinishCall s 0 (state_of s (finished_decoder s.decoder x m.written) m)) (sym q)
    (subst (λ (x : Memory). FinishCall s 0 (state_of s (finished_decoder s.decoder (sum_left s) x.written) x)) (sym p) a))
