-- An event, over plain values: its answer, what carrying it out asks, and that what it leaves is what the rules leave.
use Prim.Native.Nat.{ℕ, ◌+◌, ◌*◌, ◌^◌, ◌<◌, ◌≤◌}
use native.Mathlib.Omega.{arith}
use mathlib.Core.Bool.{Bool, true, false, not, cond}
use mathlib.Core.List.{[], ◌∷◌}
use mathlib.Core.Path.{◌≡◌, refl, sym, ap, ◌∙◌, subst}
use borrow.Author.Tests.{eqb-true, le-ltb}
use lib.Dec.{eqb, ltb}
use lib.ListN.{length}
use lib.Seq.{sets}
use Rattle.std.specs.Prelude.{Option, Some, None}
use Rattle.usb.specs.Packet.{no_reason}
use Rattle.rows.specs.One.{one}
use Rattle.rows.specs.Widths.{event_width, packet_width, transaction_width}
use Rattle.rows.specs.Sets.{opt}
use Rattle.transaction.specs.Payload.{start_pid}
use Rattle.transaction.specs.Table.{pick}
use Rattle.endpoints.specs.Each.{active}
use Rattle.rules.specs.Decoder.{suspend, end_all_active, end_all, handle_event}
use Rattle.rules.specs.Events as rules
use Rattle.rules.specs.Rows.{log}
use Rattle.rules.specs.World.{World, with_keepalive, waiting_of, stamp}
use Rattle.rules.specs.declared.Stamp.{Stamp}
use Rattle.tally.specs.Tally.{in_log, Adds}
use Rattle.tally.specs.declared.add.Tally.{Tally}
use Rattle.write.specs.Memory.{Memory}
use Rattle.event.specs.Event.{adds_row, adds_group}
use Rattle.write_event.proofs.TabledLaws.{event-rows_tabled}
use Rattle.record.specs.Answers.{first_of}
use Rattle.record.specs.Bools.{both}
use Rattle.record.specs.Room.{fitting, numbered}
use Rattle.record.specs.RoomLaws.{Within, within, numbered_is}
use Rattle.call.specs.Outcome.{Left, is_ill, is_full, is_over, world_at}
use Rattle.call.proofs.OutcomeLaws.{refused, accepted}
use Rattle.call.specs.State.{State, state, logs, room_by, room_of, held_at}
use Rattle.call.specs.Share.{Known}
use Rattle.plan.specs.Ending.{ending_of, end_played}
use Rattle.plan.specs.declared.Ending.{Ending}
use Rattle.plan.proofs.Ends.{ending-is}
use Rattle.tally.specs.Event.{event_played}
use Rattle.tally.specs.Tallies.{tally_keepalive, tally_event, add_counts, room_for}
use Rattle.tally.specs.Suited.{EndingTotals}
use Rattle.tally.proofs.Counted.{adds-from}
use Rattle.tally.proofs.Anew.{ending_acts, actives-table}
use Rattle.tally.proofs.Counts.{counts-after, state-full, world_has}
use Rattle.tally.proofs.Events.{keepalive-adds, event-played-adds}
use Rattle.tally.proofs.Formed.{waiting-is}
use Rattle.tally.proofs.Least.{keepalive-links, event-links}
use Rattle.tally.proofs.Quiet.{ending-totals}
use Rattle.tally.proofs.Unpassed.{keepalive-over, event-over}
use Rattle.events.specs.After.{resets_by, keepalive_then, sum_then, sum_of, event_tally, event_decoder}
use Rattle.events.proofs.Decisions.{none-by, some-by}
use Rattle.events.specs.Call.{event_tests_of, EventCall}
use Rattle.events.specs.Ended.{SettlesIf}
use Rattle.events.specs.declared.sum.Sum.{Sum}
use Rattle.events.proofs.Before.{before_of, memory_then, none_then, same_then, rests, slot_is, few, some, reached-before, grows, settles_if}
use Rattle.events.proofs.Reached.{worded, memory_at, world_with, Reached, space, left_of}
use Rattle.events.proofs.Sane.{end_rows, totalled, formed, suits, ending-with}
use Rattle.events.proofs.Tail.{rows_memory, AbleAt, Tailed, rowed, room-before, tailed}

-- ---- the world after it

-- what it brings
abbrev pub brings : ℕ → State → Stamp
brings time s = stamp s.decoder.counts.packets time no_reason

abbrev pub played_of : Bool → ℕ → ℕ → ℕ → State → World
played_of r kind code time s = rules.event_update s.decoder.counts.packets kind (rowed s code time (before_of r (brings time s) s))

handle-is : (kind code time : ℕ) (s : State) → handle_event kind code time (world_at s) ≡ played_of (resets_by kind) kind code time s
unfolding handle_event
handle-is kind code time s = by (eqb kind 0)
  where
    by : (b : Bool) → rules.event_update s.decoder.counts.packets kind (rowed s code time (pick b (suspend (world_with (brings time s) s)) (end_all (world_with (brings time s) s)))) ≡ played_of (not b) kind code time s
    by true = refl
    by false = ap (λ (v : World). rules.event_update s.decoder.counts.packets kind (rowed s code time (with_keepalive false (end_all_active v))))
        (ending-is (world_with (brings time s) s) ∙ ap (λ (e : Ending). end_played e (world_with (brings time s) s)) (ending-with (brings time s) s))

-- the tally of its rows
abbrev pub tally_at : Bool → ℕ → State → Tally
tally_at r kind s = event_tally r s.decoder (ending_of (world_at s)) (rules.turn_of s.decoder.event kind).act (active s.table s.decoder.counts.endpoints)

abbrev pub event_fits : ℕ → State → Bool
event_fits kind s = room_for (held_at s) s.decoder.counts (tally_at (resets_by kind) kind s) (room_of s.logs)

abbrev pub event_sum : ℕ → State → Option Sum
event_sum kind s = sum_of (held_at s) s.decoder.counts (tally_at (resets_by kind) kind s) (room_of s.logs)

abbrev pub event_left : ℕ → State → Sum
event_left kind s = sum_then s.decoder.counts (tally_at (resets_by kind) kind s)

pub event-none : (kind : ℕ) (s : State) → None ≡ event_sum kind s → event_fits kind s ≡ false
unfolding sum_of
event-none kind s e = none-by (event_fits kind s) _ _ e

pub event-some : (kind : ℕ) (s : State) {z : Sum} → Some z ≡ event_sum kind s → (event_fits kind s ≡ true) × (z ≡ event_left kind s)
unfolding sum_of
event-some kind s e = some-by (event_fits kind s) _ _ e

-- it counts the T rows and the G rows
least : (r : Bool) (a : rules.Act) (s : State)
    → pick r (end_rows s) 0 + one (adds_row a) + one (adds_group a (keepalive_then r s.decoder.keepalive)) ≤ (event_tally r s.decoder (ending_of (world_at s)) a (active s.table s.decoder.counts.endpoints)).links
unfolding event_tally
least true a s =
    let l = event-links (ending_of (world_at s)) a s.decoder.counts.endpoints s.decoder.waiting (active s.table s.decoder.counts.endpoints) in
    let g : one (adds_group a false) ≡ one (adds_group a (keepalive_then true s.decoder.keepalive)) = ap (λ (b : Bool). one (adds_group a b)) (none_then s.decoder.keepalive) in
    omega (arith, l, g)
least false a s =
    let l = keepalive-links a s.decoder.keepalive s.decoder.counts.endpoints s.decoder.waiting in
    let g : one (adds_group a s.decoder.keepalive) ≡ one (adds_group a (keepalive_then false s.decoder.keepalive)) = ap (λ (b : Bool). one (adds_group a b)) (same_then s.decoder.keepalive) in
    omega (arith, l, g)

module _ (s : State) (sane : is_ill s ≡ false) (code time : ℕ) where
  keepalive-is : Adds (tally_at false 0 s) (world_at s) (played_of false 0 code time s)
  unfolding event_tally handle_event
  keepalive-is =
      subst (λ (n : ℕ). Adds (tally_keepalive (rules.turn_of s.decoder.event 0).act s.decoder.keepalive s.decoder.counts.endpoints n) (world_at s) (played_of false 0 code time s)) (waiting-is (formed s sane))
      (keepalive-adds code time (world_at s) (some s sane))

  reset-is : (kind : ℕ) → Adds (tally_at true kind s) (world_at s) (played_of true kind code time s)
  unfolding event_tally event_played
  reset-is kind =
      let e = ending_of (world_at s) in
      let a = (rules.turn_of s.decoder.event kind).act in
      subst (λ (n : ℕ). Adds (tally_event e a s.decoder.counts.endpoints n (active s.table s.decoder.counts.endpoints)) (world_at s) (played_of true kind code time s)) (waiting-is (formed s sane))
      (subst (λ (n : ℕ). Adds (tally_event e a s.decoder.counts.endpoints (waiting_of (world_at s)) n) (world_at s) (played_of true kind code time s)) (actives-table s.decoder s.devices s.table)
      (adds-from (brings time s) (event-played-adds e kind code time (world_with (brings time s) s) (some s sane) (suits s sane (brings time s)) (ending_acts (world_at s)))))

  pub event-adds : (kind : ℕ) → Adds (tally_at (resets_by kind) kind s) (world_at s) (played_of (resets_by kind) kind code time s)
  event-adds kind = by (eqb kind 0) refl
    where
      by : (b : Bool) → eqb kind 0 ≡ b → Adds (tally_at (not b) kind s) (world_at s) (played_of (not b) kind code time s)
      by true e = subst (λ (x : ℕ). Adds (tally_at false x s) (world_at s) (played_of false x code time s)) (sym (eqb-true kind 0 e)) keepalive-is
      by false e = reset-is kind

  over-is : Known s.table → (kind : ℕ) → is_over (played_of (resets_by kind) kind code time s) ≡ false
  unfolding handle_event event_played
  over-is known kind = by (eqb kind 0) refl
    where
      by : (b : Bool) → eqb kind 0 ≡ b → is_over (played_of (not b) kind code time s) ≡ false
      by true e = subst (λ (x : ℕ). is_over (played_of false x code time s) ≡ false) (sym (eqb-true kind 0 e)) (keepalive-over code time (world_at s) (totalled s known))
      by false e = event-over (ending_of (world_at s)) kind code time (world_with (brings time s) s) (subst (λ (a : Ending). EndingTotals a (world_with (brings time s) s)) (ending-with (brings time s) s) (ending-totals (world_with (brings time s) s))) (totalled s known)

-- ---- its answer

module _ (s : State) (sane : is_ill s ≡ false) (known : Known s.table) (going : s.decoder.finished ≡ false) (kind code time : ℕ) (low : kind ≤ 7) where
  full_is : is_full s (handle_event kind code time (world_at s)) ≡ not (event_fits kind s)
  unfolding sum_of
  full_is = ap (is_full s) (handle-is kind code time s) ∙ state-full s (formed s sane).begun (event-adds s sane code time kind)

  answer-is : (b : Bool) → event_fits kind s ≡ b → cond b 0 7 ≡ first_of (event_tests_of kind (handle_event kind code time (world_at s)) s)
  unfolding first_of
  answer-is b e =
      by (is_ill s) s.decoder.finished (ltb 7 kind) (is_full s (handle_event kind code time (world_at s))) (is_over (handle_event kind code time (world_at s))) b sane going (le-ltb 7 kind low) (full_is ∙ ap not e)
      (ap is_over (handle-is kind code time s) ∙ over-is s sane code time known kind)
    where
      by : (ill finished high full over b : Bool) → ill ≡ false → finished ≡ false → high ≡ false → full ≡ not b → over ≡ false → ◌≡◌ {A = ℕ} (cond b 0 7) (cond ill 1 (cond finished 2 (cond high 4 (cond full 7 (cond over 9 0)))))
      by ill finished high full over true e f g h i = rw (e, f, g, h, i)
      by ill finished high full over false e f g h i = rw (e, f, g, h)

  pub event-full : event_fits kind s ≡ false → EventCall kind code time s 7 s
  event-full e = refused 7 (answer-is false e) refl

  -- ---- where there is room

  module _ (byte : start_pid s.decoder.transaction.style < 256) (fits : event_fits kind s ≡ true) where
    abbrev turn : rules.Turn
    turn = rules.turn_of s.decoder.event kind

    abbrev alive : Bool
    alive = keepalive_then (resets_by kind) s.decoder.keepalive

    abbrev settled : Memory
    settled = memory_then (resets_by kind) (brings time s) s

    abbrev final : World
    final = played_of (resets_by kind) kind code time s

    fitted : (fitting (add_counts (held_at s) (tally_at (resets_by kind) kind s)) (room_of s.logs) ≡ true) × (numbered (add_counts s.decoder.counts (tally_at (resets_by kind) kind s)) ≡ true)
    unfolding sum_of
    fitted = both (fitting (add_counts (held_at s) (tally_at (resets_by kind) kind s)) (room_of s.logs)) (numbered (add_counts s.decoder.counts (tally_at (resets_by kind) kind s))) fits

    -- there are numbers for its T rows and G rows
    numbers : s.decoder.counts.links + pick (resets_by kind) (end_rows s) 0 + one (adds_row turn.act) + one (adds_group turn.act alive) < 2 ^ 64
    unfolding add_counts
    numbers = let l = least (resets_by kind) turn.act s in omega (arith, l, (numbered_is _ fitted.1).links)

    reached : Reached (brings time s) s alive (before_of (resets_by kind) (brings time s) s) settled
    reached = reached-before s sane (brings time s) known byte (resets_by kind) (omega (arith, numbers))

    tail : Tailed (brings time s) s code time (before_of (resets_by kind) (brings time s) s).slot turn alive settled final
    tail =
        tailed (brings time s) s alive (before_of (resets_by kind) (brings time s) s) settled reached (few s sane) (some s sane) (rests (resets_by kind) (brings time s) s) kind code time (grows s sane (brings time s) known byte (resets_by kind) turn.act alive numbers)

    inside : Within (add_counts (held_at s) (tally_at (resets_by kind) kind s)) (room_of s.logs)
    inside = within _ _ fitted.0

    -- what event_rows, settle and put_event ask
    pub event_ables : AbleAt s turn alive settled
    event_ables =
        tail.able (space (brings time s) s (tally_at (resets_by kind) kind s) final (event-adds s sane code time kind) inside)
        (worded s (tally_at (resets_by kind) kind s) final (event-adds s sane code time kind) (numbered_is _ fitted.1))

    pub event_settles : SettlesIf (resets_by kind) (ending_of (world_at s)) s.decoder.counts.endpoints s.decoder.transaction.id (start_pid s.decoder.transaction.style) (memory_at (brings time s) s)
    event_settles = settles_if s sane (brings time s) known byte (resets_by kind) (omega (arith, numbers)) (room-before _ _ _ _ _ settled event_ables)

    pub event_puts : (((held_at s).packets + 1) * packet_width ≤ length s.logs.packets) × ((((held_at s).events + 1) * event_width ≤ length s.logs.events) × ((held_at s).transactions * transaction_width + length (opt (adds_row turn.act) (s.decoder.counts.packets ∷ no_reason ∷ [])) ≤ length s.logs.transactions))
    unfolding add_counts room_by in_log
    event_puts =
        let a = event-adds s sane code time kind in
        let p : length (log 3 final.journal) ≡ 2 = ap length tail.packets in
        let e : length (log 4 final.journal) ≡ 2 = ap length tail.events in
        let t : length (log 5 final.journal) ≡ length (opt (adds_row turn.act) (s.decoder.counts.packets ∷ no_reason ∷ [])) = ap length tail.transactions in
        let a3 = a.words 3 in
        let a4 = a.words 4 in
        let a5 = a.words 5 in
        let w3 = inside.packets in
        let w4 = inside.events in
        let w5 = inside.transactions in
        (omega (arith, p, a3, w3), (omega (arith, e, a4, w4), omega (arith, t, a5, w5)))

    -- the memory and the state that it leaves
    abbrev pub event_memory : Memory
    event_memory = rows_memory s turn alive settled

    abbrev pub event_state : State
    event_state =
        state (event_decoder s.decoder (resets_by kind) turn (event_left kind s) event_memory.written) s.devices event_memory.table
        (logs s.logs.bytes s.logs.devices s.logs.endpoints
        (sets s.logs.packets ((held_at s).packets * packet_width) (s.decoder.counts.bytes ∷ time ∷ []))
        (sets s.logs.events ((held_at s).events * event_width) (s.decoder.counts.packets ∷ code ∷ []))
        (sets s.logs.transactions ((held_at s).transactions * transaction_width) (opt (adds_row turn.act) (s.decoder.counts.packets ∷ no_reason ∷ [])))
        event_memory.groups event_memory.statebytes event_memory.states event_memory.items event_memory.links s.logs.requests)

    final-left : Left final s.decoder.finished s event_state
    unfolding sum_of
    final-left =
        let a = event-adds s sane code time kind in
        left_of (brings time s) s final event_memory tail.holds (event-rows_tabled (few s sane) (some s sane) _ _ _ _ settled reached.table) (few s sane) known.size tail.devices tail.transaction s.decoder.finished _ _ _ _ _
        (counts-after (world_has s.decoder s.devices s.table) a) (tail.slot ∙ slot_is (resets_by kind) (brings time s) s) tail.event tail.keepalive a.waiting _ _ _
        (record {
          bytes = tail.first 0 (omega arith);
          devices = tail.first 1 (omega arith);
          endpoints = tail.first 2 (omega arith);
          requests = tail.requests;
          packet_rows = ap (sets s.logs.packets _) (sym tail.packets);
          event_rows = ap (sets s.logs.events _) (sym tail.events);
          transaction_rows = ap (sets s.logs.transactions _) (sym tail.transactions);
        })

    pub event-accepted : EventCall kind code time s 0 event_state
    event-accepted = accepted 0 (answer-is true fits) refl (subst (λ (w : World). Left w s.decoder.finished s event_state) (sym (handle-is kind code time s)) final-left)
