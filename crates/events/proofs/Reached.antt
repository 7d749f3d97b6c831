-- How far a call has come: memory (write, Holds) and the record's other parts, between the state that it began with and a world of the rules.
use Prim.Native.Nat.{ℕ, ◌*◌, ◌<◌, ◌≤◌}
use native.Mathlib.Omega.{arith}
use mathlib.Core.Bool.{Bool, false}
use mathlib.Core.List.{List, []}
use mathlib.Core.Path.{◌≡◌, refl, sym, ap, ◌∙◌, subst}
use lib.Dec.{eqb}
use lib.ListN.{length, get_or}
use lib.Seq.{sets}
use Rattle.endpoints.specs.Word as word
use Rattle.rows.specs.Widths.{event_width, packet_width, transaction_width}
use Rattle.rows.proofs.WidthsLaws.{each-log}
use Rattle.transaction.specs.Payload.{start_pid}
use Rattle.details.specs.Search.{blank}
use Rattle.rules.specs.Rows.{Row, log}
use Rattle.rules.specs.World.{World, with_context, waiting_of}
use Rattle.rules.specs.declared.EventState.{EventState}
use Rattle.rules.specs.declared.Slot.{Slot}
use Rattle.tally.specs.Tally.{in_log, Adds}
use Rattle.tally.specs.declared.add.Tally.{Tally}
use Rattle.write.proofs.Holds.{Holds, Space, Worded}
use Rattle.write.proofs.HoldsLaws.{holds-start}
use Rattle.write.specs.Memory.{Memory, memory}
use Rattle.write.specs.declared.Written.{Written}
use Rattle.record.proofs.FormedLaws.{WellFormed}
use Rattle.record.specs.RoomLaws.{Within, Numbered}
use Rattle.record.proofs.TabledLaws.{Tabled, tabled_start, first-kept}
use Rattle.record.specs.declared.Counts.{Counts}
use Rattle.call.specs.Outcome.{Appends, Left, counts_after, decoder_of, world_at}
use Rattle.call.proofs.StateLaws.{word_each}
use Rattle.call.specs.State.{Logs, State, state, logs, room_by, room_of, held_at}
use Rattle.rules.specs.declared.Stamp.{Stamp}
use Rattle.call.specs.Share.{Known, written_of, tied}
use Rattle.plan.proofs.Played.{tied_to, Tied}
use Rattle.tally.specs.Tallies.{add_counts}

-- the memory of a state, and with another tally
abbrev pub first_memory : State → Written → Memory
first_memory s h = memory h s.table s.logs.groups s.logs.statebytes s.logs.states s.logs.items s.logs.links

abbrev pub memory_at : Stamp → State → Memory
memory_at c s = first_memory s (written_of c (held_at s) s.decoder s.table)

-- the world that a call which brings c begins with
abbrev pub world_with : Stamp → State → World
world_with c s = with_context c (world_at s)

abbrev pub HoldsAt : Stamp → State → World → Memory → Type 0
HoldsAt c s w m = Holds s.decoder.counts.endpoints s.decoder.transaction.id (start_pid s.decoder.transaction.style) (memory_at c s) w m

-- a log that no group goes to
abbrev pub Aside : ℕ → Type 0
Aside k = (j : ℕ) → 6 ≤ j → j ≤ 10 → eqb j k ≡ false

-- the call on s that brings c has come to the world w, in which there is a keepalive group as b says, and to the memory m
pub record Reached (c : Stamp) (s : State) (b : Bool) (w : World) (m : Memory) : Type 0 where
  pub holds : HoldsAt c s w m
  pub table : Tabled s.decoder.counts.endpoints s.table m.table
  pub devices : (j : ℕ) → w.devices j ≡ get_or s.devices j blank
  pub transaction : Tied s.decoder.transaction w.transaction
  pub event : w.event_state ≡ s.decoder.event
  pub keepalive : w.keepalive ≡ b
  pub transactions : w.transactions ≡ s.decoder.counts.transactions
  pub logs : (k : ℕ) → Aside k → log k w.journal ≡ []

-- where it begins
pub reached-start : (c : Stamp) (s : State) (room : Counts) → WellFormed s.decoder s.devices s.table room → Known s.table → Reached c s s.decoder.keepalive (world_with c s) (memory_at c s)
reached-start c s room h k =
    let d = s.decoder in
    record {
      holds = holds-start d.counts.endpoints d.transaction.id (start_pid d.transaction.style) (world_with c s) (memory_at c s) refl k.size refl refl (λ j u. refl) refl refl refl refl refl
          (omega (arith, h.begun.groups)) (omega (arith, h.begun.statebytes)) (omega (arith, h.begun.items));
      table = tabled_start d.counts.endpoints s.table k.size (λ i u. (h.endpoints i u).words);
      devices = λ j. refl;
      transaction = refl;
      event = refl;
      keepalive = refl;
      transactions = refl;
      logs = λ k u. refl;
    }

-- ---- room

-- the rows of a tally whose counts fit the lent logs fit memory's
pub space : (c : Stamp) (s : State) (t : Tally) (v : World) → Adds t (world_at s) v → Within (add_counts (held_at s) t) (room_of s.logs) → Space (memory_at c s) v.journal
unfolding add_counts room_by in_log
space c s t v a w =
    record {
      groups = let e = a.words 6 in let g = w.groups in omega (arith, e, g);
      statebytes = let e = a.words 7 in let g = w.statebytes in omega (arith, e, g);
      states = let e = a.words 8 in let g = w.states in omega (arith, e, g);
      items = let e = a.words 9 in let g = w.items in omega (arith, e, g);
      links = let e = a.words 10 in let g = w.links in omega (arith, e, g);
    }

-- and the numbers that it ends with are words
pub worded : (s : State) (t : Tally) (v : World) → Adds t (world_at s) v → Numbered (add_counts s.decoder.counts t) → Worded v
unfolding add_counts
worded s t v a z =
    record {
      groups = let e = a.groups in let f = z.groups in omega (arith, e, f);
      statebytes = let e = a.statebytes in let f = z.statebytes in omega (arith, e, f);
      items = let e = a.items in let f = z.items in omega (arith, e, f);
    }

-- ---- the end of a call

-- the rows of the logs that memory does not have
pub record Besides (w : World) (n : Counts) (l : Logs) (packets events transactions : List ℕ) : Type 0 where
  pub bytes : log 0 w.journal ≡ []
  pub devices : log 1 w.journal ≡ []
  pub endpoints : log 2 w.journal ≡ []
  pub requests : log 11 w.journal ≡ []
  pub packet_rows : packets ≡ sets l.packets (n.packets * packet_width) (log 3 w.journal)
  pub event_rows : events ≡ sets l.events (n.events * event_width) (log 4 w.journal)
  pub transaction_rows : transactions ≡ sets l.transactions (n.transactions * transaction_width) (log 5 w.journal)

none_written : (l : List ℕ) (at k : ℕ) (js : List Row) → log k js ≡ [] → l ≡ sets l at (log k js)
none_written l at k js e = ap (sets l at) (sym e)

module _ (c : Stamp) (s : State) (w : World) (m : Memory) (holds : HoldsAt c s w m) (table : Tabled s.decoder.counts.endpoints s.table m.table) (few : s.decoder.counts.endpoints ≤ 128) where
  appends : (p e t : List ℕ) → Besides w (held_at s) s.logs p e t
      → Appends w (held_at s) s.logs (logs s.logs.bytes s.logs.devices s.logs.endpoints p e t m.groups m.statebytes m.states m.items m.links s.logs.requests)
  appends p e t b =
      each-log _
      (none_written s.logs.bytes _ 0 w.journal b.bytes)
      (none_written s.logs.devices _ 1 w.journal b.devices)
      (none_written s.logs.endpoints _ 2 w.journal b.endpoints)
      b.packet_rows
      b.event_rows
      b.transaction_rows
      holds.groups.written
      (holds.statebytes.written ∙ word_each s.logs.statebytes (log 7 w.journal) (held_at s).statebytes)
      (holds.states.written ∙ word_each s.logs.states (log 8 w.journal) (held_at s).states)
      (holds.items.written ∙ word_each s.logs.items (log 9 w.journal) (held_at s).items)
      holds.links.written
      (none_written s.logs.requests _ 11 w.journal b.requests)

  tied_is : Tied s.decoder.transaction w.transaction → tied s.decoder.transaction m.written ≡ w.transaction
  tied_is h =
      let t = s.decoder.transaction in
      ap (λ (b : Bool). tied_to t b m.written.link) holds.linked ∙ ap (tied_to t w.transaction.linked) holds.link ∙ sym h

  -- what it leaves is what the rules leave
  pub left_of : (size : length s.table ≡ word.table) → ((j : ℕ) → w.devices j ≡ get_or s.devices j blank) → Tied s.decoder.transaction w.transaction
      → (f : Bool) (c : Counts) (slot : Slot) (event : EventState) (keepalive : Bool) (waiting : ℕ)
      → counts_after s.decoder.counts w ≡ c → w.slot ≡ slot → w.event_state ≡ event → w.keepalive ≡ keepalive → waiting_of w ≡ waiting
      → (p e t : List ℕ) → Besides w (held_at s) s.logs p e t
      → Left w f s
      (state (record { counts = c; slot = slot; transaction = tied s.decoder.transaction m.written; last = m.written.last; event = event; keepalive = keepalive; waiting = waiting; finished = f; high = s.decoder.high; time = m.written.stamp.time }) s.devices m.table
      (logs s.logs.bytes s.logs.devices s.logs.endpoints p e t m.groups m.statebytes m.states m.items m.links s.logs.requests))
  unfolding decoder_of
  left_of size devices tie f c slot event keepalive waiting ec es ee ek ew p e t b =
      record {
        decoder = λ i. record { counts = sym ec i; slot = sym es i; transaction = tied_is tie i; last = holds.last_item i; event = sym ee i; keepalive = sym ek i; waiting = sym ew i; finished = f; high = s.decoder.high; time = ap (λ (x : Stamp). x.time) (holds.stamp ∙ sym holds.context) i };
        devices = record { size = refl; there = λ i u. sym (devices i); beyond = λ i u. refl };
        table =
            record {
              size = table.size ∙ sym size;
              entries = λ i u. holds.endpoints i (subst (λ (n : ℕ). i < n) holds.count u);
              words = λ i u. table.stored i (subst (λ (n : ℕ). i < n) holds.count u);
              beyond = λ i u. table.beyond i (subst (λ (n : ℕ). n * 17 ≤ i) holds.count u);
              firsts = λ k. first-kept table few k;
            };
        logs = appends p e t b;
      }
