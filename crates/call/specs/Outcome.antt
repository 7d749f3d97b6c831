-- To be believed: what a call may leave, for every input: the answer by 01's table, and the state either as it was or as the rules leave it.
-- OutcomeLaws proves that any two outcomes that this permits coincide.
-- Hold it to: 01, "Answer numbers" (1, 7, 9, "Accepted calls write only the new rows") and "What the contracts owe us"
use Rattle.std.specs.Prelude.{ℕ, zero, suc, ◌+◌, ◌*◌, ◌/◌, ◌<◌, ◌≤◌, Bool, true, false, not, ◌||◌, List, ◌≡◌, eqb, ltb, length, get_or}
use Rattle.std.proofs.lemmas.List.Edits.{sets}
use Rattle.rows.specs.Widths.{event_width, link_width, request_width, place}
use Rattle.details.specs.Search.{blank}
use Rattle.endpoints.specs.Table.{entry_at, first_at}
use Rattle.endpoints.specs.Word as word
use Rattle.details.specs.declared.Device.{Device}
use Rattle.rules.specs.Rows.{Row, log}
use Rattle.rules.specs.World.{World, waiting_of}
use Rattle.record.specs.Answers.{Tests, first_of}
use Rattle.record.specs.Formed.{well_formed, Stored}
use Rattle.record.specs.Room.{long, roomy}
use Rattle.record.specs.World.{world_of}
use Rattle.record.specs.declared.Counts.{Counts}
use Rattle.record.specs.declared.Decoder.{Decoder}
use Rattle.call.specs.State.{Logs, State, log_at, count_at, held_at, room_of}

-- ---- the tests of 01's table that are the same for each call

-- 1: "a lent log is too long, or the record is not well formed"
unfoldable pub is_ill : State → Bool
is_ill s = long (room_of s.logs) || not (well_formed s.decoder s.devices s.table (room_of s.logs))

-- the numbers of the next rows, once n and the rows of a journal are numbered
unfoldable pub counts_after : Counts → World → Counts
counts_after n w =
    record {
      bytes = w.bytes;
      devices = w.device_count;
      endpoints = w.count;
      packets = w.packets;
      events = n.events + length (log 4 w.journal) / event_width;
      transactions = w.transactions;
      groups = w.groups;
      statebytes = w.state_bytes;
      states = n.states + length (log 8 w.journal);
      items = w.items;
      links = n.links + length (log 10 w.journal) / link_width;
      requests = n.requests + length (log 11 w.journal) / request_width;
    }

-- 7: "by the rules the call would end with more rows, bytes, devices or endpoints than there is room for"; by the rules it ends in the world w
unfoldable pub is_full : State → World → Bool
is_full s w = not (roomy s.table (counts_after s.decoder.counts w) (room_of s.logs))

-- 9: "an endpoint's byte total would pass 2^64 - 1", of one of the n endpoints
abbrev pub any_over : ℕ → World → Bool
any_over zero w = false
any_over (suc n) w = ltb 18446744073709551615 (w.endpoints n).total || any_over n w

unfoldable pub is_over : World → Bool
is_over w = any_over w.count w

-- ---- what the rules leave: the world w, from the state s

-- each log has the rows of the call behind the n that it held, and its other words as they were
abbrev pub Appends : World → Counts → Logs → Logs → Type 0
Appends w n l l' = (k : ℕ) → k < 12 → log_at k l' ≡ sets (log_at k l) (place k (count_at k n)) (log k w.journal)

-- the record is the world's, and the mode that of the record d before (02, 6); `finished` is for finish to set
unfoldable pub decoder_of : Decoder → Bool → World → Decoder
decoder_of d finished w =
    record {
      counts = counts_after d.counts w;
      slot = w.slot;
      transaction = w.transaction;
      last = w.last_item;
      event = w.event_state;
      keepalive = w.keepalive;
      waiting = waiting_of w;
      finished = finished;
      high = d.high;
      time = w.context.time;
    }

-- a row for each device of the world, the others as they were
pub record DevicesOf (w : World) (v v' : List Device) : Type 0 where
  pub size : length v' ≡ length v
  pub there : (i : ℕ) → i < w.device_count → get_or v' i blank ≡ w.devices i
  pub beyond : (i : ℕ) → w.device_count ≤ i → get_or v' i blank ≡ get_or v i blank

-- an entry for each endpoint of the world, in words as `store` writes them; the other words as they were, the first numbers among them
pub record TableOf (w : World) (t t' : List ℕ) : Type 0 where
  pub size : length t' ≡ length t
  pub entries : (i : ℕ) → i < w.count → entry_at t' i ≡ w.endpoints i
  pub words : (i : ℕ) → i < w.count → Stored t' i
  pub beyond : (i : ℕ) → w.count * word.width ≤ i → get_or t' i 0 ≡ get_or t i 0
  pub firsts : (k : ℕ) → first_at k t' ≡ first_at k t

pub record Left (w : World) (finished : Bool) (s s' : State) : Type 0 where
  pub decoder : s'.decoder ≡ decoder_of s.decoder finished w
  pub devices : DevicesOf w s.devices s'.devices
  pub table : TableOf w s.table s'.table
  pub logs : Appends w (held_at s) s.logs s'.logs

-- ---- the outcome

-- 0 and 8 leave what the rules leave, any other answer leaves all as it was
abbrev pub accepts : ℕ → Bool
accepts a = eqb a 0 || eqb a 8

-- a call with these tests, by the rules ending in the world w, answers a and leaves s'
pub record Answers (q : Tests) (w : World) (finished : Bool) (s : State) (a : ℕ) (s' : State) : Type 0 where
  pub answer : a ≡ first_of q
  pub left : accepts (first_of q) ≡ true → Left w finished s s'
  pub kept : accepts (first_of q) ≡ false → s' ≡ s

-- the world that a state stands for (record, World)
abbrev pub world_at : State → World
world_at s = world_of s.decoder s.devices s.table
