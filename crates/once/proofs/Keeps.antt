-- What every call of a sequence keeps of the ledger: the account of the world that the state stands for, and one line for each data packet of the packet log.
use Prim.Native.Nat.{ℕ, suc, ◌+◌, ◌-◌, ◌*◌, ◌<◌, ◌≤◌, zero-le}
use native.Mathlib.Omega.{arith}
use mathlib.Core.Bool.{Bool, true, false}
use mathlib.Core.List.{List, [], ◌∷◌, ◌++◌, append-nil}
use mathlib.Core.Path.{◌≡◌, refl, sym, ap, subst, ◌∙◌}
use borrow.Author.Tests.{ltb-true}
use lib.Dec.{eqb, ltb}
use lib.ListN.{length, length-append}
use Rattle.transaction.specs.Table.{pick}
use Rattle.details.specs.Details as details
use Rattle.details.specs.declared.Device.{Device}
use Rattle.endpoints.specs.Table.{new_endpoint}
use Rattle.endpoints.specs.Word as word
use Rattle.rules.specs.Decoder.{fresh}
use Rattle.rules.specs.Demand.{Call, packet, event, detail, finishing, call}
use Rattle.rules.specs.Rows.{Row, log}
use Rattle.rules.specs.Tokened.{Stands}
use Rattle.rules.specs.World.{World}
use Rattle.rules.specs.declared.Slot.{Slot}
use Rattle.rules.specs.declared.Slot.TheVariants.{Empty, Current, Suspended}
use Rattle.rules.proofs.Counted.{Counted, counts, log-words, log-behind}
use Rattle.rules.proofs.Demand.{Sound}
use Rattle.record.specs.declared.Counts.{Counts}
use Rattle.record.specs.declared.Decoder.{Decoder}
use Rattle.call.specs.Outcome.{counts_after, decoder_of, accepts, world_at}
use Rattle.call.specs.State.{Logs, State}
use Rattle.start.specs.Fresh.{Makes}
use Rattle.start.proofs.FreshLaws.{fresh_stands}
use Rattle.demands.specs.Sequence.{Sequence, made, then}
use Rattle.demands.proofs.Kept.{kept}
use Rattle.demands.proofs.Steps.{Moved, moved, stayed}
use Rattle.demands.proofs.Told.{began, counts-left}
use Rattle.ledger.proofs.Account.{held_by, Tally, tally, blank, View, view, Account, entered, enters, InsideAt}
use Rattle.ledger.specs.Ledger.{Ledger, is_data, turns}
use Rattle.ledger.proofs.Laws.{laws}
use Rattle.reading.specs.Packets.{packet_bytes}
use Rattle.reading.proofs.PacketsLaws.{Laid, old-packet, new-packet, laid_more}
use Rattle.once.specs.Once.{ledger_of}
use Rattle.once.specs.OnceLaws.{bytes_by}
use Rattle.once.proofs.Logged.{row_by, bytes_are, rows_are}
use Rattle.once.proofs.Sums.{sum_all}
use Rattle.once.proofs.Packets.{data_packets, data_same, no_data}

-- ---- the packet log

-- of n packets the ledger has the data packets
pub record Packed (high : Bool) (n : ℕ) (rows bytes : List ℕ) (ps : List (ℕ × ℕ)) : Type 0 where
  pub laid : Laid n rows bytes
  pub lines : ps ≡ data_packets high n (λ k. packet_bytes k n rows bytes)

module _ (high : Bool) (n : ℕ) (rows bytes : List ℕ) (ps : List (ℕ × ℕ)) (h : Packed high n rows bytes ps) where
  -- a row more
  packed_more : (p : List ℕ) (time : ℕ) → Packed high (suc n) (rows ++ (length bytes ∷ time ∷ [])) (bytes ++ p) (pick (is_data high p) ((n, length p - 3) ∷ ps) ps)
  packed_more p time =
      record {
        laid = laid_more n rows bytes p time h.laid;
        lines = ap (λ (qs : List (ℕ × ℕ)). pick (is_data high p) ((n, length p - 3) ∷ qs) qs) h.lines
            ∙ sym (rw (new-packet n rows bytes p time h.laid, data_same high n (λ k. packet_bytes k (suc n) (rows ++ (length bytes ∷ time ∷ [])) (bytes ++ p)) (λ k. packet_bytes k n rows bytes) (old-packet n rows bytes p time h.laid)));
      }

  packed_still : Packed high n (rows ++ []) (bytes ++ []) ps
  packed_still = rw (append-nil rows, append-nil bytes) h

  packed_by : (k : Call) (m : ℕ) → m * 2 ≡ n * 2 + length (row_by k (length bytes)) → Packed high m (rows ++ row_by k (length bytes)) (bytes ++ bytes_by k) (enters high k n ps)
  packed_by (packet p time shelf) m q = let e : m ≡ suc n = omega arith in rw e (packed_more p time)
  packed_by (event kind code time) m q = let e : m ≡ suc n = omega arith in rw e (rw (no_data high) at (packed_more [] time))
  packed_by (detail address number direction kind max) m q = let e : m ≡ n = omega arith in rw e packed_still
  packed_by finishing m q = let e : m ≡ n = omega arith in rw e packed_still

-- ---- what is kept

pub record Keeps (js : List Row) (s : State) (l : Ledger) : Type 0 where
  pub account : Account (view js (world_at s)) l
  pub bytes : s.decoder.counts.bytes ≡ length (log 0 js)
  pub packed : Packed s.decoder.high s.decoder.counts.packets (log 3 js) (log 0 js) (entered l)
  -- no more payload than bytes
  pub small : sum_all (entered l) ≤ s.decoder.counts.bytes

-- ---- a fresh decoder has it

fresh-blank : (e : ℕ) → tally (fresh.endpoints e) ≡ blank
unfolding details.fresh
fresh-blank e = by (eqb e 2) (eqb e 1) (eqb e 0)
  where
    by : (i j k : Bool) → tally (pick i (new_endpoint 0 18) (pick j (new_endpoint 0 17) (pick k (new_endpoint 0 16) (new_endpoint 0 0)))) ≡ blank
    by true j k = refl
    by false true k = refl
    by false false true = refl
    by false false false = refl

module _ {high : Bool} {v : List Device} {t : List ℕ} {l : Logs} {s : State} (hv : length v ≡ 64) (ht : length t ≡ word.table) (m : Makes high v t l 0 s) where
  entry-made : (e : ℕ) → (view fresh.journal (world_at s)).entry e ≡ blank
  entry-made e = by (ltb e s.decoder.counts.endpoints) refl
    where
      by : (b : Bool) → ltb e s.decoder.counts.endpoints ≡ b → pick b (tally ((world_at s).endpoints e)) blank ≡ blank
      by true q =
          let a = fresh_stands m ht (omega arith) in
          ap tally (a.endpoints e (let h = ltb-true e s.decoder.counts.endpoints q in omega (arith, a.count))) ∙ fresh-blank e
      by false q = refl

  keeps-made : Keeps fresh.journal s []
  unfolding details.fresh
  keeps-made =
      let a = fresh_stands m ht (omega arith) in
      record {
        account = record {
          held = sym (ap (λ (z : Slot). held_by z s.decoder.transaction.filled s.decoder.transaction.payload) a.slot);
          waiting = λ e. sym (ap (λ (z : Tally). z.waits) (entry-made e));
          total = λ e. ap (λ (z : Tally). z.total) (entry-made e);
          rows = λ e. refl;
          ordered = λ e. tt;
        };
        bytes = a.bytes;
        packed = rw a.packets (record { laid = record { size = refl; starts = λ k h. absurd (omega arith) }; lines = refl });
        small = zero-le;
      }

-- ---- a call, accepted or not: what the rules leave

enters_small : (high : Bool) (k : Call) (n : ℕ) (ps : List (ℕ × ℕ)) → sum_all (enters high k n ps) ≤ sum_all ps + length (bytes_by k)
enters_small high (packet p time shelf) n ps = by (is_data high p)
  where
    by : (b : Bool) → sum_all (pick b ((n, length p - 3) ∷ ps) ps) ≤ sum_all ps + length p
    by true = omega arith
    by false = omega arith
enters_small high (event kind code time) n ps = omega arith
enters_small high (detail address number direction kind max) n ps = omega arith
enters_small high finishing n ps = omega arith

module _ (k : Call) {s : State} {js : List Row} {l : Ledger} (r : Sound js (world_at s)) (h : Keeps js s l) where
  abbrev pub after : World
  after = call s.decoder.high k (world_at s)

  stands : Stands (world_at s)
  stands = let q = (r.keeps 0).size in (omega (arith, r.three), (r.keeps 0).special refl)

  within : s.decoder.transaction.endpoint < s.decoder.counts.endpoints
  within = omega (arith, r.fits, (r.keeps 0).size, (r.keeps 0).target)

  inside : (z : Slot) → InsideAt z s.decoder.transaction.endpoint s.decoder.counts.endpoints
  inside Empty = tt
  inside Current = within
  inside Suspended = within

  pub account-after : Account (view js after) (turns s.decoder.high k (world_at s) l)
  account-after = (laws s.decoder.high).account k js (world_at s) l stands (inside s.decoder.slot) h.account

  grown : Counted (world_at s) after
  grown = counts (world_at s) s.decoder.high k (world_at s) (began s)

  pub small-after : sum_all (entered (turns s.decoder.high k (world_at s) l)) ≤ after.bytes
  small-after =
      let e = ap sum_all ((laws s.decoder.high).entered_by k (world_at s) l) in
      omega (arith, e, enters_small s.decoder.high k s.decoder.counts.packets (entered l), h.small, grown.bytes_are, log-words 0 after.journal, ap length (bytes_are s.decoder.high k (world_at s) refl))

-- ---- an accepted call keeps it

module _ {k : Call} {s s' : State} (m : Moved k s s') {js : List Row} {l : Ledger} (r : Sound js (world_at s)) (h : Keeps js s l) where
  abbrev left : World
  left = after k r h

  -- the state after it stands for that world
  count_left : s'.decoder.counts.endpoints ≡ left.count
  unfolding counts_after
  count_left = ap (λ (c : Counts). c.endpoints) (counts-left m)

  entry-left : (e : ℕ) → (view (left.journal ++ js) (world_at s')).entry e ≡ (view js left).entry e
  entry-left e = rw count_left (by (ltb e left.count) refl)
    where
      by : (b : Bool) → ltb e left.count ≡ b → pick b (tally ((world_at s').endpoints e)) blank ≡ pick b (tally (left.endpoints e)) blank
      by true q = ap tally (m.left.table.entries e (ltb-true e left.count q))
      by false q = refl

  view-left : view (left.journal ++ js) (world_at s') ≡ view js left
  unfolding decoder_of
  view-left = λ i. record { held = held_by (m.left.decoder i).slot (m.left.decoder i).transaction.filled (m.left.decoder i).transaction.payload; entry = λ e. entry-left e i; rows = (view js left).rows }

  bytes_same : s'.decoder.counts.bytes ≡ left.bytes
  unfolding counts_after
  bytes_same = ap (λ (c : Counts). c.bytes) (counts-left m)

  bytes_left : s'.decoder.counts.bytes ≡ length (log 0 (left.journal ++ js))
  bytes_left =
      omega (arith, bytes_same, (grown k r h).bytes_are, log-words 0 left.journal, ap length (log-behind 0 left.journal js), length-append (log 0 js) (log 0 left.journal), h.bytes)

  -- what its packet log has more
  row_same : log 3 left.journal ≡ row_by k (length (log 0 js))
  row_same = rows_are s.decoder.high k (world_at s) refl ∙ ap (row_by k) h.bytes

  pub rows_left : log 3 (left.journal ++ js) ≡ log 3 js ++ row_by k (length (log 0 js))
  rows_left = log-behind 3 left.journal js ∙ ap (λ (z : List ℕ). log 3 js ++ z) row_same

  pub data-left : log 0 (left.journal ++ js) ≡ log 0 js ++ bytes_by k
  data-left = log-behind 0 left.journal js ∙ ap (λ (z : List ℕ). log 0 js ++ z) (bytes_are s.decoder.high k (world_at s) refl)

  pub number-left : s'.decoder.counts.packets * 2 ≡ s.decoder.counts.packets * 2 + length (row_by k (length (log 0 js)))
  unfolding counts_after
  number-left = omega (arith, ap (λ (c : Counts). c.packets) (counts-left m), (grown k r h).packets_are, log-words 3 left.journal, ap length row_same)

  -- the mode stays
  high-left : s'.decoder.high ≡ s.decoder.high
  unfolding decoder_of
  high-left = ap (λ (d : Decoder). d.high) m.left.decoder

  packed-left : Packed s'.decoder.high s'.decoder.counts.packets (log 3 (left.journal ++ js)) (log 0 (left.journal ++ js)) (entered (turns s.decoder.high k (world_at s) l))
  packed-left =
      subst (λ (b : Bool). Packed b s'.decoder.counts.packets (log 3 (left.journal ++ js)) (log 0 (left.journal ++ js)) (entered (turns s.decoder.high k (world_at s) l))) (sym high-left)
      (rw (rows_left, data-left, (laws s.decoder.high).entered_by k (world_at s) l) (packed_by s.decoder.high s.decoder.counts.packets (log 3 js) (log 0 js) (entered l) h.packed k s'.decoder.counts.packets number-left))

  keeps_then : Keeps (left.journal ++ js) s' (turns s.decoder.high k (world_at s) l)
  keeps_then = record { account = subst (λ (z : View). Account z (turns s.decoder.high k (world_at s) l)) (sym view-left) (account-after k r h); bytes = bytes_left; packed = packed-left; small = omega (arith, small-after k r h, bytes_same) }

-- ---- so every sequence does

pub keeps : {js : List Row} {s : State} (q : Sequence js s) → Keeps js s (ledger_of q)
keeps (made hv ht m) = keeps-made hv ht m
keeps (then {js} {s} k a s' q d) = by (accepts a) refl (keeps q)
  where
    by : (b : Bool) → accepts a ≡ b → Keeps js s (ledger_of q) → Keeps (pick b (call s.decoder.high k (world_at s)).journal [] ++ js) s' (pick b (turns s.decoder.high k (world_at s) (ledger_of q)) (ledger_of q))
    by true e h = keeps_then (moved k s a s' d e) (kept q).rules h
    by false e h = subst (λ (z : State). Keeps js z (ledger_of q)) (sym (stayed k s a s' d e)) h
