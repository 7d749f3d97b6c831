-- No byte is counted twice, over every sequence of calls (specs/Once.antt): from what every call keeps.
use Prim.Native.Nat.{ℕ, zero, suc, ◌+◌, ◌-◌, ◌*◌, ◌<◌, ◌≤◌}
use native.Mathlib.Omega.{arith}
use mathlib.Core.Bool.{Bool, true, false, ◌&&◌}
use mathlib.Core.List.{List, [], ◌∷◌}
use mathlib.Core.Path.{◌≡◌, refl, sym, ap, ◌∙◌}
use borrow.Author.Tests.{ltb-false, lt-ltb, le-ltb}
use lib.Dec.{ltb}
use lib.ListN.{length, take}
use Rattle.rows.specs.One.{one}
use Rattle.rows.proofs.WidthsLaws.{log-number}
use Rattle.transaction.specs.Table.{pick}
use Rattle.endpoints.specs.Table.{entry_at}
use Rattle.rules.specs.Rows.{Row, log}
use Rattle.rules.specs.declared.Slot.{Slot}
use Rattle.rules.specs.declared.Slot.TheVariants.{Empty, Current, Suspended}
use Rattle.record.specs.Formed.{holds}
use Rattle.call.specs.State.{State}
use Rattle.demands.specs.Sequence.{Sequence, Told, link_rows}
use Rattle.demands.proofs.Kept.{kept}
use Rattle.ledger.proofs.Account.{held_by, entered}
use Rattle.ledger.specs.Ledger.{Ledger, is_waiting, is_counted, lengths_of, sum, running, is_data}
use Rattle.reading.specs.Packets.{packet_bytes}
use Rattle.reading.proofs.PacketsLaws.{beyond}
use Rattle.once.specs.Once.{bytes_of, data_bytes, totals, totals_before, is_uncounted, lines_of, ledger_of, Once}
use Rattle.once.proofs.DataRows.{data-rows}
use Rattle.once.proofs.Keeps.{Keeps, keeps}
use Rattle.once.proofs.Packets.{data_packets, data_same, no_data}
use Rattle.once.proofs.Sums.{sum_all, up_to, up_same, spread, sum_data, times_in, lines_in, times_data, long_data, each_data}

held-is : (s : Slot) (f : Bool) (n : ℕ) → held_by s f n ≡ pick (holds s && f) (n ∷ []) []
held-is Empty f n = refl
held-is Current f n = refl
held-is Suspended f n = refl

up-totals : (n : ℕ) (t : List ℕ) → totals n t ≡ up_to n (λ e. (entry_at t e).total)
up-totals zero t = refl
up-totals (suc n) t = omega (arith, up-totals n t)

-- the packets in the logs are those of the history
pub bytes_are : (js : List Row) (s : State) → Told js s → (k : ℕ) → bytes_of k s ≡ packet_bytes k s.decoder.counts.packets (log 3 js) (log 0 js)
bytes_are js s t k =
    let a = t 3 (log-number 3 refl) in
    let e : s.decoder.counts.bytes * 1 ≡ s.decoder.counts.bytes = omega arith in
    let b : take s.decoder.counts.bytes s.logs.bytes ≡ log 0 js = ap (λ (n : ℕ). take n s.logs.bytes) (sym e) ∙ t 0 (log-number 0 refl) in
    λ i. packet_bytes k s.decoder.counts.packets (a i) (b i)

module _ {js : List Row} {s : State} {l : Ledger} (t : Told js s) (h : Keeps js s l) where
  abbrev count : ℕ
  count = s.decoder.counts.endpoints

  abbrev packets : ℕ
  packets = s.decoder.counts.packets

  lines_are : entered l ≡ data_packets s.decoder.high packets (λ k. bytes_of k s)
  lines_are = h.packed.lines ∙ data_same s.decoder.high packets (λ k. packet_bytes k packets (log 3 js) (log 0 js)) (λ k. bytes_of k s) (λ k q. sym (bytes_are js s t k))

  rows_are : (e : ℕ) → totals_before e (link_rows s) ≡ running 0 (lengths_of (is_counted e) l)
  rows_are e = ap (totals_before e) (t 10 (log-number 10 refl)) ∙ (data-rows e js ∙ h.account.rows e)

  total-is : (e : ℕ) → e < count → (entry_at s.table e).total ≡ sum (lengths_of (is_counted e) l)
  total-is e q = rw (lt-ltb e count q) at (h.account.total e)

  waiting-is : (e : ℕ) → e < count → lengths_of (is_waiting e) l ≡ pick (entry_at s.table e).pending ((entry_at s.table e).pendinglength ∷ []) []
  waiting-is e q = rw (lt-ltb e count q) at (h.account.waiting e)

  -- nothing was counted behind the last endpoint
  nowhere : (e : ℕ) → count ≤ e → sum (lengths_of (is_counted e) l) ≡ 0
  nowhere e q = sym (rw (le-ltb e count q) at (h.account.total e))

  places_are : (k : ℕ) → lines_of k l ≡ one (is_data s.decoder.high (bytes_of k s))
  places_are k = lines_in k l ∙ (ap (times_in k) lines_are ∙ (times_data s.decoder.high k packets (λ i. bytes_of i s) ∙ by (ltb k packets) refl))
    where
      by : (b : Bool) → ltb k packets ≡ b → pick b (one (is_data s.decoder.high (bytes_of k s))) 0 ≡ one (is_data s.decoder.high (bytes_of k s))
      by true q = refl
      by false q = sym (ap (λ (p : List ℕ). one (is_data s.decoder.high p)) (bytes_are js s t k ∙ beyond k packets (log 3 js) (log 0 js) (ltb-false k packets q)) ∙ ap one (no_data s.decoder.high))

  sums_are : totals count s.table + sum (lengths_of is_uncounted l) ≡ data_bytes s.decoder.high packets (λ k. bytes_of k s)
  sums_are =
      omega (arith, up-totals count s.table, up_same count (λ e. (entry_at s.table e).total) (λ e. sum (lengths_of (is_counted e) l)) total-is, spread count l nowhere, ap sum_all lines_are, sum_data s.decoder.high packets (λ k. bytes_of k s))

  once_of : Once l s
  once_of =
      record {
        rows = rows_are;
        total = total-is;
        places = places_are;
        length = each_data (λ k m. m ≡ length (bytes_of k s) - 3) l (rw lines_are (long_data s.decoder.high packets (λ k. bytes_of k s)));
        sums = sums_are;
        held = h.account.held ∙ held-is s.decoder.slot s.decoder.transaction.filled s.decoder.transaction.payload;
        waiting = waiting-is;
      }

pub once : {js : List Row} {s : State} (q : Sequence js s) → Once (ledger_of q) s
once q = once_of (kept q).told (keeps q)
