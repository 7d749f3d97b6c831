-- What follows for a sequence of calls (specs/OnceLaws.antt): the packets in the packet log, no answer 9, when a payload is counted, and that what is settled stays.
use Prim.Native.Nat.{ℕ, zero, suc, ◌+◌, ◌*◌, ◌<◌, ◌≤◌}
use native.Mathlib.Omega.{arith}
use mathlib.Core.Bool.{Bool, true, false, true≢false, cond, not, ◌&&◌, ◌||◌}
use mathlib.Core.List.{List, [], ◌∷◌, ◌++◌, append-nil}
use mathlib.Core.Path.{◌≡◌, refl, sym, ap, ◌∙◌}
use borrow.Author.Tests.{eqb-true, lt-ltb, le-ltb}
use lib.ListN.{length}
use lib.Dec.{eqb}
use Rattle.transaction.specs.Table.{pick}
use Rattle.rules.specs.Demand.{Call, packet, event, detail, finishing, call}
use Rattle.rules.specs.Rows.{Row, log}
use Rattle.rules.specs.Transactions.{is_dropped}
use Rattle.rules.specs.World.{World}
use Rattle.rules.proofs.Demand.{Sound}
use Rattle.record.specs.Answers.{Tests, first_of}
use Rattle.call.specs.Outcome.{is_full, is_over, any_over, counts_after, accepts, world_at}
use Rattle.call.specs.State.{State}
use Rattle.demands.specs.Sequence.{Does, Sequence, then}
use Rattle.demands.proofs.Kept.{kept, kept_then}
use Rattle.demands.proofs.Steps.{moved, stayed, tests_for, answers}
use Rattle.sound.proofs.Keeps.{room-left}
use Rattle.ledger.proofs.Account.{entered, is_earning, status_in, earns, is_settled, Among}
use Rattle.ledger.specs.Ledger.{Fate, Line, Ledger, is_counted, lengths_of, sum, turns}
use Rattle.ledger.proofs.Laws.{laws}
use Rattle.reading.specs.Packets.{packet_bytes}
use Rattle.reading.proofs.PacketsLaws.{Laid, beyond, old-packet, new-packet}
use Rattle.once.specs.Once.{bytes_of, ledger_of}
use Rattle.once.specs.OnceLaws.{bytes_by, Follows}
use Rattle.once.proofs.Keeps.{Keeps, keeps, account-after, small-after, rows_left, data-left, number-left}
use Rattle.once.proofs.Logged.{row_by}
use Rattle.once.proofs.Once.{bytes_are, once}
use Rattle.once.proofs.Sums.{sum_all, sum-line}

-- ---- the packets in the packet log

module _ (n : ℕ) (rows bytes : List ℕ) (h : Laid n rows bytes) where
  still : (i m : ℕ) → m ≡ n → packet_bytes i m (rows ++ []) (bytes ++ []) ≡ packet_bytes i n rows bytes
  still i m e = rw (e, append-nil rows, append-nil bytes)

  given_by : (k : Call) (m : ℕ) → m * 2 ≡ n * 2 + length (row_by k (length bytes)) → packet_bytes n m (rows ++ row_by k (length bytes)) (bytes ++ bytes_by k) ≡ bytes_by k
  given_by (packet p time shelf) m q = let e : m ≡ suc n = omega arith in rw e (new-packet n rows bytes p time h)
  given_by (event kind code time) m q = let e : m ≡ suc n = omega arith in rw e (new-packet n rows bytes [] time h)
  given_by (detail address number direction kind max) m q = still n m (omega arith) ∙ beyond n n rows bytes (omega arith)
  given_by finishing m q = still n m (omega arith) ∙ beyond n n rows bytes (omega arith)

  stays_by : (k : Call) (m : ℕ) → m * 2 ≡ n * 2 + length (row_by k (length bytes)) → (i : ℕ) → i < n → packet_bytes i m (rows ++ row_by k (length bytes)) (bytes ++ bytes_by k) ≡ packet_bytes i n rows bytes
  stays_by (packet p time shelf) m q i l = let e : m ≡ suc n = omega arith in rw e (old-packet n rows bytes p time h i l)
  stays_by (event kind code time) m q i l = let e : m ≡ suc n = omega arith in rw e (old-packet n rows bytes [] time h i l)
  stays_by (detail address number direction kind max) m q i l = still i m (omega arith)
  stays_by finishing m q i l = still i m (omega arith)

module _ {js : List Row} {s : State} (q : Sequence js s) (k : Call) (a : ℕ) (s' : State) (d : Does k s a s') where
  -- behind an accepted call
  read : accepts a ≡ true → (i : ℕ) → bytes_of i s' ≡ packet_bytes i s'.decoder.counts.packets (log 3 js ++ row_by k (length (log 0 js))) (log 0 js ++ bytes_by k)
  read e i =
      let m = moved k s a s' d e in
      let r = (kept q).rules in
      bytes_are ((call s.decoder.high k (world_at s)).journal ++ js) s' (kept_then m (kept q)).told i ∙ λ j. packet_bytes i s'.decoder.counts.packets (rows_left m r (keeps q) j) (data-left m r (keeps q) j)

  number : accepts a ≡ true → s'.decoder.counts.packets * 2 ≡ s.decoder.counts.packets * 2 + length (row_by k (length (log 0 js)))
  number e = number-left (moved k s a s' d e) (kept q).rules (keeps q)

  given : accepts a ≡ true → bytes_of s.decoder.counts.packets s' ≡ bytes_by k
  given e = read e s.decoder.counts.packets ∙ given_by s.decoder.counts.packets (log 3 js) (log 0 js) (keeps q).packed.laid k s'.decoder.counts.packets (number e)

  stays : (i : ℕ) → i < s.decoder.counts.packets → bytes_of i s' ≡ bytes_of i s
  stays i l = by (accepts a) refl
    where
      by : (b : Bool) → accepts a ≡ b → bytes_of i s' ≡ bytes_of i s
      by true e = read e i ∙ (stays_by s.decoder.counts.packets (log 3 js) (log 0 js) (keeps q).packed.laid k s'.decoder.counts.packets (number e) i l ∙ sym (bytes_are js s (kept q).told i))
      by false e = ap (bytes_of i) (stayed k s a s' d e)

-- ---- the answer's tests

skip : (b : Bool) (n rest m : ℕ) → ¬ (n ≡ m) → cond b n rest ≡ m → (b ≡ false) × (rest ≡ m)
skip true n rest m d h = absurd (d h)
skip false n rest m d h = (refl, h)

-- where the answer is 8 or 9, the tests before those two do not apply
late : (q : Tests) (m : ℕ) → 7 < m → first_of q ≡ m → (q.full ≡ false) × (cond q.over 9 (cond q.dropped 8 0) ≡ m)
unfolding first_of
late q m l h =
    let a = skip q.ill 1 _ m (λ e. omega arith) h in
    let b = skip q.finished 2 _ m (λ e. omega arith) a.1 in
    let c = skip q.long 3 _ m (λ e. omega arith) b.1 in
    let d = skip q.kind 4 _ m (λ e. omega arith) c.1 in
    let e = skip q.detail 5 _ m (λ e. omega arith) d.1 in
    let f = skip q.address 6 _ m (λ e. omega arith) e.1 in
    skip q.full 7 _ m (λ e. omega arith) f.1

is_9 : (o d : Bool) → ◌≡◌ {A = ℕ} (cond o 9 (cond d 8 0)) 9 → o ≡ true
is_9 true d h = refl
is_9 false true h = absurd (omega arith)
is_9 false false h = absurd (omega arith)

is_8 : (o d : Bool) → ◌≡◌ {A = ℕ} (cond o 9 (cond d 8 0)) 8 → d ≡ true
is_8 true d h = absurd (omega arith)
is_8 false true h = refl
is_8 false false h = absurd (omega arith)

-- ---- no call answers 9

-- a part is at most the whole
part : (these : Fate → Bool) (l : Ledger) → sum (lengths_of these l) ≤ sum_all (entered l)
part these [] = omega arith
part these (a ∷ l) = omega (arith, part these l, sum-line these a l, by (these a.fate))
  where
    by : (b : Bool) → pick b a.length 0 ≤ a.length
    by true = omega arith
    by false = omega arith

none_over : (n : ℕ) (w : World) → ((e : ℕ) → e < n → (w.endpoints e).total ≤ 18446744073709551615) → any_over n w ≡ false
none_over zero w h = refl
none_over (suc n) w h = rw (le-ltb 18446744073709551615 (w.endpoints n).total (h n (omega arith))) (none_over n w (λ e l. h e (omega arith)))

module _ (k : Call) {s : State} {js : List Row} {l : Ledger} (r : Sound js (world_at s)) (h : Keeps js s l) where
  total_small : (e : ℕ) → e < (call s.decoder.high k (world_at s)).count → ((call s.decoder.high k (world_at s)).endpoints e).total ≤ (call s.decoder.high k (world_at s)).bytes
  total_small e q =
      let t = rw (lt-ltb e (call s.decoder.high k (world_at s)).count q) at ((account-after k r h).total e) in
      omega (arith, t, part (is_counted e) (turns s.decoder.high k (world_at s) l), small-after k r h)

  -- where there is room, no total is too great
  not-over : is_full s (call s.decoder.high k (world_at s)) ≡ false → is_over (call s.decoder.high k (world_at s)) ≡ false
  unfolding is_over counts_after
  not-over f =
      let n = (room-left s (call s.decoder.high k (world_at s)) f).numbered.bytes in
      none_over (call s.decoder.high k (world_at s)).count (call s.decoder.high k (world_at s)) (λ e q. omega (arith, total_small e q))

over_of : (k : Call) {s : State} {js : List Row} {l : Ledger} → Sound js (world_at s) → Keeps js s l → (tests_for k s).full ≡ false → (tests_for k s).over ≡ false
over_of (packet p time shelf) r h f = not-over (packet p time shelf) r h f
over_of (event kind code time) r h f = not-over (event kind code time) r h f
over_of (detail address number direction kind max) r h f = refl
over_of finishing r h f = not-over finishing r h f

never_9 : {js : List Row} {s : State} → Sequence js s → (k : Call) (a : ℕ) (s' : State) → Does k s a s' → ¬ (a ≡ 9)
never_9 {js} {s} q k a s' d e =
    let t = late (tests_for k s) 9 (omega arith) (sym (answers k s a s' d).answer ∙ e) in
    true≢false (sym (is_9 (tests_for k s).over (tests_for k s).dropped t.1) ∙ over_of k (kept q).rules (keeps q) t.0)

-- ---- when a payload is counted

dropped-earns : (b z : Bool) → b ≡ true → (not b && z) ≡ false
dropped-earns true z h = refl
dropped-earns false z h = absurd (true≢false (sym h))

-- an answer 8 earns nothing
eight : (k : Call) (s : State) → (tests_for k s).dropped ≡ true → earns s.decoder.high k (world_at s) ≡ false
eight (packet p time shelf) s h = dropped-earns (is_dropped s.decoder.slot s.decoder.transaction) (is_earning (status_in s.decoder.high p (world_at s))) h
eight (event kind code time) s h = refl
eight (detail address number direction kind max) s h = refl
eight finishing s h = refl

earned : {js : List Row} {s : State} (q : Sequence js s) (k : Call) (a : ℕ) (s' : State) (d : Does k s a s') → (eqb a 0 && earns s.decoder.high k (world_at s)) ≡ false
    → (e : ℕ) → lengths_of (is_counted e) (ledger_of (then k a s' q d)) ≡ lengths_of (is_counted e) (ledger_of q)
earned {s = s} q k a s' d h e = by (accepts a) (λ b. which (eqb a 0) (eqb a 8) refl b h)
  where
    which : (x y : Bool) → eqb a 8 ≡ y → (x || y) ≡ true → (x && earns s.decoder.high k (world_at s)) ≡ false → earns s.decoder.high k (world_at s) ≡ false
    which true y p b z = z
    which false true p b z =
        let t = late (tests_for k s) 8 (omega arith) (sym (answers k s a s' d).answer ∙ eqb-true a 8 p) in
        eight k s (is_8 (tests_for k s).over (tests_for k s).dropped t.1)
    which false false p b z = absurd (true≢false (sym b))

    by : (b : Bool) → (b ≡ true → earns s.decoder.high k (world_at s) ≡ false) → lengths_of (is_counted e) (pick b (turns s.decoder.high k (world_at s) (ledger_of q)) (ledger_of q)) ≡ lengths_of (is_counted e) (ledger_of q)
    by true z = (laws s.decoder.high).earned k (world_at s) (ledger_of q) (z refl) e
    by false z = refl

-- ---- what is settled stays

counted-after : {js : List Row} {s : State} (q : Sequence js s) (k : Call) (a : ℕ) (s' : State) (d : Does k s a s') (b : Line) → is_settled b.fate ≡ true
    → Among b (ledger_of q) → Among b (ledger_of (then k a s' q d))
counted-after {s = s} q k a s' d b z h = by (accepts a)
  where
    by : (c : Bool) → Among b (pick c (turns s.decoder.high k (world_at s) (ledger_of q)) (ledger_of q))
    by true = (laws s.decoder.high).settled k (world_at s) (ledger_of q) b z h
    by false = h

pub follows : Follows
follows = record { once = once; given = given; stays = stays; never_9 = never_9; earned = earned; counted-after = counted-after }
