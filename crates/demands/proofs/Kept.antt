-- What every call of a sequence keeps: demand 3's invariant of the rules, the history in the logs, and a table of zeros behind its endpoints.
use Prim.Native.Nat.{ℕ, ◌+◌, ◌*◌, ◌≤◌}
use native.Mathlib.Omega.{arith}
use mathlib.Core.Path.{◌≡◌, refl, ap, ◌∙◌}
use mathlib.Core.Bool.{Bool, true, false}
use mathlib.Core.List.{List, [], ◌++◌}
use lib.ListN.{length, get_or}
use Rattle.transaction.specs.Table.{pick}
use Rattle.transaction.specs.declared.Transaction.{Transaction}
use Rattle.details.specs.Details as details
use Rattle.endpoints.specs.Table.{word_at, entry_at, new_endpoint, first_at}
use Rattle.endpoints.proofs.TableLaws.{entry_ext}
use Rattle.endpoints.specs.Word as word
use Rattle.details.specs.declared.Device.{Device}
use Rattle.endpoints.specs.declared.Endpoint.{Endpoint}
use Rattle.rules.specs.Decoder.{fresh}
use Rattle.rules.specs.Demand.{Call, call}
use Rattle.rules.proofs.Reach.{begin}
use Rattle.rules.specs.Rows.{Row}
use Rattle.rules.specs.World.{World}
use Rattle.rules.proofs.Counted.{Counted, counts}
use Rattle.rules.proofs.Demand.{Sound, Like, sound, sound_like, always}
use Rattle.record.proofs.FreshLaws.{fresh_beyond, fresh-first}
use Rattle.record.specs.declared.Counts.{Counts}
use Rattle.record.specs.declared.Decoder.{Decoder}
use Rattle.call.specs.Outcome.{counts_after, decoder_of, accepts, world_at}
use Rattle.call.specs.State.{Logs, State}
use Rattle.start.specs.Fresh.{made as madeState, Makes}
use Rattle.start.proofs.FreshLaws.{fresh_stands}
use Rattle.demands.specs.Sequence.{Sequence, made, then, Told}
use Rattle.demands.proofs.Steps.{Moved, moved, stayed}
use Rattle.demands.proofs.Told.{began, counts-left, told-then, told-made}

-- ---- a table of zeros behind n endpoints

abbrev pub Blank : ℕ → List ℕ → Type 0
Blank n t = (i : ℕ) → n * word.width ≤ i → get_or t i 0 ≡ 0

pub blank-entry : (n : ℕ) (t : List ℕ) (e : ℕ) → Blank n t → n ≤ e → entry_at t e ≡ new_endpoint 0 0
unfolding entry_at
blank-entry n t e b h = entry_ext (λ k. 0) (word_at t e) (λ k l. b (e * word.width + k) (omega arith))

-- ---- what is kept

pub record Kept (js : List Row) (s : State) : Type 0 where
  pub rules : Sound js (world_at s)
  pub told : Told js s
  pub blank : Blank s.decoder.counts.endpoints s.table
  -- no row has been given back
  pub firsts : (k : ℕ) → first_at k s.table ≡ 0

-- no endpoint behind the last has a group
unused : (s : State) → Blank s.decoder.counts.endpoints s.table → (e : ℕ) → s.decoder.counts.endpoints ≤ e → ((entry_at s.table e).phase ≡ (new_endpoint 0 0).phase) × ((entry_at s.table e).groups ≡ 0)
unused s b e h =
    let q = blank-entry s.decoder.counts.endpoints s.table e b h in
    (ap (λ (a : Endpoint). a.phase) q, ap (λ (a : Endpoint). a.groups) q)

-- ---- a fresh decoder has it

three : fresh.count ≡ 3
unfolding details.fresh
three = refl

module _ {high : Bool} {v : List Device} {t : List ℕ} {l : Logs} {s : State} (hv : length v ≡ 64) (ht : length t ≡ word.table) (m : Makes high v t l 0 s) where
  blank-made : Blank s.decoder.counts.endpoints s.table
  unfolding madeState
  blank-made = rw (m.accepted refl) (fresh_beyond t)

  firsts-made : (k : ℕ) → first_at k s.table ≡ 0
  unfolding madeState
  firsts-made = rw (m.accepted refl) (fresh-first t)

  like-fresh : Like fresh (world_at s)
  like-fresh =
      let a = fresh_stands m ht (omega arith) in
      let n : s.decoder.counts.endpoints ≡ 3 = a.count ∙ three in
      record {
        count = a.count;
        target = ap (λ (x : Transaction). x.endpoint) a.transaction;
        items = a.items;
        there = a.endpoints;
        beyond = λ e h. unused s blank-made e (omega (arith, three));
      }

  pub kept-made : Kept fresh.journal s
  kept-made = record { rules = sound_like like-fresh (always {high = high} begin); told = told-made m; blank = blank-made; firsts = firsts-made }

-- ---- an accepted call keeps it

module _ {k : Call} {s s' : State} (m : Moved k s s') {js : List Row} (h : Kept js s) where
  abbrev pub after : World
  after = call s.decoder.high k (world_at s)

  count_left : s'.decoder.counts.endpoints ≡ after.count
  unfolding counts_after
  count_left = ap (λ (c : Counts). c.endpoints) (counts-left m)

  -- endpoints are added, and none is taken away
  more : s.decoder.counts.endpoints ≤ after.count
  more = let c : Counted (world_at s) after = counts (world_at s) s.decoder.high k (world_at s) (began s) in let e = c.endpoints_are in omega arith

  blank-then : Blank s'.decoder.counts.endpoints s'.table
  blank-then i l =
      let c = count_left in
      let b = more in
      m.left.table.beyond i (omega arith) ∙ h.blank i (omega arith)

  like-after : Like after (world_at s')
  unfolding decoder_of counts_after
  like-after =
      record {
        count = count_left;
        target = ap (λ (d : Decoder). d.transaction.endpoint) m.left.decoder;
        items = ap (λ (d : Decoder). d.counts.items) m.left.decoder;
        there = m.left.table.entries;
        beyond = λ e l. unused s' blank-then e (let c = count_left in omega arith);
      }

  pub kept_then : Kept (after.journal ++ js) s'
  kept_then = record { rules = sound_like like-after (sound s.decoder.high js (world_at s) k h.rules); told = told-then m js h.firsts h.told; blank = blank-then; firsts = λ k. m.left.table.firsts k ∙ h.firsts k }

-- ---- so every sequence does

pub kept : {js : List Row} {s : State} → Sequence js s → Kept js s
kept (made hv ht m) = kept-made hv ht m
kept (then {js} {s} k a s' q d) = by (accepts a) refl (kept q)
  where
    by : (b : Bool) → accepts a ≡ b → Kept js s → Kept (pick b (call s.decoder.high k (world_at s)).journal [] ++ js) s'
    by true e h = kept_then (moved k s a s' d e) h
    by false e h = rw (stayed k s a s' d e) h
