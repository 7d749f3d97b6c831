-- What a state that is not ill gives the end of its transaction: numbers in their ranges, its tally, and that no byte total passes.
use Prim.Native.Nat.{ℕ, ◌+◌, ◌*◌, ◌^◌, ◌<◌, ◌≤◌}
use native.Mathlib.Omega.{arith}
use mathlib.Core.Bool.{Bool, true, false}
use mathlib.Core.Path.{◌≡◌, refl, sym, ap, subst}
use Rattle.rows.specs.One.{one}
use Rattle.transaction.specs.Payload.{start_pid}
use Rattle.endpoints.specs.Table.{entry_at}
use Rattle.endpoints.proofs.TableLaws.{fits-entry}
use Rattle.tally.specs.Tally.{Adds}
use Rattle.update.specs.Update.{when}
use Rattle.write.specs.Memory.{Room}
use Rattle.record.specs.declared.Counts.{Counts}
use Rattle.record.proofs.FormedLaws.{WellFormed}
use Rattle.call.specs.Outcome.{is_ill, world_at}
use Rattle.call.proofs.OutcomeLaws.{sound}
use Rattle.call.specs.State.{State, room_of, held_at}
use Rattle.call.specs.Share.{Known}
use Rattle.decide.specs.Ready.{Ready, ready}
use Rattle.rules.specs.declared.Stamp.{Stamp}
use Rattle.plan.specs.declared.Ending.{Ending}
use Rattle.plan.specs.Ending.{current_endpoint, ending_of, end_played}
use Rattle.plan.specs.Sound.{EndFits, linked, started}
use Rattle.plan.specs.Step.{ended, end_of}
use Rattle.plan.proofs.Small.{Small, FewAll, few-more, group_small, ended_few}
use Rattle.plan.proofs.Sound.{fits_ending}
use Rattle.tally.specs.Suited.{EndingSuits, Totalled}
use Rattle.tally.specs.Tallies.{Countable, tally_ending}
use Rattle.tally.proofs.Bounds.{countable_by}
use Rattle.tally.proofs.Counted.{adds-from, ending-adds}
use Rattle.tally.proofs.Formed.{current_stands, waiting-is, waiting_few}
use Rattle.tally.proofs.Planned.{ending_suits}
use Rattle.tally.proofs.Quiet.{ending-totals}
use Rattle.events.specs.Ended.{closed_on, ended_memory, Endable}
use Rattle.events.proofs.Ends.{reached-ended, reached-when}
use Rattle.events.proofs.Reached.{memory_at, world_with, Reached, reached-start}

-- no byte total passes 2^64 - 1 yet: it is a word
pub totalled : (s : State) → Known s.table → Totalled (world_at s)
unfolding entry_at
totalled s k i h = let w = k.words (i * 17 + 6) in omega (arith, w)

-- what a call brings is not what its end is decided from
pub ending-with : (c : Stamp) (s : State) → ending_of (world_with c s) ≡ ending_of (world_at s)
unfolding ending_of
ending-with c s = refl

-- the T rows and the G rows of the transaction's end, where it ends
abbrev pub end_rows : State → ℕ
end_rows s = let e = ending_of (world_at s) in linked e.ends e.end.update + started e.ends e.end.update

module _ (s : State) (sane : is_ill s ≡ false) where
  pub formed : WellFormed s.decoder s.devices s.table (room_of s.logs)
  formed = (sound s sane).0

  pub is-ready : Ready s.decoder s.table
  is-ready = ready s.decoder s.devices s.table (room_of s.logs) formed

  -- the rows are countable, as the code has those that are held
  pub few-counts : {held : Counts} → held ≡ held_at s → Countable held s.decoder.counts
  few-counts e = countable_by formed (sound s sane).1 e

  -- no endpoint has more T rows or G rows than there are links
  few-start : FewAll s.decoder.counts.links s.decoder.counts.links (world_at s)
  few-start j h = let e = (formed.endpoints j h).entry in record { transactions = e.transactions; groups = e.groups }

  end-entry : Small s.decoder.counts.links s.decoder.counts.links (ending_of (world_at s)).end.entry
  unfolding ending_of end_of
  end-entry =
      let x = current_endpoint s.decoder.slot s.decoder.transaction in
      group_small (entry_at s.table x) s.decoder.transaction _ false false (record { few = few-start x (current_stands formed); fits = fits-entry s.table x })

  end-there : (ending_of (world_at s)).old < s.decoder.counts.endpoints
  unfolding ending_of
  end-there = current_stands formed

  pub few-ended : (c : Stamp) → (let e = ending_of (world_at s) in FewAll (s.decoder.counts.links + linked e.ends e.end.update) (s.decoder.counts.links + started e.ends e.end.update) (when e.ends (ended e.old e.end) (world_with c s)))
  few-ended c = by (ending_of (world_at s)).ends
    where
      e : Ending
      e = ending_of (world_at s)

      by : (b : Bool) → FewAll (s.decoder.counts.links + linked b e.end.update) (s.decoder.counts.links + started b e.end.update) (when b (ended e.old e.end) (world_with c s))
      by true = ended_few e.old e.end (world_with c s) end-entry.few few-start
      by false = λ j h. few-more (omega arith) (omega arith) (few-start j h)

  -- what sum_finish asks
  pub sum-asks : {held : Counts} → held ≡ held_at s → (s.decoder.waiting ≤ 128) × ((s.decoder.counts.endpoints ≤ 128) × Countable held s.decoder.counts)
  sum-asks e = (waiting_few formed, (formed.counts.few_endpoints, few-counts e))

  pub suits : (c : Stamp) → EndingSuits (ending_of (world_at s)) (world_with c s)
  suits c = subst (λ (e : Ending). EndingSuits e (world_with c s)) (ending-with c s) (ending_suits (world_with c s) (current_stands formed))

  pub end-adds : (c : Stamp) → Adds (tally_ending (ending_of (world_at s)) s.decoder.counts.endpoints s.decoder.waiting) (world_at s) (end_played (ending_of (world_at s)) (world_with c s))
  end-adds c =
      subst (λ (n : ℕ). Adds (tally_ending (ending_of (world_at s)) s.decoder.counts.endpoints n) (world_at s) (end_played (ending_of (world_at s)) (world_with c s))) (waiting-is formed)
      (adds-from c (ending-adds (ending_of (world_at s)) (world_with c s) (suits c)))

  -- there are numbers for the rows of the transaction's end
  module _ (c : Stamp) (known : Known s.table) (byte : start_pid s.decoder.transaction.style < 256) (numbers : s.decoder.counts.links + end_rows s < 2 ^ 64) where
    end_fits : (ending_of (world_at s)).ends ≡ true → EndFits (ending_of (world_at s)).old (ending_of (world_at s)).end (world_with c s)
    end_fits on =
        let x = current_endpoint s.decoder.slot s.decoder.transaction in
        let e = few-start x (current_stands formed) in
        let u = (ending_of (world_at s)).end.update in
        let l : linked (ending_of (world_at s)).ends u ≡ one u.link = ap (λ (b : Bool). linked b u) on in
        let g : started (ending_of (world_at s)).ends u ≡ one u.start = ap (λ (b : Bool). started b u) on in
        subst (λ (e : Ending). EndFits e.old e.end (world_with c s)) (ending-with c s)
        (fits_ending (world_with c s)
        (record {
          few = formed.counts.few_endpoints;
          there = current_stands formed;
          transactions = subst (λ (e : Ending). (entry_at s.table x).transactions + one e.end.update.link < 2 ^ 64) (sym (ending-with c s)) (omega (arith, e.transactions, numbers, l));
          groups = subst (λ (e : Ending). (entry_at s.table x).groups + one e.end.update.start < 2 ^ 64) (sym (ending-with c s)) (omega (arith, e.groups, numbers, g));
          fits = fits-entry s.table x;
          token = byte;
        }))

    -- the transaction's end, before the slot is emptied
    pub reached-end : Reached c s s.decoder.keepalive (when (ending_of (world_at s)).ends (ended (ending_of (world_at s)).old (ending_of (world_at s)).end) (world_with c s))
        (ended_memory (ending_of (world_at s)) s.decoder.counts.endpoints s.decoder.transaction.id (start_pid s.decoder.transaction.style) (memory_at c s))
    unfolding ended_memory
    reached-end =
        let e = ending_of (world_at s) in
        let start = reached-start c s (room_of s.logs) formed known in
        reached-when c s s.decoder.keepalive e.ends (ended e.old e.end) (closed_on e.old e.end s.decoder.counts.endpoints s.decoder.transaction.id (start_pid s.decoder.transaction.style)) (world_with c s) (memory_at c s)
        (λ on. reached-ended c s s.decoder.keepalive (world_with c s) (memory_at c s) start e.old e.end (end_fits on) ((ending-totals (world_at s)).quiet on)) start

    -- what end_here asks
    pub endable : Room (ended_memory (ending_of (world_at s)) s.decoder.counts.endpoints s.decoder.transaction.id (start_pid s.decoder.transaction.style) (memory_at c s))
        → Endable (ending_of (world_at s)) s.decoder.counts.endpoints s.decoder.transaction.id (start_pid s.decoder.transaction.style) (memory_at c s)
    endable r =
        record {
          sized = known.size;
          few = formed.counts.few_endpoints;
          there = end-there;
          transactions = omega (arith, end-entry.few.transactions, numbers);
          groups = omega (arith, end-entry.few.groups, numbers);
          bytes = end-entry.fits;
          room = r;
        }
