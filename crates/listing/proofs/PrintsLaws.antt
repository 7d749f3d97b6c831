-- Laws (proved): what the contract of `print` rules out: any two texts that it permits coincide. And what a run that finished leaves for the listing.
-- Assumes nothing.
use Rattle.std.specs.Prelude.{ℕ, zero, suc, ◌+◌, ◌*◌, ◌≤◌, ◌<◌, Bool, true, false, not, List, ◌≡◌, refl, length}
use Rattle.std.proofs.Common.{arith, sym, ap, subst, ◌∙◌}
use Rattle.details.specs.declared.Device.{Device}
use Rattle.endpoints.specs.Table.{first_at}
use Rattle.std.proofs.lemmas.Bool.{not-false}
use Rattle.text.specs.Lines.{longest, refused_line}
use Rattle.text.proofs.Lengths.{refused-fits}
use Rattle.record.proofs.AnswersLaws.{accepted}
use Rattle.record.proofs.FreshLaws.{fresh-first}
use Rattle.record.specs.RoomLaws.{Within, roomy-is, all_held}
use Rattle.record.specs.declared.Counts.{Counts}
use Rattle.trace.specs.declared.clock.Clock.{Clock}
use Rattle.rules.specs.Decoder.{finish}
use Rattle.call.specs.Outcome.{accepts, counts_after, decoder_of, is_full, world_at}
use Rattle.call.proofs.OutcomeLaws.{same-firsts, same-room}
use Rattle.call.specs.State.{Logs, State, held_at, room_of}
use Rattle.events.specs.Call.{FinishCall, finish_tests_of}
use Rattle.lines.specs.Listing.{listing, Counted, rows_of}
use Rattle.lines.proofs.ListingLaws.{counted, listing-fits}
use Rattle.typed.specs.Detail.{Details}
use Rattle.start.specs.Fresh.{made, no_devices}
use Rattle.trace.specs.Details.{details_of}
use Rattle.trace.specs.Trace.{next_at}
use Rattle.trace.specs.declared.Next.{Next}
use Rattle.trace.specs.declared.Next.TheVariants.{Packet, Event, Detail, Unknown, Cut, End}
use Rattle.step.specs.Block.{Stand, Gives, Takes}
use Rattle.run.specs.Run.{Runs, Ran}
use Rattle.run.proofs.RunLaws.{Same, run-unique}
use Rattle.listing.specs.Prints.{most_input, shown, Prints, text_room}

-- 01: "any two permitted outcomes coincide"
pub prints_unique : {high : Bool} {trace x y : List ℕ} → Prints high trace x → Prints high trace y → x ≡ y
prints_unique (Prints.long h) (Prints.long k) = refl
prints_unique (Prints.long h) (Prints.runs k r) = absurd (omega arith)
prints_unique (Prints.runs h q) (Prints.long k) = absurd (omega arith)
prints_unique {trace = trace} (Prints.runs h q) (Prints.runs k r) = let e = run-unique q r in λ i. shown (e.answer i) (e.place i) (details_of trace) (e.final i).state.decoder.counts (e.final i).state.logs

-- ---- a run that finished

-- no row has been given back
abbrev Whole : State → Type 0
Whole s = (k : ℕ) → first_at k s.table ≡ 0

-- finish answers 0 only where its rows have room
finish_within : {a : ℕ} {s s' : State} → Whole s → FinishCall s a s' → a ≡ 0 → Within s'.decoder.counts (room_of s'.logs)
unfolding is_full decoder_of
finish_within {a} {s} {s'} z f e =
    let w = finish (world_at s) in
    let q = (accepted (finish_tests_of w s) (sym f.answer ∙ e)).0 in
    let left = f.left (ap accepts (sym f.answer ∙ e)) in
    let r = roomy-is s.table (counts_after s.decoder.counts w) (room_of s.logs) (not-false _ q.full) in
    let h = subst (λ (n : Counts). Within n (room_of s.logs)) (all_held s.table (counts_after s.decoder.counts w) z) r.held in
    rw (left.decoder, same-room w (held_at s) s.logs s'.logs left.logs) h

-- a record leaves the first numbers
gives_whole : (typed : Bool) (trace : List ℕ) (n : Next) (c : Clock) (s : Stand) (a : ℕ) (s' : Stand) → Gives typed trace n c s a s' → Whole s.state → Whole s'.state
unfolding Details
gives_whole typed trace (Packet ticks start end next) c s a s' g z = λ k. same-firsts g.answers k ∙ z k
gives_whole typed trace (Event ticks kind code next) c s a s' g z = λ k. same-firsts g.0 k ∙ z k
gives_whole false trace (Detail address number direction kind max next) c s a s' g z = subst (λ (u : Stand). Whole u.state) (sym g.1) z
gives_whole true trace (Detail address number direction kind max next) c s a s' g z = λ k. same-firsts g.0 k ∙ z k
gives_whole typed trace Unknown c s a s' g z = subst (λ (u : Stand). Whole u.state) (sym g.1) z
gives_whole typed trace Cut c s a s' g z = subst (λ (u : Stand). Whole u.state) (sym g.1) z
gives_whole typed trace End c s a s' g z = absurd g

-- and so do the records of a block
takes_whole : {typed : Bool} {trace : List ℕ} {at n m a p : ℕ} {c c' : Clock} {s s' : Stand} → Takes typed trace at c s n m a p c' s' → Whole s.state → Whole s'.state
takes_whole (Takes.done h) z = z
takes_whole {typed} {trace} {at} {a = a} {c = c} (Takes.stops g h) z = gives_whole typed trace (next_at trace at) c _ a _ g z
takes_whole {typed} {trace} {at} {c = c} (Takes.goes a g h x) z = takes_whole x (gives_whole typed trace (next_at trace at) c _ a _ g z)

runs_within : {trace : List ℕ} {at a p : ℕ} {c : Clock} {s s' : Stand} → Whole s.state → Runs trace at c s a p s' → a ≡ 0 → Within s'.state.decoder.counts (room_of s'.state.logs)
runs_within z (Runs.ends x f) e = finish_within (takes_whole x z) f e
runs_within z (Runs.stops x h) e = absurd (h e)

-- a fresh decoder has given back none
made-whole : (high : Bool) (v : List Device) (t : List ℕ) (l : Logs) → Whole (made high v t l)
unfolding made
made-whole high v t l = fresh-first t

pub ran_within : {high : Bool} {trace t : List ℕ} {l : Logs} {h : List ℕ} {a p : ℕ} {s : Stand} → Ran high trace t l h a p s → a ≡ 0 → Within s.state.decoder.counts (room_of s.state.logs)
ran_within (Ran.wrong h) e = absurd (h e)
ran_within (Ran.refused h m n) e = absurd (n e)
ran_within {high} {t = t} {l} (Ran.runs h m r) e = runs_within (subst Whole (sym (m.accepted refl)) (made-whole high no_devices t l)) r e
