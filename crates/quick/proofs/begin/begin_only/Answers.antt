use Rattle.std.proofs.Common.{rules}
use Prim.Native.Nat.{ℕ, ◌+◌, ◌*◌, ◌≤◌}
use native.Mathlib.Omega.{arith}
use mathlib.Core.Bool.{Bool, true, false}
use mathlib.Core.Path.{ap, ◌∙◌}
use lib.ListN.{length}
use lib.Seq.{sets}
use Rattle.rows.specs.One.{one}
use Rattle.rows.specs.Sets.{opt}
use Rattle.rows.specs.Widths.{transaction_width}
use Rattle.rules.specs.Rows.{Named, naming, transaction_words}
use Rattle.rules.specs.World.{stamp}
use Rattle.rules.specs.declared.Stamp.{Stamp}
use Rattle.rules.specs.declared.EventState.TheVariants.{Idle}
use Rattle.rules.specs.declared.Slot.TheVariants.{Current}
use Rattle.quick.specs.Room.{more_rows}
use Rattle.quick.proofs.Fit.{fit_same}
use Rattle.rows.proofs.FlagLaws.{from-one}
use Rattle.quick.proofs.begin.begin_only.Goals as goal

row_fits : (b : Bool) (n : ℕ) (r : Named) (m : ℕ) → (n + one b) * transaction_width ≤ m → n * transaction_width + length (opt b (transaction_words r)) ≤ m
row_fits true n r m h = omega arith
row_fits false n r m h = omega arith

pub put_transaction-requires : goal.put_transaction-requires
put_transaction-requires c = let s = c in
    row_fits s.args.row s.args.held.transactions (let x = c.stamp_of-stamp.result in naming x.packet x.reason) _ s.requires.transaction_width_in_bounds

pub returns : goal.returns
returns c = let s = c in
    let l = c.begin_link-transaction.ensures in
    let p = c.put_packet.ensures in
    let d = s.args.d in
    let counts = c.more_rows-counts.ensures ∙ λ i. more_rows ((c.from.ensures ∙ from-one _) i) ((c.from-2.ensures ∙ from-one _) i) (length s.args.packet.now) d.counts in record { value = λ i. record { counts = counts i; slot = Current; transaction = l.value i; last = d.last; event = Idle; keepalive = d.keepalive; waiting = d.waiting; finished = d.finished; high = d.high; time = s.args.time }; table_after = l.table_after; bytes_after = p.bytes_after; packets_after = p.packets_after; transactions_after = c.put_transaction.ensures ∙ ap (λ (x : Stamp). sets s.args.transactions.now (s.args.held.transactions * transaction_width) (opt s.args.row (transaction_words (naming x.packet x.reason)))) c.stamp_of-stamp.ensures; links_after = l.links_after }

pub more_rows-counts-requires : goal.more_rows-counts-requires
more_rows-counts-requires c = fit_same (c.from.ensures ∙ from-one _) (c.from-2.ensures ∙ from-one _) c.requires.rows_fit
