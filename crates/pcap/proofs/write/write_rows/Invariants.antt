-- The rows that are left give the records that are left.
-- Assumes nothing.
use Rattle.std.proofs.Common.{ℕ, ◌-◌, ◌≤◌, List}
use Rattle.text.proofs.Appends.{Left}
use Rattle.pcap.specs.File.{body_of}
use Rattle.pcap.specs.Fits.{Fits}
use Rattle.pcap.specs.Export.{Source, lent, written_format, items_from, items_of}
use Rattle.pcap.proofs.write.write_rows.Given as goal

-- behind row k, where `taken` events were taken
abbrev pub Rest : List ℕ → ℕ → Source → List ℕ → ℕ → ℕ → ℕ → Type 0
Rest out₀ at l out next taken k =
    Left out₀ at (body_of written_format (items_of l)) out next (body_of written_format (items_from l (l.rows - k) k taken))
    × Fits written_format (items_from l (l.rows - k) k taken)

abbrev pub invariant-loop-k : goal.invariant-loop-k
invariant-loop-k l = (l.taken ≤ l.k) × Rest l.initial.out l.at (lent l.bytes l.n l.packets l.marks l.events) l.out l.next l.taken l.k
