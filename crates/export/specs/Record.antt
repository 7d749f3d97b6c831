-- To be believed: the export of a record's packets (02, 4): which logs and counts it goes by, and answer 1 before all others.
-- Hold it to: 02, "Import and export of pcap"; 01, "Answer numbers": 1. A finished decoder is exported: 2 is not among the answers of 02, 4
use Rattle.std.specs.Prelude.{true, false, cond, List, ◌≡◌, ℕ}
use Rattle.pcap.specs.Export.{Source, source_of, refusal, size_of, Exports}
use Rattle.pcap.specs.declared.Exported.{Exported}
use Rattle.call.specs.Outcome.{is_ill}
use Rattle.call.specs.State.{State}

-- the packets and events of the record, in its logs
abbrev pub source_in : State → Source
source_in s =
    let n = s.decoder.counts in
    source_of n.bytes s.logs.bytes n.packets s.logs.packets n.events s.logs.events

unfoldable pub size_in : State → Exported
size_in s = cond (is_ill s) (refusal 1) (size_of (source_in s))

-- the result, and the lent buffer: refused, it is as it was
pub record ExportsIn (s : State) (before after : List ℕ) (r : Exported) : Type 0 where
  pub ill : is_ill s ≡ true → (r ≡ refusal 1) × (after ≡ before)
  pub well : is_ill s ≡ false → Exports (source_in s) before after r
