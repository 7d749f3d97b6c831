-- Assumes nothing.
use Rattle.std.proofs.Common.{drop}
use Rattle.std.specs.Prelude.{flat_map}
use Rattle.text.specs.Numbers.{hex_byte, hex_setup}
use Rattle.text.proofs.Appends.{Left}
use Rattle.text.proofs.number.hex_setup.Given as goal

abbrev pub invariant-loop-b : goal.invariant-loop-b
invariant-loop-b l = Left l.initial.out l.at (hex_setup l.w) l.out l.next (flat_map hex_byte (drop l.b-index l.b-items))
