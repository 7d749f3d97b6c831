-- Inner (cited by private contracts alone): records that can be written.
-- Assumes nothing.
use Rattle.std.specs.Prelude.{◌*◌, ◌^◌, ◌<◌, List, [], ◌∷◌, length}
use Rattle.pcap.specs.File.{Item}
use Rattle.pcap.specs.declared.Format.{Format}

-- a record that can be written: each number fits four bytes, and the fraction is below one second
pub record Fit (f : Format) (r : Item) : Type 0 where
  pub seconds_fit : r.seconds < 2 ^ 32
  pub fraction_fit : r.fraction < 2 ^ 32
  pub size_fit : length r.bytes < 2 ^ 32
  pub below-second : r.fraction * f.unit < 10 ^ 9

abbrev pub Fits : Format → List Item → Type 0
Fits f [] = Unit {0}
Fits f (r ∷ rs) = Fit f r × Fits f rs
