-- Inner (cited by private contracts alone): a plain transaction without the mode of change request 6, and what the mode adds to it.
use Rattle.std.specs.Prelude.{Bool, ◌&&◌, ◌||◌, [], ◌∷◌, ℕ, eqb}
use Rattle.usb.specs.Pid.{IN, OUT, DATA2, MDATA}
use Rattle.usb.specs.Types.{Isochronous}
use Rattle.transaction.specs.declared.Status.{Status}
use Rattle.transaction.specs.declared.Status.TheVariants.{Invalid}
use Rattle.transaction.specs.Table.{look}
use Rattle.transaction.specs.Simple.{simple_rows}

abbrev pub simple_status : ℕ → ℕ → ℕ → ℕ → ℕ → Status
simple_status first last next kind len = look (simple_rows kind len) Invalid (first ∷ last ∷ next ∷ [])

-- the cells of the table that the mode changes: DATA2 after IN, DATA2 or MDATA after OUT, on an endpoint known as isochronous
abbrev pub is_high : ℕ → ℕ → ℕ → Bool
is_high last next kind = ((eqb last IN && eqb next DATA2) || (eqb last OUT && (eqb next DATA2 || eqb next MDATA))) && eqb kind Isochronous
