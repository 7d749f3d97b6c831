-- Laws (proved): what the mode of change request 6 changes, and that nothing changes without it.
use Rattle.std.specs.Prelude.{Bool, true, false, ◌&&◌, ◌||◌, ◌≡◌, refl, ℕ, eqb}
use Rattle.std.proofs.Common.{sym, ap, ◌∙◌}
use Rattle.std.proofs.lemmas.Bool.{false≢true}
use Rattle.usb.specs.Pid.{IN, OUT, DATA0, DATA1, DATA2, MDATA}
use Rattle.usb.specs.Types.{Isochronous}
use Rattle.transaction.specs.declared.Status.{Status}
use Rattle.transaction.specs.declared.Status.TheVariants.{Done}
use Rattle.transaction.specs.Table.{pick, only, ◌or◌}
use Rattle.transaction.specs.Simple.{simple_rows, simple_rows_in, simple_status_in}
use Rattle.transaction.specs.High.{simple_status, is_high}
use Rattle.transaction.specs.Payload.{yields}

-- without the mode the definitions are those of 01
pub off-rows : (kind len : ℕ) → simple_rows_in false kind len ≡ simple_rows kind len
off-rows kind len = refl

pub off-yields : (pid : ℕ) → yields false pid ≡ (DATA0 or only DATA1) pid
off-yields pid = refl

-- in either mode a packet that yields a payload is one of the four
pub yields-any : (high : Bool) (pid : ℕ) → yields high pid ≡ true → (DATA0 or DATA1 or DATA2 or only MDATA) pid ≡ true
yields-any true pid h = h
yields-any false pid h = by (eqb pid DATA0) (eqb pid DATA1) h
  where
    by : (a b : Bool) → (a || b) ≡ true → (a || (b || (eqb pid DATA2 || eqb pid MDATA))) ≡ true
    by true b h = refl
    by false true h = refl
    by false false h = absurd (false≢true h)

other-kind : (o : Bool) (x y : Status) → pick ((o && true) && false) x y ≡ y
other-kind true x y = refl
other-kind false x y = refl

-- in either mode: what it adds, and else what was there
by_cells : (i o d m k : Bool) (x y : Status) → pick ((i && (d && true)) && k) x (pick ((o && ((d || m) && true)) && k) x y) ≡ pick (((i && d) || (o && (d || m))) && k) x y
by_cells true o true m true x y = refl
by_cells true o true m false x y = other-kind o x y
by_cells true true false true k x y = refl
by_cells true true false false k x y = refl
by_cells true false false m k x y = refl
by_cells false true true m k x y = refl
by_cells false true false true k x y = refl
by_cells false true false false k x y = refl
by_cells false false d m k x y = refl

pub status-in : (high : Bool) (first last next kind len : ℕ) → simple_status_in high first last next kind len ≡ pick (high && is_high last next kind) Done (simple_status first last next kind len)
status-in true first last next kind len =
    by_cells (eqb last IN) (eqb last OUT) (eqb next DATA2) (eqb next MDATA) (eqb kind Isochronous) Done (simple_status first last next kind len)
status-in false first last next kind len = refl

-- where it adds nothing
pub not-high : (high : Bool) (first last next kind len : ℕ) → (high && is_high last next kind) ≡ false → simple_status first last next kind len ≡ simple_status_in high first last next kind len
not-high high first last next kind len h =
    sym (status-in high first last next kind len ∙ ap (λ (b : Bool). pick b Done (simple_status first last next kind len)) h)
