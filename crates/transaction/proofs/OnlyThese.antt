-- Laws (proved): the mode of change request 6 changes the cells that it names, and no other: DATA2 after IN, DATA2 or MDATA after OUT, in a plain transaction on an endpoint known
-- as isochronous. Without the mode these are Invalid, in it they are Done.
use mathlib.Core.Bool.{Bool, true, false, false≢true, ◌&&◌, ◌||◌}
use mathlib.Core.Path.{◌≡◌, refl, sym, ap, ◌∙◌}
use Prim.Native.Nat.{ℕ}
use lib.Dec.{eqb}
use borrow.Author.Tests.{eqb-true}
use Rattle.usb.proofs.Arms.{and_false}
use Rattle.usb.specs.Pid.{IN, OUT, DATA0, DATA1, DATA2, MDATA}
use Rattle.usb.specs.Types.{Isochronous}
use Rattle.transaction.specs.declared.Status.TheVariants.{Done, Invalid}
use Rattle.transaction.specs.declared.Style.{Style}
use Rattle.transaction.specs.declared.Style.TheVariants.{Nothing, Simple, Split, Token}
use Rattle.transaction.specs.declared.Transaction.{Transaction}
use Rattle.transaction.specs.Table.{pick, only, ◌or◌}
use Rattle.transaction.specs.High.{simple_status, is_high}
use Rattle.transaction.specs.Status.{status_of}
use Rattle.transaction.specs.Payload.{yields}
use Rattle.transaction.proofs.HighLaws.{status-in}

-- the three cells
cells : (last next kind : ℕ) (P : ℕ → ℕ → ℕ → Type 0) → P IN DATA2 Isochronous → P OUT DATA2 Isochronous → P OUT MDATA Isochronous → is_high last next kind ≡ true → P last next kind
cells last next kind P a b c h = by (eqb kind Isochronous) (eqb last IN) (eqb last OUT) (eqb next DATA2) (eqb next MDATA) refl refl refl refl refl h
  where
    at : {l n : ℕ} → eqb last l ≡ true → eqb next n ≡ true → eqb kind Isochronous ≡ true → P l n Isochronous → P last next kind
    at {l} {n} el en ek x = let q = eqb-true last l el in let r = eqb-true next n en in let s = eqb-true kind Isochronous ek in rw (q, r, s) x

    by : (k i o d m : Bool) → eqb kind Isochronous ≡ k → eqb last IN ≡ i → eqb last OUT ≡ o → eqb next DATA2 ≡ d → eqb next MDATA ≡ m → (((i && d) || (o && (d || m))) && k) ≡ true → P last next kind
    by false i o d m ek ei eo ed em h = absurd (false≢true (sym (and_false ((i && d) || (o && (d || m)))) ∙ h))
    by true true o true m ek ei eo ed em h = at ei ed ek a
    by true true true false true ek ei eo ed em h = at eo em ek c
    by true true true false false ek ei eo ed em h = absurd (false≢true h)
    by true true false false m ek ei eo ed em h = absurd (false≢true h)
    by true false true true m ek ei eo ed em h = at eo ed ek b
    by true false true false true ek ei eo ed em h = at eo em ek c
    by true false true false false ek ei eo ed em h = absurd (false≢true h)
    by true false false d m ek ei eo ed em h = absurd (false≢true h)

-- without the mode each is Invalid
invalid_cell : (first last next kind len : ℕ) → is_high last next kind ≡ true → simple_status first last next kind len ≡ Invalid
invalid_cell first last next kind len =
    cells last next kind (λ l n k. simple_status first l n k len ≡ Invalid) (simp and_false) (simp and_false) (simp and_false)

-- which cells of transaction_status the mode changes: of a plain transaction alone
abbrev pub changed_cell : Style → Transaction → ℕ → Bool
changed_cell Nothing t next = false
changed_cell (Simple first) t next = is_high t.last next t.kind
changed_cell (Split sc kind) t next = false
changed_cell (Token sc kind pid) t next = false

-- in every other cell, of any transaction and any packet, both modes say the same
pub only_these : (t : Transaction) (next len : ℕ) → changed_cell t.style t next ≡ false → status_of true t.style t next len ≡ status_of false t.style t next len
only_these t next len = by t.style
  where
    by : (s : Style) → changed_cell s t next ≡ false → status_of true s t next len ≡ status_of false s t next len
    by Nothing h = refl
    by (Simple first) h =
        status-in true first t.last next t.kind len ∙ ap (λ (b : Bool). pick b Done (simple_status first t.last next t.kind len)) h
    by (Split sc kind) h = refl
    by (Token sc kind pid) h = refl

-- and in these they differ
pub these : (t : Transaction) (next len : ℕ) → changed_cell t.style t next ≡ true → (status_of true t.style t next len ≡ Done) × (status_of false t.style t next len ≡ Invalid)
these t next len = by t.style
  where
    by : (s : Style) → changed_cell s t next ≡ true → (status_of true s t next len ≡ Done) × (status_of false s t next len ≡ Invalid)
    by Nothing h = absurd (false≢true h)
    by (Simple first) h = (
      status-in true first t.last next t.kind len ∙ ap (λ (b : Bool). pick b Done (simple_status first t.last next t.kind len)) h,
      invalid_cell first t.last next t.kind len h,
    )
    by (Split sc kind) h = absurd (false≢true h)
    by (Token sc kind pid) h = absurd (false≢true h)

-- of payloads: DATA2 and MDATA yield theirs besides, and no other packet does
pub only_these_yield : (pid : ℕ) → yields true pid ≡ (yields false pid || (DATA2 or only MDATA) pid)
only_these_yield pid = by (eqb pid DATA0) (eqb pid DATA1)
  where
    by : (a b : Bool) → (a || (b || (DATA2 or only MDATA) pid)) ≡ ((a || b) || (DATA2 or only MDATA) pid)
    by true b = refl
    by false true = refl
    by false false = refl
