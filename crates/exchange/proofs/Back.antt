-- A file that was exported, imported: its packets become packet calls of a sequence, and so they are exported again.
use Prim.Native.Nat.{ℕ, suc, ◌/◌, ◌%◌, ◌^◌}
use native.Mathlib.Omega.{arith}
use mathlib.Core.Bool.{Bool, true, false, true≢false}
use mathlib.Core.List.{List, [], ◌∷◌, ◌++◌, append_assoc, append-nil}
use mathlib.Core.Path.{◌≡◌, refl, sym, ap, subst, ◌∙◌}
use borrow.Author.Tests.{le-ltb}
use lib.ListN.{length, length-append}
use Rattle.std.specs.Prelude.{Result}
use Rattle.transaction.specs.Table.{pick}
use Rattle.pcap.specs.Pcap.{head_of, next_at, time_of}
use Rattle.pcap.specs.File.{Item, head_bytes, item_bytes, body_of}
use Rattle.pcap.specs.Fits.{Fit, Fits}
use Rattle.pcap.specs.Export.{written_format, item_at, items_of, file_bytes, late}
use Rattle.pcap.proofs.ExportLaws.{source_within, fits_all}
use Rattle.pcap.proofs.Written.{item-end, item-next, item-bytes, head-written}
use Rattle.pcap.specs.declared.Format.{Format}
use Rattle.pcap.specs.declared.HeadError.{HeadError}
use Rattle.pcap.specs.declared.Next.{Next}
use Rattle.pcap.specs.declared.Next.TheVariants.{Packet, Cut, Fraction, End}
use Rattle.rules.specs.Demand.{Call, packet}
use Rattle.rules.specs.Rows.{Row}
use Rattle.call.specs.Outcome.{accepts}
use Rattle.call.specs.State.{State}
use Rattle.packet.specs.Call.{PacketCall}
use Rattle.step.specs.Block.{Stand, stand}
use Rattle.demands.specs.Sequence.{adds, Sequence, then}
use Rattle.import.specs.Import.{Gives, behind, Imports, Opened, ImportsFile}
use Rattle.import.specs.Import.Imports.{done, stops, goes}
use Rattle.import.proofs.ImportLaws.{none_here}
use Rattle.export.specs.Record.{source_in}
use Rattle.exchange.specs.Exchange.{item_by, packets_of, Returned}
use Rattle.exchange.proofs.Flows.{exported}

-- a sequence that goes on from q, with the packets rs of the file t, to s': n records are taken, up to the place p
pub record Brought {js : List Row} {s : State} (q : Sequence js s) (rs : List Item) (t : List ℕ) (n p : ℕ) (s' : State) : Type 0 where
  pub rows : List Row
  pub sequence : Sequence rows s'
  pub items : packets_of sequence ≡ packets_of q ++ rs
  pub taken : n ≡ length rs
  pub place : p ≡ length t

-- a record that can be written has the time that it was made from
item_back : (r : Item) → Fit written_format r → item_at (time_of written_format r.seconds r.fraction) r.bytes ≡ r
item_back r fit =
    let b = fit.below-second in
    let x : time_of written_format r.seconds r.fraction / 10 ^ 9 ≡ r.seconds = omega (arith, b) in
    let y : time_of written_format r.seconds r.fraction % 10 ^ 9 ≡ r.fraction = omega (arith, b) in
    λ i. record { seconds = x i; fraction = y i; bytes = r.bytes }

-- a refused record has not the answer 0
not-refused : (a : ℕ) → a ≡ 0 → accepts a ≡ false → ⊥
not-refused a z h = true≢false (sym (ap accepts z) ∙ h)

-- a packet is not the end
abbrev Stands : Next → Type 0
Stands (Packet seconds fraction start end) = Unit {0}
Stands Cut = ⊥
Stands Fraction = ⊥
Stands End = ⊥

-- at the end of a file
pub at-end : (before : List ℕ) (at : ℕ) → at ≡ length before → next_at written_format (before ++ []) at ≡ End
at-end before at e = let h : length (before ++ []) ≡ at = omega (arith, length-append before []) in rw (h, le-ltb at at (omega arith))

-- ---- one record

module _ (r : Item) (fit : Fit written_format r) (before rest : List ℕ) {js : List Row} (x x' : Stand) (a : ℕ) (q : Sequence js x.state)
    (g : Gives written_format (before ++ (item_bytes written_format r ++ rest)) (next_at written_format (before ++ (item_bytes written_format r ++ rest)) (length before)) x a x') where
  abbrev brings : Call
  brings = packet r.bytes (time_of written_format r.seconds r.fraction) x.shelf

  pub called : PacketCall r.bytes (time_of written_format r.seconds r.fraction) x.state x.shelf a x'.state x'.shelf
  called =
      subst (λ (b : List ℕ). PacketCall b (time_of written_format r.seconds r.fraction) x.state x.shelf a x'.state x'.shelf) (item-bytes written_format r fit before rest)
      (subst (λ (n : Next). Gives written_format (before ++ (item_bytes written_format r ++ rest)) n x a x') (sym (item-next written_format r fit before rest)) g)

  abbrev pub more : Sequence (adds brings x.state a ++ js) x'.state
  more = then brings a x'.state q (record { left = x'.shelf; does = called })

  more-items : accepts a ≡ true → packets_of more ≡ packets_of q ++ (r ∷ [])
  more-items h = (λ i. packets_of q ++ pick (h i) (item_by brings) []) ∙ ap (λ (y : Item). packets_of q ++ (y ∷ [])) (item_back r fit)

-- ---- all records, behind any prefix

pub brought : (rs : List Item) (before : List ℕ) → Fits written_format rs → {js : List Row} {at n e a p : ℕ} {x x' : Stand} (q : Sequence js x.state) → at ≡ length before → a ≡ 0
    → Imports written_format (before ++ body_of written_format rs) at x n e a p x' → Brought q rs (before ++ body_of written_format rs) n p x'.state
brought [] before fits q c z (done w) = record { rows = _; sequence = q; items = sym (append-nil (packets_of q)); taken = refl; place = omega (arith, c, length-append before []) }
brought [] before fits q c z (stops g h) = absurd (not-refused _ z h)
brought [] before fits {at = at} {x = x} q c z (goes {s' = x₁} a g h w) = absurd (none_here written_format (before ++ []) (next_at written_format (before ++ []) at) x a x₁ (at-end before at c) g)
brought (r ∷ rs) before fits {at = at} q c z (done w) =
    absurd (subst Stands (item-next written_format r fits.0 before (body_of written_format rs) ∙ (ap (next_at written_format (before ++ body_of written_format (r ∷ rs))) (sym c) ∙ w)) tt)
brought (r ∷ rs) before fits q c z (stops g h) = absurd (not-refused _ z h)
brought (r ∷ rs) before fits {at = at} {p = p} {x = x} {x' = x'} q c z (goes {n = n} {e = e} {b = b} {s' = x₁} a g h w) =
    let t = before ++ (item_bytes written_format r ++ body_of written_format rs) in
    let g₁ = subst (λ (i : ℕ). Gives written_format t (next_at written_format t i) x a x₁) c g in
    let o = item-next written_format r fits.0 before (body_of written_format rs) in
    let y : behind (next_at written_format t at) at ≡ length (before ++ item_bytes written_format r) =
    ap (λ (i : ℕ). behind (next_at written_format t i) i) c ∙ (ap (λ (m : Next). behind m (length before)) (sym o) ∙ sym (item-end written_format r fits.0 before (body_of written_format rs))) in
    let w₁ = subst (λ (u : List ℕ). Imports written_format u (behind (next_at written_format t at) at) x₁ n e b p x') (sym (append_assoc before (item_bytes written_format r) (body_of written_format rs))) w in
    let v = brought rs (before ++ item_bytes written_format r) fits.1 (more r fits.0 before (body_of written_format rs) x x₁ a q g₁) y z w₁ in
    record {
      rows = v.rows;
      sequence = v.sequence;
      items = v.items
          ∙ (ap (λ (xs : List Item). xs ++ rs) (more-items r fits.0 before (body_of written_format rs) x x₁ a q g₁ h) ∙ append_assoc (packets_of q) (r ∷ []) rs);
      taken = ap suc v.taken;
      place = v.place ∙ ap length (append_assoc before (item_bytes written_format r) (body_of written_format rs));
    }

-- ---- a whole file

module _ {js : List Row} {s : State} (q : Sequence js s) (ok : late (items_of (source_in s)) ≡ false) where
  pub fits : Fits written_format (items_of (source_in s))
  fits =
      let n = s.decoder.counts in
      let w = (source_within n.bytes s.logs.bytes n.packets s.logs.packets n.events s.logs.events).short in
      fits_all (source_in s) (omega (arith, w)) ok

  -- its head is taken
  pub behind-head : (x x'' : Stand) (n e a p : ℕ) → ImportsFile (file_bytes (source_in s)) x n e a p x'' → Imports written_format (file_bytes (source_in s)) 24 x n e a p x''
  behind-head x x'' n e a p i = subst (λ (z : Result Format HeadError). Opened (file_bytes (source_in s)) z x n e a p x'') (head-written false true (body_of written_format (items_of (source_in s)))) i

  pub back : {js' : List Row} {s' : State} → Sequence js' s' → (s'' : State) (h h'' : List ℕ) (n e p : ℕ) → ImportsFile (file_bytes (source_in s)) (stand s' h) n e 0 p (stand s'' h'')
      → Returned s s' s'' n p
  back {s' = s'} q' s'' h h'' n e p i =
      let v = brought (items_of (source_in s)) (head_bytes written_format) fits q' refl refl (behind-head (stand s' h) (stand s'' h'') n e 0 p i) in
      record { taken = v.taken; place = v.place; items = exported v.sequence ∙ (v.items ∙ ap (λ (xs : List Item). xs ++ items_of (source_in s)) (sym (exported q'))) }
