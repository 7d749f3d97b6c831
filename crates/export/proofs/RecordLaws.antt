-- Laws (proved): one outcome of an export alone is permitted.
use Rattle.std.specs.Prelude.{Bool, true, false, cond, List, ◌≡◌, refl, ℕ}
use Rattle.std.proofs.Common.{sym, ap, ◌∙◌}
use Rattle.pcap.specs.Export.{refusal, size_of}
use Rattle.pcap.proofs.ExportLaws.{export_unique}
use Rattle.pcap.specs.declared.Exported.{Exported}
use Rattle.call.specs.Outcome.{is_ill}
use Rattle.call.specs.State.{State}
use Rattle.export.specs.Record.{source_in, size_in, ExportsIn}

pub record_unique : (s : State) (before : List ℕ) {after after' : List ℕ} {r r' : Exported} → ExportsIn s before after r → ExportsIn s before after' r' → (r ≡ r') × (after ≡ after')
record_unique s before {after} {after'} {r} {r'} x y = by (is_ill s) refl
  where
    by : (b : Bool) → is_ill s ≡ b → (r ≡ r') × (after ≡ after')
    by true e = let u = x.ill e in let v = y.ill e in (u.0 ∙ sym v.0, u.1 ∙ sym v.1)
    by false e = export_unique (source_in s) before (x.well e) (y.well e)

pub size-ill : (s : State) → is_ill s ≡ true → size_in s ≡ refusal 1
unfolding size_in
size-ill s e = ap (λ (b : Bool). cond b (refusal 1) (size_of (source_in s))) e

pub size-well : (s : State) → is_ill s ≡ false → size_in s ≡ size_of (source_in s)
unfolding size_in
size-well s e = ap (λ (b : Bool). cond b (refusal 1) (size_of (source_in s))) e
