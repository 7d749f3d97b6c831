-- Laws (proved): what the contract of the entry rules out: any two outcomes coincide.
use Rattle.std.specs.Prelude.{ℕ, Bool, List, ◌≡◌}
use Rattle.std.proofs.Common.{sym, ap, ◌∙◌}
use Rattle.call.specs.State.{Logs}
use Rattle.step.specs.Block.{Stand}
use Rattle.run.proofs.RunLaws.{run-unique}
use Rattle.pivotspark.specs.Told.{told, counted, Told}

-- 01: "any two permitted outcomes coincide"
pub trace_unique : {high : Bool} {trace t t' t'' h h' h'' counts counts' counts'' : List ℕ} {l l' l'' : Logs} {r q : ℕ}
    → Told high trace t l h counts r t' l' h' counts'
    → Told high trace t l h counts q t'' l'' h'' counts''
    → (r ≡ q) × (t' ≡ t'') × (l' ≡ l'') × (h' ≡ h'') × (counts' ≡ counts'')
trace_unique {counts = counts} x y =
    let same = run-unique x.ran y.ran in
    let result = x.result ∙ (ap (λ (a : ℕ). told a x.place) same.answer ∙ (ap (told y.answer) same.place ∙ sym y.result)) in
    let table = x.table ∙ (ap (λ (s : Stand). s.state.table) same.final ∙ sym y.table) in
    let logs = x.logs ∙ (ap (λ (s : Stand). s.state.logs) same.final ∙ sym y.logs) in
    let shelf = x.shelf ∙ (ap (λ (s : Stand). s.shelf) same.final ∙ sym y.shelf) in
    let words = x.counted ∙ (ap (λ (s : Stand). counted counts s.state.decoder.counts) same.final ∙ sym y.counted) in
    (result, table, logs, shelf, words)
