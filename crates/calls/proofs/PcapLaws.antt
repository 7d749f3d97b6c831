-- Laws (proved): what the contracts of the entries for pcap files rule out: any two outcomes coincide; and the words that a head leaves are the format that it gave.
use Rattle.std.specs.Prelude.{⊤, ℕ, ◌<◌, ◌%◌, Option, Some, None, MatchOption, Result, Ok, Err, Bool, true, false, cond, List, [], ◌∷◌, ◌≡◌, refl, eqb, leb, ltb, length, get_or}
use Rattle.std.proofs.Common.{mod-eq_of_lt, arith, sym, ap, ◌∙◌}
use Rattle.std.proofs.lemmas.List.Edits.{sets}
use Rattle.rows.specs.Sets.{get_d-sets_in}
use Rattle.endpoints.specs.Table.{flag_of}
use Rattle.handle.proofs.WordsLaws.{flag_one}
use Rattle.pcap.specs.Numbers.{number_at}
use Rattle.pcap.specs.Pcap.{unit_of, by_unit, marked, head_of}
use Rattle.pcap.specs.declared.Exported.{Exported}
use Rattle.pcap.specs.declared.Format.{Format}
use Rattle.pcap.specs.declared.HeadError.{HeadError}
use Rattle.pcap.specs.declared.HeadError.TheVariants.{Mark, Link}
use Rattle.call.specs.State.{Logs, State}
use Rattle.step.specs.Block.{Stand}
use Rattle.import.proofs.ImportLaws.{import_unique}
use Rattle.export.proofs.RecordLaws.{record_unique}
use Rattle.calls.proofs.CallsLaws.{kept_unique}
use Rattle.calls.specs.Pcap.{format_in, format_words, format_after, HeadTold, ImportKept, told_of, SizeTold, ExportTold}

-- ---- one outcome

pub head-told_unique : {file k k' k'' : List ℕ} {r q : ℕ} → HeadTold file k r k' → HeadTold file k q k'' → (r ≡ q) × (k' ≡ k'')
head-told_unique x y = (x.told ∙ sym y.told, x.format ∙ sym y.format)

pub import-kept_unique : {f : Format} {bs w t h o w' t' h' o' w'' t'' h'' o'' : List ℕ} {l l' l'' : Logs} {a b : ℕ}
    → ImportKept f bs w t l h o a w' t' l' h' o' → ImportKept f bs w t l h o b w'' t'' l'' h'' o''
    → (a ≡ b) × (w' ≡ w'') × (t' ≡ t'') × (l' ≡ l'') × (h' ≡ h'') × (o' ≡ o'')
import-kept_unique {w = w} {o = o} {w' = w'} {w'' = w''} x y =
    let u = import_unique x.imports y.imports in
    let s = ap (λ (s : Stand). s.state) u.left in
    let told = x.told ∙ ((λ i. sets o 0 (u.taken i ∷ u.eights i ∷ u.place i ∷ [])) ∙ sym y.told) in
    (u.answer, kept_unique w w' w'' (ap (ltb 0) u.taken) x.words y.words (ap (λ (s : State). s.decoder) s) (ap (λ (s : State). s.devices) s), ap (λ (s : State). s.table) s, ap (λ (s : State). s.logs) s, ap (λ (s : Stand). s.shelf) u.left, told)

pub size-told_unique : {s : State} {o o' o'' : List ℕ} {a b : ℕ} → SizeTold s o a o' → SizeTold s o b o'' → (a ≡ b) × (o' ≡ o'')
size-told_unique x y = (x.answer ∙ sym y.answer, x.told ∙ sym y.told)

pub export-told_unique : {s : State} {b o b' o' b'' o'' : List ℕ} {a c : ℕ} → ExportTold s b o a b' o' → ExportTold s b o c b'' o'' → (a ≡ c) × (b' ≡ b'') × (o' ≡ o'')
export-told_unique {s} {b} {o} x y =
    let u = record_unique s b x.exports y.exports in
    (x.answer ∙ (ap (λ (r : Exported). r.answer) u.0 ∙ sym y.answer), u.1, x.told ∙ (ap (λ (r : Exported). told_of r o) u.0 ∙ sym y.told))

-- ---- the format that a head gives

-- two words make it again
pub format_back : (k : List ℕ) (f : Format) → length k ≡ 2 → f.unit < 4294967296 → format_in (sets k 0 (format_words f)) ≡ f
format_back k f l h =
    let first = get_d-sets_in (format_words f) k 0 0 0 (omega arith) (omega arith) in
    let second = get_d-sets_in (format_words f) k 0 1 0 (omega arith) (omega arith) in
    λ i. record { big = (ap flag_of first ∙ flag_one f.big) i; unit = (ap (λ (n : ℕ). n % 4294967296) second ∙ mod-eq_of_lt h) i }

-- words that stand for the format of a head
abbrev pub StandFor : Result Format HeadError → List ℕ → Type 0
StandFor (Ok f) k = format_in k ≡ f
StandFor (Err error) k = Unit {0}

abbrev Short : Result Format HeadError → Type 0
Short (Ok f) = f.unit < 4294967296
Short (Err error) = Unit {0}

unit-short : (n : ℕ) → MatchOption (unit_of n) ⊤ (λ u. u < 4294967296)
unit-short n = by (eqb n 0xA1B2C3D4) (eqb n 0xA1B23C4D)
  where
    by : (a b : Bool) → MatchOption (cond a (Some 1000) (cond b (Some 1) None)) ⊤ (λ u. u < 4294967296)
    by true b = omega arith
    by false true = omega arith
    by false false = tt

marked-short : (big : Bool) (t : List ℕ) (other : Result Format HeadError) → Short other → Short (marked big t other)
marked-short big t other h = by (unit_of (number_at big 0 t)) (unit-short (number_at big 0 t))
  where
    linked_by : (usb : Bool) (unit : ℕ) → unit < 4294967296 → Short (cond usb (Ok (record { big = big; unit = unit })) (Err Link))
    linked_by true unit k = k
    linked_by false unit k = tt

    by : (u : Option ℕ) → MatchOption u ⊤ (λ u. u < 4294967296) → Short (by_unit big t other u)
    by (Some unit) k = linked_by (eqb (number_at big 20 t) 288) unit k
    by None k = h

head-short : (t : List ℕ) → Short (head_of t)
unfolding head_of
head-short t = by (leb 24 (length t)) (marked false t (marked true t (Err Mark))) (marked-short false t (marked true t (Err Mark)) (marked-short true t (Err Mark) tt))
  where
    by : (whole : Bool) (h : Result Format HeadError) → Short h → Short (cond whole h (Err Mark))
    by true h k = k
    by false h k = tt

-- the words that are lent to a head that is accepted then stand for its format
pub head-format : (t k : List ℕ) → length k ≡ 2 → StandFor (head_of t) (format_after (head_of t) k)
head-format t k l = by (head_of t) (head-short t)
  where
    by : (h : Result Format HeadError) → Short h → StandFor h (format_after h k)
    by (Ok f) s = format_back k f l s
    by (Err error) s = tt
