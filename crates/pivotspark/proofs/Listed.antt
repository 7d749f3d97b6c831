-- What the entries for the listing tell: a part by its row and one word, and a line that is made apart and copied.
-- Assumes nothing.
use Prim.Native.Nat.{ℕ, ◌+◌, ◌≤◌}
use native.Mathlib.Omega.{arith}
use mathlib.Core.Path.{◌≡◌, sym, ap, ◌∙◌}
use mathlib.Core.List.{List, [], ◌∷◌}
use lib.ListN.{length, take, drop}
use lib.Seq.{sets, sets-eq, length-sets, length-take-le, take-append_seam}
use Rattle.text.specs.Append.{Appended}
use Rattle.parts.specs.Parts.{Told, row_line, rows_of}
use Rattle.lines.specs.declared.Kind.{Kind}
use Rattle.pivotspark.specs.Lines.{ToldPart, ToldNothing, ToldLines, Alone}

pub told_part :
    {line : ℕ → List ℕ} {n from : ℕ} {before after : List ℕ} {next len : ℕ} {word : List ℕ} {r : ℕ} {told : List ℕ} → Told line n from before after next len → r ≡ next
    → told ≡ sets word 0 (len ∷ [])
    → ToldPart line n from before word r after told
told_part {word} t e w = record { goes = e ∙ t.goes; size = w ∙ ap (λ (k : ℕ). sets word 0 (k ∷ [])) t.size; stored = t.stored }

-- what was appended at the front of a buffer that has room for it is its first bytes
module _ {buffer line l : List ℕ} {len : ℕ} (a : Appended buffer 0 line l len) (h : length line ≤ length buffer) where
  pub made_within : len ≤ length l
  made_within = rw (a.stored, length-sets) (omega (arith, a.place))

  pub made_size : len ≡ length (take len l)
  made_size = sym (length-take-le len l made_within)

  pub made : take len l ≡ line
  made =
      let e : len ≡ length line = omega (arith, a.place) in
      rw (e, a.stored, sets-eq line buffer 0 (omega arith)) (take-append_seam line (drop (0 + length line) buffer))

  pub alone : {before after : List ℕ} {r : ℕ} → Alone (take len l) before after r → Alone line before after r
  alone t = rw made at t
