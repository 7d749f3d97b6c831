-- For the arms of a match on a number: a sum of keys taken apart, and the rules by which a refusal that is listed beside `off` makes a test false.
use mathlib.Core.Bool.{Bool, true, false, ◌&&◌}
use mathlib.Core.Logic.{⊎_elim, ◌⊎◌, inl, inr}
use mathlib.Core.Path.{◌≡◌, refl}
use borrow.Author.Tests.{ne_eqb}

pub either : {A B R : Type 0} → A ⊎ B → (A → R) → (B → R) → R
either s f g = ⊎_elim f g s

pub either3 : {A B C R : Type 0} → A ⊎ (B ⊎ C) → (A → R) → (B → R) → (C → R) → R
either3 s f g h = ⊎_elim f (⊎_elim g h) s

pub either5 : {A B C D E R : Type 0} → A ⊎ (B ⊎ (C ⊎ (D ⊎ E))) → (A → R) → (B → R) → (C → R) → (D → R) → (E → R) → R
either5 s f g h i j = ⊎_elim f (⊎_elim g (⊎_elim h (⊎_elim i j))) s

pub either7 : {A B C D E F G R : Type 0} → A ⊎ (B ⊎ (C ⊎ (D ⊎ (E ⊎ (F ⊎ G))))) → (A → R) → (B → R) → (C → R) → (D → R) → (E → R) → (F → R) → (G → R) → R
either7 s f g h i j k l = ⊎_elim f (⊎_elim g (⊎_elim h (⊎_elim i (⊎_elim j (⊎_elim k l))))) s

-- at the third place and beyond: the search for a refusal's premise goes three steps
abbrev pub in3 : {A B C : Type 0} → C → A ⊎ (B ⊎ C)
in3 x = inr (inr x)

abbrev pub in4 : {A B C D : Type 0} → D → A ⊎ (B ⊎ (C ⊎ D))
in4 x = inr (in3 x)

abbrev pub in5 : {A B C D E : Type 0} → E → A ⊎ (B ⊎ (C ⊎ (D ⊎ E)))
in5 x = inr (in4 x)

abbrev pub in6 : {A B C D E F : Type 0} → F → A ⊎ (B ⊎ (C ⊎ (D ⊎ (E ⊎ F))))
in6 x = inr (in5 x)

abbrev pub in7 : {A B C D E F G : Type 0} → G → A ⊎ (B ⊎ (C ⊎ (D ⊎ (E ⊎ (F ⊎ G)))))
in7 x = inr (in6 x)

-- `&&` computes by its left side: where a test that stands further right fails, the row fails all the same
pub and_false : (b : Bool) → (b && false) ≡ false
and_false true = refl
and_false false = refl

pub ruleset off = (ne_eqb, and_false, inl, inr, in3, in4, in5, in6, in7)
