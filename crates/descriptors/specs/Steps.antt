-- Inner (cited by private contracts alone): one step of the walk, and what the parts of a read do to the store.
-- Assumes nothing.
use Rattle.std.specs.Prelude.{ℕ, ◌+◌, ◌*◌, ◌≡◌, cond, List, length, get_or, take, drop, Option, Some, None}
use Rattle.std.proofs.lemmas.List.Edits.{sets}
use Rattle.descriptors.specs.Whole.{is_whole, joined}
use Rattle.descriptors.specs.Entries.{setting_after, gives_entry, fitting}
use Rattle.descriptors.specs.Store.{stored_at, without, added_by, kept_after}
use Rattle.descriptors.specs.declared.complete.What.{What}
use Rattle.descriptors.specs.declared.complete.What.TheVariants.{Max, Read, Set}
use Rattle.descriptors.specs.declared.walk.Setting.{Setting}
use Rattle.descriptors.specs.declared.walk.Step.{Step}

-- the whole descriptor at a place
abbrev pub descriptor_at : List ℕ → ℕ → List ℕ
descriptor_at p at = take (get_or p at 0) (drop at p)

-- how long it is, where there is one
unfoldable pub whole_at : List ℕ → ℕ → Option ℕ
whole_at p at = cond (is_whole (drop at p)) (Some (get_or p at 0)) None

-- one step of the walk
unfoldable pub step_at : List ℕ → ℕ → Option Setting → Option Step
step_at p at s =
    cond (is_whole (drop at p))
    (Some (record { gives = gives_entry (descriptor_at p at) s; end = at + get_or p at 0; setting = setting_after (descriptor_at p at) s }))
    None

-- the entries es kept behind the `kept` of 7 bytes each that stand from `base` on: the store then, and how many there are then
pub record Keeps (base kept : ℕ) (es : List (List ℕ)) (store store₁ : List ℕ) (count : ℕ) : Type 0 where
  pub stored : store₁ ≡ sets store (base + kept * 7) (joined (fitting kept es))
  pub counted : count ≡ kept + length (fitting kept es)

-- the entries of a value are forgotten: the others stand from `base` on, and how many these are
pub record Forgets (base kept value : ℕ) (store store₁ : List ℕ) (count : ℕ) : Type 0 where
  pub stored : store₁ ≡ sets store base (joined (without value (stored_at base kept store)))
  pub counted : count ≡ length (without value (stored_at base kept store))

-- of a store that held `kept` entries from `base` on: those that the read leaves and adds stand there then, and how many they are
pub record Reads (base kept : ℕ) (p store store₁ : List ℕ) (count added : ℕ) : Type 0 where
  pub stored : store₁ ≡ sets store base (joined (kept_after p (stored_at base kept store)))
  pub counted : count ≡ length (kept_after p (stored_at base kept store))
  pub more : added ≡ length (added_by p (stored_at base kept store))

-- what a note counts, as its number
abbrev pub number_of : What → ℕ
number_of Max = 1
number_of Read = 2
number_of Set = 3
