-- Laws (proved), of descriptors: what the parts of a completed request come to, case by case.
-- Assumes nothing.
use Rattle.std.specs.Prelude.{ℕ, ◌+◌, min, ◌≡◌, refl, List, Option, Some, None}
use Rattle.std.specs.Option.{option_map_or}
use Rattle.std.proofs.Common.{◌∙◌}
use Rattle.std.proofs.Math.Path.{sym, ap}
use Rattle.details.specs.Details.{with_given}
use Rattle.details.specs.declared.Device.{Device}
use Rattle.descriptors.specs.Entries.{max_of}
use Rattle.descriptors.specs.Store.{stored_at}
use Rattle.descriptors.specs.Chosen.{applied, count_set}
use Rattle.descriptors.specs.Complete.{noted, max_note, set_note, with_max, device_after, entries_for, device_by}
use Rattle.descriptors.specs.declared.choose.Choice.{Choice}
use Rattle.descriptors.specs.declared.complete.Asked.{Asked}
use Rattle.descriptors.specs.declared.request.Kind.TheVariants.{ConfigurationRead, Other}

-- the max of a device read
module _ (p : List ℕ) (r : Option ℕ) (e : r ≡ max_of p) where
  pub max_none : r ≡ None → 0 ≡ max_note p
  max_none h = ap (λ (r : Option ℕ). option_map_or (noted 1) r 0) (sym h ∙ e)

  pub max_some : {max : ℕ} → r ≡ Some max → noted 1 max ≡ max_note p
  max_some h = ap (λ (r : Option ℕ). option_map_or (noted 1) r 0) (sym h ∙ e)

  pub max-unset : (d : Device) → r ≡ None → d ≡ with_max p d
  unfolding with_max
  max-unset d h = ap (λ (r : Option ℕ). option_map_or (with_given d 0 0 0) r d) (sym h ∙ e)

  pub max-set : (d : Device) {max : ℕ} → r ≡ Some max → with_given d 0 0 0 max ≡ with_max p d
  unfolding with_max
  max-set d h = ap (λ (r : Option ℕ). option_map_or (with_given d 0 0 0) r d) (sym h ∙ e)

module _ (a : Asked) (shelf : List ℕ) where
  pub set-noted : (c : Choice) (k : ℕ) → k ≡ min a.kept 585 → noted 3 (count_set c (stored_at (a.start + 4096) k shelf)) ≡ set_note c (entries_for a shelf)
  set-noted c k e = ap (λ (i : ℕ). set_note c (stored_at (a.start + 4096) i shelf)) e

  pub applied-kept : (c : Choice) (d : Device) (k : ℕ) → k ≡ min a.kept 585
      → applied c (stored_at (a.start + 4096) k shelf) d ≡ applied c (entries_for a shelf) d
  applied-kept c d k e = ap (λ (i : ℕ). applied c (stored_at (a.start + 4096) i shelf) d) e

-- where the details stay
pub read_by : (a : Asked) (shelf : List ℕ) (d : Device) → d ≡ device_by ConfigurationRead a shelf d
unfolding device_after
read_by a shelf d = refl

pub other_by : (a : Asked) (shelf : List ℕ) (d : Device) → d ≡ device_by Other a shelf d
unfolding device_after
other_by a shelf d = refl
