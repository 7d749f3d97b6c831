-- Laws (proved): the row of a device that a request completes on: it may be made when the shelf has been written, and its address and its number of details stay.
-- Assumes nothing.
use Rattle.std.specs.Prelude.{ℕ, ◌/◌, ◌%◌, ◌+◌, ◌*◌, ◌≡◌, refl, Bool, true, false, cond, List, [], ◌∷◌, ltb, length, get_or, Option, Some, None}
use Rattle.std.specs.Option.{option_map_or}
use Rattle.std.proofs.Common.{◌∙◌}
use Rattle.usb.specs.Fields.{setup_of}
use Rattle.usb.specs.Types.{Control}
use Rattle.usb.specs.declared.fields.Setup.{Setup}
use Rattle.details.specs.Details.{with_given}
use Rattle.details.proofs.DetailsLaws.{Kept, given-kept}
use Rattle.details.specs.declared.Device.{Device}
use Rattle.descriptors.specs.Entries.{max_of}
use Rattle.descriptors.specs.Chosen.{configuration_choice, interface_choice, is_chosen, set_from, set_if, applied}
use Rattle.descriptors.specs.Complete.{payload_for, entries_for, CompletesAs, with_max, device_after, device_by, row_with, row_after}
use Rattle.descriptors.proofs.FateLaws.{device_still}
use Rattle.descriptors.specs.declared.choose.Choice.{Choice}
use Rattle.descriptors.specs.declared.complete.Asked.{Asked}
use Rattle.descriptors.specs.declared.complete.Completed.{Completed}
use Rattle.descriptors.specs.declared.request.Kind.{Kind}
use Rattle.descriptors.specs.declared.request.Kind.TheVariants.{DeviceRead, ConfigurationRead, SetConfiguration, SetInterface, Other}

pub row_still : (kind : Kind) (a : Asked) (shelf shelf₁ : List ℕ) (r : Completed) (d : Device) → CompletesAs kind a shelf shelf₁ r
    → row_with r (device_by kind a shelf₁ d) ≡ row_after kind a shelf d
unfolding row_after
row_still kind a shelf shelf₁ r d h = let e = h.told in let s = device_still kind a shelf shelf₁ r d h in λ i. row_with (e i) (s i)

same : (d : Device) → Kept d d
same d = record { address = refl; chosen = refl; kept = refl; count = refl }

then : {d e f : Device} → Kept d e → Kept e f → Kept d f
then a b = record { address = b.address ∙ a.address; chosen = b.chosen ∙ a.chosen; kept = b.kept ∙ a.kept; count = b.count ∙ a.count }

maybe : (b : Bool) (d e : Device) → Kept d e → Kept d (cond b e d)
maybe true d e h = h
maybe false d e h = same d

set-kept : (e : List ℕ) (d : Device) (on : Bool) → Kept d (set_if on e d)
unfolding set_if set_from
set-kept e d on =
    maybe on d (with_given d (get_or e 3 0 % 16) (get_or e 3 0 / 128 % 2) (get_or e 4 0 % 4) ((get_or e 5 0 + get_or e 6 0 * 256) % 2048))
    (given-kept d (get_or e 3 0 % 16) (get_or e 3 0 / 128 % 2) (get_or e 4 0 % 4) ((get_or e 5 0 + get_or e 6 0 * 256) % 2048))

applied-kept : (c : Choice) (es : List (List ℕ)) (d : Device) → Kept d (applied c es d)
unfolding applied
applied-kept c [] d = same d
applied-kept c (e ∷ es) d = then (set-kept e d (is_chosen c e)) (applied-kept c es (set_if (is_chosen c e) e d))

-- the details alone change
device-kept : (kind : Kind) (s : Setup) (chosen : ℕ) (p : List ℕ) (es : List (List ℕ)) (d : Device) → Kept d (device_after kind s chosen p es d)
unfolding device_after with_max
device-kept DeviceRead s chosen p es d = by (max_of p)
  where
    by : (r : Option ℕ) → Kept d (option_map_or (with_given d 0 0 Control) r d)
    by (Some m) = given-kept d 0 0 Control m
    by None = same d
device-kept ConfigurationRead s chosen p es d = same d
device-kept SetConfiguration s chosen p es d = applied-kept (configuration_choice s) es d
device-kept SetInterface s chosen p es d = maybe (ltb chosen 256) d (applied (interface_choice s chosen) es d) (applied-kept (interface_choice s chosen) es d)
device-kept Other s chosen p es d = same d

module _ (kind : Kind) (a : Asked) (shelf : List ℕ) (d : Device) where
  kept : Kept d (device_by kind a shelf d)
  kept = device-kept kind (setup_of a.setup) a.chosen (payload_for a shelf) (entries_for a shelf) d

  pub row-address : (row_after kind a shelf d).address ≡ d.address
  unfolding row_after
  row-address = kept.address

  pub row-details : length (row_after kind a shelf d).details ≡ length d.details
  unfolding row_after
  row-details = kept.count
