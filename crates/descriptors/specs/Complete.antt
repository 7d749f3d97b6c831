-- To be believed: what a completed request does: the note of its row, and what it leaves of its device's details, of the configuration that is chosen, and
-- of the device's part of the shelf.
-- Assumes nothing.
-- Hold it to: 02, 2: "When a standard GET_DESCRIPTOR completes", "SET_CONFIGURATION makes ..", "SET_INTERFACE changes one interface", "up to 4,096 bytes a device", "gains a note of what was taken"; USB 2.0, 9.4.3, 9.4.7, 9.4.10, 9.6.1; the note's numbers are ours
use Rattle.std.specs.Prelude.{ℕ, ◌+◌, ◌*◌, min, ◌≡◌, cond, List, ltb, length, take, drop, is_some}
use Rattle.std.specs.Option.{option_map_or}
use Rattle.std.proofs.lemmas.List.Edits.{sets}
use Rattle.usb.specs.Fields.{setup_of}
use Rattle.usb.specs.Types.{Control}
use Rattle.usb.specs.declared.fields.Setup.{Setup}
use Rattle.details.specs.Details.{with_given}
use Rattle.details.specs.declared.Device.{Device}
use Rattle.descriptors.specs.Whole.{joined}
use Rattle.descriptors.specs.Kind.{kind_of}
use Rattle.descriptors.specs.Entries.{max_of, value_of}
use Rattle.descriptors.specs.Store.{stored_at, added_by, kept_after}
use Rattle.descriptors.specs.Chosen.{configuration_choice, interface_choice, chosen_after, applied, count_set}
use Rattle.descriptors.specs.declared.choose.Choice.{Choice}
use Rattle.descriptors.specs.declared.complete.Asked.{Asked}
use Rattle.descriptors.specs.declared.complete.Completed.{Completed}
use Rattle.descriptors.specs.declared.request.Kind.{Kind}
use Rattle.descriptors.specs.declared.request.Kind.TheVariants.{DeviceRead, ConfigurationRead, SetConfiguration, SetInterface, Other}

-- a payload of n bytes, where the device's part of the shelf begins at `start`: what lies beyond 4,096 is not read
abbrev pub payload_at : ℕ → ℕ → List ℕ → List ℕ
payload_at start n shelf = take (min n 4096) (drop start shelf)

-- the entries that the device keeps there, 585 at most
abbrev pub entries_at : ℕ → ℕ → List ℕ → List (List ℕ)
entries_at start kept shelf = stored_at (start + 4096) (min kept 585) shelf

-- a note: 0 where nothing is taken, else four times a count, and 1 for a max, 2 for entries read, 3 for entries that set details
abbrev pub noted : ℕ → ℕ → ℕ
noted what count = 4 * count + what

abbrev pub max_note : List ℕ → ℕ
max_note p = option_map_or (noted 1) (max_of p) 0

abbrev pub read_note : List ℕ → List (List ℕ) → ℕ
read_note p es = cond (is_some (value_of p)) (noted 2 (length (added_by p es))) 0

abbrev pub set_note : Choice → List (List ℕ) → ℕ
set_note c es = noted 3 (count_set c es)

-- by the request's kind, its setup data, the configuration chosen before it (256 and more: none is), its payload, and the entries kept before it
unfoldable pub note_of : Kind → Setup → ℕ → List ℕ → List (List ℕ) → ℕ
note_of DeviceRead s chosen p es = max_note p
note_of ConfigurationRead s chosen p es = read_note p es
note_of SetConfiguration s chosen p es = set_note (configuration_choice s) es
note_of SetInterface s chosen p es = cond (ltb chosen 256) (set_note (interface_choice s chosen) es) 0
note_of Other s chosen p es = 0

-- 9.6.1, table 9-8: bMaxPacketSize0 is the max of number 0, which is control
unfoldable pub with_max : List ℕ → Device → Device
with_max p d = option_map_or (with_given d 0 0 Control) (max_of p) d

-- the device's details: the SETs make them, and no configuration read does
unfoldable pub device_after : Kind → Setup → ℕ → List ℕ → List (List ℕ) → Device → Device
device_after DeviceRead s chosen p es d = with_max p d
device_after ConfigurationRead s chosen p es d = d
device_after SetConfiguration s chosen p es d = applied (configuration_choice s) es d
device_after SetInterface s chosen p es d = cond (ltb chosen 256) (applied (interface_choice s chosen) es d) d
device_after Other s chosen p es d = d

-- how many entries the device keeps then: only a configuration read changes it
unfoldable pub count_after : Kind → List ℕ → List (List ℕ) → ℕ → ℕ
count_after DeviceRead p es kept = kept
count_after ConfigurationRead p es kept = cond (is_some (value_of p)) (length (kept_after p es)) kept
count_after SetConfiguration p es kept = kept
count_after SetInterface p es kept = kept
count_after Other p es kept = kept

-- the shelf then: its entries stand where they are kept, and every other byte is as it was
unfoldable pub shelf_after : Kind → ℕ → List ℕ → List (List ℕ) → List ℕ → List ℕ
shelf_after DeviceRead start p es shelf = shelf
shelf_after ConfigurationRead start p es shelf = cond (is_some (value_of p)) (sets shelf (start + 4096) (joined (kept_after p es))) shelf
shelf_after SetConfiguration start p es shelf = shelf
shelf_after SetInterface start p es shelf = shelf
shelf_after Other start p es shelf = shelf

-- what is asked of a shelf
module _ (a : Asked) (shelf : List ℕ) where
  abbrev pub payload_for : List ℕ
  payload_for = payload_at a.start a.length shelf

  abbrev pub entries_for : List (List ℕ)
  entries_for = entries_at a.start a.kept shelf

  abbrev pub completed_by : Kind → Completed
  completed_by kind =
      record {
        note = note_of kind (setup_of a.setup) a.chosen payload_for entries_for;
        kept = count_after kind payload_for entries_for a.kept;
        chosen = chosen_after kind (setup_of a.setup) a.chosen;
      }

-- a request that completes: the shelf after it, and what it leaves of the device's row
pub record CompletesAs (kind : Kind) (a : Asked) (shelf shelf₁ : List ℕ) (r : Completed) : Type 0 where
  pub stored : shelf₁ ≡ shelf_after kind a.start (payload_for a shelf) (entries_for a shelf) shelf
  pub told : r ≡ completed_by a shelf kind

abbrev pub Completes : Asked → List ℕ → List ℕ → Completed → Type 0
Completes a = CompletesAs (kind_of a.setup) a

abbrev pub device_by : Kind → Asked → List ℕ → Device → Device
device_by kind a shelf d = device_after kind (setup_of a.setup) a.chosen (payload_for a shelf) (entries_for a shelf) d

-- a device's row with what a request left of it
abbrev pub row_with : Completed → Device → Device
row_with r d = record { address = d.address; chosen = r.chosen; kept = r.kept; details = d.details }

-- the row of its device after a request, by the shelf before it
unfoldable pub row_after : Kind → Asked → List ℕ → Device → Device
row_after kind a shelf d = row_with (completed_by a shelf kind) (device_by kind a shelf d)

-- all that a completed request does, by its setup data: the note of its row, the row of its device, the shelf
module _ (a : Asked) (shelf : List ℕ) where
  abbrev pub note_by : ℕ
  note_by = (completed_by a shelf (kind_of a.setup)).note

  abbrev pub row_by : Device → Device
  row_by = row_after (kind_of a.setup) a shelf

  abbrev pub shelf_by : List ℕ
  shelf_by = shelf_after (kind_of a.setup) a.start (payload_for a shelf) (entries_for a shelf) shelf
