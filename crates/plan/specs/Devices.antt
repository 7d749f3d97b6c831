-- Inner (cited by private contracts alone): which rows of the devices the steps of a packet change: that of the device of the step that begins, and one that
-- the end adds or that a completed request changes; and what such a request is asked.
use Rattle.std.specs.Prelude.{ℕ, Bool, true, false, ◌||◌, List}
use Rattle.transaction.specs.Table.{pick}
use Rattle.details.specs.Details.{with_type, fresh}
use Rattle.details.specs.declared.Device.{Device}
use Rattle.group.specs.declared.Effect.{Effect}
use Rattle.group.specs.declared.Effect.TheVariants.{NoEffect, NewDevice, Request, PendingData, IndexData}
use Rattle.descriptors.specs.Complete.{row_by}
use Rattle.descriptors.specs.declared.complete.Asked.{Asked}
use Rattle.rules.specs.Groups.{asked_at}
use Rattle.update.specs.Update.{when}
use Rattle.plan.specs.declared.Begin.{Begin}
use Rattle.plan.specs.declared.End.{End}

-- whether a step that begins changes a device's row
abbrev pub changes : Begin → Bool
changes s = s.device || s.types

-- a device's row: where `device`, that of a new one at the address owner; then, where `types`, with a split's type stored
abbrev pub row_then : Bool → ℕ → Bool → ℕ → ℕ → Device → Device
row_then device owner types number kind d = when types (λ x. with_type x number kind) (pick device (fresh owner) d)

-- the row of its device after it, of the devices f
abbrev pub row_after : Begin → (ℕ → Device) → Device
row_after s f = row_then s.device s.owner s.types s.number s.kind (f s.place)

-- whether an end adds a device, and at which address
abbrev pub adds_device : Effect → Bool
adds_device NoEffect = false
adds_device (NewDevice a) = true
adds_device (Request n) = false
adds_device (PendingData n) = false
adds_device (IndexData n waited i) = false

abbrev pub address_of : Effect → ℕ
address_of NoEffect = 0
address_of (NewDevice a) = a
address_of (Request n) = 0
address_of (PendingData n) = 0
address_of (IndexData n waited i) = 0

-- whether a request completes, and the length of its payload
abbrev pub asks : Effect → Bool
asks NoEffect = false
asks (NewDevice a) = false
asks (Request n) = true
asks (PendingData n) = false
asks (IndexData n waited i) = false

abbrev pub length_of : Effect → ℕ
length_of NoEffect = 0
length_of (NewDevice a) = 0
length_of (Request n) = n
length_of (PendingData n) = 0
length_of (IndexData n waited i) = 0

-- what it is asked, of the devices f: by the entry that the end has
abbrev pub asked_by : End → (ℕ → Device) → Asked
asked_by s f = asked_at s.entry.setup (length_of s.effect) s.entry.device (f s.entry.device)

-- the row of its device after it
abbrev pub row_asked : End → (ℕ → Device) → List ℕ → Device
row_asked s f shelf = row_by (asked_by s f) shelf (f s.entry.device)
