-- To be believed: where the payload of a read is kept until the request completes.
-- Assumes nothing.
-- Hold it to: 02, 2: "Control payloads are now kept, up to 4,096 bytes a device, and what lies beyond is not read"
use Rattle.std.specs.Prelude.{ℕ, ◌+◌, ◌-◌, Bool, true, false, List, take}
use Rattle.std.proofs.lemmas.List.Edits.{sets}
use Rattle.descriptors.specs.declared.request.Kind.{Kind}
use Rattle.descriptors.specs.declared.request.Kind.TheVariants.{DeviceRead, ConfigurationRead, SetConfiguration, SetInterface, Other}

-- the payloads of the two reads are; no other is ever read
abbrev pub is_laid : Kind → Bool
is_laid DeviceRead = true
is_laid ConfigurationRead = true
is_laid SetConfiguration = false
is_laid SetInterface = false
is_laid Other = false

-- behind the `count` bytes of the part of the shelf that begins at `start`, as far as it lies below 4,096
unfoldable pub laid : ℕ → ℕ → List ℕ → List ℕ → List ℕ
laid start count payload shelf = sets shelf (start + count) (take (4096 - count) payload)
