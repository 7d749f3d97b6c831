-- Inner (cited by private contracts alone): the search for an endpoint: the first row of a device and an address.
use Rattle.std.specs.Prelude.{ℕ, List, Bool, ◌&&◌, eqb, Option}
use Rattle.details.specs.Search.{first_from}
use Rattle.endpoints.specs.Table.{word_at, byte_of}
use Rattle.endpoints.specs.Word as word

-- whether endpoint row i has that device and that address
abbrev pub is_endpoint : List ℕ → ℕ → ℕ → ℕ → Bool
is_endpoint t device address i = eqb (word_at t i word.device) device && eqb (byte_of (word_at t i word.address)) address

-- 01, packets: an endpoint is found exactly if the device has a row for it, and the search ends at the first such row
unfoldable pub found_endpoint : List ℕ → ℕ → ℕ → ℕ → Option ℕ
found_endpoint t n device address = first_from (is_endpoint t device address) 0 n
