-- Inner (cited by private contracts alone): the search for a device in a list of rows, and what a detail call is answered by it.
use Rattle.std.specs.Prelude.{ℕ, cond, Bool, List, eqb, get_or, Option, Some, None}
use Rattle.details.specs.Details.{wrong}
use Rattle.details.specs.Search.{blank, last_of}
use Rattle.details.specs.declared.Device.{Device}

-- 01: 5 is tested before 6, the answer where the address has no device
abbrev pub no_device : Option ℕ → ℕ
no_device (Some i) = 0
no_device None = 6

unfoldable pub detail_answer : ℕ → ℕ → ℕ → Option ℕ → ℕ
detail_answer number direction k found = cond (wrong number direction k) 5 (no_device found)

-- whether device row i has that address
abbrev pub is_device : List Device → ℕ → ℕ → Bool
is_device devices address i = eqb (get_or devices i blank).address address

-- the device that now stands for an address is its last: SET_ADDRESS adds a new one, also where the address is taken
unfoldable pub found_device : List Device → ℕ → ℕ → Option ℕ
found_device devices n address = last_of (is_device devices address) n
