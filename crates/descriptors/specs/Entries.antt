-- To be believed: what is taken of the bytes that a device or configuration read gave: the max of endpoint 0, and an entry for each endpoint of a
-- configuration.
-- Assumes nothing.
-- Hold it to: USB 2.0, 9.5 and 9.6.1, 9.6.3, 9.6.5, 9.6.6 (tables 9-8, 9-10, 9-12, 9-13); 02, 2: "its interfaces and endpoints", "unknown descriptors stepped over"
use Rattle.std.specs.Prelude.{ℕ, ◌-◌, ◌%◌, Bool, cond, ◌&&◌, List, [], ◌∷◌, ◌++◌, eqb, leb, length, get_or, take, Option, Some, None}
use Rattle.descriptors.specs.Whole.{whole}
use Rattle.descriptors.specs.declared.walk.Setting.{Setting}

-- 9.5: a descriptor of this type (its second byte) with at least so many bytes; more are not looked at
unfoldable pub is_of : ℕ → ℕ → List ℕ → Bool
is_of type least d = leb least (length d) && eqb (get_or d 1 0) type

-- the byte at a place of the first descriptor, if that is of this type
unfoldable pub first_of : ℕ → ℕ → ℕ → List (List ℕ) → Option ℕ
first_of type least place [] = None
first_of type least place (d ∷ ds) = cond (is_of type least d) (Some (get_or d place 0)) None

-- 9.6.1, table 9-8: bMaxPacketSize0, byte 7 of the 18 of a device descriptor (type 1)
unfoldable pub max_of : List ℕ → Option ℕ
max_of p = first_of 1 18 7 (whole p)

-- 9.6.3, table 9-10: bConfigurationValue, byte 5 of the 9 of a configuration descriptor (type 2)
unfoldable pub value_of : List ℕ → Option ℕ
value_of p = first_of 2 9 5 (whole p)

-- no interface descriptor yet
abbrev pub unset : Option Setting
unset = None

-- 9.6.5, table 9-12: an interface descriptor (type 4, 9 bytes) names its number and its alternate setting
unfoldable pub setting_after : List ℕ → Option Setting → Option Setting
setting_after d s = cond (is_of 4 9 d) (Some (record { interface = get_or d 2 0; alternate = get_or d 3 0 })) s

-- 9.6.6, table 9-13: bEndpointAddress has the number in bits 3..0, bits 6..4 are 0; number 0 has no descriptor
abbrev pub named : ℕ → Bool
named address = leb 1 (address % 128) && leb (address % 128) 15

-- an endpoint descriptor (type 5, 7 bytes) behind an interface descriptor: the setting that it belongs to
unfoldable pub gives_entry : List ℕ → Option Setting → Option Setting
gives_entry d s = cond (is_of 5 7 d && named (get_or d 2 0)) s None

-- 9.6.5: endpoint descriptors follow the interface descriptor that they belong to. The entry: configuration value, interface, alternate
-- setting, then bEndpointAddress, bmAttributes and the two bytes of wMaxPacketSize
unfoldable pub entry_of : ℕ → Setting → List ℕ → List ℕ
entry_of value s d = value ∷ s.interface ∷ s.alternate ∷ get_or d 2 0 ∷ get_or d 3 0 ∷ get_or d 4 0 ∷ get_or d 5 0 ∷ []

abbrev pub maybe : Bool → List ℕ → List (List ℕ)
maybe on e = cond on (e ∷ []) []

-- the entry of a descriptor, where it gives one
abbrev pub given : ℕ → List ℕ → Option Setting → List (List ℕ)
given value d None = []
given value d (Some s) = entry_of value s d ∷ []

-- the entries of descriptors behind each other; every other descriptor is stepped over
unfoldable pub entries_in : ℕ → Option Setting → List (List ℕ) → List (List ℕ)
entries_in value s [] = []
entries_in value s (d ∷ ds) = given value d (gives_entry d s) ++ entries_in value (setting_after d s) ds

-- 9.4.3: a configuration read gives the configuration descriptor first, then its interfaces and endpoints
unfoldable pub entries_behind : List (List ℕ) → List (List ℕ)
entries_behind [] = []
entries_behind (d ∷ ds) = cond (is_of 2 9 d) (entries_in (get_or d 5 0) unset ds) []

unfoldable pub entries_of : List ℕ → List (List ℕ)
entries_of p = entries_behind (whole p)

-- a device keeps 585 entries: those of a read that come while it has fewer
unfoldable pub fitting : ℕ → List (List ℕ) → List (List ℕ)
fitting kept es = take (585 - kept) es
