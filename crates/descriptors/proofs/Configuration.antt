-- Laws (proved): a configuration as lists, and its bytes (USB 2.0, 9.4.3 and 9.6): what a device that keeps to chapter 9 answers to a configuration read.
-- No contract rests on it; `read_back` (ReadBack) says that the entries of these bytes are the endpoints.
-- Assumes nothing.
use Rattle.std.specs.Prelude.{ℕ, ◌+◌, ◌/◌, ◌%◌, ◌≤◌, ◌≡◌, true, false, List, [], ◌∷◌, ◌++◌, length}
use Rattle.descriptors.specs.Whole.{b_length, joined}
use Rattle.descriptors.specs.Entries.{is_of, named}

-- table 9-13; `extra` are bytes behind the seventh (audio endpoints have two), `others` the class's or vendor's descriptors behind it
pub record Endpoint : Type 0 where
  pub address : ℕ
  pub attributes : ℕ
  pub low : ℕ
  pub high : ℕ
  pub interval : ℕ
  pub extra : List ℕ
  pub others : List (List ℕ)

-- an alternate setting of an interface, table 9-12
pub record Alternate : Type 0 where
  pub alternate : ℕ
  pub class : ℕ
  pub subclass : ℕ
  pub protocol : ℕ
  pub text : ℕ
  pub others : List (List ℕ)
  pub endpoints : List Endpoint

pub record Interface : Type 0 where
  pub number : ℕ
  pub alternates : List Alternate

-- table 9-10
pub record Configuration : Type 0 where
  pub value : ℕ
  pub text : ℕ
  pub attributes : ℕ
  pub power : ℕ
  pub others : List (List ℕ)
  pub interfaces : List Interface

abbrev pub endpoint_bytes : Endpoint → List ℕ
endpoint_bytes e = (7 + length e.extra) ∷ 5 ∷ e.address ∷ e.attributes ∷ e.low ∷ e.high ∷ e.interval ∷ e.extra

abbrev pub alternate_bytes : ℕ → Alternate → List ℕ
alternate_bytes n a = 9 ∷ 4 ∷ n ∷ a.alternate ∷ length a.endpoints ∷ a.class ∷ a.subclass ∷ a.protocol ∷ a.text ∷ []

-- wTotalLength is that of all descriptors together
abbrev pub configuration_bytes : Configuration → ℕ → List ℕ
configuration_bytes c total = 9 ∷ 2 ∷ (total % 256) ∷ (total / 256) ∷ length c.interfaces ∷ c.value ∷ c.text ∷ c.attributes ∷ c.power ∷ []

-- for each, behind each other
abbrev pub flat : {A : Type 0} → (A → List (List ℕ)) → List A → List (List ℕ)
flat f [] = []
flat f (x ∷ xs) = f x ++ flat f xs

abbrev pub of_endpoint : Endpoint → List (List ℕ)
of_endpoint e = endpoint_bytes e ∷ e.others

abbrev pub of_alternate : ℕ → Alternate → List (List ℕ)
of_alternate n a = alternate_bytes n a ∷ (a.others ++ flat of_endpoint a.endpoints)

abbrev pub of_interface : Interface → List (List ℕ)
of_interface i = flat (of_alternate i.number) i.alternates

-- 9.4.3: the configuration descriptor, then for each interface its alternate settings, each with its endpoints
abbrev pub behind_head : Configuration → List (List ℕ)
behind_head c = c.others ++ flat of_interface c.interfaces

abbrev pub bytes_of : Configuration → List ℕ
bytes_of c = joined (configuration_bytes c (9 + length (joined (behind_head c))) ∷ behind_head c)

-- the endpoints of a configuration, as entries
abbrev pub endpoint_entry : ℕ → ℕ → ℕ → Endpoint → List (List ℕ)
endpoint_entry value n a e = (value ∷ n ∷ a ∷ e.address ∷ e.attributes ∷ e.low ∷ e.high ∷ []) ∷ []

abbrev pub alternate_entries : ℕ → ℕ → Alternate → List (List ℕ)
alternate_entries value n a = flat (endpoint_entry value n a.alternate) a.endpoints

abbrev pub interface_entries : ℕ → Interface → List (List ℕ)
interface_entries value i = flat (alternate_entries value i.number) i.alternates

abbrev pub endpoints_of : Configuration → List (List ℕ)
endpoints_of c = flat (interface_entries c.value) c.interfaces

abbrev pub All : {A : Type 0} → (A → Type 0) → List A → Type 0
All P [] = Unit {0}
All P (x ∷ xs) = P x × All P xs

-- 9.5: a descriptor's first byte is its length
pub record Formed (d : List ℕ) : Type 0 where
  pub two : 2 ≤ length d
  pub first : b_length d ≡ length d

-- one that is neither an interface's nor an endpoint's
pub record Foreign (d : List ℕ) : Type 0 where
  pub formed : Formed d
  pub interface : is_of 4 9 d ≡ false
  pub endpoint : is_of 5 7 d ≡ false

-- 9.6.6: numbers 1 to 15, bits 6..4 are 0
pub record GoodEndpoint (e : Endpoint) : Type 0 where
  pub numbered : named e.address ≡ true
  pub foreign : All Foreign e.others

pub record GoodAlternate (a : Alternate) : Type 0 where
  pub foreign : All Foreign a.others
  pub endpoints : All GoodEndpoint a.endpoints

pub record GoodInterface (i : Interface) : Type 0 where
  pub alternates : All GoodAlternate i.alternates

pub record Good (c : Configuration) : Type 0 where
  pub foreign : All Foreign c.others
  pub interfaces : All GoodInterface c.interfaces
