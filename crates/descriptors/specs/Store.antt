-- To be believed: the entries that a store holds, and what a configuration read leaves of them.
-- Assumes nothing.
-- Hold it to: 02, 2: what a read of a configuration gives takes the place of what was read of it before; that entries lie in a store of bytes, 585 of 7 bytes, is ours
use Rattle.std.specs.Prelude.{ℕ, zero, suc, Bool, not, List, [], ◌∷◌, ◌++◌, eqb, length, get_or, take, drop}
use Rattle.std.specs.Option.{option_map_or}
use Rattle.descriptors.specs.Entries.{maybe, value_of, fitting, entries_of}

-- the first n entries of a list of bytes
unfoldable pub chunks : ℕ → List ℕ → List (List ℕ)
chunks zero l = []
chunks (suc n) l = take 7 l ∷ chunks n (drop 7 l)

-- the n entries of a store from `base` on
abbrev pub stored_at : ℕ → ℕ → List ℕ → List (List ℕ)
stored_at base n store = chunks n (drop base store)

-- whether an entry is of another configuration: its first number is the configuration value
abbrev pub is_other : ℕ → List ℕ → Bool
is_other value e = not (eqb (get_or e 0 0) value)

-- the entries of other configurations, in their order
unfoldable pub without : ℕ → List (List ℕ) → List (List ℕ)
without value [] = []
without value (e ∷ es) = maybe (is_other value e) e ++ without value es

-- what a configuration read leaves of the entries that were there: those of other configurations
unfoldable pub left_by : List ℕ → List (List ℕ) → List (List ℕ)
left_by p es = option_map_or (λ value. without value es) (value_of p) es

-- and what it adds behind them, while there are fewer than 585; a read of something else has no entries
unfoldable pub added_by : List ℕ → List (List ℕ) → List (List ℕ)
added_by p es = fitting (length (left_by p es)) (entries_of p)

abbrev pub kept_after : List ℕ → List (List ℕ) → List (List ℕ)
kept_after p es = left_by p es ++ added_by p es
