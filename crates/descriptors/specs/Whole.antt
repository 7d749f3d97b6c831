-- To be believed: USB 2.0, 9.5: a descriptor begins with b_length, the number of its bytes, and bDescriptorType, its type. One that is longer than its
-- type asks for is read by its first bytes, and the next is found by the b_length that came.
-- Assumes nothing.
-- Hold it to: USB 2.0, 9.5; 02, 2: "bLength by bLength", "used up to its last whole descriptor", "a bLength below 2 stops the reading there"
use Rattle.std.specs.Prelude.{ℕ, zero, suc, Bool, cond, ◌&&◌, List, [], ◌∷◌, ◌++◌, leb, length, get_or, take, drop}

abbrev pub b_length : List ℕ → ℕ
b_length p = get_or p 0 0

-- a whole descriptor stands at the beginning: b_length is at least 2, and so many bytes are there
unfoldable pub is_whole : List ℕ → Bool
is_whole p = leb 2 (b_length p) && leb (b_length p) (length p)

-- at most so many
unfoldable pub whole_in : ℕ → List ℕ → List (List ℕ)
whole_in zero p = []
whole_in (suc k) p = cond (is_whole p) (take (b_length p) p ∷ whole_in k (drop (b_length p) p)) []

-- the walk ends at the first place without a whole descriptor
unfoldable pub whole : List ℕ → List (List ℕ)
whole p = whole_in (length p) p

-- behind each other
abbrev pub joined : List (List ℕ) → List ℕ
joined [] = []
joined (d ∷ ds) = d ++ joined ds
