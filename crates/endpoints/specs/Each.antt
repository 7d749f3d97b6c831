-- Inner (cited by private contracts alone): the loops over the table: one word of every endpoint made anew, what clearing, ending and the state row do to it,
-- and the rows that close.
use Rattle.std.specs.Prelude.{ℕ, zero, suc, ◌+◌, ◌*◌, List, [], ◌∷◌, set, cond, Bool, eqb}
use Rattle.endpoints.specs.Table.{word_at, byte_of}
use Rattle.endpoints.specs.Word as word
use Rattle.endpoints.specs.Phases.{count, in_phase}
use Rattle.endpoints.specs.Link as link
use Rattle.endpoints.specs.States.{next_state}

-- the table in which word k of each of the n endpoints from i on is f of the endpoint's number and the word as it was
abbrev pub each : ℕ → (ℕ → ℕ → ℕ) → List ℕ → ℕ → ℕ → List ℕ
each k f t i zero = t
each k f t i (suc n) = each k f (set t (i * word.width + k) (f i (word_at t i k))) (suc i) n

-- handle_event of decoder.rs: how many of the first n endpoints have an active group
abbrev pub active : List ℕ → ℕ → ℕ
active t n = count (in_phase word.Active t) 0 n

-- 01, trace and listing: an E link has the endpoint and the item; the fourth word is 0
abbrev pub closed : ℕ → ℕ → List ℕ → List ℕ
closed endpoint item rest = link.E ∷ endpoint ∷ item ∷ 0 ∷ rest

-- the links that close those that wait among the n endpoints from i on, in endpoint order
abbrev pub closing : List ℕ → ℕ → ℕ → ℕ → List ℕ
closing t item i zero = []
closing t item i (suc n) = cond (in_phase word.Ended t i) (closed i item (closing t item (suc i) n)) (closing t item (suc i) n)

-- a phase word where phase p becomes phase q, and any other stays
abbrev pub becomes : ℕ → ℕ → ℕ → ℕ → ℕ
becomes p q i w = cond (eqb w p) q w

-- add_item of decoder.rs: ended is taken, so none of the first n endpoints waits any more
unfoldable pub cleared : List ℕ → ℕ → List ℕ
cleared t n = each word.phase (becomes word.Ended word.None) t 0 n

-- handle_event of decoder.rs: every active group is ended, early ones staying
unfoldable pub ended : List ℕ → ℕ → List ℕ
ended t n = each word.phase (becomes word.Active word.Ended) t 0 n

-- the state after a row of `endpoint` (States, next_state), of endpoint i and its state word; endpoint 0 is the event endpoint
abbrev pub state_word : ℕ → Bool → ℕ → ℕ → ℕ
state_word endpoint start i w = next_state (eqb i endpoint) (eqb endpoint 0) start (byte_of w)

-- the table after a row of `endpoint`, a start or an end
unfoldable pub next_states : List ℕ → ℕ → ℕ → Bool → List ℕ
next_states t n endpoint start = each word.state (state_word endpoint start) t 0 n

-- the bytes of the row: the state of each of the n endpoints from i on
abbrev pub state_bytes : List ℕ → ℕ → ℕ → List ℕ
state_bytes t i zero = []
state_bytes t i (suc n) = byte_of (word_at t i word.state) ∷ state_bytes t (suc i) n
