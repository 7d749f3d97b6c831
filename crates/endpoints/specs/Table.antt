-- To be believed: the endpoint table as a list of words, and the entries that it holds.
-- Hold it to: EndpointData and EndpointData::new of decoder.rs; that it lies in a table of words is ours
use Rattle.std.specs.Prelude.{ℕ, ◌+◌, ◌*◌, ◌%◌, List, [], ◌∷◌, Bool, false, not, cond, eqb, get_or}
use Rattle.std.proofs.lemmas.List.Edits.{sets}
use Rattle.rows.specs.One.{one}
use Rattle.endpoints.specs.declared.Endpoint.{Endpoint}
use Rattle.endpoints.specs.declared.Phase.{Phase}
use Rattle.endpoints.specs.declared.Phase.TheVariants.{None, Early, Active, Ended}
use Rattle.endpoints.specs.Word as word

-- word k of endpoint i
abbrev pub word_at : List ℕ → ℕ → ℕ → ℕ
word_at t i k = get_or t (i * word.width + k) 0

-- a flag is any word but 0; it is written as 0 or 1 (rows, one)
abbrev pub flag_of : ℕ → Bool
flag_of w = not (eqb w 0)

-- a number of one byte is read off the word's lowest eight bits
abbrev pub byte_of : ℕ → ℕ
byte_of w = w % 256

-- a word that is no phase's number is read as None
abbrev pub phase_of : ℕ → Phase
phase_of w = cond (eqb w word.Early) Early (cond (eqb w word.Active) Active (cond (eqb w word.Ended) Ended None))

abbrev pub phase_word : Phase → ℕ
phase_word None = word.None
phase_word Early = word.Early
phase_word Active = word.Active
phase_word Ended = word.Ended

-- Endpoint from its fields, in their order
abbrev pub make_endpoint : ℕ → ℕ → Phase → ℕ → ℕ → ℕ → ℕ → ℕ → Bool → ℕ → Bool → Bool → ℕ → ℕ → Bool → ℕ → ℕ → Endpoint
make_endpoint device address phase state transactions groups total first done last success ready setup payload pending pendinglength pendinglink =
    record {
      device = device;
      address = address;
      phase = phase;
      state = state;
      transactions = transactions;
      groups = groups;
      total = total;
      first = first;
      done = done;
      last = last;
      success = success;
      ready = ready;
      setup = setup;
      payload = payload;
      pending = pending;
      pendinglength = pendinglength;
      pendinglink = pendinglink;
    }

-- the words of an entry, in the order of its fields
abbrev pub words : Endpoint → List ℕ
words e =
    e.device
    ∷ e.address
    ∷ phase_word e.phase
    ∷ e.state
    ∷ e.transactions
    ∷ e.groups
    ∷ e.total
    ∷ e.first
    ∷ one e.done
    ∷ e.last
    ∷ one e.success
    ∷ one e.ready
    ∷ e.setup
    ∷ e.payload
    ∷ one e.pending
    ∷ e.pendinglength
    ∷ e.pendinglink
    ∷ []

-- the entry that the words w of a row make
abbrev pub entry_of : (ℕ → ℕ) → Endpoint
entry_of w =
    record {
      device = w word.device;
      address = byte_of (w word.address);
      phase = phase_of (w word.phase);
      state = byte_of (w word.state);
      transactions = w word.transactions;
      groups = w word.groups;
      total = w word.total;
      first = byte_of (w word.first);
      done = flag_of (w word.done);
      last = byte_of (w word.last);
      success = flag_of (w word.success);
      ready = flag_of (w word.ready);
      setup = w word.setup;
      payload = w word.payload;
      pending = flag_of (w word.pending);
      pendinglength = w word.pendinglength;
      pendinglink = w word.pendinglink;
    }

-- the entry at i
unfoldable pub entry_at : List ℕ → ℕ → Endpoint
entry_at t i = entry_of (word_at t i)

-- 02, request 12: "each log has a first number"; that of log k. Device, endpoint and request rows are never given back: theirs is 0, and is not read
unfoldable pub first_at : ℕ → List ℕ → ℕ
first_at k t = get_or t (word.firsts + k) 0

-- an entry with another phase
abbrev pub with_phase : Phase → Endpoint → Endpoint
with_phase p e = make_endpoint e.device e.address p e.state e.transactions e.groups e.total e.first e.done e.last e.success
    e.ready e.setup e.payload e.pending e.pendinglength e.pendinglink

-- an entry with another state
abbrev pub with_state : ℕ → Endpoint → Endpoint
with_state s e = make_endpoint e.device e.address e.phase s e.transactions e.groups e.total e.first e.done e.last e.success
    e.ready e.setup e.payload e.pending e.pendinglength e.pendinglink

-- the table with e at i
unfoldable pub store_at : List ℕ → ℕ → Endpoint → List ℕ
store_at t i e = sets t (i * word.width) (words e)

-- EndpointData::new
abbrev pub new_endpoint : ℕ → ℕ → Endpoint
new_endpoint d a = make_endpoint d a None 0 0 0 0 0 false 0 false false 0 0 false 0 0
