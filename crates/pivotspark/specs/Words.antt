-- To be believed: the words in which a test of another language hands group_status its values, and gets the answer.
-- Hold it to: ours: the C entry pivotspark_group_status, in the order of the structs
use Rattle.std.specs.Prelude.{Bool, true, false, List, [], ◌∷◌, ℕ, ◌%◌, eqb, get_or}
use Rattle.details.specs.Kind.{Unknown}
use Rattle.details.specs.declared.Detail.{Detail}
use Rattle.endpoints.specs.declared.Endpoint.{Endpoint}
use Rattle.endpoints.specs.declared.Phase.{Phase}
use Rattle.endpoints.specs.declared.Phase.TheVariants.{None, Early, Active, Ended}
use Rattle.transaction.specs.Table.{pick}
use Rattle.transaction.specs.declared.Style.{Style}
use Rattle.transaction.specs.declared.Style.TheVariants.{Nothing, Simple, Split, Token}
use Rattle.transaction.specs.declared.Transaction.{Transaction}
use Rattle.group.specs.declared.GroupStatus.{GroupStatus}
use Rattle.group.specs.declared.GroupStatus.TheVariants.{Single, New, Continue, Retry, Done, Invalid}
use Rattle.group.specs.declared.Effect.{Effect}
use Rattle.group.specs.declared.Effect.TheVariants.{NoEffect, NewDevice, Request, PendingData, IndexData}
use Rattle.group.specs.declared.Grouped.{Grouped}
use Rattle.group.specs.Group.{group_status}

abbrev pub word : List ℕ → ℕ → ℕ
word s i = get_or s i 0

abbrev pub byte_of : ℕ → ℕ
byte_of w = w % 256

abbrev pub size_of : ℕ → ℕ
size_of w = w % 65536

abbrev pub flag_of : ℕ → Bool
flag_of w = eqb w 1

abbrev pub phase_of : ℕ → Phase
phase_of w = pick (eqb w 1) Early (pick (eqb w 2) Active (pick (eqb w 3) Ended None))

abbrev pub style_of : ℕ → ℕ → ℕ → ℕ → Style
style_of w sc kind pid = pick (eqb w 1) (Simple pid) (pick (eqb w 2) (Split sc kind) (pick (eqb w 3) (Token sc kind pid) Nothing))

-- words 0 to 10; what group_status does not look at is 0
unfoldable pub endpoint_of : List ℕ → Endpoint
endpoint_of s = record {
  device = 0;
  address = 0;
  phase = phase_of (word s 0);
  state = 0;
  transactions = 0;
  groups = 0;
  total = 0;
  first = byte_of (word s 1);
  done = flag_of (word s 2);
  last = byte_of (word s 3);
  success = flag_of (word s 4);
  ready = flag_of (word s 5);
  setup = word s 6;
  payload = word s 7;
  pending = flag_of (word s 8);
  pendinglength = word s 9;
  pendinglink = word s 10;
}

-- words 11 to 18
unfoldable pub transaction_of : List ℕ → Transaction
transaction_of s = record {
  style = style_of (word s 11) (byte_of (word s 12)) (byte_of (word s 13)) (byte_of (word s 14));
  id = 0;
  last = 0;
  endpoint = 0;
  kind = Unknown;
  linked = false;
  link = 0;
  ready = flag_of (word s 15);
  setup = word s 16;
  filled = flag_of (word s 17);
  payload = word s 18;
}

-- words 19 and 20
unfoldable pub detail_of : List ℕ → Detail
detail_of s = record { kind = byte_of (word s 19); given = false; max = size_of (word s 20) }

-- words 21 and 22 are success and complete
unfoldable pub answered : List ℕ → Grouped
answered s = group_status (endpoint_of s) (transaction_of s) (detail_of s) (flag_of (word s 21)) (flag_of (word s 22))

abbrev pub status_word : GroupStatus → ℕ
status_word Single = 0
status_word New = 1
status_word Continue = 2
status_word Retry = 3
status_word Done = 4
status_word Invalid = 5

abbrev pub flag_word : Bool → ℕ
flag_word true = 1
flag_word false = 0

-- which effect it is, its number, and of IndexData the other two
abbrev pub effect_words : Effect → List ℕ
effect_words NoEffect = 0 ∷ 0 ∷ 0 ∷ 0 ∷ []
effect_words (NewDevice a) = 1 ∷ a ∷ 0 ∷ 0 ∷ []
effect_words (Request n) = 2 ∷ n ∷ 0 ∷ 0 ∷ []
effect_words (PendingData n) = 3 ∷ n ∷ 0 ∷ 0 ∷ []
effect_words (IndexData n w i) = 4 ∷ n ∷ flag_word w ∷ i ∷ []

-- status, the effect's four words, and what may have changed of the endpoint
abbrev pub answer_words : Grouped → List ℕ
answer_words g =
    status_word g.status
    ∷ word (effect_words g.effect) 0
    ∷ word (effect_words g.effect) 1
    ∷ word (effect_words g.effect) 2
    ∷ word (effect_words g.effect) 3
    ∷ flag_word g.endpoint.success
    ∷ flag_word g.endpoint.ready
    ∷ g.endpoint.setup
    ∷ g.endpoint.payload
    ∷ flag_word g.endpoint.pending
    ∷ []
