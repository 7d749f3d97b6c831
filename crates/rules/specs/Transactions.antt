-- To be believed: the functions of decoder.rs from transaction_update to transaction_end. A function stands below those that it calls.
-- Hold it to: transaction_update, transaction_start, transaction_append, transaction_end and endpoint_id of decoder.rs; 01, "Rules of a transaction" and answer 8; 02, 2: "Control payloads are now kept"
use Rattle.std.specs.Prelude.{Bool, true, false, ◌&&◌, not, List, ℕ, suc, ◌*◌, eqb, ltb, length}
use Rattle.usb.specs.Packet.{payload_of}
use Rattle.usb.specs.Pid.{DATA0, SPLIT, MALFORMED}
use Rattle.usb.specs.Types.{Complete}
use Rattle.usb.specs.Fields.{split_of, setup_data_of}
use Rattle.transaction.specs.Table.{pick}
use Rattle.transaction.specs.Status.{transaction_status}
use Rattle.transaction.specs.Payload.{takes_setup, yields, extract_payload}
use Rattle.transaction.specs.declared.Transaction.{Transaction}
use Rattle.transaction.specs.declared.Style.{Style}
use Rattle.transaction.specs.declared.Style.TheVariants.{Nothing, Simple, Split, Token}
use Rattle.transaction.specs.declared.Status.{Status}
use Rattle.transaction.specs.declared.Status.TheVariants.{New, Continue, Retry, Done, Fail, Ambiguous, Invalid}
use Rattle.details.specs.Kind.{Unknown}
use Rattle.descriptors.specs.Kind.{kind_of}
use Rattle.descriptors.specs.Laid.{is_laid, laid}
use Rattle.endpoints.specs.declared.Endpoint.{Endpoint}
use Rattle.rules.specs.Rows.{TransactionRow, naming}
use Rattle.rules.specs.World.{World, ◌▷◌, invalid_ep, with_slot, with_transaction, with_shelf, with_transactions, push, with_id, with_pid, with_token, new_transaction}
use Rattle.rules.specs.Endpoints.{packet_endpoint, endpoint_of, detail_of, set_endpoint_type}
use Rattle.rules.specs.Groups.{link, group_update, group_early_append, group_early_start}
use Rattle.rules.specs.declared.Slot.{Slot}
use Rattle.rules.specs.declared.Slot.TheVariants.{Empty, Current, Suspended}

-- ---- fn transaction_end

-- if let Some(mut state) = self.transaction_state.take() && state.endpoint_id.is_some()
abbrev pub transaction_end_at : Slot → Bool → Bool → World → World
transaction_end_at Empty success complete w = w
transaction_end_at Current success complete w =
    w ▷ (λ v. pick (eqb v.transaction.endpoint 0) v (group_update v.transaction.endpoint success complete v))
    ▷ with_slot Empty
transaction_end_at Suspended success complete w = w

abbrev pub transaction_end : Bool → Bool → World → World
transaction_end success complete w = transaction_end_at w.slot success complete w

-- ---- fn transaction_append

-- where the style is a split without its token, the packet is that token
abbrev pub append_token : Style → ℕ → List ℕ → World → World
append_token Nothing pid packet w = w
append_token (Simple first) pid packet w = w
append_token (Split sc kind) pid packet w =
    let x = endpoint_of pid packet w in
    w ▷ packet_endpoint pid packet
    ▷ set_endpoint_type x kind
    ▷ with_transaction (with_token (Token sc kind pid) x w.transaction)
append_token (Token sc kind token) pid packet w = w

abbrev pub transaction_append : ℕ → List ℕ → World → World
transaction_append pid packet w =
    w ▷ append_token w.transaction.style pid packet
    ▷ λ v. with_transaction (with_pid pid v.transaction) v

-- ---- fn transaction_start

-- self.capture.transaction_index.push(packet_id), with the packet's reason (02, 1)
abbrev pub push_transaction : ℕ → World → World
push_transaction id w = w ▷ push (TransactionRow (naming id w.context.reason)) ▷ with_transactions (suc w.transactions)

abbrev pub begin : Transaction → World → World
begin t w = w ▷ with_transaction t ▷ with_slot Current

-- EndpointType::Normal(usb_ep_type) => Some(usb_ep_type), _ => None
abbrev pub type_of : ℕ → World → ℕ
type_of x w = pick (ltb (detail_of x w).kind Unknown) (detail_of x w).kind Unknown

-- a plain transaction with the number n, on the endpoint x
abbrev pub begin_on : ℕ → ℕ → ℕ → ℕ → World → World
begin_on x kind pid n w = w ▷ begin (new_transaction (Simple pid) n pid x kind) ▷ group_early_start pid x

abbrev pub begin_split : List ℕ → ℕ → ℕ → World → World
begin_split packet pid n w =
    w ▷ begin (new_transaction (Split (split_of packet).sc (split_of packet).kind) n pid 0 (split_of packet).kind)

abbrev pub begin_plain : ℕ → List ℕ → ℕ → World → World
begin_plain pid packet n w =
    let x = endpoint_of pid packet w in
    w ▷ packet_endpoint pid packet
    ▷ λ v. begin_on x (type_of x v) pid n v

abbrev pub transaction_start : ℕ → ℕ → List ℕ → World → World
transaction_start id pid packet w =
    let n = w.transactions in
    w ▷ push_transaction id
    ▷ λ v. pick (eqb pid MALFORMED) (begin_on invalid_ep Unknown pid n v)
    (pick (eqb pid SPLIT) (begin_split packet pid n v) (begin_plain pid packet n v))

-- ---- fn transaction_update

-- if let Some(mut transaction) = self.suspended_transaction.take()
abbrev pub resume_at : Slot → ℕ → World → World
resume_at Empty id w = w
resume_at Current id w = w
resume_at Suspended id w =
    w ▷ push_transaction id
    ▷ begin (with_id w.transactions w.transaction)
    ▷ link w.transaction.endpoint

-- self.transaction_state, with Nothing for None
abbrev pub state_at : Slot → Transaction → Transaction
state_at Empty t = new_transaction Nothing 0 0 0 Unknown
state_at Current t = t
state_at Suspended t = new_transaction Nothing 0 0 0 Unknown

abbrev pub is_retry : Status → Bool
is_retry New = false
is_retry Continue = false
is_retry Retry = true
is_retry Done = false
is_retry Fail = false
is_retry Ambiguous = false
is_retry Invalid = false

-- let complete = match &self.transaction_state
abbrev pub completes : Style → Status → Bool
completes Nothing s = false
completes (Simple first) s = true
completes (Split sc kind) s = eqb sc Complete && not (is_retry s)
completes (Token sc kind token) s = eqb sc Complete && not (is_retry s)

-- whether a packet brings a payload that is no setup data, as extract_payload tells it (transaction, Payload)
abbrev pub is_payload : Bool → Style → ℕ → Bool
is_payload high style pid = yields high pid && not (eqb pid DATA0 && takes_setup style)

-- 02, 2: "Control payloads are now kept": of an endpoint whose setup data are a read (descriptors, Laid); a split without its token has no endpoint yet
abbrev pub is_kept : Bool → Transaction → Endpoint → ℕ → Bool
is_kept high t e pid = is_payload high t.style pid && (not (eqb t.endpoint 0) && is_laid (kind_of e.setup))

-- behind the bytes of the request that count so far; it counts where the transaction's end counts it
abbrev pub shelf_with : Bool → Endpoint → List ℕ → List ℕ → List ℕ
shelf_with keeps e packet shelf = pick keeps (laid (e.device * 8192) e.payload (payload_of packet) shelf) shelf

abbrev pub keep_payload : Bool → ℕ → List ℕ → World → World
keep_payload high pid packet w =
    let e = w.endpoints w.transaction.endpoint in
    with_shelf (shelf_with (is_kept high w.transaction e pid) e packet w.shelf) w

-- state.extract_payload(pid, packet)
abbrev pub brought : Bool → ℕ → List ℕ → World → World
brought high pid packet w = with_transaction (extract_payload high w.transaction pid (length packet) (setup_data_of packet)) w

-- the same of a packet that the transaction goes on with: the Rust's payload: Vec<u8>, whose bytes a packet alone has
abbrev pub extracted : Bool → ℕ → List ℕ → World → World
extracted high pid packet w = w ▷ keep_payload high pid packet ▷ brought high pid packet

abbrev pub update_at : Bool → Status → ℕ → ℕ → List ℕ → Bool → World → World
update_at high New id pid packet complete w =
    w ▷ brought high pid packet ▷ transaction_end false false ▷ transaction_start id pid packet ▷ group_early_append
update_at high Continue id pid packet complete w = w ▷ extracted high pid packet ▷ transaction_append pid packet ▷ group_early_append
update_at high Retry id pid packet complete w = w ▷ extracted high pid packet ▷ transaction_append pid packet ▷ transaction_end true complete
update_at high Done id pid packet complete w = w ▷ extracted high pid packet ▷ transaction_append pid packet ▷ transaction_end true complete
update_at high Fail id pid packet complete w = w ▷ extracted high pid packet ▷ transaction_append pid packet ▷ transaction_end false complete
update_at high Ambiguous id pid packet complete w = w ▷ extracted high pid packet ▷ transaction_append pid packet
update_at high Invalid id pid packet complete w = w ▷ transaction_start id pid packet ▷ transaction_end false false

abbrev pub update_from : Bool → ℕ → List ℕ → World → World
update_from high id packet w =
    let t = state_at w.slot w.transaction in
    let j = transaction_status high t packet in
    update_at high j.status id j.pid packet (completes t.style j.status) w

-- the suspended transaction has no endpoint: the Rust's only error, and 01's answer 8
abbrev pub is_dropped : Slot → Transaction → Bool
is_dropped Empty t = false
is_dropped Current t = false
is_dropped Suspended t = eqb t.endpoint 0

unfoldable pub transaction_update : Bool → ℕ → List ℕ → World → World
transaction_update high id packet w =
    pick (is_dropped w.slot w.transaction)
    (with_slot Empty w)
    (w ▷ resume_at w.slot id ▷ update_from high id packet)
