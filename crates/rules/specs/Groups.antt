-- To be believed: the functions of decoder.rs from group_early_start on: groups, their rows, states and items. A function stands below those that it calls.
-- Hold it to: group_early_start, group_early_append, group_update, group_start, group_append, group_end, add_group, add_group_entry, add_endpoint_state, add_item of decoder.rs; 02, 2: "When a standard GET_DESCRIPTOR completes" and on; 02, 9: "A group row shall also hold the packet number and time of the call that wrote it"
use Rattle.std.specs.Prelude.{Bool, true, false, ◌&&◌, ◌||◌, not, List, [], ◌∷◌, ℕ, zero, suc, pred, ◌+◌, ◌*◌, eqb}
use Rattle.usb.specs.Pid.{SETUP, IN, OUT, SOF, MALFORMED}
use Rattle.transaction.specs.Table.{pick, only, ◌or◌}
use Rattle.transaction.specs.Payload.{start_pid}
use Rattle.endpoints.specs.States.{next_state}
use Rattle.endpoints.specs.Table.{with_phase, with_state}
use Rattle.endpoints.specs.declared.Endpoint.{Endpoint}
use Rattle.endpoints.specs.declared.Phase.{Phase}
use Rattle.endpoints.specs.declared.Phase.TheVariants.{None, Early, Active, Ended}
use Rattle.details.specs.declared.Device.{Device}
use Rattle.descriptors.specs.Complete.{note_by, row_by, shelf_by}
use Rattle.descriptors.specs.declared.complete.Asked.{Asked}
use Rattle.group.specs.Step.{is_active}
use Rattle.group.specs.Group.{group_status}
use Rattle.group.specs.declared.GroupStatus.{GroupStatus}
use Rattle.group.specs.declared.GroupStatus.TheVariants.{Single, New, Continue, Retry, Done, Invalid}
use Rattle.group.specs.declared.Grouped.{Grouped}
use Rattle.group.specs.declared.Effect.{Effect}
use Rattle.group.specs.declared.Effect.TheVariants.{NoEffect, NewDevice, Request, PendingData, IndexData}
use Rattle.rules.specs.Rows.{Row, GroupRow, grouping, StateRow, StateBytes, ItemRow, T, G, D, E, RequestRow, asking, Over}
use Rattle.rules.specs.World.{World, ◌▷◌, event_ep, phase, last_group, with_endpoints, with_transaction, with_last_item, with_groups, with_state_bytes, with_items, with_journal, with_shelf, push, change, change_device, more_transactions, more_groups, with_group, with_last, cleared, with_pending, with_total, with_link}
use Rattle.rules.specs.Endpoints.{add_device, detail_of}

-- ---- fn add_item

-- ended.take()
abbrev pub close_phase : Phase → Phase
close_phase None = None
close_phase Early = Early
close_phase Active = Active
close_phase Ended = None

-- writer.end_index.push(item_id), where a group has ended
abbrev pub close_row : Phase → ℕ → ℕ → List Row → List Row
close_row None x i js = js
close_row Early x i js = js
close_row Active x i js = js
close_row Ended x i js = E x i ∷ js

-- for i in 0..endpoint_count
abbrev pub close_rows : ℕ → ℕ → (ℕ → Endpoint) → List Row → List Row
close_rows zero i f js = js
close_rows (suc n) i f js = close_row (f n).phase n i (close_rows n i f js)

abbrev pub link_ended : ℕ → World → World
link_ended i w =
    w ▷ with_journal (close_rows w.count i w.endpoints w.journal)
    ▷ with_endpoints (λ j. with_phase (close_phase (w.endpoints j).phase) (w.endpoints j))

-- of the group row just added
abbrev pub add_item : ℕ → World → World
add_item x w =
    w ▷ push (ItemRow (pred w.groups))
    ▷ with_items (suc w.items)
    ▷ with_last_item x
    ▷ link_ended w.items

-- ---- fn add_endpoint_state

-- the states of n endpoints from i on
abbrev pub states_from : (ℕ → Endpoint) → ℕ → ℕ → List ℕ
states_from f i zero = []
states_from f i (suc n) = (f i).state ∷ states_from f (suc i) n

abbrev pub push_states : World → World
push_states w =
    w ▷ push (StateBytes (states_from w.endpoints 0 w.count))
    ▷ push (StateRow w.state_bytes)
    ▷ with_state_bytes (w.state_bytes + w.count)

abbrev pub add_endpoint_state : ℕ → Bool → World → World
add_endpoint_state x start w =
    w ▷ with_endpoints (λ j. with_state (next_state (eqb j x) (eqb x event_ep) start (w.endpoints j).state) (w.endpoints j))
    ▷ push_states

-- ---- fn add_group_entry, of the endpoint's last group

abbrev pub add_group_entry : ℕ → Bool → World → World
add_group_entry x start w =
    w ▷ add_endpoint_state x start
    ▷ push (GroupRow (grouping x (last_group x w) start w.context))
    ▷ with_groups (suc w.groups)

-- ---- fn add_group; what becomes of the new group is said by its callers

-- writer.transaction_ids.push(transaction.id)
abbrev pub link : ℕ → World → World
link x w =
    w ▷ push (T x w.transaction.id)
    ▷ with_transaction (with_link (w.endpoints x).transactions w.transaction)
    ▷ change x more_transactions

-- where ep_transaction_id is none
abbrev pub link_once : ℕ → World → World
link_once x w = pick w.transaction.linked w (link x w)

-- writer.group_index.push(ep_transaction_id)
abbrev pub push_group : ℕ → ℕ → World → World
push_group x t w = w ▷ push (G x t) ▷ change x more_groups

-- ended = Some(..), of the early or active group
abbrev pub over : ℕ → World → World
over x w = w ▷ push (Over x (last_group x w)) ▷ change x (with_phase Ended)

-- if let Some(group) = ep_data.active.take()
abbrev pub end_active : Phase → ℕ → World → World
end_active None x w = w
end_active Early x w = w
end_active Active x w = w ▷ over x ▷ add_group_entry x false
end_active Ended x w = w

abbrev pub add_group : ℕ → World → World
add_group x w =
    w ▷ end_active (phase x w) x
    ▷ link_once x
    ▷ (λ v. push_group x v.transaction.link v)
    ▷ add_group_entry x true
    ▷ add_item x

-- ---- fn group_end

-- if let Some(group) = ep_data.active.take(); an item only where the last one was another endpoint's
abbrev pub group_end_at : Phase → ℕ → World → World
group_end_at None x w = w
group_end_at Early x w = w
group_end_at Active x w =
    w ▷ over x
    ▷ add_group_entry x false
    ▷ λ v. pick (eqb v.last_item x) v (add_item x v)
group_end_at Ended x w = w

abbrev pub group_end : ℕ → World → World
group_end x w = w ▷ change x cleared ▷ group_end_at (phase x w) x

-- ---- fn group_start

-- active = Some(GroupState ..); payload.clear()
abbrev pub activated : Bool → ℕ → Endpoint → Endpoint
activated done pid a = a ▷ with_phase Active ▷ with_group pid done ▷ cleared

abbrev pub activate : Bool → ℕ → World → World
activate done x w = change x (activated done (start_pid w.transaction.style)) w

-- early_start.take(), or add_group
abbrev pub group_start_at : Phase → Bool → ℕ → World → World
group_start_at None done x w = w ▷ add_group x ▷ activate done x
group_start_at Early done x w = w ▷ activate done x
group_start_at Active done x w = w ▷ add_group x ▷ activate done x
group_start_at Ended done x w = w ▷ add_group x ▷ activate done x

abbrev pub group_start : Bool → ℕ → World → World
group_start done x w = group_start_at (phase x w) done x w

-- ---- fn group_append

-- if let Some(group) = &mut ep_data.active
abbrev pub group_append_at : Phase → Bool → ℕ → World → World
group_append_at None done x w = w ▷ group_start done x
group_append_at Early done x w = w ▷ group_start done x
group_append_at Active done x w =
    w ▷ link_once x
    ▷ λ v. pick done (change x (with_last (start_pid v.transaction.style)) v) v
group_append_at Ended done x w = w ▷ group_start done x

abbrev pub group_append : Bool → ℕ → World → World
group_append done x w = group_append_at (phase x w) done x w

-- ---- fn group_update

abbrev pub group_step : GroupStatus → ℕ → World → World
group_step Single x w = w ▷ group_start true x ▷ group_end x
group_step New x w = w ▷ group_start true x
group_step Continue x w = w ▷ group_append true x
group_step Retry x w = w ▷ group_append false x
group_step Done x w = w ▷ group_append true x ▷ group_end x
group_step Invalid x w = w ▷ group_start false x ▷ group_end x

-- where the Rust calls decode_request: what is asked (descriptors, Complete), by the setup data, the payload's length, the number of the device, and its row. A
-- device's part of the shelf begins at 8,192 times its number
abbrev pub asked_at : ℕ → ℕ → ℕ → Device → Asked
asked_at setup n number d = record { setup = setup; length = n; start = number * 8192; kept = d.kept; chosen = d.chosen }

-- on the endpoint x
abbrev pub asked_of : ℕ → ℕ → World → Asked
asked_of n x w = asked_at (w.endpoints x).setup n (w.endpoints x).device (w.devices (w.endpoints x).device)

-- fn decode_request, in the words of 02, 2: "a note of what was taken", the device's row and the shelf, each by what stood there before it
abbrev pub decode_request : ℕ → ℕ → World → World
decode_request n x w =
    w ▷ push (RequestRow (asking x (w.endpoints x).setup n (note_by (asked_of n x w) w.shelf)))
    ▷ change_device (w.endpoints x).device (row_by (asked_of n x w) w.shelf)
    ▷ with_shelf (shelf_by (asked_of n x w) w.shelf)

-- where the Rust calls decode_request, a request row (01, What moves over); a waiting payload is counted under its own T row
abbrev pub effect_step : Effect → ℕ → World → World
effect_step NoEffect x w = w
effect_step (NewDevice address) x w = w ▷ add_device address
effect_step (Request n) x w = w ▷ decode_request n x
effect_step (PendingData n) x w = w ▷ change x (with_pending n w.transaction.link)
effect_step (IndexData n waited i) x w =
    w ▷ push (D x (pick waited i w.transaction.link) (w.endpoints x).total)
    ▷ change x (with_total ((w.endpoints x).total + n))

abbrev pub grouped : ℕ → Bool → Bool → World → Grouped
grouped x success complete w = group_status (w.endpoints x) w.transaction (detail_of x w) success complete

-- the endpoint as group_status leaves it
abbrev pub becomes : Endpoint → Endpoint → Endpoint
becomes b a = b

unfoldable pub group_update : ℕ → Bool → Bool → World → World
group_update x success complete w =
    let r = grouped x success complete w in
    w ▷ change x (becomes r.endpoint)
    ▷ group_step r.status x
    ▷ effect_step r.effect x

-- ---- fn group_early_append

-- IN and OUT groups may start and end depending on what becomes of the transaction
abbrev pub undecided : Endpoint → Bool
undecided a = is_active a.phase && (IN or only OUT) a.first

-- a split without its token has no endpoint yet
unfoldable pub group_early_append : World → World
group_early_append w =
    pick (eqb w.transaction.endpoint 0 || undecided (w.endpoints w.transaction.endpoint))
    w
    (link_once w.transaction.endpoint w)

-- ---- fn group_early_start

-- SETUP always; the other four where no group is active
abbrev pub starts_early : ℕ → Phase → Bool
starts_early pid p = eqb pid SETUP || ((IN or OUT or SOF or only MALFORMED) pid && not (is_active p))

-- if let Some(ep_group_id) = ep_data.early_start
abbrev pub end_early : Phase → ℕ → World → World
end_early None x w = w
end_early Early x w = w ▷ over x
end_early Active x w = w
end_early Ended x w = w

unfoldable pub group_early_start : ℕ → ℕ → World → World
group_early_start pid x w =
    pick (starts_early pid (phase x w))
    (w ▷ end_early (phase x w) x
    ▷ add_group x
    ▷ change x (with_phase Early))
    w
