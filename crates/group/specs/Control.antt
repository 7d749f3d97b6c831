-- To be believed: Document 000, group_status: control transfers (USB 2.0, 8.5.3), in the Rust's order.
-- Hold it to: group_status of decoder.rs, its arms for control transfers (scripts/rows compares the rows); USB 2.0, 8.5.3
use Rattle.std.specs.Prelude.{ℕ, ◌+◌, ◌%◌, ◌^◌, Bool, true, ◌&&◌, List, [], ◌∷◌, ◌==◌}
use Rattle.usb.specs.Pid.{SETUP, IN, OUT, PING}
use Rattle.usb.specs.Types.{Complete}
use Rattle.endpoints.specs.declared.Endpoint.{Endpoint}
use Rattle.transaction.specs.Table.{pick, Row, ◌gives◌, only, look}
use Rattle.transaction.specs.declared.Transaction.{Transaction}
use Rattle.group.specs.Setup.{direction, request_type, b_request, address_of, with_data}
use Rattle.group.specs.Step.{grouped, changed, data_effect}
use Rattle.group.specs.declared.step.Step.{Step}
use Rattle.group.specs.declared.control.Stage.{Stage}
use Rattle.group.specs.declared.control.Stage.TheVariants.{Data, Status, Ping, Wrong}
use Rattle.group.specs.declared.GroupStatus.TheVariants.{New, Continue, Retry, Done, Invalid}
use Rattle.group.specs.declared.Grouped.{Grouped}
use Rattle.group.specs.declared.Effect.{Effect}
use Rattle.group.specs.declared.Effect.TheVariants.{NoEffect, NewDevice, Request, PendingData, IndexData}

abbrev pub with_setup : Endpoint → Bool → ℕ → Endpoint
with_setup e r s = changed e e.success r s e.payload e.pending

abbrev pub with_payload : Endpoint → ℕ → Endpoint
with_payload e n = changed e e.success e.ready e.setup n e.pending

-- a SETUP starts a control transfer, and its bytes are kept; a complete split goes on with it
unfoldable pub setup_group : Endpoint → Transaction → Step → Grouped
setup_group e t s =
    pick (s.sc == Complete) (grouped Continue NoEffect e) (grouped New NoEffect (with_setup e t.ready t.setup))

abbrev pub Out : ℕ
Out = 0

abbrev pub In : ℕ
In = 1

abbrev pub no : ℕ
no = 0

abbrev pub yes : ℕ
yes = 1

-- by the request's direction, whether it has data, the last token and the next
abbrev pub stage_rows : List (Row Stage)
stage_rows =
    (only In ∷ only yes ∷ only SETUP ∷ only IN ∷ []) gives Data
    ∷ (only Out ∷ only yes ∷ only SETUP ∷ only OUT ∷ []) gives Data
    ∷ (only In ∷ only yes ∷ only IN ∷ only IN ∷ []) gives Data
    ∷ (only Out ∷ only yes ∷ only OUT ∷ only OUT ∷ []) gives Data
    ∷ (only In ∷ only no ∷ only SETUP ∷ only OUT ∷ []) gives Status
    ∷ (only Out ∷ only no ∷ only SETUP ∷ only IN ∷ []) gives Status
    ∷ (only In ∷ only yes ∷ only IN ∷ only OUT ∷ []) gives Status
    ∷ (only Out ∷ only yes ∷ only OUT ∷ only IN ∷ []) gives Status
    ∷ (only Out ∷ only yes ∷ only SETUP ∷ only PING ∷ []) gives Ping
    ∷ (only Out ∷ only yes ∷ only OUT ∷ only PING ∷ []) gives Ping
    ∷ (only In ∷ only no ∷ only SETUP ∷ only PING ∷ []) gives Ping
    ∷ (only In ∷ only yes ∷ only IN ∷ only PING ∷ []) gives Ping
    ∷ []

abbrev pub stage_of : ℕ → ℕ → ℕ → ℕ → Stage
stage_of dir size last next = look stage_rows Wrong (dir ∷ size ∷ last ∷ next ∷ [])

-- USB 2.0, tables 9-2 and 9-4: a standard request with b_request 5 is SET_ADDRESS
abbrev pub is_set_address : ℕ → Bool
is_set_address setup = request_type setup == 0 && b_request setup == 5

-- SET_ADDRESS makes a device; any other request has a row
abbrev pub outcome_of : Endpoint → Effect
outcome_of e = pick (is_set_address e.setup) (NewDevice (address_of e.setup)) (Request e.payload)

abbrev pub counted_of : Effect → ℕ
counted_of NoEffect = 0
counted_of (NewDevice a) = 0
counted_of (Request n) = 0
counted_of (PendingData n) = 0
counted_of (IndexData n w i) = n

-- a counted payload adds to the request's; a sum of 2 ^ 64 or more, which no packet log has room for, is taken modulo 2 ^ 64
abbrev pub data_stage : Endpoint → Step → Grouped
data_stage e s =
    pick s.success
    (grouped Continue (data_effect s true) (with_payload e ((e.payload + counted_of (data_effect s true)) % 2 ^ 64)))
    (grouped Retry NoEffect e)

abbrev pub status_stage : Endpoint → Step → Grouped
status_stage e s = pick (s.success && s.complete) (grouped Done (outcome_of e) e) (grouped Retry NoEffect e)

abbrev pub at_stage : Stage → Endpoint → Step → Grouped
at_stage Data e s = data_stage e s
at_stage Status e s = status_stage e s
at_stage Ping e s = grouped Retry NoEffect e
at_stage Wrong e s = grouped Invalid NoEffect e

-- no control transaction is valid unless setup was done
unfoldable pub control_group : Endpoint → Step → Grouped
control_group e s =
    pick e.ready
    (at_stage (stage_of (direction e.setup) (with_data e.setup) e.last s.next) e s)
    (grouped Invalid NoEffect e)
