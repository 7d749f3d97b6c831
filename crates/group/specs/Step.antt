-- To be believed: Document 000, group_status: what its rules go by, and what a payload comes to.
-- Hold it to: group_status of decoder.rs, what it takes before its match; 01, "Rules of a group": "Short means ..", payloads that wait
use Rattle.std.specs.Prelude.{ℕ, Bool, true, false, not, ◌&&◌, ◌==◌, nat_lt}
use Rattle.usb.specs.Pid.{OUT}
use Rattle.usb.specs.Types.{Start, Isochronous}
use Rattle.details.specs.declared.Detail.{Detail}
use Rattle.endpoints.specs.declared.Endpoint.{Endpoint}
use Rattle.endpoints.specs.declared.Phase.{Phase}
use Rattle.endpoints.specs.declared.Phase.TheVariants.{None, Early, Active, Ended}
use Rattle.transaction.specs.Table.{pick}
use Rattle.transaction.specs.Payload.{start_pid}
use Rattle.transaction.specs.declared.Style.{Style}
use Rattle.transaction.specs.declared.Style.TheVariants.{Nothing, Simple, Split, Token}
use Rattle.transaction.specs.declared.Transaction.{Transaction}
use Rattle.endpoints.specs.Table.{make_endpoint}
use Rattle.group.specs.declared.step.Payload.{Payload}
use Rattle.group.specs.declared.step.Step.{Step}
use Rattle.group.specs.declared.GroupStatus.{GroupStatus}
use Rattle.group.specs.declared.Grouped.{Grouped}
use Rattle.group.specs.declared.Effect.{Effect}
use Rattle.group.specs.declared.Effect.TheVariants.{NoEffect, PendingData, IndexData}

abbrev pub is_active : Phase → Bool
is_active None = false
is_active Early = false
is_active Active = true
is_active Ended = false

-- split_sc: the SC of a split, and 2 of any other transaction
abbrev pub split_sc : Style → ℕ
split_sc Nothing = 2
split_sc (Simple pid) = 2
split_sc (Split sc kind) = sc
split_sc (Token sc kind pid) = sc

abbrev pub payload : Bool → ℕ → Bool → ℕ → Payload
payload k n w i = record { known = k; len = n; waited = w; id = i }

-- the transaction's own, or else the one that waits
abbrev pub payload_of : Endpoint → Transaction → Payload
payload_of e t =
    pick t.filled (payload true t.payload false 0)
    (pick e.pending (payload true e.pendinglength true e.pendinglink) (payload false 0 false 0))

-- 01, Rules of a group: payload known, max known, length below max
abbrev pub is_short : Bool → ℕ → ℕ → Bool
is_short known len max = known && (not (max == 0) && nat_lt len max)

abbrev pub step_of : Endpoint → Transaction → Detail → Bool → Bool → Step
step_of e t d success complete = record {
  kind = d.kind;
  sc = split_sc t.style;
  next = start_pid t.style;
  known = (payload_of e t).known;
  len = (payload_of e t).len;
  waited = (payload_of e t).waited;
  id = (payload_of e t).id;
  short = is_short (payload_of e t).known (payload_of e t).len d.max;
  success = success;
  complete = complete;
}

-- the endpoint with these five fields; group_status changes no other
abbrev pub changed : Endpoint → Bool → Bool → ℕ → ℕ → Bool → Endpoint
changed e success ready setup payload pending = make_endpoint e.device e.address e.phase e.state e.transactions e.groups e.total e.first
    e.done e.last success ready setup payload pending e.pendinglength e.pendinglink

-- pending_payload is taken, used or not
abbrev pub taken : Endpoint → Endpoint
taken e = changed e e.success e.ready e.setup e.payload false

-- a short packet closes a group, but on an isochronous endpoint
abbrev pub closes_of : Step → Bool
closes_of s = s.short && not (s.kind == Isochronous)

-- a start-split OUT's payload waits
abbrev pub waits_of : Step → Bool
waits_of s = s.sc == Start && s.next == OUT

abbrev pub data_effect : Step → Bool → Effect
data_effect s counts =
    pick s.known
    (pick (waits_of s) (PendingData s.len) (pick counts (IndexData s.len s.waited s.id) NoEffect))
    NoEffect

-- of a transaction that went well
abbrev pub effect_of : Step → Bool → Effect
effect_of s counts = pick s.success (data_effect s counts) NoEffect

abbrev pub grouped : GroupStatus → Effect → Endpoint → Grouped
grouped s f e = record { status = s; effect = f; endpoint = e }
