-- To be believed: Document 000, group_status: transactions that belong to no control transfer, in the Rust's order.
-- Hold it to: group_status of decoder.rs, its other arms (scripts/rows compares the rows)
use Rattle.std.specs.Prelude.{Bool, true, false, not, ◌&&◌, List, [], ◌∷◌, ◌==◌}
use Rattle.usb.specs.Pid.{IN, OUT, PING, SOF}
use Rattle.details.specs.Kind.{Framing}
use Rattle.endpoints.specs.declared.Endpoint.{Endpoint}
use Rattle.transaction.specs.Table.{pick, Row, ◌gives◌, ◌when◌, any, only, ◌or◌, look}
use Rattle.group.specs.Step.{grouped, changed, closes_of, effect_of}
use Rattle.group.specs.declared.step.Step.{Step}
use Rattle.group.specs.declared.GroupStatus.{GroupStatus}
use Rattle.group.specs.declared.GroupStatus.TheVariants.{Single, New, Continue, Retry, Done, Invalid}
use Rattle.group.specs.declared.Grouped.{Grouped}
use Rattle.group.specs.declared.Effect.TheVariants.{NoEffect}

abbrev pub with_success : Endpoint → Bool → Endpoint
with_success e b = changed e b e.ready e.setup e.payload e.pending

-- a new transfer, ended at once by a short packet, or a new polling group
abbrev pub begin_status : Bool → Bool → GroupStatus
begin_status closes success = pick (success && closes) Single New

abbrev pub differ : Bool → Bool → Bool
differ true b = not b
differ false b = b

-- where success has changed, a group begins; else a transfer goes on until a short packet, or a polling group goes on
abbrev pub repeat_status : Bool → Bool → Bool → GroupStatus
repeat_status closes success before =
    pick (differ success before) (begin_status closes success) (pick success (pick closes Done Continue) Retry)

-- IN or OUT with no group active; where it is not complete, it waits for the complete split
unfoldable pub begin_group : Endpoint → Step → Grouped
begin_group e s =
    pick s.complete
    (grouped (begin_status (closes_of s) s.success) (effect_of s true) (with_success e s.success))
    (grouped New (effect_of s true) e)

-- IN or OUT again; its payload counts where it is complete
unfoldable pub repeat_group : Endpoint → Step → Grouped
repeat_group e s =
    pick s.complete
    (grouped (repeat_status (closes_of s) s.success e.success) (effect_of s s.complete) (with_success e s.success))
    (grouped Retry (effect_of s s.complete) e)

-- by the endpoint's type and the token; a guard says what group must be active
abbrev pub other_rows : Bool → Endpoint → Step → List (Row Grouped)
other_rows active e s =
    -- IN or OUT with no group in progress
    (any ∷ IN or only OUT ∷ []) gives begin_group e s when not active
    -- IN or OUT again
    ∷ (any ∷ only IN ∷ []) gives repeat_group e s when (active && e.first == IN)
    ∷ (any ∷ only OUT ∷ []) gives repeat_group e s when (active && e.first == OUT)
    -- PING after OUT
    ∷ (any ∷ only PING ∷ []) gives grouped Retry NoEffect e when (active && e.first == OUT)
    -- the first SOF, and further ones
    ∷ (only Framing ∷ only SOF ∷ []) gives grouped New NoEffect e when not active
    ∷ (only Framing ∷ only SOF ∷ []) gives grouped Continue NoEffect e
    ∷ []

unfoldable pub other_group : Bool → Endpoint → Step → Grouped
other_group active e s = look (other_rows active e s) (grouped Invalid NoEffect e) (s.kind ∷ s.next ∷ [])
