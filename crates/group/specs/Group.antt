-- To be believed: Document 000, group_status: what the end of a transaction means for the groups of its endpoint.
-- Hold it to: group_status of decoder.rs, the order of its arms
use Rattle.std.specs.Prelude.{Bool, ◌&&◌, List, [], ◌∷◌}
use Rattle.usb.specs.Pid.{SETUP}
use Rattle.usb.specs.Types.{Control}
use Rattle.details.specs.declared.Detail.{Detail}
use Rattle.endpoints.specs.declared.Endpoint.{Endpoint}
use Rattle.transaction.specs.Table.{Row, ◌gives◌, ◌when◌, any, only, look}
use Rattle.transaction.specs.declared.Transaction.{Transaction}
use Rattle.group.specs.Step.{is_active, step_of, taken}
use Rattle.group.specs.Control.{setup_group, control_group}
use Rattle.group.specs.Data.{other_group}
use Rattle.group.specs.declared.step.Step.{Step}
use Rattle.group.specs.declared.Grouped.{Grouped}

-- by the endpoint's type and the token
abbrev pub group_rows : Bool → Endpoint → Transaction → Step → List (Row Grouped)
group_rows active e t s =
    -- a SETUP starts a control transfer
    (only Control ∷ only SETUP ∷ []) gives setup_group e t s
    -- a control transfer in which a transaction went well
    ∷ (only Control ∷ any ∷ []) gives control_group e s when (active && e.done)
    ∷ []

-- the rows of the Rust's match: these, then those of other_rows
abbrev pub group_at : Bool → Endpoint → Transaction → Step → Grouped
group_at active e t s = look (group_rows active e t s) (other_group active e s) (s.kind ∷ s.next ∷ [])

unfoldable pub group_status : Endpoint → Transaction → Detail → Bool → Bool → Grouped
group_status e t d success complete =
    group_at (is_active e.phase) (taken e) t (step_of e t d success complete)
