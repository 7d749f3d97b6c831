-- Inner (cited by private contracts alone): what a step does to a world (rules, World), in the functions of the rules.
use Rattle.std.specs.Prelude.{Bool, ℕ, eqb}
use Rattle.details.specs.declared.Detail.{Detail}
use Rattle.endpoints.specs.declared.Endpoint.{Endpoint}
use Rattle.transaction.specs.declared.Transaction.{Transaction}
use Rattle.group.specs.Group.{group_status}
use Rattle.group.specs.declared.Grouped.{Grouped}
use Rattle.rules.specs.World.{World, ◌▷◌, with_transaction, change, change_device}
use Rattle.rules.specs.Endpoints.{add_device, push_endpoint, typed}
use Rattle.rules.specs.Groups.{becomes, effect_step}
use Rattle.rules.specs.Transactions.{push_transaction}
use Rattle.update.specs.Update.{when, act, decide_update}
use Rattle.plan.specs.declared.Begin.{Begin}
use Rattle.plan.specs.declared.End.{End}

-- the rows and the device of a step that begins, by the packet in row id
unfoldable pub opened : ℕ → Begin → World → World
opened id s w =
    w ▷ when s.row (push_transaction id)
    ▷ when s.device (add_device s.owner)
    ▷ when s.endpoint (push_endpoint s.place s.number)
    ▷ when s.types (change_device s.place (typed s.number s.kind))

-- then the transaction, and what is done to its endpoint
unfoldable pub begun : ℕ → Begin → World → World
begun id s w =
    w ▷ opened id s
    ▷ with_transaction s.transaction
    ▷ act s.update s.transaction.endpoint

-- a transaction on endpoint x ends
unfoldable pub ended : ℕ → End → World → World
ended x s w =
    w ▷ change x (becomes s.entry)
    ▷ act s.update x
    ▷ effect_step s.effect x

-- the end, by what group_status says, and the last item's endpoint
abbrev pub end_by : ℕ → Transaction → ℕ → Grouped → End
end_by x t last g =
    record {
      entry = g.endpoint;
      update = decide_update g.status g.endpoint.phase t.linked (eqb last x);
      effect = g.effect;
    }

-- of a transaction t on the endpoint x with the entry e and the detail d
unfoldable pub end_of : ℕ → Endpoint → Transaction → Detail → ℕ → Bool → Bool → End
end_of x e t d last success complete = end_by x t last (group_status e t d success complete)
