use Rattle.call.specs.State.{room_by}
use Rattle.listing.proofs.Shown.{has-rows, text-room, shows}
use Rattle.listing.proofs.show.Goals as goal

-- the run leaves the logs as long as they were
pub report-requires : goal.report-requires
report-requires c =
    let r = c.run-r.auto in
    record {
      listable = has-rows c.run-r.ensures c.count_details.ensures;
      room =
          text-room c.run-r.ensures c.count_details.ensures c.args.out.now
          (λ i. room_by (r.bytes i) (r.device_rows i) (r.endpoint_rows i) (r.packets i) (r.events i) (r.transactions i) (r.groups i) (r.statebytes i) (r.states i) (r.items i) (r.links i) (r.requests i))
          c.requires;
    }

pub returns : goal.returns
returns c =
    let r = c.run-r.auto in
    shows c.run-r.ensures c.count_details.ensures
    (text-room c.run-r.ensures c.count_details.ensures c.args.out.now
    (λ i. room_by (r.bytes i) (r.device_rows i) (r.endpoint_rows i) (r.packets i) (r.events i) (r.transactions i) (r.groups i) (r.statebytes i) (r.states i) (r.items i) (r.links i) (r.requests i))
    c.requires)
    c.report.ensures
