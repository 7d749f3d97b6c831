use Rattle.std.proofs.Common.{◌≡◌, ℕ, ◌<◌, Bool, false, not, ◌&&◌, eqb, ap, ◌∙◌}
use Rattle.endpoints.specs.Table.{entry_at}
use Rattle.details.specs.declared.Detail.{Detail}
use Rattle.record.specs.World.{world_of}
use Rattle.update.specs.Entry.{link_words}
use Rattle.plan.specs.Step.{end_of}
use Rattle.plan.specs.Packet.{entry_then, end_if}
use Rattle.plan.specs.Words.{in_words}
use Rattle.plan.proofs.Words.{word-entry}
use Rattle.decide.proofs.Planned.{planned, then-words}
use Rattle.decide.proofs.plan_by.Goals as goal
use Rattle.std.proofs.Common.{◌-◌}

pub returns : goal.returns
returns c v seen = let stored-words : (i : ℕ) → i < c.args.d.counts.endpoints → in_words (entry_at c.args.table.now i) ≡ entry_at c.args.table.now i = λ i h. let k = c.requires.ready.entries i h in word-entry k.transactions k.groups in
    let resumed : c.link_entry-e.result ≡ in_words (entry_then c.args.d.slot c.args.stored) = let s = c in
    c.link_entry-e.ensures ∙ (ap (λ (b : Bool). link_words b s.args.stored) c.is_suspended.ensures ∙ then-words s.args.d.slot s.args.stored s.requires.transactions_bound s.requires.groups_bound) in
    let p = c in
    let s = p.args in
    planned s.d.high s.j s.x0 (entry_then s.d.slot s.stored) s.t s.packet.now (world_of s.d v s.table.now) p.requires.ready.three (stored-words) p.requires.x0_lt_endpoints
    (resumed)
    c.setup_of.ensures
    c.extract_payload-brought.ensures
    c.is_new.ensures
    (c.decided_end-end.ensures ∙ ap (λ (k : Detail). end_if (c.is_new.result && not (eqb s.x0 0)) (end_of s.x0 c.link_entry-e.result c.extract_payload-brought.result k s.d.last false false) c.link_entry-e.result) seen.old)
    c.start_pid.ensures
    c.entry_ended-e0.ensures
    c.last_ended-last.ensures
    c.next_row-n.ensures
    (c.middle_of-m.ensures v seen)
    c.is_suspended-2.ensures
    c.resume_of.ensures
    c.is_last.ensures
    c.is_success.ensures
    c.completes_by.ensures
    c.close_if.ensures
    c.slot_by.ensures
