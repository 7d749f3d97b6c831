use Rattle.rows.proofs.FlagLaws.{from-one}
use native.Mathlib.Omega.{arith}
use Prim.Native.Nat.{◌+◌, ◌≤◌, ◌^◌}
use Rattle.rows.specs.One.{one}
use Rattle.tally.specs.Tallies.{endpoints_then, tally_begin, tally_end, tally_plan}
use Rattle.update.specs.Update.{when}
use Rattle.tally.proofs.Bounds.{Small, small-none, more, looser, packet_small, begin_small, end_small}
use Rattle.tally.proofs.tally_plan.Goals.{then-p, else-p, then-p-2, else-p-2}
use Rattle.tally.proofs.tally_plan.Goals as goal
use Rattle.std.proofs.Common.{Bool, ℕ, ap, sym, ◌≡◌, ◌∙◌}

pub tally_end-t-requires-clause-within : goal.tally_end-t-requires-clause-within
tally_end-t-requires-clause-within c = let few : c.args.endpoints ≤ 128 = omega (arith, c.requires.endpoints_bound) in
    let resume-few : endpoints_then c.args.p.resume c.args.endpoints ≤ 128 = let e = ap one c.requires.endpoint_value in omega (arith, e, few) in
    let small1 : Small (c.args.waiting + 4096) c.add_packet.new.self = rw (c.add_packet.ensures, c.tally_none-t.ensures) (packet_small (small-none c.args.waiting) c.args.len c.requires.len_bound) in
    let small2 : Small (c.args.waiting + 8192) c.if-p.t = elim c.if-p.branch [ then-p w ↦ rw (w.t-is ∙ w.tally_begin-t.ensures) (more (begin_small small1 c.args.p.resume c.args.endpoints resume-few) (c.args.waiting + 8192) (omega arith)) | else-p w ↦ rw w.t-is (more small1 (c.args.waiting + 8192) (omega arith)) ] in
    looser small2 (2 ^ 40) (let l = c.requires.waiting_bound in omega (arith, l))

pub tally_begin-t-requires-2-clause-within : goal.tally_begin-t-requires-2-clause-within
tally_begin-t-requires-2-clause-within c = let few : c.args.endpoints ≤ 128 = omega (arith, c.requires.endpoints_bound) in
    let resume-few : endpoints_then c.args.p.resume c.args.endpoints ≤ 128 = let e = ap one c.requires.endpoint_value in omega (arith, e, few) in
    let small1 : Small (c.args.waiting + 4096) c.add_packet.new.self = rw (c.add_packet.ensures, c.tally_none-t.ensures) (packet_small (small-none c.args.waiting) c.args.len c.requires.len_bound) in
    let small2 : Small (c.args.waiting + 8192) c.if-p.t = elim c.if-p.branch [ then-p w ↦ rw (w.t-is ∙ w.tally_begin-t.ensures) (more (begin_small small1 c.args.p.resume c.args.endpoints resume-few) (c.args.waiting + 8192) (omega arith)) | else-p w ↦ rw w.t-is (more small1 (c.args.waiting + 8192) (omega arith)) ] in
    let small3 : Small (c.args.waiting + 12288) c.if-p-2.t = elim c.if-p-2.branch [ then-p-2 w ↦ rw (w.t-is ∙ w.tally_end-t.ensures) (more (end_small small2 c.args.p.end c.args.endpoints few) (c.args.waiting + 12288) (omega arith)) | else-p-2 w ↦ rw w.t-is (more small2 (c.args.waiting + 12288) (omega arith)) ] in
    looser small3 (2 ^ 40) (let l = c.requires.waiting_bound in omega (arith, l))

pub tally_end-t-requires-then-p-3-clause-within : goal.tally_end-t-requires-then-p-3-clause-within
tally_end-t-requires-then-p-3-clause-within c = let few : c.args.endpoints ≤ 128 = omega (arith, c.requires.endpoints_bound) in
    let resume-few : endpoints_then c.args.p.resume c.args.endpoints ≤ 128 = let e = ap one c.requires.endpoint_value in omega (arith, e, few) in
    let small1 : Small (c.args.waiting + 4096) c.add_packet.new.self = rw (c.add_packet.ensures, c.tally_none-t.ensures) (packet_small (small-none c.args.waiting) c.args.len c.requires.len_bound) in
    let small2 : Small (c.args.waiting + 8192) c.if-p.t = elim c.if-p.branch [ then-p w ↦ rw (w.t-is ∙ w.tally_begin-t.ensures) (more (begin_small small1 c.args.p.resume c.args.endpoints resume-few) (c.args.waiting + 8192) (omega arith)) | else-p w ↦ rw w.t-is (more small1 (c.args.waiting + 8192) (omega arith)) ] in
    let small3 : Small (c.args.waiting + 12288) c.if-p-2.t = elim c.if-p-2.branch [ then-p-2 w ↦ rw (w.t-is ∙ w.tally_end-t.ensures) (more (end_small small2 c.args.p.end c.args.endpoints few) (c.args.waiting + 12288) (omega arith)) | else-p-2 w ↦ rw w.t-is (more small2 (c.args.waiting + 12288) (omega arith)) ] in
    let small4 : Small (c.args.waiting + 16384) c.tally_begin-t-2.result = rw c.tally_begin-t-2.ensures (more (begin_small small3 c.args.p.begin c.args.endpoints c.requires.endpoints_bound) (c.args.waiting + 16384) (omega arith)) in
    looser small4 (2 ^ 40) (let l = c.requires.waiting_bound in omega (arith, l))

pub tally_end-t-requires-then-p-3-clause-endpoints_bound : goal.tally_end-t-requires-then-p-3-clause-endpoints_bound
tally_end-t-requires-then-p-3-clause-endpoints_bound c = rw (ap (λ (k : ℕ). c.args.endpoints + k) (c.from.ensures ∙ from-one _)) c.requires.endpoints_bound

pub returns-then-p-3 : goal.returns-then-p-3
unfolding tally_plan
returns-then-p-3 c = let e1 : c.if-p.t ≡ when c.args.p.resumes (tally_begin c.args.p.resume c.args.endpoints) c.add_packet.new.self = elim c.if-p.branch [ then-p w ↦ w.t-is ∙ (w.tally_begin-t.ensures ∙ ap (λ (b : Bool). when b (tally_begin c.args.p.resume c.args.endpoints) c.add_packet.new.self) (sym w.if-p.true)) | else-p w ↦ w.t-is ∙ ap (λ (b : Bool). when b (tally_begin c.args.p.resume c.args.endpoints) c.add_packet.new.self) (sym w.if-p.false) ] in
    let e2 : c.if-p-2.t ≡ when c.args.p.ends (tally_end c.args.p.end c.args.endpoints) c.if-p.t = elim c.if-p-2.branch [ then-p-2 w ↦ w.t-is ∙ (w.tally_end-t.ensures ∙ ap (λ (b : Bool). when b (tally_end c.args.p.end c.args.endpoints) c.if-p.t) (sym w.if-p-2.true)) | else-p-2 w ↦ w.t-is ∙ ap (λ (b : Bool). when b (tally_end c.args.p.end c.args.endpoints) c.if-p.t) (sym w.if-p-2.false) ] in
    let added = rw (e2, e1, c.add_packet.ensures, c.tally_none-t.ensures) at c.tally_begin-t-2.ensures in
    rw c.if-p-3.true (rw (ap (λ (k : ℕ). c.args.endpoints + k) (c.from.ensures ∙ from-one _), added) at c.tally_end-t-then-p-3.ensures)

pub returns-else-p-3 : goal.returns-else-p-3
unfolding tally_plan
returns-else-p-3 c = let e1 : c.if-p.t ≡ when c.args.p.resumes (tally_begin c.args.p.resume c.args.endpoints) c.add_packet.new.self = elim c.if-p.branch [ then-p w ↦ w.t-is ∙ (w.tally_begin-t.ensures ∙ ap (λ (b : Bool). when b (tally_begin c.args.p.resume c.args.endpoints) c.add_packet.new.self) (sym w.if-p.true)) | else-p w ↦ w.t-is ∙ ap (λ (b : Bool). when b (tally_begin c.args.p.resume c.args.endpoints) c.add_packet.new.self) (sym w.if-p.false) ] in
    let e2 : c.if-p-2.t ≡ when c.args.p.ends (tally_end c.args.p.end c.args.endpoints) c.if-p.t = elim c.if-p-2.branch [ then-p-2 w ↦ w.t-is ∙ (w.tally_end-t.ensures ∙ ap (λ (b : Bool). when b (tally_end c.args.p.end c.args.endpoints) c.if-p.t) (sym w.if-p-2.true)) | else-p-2 w ↦ w.t-is ∙ ap (λ (b : Bool). when b (tally_end c.args.p.end c.args.endpoints) c.if-p.t) (sym w.if-p-2.false) ] in
    rw c.if-p-3.false (rw (e2, e1, c.add_packet.ensures, c.tally_none-t.ensures) at c.tally_begin-t-2.ensures)
