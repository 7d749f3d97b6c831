-- Assumes nothing.
use mathlib.Core.Path.{◌≡◌, sym, ap, ◌∙◌}
use native.Mathlib.Omega.{arith}
use Rattle.details.specs.Lookup.{detail_answer}
use Rattle.call.proofs.OutcomeLaws.{sound_by}
use Rattle.typed.proofs.DetailLaws.{judged-ill, judged-finished, judged-detail, no-device}
use Rattle.typed.proofs.judged.Goals as goal

pub returns-then-is_ill : goal.returns-then-is_ill
returns-then-is_ill c = (judged-ill _ _ _ _ _ _ (sym c.is_ill.ensures ∙ c.if-is_ill.true), λ z. absurd (omega arith))

pub returns-then-d : goal.returns-then-d
returns-then-d c = (judged-finished _ _ _ _ _ _ (sym c.is_ill.ensures ∙ c.if-is_ill.false) c.if-d.true, λ z. absurd (omega arith))

pub find_device-found-requires : goal.find_device-found-requires
find_device-found-requires c = (sound_by _ _ _ _ (sym c.is_ill.ensures ∙ c.if-is_ill.false)).0.counts.few_devices

pub returns-in-Some : goal.returns-in-Some
returns-in-Some c =
    let a = c.args in
    let f = c.find_device-found.ensures in
    judged-detail _ _ _ _ _ _ (sym c.is_ill.ensures ∙ c.if-is_ill.false) c.if-d.false 0 _
    (sym c.if-answer-eq0.true ∙ (c.detail_answer-answer.ensures ∙ ap (detail_answer a.number a.direction a.kind) f))
    (λ z. sym f ∙ c.in-Some.is)

pub returns-in_default : goal.returns-in_default
returns-in_default c =
    let a = c.args in
    let e = c.detail_answer-answer.ensures ∙ ap (detail_answer a.number a.direction a.kind) c.find_device-found.ensures in
    (judged-detail _ _ _ _ _ _ (sym c.is_ill.ensures ∙ c.if-is_ill.false) c.if-d.false _ 0 e (λ z. absurd (c.if-answer-eq0.false z)), c.if-answer-eq0.false)

pub returns-in_default-2 : goal.returns-in_default-2
returns-in_default-2 c =
    let a = c.args in
    let e = c.detail_answer-answer.ensures in
    let n : c.detail_answer-answer.result ≡ 0 → ⊥ =
    λ z. no-device a.number a.direction a.kind (ap (detail_answer a.number a.direction a.kind) (sym c.in_default.is) ∙ (sym e ∙ z)) in
    (judged-detail _ _ _ _ _ _ (sym c.is_ill.ensures ∙ c.if-is_ill.false) c.if-d.false _ 0 (e ∙ ap (detail_answer a.number a.direction a.kind) c.find_device-found.ensures) (λ z. absurd (n z)), n)
