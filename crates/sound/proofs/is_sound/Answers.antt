use mathlib.Core.Path.{sym, ◌∙◌}
use Rattle.sound.proofs.Sums.{few, ill_unsound, well_sound}
use Rattle.sound.proofs.is_sound.Goals as goal
use Rattle.std.proofs.Common.{◌-◌}

pub endpoints_paid-requires : goal.endpoints_paid-requires
endpoints_paid-requires c = let s = c.args in
    let h = sym c.is_ill.ensures ∙ c.if-is_ill.false in
    few s.d s.devices s.table.now s.room h

pub returns-then-is_ill : goal.returns-then-is_ill
returns-then-is_ill c = let s = c.args in
    ill_unsound s.d s.devices s.table.now s.room (sym c.is_ill.ensures ∙ c.if-is_ill.true)

pub returns-else-is_ill : goal.returns-else-is_ill
returns-else-is_ill c = let s = c.args in
    c.endpoints_paid.ensures ∙ sym (well_sound s.d s.devices s.table.now s.room (sym c.is_ill.ensures ∙ c.if-is_ill.false))
