use Rattle.run.proofs.Running.{ran-wrong, ran-refused, ran-made}
use Rattle.run.proofs.run.Goals as goal
use Rattle.std.proofs.Common.{◌-◌}

pub returns-then-answer-ne0 : goal.returns-then-answer-ne0
returns-then-answer-ne0 c = ran-wrong c.fresh_device-blank.ensures c.check_header-header.ensures c.header_answer-answer.ensures c.if-answer-ne0.true c.refused_decoder-decoder.ensures c.header_place.ensures

pub returns-then-answer-ne0-2 : goal.returns-then-answer-ne0-2
returns-then-answer-ne0-2 c = ran-refused c.fresh_device-blank.ensures c.check_header-header.ensures c.header_answer-answer.ensures c.fresh-made.ensures c.if-answer-ne0.false c.if-answer-ne0-2.true c.not_made.ensures

pub returns : goal.returns
returns c = ran-made c.fresh_device-blank.ensures c.check_header-header.ensures c.header_answer-answer.ensures c.fresh-made.ensures c.if-answer-ne0.false c.if-answer-ne0-2.false c.records.ensures
