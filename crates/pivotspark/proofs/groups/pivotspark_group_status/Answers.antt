use Rattle.pivotspark.specs.Words.{answer_words, answered}
use Rattle.rows.proofs.Filled.{filled}
use Rattle.pivotspark.proofs.groups.pivotspark_group_status.Goals as goal

pub returns : goal.returns
unfolding answered
returns c =
    filled c.args.out.now (answer_words (answered c.args.state.now)) c.told-out
    (simp (c.flag_word-3.ensures, c.flag_word-2.ensures, c.flag_word.ensures, c.status_word.ensures, c.effect_words.ensures, c.group_status-g.ensures, c.flag-2.ensures, c.flag.ensures, c.detail-d.ensures, c.transaction-t.ensures, c.endpoint-e.ensures))
