use Rattle.board.proofs.Looking.{holds, fails}
use Rattle.questions.proofs.Viewing.{derives_viewed}
use Rattle.questions.proofs.Unsound.{answer_unsound}
use Rattle.questions.proofs.derives_of.Goals as goal

pub returns-then-not-sound_of : goal.returns-then-not-sound_of
returns-then-not-sound_of c = answer_unsound _ _ _ (fails c.sound_of.ensures c.if-not-sound_of.true)

pub returns : goal.returns
returns c = derives_viewed (holds c.sound_of.ensures c.if-not-sound_of.false) _ _ c.derives_in.ensures
