use Rattle.board.proofs.Looking.{holds, fails}
use Rattle.questions.proofs.Viewing.{steps_viewed}
use Rattle.questions.proofs.Unsound.{answer_unsound}
use Rattle.questions.proofs.steps.Goals as goal

pub returns-then-not-sound : goal.returns-then-not-sound
returns-then-not-sound c = answer_unsound _ _ _ (fails c.sound.ensures c.if-not-sound.true)

pub returns : goal.returns
returns c = steps_viewed (holds c.sound.ensures c.if-not-sound.false) _ c.steps_trusting.ensures
