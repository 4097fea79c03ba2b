use Rattle.board.proofs.Looking.{holds, fails}
use Rattle.questions.proofs.Viewing.{scope_viewed}
use Rattle.questions.proofs.Unsound.{answer_unsound}
use Rattle.questions.proofs.scope.Goals as goal

pub returns-then-not-sound : goal.returns-then-not-sound
returns-then-not-sound c = answer_unsound _ _ _ (fails c.sound.ensures c.if-not-sound.true)

pub returns : goal.returns
returns c = scope_viewed (holds c.sound.ensures c.if-not-sound.false) _ _ c.scope_trusting.ensures
