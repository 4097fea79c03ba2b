use Rattle.board.proofs.Looking.{holds, fails}
use Rattle.commands.proofs.Deciding.{decided_unsound}
use Rattle.commands.proofs.Viewing.{decided_viewed}
use Rattle.commands.proofs.decide.Goals as goal

pub returns-then-not-sound : goal.returns-then-not-sound
returns-then-not-sound c = decided_unsound c.args.b.now c.args.c (fails c.sound.ensures c.if-not-sound.true)

pub returns : goal.returns
returns c = decided_viewed (holds c.sound.ensures c.if-not-sound.false) c.decide_trusting.ensures
