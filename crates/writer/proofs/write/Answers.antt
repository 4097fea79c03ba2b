use Rattle.board.proofs.Looking.{holds, fails}
use Rattle.writer.proofs.Filed.{unsound_file, put_writes}
use Rattle.writer.proofs.write.Goals as goal

pub returns-then-not-sound : goal.returns-then-not-sound
returns-then-not-sound c = unsound_file (fails c.sound.ensures c.if-not-sound.true)

pub returns : goal.returns
returns c = put_writes (holds c.sound.ensures c.if-not-sound.false) c.put.ensures
