use Rattle.board.proofs.Looking.{holds, fails, denied, sound_is}
use Rattle.board.proofs.checks.sound_of.Goals as goal

pub keeps_right-requires : goal.keeps_right-requires
keeps_right-requires c = (holds c.starts_right.ensures c.if-starts_right.true).1

pub returns-then-starts_right : goal.returns-then-starts_right
returns-then-starts_right c = sound_is (holds c.starts_right.ensures c.if-starts_right.true).0 c.keeps_right.ensures

pub returns-else-starts_right : goal.returns-else-starts_right
returns-else-starts_right c = denied c.if-starts_right.false (λ s. fails c.starts_right.ensures c.if-starts_right.false (s.rightful, (s.sound.root, s.sound.joined)))
