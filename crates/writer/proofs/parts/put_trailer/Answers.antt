use borrow.Author.Rules.{rules}
use Rattle.writer.proofs.Writings.{last_six_put}
use Rattle.writer.proofs.parts.put_trailer.Goals as goal

pub returns : goal.returns
returns c = last_six_put c.args.out.now _ _ _ _ _ _ c.requires.0 c.requires.1 (search rules) c.requires.2 (cc) (cc) (cc)
