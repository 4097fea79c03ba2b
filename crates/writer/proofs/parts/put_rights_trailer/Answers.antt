use Rattle.writer.proofs.Writings.{rights_trailer_put}
use Rattle.writer.proofs.parts.put_rights_trailer.Goals as goal

pub returns : goal.returns
returns c = rights_trailer_put c.args.out.now _ _ _ _ _ c.requires.3 c.requires.0 (cc) c.put_trailer.ensures
