use Rattle.std.proofs.Common.{sym, arith}
use Rattle.wording.proofs.Cutting.{piece_to, end_over, to_the_end}
use Rattle.wording.proofs.pieces.piece_end.Goals as goal

pub returns-in-Some : goal.returns-in-Some
returns-in-Some c = rw (c.unwrap_or.ensures, c.first_separator.ensures, sym (piece_to c.args.sep c.in-Some.rest.now), c.in-Some.ensures.lookup.0.2, to_the_end c.args.from c.args.text.now)

pub returns-in-None : goal.returns-in-None
returns-in-None c = sym (end_over _ _ _ (omega (arith, c.in-None.ensures.lookup.0)))
