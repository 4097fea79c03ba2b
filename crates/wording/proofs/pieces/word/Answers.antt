use Rattle.std.proofs.Common.{rules, arith, refl}
use Rattle.wording.proofs.Cutting.{look_start, word_found}
use Rattle.wording.proofs.pieces.word.Goals as goal

pub returns : goal.returns
returns c =
    let begun = look_start c.pieces_of.result _ c.args.k c.pieces_of.ensures.text c.pieces_of.ensures.from c.pieces_of.ensures.sep in
    rw c.unwrap_or.ensures (word_found (λ f x r f' h. search rules) _ _ _ _ c.nth.ensures.ran (omega arith) (rw c.filter.ensures.source begun) refl refl (omega arith))
