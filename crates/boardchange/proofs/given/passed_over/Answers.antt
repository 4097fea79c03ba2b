use Rattle.std.proofs.Common.{sym, ◌∙◌}
use Rattle.std.proofs.lemmas.Bool.{eqb-false, eqb-true}
use Rattle.boardchange.proofs.Giving.{passed_here, passed_not}
use Rattle.boardchange.proofs.given.passed_over.Goals as goal

pub returns-then-is_empty : goal.returns-then-is_empty
returns-then-is_empty c = c.if-is_empty.true ∙ passed_here _ c.word-first.ensures.0 (eqb-true _ _ (sym c.is_empty.ensures ∙ c.if-is_empty.true))

pub returns-else-is_empty : goal.returns-else-is_empty
returns-else-is_empty c = passed_not _ c.word-first.ensures.0 (eqb-false _ _ (sym c.is_empty.ensures ∙ c.if-is_empty.false))
