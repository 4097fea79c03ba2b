use Rattle.std.proofs.Common.{sym, ◌∙◌}
use Rattle.boardchange.proofs.Giving.{gave_none, by_line}
use Rattle.boardchange.proofs.given.line_turn.Goals as goal

pub returns-then-passed_over : goal.returns-then-passed_over
returns-then-passed_over c = by_line _ (sym c.if-passed_over.true ∙ c.passed_over.ensures) gave_none
