use borrow.Author.Rules.{rules}
use mathlib.Core.Logic.{⊎_elim}
use Rattle.hierarchy.proofs.Managing.{no_iff, past_row}
use Rattle.scopes.proofs.in_scope.Goals as goal

pub returns-then-a-ge64 : goal.returns-then-a-ge64
returns-then-a-ge64 c = no_iff (λ s. ⊎_elim (λ w. past_row _ _ _ (search rules) w s.derives) (λ w. past_row _ _ _ (search rules) w.1 s.derived) c.then-a-ge64.either)
