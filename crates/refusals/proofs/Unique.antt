-- Two answers that the rows on the board handed in allow coincide. Assumes nothing.
use mathlib.Core.Path.{◌≡◌}
use mathlib.Core.List.{List}
use Prim.Native.Nat.{ℕ}
use Rattle.hierarchy.specs.Tables.{Tables}
use Rattle.hierarchy.specs.Views.{ScopeBy}
use Rattle.hierarchy.specs.First.{First}
use Rattle.hierarchy.proofs.Bars.{out_by_unique}
use Rattle.hierarchy.proofs.FirstLaws.{first_unique}
use Rattle.board.specs.Answers.{Answer}
use Rattle.board.specs.declared.Command.{Command}
use Rattle.refusals.specs.Refusals.{Names, before}
use Rattle.refusals.specs.Trusting.{DerivesBy, BlamesBy}
use Rattle.refusals.proofs.Blaming.{blames_one, names_one}

module _ (derives derivers : List ℕ) (t : Tables) (rights : List ℕ) (c : Command) where
  abbrev Allowed : Answer → Type 0
  Allowed answer = First (before (DerivesBy derives) (ScopeBy derives derivers) t rights c) answer.number × Names (BlamesBy derives derivers c) answer

  pub refused_unique : (m n : Answer) → Allowed m → Allowed n → m ≡ n
  refused_unique m n p q =
      let e = first_unique _ m.number n.number p.0 q.0 in
      names_one (blames_one (λ a x c d v w. out_by_unique) e) e p.1 q.1
