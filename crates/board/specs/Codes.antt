-- The seven commands and the three kinds of edges by their numbers.
use Rattle.std.specs.Prelude.{Option, Some, None, ◌≡◌, ◌⊎◌, ℕ, ◌<◌}
use Rattle.board.specs.declared.Code.{Code}
use Rattle.board.specs.declared.Code.TheVariants.{AddRole, RemoveRole, AddEdge, RemoveEdge, ChangeEdge, GiveRights, TakeRights}
use Rattle.board.specs.declared.parts.Kind.{Kind}
use Rattle.board.specs.declared.parts.Kind.TheVariants.{I, A, IA}

abbrev pub code_number : Code → ℕ
code_number AddRole = 1
code_number RemoveRole = 2
code_number AddEdge = 3
code_number RemoveEdge = 4
code_number ChangeEdge = 5
code_number GiveRights = 6
code_number TakeRights = 7

-- the command that a number names, or none
abbrev pub IsCode : ℕ → Option Code → Type 0
IsCode n (Some k) = n ≡ code_number k
IsCode n None = (n < 1) ⊎ (7 < n)

abbrev pub kind_number : Kind → ℕ
kind_number I = 1
kind_number A = 2
kind_number IA = 3

-- the kind that a number names, or none
abbrev pub IsKind : ℕ → Option Kind → Type 0
IsKind n (Some k) = n ≡ kind_number k
IsKind n None = (n < 1) ⊎ (3 < n)
