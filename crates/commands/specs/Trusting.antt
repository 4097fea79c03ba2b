-- A command decided by the values that a board keeps, whatever they hold, and the rows afterwards by what was just worked out.
-- `Rattle.commands.proofs.Viewing` says that on a sound board this is document 01's answer.
use Rattle.std.specs.Prelude.{◌≡◌, cond, ◌⊎◌, ◌≢◌, List, [], ◌∷◌, ◌++◌, ℕ, ◌≤◌, ◌<◌}
use Rattle.hierarchy.specs.Tables.{Tables}
use Rattle.hierarchy.specs.First.{First}
use Rattle.hierarchy.specs.declared.working.Kept.{Kept}
use Rattle.hierarchy.specs.Views.{InOrder, Inward, LiveLoops, AdminBy, RightValues}
use Rattle.board.specs.Boards.{tables_of, KeepsRight}
use Rattle.board.specs.declared.Board.{Board}
use Rattle.board.specs.Answers.{Answer}
use Rattle.board.specs.declared.Command.{Command}
use Rattle.effects.specs.Effects.{after}
use Rattle.refusals.specs.Entitled.{names_rights}
use Rattle.refusals.specs.Trusting.{BlamesBy, before_trusting}
use Rattle.commands.specs.Commands.{past_loops, DecidedBy}

-- The tables that the command would leave show that the board handed in was not sound: the live roles are not in order, and one has a
-- junior that isn't live. Soundness isn't checked before; this row applies when working the tables out meets such a junior.
pub record Torn (t : Tables) : Type 0 where
  pub disordered : InOrder t → ⊥
  pub outward : Inward t → ⊥

-- the rows afterwards; a loop is one of live roles, as every loop of a sound board's roles would be
abbrev pub late : Tables → Command → List (ℕ × Type 0)
late t c = (1, Torn t) ∷ (7, LiveLoops t) ∷ past_loops t c

-- why there is no order, by number
abbrev pub OutOfOrder : Tables → ℕ → Type 0
OutOfOrder t number = (Inward t × (number ≡ 7)) ⊎ ((Inward t → ⊥) × (number ≡ 1))

-- row 8, read off the sets of the board afterwards
pub record OutsideBy (down up : List ℕ) (c : Command) : Type 0 where
  pub adds : c.code ≡ 1
  pub outside : AdminBy down up c.actor c.role → ⊥

-- the rows afterwards tried, and the values worked out, which are right where none holds
pub record LateBy (t : Tables) (c : Command) (number : ℕ) (derives derivers manager : List ℕ) : Type 0 where
  pub numbered : First (late t c) number
  pub right : number ≡ 0 → RightValues t derives derivers manager

-- tables and what is kept made anew, unless a row afterwards holds
pub record Remade (t : Tables) (kept : Kept) (c : Command) (number : ℕ) (next : Tables) (worked : Kept) : Type 0 where
  pub numbered : First (late (after t c) c) number
  pub done : number ≡ 0 → (next ≡ after t c) × RightValues next worked.derives worked.derivers worked.manager
  pub refused : number ≢ 0 → (next ≡ t) × (worked ≡ kept)

-- The rows afterwards are tried where a command may change the tables: 6 and 7 don't, and leave what the board keeps as it is.
abbrev pub late_of : Tables → Command → List (ℕ × Type 0)
late_of t c = cond (names_rights c) [] (late t c)

pub record KeptTrusting (b : Board) (c : Command) (board : Board) : Type 0 where
  pub worked_out : c.code ≤ 5 → KeepsRight board
  pub left : 5 < c.code → board.kept ≡ b.kept

abbrev pub DecidedTrusting : Board → Command → Answer → Board → Type 0
DecidedTrusting b c = DecidedBy (before_trusting b c ++ late_of (after (tables_of b) c) c) (BlamesBy b.kept.derives b.kept.derivers c) (KeptTrusting b c) b c
