use mathlib.Core.Path.{refl}
use Rattle.board.specs.Boards.{founding_board}
use Rattle.board.proofs.Board.founding.Goals as goal

pub returns : goal.returns
unfolding founding_board
returns c = refl
