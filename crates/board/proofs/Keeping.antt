-- On a sound board the values that it keeps are document 01's. Assumes nothing.
use mathlib.Core.Path.{sym, subst}
use mathlib.Core.Logic.{◌↔◌}
use Prim.Native.Nat.{ℕ}
use Rattle.sets.specs.Sets.{◌is_in◌}
use Rattle.hierarchy.specs.Tables.{Live, row}
use Rattle.hierarchy.specs.Words.{Derives, Scope, Climb}
use Rattle.hierarchy.specs.Views.{ScopeBy, ManagerIs, manager_at, steps_up}
use Rattle.hierarchy.proofs.ClimbLaws.{climbs}
use Rattle.hierarchy.proofs.ViewLaws.{scope_by}
use Rattle.hierarchy.proofs.ManagerLaws.{steps_up_lem}
use Rattle.board.specs.Boards.{tables_of, SoundBoard}
use Rattle.board.specs.declared.Board.{Board}

module _ {b : Board} (s : SoundBoard b) where
  pub derives_kept : (x y : ℕ) → (y is_in row b.kept.derives x) ↔ Derives (tables_of b) x y
  derives_kept = s.right.views.down_is

  pub derivers_kept : (x y : ℕ) → (x is_in row b.kept.derivers y) ↔ Derives (tables_of b) x y
  derivers_kept = s.right.views.up_is

  pub scope_kept : (a r : ℕ) → ScopeBy b.kept.derives b.kept.derivers a r ↔ Scope (tables_of b) a r
  scope_kept a r = scope_by s.right.views

  pub manager_kept : (r : ℕ) → ManagerIs (tables_of b) r (manager_at b.kept.manager r)
  manager_kept = s.right.managers.manager_is

  pub steps_kept : (r : ℕ) → Live (tables_of b) r → Climb (tables_of b) r (steps_up b.kept.manager 64 0 r)
  steps_kept r l =
      let c = climbs s.sound r l in
      subst (Climb (tables_of b) r) (sym (steps_up_lem s.sound s.right.managers c.1)) c.1
