use mathlib.Core.Path.{◌≡◌, sym, subst}
use mathlib.Core.Logic.{⊎_elim}
use native.Mathlib.Omega.{arith}
use Prim.Native.Nat.{◌≤◌}
use Rattle.std.proofs.lemmas.Result.{err_from_is_err_and}
use Rattle.sets.proofs.Bools.{lt_or_ge}
use Rattle.hierarchy.proofs.FirstLaws.{passed}
use Rattle.board.specs.Answers.{plain}
use Rattle.board.specs.declared.Board.{Board}
use Rattle.board.proofs.Answering.{number_of_some}
use Rattle.board.proofs.Looking.{holds, fails}
use Rattle.commands.specs.RightsAfter.{rights_after}
use Rattle.commands.specs.Trusting.{DecidedTrusting}
use Rattle.commands.proofs.Deciding.{decided_down, decided_rights, decided_late, decided_done}
use Rattle.commands.proofs.decide_trusting.Goals as goal
use Rattle.commands.proofs.decide_trusting.Goals.{then-not-rights_alone+in_ok-change_if_allowed, else-not-rights_alone}

pub returns-in_err-refused_on_board : goal.returns-in_err-refused_on_board
returns-in_err-refused_on_board c =
    let p = err_from_is_err_and c.from_residual.result c.from_residual.ensures.1 in
    rw (p.1, p.2) (decided_down c.args.b.now c.args.c (number_of_some _) c.in_err-refused_on_board.ensures)

pub rights_alone-requires : goal.rights_alone-requires
rights_alone-requires c = passed 2 _ _ _ (λ e. omega (arith, e)) c.in_ok-refused_on_board.ensures.0

pub returns-in_err-change_if_allowed : goal.returns-in_err-change_if_allowed
returns-in_err-change_if_allowed c =
    let r = c.from_residual-in_err-change_if_allowed in
    let p = err_from_is_err_and r.result r.ensures.1 in
    let low : c.args.c.code ≤ 5 = ⊎_elim (λ h. absurd (fails c.rights_alone.ensures c.if-not-rights_alone.true h)) (λ l. l) (lt_or_ge 5 c.args.c.code) in
    rw (p.1, p.2) (decided_late c.args.b.now c.args.c c.in_ok-refused_on_board.ensures.0 low _ c.in_err-change_if_allowed.ensures)

pub change_rights-requires : goal.change_rights-requires
change_rights-requires c = passed 2 _ _ _ (λ e. omega (arith, e)) c.in_ok-refused_on_board.ensures.0

pub returns : goal.returns
returns c =
    let b = c.args.b.now in
    let k = c.args.c in
    let right = c.in_ok-refused_on_board.ensures.0 in
    let rights = c.change_rights.new.rights in
    let Done : Board → Type 0 = λ (y : Board). rights ≡ rights_after k y.rights → DecidedTrusting b k (plain 0) (record { tables = y.tables; kept = y.kept; rights = rights }) in
    let done : Done c.if-not-rights_alone.b = elim c.if-not-rights_alone.branch [
      | then-not-rights_alone+in_ok-change_if_allowed w ↦
          let low : k.code ≤ 5 = ⊎_elim (λ h. absurd (fails c.rights_alone.ensures w.if-not-rights_alone.true h)) (λ l. l) (lt_or_ge 5 k.code) in
          subst Done (sym w.b-is) (decided_done b k right low w.in_ok-change_if_allowed.ensures)
      | else-not-rights_alone w ↦ subst Done (sym w.b-is) (decided_rights b k right (holds c.rights_alone.ensures w.if-not-rights_alone.false) c.shaped.ensures)
    ] in
    done c.change_rights.ensures
