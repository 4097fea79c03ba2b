use Rattle.std.proofs.Common.{sym, ◌∙◌, ap, arith}
use Rattle.std.proofs.lemmas.Bool.{eqb-false, eqb-true}
use Rattle.std.proofs.lemmas.Result.{err_from_is_err_and}
use Rattle.wording.specs.Names.{role_of, members_of}
use Rattle.wording.proofs.NewRole.{name_over, name_none, name_unknown, name_twice, name_bad, name_next, some_of, none_of}
use Rattle.wording.proofs.on_new.Goals as goal

pub returns-then-is_empty : goal.returns-then-is_empty
returns-then-is_empty c = name_none c.loop-n.invariant c.loop-n-test.true c.word-name.ensures.0 (eqb-true _ _ (sym c.is_empty.ensures ∙ c.if-is_empty.true))

pub returns-in_err-set : goal.returns-in_err-set
returns-in_err-set c =
    let e = err_from_is_err_and c.from_residual.result c.from_residual.ensures.1 in
    let none = none_of _ _ c.in_err-set.ensures.value in
    rw (e.1, e.2, none.1, c.at.ensures)
    (name_unknown c.loop-n.invariant c.loop-n-test.true c.word-name.ensures.0 (eqb-false _ _ (sym c.is_empty.ensures ∙ c.if-is_empty.false)) (none.0 ∙ c.set_name.ensures))

pub returns-then-set_at-ne0 : goal.returns-then-set_at-ne0
returns-then-set_at-ne0 c = rw c.at-then-set_at-ne0.ensures
    (name_twice c.loop-n.invariant c.loop-n-test.true c.word-name.ensures.0 (eqb-false _ _ (sym c.is_empty.ensures ∙ c.if-is_empty.false))
    (some_of _ _ c.in_ok-set.ensures.value ∙ c.set_name.ensures) (λ z. c.if-set_at-ne0.true (c.set_at.ensures ∙ z)))

pub returns-in_err-named : goal.returns-in_err-named
returns-in_err-named c =
    let e = err_from_is_err_and c.from_residual-in_err-named.result c.from_residual-in_err-named.ensures.1 in
    let none = none_of _ _ c.in_err-named.ensures.value in
    rw (e.1, e.2, none.1, c.at-in-loop-n.ensures)
    (name_bad c.loop-n.invariant c.loop-n-test.true c.word-name.ensures.0 (eqb-false _ _ (sym c.is_empty.ensures ∙ c.if-is_empty.false))
    (some_of _ _ c.in_ok-set.ensures.value ∙ c.set_name.ensures) (sym c.set_at.ensures ∙ c.if-set_at-ne0.false)
    (none.0 ∙ c.roles.ensures ∙ ap (members_of role_of) c.word.ensures.0))

pub loop-n-preserved : goal.loop-n-preserved
loop-n-preserved c = rw c.with_set-c.ensures
    (name_next c.loop-n.invariant c.loop-n-test.true c.word-name.ensures.0 (eqb-false _ _ (sym c.is_empty.ensures ∙ c.if-is_empty.false))
    (some_of _ _ c.in_ok-set.ensures.value ∙ c.set_name.ensures) (sym c.set_at.ensures ∙ c.if-set_at-ne0.false)
    (some_of _ _ c.in_ok-named.ensures.value ∙ c.roles.ensures ∙ ap (members_of role_of) c.word.ensures.0))

pub returns : goal.returns
returns c = c.ended.ensures ∙ name_over c.loop-n.invariant c.loop-n-test.false (omega arith)
