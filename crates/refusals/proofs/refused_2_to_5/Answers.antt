use mathlib.Core.Path.{subst}
use Rattle.hierarchy.specs.First.{First}
use Rattle.board.specs.declared.Command.{Command}
use Rattle.board.proofs.Looking.{holds, fails}
use Rattle.refusals.specs.Refusals.{unscoped}
use Rattle.refusals.proofs.Trying.{refused_2, refused_3, refused_4, refused_5, refused_not}
use Rattle.refusals.proofs.refused_2_to_5.Goals as goal

pub returns-in_default : goal.returns-in_default
returns-in_default c = (refused_2 c.args.t.now c.args.c c.in_default.ensures, tt)

pub returns-then-missing : goal.returns-then-missing
returns-then-missing c = let f = c.in-Some.f in
    (subst (λ (k : Command). First (unscoped c.args.t.now k) 3) c.in-Some.ensures (refused_3 c.args.t.now f.command f.in_range (holds c.missing.ensures c.if-missing.true)), tt)

pub returns-then-standing : goal.returns-then-standing
returns-then-standing c = let f = c.in-Some.f in
    (subst (λ (k : Command). First (unscoped c.args.t.now k) 4) c.in-Some.ensures (refused_4 c.args.t.now f.command f.in_range (fails c.missing.ensures c.if-missing.false) (holds c.standing.ensures c.if-standing.true)), tt)

pub returns-then-lacking : goal.returns-then-lacking
returns-then-lacking c = let f = c.in-Some.f in (
  subst (λ (k : Command). First (unscoped c.args.t.now k) 5) c.in-Some.ensures (refused_5 c.args.t.now f.command f.in_range (fails c.missing.ensures c.if-missing.false) (fails c.standing.ensures c.if-standing.false)
      (holds c.lacking.ensures c.if-lacking.true)),
  tt,
)

pub returns : goal.returns
returns c = let f = c.in-Some.f in (
  subst (λ (k : Command). First (unscoped c.args.t.now k) 0) c.in-Some.ensures (refused_not c.args.t.now f.command f.in_range (fails c.missing.ensures c.if-missing.false) (fails c.standing.ensures c.if-standing.false)
      (fails c.lacking.ensures c.if-lacking.false)),
  c.in-Some.ensures,
)
