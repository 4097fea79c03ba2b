use mathlib.Core.Path.{◌∙◌}
use native.Mathlib.Omega.{arith}
use Rattle.refusals.proofs.Trying.{needed_is, missing_is, missing_row}
use Rattle.refusals.proofs.missing.Goals as goal

pub returns : goal.returns
returns c =
    let f = c.args.f.now in
    missing_row c.args.t.now f.command (missing_is f.command c.with.result c.minus.result c.args.t.now.live (omega (arith, c.minus.type_inv))
    (λ x. c.with.ensures x ∙ rw (c.union-named.ensures x, c.in_scope.ensures x, c.in_strict.ensures x) (needed_is f.command f.in_range x))
    c.minus.ensures)
