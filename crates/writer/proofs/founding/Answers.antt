use mathlib.Core.Path.{◌≡◌, ◌∙◌}
use mathlib.Core.Logic.{◌≢◌}
use borrow.Author.Rules.{rules}
use borrow.Author.Tests.{tests}
use native.Mathlib.Omega.{arith}
use lib.ListN.{drop, length-drop}
use lib.Seq.{take_all}
use Rattle.std.proofs.lemmas.Iterator.{cases_from_all, YieldsList-from_slice}
use Rattle.writer.proofs.FoundingRights.{founding_rest, founding_no}
use Rattle.writer.proofs.founding.Goals as goal

pub returns-then-rights-eq-ALL_RIGHTS : goal.returns-then-rights-eq-ALL_RIGHTS
returns-then-rights-eq-ALL_RIGHTS c =
    founding_rest c.args.rights.now (search rules) c.if-rights-eq-ALL_RIGHTS.true _
    (cases_from_all _ _ _ (λ x. x ≡ 0) (λ x. x ≢ 0) c.all.ensures.ran (YieldsList-from_slice (drop 1 c.args.rights.now) (c.iter.ensures.rest ∙ take_all 63 (drop 1 c.args.rights.now) (omega (arith, length-drop 1 c.args.rights.now)))) (λ x q k. search (rules, tests)) (λ x q k. search (rules, tests)))

pub returns-else-rights-eq-ALL_RIGHTS : goal.returns-else-rights-eq-ALL_RIGHTS
returns-else-rights-eq-ALL_RIGHTS c = rw (founding_no c.args.rights.now 0 (omega arith) c.if-rights-eq-ALL_RIGHTS.false) (search (rules, tests))
