use mathlib.Core.Path.{sym, ◌∙◌}
use native.Mathlib.Omega.{arith}
use Rattle.writer.proofs.InThree.{up_to_it}
use Rattle.writer.proofs.Places.{too_high, not_live, no_records, some_records}
use Rattle.writer.proofs.records.place.Goals as goal

pub returns-then-role-gt63 : goal.returns-then-role-gt63
returns-then-role-gt63 c = too_high c.args.t.now c.args.role c.if-role-gt63.true

pub returns-then-not-has : goal.returns-then-not-has
returns-then-not-has c = not_live c.args.t.now c.args.role c.if-role-gt63.false (sym c.has.ensures ∙ c.if-not-has.true)

pub overflow_sub-len : goal.overflow_sub-len
overflow_sub-len c = omega (arith, up_to_it c.args.t.now c.args.role)

pub returns-then-len-eq0 : goal.returns-then-len-eq0
returns-then-len-eq0 c = no_records c.args.t.now c.args.role c.if-role-gt63.false (sym c.has.ensures ∙ c.if-not-has.false) _ _ c.start_of-start.ensures c.start_of.ensures c.if-len-eq0.true

pub returns : goal.returns
returns c = some_records c.args.t.now c.args.role c.if-role-gt63.false (sym c.has.ensures ∙ c.if-not-has.false) _ _ c.start_of-start.ensures c.start_of.ensures c.if-len-eq0.false
