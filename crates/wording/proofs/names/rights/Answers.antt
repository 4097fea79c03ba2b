use Rattle.std.proofs.Common.{sym, ◌∙◌}
use Rattle.wording.specs.Names.{rights_of}
use Rattle.wording.proofs.Placing.{alike_pointwise}
use Rattle.wording.proofs.names.rights.Goals as goal

pub returns-then-eq : goal.returns-then-eq
unfolding rights_of
returns-then-eq c = let is = rw c.as_slice.ensures at (sym (alike_pointwise c.args.text.now c.as_slice.result.now) ∙ sym c.eq.ensures ∙ c.if-eq.true) in rw is

pub returns : goal.returns
unfolding rights_of
returns c = let is = rw c.as_slice.ensures at (sym (alike_pointwise c.args.text.now c.as_slice.result.now) ∙ sym c.eq.ensures ∙ c.if-eq.false) in
    rw is c.members.ensures
