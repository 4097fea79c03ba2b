use native.Mathlib.Omega.{arith}
use Rattle.effects.proofs.Edits.{row_set, row_past, whole_set}
use Rattle.effects.proofs.tables.set_row.Goals as goal

pub returns-then-x-lt64 : goal.returns-then-x-lt64
returns-then-x-lt64 c = let a = c.args in record {
  whole = whole_set a.x a.s (omega arith) (omega (arith, c.ranges.s)) c.requires;
  entries = λ z y. row_set a.t.now a.x a.s z y c.requires.rows (omega arith);
}

pub returns-else-x-lt64 : goal.returns-else-x-lt64
returns-else-x-lt64 c = let a = c.args in record { whole = c.requires; entries = λ z y. row_past a.t.now a.x a.s z y (omega arith) }
