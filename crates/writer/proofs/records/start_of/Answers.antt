use Prim.Native.Nat.{◌*◌}
use borrow.Author.Rules.{rules}
use native.Mathlib.Omega.{arith}
use Rattle.writer.specs.Files.{edge?, kind_at}
use Rattle.writer.proofs.Ascending.{from_short}
use Rattle.writer.proofs.Places.{count_at}
use Rattle.writer.proofs.records.start_of.Goals as goal

pub overflow_mul-result : goal.overflow_mul-result
overflow_mul-result c = omega (arith, from_short (c.args.senior * 64) 0 (edge? (kind_at c.args.t.now)))

pub overflow_add-result : goal.overflow_add-result
overflow_add-result c = omega (arith, from_short (c.args.senior * 64) 0 (edge? (kind_at c.args.t.now)), c.size.type_inv)

pub returns : goal.returns
returns c = count_at c.args.t.now _ _ _ c.edges_below.ensures (search rules) c.size.ensures
