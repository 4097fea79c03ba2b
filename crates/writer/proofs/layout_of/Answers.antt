use mathlib.Core.Path.{sym, ◌∙◌}
use native.Mathlib.Omega.{arith}
use Rattle.std.proofs.Math.Bool.{not-not}
use Rattle.writer.proofs.Counts.{ones_from}
use Rattle.writer.proofs.layout_of.Goals as goal

pub returns : goal.returns
returns c = record {
  which = not-not c.founding.result ∙ c.founding.ensures;
  roles = c.size.ensures ∙ sym (ones_from 64 c.args.t.now.live (omega arith));
  edges = c.edges_below.ensures;
}
