use mathlib.Core.Path.{◌≡◌, subst}
use Prim.Native.Nat.{ℕ}
use Rattle.sets.specs.Sets.{HighestRole, Highest}
use Rattle.std.specs.Prelude.{Option, Some}
use Rattle.hierarchy.proofs.Managing.{near_turn, near_less, near_end}
use Rattle.hierarchy.proofs.managers.nearest.Goals as goal

-- what the answer of `highest` says where it is a role
top : {s m : ℕ} {p : Option ℕ} → p ≡ Some m → Highest s p → HighestRole s m
top {s} e h = subst (Highest s) e h

pub returns : goal.returns
returns c = near_end (subst (Highest _) c.in_default.is c.highest.ensures) c.loop-m.invariant

pub loop-m-smaller : goal.loop-m-smaller
loop-m-smaller c = let l = top c.in-Some.is c.highest.ensures in near_less c.without.result c.common-left.result l.role l.member c.loop-m.invariant c.without.ensures c.common-left.ensures

pub loop-m-preserved : goal.loop-m-preserved
loop-m-preserved c = let l = top c.in-Some.is c.highest.ensures in near_turn c.without.result c.common-left.result l.role l.member c.loop-m.invariant c.without.ensures c.common-left.ensures
