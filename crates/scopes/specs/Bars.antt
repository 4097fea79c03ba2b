-- Request 3 numbers why a role is not in a scope: the cause is 1 or 2, and beside 2 stands the role in the way, which may be role 0. Where
-- nothing bars a role both are 0, and so is the role beside cause 1.
use Rattle.std.specs.Prelude.{Option, Some, None, ℕ}
use Rattle.scopes.specs.declared.Bar.{Bar}
use Rattle.scopes.specs.declared.Bar.TheVariants.{NotDerived, InTheWay}

abbrev pub bar_cause : Option Bar → ℕ
bar_cause None = 0
bar_cause (Some NotDerived) = 1
bar_cause (Some (InTheWay _)) = 2

abbrev pub bar_way : Option Bar → ℕ
bar_way None = 0
bar_way (Some NotDerived) = 0
bar_way (Some (InTheWay x)) = x
