-- A line manager as it is kept.
use Rattle.std.specs.Prelude.{Option, Some, None, cond, ℕ, ltb}

-- a number above 63 is no manager
unfoldable pub manager_from : ℕ → Option ℕ
manager_from m = cond (ltb m 64) (Some m) None
