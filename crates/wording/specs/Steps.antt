-- What private functions promise.
use Rattle.std.specs.Prelude.{cond, ◌&&◌, Option, Some, None, ℕ, ◌+◌, ◌*◌, ◌-◌, leb}
use Rattle.wording.specs.Names.{digit?}

-- a number so far and a digit more, none where that is no digit or the number is above 63
unfoldable pub grown : ℕ → ℕ → Option ℕ
grown v b = cond (digit? b && leb (v * 10 + (b - 48)) 63) (Some (v * 10 + (b - 48))) None
