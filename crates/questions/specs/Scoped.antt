-- What is said of a scope, number by number. A refusal says no, and all else is 0.
use Rattle.std.specs.Prelude.{Result, Ok, Err, Bool, false, ℕ, is_none}
use Rattle.scopes.specs.Bars.{bar_cause, bar_way}
use Rattle.board.specs.declared.answers.Refusal.{Refusal}
use Rattle.questions.specs.declared.Scoped.{Scoped}

-- yes, where nothing bars the role
abbrev pub said : Result Scoped Refusal → Bool
said (Ok s) = is_none s.bar
said (Err r) = false

-- how many are in the scope in all
abbrev pub count : Result Scoped Refusal → ℕ
count (Ok s) = s.count
count (Err r) = 0

-- beside a no its cause, and with cause 2 the role in the way
abbrev pub cause : Result Scoped Refusal → ℕ
cause (Ok s) = bar_cause s.bar
cause (Err r) = 0

abbrev pub way : Result Scoped Refusal → ℕ
way (Ok s) = bar_way s.bar
way (Err r) = 0
