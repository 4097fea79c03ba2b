-- An answer in one number, as a run's row of answers holds it and as the functions for programs in C give it: the refusal number, the place
-- where it arose, a value, and by request 3 who offends and why.
use Rattle.std.specs.Prelude.{ℕ, ◌+◌, ◌*◌}
use Rattle.board.specs.Answers.{Answer}

-- The number in bits 0 to 7, the place in bits 8 to 15, the value from bit 16 on.
abbrev pub answer : ℕ → ℕ → ℕ → ℕ
answer number place value = number + 256 * place + 65536 * value

-- To this comes, of a command and of a scope: who offends in bits 32 to 39, the cause in bits 40 to 47, the role in the way in bits 48 to 55.
abbrev pub reason : ℕ → ℕ → ℕ → ℕ
reason who cause way = 4294967296 * who + 1099511627776 * cause + 281474976710656 * way

abbrev pub answer_of : Answer → ℕ → ℕ → ℕ
answer_of a place value = answer a.number place value + reason a.who a.cause a.way
