use lib.ListN.{take}
use Rattle.runs.specs.Runs.{Went}
use Rattle.runs.proofs.run.Given as goal

-- the commands before the k-th have been given
abbrev pub invariant-loop-k : goal.invariant-loop-k
invariant-loop-k l = Went l.initial.board (take l.k l.commands) l.initial.answers l.answers l.board
