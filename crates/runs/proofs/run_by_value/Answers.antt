use Rattle.runs.proofs.Running.{too_short}
use Rattle.runs.proofs.run_by_value.Goals as goal

pub returns-then-n-gt-COMMANDS : goal.returns-then-n-gt-COMMANDS
returns-then-n-gt-COMMANDS c = too_short _ _ _ c.if-n-gt-COMMANDS.true
