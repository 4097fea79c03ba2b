use Rattle.host.proofs.Bounds.{count_small}
use Rattle.host.proofs.board_scope.Goals as goal

pub scope_value-requires : goal.scope_value-requires
scope_value-requires c = count_small _ _ c.in-Ok.ensures
