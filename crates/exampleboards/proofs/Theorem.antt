-- THE THEOREM: every entry of the table of examples holds. Assumes nothing.
use mathlib.Core.Path.{◌≡◌, refl}
use mathlib.Core.Bool.{true}
use mathlib.Core.List.{List, Memᴰ}
use Rattle.sets.specs.Sets.{bit, digits, set_of}
use Rattle.hierarchy.specs.Tables.{kind}
use Rattle.hierarchy.specs.Compute.{all, any, spread, grow, close, derived, derives?, scope?, in_the_way?, out_of_scope?, admin?, manager?, unite, reaches?, loops?, managed?, shaped?}
use Rattle.effects.specs.Effects.{lives, entry, list_of}
use Rattle.refusals.specs.Entitled.{asks}
use Rattle.refusals.specs.Refusals.{needed, scoped, strictly}
use Rattle.commands.specs.RightsAfter.{holds}
use Rattle.exampleboards.specs.Boards.{P, W, L, E, F}
use Rattle.exampleboards.specs.Answer.{touched?, table_left, left, rights_left, joins?, joined_rows?, live_loops?, rightful?, in_order?, malformed?, missing?, parts_stand?, linked?, standing?, lacking?, may_use?, entitled?, in_scope?, outside?, first?, answer?, breaks?, because?, offends?, fits?}
use Rattle.exampleboards.specs.Table.{Stage, tables_at, rights_at, Fact, Hold, reached, rights_reached, formed?, climbs?, rows?, holds?, hold?, right?, every?, table}
use Rattle.exampleboards.proofs.Entries.{every_holds}

-- To unfold this is to unfold all that the tests compute with.
unfoldable pub running : Unit {0}
unfolding P W L E F touched? table_left left rights_left joins? joined_rows? live_loops? rightful? in_order? malformed? missing? parts_stand? linked? standing? lacking? may_use? entitled? in_scope? outside? first? answer? breaks? because? offends? fits? reached rights_reached formed? climbs? rows? holds? hold? right? needed scoped strictly asks holds lives entry list_of bit digits set_of kind all any spread grow close derived derives? scope? in_the_way? out_of_scope? admin? manager? unite reaches? loops? managed? shaped?
running = tt

every_right : every? table ≡ true
unfolding table every? running
every_right = refl

pub every_entry_holds : (e : Stage × List Fact) → Memᴰ e table → Hold (tables_at e.0) (rights_at e.0) e.1
every_entry_holds = every_holds table every_right
