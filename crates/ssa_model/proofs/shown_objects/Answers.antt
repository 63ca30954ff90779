use Rattle.ssa_model.proofs.ShownObjects.{shown_makes_bench, shown_is_commands}
use Rattle.ssa_model.proofs.shown_objects.Goals as goal

pub returns : goal.returns
returns c = record { file = shown_makes_bench; command = shown_is_commands }
