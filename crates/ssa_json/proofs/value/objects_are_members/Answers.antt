use Rattle.ssa_json.proofs.Views.{view-Object}
use Rattle.ssa_json.proofs.value.objects_are_members.Goals as goal

pub returns : goal.returns
returns c = view-Object
