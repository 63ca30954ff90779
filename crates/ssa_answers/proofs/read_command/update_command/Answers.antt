use Rattle.ssa_json.specs.View.{members_view}
use Rattle.ssa_answers.proofs.CommandFacts.{request-from_update}
use Rattle.ssa_answers.proofs.read_command.update_command.Goals as goal

pub take_request-requires : goal.take_request-requires
take_request-requires c = request-from_update (members_view c.args.members.entries) c.requires.shape
