use Rattle.ssa_json.specs.View.{members_view}
use Rattle.ssa_answers.proofs.CommandFacts.{request-from_apply}
use Rattle.ssa_answers.proofs.read_command.apply_command.Goals as goal

pub take_request-requires : goal.take_request-requires
take_request-requires c = request-from_apply (members_view c.args.members.entries) c.requires.shape
