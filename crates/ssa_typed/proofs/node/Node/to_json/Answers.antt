use Rattle.std.proofs.Common.{◌∙◌}
use Rattle.ssa_typed.proofs.Showing.{shown-there}
use Rattle.ssa_typed.proofs.node.Node.to_json.Goals as goal

pub returns-clause-shown : goal.returns-clause-shown
returns-clause-shown c kind place path whole ordered body at is =
    c.in_ok-value.ensures ∙ shown-there c.args.self.now kind place path whole c.requires ordered body at is
