use Rattle.ssa_members.proofs.Searching.{value-absent}
use Rattle.ssa_members.proofs.members.Members.find.Goals as goal

pub returns-in-Err : goal.returns-in-Err
returns-in-Err g c = value-absent c.args.name.now c.args.self.now.entries c.in-Err.field-0 c.in-Err.ensures
