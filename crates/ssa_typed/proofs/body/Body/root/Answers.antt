use Rattle.std.proofs.Common.{subst}
use Rattle.ssa_model.specs.definitions.Valid.{IsRooted}
use Rattle.ssa_typed.proofs.body.Body.root.Goals as goal

pub returns-clause-rooted : goal.returns-clause-rooted
returns-clause-rooted c = subst IsRooted c.self.view_is c.self.invariant.rooted
