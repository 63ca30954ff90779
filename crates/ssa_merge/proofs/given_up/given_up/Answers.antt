use Rattle.std.proofs.Common.{◌∙◌}
use Rattle.ssa_merge.specs.Managers.{key_view}
use Rattle.ssa_merge.specs.States.{state_view}
use Rattle.ssa_merge.proofs.GivenUp.{dropped-absent}
use Rattle.ssa_merge.proofs.given_up.given_up.Goals as goal

pub returns : goal.returns
returns c =
    c.unneeded.ensures
    ∙ dropped-absent (state_view c.args.state.now) (key_view c.args.key.now) c.args.config.now c.in_ok-absent.absent _ c.in_ok-absent.ensures c.entries.ensures.same
