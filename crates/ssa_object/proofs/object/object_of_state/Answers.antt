use Rattle.std.proofs.Common.{◌∙◌}
use Rattle.ssa_merge.specs.States.{state_view}
use Rattle.ssa_object.proofs.ShownMembers.{managed-shown}
use Rattle.ssa_object.proofs.object.object_of_state.Goals as goal

pub returns : goal.returns
returns c =
    let state = state_view c.args.state.now in
    c.in_ok-object.ensures
    ∙ managed-shown c.args.identity.now c.args.schema.now.kind c.args.managed state.body state.table c.version.result.now _ _ c.if-not-managed.false
    (λ none. c.if-len-eq0.false (c.len.ensures ∙ none)) c.version.ensures c.in_ok-shown.ensures c.in_ok-entries.ensures
