use Rattle.std.proofs.Common.{ap, ◌∙◌}
use Rattle.ssa_model.specs.definitions.Objects.{with_member}
use Rattle.ssa_json.specs.View.{view, members_view}
use Rattle.ssa_json.proofs.PutMembers.{inserted}
use Rattle.ssa_json.proofs.members.put_member.Goals as goal

pub returns-clause-ok : goal.returns-clause-ok
returns-clause-ok c =
    let old = c.args.members.now.entries in
    ap members_view c.in_ok-insert.ensures.entries ∙ inserted c.in_ok-key.key c.args.value old
    ∙ ap (λ n. with_member n (view c.args.value) (members_view old)) c.in_ok-key.ensures.ok
