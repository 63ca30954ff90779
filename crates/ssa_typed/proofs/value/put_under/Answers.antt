use Rattle.std.proofs.Common.{ap, sym, ◌∙◌}
use Rattle.ssa_model.specs.definitions.Objects.{with_member}
use Rattle.ssa_json.specs.View.{view, members_view}
use Rattle.ssa_path.specs.View.{element_view}
use Rattle.ssa_typed.specs.Values.{with_member_under}
use Rattle.ssa_typed.proofs.Values.{inserted}
use Rattle.ssa_typed.proofs.value.put_under.Goals as goal

pub returns-in_ok-insert-in-Field-clause-put : goal.returns-in_ok-insert-in-Field-clause-put
returns-in_ok-insert-in-Field-clause-put c =
    let old = c.args.members.now.entries in
    ap members_view c.in_ok-insert-in-Field.ensures.entries ∙ inserted c.in_ok-key-in-Field.key c.args.value old
    ∙ ap (λ n. with_member n (view c.args.value) (members_view old)) (c.in_ok-key-in-Field.ensures.ok ∙ c.as_str.ensures.value)
    ∙ sym (ap (λ e. with_member_under (element_view e) (view c.args.value) (members_view old)) c.in-Field.is)
