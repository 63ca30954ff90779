use Rattle.std.proofs.Common.{◌∙◌, ap, sym, Some}
use Rattle.std.proofs.lemmas.Result.{IfOk-weaker}
use Rattle.ssa_model.specs.definitions.Operations.{owned_outside}
use Rattle.ssa_model.specs.definitions.PathMap.{is_empty, union}
use Rattle.ssa_merge.specs.Managers.{entry_view, key_view}
use Rattle.ssa_merge.proofs.GivenUp.{union-none}
use Rattle.ssa_merge.proofs.OwnOutside.{outside-none, outside-of}
use Rattle.ssa_merge.proofs.change.with_outside.Goals as goal

pub returns-in-None : goal.returns-in-None
returns-in-None c = outside-none c.args.state.now.managers (key_view c.args.key.now) c.args.points c.in-None.ensures

pub returns-then-is_empty : goal.returns-then-is_empty
returns-then-is_empty c =
    let outside = c.in_ok-outside-in-Some.ensures ∙ outside-of c.args.state.now.managers (key_view c.args.key.now) (Some (entry_view c.in-Some.entry.now)) c.in-Some.ensures in
    union-none c.args.points (owned_outside c.args.state.now.managers (key_view c.args.key.now)) (ap is_empty (sym outside) ∙ sym c.is_empty.ensures ∙ c.if-is_empty.true)

pub returns-else-is_empty : goal.returns-else-is_empty
returns-else-is_empty c =
    let outside = c.in_ok-outside-in-Some.ensures ∙ outside-of c.args.state.now.managers (key_view c.args.key.now) (Some (entry_view c.in-Some.entry.now)) c.in-Some.ensures in
    IfOk-weaker c.union.result _ _ (λ s same. same ∙ ap (union c.args.points) outside) c.union.ensures
