use Rattle.std.proofs.Common.{◌∙◌, sym, ap}
use Rattle.std.proofs.lemmas.Result.{IfOk-weaker}
use Rattle.ssa_model.specs.definitions.PathMap.{union}
use Rattle.ssa_merge.proofs.GivenUp.{meet-none, minus-none}
use Rattle.ssa_merge.proofs.change.owned_with.Goals as goal

pub returns-then-is_empty : goal.returns-then-is_empty
returns-then-is_empty c =
    let gained = c.args.gained.now in
    let stay = minus-none c.args.set.now c.args.gone.now (meet-none c.args.set.now c.args.gone.now (sym c.is_empty.ensures ∙ c.if-is_empty.true)) in
    IfOk-weaker c.union.result _ _ (λ s same. same ∙ ap (λ t. union t gained) stay) c.union.ensures

pub returns : goal.returns
returns c =
    let gained = c.args.gained.now in
    IfOk-weaker c.union-2.result _ _ (λ s same. same ∙ ap (λ t. union t gained) c.in_ok-stayed.ensures) c.union-2.ensures
