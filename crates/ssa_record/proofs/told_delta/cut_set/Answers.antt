use Rattle.std.proofs.Common.{◌<◌, ap, subst, refl, ◌∙◌, get_or, length, arith}
use Rattle.std.proofs.lemmas.List.{take_all}
use Rattle.ssa_model.specs.definitions.PathMap.{empty}
use Rattle.ssa_path.specs.View.{path_view}
use Rattle.ssa_turn_body.specs.Records.{at_place, cuts_in, told_by}
use Rattle.ssa_record.specs.Places.{told_paths}
use Rattle.ssa_record.specs.ToldEntries.{AddsPaths}
use Rattle.ssa_record.proofs.CutPaths.{cuts-all, cuts-more}
use Rattle.ssa_record.proofs.told_delta.cut_set.Goals as goal

pub loop-step-preserved : goal.loop-step-preserved
loop-step-preserved c =
    let ss = c.args.changes.now.steps.items in
    let i = c.loop-step.step-index in
    let r = c.step-item.result in
    let lent = c.deref-step-items.ensures.value in
    let own = subst (λ es. AddsPaths (told_paths (at_place (path_view es) (cuts_in r.change))) c.loop-step.cut c.add_cut.new.cut) c.deref.ensures.value
    c.in_ok-add_cut.ensures in
    cuts-more ss i r empty c.loop-step.cut c.add_cut.new.cut (subst (λ xs. i < length xs) lent c.loop-step-test.true) (c.step-item.is
    ∙ ap (λ xs. get_or xs i r) lent) c.loop-step.invariant own

pub returns : goal.returns
returns c =
    let ss = c.args.changes.now.steps.items in
    let i = c.loop-step.step-index in
    let all = take_all i ss (omega (arith, c.loop-step-test.false, ap length c.deref-step-items.ensures.value)) in
    cuts-all ss empty c.loop-step.cut refl (subst (λ xs. AddsPaths (told_paths (told_by cuts_in xs)) empty c.loop-step.cut) all c.loop-step.invariant)
