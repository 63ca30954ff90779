use Rattle.std.proofs.Common.{ap, sym, subst, ◌∙◌}
use Rattle.std.specs.Prelude.{OnOk}
use Rattle.ssa_path.specs.View.{path_view}
use Rattle.ssa_turn_body.specs.Records.{at_place, cuts_in}
use Rattle.ssa_record.specs.LedStates.{paths_after}
use Rattle.ssa_record.specs.Places.{told_paths}
use Rattle.ssa_record.specs.ToldEntries.{AddsPaths}
use Rattle.ssa_record.proofs.CutPaths.{cuts-told}
use Rattle.ssa_record.proofs.told_delta.add_cut.Goals as goal

pub returns-in-Children : goal.returns-in-Children
returns-in-Children c =
    let p = path_view c.args.place.now in
    subst (λ x. OnOk c.add_gone.result (AddsPaths (told_paths (at_place p (cuts_in x))) c.args.cut.now c.add_gone.new.cut)) (sym c.in-Children.is)
    (subst (λ ps. OnOk c.add_gone.result (AddsPaths ps c.args.cut.now c.add_gone.new.cut))
    (ap (λ es. paths_after p (path_view es)) (c.deref-in-Children.ensures.value ∙ ap (λ e. e.gone.elements.items) c.deref.ensures)
    ∙ sym (cuts-told p (path_view c.in-Children.edit.value.gone.elements.items))) c.add_gone.ensures)
