use Rattle.std.proofs.Common.{Bool, [], ◌∷◌, ◌++◌, not, refl, ap, sym, ◌∙◌}
use Rattle.ssa_model.specs.definitions.Path.{Element}
use Rattle.ssa_model.specs.definitions.PathMap.{has}
use Rattle.ssa_path.specs.View.{path_view}
use Rattle.ssa_record.specs.Places.{maps_of}
use Rattle.ssa_record.specs.Refilled.{lent_elements}
use Rattle.ssa_record.proofs.ItemsRead.{stays-more, stays-same}
use Rattle.ssa_record.proofs.order_after.staying.Goals as goal
use Rattle.ssa_record.proofs.order_after.staying.Goals.{then-not-is_cut+in_ok-push, else-not-is_cut}

pub loop-element-preserved : goal.loop-element-preserved
loop-element-preserved c =
    let test : Element → Bool = λ e. not (has (maps_of c.args.told.now).cut (path_view c.args.path.now ++ e ∷ [])) in
    let cs = c.args.children.now in
    let i = c.loop-element.element-index in
    let d = c.loop-element-item.result in
    elim c.if-not-is_cut.branch [
      | then-not-is_cut+in_ok-push w ↦
          (λ k. lent_elements (w.stays-is k).items)
          ∙ stays-more test cs i d c.loop-element-test.true c.loop-element-item.is _ c.loop-element.stays.items w.push.new.self.items refl
          (ap not (sym c.is_cut.ensures ∙ w.if-not-is_cut.true)) c.loop-element.invariant w.in_ok-push.ensures.items
      | else-not-is_cut w ↦
          (λ k. lent_elements (w.stays-is k).items)
          ∙ stays-same test cs i d c.loop-element-test.true c.loop-element-item.is c.loop-element.stays.items
          (ap not (sym c.is_cut.ensures ∙ w.if-not-is_cut.false)) c.loop-element.invariant
    ]
