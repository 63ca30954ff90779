use Rattle.std.proofs.Common.{sym, refl, ◌∙◌}
use Rattle.std.proofs.lemmas.Result.{IfOk-weaker}
use Rattle.ssa_path.specs.View.{element_view}
use Rattle.ssa_turn_set.specs.declared.spare.Spare.TheVariants.{Nothing}
use Rattle.ssa_turn_set.proofs.NewRooms.{serves-new, serves-there}
use Rattle.ssa_turn_set.proofs.making.make_spare_for.Goals as goal

pub returns-then-coming-eq0 : goal.returns-then-coming-eq0
returns-then-coming-eq0 c = λ ps is. serves-there (element_view c.args.element.now) ps Nothing (sym c.if-coming-eq0.true ∙ is) refl

pub returns : goal.returns
returns c =
    IfOk-weaker c.make_spare.result _ _ (λ s room. λ ps is. serves-new (element_view c.args.element.now) ps s c.args.coming c.if-coming-eq0.false is room)
    c.make_spare.ensures
