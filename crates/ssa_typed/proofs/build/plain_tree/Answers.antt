use Rattle.std.proofs.Common.{◌≡◌, sym, ap, ◌∙◌, subst₂}
use Rattle.ssa_model.specs.definitions.Kind as model
use Rattle.ssa_json.specs.View.{view, items_view}
use Rattle.ssa_schema.specs.Kinds.{kind_view, scalar_kind_view}
use Rattle.ssa_model.specs.laws.Faultless.{Fits}
use Rattle.ssa_typed.proofs.Trees.{kind_view-SetOf, set-made}
use Rattle.ssa_typed.proofs.build.plain_tree.Goals as goal

pub returns-in_ok-children-in-SetOf : goal.returns-in_ok-children-in-SetOf
returns-in_ok-children-in-SetOf c =
    let is : kind_view c.args.kind.now ≡ model.set_of (scalar_kind_view c.in-SetOf.inside) = ap kind_view c.in-SetOf.is ∙ kind_view-SetOf c.in-SetOf.inside in
    set-made c.in_ok-children-in-SetOf.children (kind_view c.args.kind.now) (view c.args.value) (scalar_kind_view c.in-SetOf.inside)
    (items_view c.into_items.result.items)
    (sym is) (sym c.into_items.ensures) (subst₂ Fits is c.into_items.ensures c.requires.fits) c.in_ok-children-in-SetOf.ensures
