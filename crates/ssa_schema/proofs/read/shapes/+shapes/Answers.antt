use Rattle.std.proofs.Common.{◌≡◌, suc, ◌-◌, arith, [], ◌∷◌, ◌++◌, map, take, sym, ap, ◌∙◌, subst, ◌+◌}
use Rattle.std.proofs.lemmas.List.{take_all, take_more}
use Rattle.ssa_members.specs.Members.{IsRising}
use Rattle.ssa_schema.specs.Kinds.{shape_view, shape_fields_view}
use Rattle.ssa_schema.proofs.Made.{asked, made-more, made-rises}
use Rattle.ssa_schema.proofs.Shaping.{fields-made, shape_view-none, shape_at_none, shape_at_object, shape_at_list, shape_at_scalar}
use Rattle.std.proofs.lemmas.Result.{IfOk-weaker}
use Rattle.ssa_model.specs.definitions.Schema.{shape_fields}
use Rattle.ssa_json.specs.View.{view, members_view, items_view, scalar_view}
use Rattle.ssa_json.proofs.Views.{view-Object}
use Rattle.ssa_schema.specs.Builds.{shape_at}
use Rattle.ssa_schema.proofs.Distinct.{view-List, view-Scalar}
use Rattle.ssa_schema.proofs.read.shapes.+shapes.Goals as goal

pub shapes_of-loop-name-preserved : goal.shapes_of-loop-name-preserved
shapes_of-loop-name-preserved t c =
    let l = c.loop-name in
    let es = c.entries-name-items.result.now in
    let e = c.loop-name-item.result in
    let done = take l.name-index es in
    let more : take (l.name-index + 1) es ≡ done ++ e ∷ [] = take_more es l.name-index e (omega arith) ∙ ap (λ y. done ++ y ∷ []) (sym c.loop-name-item.is) in
    made-more shape_view (shape_at c.args.levels) done e l.found.items _ c.in_ok-key.key c.in_ok-shape_of.field-0
    l.invariant c.in_ok-push.ensures.items c.in_ok-key.ensures c.in_ok-shape_of.ensures
    ∙ ap (map (asked (shape_at c.args.levels))) (sym more)

pub shapes_of-of_rising-requires : goal.shapes_of-of_rising-requires
shapes_of-of_rising-requires t c =
    let l = c.loop-name in
    let es = c.entries-name-items.result.now in
    let rise : IsRising es = subst IsRising (sym c.entries-name-items.ensures.all) c.entries-name-items.ensures.ordered in
    made-rises shape_view (shape_at c.args.levels) l.found.items es (l.invariant ∙ ap (map (asked (shape_at c.args.levels))) (take_all l.name-index es (omega arith))) rise

pub shapes_of-returns : goal.shapes_of-returns
shapes_of-returns t c =
    let l = c.loop-name in
    let es = c.entries-name-items.result.now in
    ap shape_fields_view c.of_rising.ensures ∙ fields-made c.args.levels l.found.items es (l.invariant ∙ ap (map (asked (shape_at c.args.levels))) (take_all l.name-index es (omega arith)))
    ∙ ap (λ es. shape_fields (shape_at c.args.levels) (members_view es)) c.entries-name-items.ensures.all

pub shape_of-returns-then-levels-eq0 : goal.shape_of-returns-then-levels-eq0
shape_of-returns-then-levels-eq0 t c =
    let none : c.args.levels ≡ 0 = omega arith in
    let v = view c.args.schema.now in
    shape_view-none c.new.result c.new.ensures.empty ∙ sym (shape_at_none v) ∙ ap (λ n. shape_at n v) (sym none)

pub shape_of-returns-in-Object : goal.shape_of-returns-in-Object
shape_of-returns-in-Object t c =
    let more : suc (c.args.levels - 1) ≡ c.args.levels = omega arith in
    IfOk-weaker c.shape_of_object.result _ _
    (λ s made. made ∙ sym (shape_at_object (c.args.levels - 1) (members_view c.in-Object.members.entries))
    ∙ (λ i. shape_at (more i) (sym (view-Object c.in-Object.members) i))
    ∙ ap (λ v. shape_at c.args.levels (view v)) (sym c.in-Object.is))
    c.shape_of_object.ensures

pub shape_of-returns-in-List : goal.shape_of-returns-in-List
shape_of-returns-in-List t c =
    let more : suc (c.args.levels - 1) ≡ c.args.levels = omega arith in
    shape_view-none c.new-in-List.result c.new-in-List.ensures.empty
    ∙ sym (shape_at_list (c.args.levels - 1) (items_view c.in-List.field-0.items))
    ∙ (λ i. shape_at (more i) (sym (view-List c.in-List.field-0) i))
    ∙ ap (λ v. shape_at c.args.levels (view v)) (sym c.in-List.is)

pub shape_of-returns-in-Scalar : goal.shape_of-returns-in-Scalar
shape_of-returns-in-Scalar t c =
    let more : suc (c.args.levels - 1) ≡ c.args.levels = omega arith in
    shape_view-none c.new-in-Scalar.result c.new-in-Scalar.ensures.empty
    ∙ sym (shape_at_scalar (c.args.levels - 1) (scalar_view c.in-Scalar.field-0))
    ∙ (λ i. shape_at (more i) (sym (view-Scalar c.in-Scalar.field-0) i))
    ∙ ap (λ v. shape_at c.args.levels (view v)) (sym c.in-Scalar.is)
