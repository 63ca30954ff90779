use Rattle.std.proofs.Common.{◌≡◌, suc, ◌-◌, arith, [], ◌∷◌, ◌++◌, map, take, true, sym, ap, ◌∙◌, subst, ◌+◌}
use Rattle.std.proofs.lemmas.List.{take_all, take_more}
use Rattle.ssa_members.specs.Members.{IsRising}
use Rattle.ssa_schema.specs.Kinds.{kind_view, fields_view}
use Rattle.ssa_schema.proofs.Ordered.{all_ordered, fields-ordered, ordered-push}
use Rattle.ssa_schema.proofs.Made.{asked, made-more, made-rises}
use Rattle.ssa_schema.proofs.Kinding.{fields-made, kind_view-none, kind_view-AtomicOf, kind_at_atomic, kind_at_none, kind_at_object, kind_at_list, kind_at_scalar}
use Rattle.std.proofs.lemmas.Result.{IfOk-weaker}
use Rattle.ssa_json.specs.View.{view, members_view, items_view, scalar_view}
use Rattle.ssa_json.proofs.Views.{view-Object}
use Rattle.ssa_schema.specs.Builds.{shape_at, kind_at}
use Rattle.ssa_model.specs.definitions.Json.{object}
use Rattle.ssa_model.specs.definitions.Lawful.{are_ordered}
use Rattle.ssa_model.specs.definitions.Schema.{kind_fields}
use Rattle.ssa_model.specs.definitions.Kind.{atomic_of}
use Rattle.ssa_schema.proofs.Distinct.{view-List, view-Scalar}
use Rattle.ssa_schema.proofs.read.build.+kinds.Goals as goal

pub kinds_of-loop-name-preserved : goal.kinds_of-loop-name-preserved
kinds_of-loop-name-preserved t c =
    let l = c.loop-name in
    let es = c.entries-name-items.result.now in
    let e = c.loop-name-item.result in
    let done = take l.name-index es in
    let more : take (l.name-index + 1) es ≡ done ++ e ∷ [] = take_more es l.name-index e (omega arith) ∙ ap (λ y. done ++ y ∷ []) (sym c.loop-name-item.is) in
    record {
      same = made-more kind_view (kind_at c.args.levels) done e l.found.items _ c.in_ok-key.key c.in_ok-kind_of.field-0
          l.invariant.same c.in_ok-push.ensures.items c.in_ok-key.ensures c.in_ok-kind_of.ensures.kind
          ∙ ap (map (asked (kind_at c.args.levels))) (sym more);
      ordered = subst (λ fs. all_ordered fs ≡ true) (sym c.in_ok-push.ensures.items)
          (ordered-push l.found.items (c.in_ok-key.key, c.in_ok-kind_of.field-0) l.invariant.ordered c.in_ok-kind_of.ensures.ordered);
    }

pub kinds_of-of_rising-requires : goal.kinds_of-of_rising-requires
kinds_of-of_rising-requires t c =
    let l = c.loop-name in
    let es = c.entries-name-items.result.now in
    let rise : IsRising es = subst IsRising (sym c.entries-name-items.ensures.all) c.entries-name-items.ensures.ordered in
    made-rises kind_view (kind_at c.args.levels) l.found.items es (l.invariant.same ∙ ap (map (asked (kind_at c.args.levels))) (take_all l.name-index es (omega arith))) rise

pub kinds_of-returns-clause-kind : goal.kinds_of-returns-clause-kind
kinds_of-returns-clause-kind t c =
    let l = c.loop-name in
    let es = c.entries-name-items.result.now in
    ap fields_view c.of_rising.ensures ∙ fields-made c.args.levels l.found.items es (l.invariant.same ∙ ap (map (asked (kind_at c.args.levels))) (take_all l.name-index es (omega arith)))
    ∙ ap (λ es. kind_fields (kind_at c.args.levels) (members_view es)) c.entries-name-items.ensures.all

pub kinds_of-returns-clause-ordered : goal.kinds_of-returns-clause-ordered
kinds_of-returns-clause-ordered t c =
    let l = c.loop-name in
    let es = c.entries-name-items.result.now in
    let rise : IsRising es = subst IsRising (sym c.entries-name-items.ensures.all) c.entries-name-items.ensures.ordered in
    ap (λ fs. are_ordered (fields_view fs)) c.of_rising.ensures
    ∙ fields-ordered l.found.items (made-rises kind_view (kind_at c.args.levels) l.found.items es
    (l.invariant.same ∙ ap (map (asked (kind_at c.args.levels))) (take_all l.name-index es (omega arith))) rise) l.invariant.ordered

pub kind_of-returns-then-levels-eq0-clause-kind : goal.kind_of-returns-then-levels-eq0-clause-kind
kind_of-returns-then-levels-eq0-clause-kind t c =
    let none : c.args.levels ≡ 0 = omega arith in
    let v = view c.args.schema.now in
    kind_view-none c.new.result c.new.ensures.empty ∙ sym (kind_at_none v) ∙ ap (λ n. kind_at n v) (sym none)

pub kind_of-returns-in_ok-shape_of-in-Object-clause-kind : goal.kind_of-returns-in_ok-shape_of-in-Object-clause-kind
kind_of-returns-in_ok-shape_of-in-Object-clause-kind t c =
    let ms = members_view c.in-Object.members.entries in
    let below = c.args.levels - 1 in
    let more : c.args.levels ≡ suc below = omega arith in
    let seen : view c.args.schema.now ≡ object ms = ap view c.in-Object.is ∙ view-Object c.in-Object.members in
    kind_view-AtomicOf c.in_ok-shape_of-in-Object.field-0
    ∙ ap atomic_of c.in_ok-shape_of-in-Object.ensures
    ∙ (λ i. atomic_of (shape_at (more i) (seen i)))
    ∙ sym (kind_at_atomic below ms (sym c.is_atomic.ensures ∙ c.if-is_atomic.true))
    ∙ sym (λ i. kind_at (more i) (seen i))

pub kind_of-returns-else-is_atomic-clause-kind : goal.kind_of-returns-else-is_atomic-clause-kind
kind_of-returns-else-is_atomic-clause-kind t c =
    let more : suc (c.args.levels - 1) ≡ c.args.levels = omega arith in
    IfOk-weaker c.kind_of_object.result _ _
    (λ k made. made ∙ sym (kind_at_object (c.args.levels - 1) (members_view c.in-Object.members.entries) (sym c.is_atomic.ensures ∙ c.if-is_atomic.false))
    ∙ (λ i. kind_at (more i) (sym (view-Object c.in-Object.members) i))
    ∙ ap (λ v. kind_at c.args.levels (view v)) (sym c.in-Object.is))
    c.kind_of_object.ensures.kind

pub kind_of-returns-in-List-clause-kind : goal.kind_of-returns-in-List-clause-kind
kind_of-returns-in-List-clause-kind t c =
    let more : suc (c.args.levels - 1) ≡ c.args.levels = omega arith in
    kind_view-none c.new-in-List.result c.new-in-List.ensures.empty
    ∙ sym (kind_at_list (c.args.levels - 1) (items_view c.in-List.field-0.items))
    ∙ (λ i. kind_at (more i) (sym (view-List c.in-List.field-0) i))
    ∙ ap (λ v. kind_at c.args.levels (view v)) (sym c.in-List.is)

pub kind_of-returns-in-Scalar-clause-kind : goal.kind_of-returns-in-Scalar-clause-kind
kind_of-returns-in-Scalar-clause-kind t c =
    let more : suc (c.args.levels - 1) ≡ c.args.levels = omega arith in
    kind_view-none c.new-in-Scalar.result c.new-in-Scalar.ensures.empty
    ∙ sym (kind_at_scalar (c.args.levels - 1) (scalar_view c.in-Scalar.field-0))
    ∙ (λ i. kind_at (more i) (sym (view-Scalar c.in-Scalar.field-0) i))
    ∙ ap (λ v. kind_at c.args.levels (view v)) (sym c.in-Scalar.is)
