use Rattle.std.proofs.Common.{◌≡◌, suc, ◌-◌, ◌++◌, sym, ap, ◌∙◌, arith}
use Rattle.std.proofs.lemmas.Result.{IfOk-weaker}
use Rattle.ssa_json.specs.View.{view, members_view, items_view, scalar_view}
use Rattle.ssa_json.proofs.Views.{view-Object}
use Rattle.ssa_model.specs.definitions.Schema.{SchemaFault, child_faults, item_faults, property_faults, property_members, optional_faults, standing_inside}
use Rattle.ssa_model.specs.definitions.Json.{member_of}
use Rattle.std.specs.Prelude.{Option, option_map, codes}
use Rattle.ssa_schema.specs.Standings.{standing_view}
use Rattle.ssa_schema.specs.declared.read.refusal.Refusal.{Refusal}
use Rattle.ssa_schema.specs.Refusals.{refusal_view, first_of, own_faults, faults_at}
use Rattle.ssa_schema.proofs.Distinct.{view-List, view-Scalar}
use Rattle.ssa_schema.proofs.Firsts.{first_here, first_later, faults_at_none, faults_at_list, faults_at_scalar, faults_at_object}
use Rattle.ssa_schema.proofs.read.walk.+walk.Goals as goal

abbrev seen : Option Refusal → Option SchemaFault
seen = option_map refusal_view

pub first_refusal-returns-then-levels-eq0 : goal.first_refusal-returns-then-levels-eq0
first_refusal-returns-then-levels-eq0 t c =
    let none : c.args.levels ≡ 0 = omega arith in
    let s = standing_view c.args.standing in
    let v = view c.args.schema.now in
    sym (faults_at_none s v) ∙ ap (λ n. first_of (faults_at n s v)) (sym none)

pub first_refusal-returns-in-Object : goal.first_refusal-returns-in-Object
first_refusal-returns-in-Object t c =
    let more : suc (c.args.levels - 1) ≡ c.args.levels = omega arith in
    let s = standing_view c.args.standing in
    IfOk-weaker c.object_refusal.result _ _
    (λ r is. is ∙ sym (faults_at_object (c.args.levels - 1) s (members_view c.in-Object.members.entries))
    ∙ (λ i. first_of (faults_at (more i) s (sym (view-Object c.in-Object.members) i)))
    ∙ ap (λ v. first_of (faults_at c.args.levels s (view v))) (sym c.in-Object.is))
    c.object_refusal.ensures

pub first_refusal-returns-in-List : goal.first_refusal-returns-in-List
first_refusal-returns-in-List t c =
    let more : suc (c.args.levels - 1) ≡ c.args.levels = omega arith in
    let s = standing_view c.args.standing in
    sym (faults_at_list (c.args.levels - 1) s (items_view c.in-List.field-0.items))
    ∙ (λ i. first_of (faults_at (more i) s (sym (view-List c.in-List.field-0) i)))
    ∙ ap (λ v. first_of (faults_at c.args.levels s (view v))) (sym c.in-List.is)

pub first_refusal-returns-in-Scalar : goal.first_refusal-returns-in-Scalar
first_refusal-returns-in-Scalar t c =
    let more : suc (c.args.levels - 1) ≡ c.args.levels = omega arith in
    let s = standing_view c.args.standing in
    sym (faults_at_scalar (c.args.levels - 1) s (scalar_view c.in-Scalar.field-0))
    ∙ (λ i. first_of (faults_at (more i) s (sym (view-Scalar c.in-Scalar.field-0) i)))
    ∙ ap (λ v. first_of (faults_at c.args.levels s (view v))) (sym c.in-Scalar.is)

pub inner_refusal-returns-in-Some-2 : goal.inner_refusal-returns-in-Some-2
inner_refusal-returns-in-Some-2 t c =
    let ms = members_view c.args.members.now.entries in
    let read = faults_at c.args.levels (standing_view c.args.standing) in
    first_later (property_faults read (property_members ms)) _ _ (ap seen (sym c.in_default.is) ∙ c.in_ok-refusal.ensures)
    (first_here (optional_faults read (member_of (codes "additionalProperties") ms)) (optional_faults read (member_of (codes "items") ms)) _
    (ap seen (sym c.in-Some-2.is) ∙ c.in_ok-refusal-2.ensures))

pub inner_refusal-returns : goal.inner_refusal-returns
inner_refusal-returns t c =
    let ms = members_view c.args.members.now.entries in
    let read = faults_at c.args.levels (standing_view c.args.standing) in
    IfOk-weaker c.member_refusal-2.result _ _
    (λ r is. first_later (property_faults read (property_members ms)) _ _ (ap seen (sym c.in_default.is) ∙ c.in_ok-refusal.ensures)
    (first_later (optional_faults read (member_of (codes "additionalProperties") ms)) (optional_faults read (member_of (codes "items") ms)) _
    (ap seen (sym c.in_default-2.is) ∙ c.in_ok-refusal-2.ensures) is))
    c.member_refusal-2.ensures

pub object_refusal-returns-in-Some : goal.object_refusal-returns-in-Some
object_refusal-returns-in-Some t c =
    let ms = members_view c.args.members.now.entries in
    let s = standing_view c.args.standing in
    first_here (own_faults s ms) (child_faults (faults_at c.args.levels (standing_inside s ms)) ms ++ item_faults ms) _ (ap seen (sym c.in-Some.is)
    ∙ c.in_ok-refusal.ensures)

pub object_refusal-returns-in-Some-2 : goal.object_refusal-returns-in-Some-2
object_refusal-returns-in-Some-2 t c =
    let ms = members_view c.args.members.now.entries in
    let s = standing_view c.args.standing in
    let inner = child_faults (faults_at c.args.levels (standing_inside s ms)) ms in
    first_later (own_faults s ms) (inner ++ item_faults ms) _ (ap seen (sym c.in_default.is) ∙ c.in_ok-refusal.ensures)
    (first_here inner (item_faults ms) _ (ap seen (sym c.in-Some-2.is) ∙ c.in_ok-refusal-2.ensures
    ∙ ap (λ s'. first_of (child_faults (faults_at c.args.levels s') ms)) c.inside.ensures))

pub object_refusal-returns : goal.object_refusal-returns
object_refusal-returns t c =
    let ms = members_view c.args.members.now.entries in
    let s = standing_view c.args.standing in
    let inner = child_faults (faults_at c.args.levels (standing_inside s ms)) ms in
    first_later (own_faults s ms) (inner ++ item_faults ms) _ (ap seen (sym c.in_default.is) ∙ c.in_ok-refusal.ensures)
    (first_later inner (item_faults ms) _ (ap seen (sym c.in_default-2.is) ∙ c.in_ok-refusal-2.ensures
    ∙ ap (λ s'. first_of (child_faults (faults_at c.args.levels s') ms)) c.inside.ensures) c.items_refusal.ensures)
