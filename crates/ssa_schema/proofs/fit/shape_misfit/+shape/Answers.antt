use Rattle.std.proofs.Common.{refl, ◌+◌, sym, ap, ◌∙◌, drop, arith, string_bytes}
use Rattle.std.proofs.lemmas.Grind.{common_steps}
use Rattle.ssa_members.proofs.Lent.{lent-within-deepest, next-lent}
use Rattle.ssa_model.specs.definitions.Kind.{shape_faults, shape_field_faults, shape_entry_faults, shape_item_faults}
use Rattle.ssa_json.proofs.value.Json.TheLaws.{the_size}
use Rattle.ssa_json.specs.View.{view, items_view, members_view}
use Rattle.ssa_schema.specs.Kinds.{shape_view, shape_fields_view}
use Rattle.ssa_schema.specs.Refusals.{first_of}
use Rattle.ssa_schema.proofs.Finding.{item_split}
use Rattle.ssa_schema.proofs.MemberWalk.{shape_field_split, shape_field_unknown}
use Rattle.ssa_schema.proofs.Firsts.{first_here, first_later}
use Rattle.ssa_schema.proofs.fit.shape_misfit.+shape.Goals as goal

pub entries_misfit-shape_misfit-requires : goal.entries_misfit-shape_misfit-requires
entries_misfit-shape_misfit-requires t c =
    let deep = lent-within-deepest the_size c.args.members.now.entries c.entries-member-items.result.now c.loop-member.member-index c.loop-member-item.result
    c.entries-member-items.ensures.all (omega arith) c.loop-member-item.is in
    (omega (arith, deep), tt)

pub fields_misfit-shape_misfit-requires : goal.fields_misfit-shape_misfit-requires
fields_misfit-shape_misfit-requires t c =
    let deep = lent-within-deepest the_size c.args.members.now.entries c.entries-name-items.result.now c.loop-name.name-index c.loop-name-item.result
    c.entries-name-items.ensures.all (omega arith) c.loop-name-item.is in
    (omega (arith, deep), tt)

pub fields_misfit-returns-in_default : goal.fields_misfit-returns-in_default
fields_misfit-returns-in_default t c p =
    let fs = shape_fields_view c.args.fields.now.entries in
    let e = c.loop-name-item.result in
    let left = members_view (drop (c.loop-name.name-index + 1) c.entries-name-items.result.now) in
    sym (shape_field_unknown fs (string_bytes e.0) c.as_str.result.now (view e.1) left p c.as_str.ensures.value (sym c.in_default.ensures))
    ∙ ap (λ es. first_of (shape_field_faults fs (members_view es) p))
    (sym (next-lent c.entries-name-items.result.now c.loop-name.name-index e (omega arith) c.loop-name-item.is))
    ∙ sym (c.loop-name.invariant p)

pub entries_misfit-returns-in-Some : goal.entries_misfit-returns-in-Some
entries_misfit-returns-in-Some t c p =
    let s = shape_view c.args.inside.now in
    first_here (shape_faults s (view c.loop-member-item.result.1) p) (shape_entry_faults s (members_view (drop (c.loop-member.member-index + 1) c.entries-member-items.result.now)) p) _ (c.in-Some.ensures p)
    ∙ ap (λ es. first_of (shape_entry_faults s (members_view es) p)) (sym (next-lent c.entries-member-items.result.now c.loop-member.member-index c.loop-member-item.result (omega arith) c.loop-member-item.is))
    ∙ sym (c.loop-member.invariant p)

pub entries_misfit-loop-member-preserved : goal.entries_misfit-loop-member-preserved
entries_misfit-loop-member-preserved t c p =
    let s = shape_view c.args.inside.now in
    c.loop-member.invariant p
    ∙ ap (λ es. first_of (shape_entry_faults s (members_view es) p)) (next-lent c.entries-member-items.result.now c.loop-member.member-index c.loop-member-item.result (omega arith) c.loop-member-item.is)
    ∙ sym (first_later (shape_faults s (view c.loop-member-item.result.1) p) (shape_entry_faults s (members_view (drop (c.loop-member.member-index + 1) c.entries-member-items.result.now)) p) _ (c.in_default.ensures p) refl)

pub entries_misfit-returns : goal.entries_misfit-returns
entries_misfit-returns t c p = grind (arith, common_steps, c.loop-member.invariant p)

pub fields_misfit-returns-in-Some-shape_misfit : goal.fields_misfit-returns-in-Some-shape_misfit
fields_misfit-returns-in-Some-shape_misfit t c p =
    let s = shape_view c.in-Some.shape.now in
    let fs = shape_fields_view c.args.fields.now.entries in
    let left = members_view (drop (c.loop-name.name-index + 1) c.entries-name-items.result.now) in
    first_here (shape_faults s (view c.loop-name-item.result.1) p) (shape_field_faults fs left p) _ (c.in-Some-shape_misfit.ensures p)
    ∙ ap first_of (sym (shape_field_split fs s (string_bytes c.loop-name-item.result.0) c.as_str.result.now (view c.loop-name-item.result.1) left p c.as_str.ensures.value
    (sym c.in-Some.ensures)))
    ∙ ap (λ es. first_of (shape_field_faults fs (members_view es) p)) (sym (next-lent c.entries-name-items.result.now c.loop-name.name-index c.loop-name-item.result (omega arith) c.loop-name-item.is))
    ∙ sym (c.loop-name.invariant p)

pub fields_misfit-loop-name-preserved : goal.fields_misfit-loop-name-preserved
fields_misfit-loop-name-preserved t c p =
    let s = shape_view c.in-Some.shape.now in
    let fs = shape_fields_view c.args.fields.now.entries in
    let left = members_view (drop (c.loop-name.name-index + 1) c.entries-name-items.result.now) in
    c.loop-name.invariant p
    ∙ ap (λ es. first_of (shape_field_faults fs (members_view es) p)) (next-lent c.entries-name-items.result.now c.loop-name.name-index c.loop-name-item.result (omega arith) c.loop-name-item.is)
    ∙ ap first_of (shape_field_split fs s (string_bytes c.loop-name-item.result.0) c.as_str.result.now (view c.loop-name-item.result.1) left p c.as_str.ensures.value
    (sym c.in-Some.ensures))
    ∙ sym (first_later (shape_faults s (view c.loop-name-item.result.1) p) (shape_field_faults fs left p) _ (c.in_default-shape_misfit.ensures p) refl)

pub fields_misfit-returns : goal.fields_misfit-returns
fields_misfit-returns t c p = grind (arith, common_steps, c.loop-name.invariant p)

pub items_misfit-returns-in-Some : goal.items_misfit-returns-in-Some
items_misfit-returns-in-Some t c p =
    let s = shape_view c.args.inside.now in
    let xs = c.args.items.now in
    let i = c.loop-item.item-index in
    first_here (shape_faults s (view c.item-item.result) p) (shape_item_faults s (items_view (drop (i + 1) xs)) p) _ (c.in-Some.ensures p)
    ∙ ap (λ es. first_of (shape_item_faults s (items_view es) p)) (sym (item_split xs i c.item-item.result c.loop-item-test.true c.item-item.is))
    ∙ sym (c.loop-item.invariant p)

pub items_misfit-loop-item-preserved : goal.items_misfit-loop-item-preserved
items_misfit-loop-item-preserved t c p =
    let s = shape_view c.args.inside.now in
    let xs = c.args.items.now in
    let i = c.loop-item.item-index in
    c.loop-item.invariant p
    ∙ ap (λ es. first_of (shape_item_faults s (items_view es) p)) (item_split xs i c.item-item.result c.loop-item-test.true c.item-item.is)
    ∙ sym (first_later (shape_faults s (view c.item-item.result) p) (shape_item_faults s (items_view (drop (i + 1) xs)) p) _ (c.in_default.ensures p) refl)
