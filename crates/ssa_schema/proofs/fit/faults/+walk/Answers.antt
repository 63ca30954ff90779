use Rattle.std.proofs.Common.{◌≡◌, ◌+◌, ◌++◌, [], ◌∷◌, drop, string_bytes, sym, ap, subst, ◌∙◌, arith}
use Rattle.std.proofs.lemmas.Grind.{common_steps}
use Rattle.std.proofs.lemmas.Result.{IfOk-weaker}
use Rattle.std.specs.Prelude.{Some, option_map}
use Rattle.ssa_members.proofs.Lent.{lent-within-deepest, next-lent}
use Rattle.ssa_model.specs.definitions.Json.{list}
use Rattle.ssa_model.specs.definitions.Path.{field, element_text, same_element}
use Rattle.ssa_model.specs.definitions.Kind.{faults, field_faults, entry_faults, item_faults, unknown_field, items_of, item_key, fault_at}
use Rattle.ssa_json.proofs.value.Json.TheLaws.{the_size}
use Rattle.ssa_json.specs.View.{view, items_view, members_view}
use Rattle.ssa_schema.specs.Kinds.{kind_view, fields_view, names_view}
use Rattle.ssa_schema.specs.Refusals.{first_of}
use Rattle.ssa_schema.specs.Finds.{Finds, told, keyed_faults}
use Rattle.ssa_schema.specs.Repeats.{repeat_from, leading_keys}
use Rattle.ssa_schema.specs.declared.fit.found.Misfit.TheVariants.{UnknownField}
use Rattle.ssa_schema.proofs.Distinct.{view-List}
use Rattle.ssa_schema.proofs.Kinding.{kind_view-ItemsOf}
use Rattle.ssa_schema.proofs.Leading.{lead-key, other-test, repeat-next}
use Rattle.ssa_schema.proofs.Finding.{finds_from, finds_first, finds_below, finds_child, item_fits, item_split}
use Rattle.ssa_schema.proofs.MemberWalk.{member_found, member_fits, field_split, field_unknown}
use Rattle.ssa_schema.proofs.ItemWalk.{item_wrong, no_object, item_key_wrong, object_split, keyed_split, kept-new}
use Rattle.ssa_schema.proofs.fit.faults.+walk.Goals as goal

pub entries_fault-value_fault-requires : goal.entries_fault-value_fault-requires
entries_fault-value_fault-requires t c =
    let deep = lent-within-deepest the_size c.args.members.now.entries c.entries-name-items.result.now c.loop-name.name-index c.loop-name-item.result
    c.entries-name-items.ensures.all (omega arith) c.loop-name-item.is in
    (omega (arith, deep), tt)

pub fields_fault-value_fault-requires : goal.fields_fault-value_fault-requires
fields_fault-value_fault-requires t c =
    let deep = lent-within-deepest the_size c.args.members.now.entries c.entries-name-items.result.now c.loop-name.name-index c.loop-name-item.result
    c.entries-name-items.ensures.all (omega arith) c.loop-name-item.is in
    (omega (arith, deep), tt)

pub entries_fault-returns-in-Some : goal.entries_fault-returns-in-Some
entries_fault-returns-in-Some t c =
    let k = kind_view c.args.inside.now in
    member_found c.in_ok-found.field-0 c.in-Some.found c.in_ok-below.field-0 (string_bytes c.loop-name-item.result.0) c.as_str.result.now c.in_ok-field_name.field-0
    (entry_faults k (members_view c.args.members.now.entries)) (faults k (view c.loop-name-item.result.1)) (entry_faults k (members_view (drop (c.loop-name.name-index + 1) c.entries-name-items.result.now)))
    (λ p. c.loop-name.invariant p ∙ ap (λ es. first_of (entry_faults k (members_view es) p)) (next-lent c.entries-name-items.result.now c.loop-name.name-index c.loop-name-item.result (omega arith) c.loop-name-item.is))
    c.in-Some.is c.in_ok-found.ensures c.as_str.ensures.value c.in_ok-field_name.ensures c.in_ok-below.ensures.misfit c.in_ok-below.ensures.path

pub entries_fault-loop-name-preserved : goal.entries_fault-loop-name-preserved
entries_fault-loop-name-preserved t c =
    let k = kind_view c.args.inside.now in
    member_fits c.in_ok-found.field-0 (string_bytes c.loop-name-item.result.0)
    (entry_faults k (members_view c.args.members.now.entries)) (faults k (view c.loop-name-item.result.1)) (entry_faults k (members_view (drop (c.loop-name.name-index + 1) c.entries-name-items.result.now)))
    (λ p. c.loop-name.invariant p ∙ ap (λ es. first_of (entry_faults k (members_view es) p)) (next-lent c.entries-name-items.result.now c.loop-name.name-index c.loop-name-item.result (omega arith) c.loop-name-item.is))
    c.in_default.is c.in_ok-found.ensures

pub entries_fault-returns : goal.entries_fault-returns
entries_fault-returns t c p = grind (arith, common_steps, c.loop-name.invariant p)

pub value_fault-returns-in-ItemsOf-List : goal.value_fault-returns-in-ItemsOf-List
value_fault-returns-in-ItemsOf-List t c =
    let w = c.in-ItemsOf-List in
    let kind : kind_view c.args.kind.now ≡ items_of (names_view c.deref-in-ItemsOf-List-2.result.now) (fields_view w.fields.entries) =
    ap kind_view w.is-0 ∙ kind_view-ItemsOf w.keys w.fields ∙ ap (λ ks. items_of (names_view ks) (fields_view w.fields.entries))
    (sym c.deref-in-ItemsOf-List-2.ensures.value) in
    let value : view c.args.value.now ≡ list (items_view c.deref-in-ItemsOf-List.result.now) =
    ap view w.is-1 ∙ view-List w.items ∙ ap (λ xs. list (items_view xs)) (sym c.deref-in-ItemsOf-List.ensures.value) in
    IfOk-weaker c.items_fault.result _ _ (λ f is p. is p ∙ (λ i. option_map told (first_of (faults (sym kind i) (sym value i) p)))) c.items_fault.ensures

pub fields_fault-returns-in_default : goal.fields_fault-returns-in_default
fields_fault-returns-in_default t c =
    let fs = fields_view c.args.fields.now.entries in
    let n = string_bytes c.loop-name-item.result.0 in
    let text = c.in_ok-field_name.ensures ∙ ap (λ x. element_text (field x)) c.as_str-in_default.ensures.value in
    finds_from (Some c.in_ok-below.field-0) (field_faults fs (members_view c.args.members.now.entries)) (λ p. fault_at unknown_field (p ++ field n ∷ []) ∷ [])
    (λ p. c.loop-name.invariant p ∙ ap (λ es. first_of (field_faults fs (members_view es) p)) (next-lent c.entries-name-items.result.now c.loop-name.name-index c.loop-name-item.result (omega arith) c.loop-name-item.is)
    ∙ field_unknown fs n c.as_str.result.now (view c.loop-name-item.result.1) (members_view (drop (c.loop-name.name-index + 1) c.entries-name-items.result.now)) p c.as_str.ensures.value (sym c.in_default.ensures))
    (finds_child c.here-unknown.result c.in_ok-below.field-0 UnknownField (field n) c.in_ok-field_name.field-0 c.here-unknown.ensures.misfit
    c.here-unknown.ensures.path text c.in_ok-below.ensures.misfit c.in_ok-below.ensures.path)

pub fields_fault-returns-in-Some-2 : goal.fields_fault-returns-in-Some-2
fields_fault-returns-in-Some-2 t c =
    let fs = fields_view c.args.fields.now.entries in
    let k = kind_view c.in-Some.kind.now in
    let n = string_bytes c.loop-name-item.result.0 in
    let v = view c.loop-name-item.result.1 in
    let left = members_view (drop (c.loop-name.name-index + 1) c.entries-name-items.result.now) in
    member_found c.in_ok-found.field-0 c.in-Some-2.found c.in_ok-below-2.field-0 n c.as_str-in-Some-2.result.now c.in_ok-field_name-2.field-0
    (field_faults fs (members_view c.args.members.now.entries)) (faults k v) (field_faults fs left)
    (λ p. c.loop-name.invariant p ∙ ap (λ es. first_of (field_faults fs (members_view es) p)) (next-lent c.entries-name-items.result.now c.loop-name.name-index c.loop-name-item.result (omega arith) c.loop-name-item.is)
    ∙ ap first_of (field_split fs k n c.as_str.result.now v left p c.as_str.ensures.value (sym c.in-Some.ensures)))
    c.in-Some-2.is c.in_ok-found.ensures c.as_str-in-Some-2.ensures.value c.in_ok-field_name-2.ensures c.in_ok-below-2.ensures.misfit
    c.in_ok-below-2.ensures.path

pub fields_fault-loop-name-preserved : goal.fields_fault-loop-name-preserved
fields_fault-loop-name-preserved t c =
    let fs = fields_view c.args.fields.now.entries in
    let k = kind_view c.in-Some.kind.now in
    let n = string_bytes c.loop-name-item.result.0 in
    let v = view c.loop-name-item.result.1 in
    let left = members_view (drop (c.loop-name.name-index + 1) c.entries-name-items.result.now) in
    member_fits c.in_ok-found.field-0 n
    (field_faults fs (members_view c.args.members.now.entries)) (faults k v) (field_faults fs left)
    (λ p. c.loop-name.invariant p ∙ ap (λ es. first_of (field_faults fs (members_view es) p)) (next-lent c.entries-name-items.result.now c.loop-name.name-index c.loop-name-item.result (omega arith) c.loop-name-item.is)
    ∙ ap first_of (field_split fs k n c.as_str.result.now v left p c.as_str.ensures.value (sym c.in-Some.ensures)))
    c.in_default-2.is c.in_ok-found.ensures

pub fields_fault-returns : goal.fields_fault-returns
fields_fault-returns t c p = grind (arith, common_steps, c.loop-name.invariant p)

pub items_fault-returns-in_default : goal.items_fault-returns-in_default
items_fault-returns-in_default t c =
    let l = c.loop-i in
    let names = names_view c.args.keys.now in
    let fs = fields_view c.args.fields.now.entries in
    let x = c.index-items-i.result in
    let xs = c.args.items.now in
    c.at_place.ensures (item_faults names fs [] (items_view xs)) (λ p. sym (
    l.invariant.left p
    ∙ ap (λ es. first_of (item_faults names fs l.invariant.before (items_view es) p)) (item_split xs l.i x c.loop-i-test.true c.index-items-i.is)
    ∙ item_wrong names fs l.invariant.before (view x) (items_view (drop (l.i + 1) xs)) p (no_object x c.in_default.not-Object)))

pub items_fault-returns-in-Some : goal.items_fault-returns-in-Some
items_fault-returns-in-Some t c =
    let l = c.loop-i in
    let names = names_view c.args.keys.now in
    let fs = fields_view c.args.fields.now.entries in
    let ms = members_view c.in-Object.members.entries in
    let xs = c.args.items.now in
    c.at_place-in-Some.ensures (item_faults names fs [] (items_view xs)) (λ p.
    item_key_wrong names fs l.invariant.before ms (items_view (drop (l.i + 1) xs)) p _ (c.in-Some.ensures p)
    ∙ sym (l.invariant.left p ∙ ap first_of (object_split names fs l.invariant.before xs l.i c.index-items-i.result c.in-Object.members p c.loop-i-test.true
    c.index-items-i.is c.in-Object.is)))

pub items_fault-returns-in-Some-2 : goal.items_fault-returns-in-Some-2
items_fault-returns-in-Some-2 t c =
    let l = c.loop-i in
    let names = names_view c.args.keys.now in
    let fs = fields_view c.args.fields.now.entries in
    let ms = members_view c.in-Object.members.entries in
    let e = item_key names ms in
    let own = keyed_faults c.is_other-is_new.result names fs ms in
    let xs = c.args.items.now in
    let left = items_view (drop (l.i + 1) xs) in
    let rest = leading_keys names left in
    let known = ap (repeat_from same_element l.i l.invariant.before)
    (sym (lead-key names fs xs l.i c.index-items-i.result c.in-Object.members c.loop-i-test.true c.index-items-i.is c.in-Object.is
    (c.in_default-keys_misfit.ensures []))) ∙ l.invariant.known in
    let is_new = other-test l.i e l.invariant.before rest c.in_ok-repeated.repeated c.is_other-is_new.result known c.is_other-is_new.ensures in
    finds_from (Some c.in-Some-2.found) (item_faults names fs [] (items_view xs)) (λ p. own p ++ item_faults names fs (e ∷ l.invariant.before) left p)
    (λ p. l.invariant.left p
    ∙ ap first_of (object_split names fs l.invariant.before xs l.i c.index-items-i.result c.in-Object.members p c.loop-i-test.true c.index-items-i.is
    c.in-Object.is)
    ∙ ap first_of (keyed_split names fs l.invariant.before ms left p c.is_other-is_new.result (c.in_default-keys_misfit.ensures p) is_new))
    (finds_first c.in-Some-2.found own (item_faults names fs (e ∷ l.invariant.before) left) (subst (λ o. Finds o own) c.in-Some-2.is c.in_ok-found.ensures))

pub items_fault-loop-i-preserved : goal.items_fault-loop-i-preserved
items_fault-loop-i-preserved t c =
    let l = c.loop-i in
    let names = names_view c.args.keys.now in
    let fs = fields_view c.args.fields.now.entries in
    let ms = members_view c.in-Object.members.entries in
    let e = item_key names ms in
    let xs = c.args.items.now in
    let left = items_view (drop (l.i + 1) xs) in
    let rest = leading_keys names left in
    let known = ap (repeat_from same_element l.i l.invariant.before)
    (sym (lead-key names fs xs l.i c.index-items-i.result c.in-Object.members c.loop-i-test.true c.index-items-i.is c.in-Object.is
    (c.in_default-keys_misfit.ensures []))) ∙ l.invariant.known in
    let is_new = other-test l.i e l.invariant.before rest c.in_ok-repeated.repeated c.is_other-is_new.result known c.is_other-is_new.ensures in
    record {
      before = e ∷ l.invariant.before;
      known =
          repeat-next l.i e l.invariant.before rest c.in_ok-repeated.repeated known
          (sym (kept-new c.is_other-is_new.result c.in_ok-found.field-0 names fs ms c.in_default-2.is c.in_ok-found.ensures) ∙ is_new);
      left = λ p. l.invariant.left p
          ∙ ap first_of (object_split names fs l.invariant.before xs l.i c.index-items-i.result c.in-Object.members p c.loop-i-test.true c.index-items-i.is
          c.in-Object.is)
          ∙ ap first_of (keyed_split names fs l.invariant.before ms left p c.is_other-is_new.result (c.in_default-keys_misfit.ensures p) is_new)
          ∙ item_fits c.in_ok-found.field-0 (keyed_faults c.is_other-is_new.result names fs ms) (item_faults names fs (e ∷ l.invariant.before) left)
          c.in_default-2.is c.in_ok-found.ensures p;
    }

pub keyed_fault-returns-in-Some : goal.keyed_fault-returns-in-Some
keyed_fault-returns-in-Some t c =
    let names = names_view c.args.keys.now in
    let fs = fields_view c.args.fields.now.entries in
    let ms = members_view c.args.members.now.entries in
    finds_from (Some c.in_ok-below-2.field-0) (keyed_faults c.args.is_new names fs ms) (λ p. field_faults fs ms (p ++ item_key names ms ∷ []))
    (λ p. ap (λ b. first_of (keyed_faults b names fs ms p)) c.if-not-is_new.false)
    (finds_below c.in-Some.found c.in_ok-below-2.field-0 (item_key names ms) c.in_ok-key_name-2.field-0 (field_faults fs ms) c.in_ok-key_name-2.ensures
    c.in_ok-below-2.ensures.misfit c.in_ok-below-2.ensures.path
    (subst (λ o. Finds o (field_faults fs ms)) c.in-Some.is c.in_ok-found.ensures))
