use Rattle.std.proofs.Common.{◌≡◌, [], ◌∷◌, ◌++◌, None, Some, true, false, option_map, string_bytes, nat_cmp, refl, sym, ap, ◌∙◌, subst, arith}
use Rattle.std.proofs.lemmas.List.{nil_from_length}
use Rattle.std.proofs.lemmas.Result.{IfOk-weaker}
use Rattle.std.specs.BTreeMap.{is_at}
use Rattle.std.specs.Cmp.Lexicographic.{slice_cmp}
use Rattle.std.specs.Vec.Iter.{into_iter_items}
use Rattle.ssa_model.specs.definitions.Json.{list, object}
use Rattle.ssa_model.specs.definitions.Path.{field, key, same_element, Path}
use Rattle.ssa_model.specs.definitions.Kind as model
use Rattle.ssa_model.specs.definitions.Body.{places, field_places, entry_places, item_places, key_order}
use Rattle.ssa_json.specs.View.{view, items_view, members_view}
use Rattle.ssa_json.proofs.Views.{view-Object}
use Rattle.ssa_schema.specs.Finds.{Finds}
use Rattle.ssa_schema.specs.Kinds.{kind_view, fields_view, names_view}
use Rattle.ssa_schema.specs.Refusals.{first_of}
use Rattle.ssa_schema.specs.Repeats.{leading_keys, repeat_from}
use Rattle.ssa_schema.specs.declared.fit.found.Misfit.TheVariants.{DuplicateItem}
use Rattle.ssa_schema.proofs.Finding.{breaks_here, finds_from}
use Rattle.ssa_schema.proofs.Kinding.{kind_view-Record}
use Rattle.ssa_schema.proofs.kind.Kind.TheLaws.{the_size}
use Rattle.ssa_schema.proofs.Distinct.{view-List}
use Rattle.ssa_path.specs.declared.element.Elem.TheVariants.{Field}
use Rattle.ssa_typed.specs.Flats.{member_places, AreListed, AreNamed, IsChild, IsItem}
use Rattle.ssa_typed.specs.Tested.{member_faults, own_item_faults, IsTested, PushesTested}
use Rattle.ssa_typed.specs.declared.node.Leaf.TheVariants.{Scalar as ScalarLeaf}
use Rattle.ssa_typed.specs.declared.node.Node.{Leaf}
use Rattle.ssa_json.proofs.Converting.{Found as Entry}
use Rattle.ssa_typed.proofs.Testing.{known-faults, unknown-faults, pushed-from, leaf-tested, testing-none, testing-step, testing-breaks, testing-end}
use Rattle.ssa_typed.proofs.TestingItems.{keys-wrong, keyed-from, items-none, items-step, items-breaks, items-end}
use Rattle.ssa_typed.proofs.Fitting.{no-first}
use Rattle.ssa_typed.proofs.Trees.{dict-made, field-found, found-within-deepest, items-made, keyed-at, kind_view-Dict, kind_view-ItemsOf, known-places, record-made, record-placed, record-tree}
use Rattle.ssa_typed.proofs.tested.+tested.Goals as goal

pub push_tree-returns-in_ok-push-in-Fits : goal.push_tree-returns-in_ok-push-in-Fits
push_tree-returns-in_ok-push-in-Fits t c =
    let n = string_bytes c.args.name in
    let k = kind_view c.args.kind.now in
    let v = view c.args.member in (
      c.in-Fits.child,
      c.in_ok-push-in-Fits.ensures.items,
      subst (IsTested (λ p. model.faults k v (p ++ field n ∷ [])) (IsChild (field n) (places k v))) c.in-Fits.is c.in_ok-child.ensures,
    )

pub push_child-returns : goal.push_child-returns
push_child-returns t c = (
  (Field c.into_text.result, Leaf (ScalarLeaf c.into_scalar-scalar.result)),
  c.in_ok-push.ensures.items,
  leaf-tested (kind_view c.args.kind.now) (view c.args.member) c.into_scalar-scalar.result c.into_text.result (string_bytes c.args.name)
      (sym c.is_fitting_scalar.ensures ∙ c.if-not-is_fitting_scalar.false) c.into_scalar-scalar.ensures c.into_text.ensures,
)

pub push_field-push_child-requires : goal.push_field-push_child-requires
push_field-push_child-requires t c =
    let fs = fields_view c.args.fields.now.entries in
    let n = string_bytes c.args.name in
    let k = kind_view c.in-Some.kind.now in
    let found : model.kind_of n fs ≡ Some k =
    ap (λ m. model.kind_of m fs) (sym c.as_str.ensures.value)
    ∙ sym (field-found c.get_near.result c.as_str.result.now c.args.fields.now.entries c.get_near.ensures.value)
    ∙ ap (option_map (λ k. kind_view k.now)) c.in-Some.is in
    let there = sym c.get_near.ensures.value ∙ ap (option_map (λ k. k.now)) c.in-Some.is in
    let deep = found-within-deepest the_size (is_at (λ m. slice_cmp nat_cmp c.as_str.result.now (string_bytes m))) c.args.fields.now.entries c.in-Some.kind.now there in
    (omega (arith, deep), keyed-at n fs k c.requires found)

pub push_field-returns : goal.push_field-returns
push_field-returns t c =
    let fs = fields_view c.args.fields.now.entries in
    let n = string_bytes c.args.name in
    let v = view c.args.member in
    let k = kind_view c.in-Some.kind.now in
    let found : model.kind_of n fs ≡ Some k =
    ap (λ m. model.kind_of m fs) (sym c.as_str.ensures.value)
    ∙ sym (field-found c.get_near.result c.as_str.result.now c.args.fields.now.entries c.get_near.ensures.value)
    ∙ ap (option_map (λ k. kind_view k.now)) c.in-Some.is in
    IfOk-weaker c.push_child.result _ _
    (λ o. pushed-from (member_faults fs n v) (λ p. model.faults k v (p ++ field n ∷ [])) (IsChild (field n) (places k v))
    (IsChild (field n) (member_places fs n v)) c.args.children.now.items c.push_child.new.children.items o
    (λ p. ap first_of (known-faults fs n v k p found))
    (λ child is. record { element = is.element; placed = λ p. is.placed p ∙ sym (known-places n fs v k p found); tree = is.tree }))
    c.push_child.ensures

pub push_field-returns-in_default : goal.push_field-returns-in_default
push_field-returns-in_default t c =
    let fs = fields_view c.args.fields.now.entries in
    let n = string_bytes c.args.name in
    let v = view c.args.member in
    let below = c.in_ok-unknown_field.field-0 in
    let unknown : model.kind_of n fs ≡ None =
    ap (λ m. model.kind_of m fs) (sym c.as_str.ensures.value)
    ∙ sym (field-found c.get_near.result c.as_str.result.now c.args.fields.now.entries c.get_near.ensures.value)
    ∙ ap (option_map (λ k. kind_view k.now)) c.in_default.is in
    finds_from (Some below) (member_faults fs n v) (λ p. model.fault_at model.unknown_field (p ++ field n ∷ []) ∷ [])
    (λ p. ap first_of (unknown-faults fs n v p unknown))
    (subst (λ m. Finds (Some below) (λ p. model.fault_at model.unknown_field (p ++ field m ∷ []) ∷ [])) c.as_str-in_default.ensures.value
    c.in_ok-unknown_field.ensures)

pub tested_tree-returns-in-Fits : goal.tested_tree-returns-in-Fits
tested_tree-returns-in-Fits t c =
    let w = c.in-Record-Object in
    let fs = fields_view w.fields.entries in
    let ms = members_view w.members.entries in
    let kind : kind_view c.args.kind.now ≡ model.record_of fs = ap kind_view w.is-0 ∙ kind_view-Record w.fields in
    let value : view c.args.value ≡ object ms = ap view w.is-1 ∙ view-Object w.members in
    let made = subst (IsTested (model.field_faults fs ms) (λ cs. AreNamed (field_places fs ms) cs.items)) c.in-Fits.is
    c.in_ok-children-in-Record-Object.ensures in (
      finds_from None (model.faults (kind_view c.args.kind.now) (view c.args.value)) (model.field_faults fs ms)
          (λ p i. first_of (model.faults (kind i) (value i) p)) made.0,
      record-made c.in-Fits.children (kind_view c.args.kind.now) (view c.args.value) fs ms (sym kind) (sym value) made.1,
    )

pub tested_tree-returns-in-Fits-2 : goal.tested_tree-returns-in-Fits-2
tested_tree-returns-in-Fits-2 t c =
    let w = c.in-Dict-Object in
    let k = kind_view c.deref.result.now in
    let ms = members_view w.members.entries in
    let kind : kind_view c.args.kind.now ≡ model.dict_of k =
    ap kind_view w.is-0 ∙ kind_view-Dict w.inside ∙ ap (λ k. model.dict_of (kind_view k)) (sym c.deref.ensures) in
    let value : view c.args.value ≡ object ms = ap view w.is-1 ∙ view-Object w.members in
    let made = subst (IsTested (model.entry_faults k ms) (λ cs. AreNamed (entry_places k ms) cs.items)) c.in-Fits-2.is
    c.in_ok-children-in-Dict-Object.ensures in (
      finds_from None (model.faults (kind_view c.args.kind.now) (view c.args.value)) (model.entry_faults k ms)
          (λ p i. first_of (model.faults (kind i) (value i) p)) made.0,
      dict-made c.in-Fits-2.children (kind_view c.args.kind.now) (view c.args.value) k ms (sym kind) (sym value) made.1,
    )

pub tested_fields-loop-name-init : goal.tested_fields-loop-name-init
tested_fields-loop-name-init t c =
    let fs = fields_view c.args.fields.now.entries in
    testing-none (λ es. model.field_faults fs (members_view es)) (λ es. field_places fs (members_view es)) c.args.members.entries
    (into_iter_items c.into_iter-name-iterator.result) c.in_ok-children.children.items
    (sym (c.into_iter-name-iterator.ensures.into_iter_gives.0 ∙ c.into_entries-name-items.ensures.all)) c.in_ok-children.ensures.items

pub tested_fields-loop-name-preserved : goal.tested_fields-loop-name-preserved
tested_fields-loop-name-preserved t c =
    let l = c.loop-name in
    let fs = fields_view c.args.fields.now.entries in
    let e : Entry = (c.in-Some.name, c.in-Some.member) in
    let n = string_bytes e.0 in
    let own = member_faults fs n (view e.1) in
    let rows_from = member_places fs n (view e.1) in
    let pushed = subst (PushesTested own (IsChild (field n) rows_from) l.children.items c.push_field.new.children.items) c.in_default.is c.in_ok-found.ensures in
    testing-step (λ es. model.field_faults fs (members_view es)) (λ es. field_places fs (members_view es)) c.args.members.entries
    (into_iter_items l.name-iterator) (into_iter_items c.next.new.self) e l.children.items c.push_field.new.children.items pushed.0 own rows_from
    c.in-Some.ensures.steps.0 (λ p. refl) (λ p. refl)
    pushed.2 pushed.1 l.invariant

pub tested_fields-returns-in-Some-2 : goal.tested_fields-returns-in-Some-2
tested_fields-returns-in-Some-2 t c =
    let l = c.loop-name in
    let fs = fields_view c.args.fields.now.entries in
    let e : Entry = (c.in-Some.name, c.in-Some.member) in
    let n = string_bytes e.0 in
    let own = member_faults fs n (view e.1) in
    let rows_from = member_places fs n (view e.1) in
    testing-breaks (λ es. model.field_faults fs (members_view es)) (λ es. field_places fs (members_view es)) c.args.members.entries
    (into_iter_items l.name-iterator) (into_iter_items c.next.new.self) e l.children.items c.in-Some-2.found own
    c.in-Some.ensures.steps.0 (λ p. refl)
    (subst (PushesTested own (IsChild (field n) rows_from) l.children.items c.push_field.new.children.items) c.in-Some-2.is c.in_ok-found.ensures) l.invariant

pub tested_fields-returns : goal.tested_fields-returns
tested_fields-returns t c =
    let l = c.loop-name in
    let fs = fields_view c.args.fields.now.entries in
    testing-end (λ es. model.field_faults fs (members_view es)) (λ es. field_places fs (members_view es)) c.args.members.entries
    (into_iter_items l.name-iterator) l.children.items c.into_entries-name-items.ensures.ordered
    (nil_from_length (into_iter_items l.name-iterator) (omega (arith, c.in-None.ensures.steps.0, l.name-iterator.rest.ok)))
    (λ p. refl) (λ p. refl) l.invariant

pub tested_entries-loop-name-init : goal.tested_entries-loop-name-init
tested_entries-loop-name-init t c =
    let k = kind_view c.args.inside.now in
    testing-none (λ es. model.entry_faults k (members_view es)) (λ es. entry_places k (members_view es)) c.args.members.entries
    (into_iter_items c.into_iter-name-iterator.result) c.in_ok-children.children.items
    (sym (c.into_iter-name-iterator.ensures.into_iter_gives.0 ∙ c.into_entries-name-items.ensures.all)) c.in_ok-children.ensures.items

pub tested_entries-loop-name-preserved : goal.tested_entries-loop-name-preserved
tested_entries-loop-name-preserved t c =
    let l = c.loop-name in
    let k = kind_view c.args.inside.now in
    let e : Entry = (c.in-Some.name, c.in-Some.member) in
    let n = string_bytes e.0 in
    let own = λ (p : Path). model.faults k (view e.1) (p ++ field n ∷ []) in
    let rows_from = places k (view e.1) in
    let pushed = subst (PushesTested own (IsChild (field n) rows_from) l.children.items c.push_child.new.children.items) c.in_default.is c.in_ok-found.ensures in
    testing-step (λ es. model.entry_faults k (members_view es)) (λ es. entry_places k (members_view es)) c.args.members.entries
    (into_iter_items l.name-iterator) (into_iter_items c.next.new.self) e l.children.items c.push_child.new.children.items pushed.0 own rows_from
    c.in-Some.ensures.steps.0 (λ p. refl) (λ p. refl)
    pushed.2 pushed.1 l.invariant

pub tested_entries-returns-in-Some-2 : goal.tested_entries-returns-in-Some-2
tested_entries-returns-in-Some-2 t c =
    let l = c.loop-name in
    let k = kind_view c.args.inside.now in
    let e : Entry = (c.in-Some.name, c.in-Some.member) in
    let n = string_bytes e.0 in
    let own = λ (p : Path). model.faults k (view e.1) (p ++ field n ∷ []) in
    let rows_from = places k (view e.1) in
    testing-breaks (λ es. model.entry_faults k (members_view es)) (λ es. entry_places k (members_view es)) c.args.members.entries
    (into_iter_items l.name-iterator) (into_iter_items c.next.new.self) e l.children.items c.in-Some-2.found own
    c.in-Some.ensures.steps.0 (λ p. refl)
    (subst (PushesTested own (IsChild (field n) rows_from) l.children.items c.push_child.new.children.items) c.in-Some-2.is c.in_ok-found.ensures) l.invariant

pub tested_entries-returns : goal.tested_entries-returns
tested_entries-returns t c =
    let l = c.loop-name in
    let k = kind_view c.args.inside.now in
    testing-end (λ es. model.entry_faults k (members_view es)) (λ es. entry_places k (members_view es)) c.args.members.entries
    (into_iter_items l.name-iterator) l.children.items c.into_entries-name-items.ensures.ordered
    (nil_from_length (into_iter_items l.name-iterator) (omega (arith, c.in-None.ensures.steps.0, l.name-iterator.rest.ok)))
    (λ p. refl) (λ p. refl) l.invariant

pub tested_tree-returns-in-Fits-3 : goal.tested_tree-returns-in-Fits-3
tested_tree-returns-in-Fits-3 t c =
    let w = c.in-ItemsOf-List in
    let ns = names_view c.deref-in-ItemsOf-List.result.now in
    let fs = fields_view w.fields.entries in
    let vs = items_view w.items.items in
    let kind : kind_view c.args.kind.now ≡ model.items_of ns fs =
    ap kind_view w.is-0 ∙ kind_view-ItemsOf w.keys w.fields ∙ ap (λ xs. model.items_of (names_view xs) fs) (sym c.deref-in-ItemsOf-List.ensures.value) in
    let value : view c.args.value ≡ list vs = ap view w.is-1 ∙ view-List w.items in
    let made = subst (IsTested (model.item_faults ns fs [] vs) (λ cs. AreListed (key_order ns vs) (item_places ns fs vs) cs.items)) c.in-Fits-3.is
    c.in_ok-children-in-ItemsOf-List.ensures in (
      finds_from None (model.faults (kind_view c.args.kind.now) (view c.args.value)) (model.item_faults ns fs [] vs)
          (λ p i. first_of (model.faults (kind i) (value i) p)) made.0,
      items-made c.in-Fits-3.children (kind_view c.args.kind.now) (view c.args.value) ns fs vs (sym kind) (sym value)
          ([], no-first (model.item_faults ns fs [] vs []) (made.0 [])) made.1,
    )

pub tested_tree-returns-in-Breaks-3 : goal.tested_tree-returns-in-Breaks-3
tested_tree-returns-in-Breaks-3 t c =
    let w = c.in-ItemsOf-List in
    let ns = names_view c.deref-in-ItemsOf-List.result.now in
    let fs = fields_view w.fields.entries in
    let vs = items_view w.items.items in
    let kind : kind_view c.args.kind.now ≡ model.items_of ns fs =
    ap kind_view w.is-0 ∙ kind_view-ItemsOf w.keys w.fields ∙ ap (λ xs. model.items_of (names_view xs) fs) (sym c.deref-in-ItemsOf-List.ensures.value) in
    let value : view c.args.value ≡ list vs = ap view w.is-1 ∙ view-List w.items in
    finds_from (Some c.in-Breaks-3.found) (model.faults (kind_view c.args.kind.now) (view c.args.value)) (model.item_faults ns fs [] vs)
    (λ p i. first_of (model.faults (kind i) (value i) p))
    (subst (IsTested (model.item_faults ns fs [] vs) (λ cs. AreListed (key_order ns vs) (item_places ns fs vs) cs.items)) c.in-Breaks-3.is
    c.in_ok-children-in-ItemsOf-List.ensures)

pub tested_item-returns-in-Some : goal.tested_item-returns-in-Some
tested_item-returns-in-Some t c =
    keys-wrong c.args.is_new (names_view c.args.keys.now) (fields_view c.args.fields.now.entries) (view c.args.item)
    (members_view c.in-Object.members.entries) c.in-Some.misfit c.here-in-Some.result (ap view c.in-Object.is ∙ view-Object c.in-Object.members)
    c.in-Some.ensures c.here-in-Some.ensures.misfit c.here-in-Some.ensures.path

pub tested_item-returns-then-not-is_new : goal.tested_item-returns-then-not-is_new
tested_item-returns-then-not-is_new t c =
    let below = c.in_ok-below_key.field-0 in
    keyed-from c.args.is_new false (names_view c.args.keys.now) (fields_view c.args.fields.now.entries) (view c.args.item)
    (members_view c.in-Object.members.entries) (Some below) (ap view c.in-Object.is ∙ view-Object c.in-Object.members)
    c.in_default-keys_misfit.ensures c.if-not-is_new.true
    (subst (λ k. Finds (Some below) (λ p. model.fault_at model.duplicate_item (p ++ key k ∷ []) ∷ [])) c.in_ok-key.ensures
    (c.in_ok-below_key.ensures (λ p. model.fault_at model.duplicate_item p ∷ [])
    (breaks_here c.here-twice.result DuplicateItem (λ p. model.fault_at model.duplicate_item p ∷ []) c.here-twice.ensures.misfit
    c.here-twice.ensures.path (λ p. refl))))

pub tested_item-returns-in-Fits : goal.tested_item-returns-in-Fits
tested_item-returns-in-Fits t c =
    let ns = names_view c.args.keys.now in
    let fs = fields_view c.args.fields.now.entries in
    let ms = members_view c.in-Object.members.entries in
    let value : view c.args.item ≡ object ms = ap view c.in-Object.is ∙ view-Object c.in-Object.members in
    let made = subst (IsTested (model.field_faults fs ms) (λ cs. AreNamed (field_places fs ms) cs.items)) c.in-Fits.is c.in_ok-below.ensures in (
      keyed-from c.args.is_new true ns fs (view c.args.item) ms None value c.in_default-keys_misfit.ensures c.if-not-is_new.false
          (λ p. made.0 (p ++ model.item_key ns ms ∷ [])),
      record {
        own = ms;
        is_own = value;
        child = record {
          element = ap key c.in_ok-key.ensures;
          placed = record-placed c.in-Fits.below (field_places fs ms) made.1;
          tree = record-tree c.in-Fits.below (field_places fs ms) made.1;
        };
      },
    )

pub tested_item-returns-in_ok-below_key-in-Breaks : goal.tested_item-returns-in_ok-below_key-in-Breaks
tested_item-returns-in_ok-below_key-in-Breaks t c =
    let fs = fields_view c.args.fields.now.entries in
    let ms = members_view c.in-Object.members.entries in
    let below = c.in_ok-below_key-in-Breaks.field-0 in
    keyed-from c.args.is_new true (names_view c.args.keys.now) fs (view c.args.item) ms (Some below)
    (ap view c.in-Object.is ∙ view-Object c.in-Object.members) c.in_default-keys_misfit.ensures c.if-not-is_new.false
    (subst (λ k. Finds (Some below) (λ p. model.field_faults fs ms (p ++ key k ∷ []))) c.in_ok-key.ensures
    (c.in_ok-below_key-in-Breaks.ensures (model.field_faults fs ms)
    (subst (IsTested (model.field_faults fs ms) (λ cs. AreNamed (field_places fs ms) cs.items)) c.in-Breaks.is c.in_ok-below.ensures)))

pub tested_items-loop-item-init : goal.tested_items-loop-item-init
tested_items-loop-item-init t c =
    items-none (names_view c.args.keys.now) (fields_view c.args.fields.now.entries) c.args.items.items
    (into_iter_items c.into_iter-item-iterator.result) c.in_ok-repeated.repeated c.in_ok-children.children.items
    (sym c.into_iter-item-iterator.ensures.into_iter_gives.0) c.in_ok-children.ensures.items
    (c.in_ok-repeated.ensures ∙ ap (λ xs. repeat_from same_element 0 [] (leading_keys (names_view c.args.keys.now) (items_view xs))) c.deref.ensures.value)

pub tested_items-loop-item-preserved : goal.tested_items-loop-item-preserved
tested_items-loop-item-preserved t c =
    let l = c.loop-item in
    let ns = names_view c.args.keys.now in
    let fs = fields_view c.args.fields.now.entries in
    let x = c.in-Some.item in
    items-step ns fs c.args.items.items (into_iter_items l.item-iterator) (into_iter_items c.next.new.self) x l.place c.in_ok-repeated.repeated
    c.is_other.result l.children.items c.push.new.self.items c.in-Fits.child c.in-Some.ensures.steps.0 c.is_other.ensures
    (subst (IsTested (own_item_faults c.is_other.result ns fs (view x)) (IsItem ns fs (view x))) c.in-Fits.is c.in_ok-child.ensures)
    c.in_ok-push-in-Fits.ensures.items l.invariant

pub tested_items-returns-in-Breaks : goal.tested_items-returns-in-Breaks
tested_items-returns-in-Breaks t c =
    let l = c.loop-item in
    let ns = names_view c.args.keys.now in
    let fs = fields_view c.args.fields.now.entries in
    let x = c.in-Some.item in
    items-breaks ns fs c.args.items.items (into_iter_items l.item-iterator) (into_iter_items c.next.new.self) x l.place c.in_ok-repeated.repeated
    c.is_other.result l.children.items c.in-Breaks.found c.in-Some.ensures.steps.0 c.is_other.ensures
    (subst (IsTested (own_item_faults c.is_other.result ns fs (view x)) (IsItem ns fs (view x))) c.in-Breaks.is c.in_ok-child.ensures) l.invariant

pub tested_items-returns : goal.tested_items-returns
tested_items-returns t c =
    let l = c.loop-item in
    items-end (names_view c.args.keys.now) (fields_view c.args.fields.now.entries) c.args.items.items (into_iter_items l.item-iterator) l.place
    c.in_ok-repeated.repeated l.children.items
    (nil_from_length (into_iter_items l.item-iterator) (omega (arith, c.in-None.ensures.steps.0, l.item-iterator.rest.ok))) l.invariant
