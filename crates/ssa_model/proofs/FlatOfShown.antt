-- A body of a kind is the flattening of the value that it shows.
use Rattle.std.proofs.Common.{◌≡◌, List, [], ◌∷◌, ◌++◌, map, true, false, ◌&&◌, ◌||◌, Some, None, option_map, refl, sym, ap, subst, ◌∙◌, true≢false}
use Rattle.std.proofs.lemmas.Option.{none-some}
use Rattle.std.specs.Prelude.{if◌then◌else◌}
use Rattle.std.specs.List.{list_any, AllByRecursion}
use Rattle.std.specs.Cmp.{first_so, second_so}
use Rattle.ssa_model.specs.definitions.Json.{Text, object, Items, item, member, same_text}
use Rattle.ssa_model.specs.definitions.Path.{Element, field, Path, same_element, is_item_element}
use Rattle.ssa_model.specs.definitions.PathMap.{get, has, from_entries}
use Rattle.ssa_model.specs.definitions.Kind as kinds
use Rattle.ssa_model.specs.definitions.Kind.{Kind, ScalarKind, Shape, Fields, scalar_kind, atomic_of, record_of, dict_of, items_of, no_fields, kind_field, kind_of, is_among}
use Rattle.ssa_model.specs.definitions.Body.{Content, leaf, atom, record_branch, dict_branch, list_branch, Body, order_at, places, field_places, entry_places, value_places, item_places, value_order, key_order}
use Rattle.ssa_model.specs.definitions.Fitting.{Place, of_kind, item_of, value_of, place_below, place_at, content_fits, IsBodyOf}
use Rattle.ssa_model.specs.definitions.Lawful.{are_key_names, are_ordered, is_ordered, is_keyed, is_root_kind, is_record, has_metadata}
use Rattle.ssa_model.specs.definitions.Objects.{shown, shown_fields, entry_members, shown_items, names_below, content_value}
use Rattle.ssa_model.specs.laws.ShownBodies.{FlatOfShown}
use Rattle.ssa_model.proofs.EmptyMetadata.{metadata_stays}
use Rattle.ssa_model.proofs.KindParts.{EachField, each_field, OfEach, OfParts, each_kind}
use Rattle.ssa_model.proofs.PathMaps.{same_map, get-from_entries}
use Rattle.ssa_model.proofs.Places.{place-after, stands, below, record-branch, item-branch, dict-branch, set-branch, list-branch, set-place, list-place, IsFieldPlace, record-place, item-place, dict-place}
use Rattle.ssa_model.proofs.PlacesTold.{Tells, TellsBelow, told-next, told-skipped, told-branch, told-alone}
use Rattle.ssa_model.proofs.ShownItems.{each-among, IsSetItem, set-item, IsListItem, list-item}
use Rattle.ssa_model.proofs.ShownNames.{names-there}
use Rattle.ssa_model.proofs.Tables.{text-itself, element-itself}

-- ---- single contents

scalar-places : (k : ScalarKind) (c : Content) (p : Path) → content_fits (of_kind (scalar_kind k)) c ≡ true
    → places (scalar_kind k) (content_value (Some c)) p ≡ (p, c) ∷ []
scalar-places k (leaf s) p h = refl
scalar-places k _ p h = absurd (true≢false (sym h))

atomic-places : (s : Shape) (c : Content) (p : Path) → content_fits (of_kind (atomic_of s)) c ≡ true
    → places (atomic_of s) (content_value (Some c)) p ≡ (p, c) ∷ []
atomic-places s (atom v) p h = refl
atomic-places s _ p h = absurd (true≢false (sym h))

-- ---- members

-- the elements of the fields
abbrev named : Fields → List Element
named no_fields = []
named (kind_field n k fs) = field n ∷ named fs

field-among : (n : Text) (k : Kind) (fs : Fields) → kind_of n fs ≡ Some k → is_among (field n) (named fs) ≡ true
field-among n k no_fields is = absurd (none-some k is)
field-among n k (kind_field m j fs) is =
    elim (same_text n m) as (λ t. (if t then Some j else kind_of n fs) ≡ Some k
    → (t || is_among (field n) (named fs)) ≡ true) [ true ↦ λ _. refl | false ↦ λ is. field-among n k fs is ] is

name-among : (n : Text) (ns : List Text) → is_among (field n) (map field ns) ≡ list_any (same_text n) ns
name-among n [] = refl
name-among n (m ∷ ns) = λ i. same_text n m || name-among n ns i

module _ (kind : Kind) (b : Body) (k : IsBodyOf kind b) where
  -- the value at each place of the kind tells what the body has there
  abbrev pub Told : Kind → Type 0
  Told j = (p : Path) → place_at (of_kind kind) p ≡ Some (of_kind j) → has b p ≡ true → Tells kind b k p (places j (shown j b p) p)

  abbrev IsToldField : Path → Fields → Text → Kind → Type 0
  IsToldField p fs n j = (kind_of n fs ≡ Some j) × (has b (p ++ field n ∷ []) ≡ true
      → Tells kind b k (p ++ field n ∷ []) (places j (shown j b (p ++ field n ∷ [])) (p ++ field n ∷ [])))

  members-told : (p : Path) (fs gs : Fields) → EachField (IsToldField p fs) gs → TellsBelow kind b k p (named gs) (field_places fs (shown_fields gs b p) p)
  members-told p fs no_fields h = λ x. refl
  members-told p fs (kind_field n j gs) h =
      let at = p ++ field n ∷ [] in
      let v = shown j b (p ++ field n ∷ []) in
      let ms = shown_fields gs b p in
      let rest = members-told p fs gs h.1 in
      elim (has b (p ++ field n ∷ [])) as (λ t. has b (p ++ field n ∷ []) ≡ t
      → TellsBelow kind b k p (field n ∷ named gs) (field_places fs
      (if t then member n (shown j b (p ++ field n ∷ [])) (shown_fields gs b p) else shown_fields gs b p) p)) [
        | true ↦ λ t.
            subst (λ o. TellsBelow kind b k p (field n ∷ named gs) (elim o [ None ↦ [] | Some i ↦ places i v at ] ++ field_places fs ms p)) (sym h.0.0)
            (told-next kind b k p (field n) (named gs) (places j v at) (field_places fs ms p) (h.0.1 t) rest)
        | false ↦ λ t. told-skipped kind b k p (field n) (named gs) (field_places fs ms p) t rest
      ] refl

  -- the fields that are shown at a place with fields tell what the body has at and below it
  pub fields-told : (r : Place) (fs : Fields) (p : Path) → ((n : Text) → place_below r (field n) ≡ option_map of_kind (kind_of n fs))
      → ((e : Element) (s : Place) → place_below r e ≡ Some s → IsFieldPlace fs e)
      → place_at (of_kind kind) p ≡ Some r → get b p ≡ Some record_branch → are_ordered fs ≡ true → OfEach Told fs
      → Tells kind b k p ((p, record_branch) ∷ field_places fs (shown_fields fs b p) p)
  fields-told r fs p like only at here ordered each =
      told-branch kind b k p record_branch (named fs) (field_places fs (shown_fields fs b p) p) here
      (members-told p fs fs (each_field (IsToldField p fs) fs ordered
      (λ n j is. (is, λ one. each n j is (p ++ field n ∷ []) (place-after p (of_kind kind) (field n) r at ∙ like n ∙ ap (option_map of_kind) is) one))))
      (λ e one.
      let s = below kind b k p r e at one in
      let x = only e s.place s.below in
      ap (λ y. is_among y (named fs)) x.is_own ∙ field-among x.own x.kind fs x.is_kind)

  entries-told : (j : Kind) (p : Path) (ns : List Text) → AllByRecursion
      (λ n. Tells kind b k (p ++ field n ∷ []) (places j (shown j b (p ++ field n ∷ [])) (p ++ field n ∷ []))) ns
      → TellsBelow kind b k p (map field ns) (entry_places j (entry_members (shown j b) p ns) p)
  entries-told j p [] h = λ x. refl
  entries-told j p (n ∷ ns) h =
      told-next kind b k p (field n) (map field ns) (places j (shown j b (p ++ field n ∷ [])) (p ++ field n ∷ []))
      (entry_places j (entry_members (shown j b) p ns) p) h.0 (entries-told j p ns h.1)

  dict-told : (j : Kind) (p : Path) → place_at (of_kind kind) p ≡ Some (of_kind (dict_of j)) → get b p ≡ Some dict_branch → Told j
      → Tells kind b k p (places (dict_of j) (shown (dict_of j) b p) p)
  dict-told j p at here each =
      let ns = names_below b p in
      told-branch kind b k p dict_branch (map field ns) (entry_places j (entry_members (shown j b) p ns) p) here
      (entries-told j p ns (each-among same_text text-itself
      (λ n. Tells kind b k (p ++ field n ∷ []) (places j (shown j b (p ++ field n ∷ [])) (p ++ field n ∷ []))) ns
      (λ n among. each (p ++ field n ∷ []) (place-after p (of_kind kind) (field n) (of_kind (dict_of j)) at) (sym (names-there b p n) ∙ among))))
      (λ e one.
      let s = below kind b k p (of_kind (dict_of j)) e at one in
      let x = dict-place j e s.place s.below in
      ap (λ y. is_among y (map field ns)) x.1 ∙ name-among x.0 ns ∙ names-there b p x.0 ∙ ap (λ y. has b (p ++ y ∷ [])) (sym x.1) ∙ one)

  -- ---- lists

  abbrev value_items : Path → List Element → Items
  value_items p es = shown_items (λ q. content_value (get b q)) p es

  value-row : (j : ScalarKind) (p : Path) (e : Element) (vs : Items) (x : IsSetItem j b p e)
      → value_places (item (content_value (get b (p ++ e ∷ []))) vs) p ≡ ((p ++ e ∷ [], leaf x.own) ∷ []) ++ value_places vs p
  value-row j p e vs x = ap (λ c. value_places (item (content_value c) vs) p) x.there ∙ (λ i. (p ++ sym x.is_own i ∷ [], leaf x.own) ∷ value_places vs p)

  values-order : (j : ScalarKind) (p : Path) (es : List Element) → AllByRecursion (IsSetItem j b p) es → value_order (value_items p es) ≡ es
  values-order j p [] h = refl
  values-order j p (e ∷ es) h = ap (λ c. value_order (item (content_value c) (value_items p es))) h.0.there
      ∙ (λ i. sym h.0.is_own i ∷ values-order j p es h.1 i)

  values-told : (j : ScalarKind) (p : Path) (es : List Element) → place_at (of_kind kind) p ≡ Some (of_kind (kinds.set_of j))
      → AllByRecursion (IsSetItem j b p) es → TellsBelow kind b k p es (value_places (value_items p es) p)
  values-told j p [] at h = λ x. refl
  values-told j p (e ∷ es) at h =
      let vs = value_items p es in
      subst (TellsBelow kind b k p (e ∷ es)) (sym (value-row j p e vs h.0))
      (told-next kind b k p e es ((p ++ e ∷ [], leaf h.0.own) ∷ []) (value_places vs p)
      (told-alone kind b k (p ++ e ∷ []) (value_of h.0.own) (leaf h.0.own) (value-at h.0) (λ f s none. none-some s none) h.0.there) (values-told j p es at h.1))
    where
      value-at : IsSetItem j b p e → place_at (of_kind kind) (p ++ e ∷ []) ≡ Some (value_of h.0.own)
      value-at x = place-after p (of_kind kind) e (of_kind (kinds.set_of j)) at ∙ ap (place_below (of_kind (kinds.set_of j))) h.0.is_own
          ∙ ap (λ t. if t then Some (value_of h.0.own) else None) h.0.fits

  item_element : (p : Path) (e : Element) → is_item_element e ≡ true → has b (p ++ e ∷ []) ≡ true → is_among e (order_at (get b p)) ≡ true
  item_element p e is one = k.items p e ∙ (λ i. is i && one i)

  listed_content : (p : Path) (c : Content) (es : List Element) → get b p ≡ Some c → c ≡ list_branch (order_at (Some c)) → es ≡ order_at (get b p)
      → get b p ≡ Some (list_branch es)
  listed_content p c es here is same = here ∙ ap Some is ∙ ap (λ o. Some (list_branch (order_at o))) (sym here) ∙ ap (λ fs. Some (list_branch fs)) (sym same)

  set-told : (j : ScalarKind) → Told (kinds.set_of j)
  set-told j p at one =
      let es = order_at (get b p) in
      let items = each-among same_element element-itself (IsSetItem j b p) es (λ e among. set-item kind b k j p e at among) in
      let c = stands kind b k p (of_kind (kinds.set_of j)) at one in
      told-branch kind b k p (list_branch (value_order (value_items p es))) es (value_places (value_items p es) p)
      (listed_content p c.content (value_order (value_items p es)) c.is_there (set-branch j c.content c.fits) (values-order j p es items))
      (values-told j p es at items)
      (λ e there.
      let s = below kind b k p (of_kind (kinds.set_of j)) e at there in
      item_element p e (ap is_item_element (set-place j e s.place s.below).is_own) there)

  module _ (ns : List Text) (fs : Fields) (names : are_key_names ns ≡ true) (ordered : are_ordered fs ≡ true) (each : OfEach Told fs) where
    abbrev list_items : Path → List Element → Items
    list_items p es = shown_items (λ q. object (shown_fields fs b q)) p es

    items-order : (p : Path) (es : List Element) → AllByRecursion (IsListItem kind ns fs b p) es → key_order ns (list_items p es) ≡ es
    items-order p [] h = refl
    items-order p (e ∷ es) h = λ i. h.0.own_key i ∷ items-order p es h.1 i

    item-told : (p : Path) (e : Element) → IsListItem kind ns fs b p e
        → Tells kind b k (p ++ e ∷ []) ((p ++ e ∷ [], record_branch) ∷ field_places fs (shown_fields fs b (p ++ e ∷ [])) (p ++ e ∷ []))
    item-told p e x =
        let c = stands kind b k (p ++ e ∷ []) (item_of ns fs) x.at x.there in
        fields-told (item_of ns fs) fs (p ++ e ∷ []) (λ n. refl) (item-place ns fs) x.at (c.is_there
        ∙ ap Some (item-branch ns fs c.content c.fits)) ordered each

    items-told : (p : Path) (es : List Element) → AllByRecursion (IsListItem kind ns fs b p) es
        → TellsBelow kind b k p es (item_places ns fs (list_items p es) p)
    items-told p [] h = λ x. refl
    items-told p (e ∷ es) h =
        let ms = shown_fields fs b (p ++ e ∷ []) in
        let rest = item_places ns fs (list_items p es) p in
        subst (λ y. TellsBelow kind b k p (e ∷ es) ((p ++ y ∷ [], record_branch) ∷ (field_places fs ms (p ++ y ∷ []) ++ rest))) (sym h.0.own_key)
        (told-next kind b k p e es ((p ++ e ∷ [], record_branch) ∷ field_places fs ms (p ++ e ∷ [])) rest (item-told p e h.0) (items-told p es h.1))

    list-told : Told (items_of ns fs)
    list-told p at one =
        let es = order_at (get b p) in
        let items = each-among same_element element-itself (IsListItem kind ns fs b p) es (λ e among. list-item kind b k ns fs names p e at among) in
        let c = stands kind b k p (of_kind (items_of ns fs)) at one in
        told-branch kind b k p (list_branch (key_order ns (list_items p es))) es (item_places ns fs (list_items p es) p)
        (listed_content p c.content (key_order ns (list_items p es)) c.is_there (list-branch ns fs c.content c.fits) (items-order p es items))
        (items-told p es items)
        (λ e there.
        let s = below kind b k p (of_kind (items_of ns fs)) e at there in
        item_element p e (ap is_item_element (list-place ns fs e s.place s.below).is_own) there)

  -- ---- any kind

  scalar-told : (s : ScalarKind) → Told (scalar_kind s)
  scalar-told s p at one =
      let c = stands kind b k p (of_kind (scalar_kind s)) at one in
      subst (Tells kind b k p) (sym (ap (λ o. places (scalar_kind s) (content_value o) p) c.is_there ∙ scalar-places s c.content p c.fits))
      (told-alone kind b k p (of_kind (scalar_kind s)) c.content at (λ e r none. none-some r none) c.is_there)

  atomic-told : (s : Shape) → Told (atomic_of s)
  atomic-told s p at one =
      let c = stands kind b k p (of_kind (atomic_of s)) at one in
      subst (Tells kind b k p) (sym (ap (λ o. places (atomic_of s) (content_value o) p) c.is_there ∙ atomic-places s c.content p c.fits))
      (told-alone kind b k p (of_kind (atomic_of s)) c.content at (λ e r none. none-some r none) c.is_there)

  -- so it is told at each place of a kind, where it is told at those of the kind's parts
  pub all_told : OfParts Told
  all_told = record {
    of_scalar = scalar-told;
    of_atomic = atomic-told;
    of_record = λ fs ordered each p at one.
        let c = stands kind b k p (of_kind (record_of fs)) at one in
        fields-told (of_kind (record_of fs)) fs p (λ n. refl) (record-place fs) at (c.is_there ∙ ap Some (record-branch fs c.content c.fits)) ordered each;
    of_dict = λ j each p at one.
        let c = stands kind b k p (of_kind (dict_of j)) at one in
        dict-told j p at (c.is_there ∙ ap Some (dict-branch j c.content c.fits)) each;
    of_set = set-told;
    of_items = list-told;
  }

-- the flattening of the members that are shown, since no empty `metadata` is among them
pub flat_of_shown : FlatOfShown
flat_of_shown (record_of fs) body lawful k rooted =
    let kind = record_of fs in
    let later = second_so (is_root_kind kind) _ lawful in
    let ordered = first_so (is_ordered kind) _ later in
    let keyed = second_so (is_record kind) (is_keyed kind) (first_so _ _ lawful) in
    let own = each_kind (Told kind body k) (all_told kind body k) kind ordered keyed [] refl k.root in
    ap (λ ms. from_entries (places kind (object ms) [])) (metadata_stays fs body k ordered (second_so (is_ordered kind) (has_metadata kind) later) rooted)
    ∙ same_map (from_entries (places kind (shown kind body []) [])) body (λ x. get-from_entries (places kind (shown kind body []) []) x ∙ own x)
flat_of_shown (scalar_kind s) body lawful k rooted = absurd (true≢false (sym lawful))
flat_of_shown (atomic_of s) body lawful k rooted = absurd (true≢false (sym lawful))
flat_of_shown (dict_of j) body lawful k rooted = absurd (true≢false (sym lawful))
flat_of_shown (kinds.set_of j) body lawful k rooted = absurd (true≢false (sym lawful))
flat_of_shown (items_of ns fs) body lawful k rooted = absurd (true≢false (sym lawful))
