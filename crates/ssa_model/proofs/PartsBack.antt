-- A part of a body of a kind is read from the value that it shows.
use Rattle.std.proofs.Common.{◌≡◌, List, [], ◌∷◌, ◌++◌, map, true, false, cond, Option, Some, None, refl, sym, ap, subst, ◌∙◌, append_assoc, append-nil}
use Rattle.std.proofs.lemmas.List.{map-append}
use Rattle.std.proofs.lemmas.Option.{same_Some, none-some}
use Rattle.std.specs.Prelude.{if◌then◌else◌}
use Rattle.std.specs.Cmp.{first_so, second_so}
use Rattle.std.specs.FinMap.Entries.{find}
use Rattle.ssa_model.specs.definitions.Json.{Text, Json, scalar, list, object, Items, no_items, item, Members, no_members, member, same_text}
use Rattle.ssa_model.specs.definitions.Path.{Element, field, key, value, Path, path_cmp}
use Rattle.ssa_model.specs.definitions.PathMap.{get, has, from_entries, below}
use Rattle.ssa_model.specs.definitions.Kind as kinds
use Rattle.ssa_model.specs.definitions.Kind.{Kind, Fields, scalar_kind, atomic_of, record_of, dict_of, items_of, no_fields, kind_field, kind_of, is_of, item_key}
use Rattle.ssa_model.specs.definitions.Body.{Content, leaf, record_branch, dict_branch, list_branch, Body, places, field_places, entry_places, value_places, item_places, value_order, key_order}
use Rattle.ssa_model.specs.definitions.Objects.{content_value}
use Rattle.ssa_model.specs.definitions.Fitting.{Place, of_kind, item_of, value_of, place_below, place_at, are_keys, IsBodyOf}
use Rattle.ssa_model.specs.definitions.Lawful.{are_key_names, is_keyed, are_keyed, is_before_all, is_ordered, are_ordered, is_record, is_root_kind, has_metadata, is_lawful}
use Rattle.ssa_model.specs.definitions.RecordText.{value_at_place}
use Rattle.ssa_model.specs.definitions.RecordReading.{content_in, place_entries}
use Rattle.ssa_model.proofs.FlatOfShown.{Told, fields-told, all_told}
use Rattle.ssa_model.proofs.KindParts.{each_kind, of_fields}
use Rattle.ssa_model.proofs.PartValues.{same-below, part_is_value}
use Rattle.ssa_model.proofs.PathMaps.{same_map, get-from_entries}
use Rattle.ssa_model.proofs.Places.{stands, item-branch, value-leaf, item-place, if-some, kind-placed}
use Rattle.ssa_model.proofs.PlacesTold.{Entries, Tells, told-alone}
use Rattle.ssa_model.proofs.Pruned.{under-append}
use Rattle.ssa_model.proofs.PutParts.{get-below}

-- ---- the places of a lawful kind are of lawful kinds

abbrev IsLawfulKind : Kind → Type 0
IsLawfulKind k = (is_ordered k ≡ true) × (is_keyed k ≡ true)

-- the place is of a kind, or of items, whose fields' names rise and whose map lists have key fields
abbrev pub IsLawfulPlace : Place → Type 0
IsLawfulPlace (of_kind k) = IsLawfulKind k
IsLawfulPlace (item_of ns fs) = (are_ordered fs ≡ true) × (are_keyed fs ≡ true)
IsLawfulPlace (value_of s) = Unit {0}

-- the root's place of a lawful kind is such a place
pub lawful-kind : (kind : Kind) → is_lawful kind ≡ true → IsLawfulPlace (of_kind kind)
lawful-kind kind h =
    let later = second_so (is_root_kind kind) _ h in
    (first_so (is_ordered kind) (has_metadata kind) later, second_so (is_record kind) (is_keyed kind) (first_so (is_root_kind kind) _ h))

field-lawful : (fs : Fields) (n : Text) (k : Kind) → are_ordered fs ≡ true → are_keyed fs ≡ true → kind_of n fs ≡ Some k → IsLawfulKind k
field-lawful no_fields n k o y is = absurd (none-some k is)
field-lawful (kind_field m j fs) n k o y is =
    let later = second_so (is_before_all m fs) _ o in
    elim (same_text n m) as (λ t. (if t then Some j else kind_of n fs) ≡ Some k → IsLawfulKind k) [
      | true ↦ λ own. subst IsLawfulKind (same_Some j k own) (first_so _ _ later, first_so _ _ y)
      | false ↦ λ other. field-lawful fs n k (second_so (is_ordered j) _ later) (second_so (is_keyed j) _ y) other
    ] is

lawful-below : (q : Place) (e : Element) (r : Place) → IsLawfulPlace q → place_below q e ≡ Some r → IsLawfulPlace r
lawful-below (of_kind (record_of fs)) (field n) r h is =
    let k = kind-placed (kind_of n fs) r is in subst IsLawfulPlace k.1.1 (field-lawful fs n k.0 h.0 h.1 k.1.0)
lawful-below (of_kind (dict_of k)) (field n) r h is = subst IsLawfulPlace (same_Some (of_kind k) r is) h
lawful-below (of_kind (kinds.set_of k)) (value s) r h is = subst IsLawfulPlace (if-some (is_of k s) (value_of s) r is).1 tt
lawful-below (of_kind (items_of ns fs)) (key ks) r h is =
    subst IsLawfulPlace (if-some (are_keys ns fs ks) (item_of ns fs) r is).1 (h.0, second_so (are_key_names ns) (are_keyed fs) h.1)
lawful-below (item_of ns fs) (field n) r h is = let k = kind-placed (kind_of n fs) r is in subst IsLawfulPlace k.1.1 (field-lawful fs n k.0 h.0 h.1 k.1.0)
lawful-below _ _ r h is = absurd (none-some r is)

-- each place below such a place is one
pub lawful-at : (p : Path) (q r : Place) → IsLawfulPlace q → place_at q p ≡ Some r → IsLawfulPlace r
lawful-at [] q r h at = subst IsLawfulPlace (same_Some q r at) h
lawful-at (e ∷ p) q r h at =
    elim (place_below q e) as (λ o. place_below q e ≡ o → ◌≡◌ {A = Option Place} (elim o [ None ↦ None | Some s ↦ place_at s p ]) (Some r) → IsLawfulPlace r) [
      | None ↦ λ is at. absurd (none-some r at)
      | Some s ↦ λ is at. lawful-at p s r (lawful-below q e s h is) at
    ] refl at

-- ---- the value at a place tells what the body has there

module _ (kind : Kind) (b : Body) (k : IsBodyOf kind b) where
  place-told : (q : Place) (p : Path) → IsLawfulPlace q → place_at (of_kind kind) p ≡ Some q → has b p ≡ true
      → Tells kind b k p (place_entries q (value_at_place q b p) p)
  place-told (of_kind j) p h at one = each_kind (Told kind b k) (all_told kind b k) j h.0 h.1 p at one
  place-told (item_of ns fs) p h at one =
      let c = stands kind b k p (item_of ns fs) at one in
      fields-told kind b k (item_of ns fs) fs p (λ n. refl) (item-place ns fs) at (c.is_there ∙ ap Some (item-branch ns fs c.content c.fits)) h.0
      (of_fields (Told kind b k) (all_told kind b k) fs h.0 h.1)
  place-told (value_of s) p h at one =
      let c = stands kind b k p (value_of s) at one in
      let is = c.is_there ∙ ap Some (value-leaf s c.content c.fits) in
      subst (Tells kind b k p) (sym (ap (λ o. (p, content_in None (content_value o)) ∷ []) is))
      (told-alone kind b k p (value_of s) (leaf s) at (λ e r none. none-some r none) is)

-- ---- entries behind a path

abbrev prefixed : Path → Entries → Entries
prefixed p es = map (λ e. (p ++ e.0, e.1)) es

prefixed-both : (p : Path) (xs ys : Entries) → prefixed p (xs ++ ys) ≡ prefixed p xs ++ prefixed p ys
prefixed-both p xs ys = map-append (λ (e : Path × Content). (p ++ e.0, e.1)) xs ys

find-prefixed : (p : Path) (es : Entries) (x : Path) → find path_cmp (p ++ x) (prefixed p es) ≡ find path_cmp x es
find-prefixed p [] x = refl
find-prefixed p (e ∷ es) x = λ i. cond (same-below p x e.0 i) (Some e.1) (find-prefixed p es x i)

values-prefixed : (vs : Items) (p q : Path) → value_places vs (p ++ q) ≡ prefixed p (value_places vs q)
values-prefixed no_items p q = refl
values-prefixed (item (scalar s) vs) p q = λ i. (append_assoc p q (value s ∷ []) i, leaf s) ∷ values-prefixed vs p q i
values-prefixed (item (list ws) vs) p q = values-prefixed vs p q
values-prefixed (item (object ms) vs) p q = values-prefixed vs p q

mutual
  places-prefixed : (k : Kind) (v : Json) (p q : Path) → places k v (p ++ q) ≡ prefixed p (places k v q)
  places-prefixed (scalar_kind k) (scalar s) p q = refl
  places-prefixed (atomic_of s) v p q = refl
  places-prefixed (record_of fs) (object ms) p q = ap (λ es. (p ++ q, record_branch) ∷ es) (fields-prefixed fs ms p q)
  places-prefixed (dict_of k) (object ms) p q = ap (λ es. (p ++ q, dict_branch) ∷ es) (entries-prefixed k ms p q)
  places-prefixed (kinds.set_of k) (list vs) p q = ap (λ es. (p ++ q, list_branch (value_order vs)) ∷ es) (values-prefixed vs p q)
  places-prefixed (items_of ns fs) (list vs) p q = ap (λ es. (p ++ q, list_branch (key_order ns vs)) ∷ es) (items-prefixed ns fs vs p q)
  places-prefixed _ _ p q = refl

  fields-prefixed : (fs : Fields) (ms : Members) (p q : Path) → field_places fs ms (p ++ q) ≡ prefixed p (field_places fs ms q)
  fields-prefixed fs no_members p q = refl
  fields-prefixed fs (member n v ms) p q =
      elim (kind_of n fs) as
      (λ o. elim o [ None ↦ [] | Some k ↦ places k v ((p ++ q) ++ field n ∷ []) ] ++ field_places fs ms (p ++ q)
      ≡ prefixed p (elim o [ None ↦ [] | Some k ↦ places k v (q ++ field n ∷ []) ] ++ field_places fs ms q)) [
        | None ↦ fields-prefixed fs ms p q
        | Some k ↦ (λ i. (ap (places k v) (append_assoc p q (field n ∷ [])) ∙ places-prefixed k v p (q ++ field n ∷ [])) i ++ fields-prefixed fs ms p q i)
            ∙ sym (prefixed-both p (places k v (q ++ field n ∷ [])) (field_places fs ms q))
      ]

  entries-prefixed : (k : Kind) (ms : Members) (p q : Path) → entry_places k ms (p ++ q) ≡ prefixed p (entry_places k ms q)
  entries-prefixed k no_members p q = refl
  entries-prefixed k (member n v ms) p q =
      (λ i. (ap (places k v) (append_assoc p q (field n ∷ [])) ∙ places-prefixed k v p (q ++ field n ∷ [])) i ++ entries-prefixed k ms p q i)
      ∙ sym (prefixed-both p (places k v (q ++ field n ∷ [])) (entry_places k ms q))

  items-prefixed : (ns : List Text) (fs : Fields) (vs : Items) (p q : Path) → item_places ns fs vs (p ++ q) ≡ prefixed p (item_places ns fs vs q)
  items-prefixed ns fs no_items p q = refl
  items-prefixed ns fs (item (scalar s) vs) p q = items-prefixed ns fs vs p q
  items-prefixed ns fs (item (list ws) vs) p q = items-prefixed ns fs vs p q
  items-prefixed ns fs (item (object ms) vs) p q =
      let at = q ++ item_key ns ms ∷ [] in
      let same = append_assoc p q (item_key ns ms ∷ []) in
      (λ i. (same i, record_branch) ∷ ((ap (field_places fs ms) same ∙ fields-prefixed fs ms p at) i ++ items-prefixed ns fs vs p q i))
      ∙ ap (λ es. (p ++ at, record_branch) ∷ es) (sym (prefixed-both p (field_places fs ms at) (item_places ns fs vs q)))

place-prefixed : (r : Place) (v : Json) (p q : Path) → place_entries r v (p ++ q) ≡ prefixed p (place_entries r v q)
place-prefixed (of_kind k) v p q = places-prefixed k v p q
place-prefixed (item_of ns fs) (object ms) p q = ap (λ es. (p ++ q, record_branch) ∷ es) (fields-prefixed fs ms p q)
place-prefixed (item_of ns fs) (scalar s) p q = refl
place-prefixed (item_of ns fs) (list vs) p q = refl
place-prefixed (value_of s) v p q = refl

-- ---- a part

-- what is read of a part's value, at its place of the schema, is the part
pub part-back : (kind : Kind) (b : Body) → IsBodyOf kind b → (q : Place) (p : Path) → IsLawfulPlace q → place_at (of_kind kind) p ≡ Some q → has b p ≡ true
    → from_entries (place_entries q (value_at_place q (below b p) []) []) ≡ below b p
part-back kind b k q p h at one =
    let v = value_at_place q b p in
    ap (λ w. from_entries (place_entries q w [])) (part_is_value q b p)
    ∙ same_map (from_entries (place_entries q v [])) (below b p) (λ x.
    get-from_entries (place_entries q v []) x ∙ sym (find-prefixed p (place_entries q v []) x)
    ∙ ap (find path_cmp (p ++ x)) (sym (place-prefixed q v p []) ∙ ap (place_entries q v) (append-nil p))
    ∙ place-told kind b k q p h at one (p ++ x)
    ∙ ap (λ t. cond t (get b (p ++ x)) None) (under-append p x)
    ∙ sym (get-below b p x))
