-- The value that a body shows names no member of a place twice, whatever the body.
use Rattle.std.proofs.Common.{◌≡◌, List, [], ◌∷◌, ◌++◌, true, false, not, ◌&&◌, None, refl, ap, ◌∙◌}
use Rattle.std.specs.Prelude.{if◌then◌else◌}
use Rattle.std.specs.List.{list_any}
use Rattle.std.specs.Ordering.{is_lt, nat_cmp}
use Rattle.std.specs.Cmp.{first_so, second_so}
use Rattle.std.specs.Cmp.Lexicographic.{slice_cmp}
use Rattle.std.specs.declared.cmp.Ordering.TheVariants.{Less, Equal, Greater}
use Rattle.ssa_model.specs.definitions.Json.{Text, Json, scalar, list, object, Members, no_members, member, member_of, same_text}
use Rattle.ssa_model.specs.definitions.Path.{Element, field, Path}
use Rattle.ssa_model.specs.definitions.PathMap.{get, has}
use Rattle.ssa_model.specs.definitions.Kind.{Kind, ScalarKind, Shape, Fields, scalar_kind, atomic_of, record_of, no_fields, kind_field, kind_of}
use Rattle.ssa_model.specs.definitions.Body.{Body, order_at}
use Rattle.ssa_model.specs.definitions.Lawful.{is_root_kind, is_record, is_keyed, is_ordered, are_ordered, is_before_all, IsSchemaKind}
use Rattle.ssa_model.specs.definitions.Objects.{is_missing, shown, shown_fields, shown_items, entry_members, names_below, with_member, members_in}
use Rattle.ssa_model.specs.definitions.Schema.{are_distinct_texts}
use Rattle.ssa_model.specs.definitions.Valid.{metadata_path}
use Rattle.ssa_model.proofs.DistinctNames.{below-distinct, entry-missing, field-missing}
use Rattle.ssa_model.proofs.KindParts.{EachField, each_field, OfEach, OfParts, of_fields}
use Rattle.ssa_model.proofs.NamesOnce.{names_once, fields_once, entries_once, items_once, field_once}
use Rattle.ssa_model.proofs.PutMembers.{metadata, rise, are_above, above-none, above-on, order-same, greater-other, put-other}
use Rattle.ssa_model.proofs.ShownObjects.{shown-rise, metadata-is, shown_metadata, ordered, hs, of_metadata, apart-root, bare_value}
use Rattle.ssa_model.proofs.Basics.{not_true as no}

-- ---- values of any kind

module _ (b : Body) where
  abbrev IsOnce : Kind → Type 0
  IsOnce k = (p : Path) → names_once k (shown k b p) ≡ true

  scalar-once : (s : ScalarKind) (v : Json) → names_once (scalar_kind s) v ≡ true
  scalar-once s (scalar t) = refl
  scalar-once s (list vs) = refl
  scalar-once s (object ms) = refl

  atomic-once : (s : Shape) (v : Json) → names_once (atomic_of s) v ≡ true
  atomic-once s (scalar t) = refl
  atomic-once s (list vs) = refl
  atomic-once s (object ms) = refl

  abbrev IsOnceField : Fields → Path → Text → Kind → Type 0
  IsOnceField fs p n k = field_once (kind_of n fs) (shown k b (p ++ field n ∷ [])) ≡ true

  -- some fields among all
  fields-shown-once : (all fs : Fields) (p : Path) → are_ordered fs ≡ true → EachField (IsOnceField all p) fs → fields_once all (shown_fields fs b p) ≡ true
  fields-shown-once all no_fields p rising h = refl
  fields-shown-once all (kind_field n k fs) p rising h =
      let others = fields-shown-once all fs p (second_so (is_ordered k) _ (second_so (is_before_all n fs) _ rising)) h.1 in
      elim (has b (p ++ field n ∷ [])) as (λ t.
      fields_once all (if t then member n (shown k b (p ++ field n ∷ [])) (shown_fields fs b p) else shown_fields fs b p) ≡ true) [
        | true ↦ (λ i. field-missing b p n fs (first_so _ _ rising) i && (h.0 i && others i))
        | false ↦ others
      ]

  shown-fields-once : (fs : Fields) (p : Path) → are_ordered fs ≡ true → OfEach IsOnce fs → fields_once fs (shown_fields fs b p) ≡ true
  shown-fields-once fs p rising each =
      fields-shown-once fs fs p rising
      (each_field (IsOnceField fs p) fs rising (λ n k is. ap (λ o. field_once o (shown k b (p ++ field n ∷ []))) is ∙ each n k is (p ++ field n ∷ [])))

  entries-shown-once : (k : Kind) (p : Path) (ns : List Text) → are_distinct_texts ns ≡ true → IsOnce k → entries_once k (entry_members (shown k b) p ns) ≡ true
  entries-shown-once k p [] apart each = refl
  entries-shown-once k p (n ∷ ns) apart each =
      let new = entry-missing (shown k b) p n ns (no (list_any (same_text n) ns) (first_so _ _ apart)) in
      let rest = entries-shown-once k p ns (second_so (not (list_any (same_text n) ns)) _ apart) each in
      λ i. new i && (each (p ++ field n ∷ []) i && rest i)

  items-shown-once : (fs : Fields) (p : Path) (es : List Element) → ((q : Path) → fields_once fs (shown_fields fs b q) ≡ true)
      → items_once fs (shown_items (λ q. object (shown_fields fs b q)) p es) ≡ true
  items-shown-once fs p [] each = refl
  items-shown-once fs p (e ∷ es) each = λ i. each (p ++ e ∷ []) i && items-shown-once fs p es each i

  all-once : OfParts IsOnce
  all-once = record {
    of_scalar = λ s p. scalar-once s (shown (scalar_kind s) b p);
    of_atomic = λ s p. atomic-once s (shown (atomic_of s) b p);
    of_record = λ fs rising each p. shown-fields-once fs p rising each;
    of_dict = λ k each p. entries-shown-once k p (names_below b p) (below-distinct b p) each;
    of_set = λ s p. refl;
    of_items = λ ns fs names rising each p. items-shown-once fs p (order_at (get b p)) (λ q. shown-fields-once fs q rising each);
  }

-- ---- with one member more

put-once : (fs : Fields) (n : Text) (v : Json) (ms : Members) → rise ms ≡ true → field_once (kind_of n fs) v ≡ true → fields_once fs ms ≡ true
    → fields_once fs (with_member n v ms) ≡ true
put-once fs n v no_members r own h = λ i. true && (own i && true)
put-once fs n v (member m w ms) r own h =
    let later = second_so (is_missing (member_of m ms)) _ h in
    let other = first_so (field_once (kind_of m fs) w) _ later in
    let rest = second_so (field_once (kind_of m fs) w) _ later in
    elim (slice_cmp nat_cmp n m) as (λ o. slice_cmp nat_cmp n m ≡ o
    → fields_once fs (elim o [ Less ↦ member n v (member m w ms) | Equal ↦ member n v ms | Greater ↦ member m w (with_member n v ms) ]) ≡ true) [
      | Less ↦ λ o.
          let above = above-on n m ms o (first_so (are_above m ms) _ r) in
          let new : member_of n (member m w ms) ≡ None = above-none n (member m w ms) (λ i. is_lt (o i) && above i) in
          λ i. is_missing (new i) && (own i && h i)
      | Equal ↦ λ o.
          let new = ap (λ x. is_missing (member_of x ms)) (order-same n m o) ∙ first_so (is_missing (member_of m ms)) _ h in
          λ i. new i && (own i && rest i)
      | Greater ↦ λ o.
          let new = ap is_missing (put-other m n v ms (greater-other n m o)) ∙ first_so (is_missing (member_of m ms)) _ h in
          let inside = put-once fs n v ms (second_so (are_above m ms) _ r) own rest in
          λ i. new i && (other i && inside i)
    ] refl

-- ---- the value of a body without anything of the identity

module _ (fs : Fields) (b : Body) (a : IsSchemaKind (record_of fs)) where
  each-once : OfEach (IsOnce b) fs
  each-once =
      of_fields (IsOnce b) (all-once b) fs (ordered fs a)
      (second_so (is_record (record_of fs)) (is_keyed (record_of fs)) (first_so (is_root_kind (record_of fs)) _ a.lawful))

  inner-once : fields_once (hs fs a) (members_in (member_of metadata (shown_fields fs b []))) ≡ true
  inner-once =
      ap (λ o. fields_once (hs fs a) (members_in o)) (metadata-is fs b (hs fs a) (of_metadata fs a).1 (ordered fs a) (apart-root fs a))
      ∙ elim (has b metadata_path) as (λ t.
      fields_once (hs fs a) (members_in (shown_metadata fs b (hs fs a) (of_metadata fs a).1 (ordered fs a) (apart-root fs a) t)) ≡ true) [
        | true ↦ each-once metadata (record_of (hs fs a)) (of_metadata fs a).1 metadata_path
        | false ↦ refl
      ]

  -- the value of a body without anything of the identity names no member of a place twice
  pub bare-once : names_once (record_of fs) (bare_value fs b) ≡ true
  bare-once =
      let fields = shown_fields fs b [] in
      let inside = object (members_in (member_of metadata fields)) in
      put-once fs metadata inside fields (shown-rise b [] fs (ordered fs a)) (ap (λ o. field_once o inside) (of_metadata fs a).1 ∙ inner-once)
      (shown-fields-once b fs [] (ordered fs a) each-once)
