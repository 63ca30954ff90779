-- Values in which no object names a member twice where its kind has places for members; of atomic values nothing is asked.
use Rattle.std.proofs.Common.{◌≡◌, Bool, true, ◌&&◌, Option, Some, None, refl}
use Rattle.std.specs.Cmp.{first_so, second_so}
use Rattle.ssa_model.specs.definitions.Json.{Json, list, object, Items, no_items, item, Members, no_members, member, member_of}
use Rattle.ssa_model.specs.definitions.Kind.{Kind, Fields, record_of, dict_of, items_of, kind_of}
use Rattle.ssa_model.specs.definitions.Objects.{is_missing}
use Rattle.ssa_model.specs.definitions.MemberNames.{has_distinct_names, items_have_distinct_names, are_distinct_members}

abbrev mutual
  -- no object of the value names a member twice where the kind has places for members
  pub names_once : Kind → Json → Bool
  names_once (record_of fs) (object ms) = fields_once fs ms
  names_once (dict_of k) (object ms) = entries_once k ms
  names_once (items_of ns fs) (list vs) = items_once fs vs
  names_once _ _ = true

  -- the same of the members of an object with fields
  pub fields_once : Fields → Members → Bool
  fields_once fs no_members = true
  fields_once fs (member n v ms) = is_missing (member_of n ms) && (elim (kind_of n fs) [ None ↦ true | Some k ↦ names_once k v ] && fields_once fs ms)

  -- the same of the entries of a map
  pub entries_once : Kind → Members → Bool
  entries_once k no_members = true
  entries_once k (member n v ms) = is_missing (member_of n ms) && (names_once k v && entries_once k ms)

  -- the same of the items of a map list
  pub items_once : Fields → Items → Bool
  items_once fs no_items = true
  items_once fs (item (object ms) vs) = fields_once fs ms && items_once fs vs
  items_once fs (item _ vs) = items_once fs vs

-- the same of the value of a field, where there is such a field
abbrev pub field_once : Option Kind → Json → Bool
field_once o v = elim o [ None ↦ true | Some k ↦ names_once k v ]

-- ---- where no object at all names a member twice

mutual
  -- where no object of a value names a member twice, none does where the kind has places for members
  pub distinct-once : (k : Kind) (v : Json) → has_distinct_names v ≡ true → names_once k v ≡ true
  distinct-once (record_of fs) (object ms) h = distinct-fields fs ms h
  distinct-once (dict_of k) (object ms) h = distinct-entries k ms h
  distinct-once (items_of ns fs) (list vs) h = distinct-items fs vs h
  distinct-once _ _ h = refl

  -- and so it is of the members of an object with fields
  pub distinct-fields : (fs : Fields) (ms : Members) → are_distinct_members ms ≡ true → fields_once fs ms ≡ true
  distinct-fields fs no_members h = refl
  distinct-fields fs (member n v ms) h =
      let later = second_so (is_missing (member_of n ms)) _ h in
      let own = λ (k : Kind). distinct-once k v (first_so (has_distinct_names v) _ later) in
      let rest = distinct-fields fs ms (second_so (has_distinct_names v) _ later) in
      let first : field_once (kind_of n fs) v ≡ true = elim (kind_of n fs) as (λ o. field_once o v ≡ true) [ None ↦ refl | Some k ↦ own k ] in
      λ i. first_so (is_missing (member_of n ms)) _ h i && (first i && rest i)

  distinct-entries : (k : Kind) (ms : Members) → are_distinct_members ms ≡ true → entries_once k ms ≡ true
  distinct-entries k no_members h = refl
  distinct-entries k (member n v ms) h =
      let later = second_so (is_missing (member_of n ms)) _ h in
      let own = distinct-once k v (first_so (has_distinct_names v) _ later) in
      let rest = distinct-entries k ms (second_so (has_distinct_names v) _ later) in
      λ i. first_so (is_missing (member_of n ms)) _ h i && (own i && rest i)

  distinct-items : (fs : Fields) (vs : Items) → items_have_distinct_names vs ≡ true → items_once fs vs ≡ true
  distinct-items fs no_items h = refl
  distinct-items fs (item (object ms) vs) h =
      let own = distinct-fields fs ms (first_so (are_distinct_members ms) _ h) in
      let rest = distinct-items fs vs (second_so (are_distinct_members ms) _ h) in
      λ i. own i && rest i
  distinct-items fs (item v vs) h = distinct-items fs vs (second_so (has_distinct_names v) _ h)
