-- How many levels the kind of a schema has that is read.
use Rattle.std.proofs.Common.{◌≡◌, ◌≤◌, ◌+◌, ℕ, zero, suc, List, [], ◌∷◌, Bool, true, false, Option, Some, None, refl, ap, arith}
use Rattle.std.proofs.Math.Nat.{max-le}
use Rattle.std.specs.Prelude.{max, if◌then◌else◌, Result, Ok, Err, codes}
use Rattle.std.specs.declared.cmp.Ordering.TheVariants.{Less, Equal, Greater}
use Rattle.std.specs.Ordering.{nat_cmp}
use Rattle.std.specs.Cmp.Lexicographic.{slice_cmp}
use Rattle.ssa_model.specs.definitions.Limits.{most_levels}
use Rattle.ssa_model.specs.definitions.Json.{Text, Json, scalar, list, object, Members, no_members, member, member_of}
use Rattle.ssa_model.specs.definitions.Kind as kinds
use Rattle.ssa_model.specs.definitions.Kind.{Shape, scalar_shape, record_shape, dict_shape, list_shape, no_shape_fields, Kind, scalar_kind, atomic_of, record_of, dict_of, items_of, Fields, no_fields, kind_field}
use Rattle.ssa_model.specs.definitions.Schema.{SchemaFault, at_root, is_atomic, is_array_type, is_object_type, list_type_is, key_names, property_members, item_members, shape_fields, kind_fields, shape_of_schema, kind_of_schema, sorted_texts, schema_faults, metadata_fields, with_field, with_metadata, read_schema}
use Rattle.ssa_model.proofs.KindLevels.{shape_levels, shape_fields_levels, levels, fields_levels}

-- ---- a choice is bounded where both parts are

either-shape : (b : Bool) (s t : Shape) (n : ℕ) → shape_levels s ≤ n → shape_levels t ≤ n → shape_levels (if b then s else t) ≤ n
either-shape true s t n h g = h
either-shape false s t n h g = g

either-kind : (b : Bool) (j k : Kind) (n : ℕ) → levels j ≤ n → levels k ≤ n → levels (if b then j else k) ≤ n
either-kind true j k n h g = h
either-kind false j k n h g = g

-- ---- shapes

module _ (n : ℕ) (inside : (v : Json) → shape_levels (shape_of_schema n v) ≤ suc n) where
  items-shape : (o : Option Json) → shape_levels (elim o [ None ↦ record_shape no_shape_fields | Some v ↦ list_shape (shape_of_schema n v) ]) ≤ suc (suc n)
  items-shape None = omega arith
  items-shape (Some v) = let h = inside v in omega arith

  fields-shape : (ms : Members) → shape_fields_levels (shape_fields (shape_of_schema n) ms) ≤ suc n
  fields-shape no_members = omega arith
  fields-shape (member m v ms) = max-le (inside v) (fields-shape ms)

  entries-shape : (o : Option Json) (ms : Members)
      → shape_levels (elim o [ None ↦ record_shape (shape_fields (shape_of_schema n) (property_members ms)) | Some v ↦ dict_shape (shape_of_schema n v) ])
      ≤ suc (suc n)
  entries-shape None ms = let h = fields-shape (property_members ms) in omega arith
  entries-shape (Some v) ms = let h = inside v in omega arith

schema-shape : (n : ℕ) (v : Json) → shape_levels (shape_of_schema n v) ≤ suc n
schema-shape zero v = omega arith
schema-shape (suc n) (object ms) =
    either-shape (is_array_type ms) _ _ (suc (suc n)) (items-shape n (λ v. schema-shape n v) (member_of (codes "items") ms))
    (either-shape (is_object_type ms) _ _ (suc (suc n)) (entries-shape n (λ v. schema-shape n v) (member_of (codes "additionalProperties") ms) ms)
    (omega arith))
schema-shape (suc n) (list vs) = omega arith
schema-shape (suc n) (scalar s) = omega arith

-- ---- kinds

module _ (n most : ℕ) (inside : (v : Json) → levels (kind_of_schema n v) ≤ most) where
  fields-kind : (ms : Members) → fields_levels (kind_fields (kind_of_schema n) ms) ≤ most
  fields-kind no_members = omega arith
  fields-kind (member m v ms) = max-le (inside v) (fields-kind ms)

  entries-kind : (o : Option Json) (ms : Members)
      → levels (elim o [ None ↦ record_of (kind_fields (kind_of_schema n) (property_members ms)) | Some v ↦ dict_of (kind_of_schema n v) ]) ≤ suc most
  entries-kind None ms = let h = fields-kind (property_members ms) in omega arith
  entries-kind (Some v) ms = let h = inside v in omega arith

  items-kind : (ms : Members) → levels (items_of (sorted_texts (key_names ms)) (kind_fields (kind_of_schema n) (property_members (item_members ms))))
      ≤ suc (suc most)
  items-kind ms = let h = fields-kind (property_members (item_members ms)) in omega arith

  later-kind : (ms : Members) → levels (atomic_of (shape_of_schema (suc n) (object ms))) ≤ suc (suc most)
      → levels (kind_of_schema (suc n) (object ms)) ≤ suc (suc most)
  later-kind ms atomic =
      let entries = entries-kind (member_of (codes "additionalProperties") ms) ms in
      either-kind (is_atomic ms) _ _ _ atomic
      (either-kind (is_array_type ms) _ _ _ (either-kind (list_type_is (codes "set") ms) _ _ _ (omega arith) (items-kind ms))
      (either-kind (is_object_type ms) _ _ _ (omega arith) (omega arith)))

schema-kind : (n : ℕ) (v : Json) → levels (kind_of_schema n v) ≤ suc (n + n)
schema-kind zero v = omega arith
schema-kind (suc n) (object ms) =
    let atomic = schema-shape (suc n) (object ms) in
    let h = later-kind n (suc (n + n)) (λ v. schema-kind n v) ms (omega arith) in
    omega arith
schema-kind (suc n) (list vs) = omega arith
schema-kind (suc n) (scalar s) = omega arith

-- ---- the root's `metadata`

with_field-levels : (n : Text) (k : Kind) (fs : Fields) → fields_levels (with_field n k fs) ≤ max (levels k) (fields_levels fs)
with_field-levels n k no_fields = omega arith
with_field-levels n k (kind_field m j fs) =
    elim (slice_cmp nat_cmp n m) as (λ o. fields_levels (elim o
    [ Less ↦ kind_field n k (kind_field m j fs) | Equal ↦ kind_field n k fs | Greater ↦ kind_field m j (with_field n k fs) ])
    ≤ max (levels k) (max (levels j) (fields_levels fs))) [
      | Less ↦ omega arith
      | Equal ↦ omega arith
      | Greater ↦ let h = with_field-levels n k fs in omega arith
    ]

with_metadata-levels : (k : Kind) → levels (with_metadata metadata_fields k) ≤ max 3 (levels k)
with_metadata-levels (record_of fs) = let h = with_field-levels (codes "metadata") (record_of metadata_fields) fs in omega arith
with_metadata-levels (scalar_kind k) = omega arith
with_metadata-levels (atomic_of s) = omega arith
with_metadata-levels (dict_of k) = omega arith
with_metadata-levels (kinds.set_of k) = omega arith
with_metadata-levels (items_of names fs) = omega arith

-- ---- the reading

read-as : (fs : List SchemaFault) (k kind : Kind) → ◌≡◌ {A = Result Kind SchemaFault} (elim fs [ [] ↦ Ok k | f ∷ gs ↦ Err f ]) (Ok kind) → (fs ≡ [])
    × (k ≡ kind)
read-as [] k kind h = (refl, cc)
read-as (f ∷ fs) k kind h = cc

-- a schema that is read has no faults, and the kind is its own
pub read-parts : (v : Json) (kind : Kind) → read_schema v ≡ Ok kind → (schema_faults most_levels at_root v ≡ [])
    × (with_metadata metadata_fields (kind_of_schema most_levels v) ≡ kind)
read-parts v kind h = read-as (schema_faults most_levels at_root v) (with_metadata metadata_fields (kind_of_schema most_levels v)) kind h

-- the kind of a schema that is read has at most 65 levels
pub read-levels : (v : Json) (kind : Kind) → read_schema v ≡ Ok kind → levels kind ≤ 65
read-levels v kind h =
    let same = ap levels (read-parts v kind h).1 in
    let whole = with_metadata-levels (kind_of_schema most_levels v) in
    let own = schema-kind most_levels v in
    omega arith
