-- The kind of each schema that is accepted has `metadata`, an object with fields.
use Rattle.std.proofs.Common.{◌≡◌, true, refl, sym, ap, ◌∙◌, true≢false}
use Rattle.std.specs.Prelude.{None, Some, Ok, codes, if◌then◌else◌}
use Rattle.std.specs.declared.cmp.Ordering.TheVariants.{Less, Equal, Greater}
use Rattle.std.specs.Ordering.{is_eq, nat_cmp}
use Rattle.std.specs.Cmp.Lexicographic.{slice_cmp}
use Rattle.ssa_model.specs.definitions.Json.{Text, Json}
use Rattle.ssa_model.specs.definitions.Kind.{Kind, Fields, scalar_kind, atomic_of, record_of, dict_of, set_of, items_of, no_fields, kind_field, kind_of}
use Rattle.ssa_model.specs.definitions.Schema.{with_field, with_metadata, read_schema, schema_faults, kind_of_schema, at_root, metadata_fields}
use Rattle.ssa_model.specs.definitions.Limits.{most_levels}
use Rattle.ssa_model.specs.definitions.Lawful.{is_record, is_some_record, has_metadata}
use Rattle.ssa_model.proofs.Tables.{text-itself as same_text-itself}
use Rattle.ssa_schema.proofs.Lawful.{root-record, told-kind}

-- a field that is put among others is found
pub kind_of-with_field : (n : Text) (k : Kind) (fs : Fields) → kind_of n (with_field n k fs) ≡ Some k
kind_of-with_field n k no_fields = ap (λ b. if b then Some k else None) (same_text-itself n)
kind_of-with_field n k (kind_field m j fs) =
    elim (slice_cmp nat_cmp n m) as (λ o. slice_cmp nat_cmp n m ≡ o
    → kind_of n (elim o [ Less ↦ kind_field n k (kind_field m j fs) | Equal ↦ kind_field n k fs | Greater ↦ kind_field m j (with_field n k fs) ])
    ≡ Some k) [
      | Less ↦ λ h. ap (λ b. if b then Some k else kind_of n (kind_field m j fs)) (same_text-itself n)
      | Equal ↦ λ h. ap (λ b. if b then Some k else kind_of n fs) (same_text-itself n)
      | Greater ↦ λ h. ap (λ b. if b then Some j else kind_of n (with_field n k fs)) (ap is_eq h) ∙ kind_of-with_field n k fs
    ] refl

with_metadata-has : (fs : Fields) (k : Kind) → is_record k ≡ true → has_metadata (with_metadata fs k) ≡ true
with_metadata-has fs (record_of gs) h = ap is_some_record (kind_of-with_field (codes "metadata") (record_of fs) gs)
with_metadata-has fs (scalar_kind k) h = absurd (true≢false (sym h))
with_metadata-has fs (atomic_of s) h = absurd (true≢false (sym h))
with_metadata-has fs (dict_of k) h = absurd (true≢false (sym h))
with_metadata-has fs (set_of k) h = absurd (true≢false (sym h))
with_metadata-has fs (items_of ns gs) h = absurd (true≢false (sym h))

-- the kind of an accepted schema has `metadata`, an object with fields
pub read-metadata : (v : Json) (k : Kind) → read_schema v ≡ Ok k → has_metadata k ≡ true
read-metadata v k e =
    told-kind has_metadata (schema_faults most_levels at_root v) _ k
    (λ none. with_metadata-has metadata_fields (kind_of_schema most_levels v) (root-record 31 v none)) e
