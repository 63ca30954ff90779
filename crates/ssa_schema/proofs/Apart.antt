-- The kind of each schema that is accepted has no field named as a part of the identity.
use Rattle.std.proofs.Common.{◌≡◌, ℕ, suc, List, [], ◌∷◌, Bool, true, false, not, ◌&&◌, ◌||◌, refl, sym, ap, ◌∙◌, true≢false}
use Rattle.std.specs.Prelude.{Ok, codes}
use Rattle.std.specs.declared.cmp.Ordering.TheVariants.{Less, Equal, Greater}
use Rattle.std.specs.Ordering.{nat_cmp}
use Rattle.std.specs.Cmp.{first_so, second_so}
use Rattle.std.specs.Cmp.Lexicographic.{slice_cmp}
use Rattle.std.specs.List.{list_any}
use Rattle.ssa_model.specs.definitions.Json.{Text, Json, scalar, list, object, Members, no_members, member, same_text}
use Rattle.ssa_model.specs.definitions.Kind.{Kind, Fields, scalar_kind, atomic_of, record_of, dict_of, set_of, items_of, no_fields, kind_field}
use Rattle.ssa_model.specs.definitions.Objects.{file_names}
use Rattle.ssa_model.specs.definitions.Schema.{with_field, with_metadata, read_schema, schema_faults, kind_of_schema, kind_fields, at_root, names, is_one_of_texts, reserved_names, property_members, metadata_fields}
use Rattle.ssa_model.specs.definitions.Limits.{most_levels}
use Rattle.ssa_model.specs.definitions.Lawful.{names_none, fields_in, leaves_identity}
use Rattle.ssa_model.proofs.Faults.{cons≢nil}
use Rattle.ssa_schema.proofs.Lawful.{root-is, told-kind}
use Rattle.ssa_schema.proofs.Metadata.{kind_of-with_field}
use Rattle.ssa_model.proofs.Basics.{first_false, second_false}

abbrev root_names : List Text
root_names = codes "apiVersion" ∷ codes "kind" ∷ []

abbrev is_bare : Kind → Bool
is_bare (record_of fs) = names_none root_names fs
is_bare _ = false

-- ---- the fields of the properties

two-of-three : (a b c : Bool) → (a || (b || c)) ≡ false → (a || (b || false)) ≡ false
two-of-three true b c h = h
two-of-three false true c h = h
two-of-three false false c h = refl

unreserved : (read : Json → Kind) (ms : Members) → list_any (λ n. is_one_of_texts n reserved_names) (names ms) ≡ false
    → names_none root_names (kind_fields read ms) ≡ true
unreserved read no_members h = refl
unreserved read (member n v ms) h =
    let first = two-of-three (same_text n (codes "apiVersion")) (same_text n (codes "kind")) _ (first_false (is_one_of_texts n reserved_names) _ h) in
    let rest = unreserved read ms (second_false (is_one_of_texts n reserved_names) _ h) in
    λ i. not (first i) && rest i

root-bare : (n : ℕ) (v : Json) → schema_faults (suc n) at_root v ≡ [] → is_bare (kind_of_schema (suc n) v) ≡ true
root-bare n (scalar t) e = absurd (cons≢nil e)
root-bare n (list vs) e = absurd (cons≢nil e)
root-bare n (object ms) e = let is = root-is n ms e in ap is_bare is.0 ∙ unreserved (kind_of_schema n) (property_members ms) is.1

-- ---- with `metadata`

none-with : (ns : List Text) (n : Text) (k : Kind) (fs : Fields) → list_any (same_text n) ns ≡ false → names_none ns fs ≡ true
    → names_none ns (with_field n k fs) ≡ true
none-with ns n k no_fields other h = λ i. not (other i) && true
none-with ns n k (kind_field m j fs) other h =
    let first = first_so (not (list_any (same_text m) ns)) _ h in
    let rest = second_so (not (list_any (same_text m) ns)) _ h in
    elim (slice_cmp nat_cmp n m) as (λ o. names_none ns (elim o
    [ Less ↦ kind_field n k (kind_field m j fs) | Equal ↦ kind_field n k fs | Greater ↦ kind_field m j (with_field n k fs) ]) ≡ true) [
      | Less ↦ (λ i. not (other i) && h i)
      | Equal ↦ (λ i. not (other i) && rest i)
      | Greater ↦ (λ i. first i && none-with ns n k fs other rest i)
    ]

with_metadata-leaves : (hs : Fields) (k : Kind) → names_none file_names hs ≡ true → is_bare k ≡ true → leaves_identity (with_metadata hs k) ≡ true
with_metadata-leaves hs (record_of gs) own h =
    let root = none-with root_names (codes "metadata") (record_of hs) gs refl h in
    let inside = ap (λ o. names_none file_names (fields_in o)) (kind_of-with_field (codes "metadata") (record_of hs) gs) ∙ own in
    λ i. root i && inside i
with_metadata-leaves hs (scalar_kind k) own h = absurd (true≢false (sym h))
with_metadata-leaves hs (atomic_of s) own h = absurd (true≢false (sym h))
with_metadata-leaves hs (dict_of k) own h = absurd (true≢false (sym h))
with_metadata-leaves hs (set_of k) own h = absurd (true≢false (sym h))
with_metadata-leaves hs (items_of ns gs) own h = absurd (true≢false (sym h))

-- the kind of an accepted schema has no field named as a part of the identity
pub read-leaves : (v : Json) (k : Kind) → read_schema v ≡ Ok k → leaves_identity k ≡ true
read-leaves v k e =
    told-kind leaves_identity (schema_faults most_levels at_root v) _ k
    (λ none. with_metadata-leaves metadata_fields (kind_of_schema most_levels v) refl (root-bare 31 v none)) e
