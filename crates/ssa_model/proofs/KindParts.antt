-- Going through the kind of a schema: its parts are lawful as it is, and each field is found by its name.
use Rattle.std.proofs.Common.{◌≡◌, List, true, false, Some, refl, ap, subst, ◌∙◌}
use Rattle.std.proofs.lemmas.Option.{same_Some, none-some}
use Rattle.std.specs.Prelude.{if◌then◌else◌}
use Rattle.std.specs.Ordering.{is_lt, nat_cmp}
use Rattle.std.specs.Cmp.{first_so, second_so}
use Rattle.std.specs.Cmp.Lexicographic.{slice_cmp}
use Rattle.ssa_model.specs.definitions.Json.{Text, same_text}
use Rattle.ssa_model.specs.definitions.Kind as kinds
use Rattle.ssa_model.specs.definitions.Kind.{Kind, ScalarKind, Shape, Fields, scalar_kind, atomic_of, record_of, dict_of, items_of, no_fields, kind_field, kind_of}
use Rattle.ssa_model.specs.definitions.Lawful.{are_key_names, is_keyed, are_keyed, is_before_all, is_ordered, are_ordered}
use Rattle.ssa_model.proofs.RisingNames.{apart-less}
use Rattle.ssa_model.proofs.Tables.{same_text-true, text-itself}

-- ---- fields

-- a fact of each field, by its name and kind
abbrev pub EachField : (Text → Kind → Type 0) → Fields → Type 0
EachField P no_fields = Unit {0}
EachField P (kind_field n k fs) = P n k × EachField P fs

-- a name before all names of the fields is not that of a field that is found
pub none-before : (n m : Text) (k : Kind) (fs : Fields) → is_before_all m fs ≡ true → kind_of n fs ≡ Some k → same_text n m ≡ false
none-before n m k no_fields h is = absurd (none-some k is)
none-before n m k (kind_field l j fs) h is =
    elim (same_text n l) as (λ t. same_text n l ≡ t → (if t then Some j else kind_of n fs) ≡ Some k → same_text n m ≡ false) [
      | true ↦ λ t _. apart-less n m (ap (λ x. is_lt (slice_cmp nat_cmp m x)) (same_text-true n l t) ∙ first_so _ _ h)
      | false ↦ λ t is. none-before n m k fs (second_so _ _ h) is
    ] refl is

-- where names rise, a field is the one that is found by its name
pub each_field : (P : Text → Kind → Type 0) (fs : Fields) → are_ordered fs ≡ true → ((n : Text) (k : Kind) → kind_of n fs ≡ Some k → P n k) → EachField P fs
each_field P no_fields o h = tt
each_field P (kind_field m k fs) o h = (
  h m k (ap (λ s. if s then Some k else kind_of m fs) (text-itself m)),
  each_field P fs (second_so (is_ordered k) _ (second_so (is_before_all m fs) _ o))
      (λ n j is. h n j (ap (λ s. if s then Some k else kind_of n fs) (none-before n m j fs (first_so _ _ o) is) ∙ is)),
)

-- ---- kinds

-- a fact of the kind of each field that is found by its name
abbrev pub OfEach : (Kind → Type 0) → Fields → Type 0
OfEach P fs = (n : Text) (k : Kind) → kind_of n fs ≡ Some k → P k

-- a fact of lawful kinds, from the kinds of their parts
pub record OfParts (P : Kind → Type 0) : Type 0 where
  -- it holds of each kind of scalars
  pub of_scalar : (k : ScalarKind) → P (scalar_kind k)
  -- it holds of each kind of atomic values
  pub of_atomic : (s : Shape) → P (atomic_of s)
  -- it holds of an object with fields where it holds of the kinds of the fields
  pub of_record : (fs : Fields) → are_ordered fs ≡ true → OfEach P fs → P (record_of fs)
  -- it holds of a map where it holds of the kind of the entries
  pub of_dict : (k : Kind) → P k → P (dict_of k)
  -- it holds of each set
  pub of_set : (k : ScalarKind) → P (kinds.set_of k)
  -- it holds of a map list where it holds of the kinds of the items' fields
  pub of_items : (ns : List Text) (fs : Fields) → are_key_names ns ≡ true → are_ordered fs ≡ true → OfEach P fs → P (items_of ns fs)

module _ (P : Kind → Type 0) (parts : OfParts P) where
  mutual
    -- a fact that goes from the parts to the whole holds of each kind whose names rise and whose map lists have key fields
    pub each_kind : (k : Kind) → is_ordered k ≡ true → is_keyed k ≡ true → P k
    each_kind (scalar_kind k) o y = parts.of_scalar k
    each_kind (atomic_of s) o y = parts.of_atomic s
    each_kind (record_of fs) o y = parts.of_record fs o (of_fields fs o y)
    each_kind (dict_of k) o y = parts.of_dict k (each_kind k o y)
    each_kind (kinds.set_of k) o y = parts.of_set k
    each_kind (items_of ns fs) o y = parts.of_items ns fs (first_so _ _ y) o (of_fields fs o (second_so (are_key_names ns) _ y))

    -- and of the kind of each field
    pub of_fields : (fs : Fields) → are_ordered fs ≡ true → are_keyed fs ≡ true → OfEach P fs
    of_fields no_fields o y n k is = absurd (none-some k is)
    of_fields (kind_field m j fs) o y n k is =
        let later = second_so (is_before_all m fs) _ o in
        elim (same_text n m) as (λ t. (if t then Some j else kind_of n fs) ≡ Some k → P k) [
          | true ↦ λ own. subst P (same_Some j k own) (each_kind j (first_so _ _ later) (first_so _ _ y))
          | false ↦ λ other. of_fields fs (second_so (is_ordered j) _ later) (second_so (is_keyed j) _ y) n k other
        ] is
