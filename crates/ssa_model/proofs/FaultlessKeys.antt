-- The key fields of items without faults.
use Rattle.std.proofs.Common.{◌≡◌, List, [], ◌∷◌, Bool, true, false, refl, sym, ap, ◌∙◌}
use Rattle.std.proofs.lemmas.Option.{same_Some, none-some}
use Rattle.std.specs.Prelude.{Option, None, Some, if◌then◌else◌}
use Rattle.ssa_model.specs.definitions.Json.{Text, Scalar, Json, scalar, list, object, Items, Members, member_of, same_text}
use Rattle.ssa_model.specs.definitions.Kind as kinds
use Rattle.ssa_model.specs.definitions.Kind.{Kind, Fields, kind_of, key_scalars, cons_scalar, key_faults, key_field_fault, is_of, wrong_type}
use Rattle.ssa_model.specs.definitions.Path.{Path}
use Rattle.ssa_model.specs.definitions.Fitting.{are_keys, is_key_of, scalar_of}
use Rattle.ssa_model.proofs.Faults.{cons≢nil, nil_first, nil_second, unless-true}
use Rattle.ssa_model.proofs.Tables.{same_text-true, text-itself}
use Rattle.ssa_model.proofs.Basics.{both-true}

-- ---- a key field without a fault

fault-list : (k : Option Kind) (vs : Items) (p : Path) → key_field_fault k (Some (list vs)) p ≡ [] → ⊥
fault-list None vs p e = cons≢nil e
fault-list (Some (kinds.scalar_kind k)) vs p e = cons≢nil e
fault-list (Some (kinds.atomic_of s)) vs p e = cons≢nil e
fault-list (Some (kinds.record_of fs)) vs p e = cons≢nil e
fault-list (Some (kinds.dict_of k)) vs p e = cons≢nil e
fault-list (Some (kinds.set_of k)) vs p e = cons≢nil e
fault-list (Some (kinds.items_of ns fs)) vs p e = cons≢nil e

fault-object : (k : Option Kind) (ms : Members) (p : Path) → key_field_fault k (Some (object ms)) p ≡ [] → ⊥
fault-object None ms p e = cons≢nil e
fault-object (Some (kinds.scalar_kind k)) ms p e = cons≢nil e
fault-object (Some (kinds.atomic_of s)) ms p e = cons≢nil e
fault-object (Some (kinds.record_of fs)) ms p e = cons≢nil e
fault-object (Some (kinds.dict_of k)) ms p e = cons≢nil e
fault-object (Some (kinds.set_of k)) ms p e = cons≢nil e
fault-object (Some (kinds.items_of ns fs)) ms p e = cons≢nil e

fault-none : (k : Option Kind) (p : Path) → key_field_fault k None p ≡ [] → ⊥
fault-none None p e = cons≢nil e
fault-none (Some (kinds.scalar_kind k)) p e = cons≢nil e
fault-none (Some (kinds.atomic_of s)) p e = cons≢nil e
fault-none (Some (kinds.record_of fs)) p e = cons≢nil e
fault-none (Some (kinds.dict_of k)) p e = cons≢nil e
fault-none (Some (kinds.set_of k)) p e = cons≢nil e
fault-none (Some (kinds.items_of ns fs)) p e = cons≢nil e

-- ---- keys of the kind

-- the member is a scalar, of the kind of its field
pub record IsKeyField (k : Option Kind) (o : Option Json) : Type 0 where
  -- the kind of scalars that the field has
  pub of_kind : kinds.ScalarKind
  -- the scalar that the member is
  pub own : Scalar
  -- the field is one of scalars of this kind
  pub is_kind : k ≡ Some (kinds.scalar_kind of_kind)
  -- the member is there and is this scalar
  pub is_own : o ≡ Some (scalar own)
  -- the scalar is of this kind
  pub fits : is_of of_kind own ≡ true

-- a key field without a fault is there, a scalar of its field's kind
pub key-field : (k : Option Kind) (o : Option Json) (p : Path) → key_field_fault k o p ≡ [] → IsKeyField k o
key-field k None p e = absurd (fault-none k p e)
key-field k (Some (list vs)) p e = absurd (fault-list k vs p e)
key-field k (Some (object ms)) p e = absurd (fault-object k ms p e)
key-field None (Some (scalar s)) p e = absurd (cons≢nil e)
key-field (Some (kinds.scalar_kind j)) (Some (scalar s)) p e =
    record { of_kind = j; own = s; is_kind = refl; is_own = refl; fits = unless-true (is_of j s) wrong_type p e }
key-field (Some (kinds.atomic_of t)) (Some (scalar s)) p e = absurd (cons≢nil e)
key-field (Some (kinds.record_of fs)) (Some (scalar s)) p e = absurd (cons≢nil e)
key-field (Some (kinds.dict_of k)) (Some (scalar s)) p e = absurd (cons≢nil e)
key-field (Some (kinds.set_of k)) (Some (scalar s)) p e = absurd (cons≢nil e)
key-field (Some (kinds.items_of ns fs)) (Some (scalar s)) p e = absurd (cons≢nil e)

-- the key that an item has is one of the kind
pub keys-fit : (ns : List Text) (fs : Fields) (ms : Members) (p : Path) → key_faults ns fs ms p ≡ [] → are_keys ns fs (key_scalars ns ms) ≡ true
keys-fit [] fs ms p e = refl
keys-fit (n ∷ ns) fs ms p e =
    let here = key-field (kind_of n fs) (member_of n ms) p (nil_first (key_field_fault (kind_of n fs) (member_of n ms) p) _ e) in
    let rest = keys-fit ns fs ms p (nil_second (key_field_fault (kind_of n fs) (member_of n ms) p) _ e) in
    ap (λ o. are_keys (n ∷ ns) fs (cons_scalar n o (key_scalars ns ms))) here.is_own
    ∙ both-true _ _ (text-itself n) (both-true _ _ (ap (λ k. is_key_of k here.own) here.is_kind ∙ here.fits) rest)

-- a scalar of an item's key is a member of the item, and its field is one of scalars
pub record IsKeyMember (fs : Fields) (ms : Members) (n : Text) (s : Scalar) : Type 0 where
  -- the kind of scalars that the field has
  pub of_kind : kinds.ScalarKind
  -- the field of the name is one of scalars of this kind
  pub is_kind : kind_of n fs ≡ Some (kinds.scalar_kind of_kind)
  -- the member of the name is the scalar
  pub is_own : member_of n ms ≡ Some (scalar s)

key-member-if : (b : Bool) (fs : Fields) (ms : Members) (n m : Text) (s : Scalar) (rest : Option Scalar) (here : IsKeyField (kind_of m fs) (member_of m ms))
    → same_text n m ≡ b
    → (rest ≡ Some s → IsKeyMember fs ms n s) → (if b then Some here.own else rest) ≡ Some s → IsKeyMember fs ms n s
key-member-if true fs ms n m s rest here same later found =
    let is = same_text-true n m same in
    record {
      of_kind = here.of_kind;
      is_kind = ap (λ t. kind_of t fs) is ∙ here.is_kind;
      is_own = ap (λ t. member_of t ms) is ∙ here.is_own ∙ ap (λ t. Some (scalar t)) (same_Some here.own s found);
    }
key-member-if false fs ms n m s rest here same later found = later found

-- where key fields have no fault, each scalar of the item's key is such a member
pub key-member : (ns : List Text) (fs : Fields) (ms : Members) (p : Path) (n : Text) (s : Scalar) → key_faults ns fs ms p ≡ []
    → scalar_of n (key_scalars ns ms) ≡ Some s → IsKeyMember fs ms n s
key-member [] fs ms p n s e found = absurd (none-some s found)
key-member (m ∷ ns) fs ms p n s e found =
    let here = key-field (kind_of m fs) (member_of m ms) p (nil_first (key_field_fault (kind_of m fs) (member_of m ms) p) _ e) in
    key-member-if (same_text n m) fs ms n m s (scalar_of n (key_scalars ns ms)) here refl
    (key-member ns fs ms p n s (nil_second (key_field_fault (kind_of m fs) (member_of m ms) p) _ e))
    (sym (ap (λ o. scalar_of n (cons_scalar m o (key_scalars ns ms))) here.is_own) ∙ found)
