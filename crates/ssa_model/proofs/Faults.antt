-- Lists of faults, and that an atomic value that fits its shape at a path fits it at any.
use Rattle.std.proofs.Common.{◌≡◌, List, [], ◌∷◌, ◌++◌, Bool, true, false, Option, Some, None, refl, sym, ap, ◌∙◌, true≢false}
use Rattle.ssa_model.specs.definitions.Json.{Text, Json, scalar, list, object, Items, no_items, item, Members, no_members, member}
use Rattle.ssa_model.specs.definitions.Path.{Path}
use Rattle.ssa_model.specs.definitions.Kind as kinds
use Rattle.ssa_model.specs.definitions.Kind.{Shape, ShapeFields, shape_of, is_of, shape_faults, shape_field_faults, shape_entry_faults, shape_item_faults, fault_unless, unknown_field, wrong_type, FaultAt, fault_at}
use Rattle.ssa_model.specs.definitions.Operations.{is_none}

-- ---- lists of faults

-- a list without elements
unfoldable pub is_nil : {X : Type 0} → List X → Bool
is_nil [] = true
is_nil (x ∷ xs) = false

-- a list with an element is not empty
pub cons≢nil : {X : Type 0} {x : X} {xs : List X} → x ∷ xs ≡ [] → ⊥
unfolding is_nil
cons≢nil e = true≢false (sym (ap is_nil e))

-- where two lists in a row are empty, the first is
pub nil_first : {X : Type 0} (xs ys : List X) → xs ++ ys ≡ [] → xs ≡ []
nil_first [] ys e = refl
nil_first (x ∷ xs) ys e = absurd (cons≢nil e)

-- and the second is
pub nil_second : {X : Type 0} (xs ys : List X) → xs ++ ys ≡ [] → ys ≡ []
nil_second [] ys e = e
nil_second (x ∷ xs) ys e = absurd (cons≢nil e)

-- where a test that should pass tells no fault, it passes
pub unless-true : (b : Bool) (f : kinds.BodyFault) (p : Path) → fault_unless b f p ≡ [] → b ≡ true
unless-true true f p e = refl
unless-true false f p e = absurd (cons≢nil e)

-- where a list of faults is told to be empty, it is
pub none-found : (fs : List FaultAt) → is_none fs ≡ true → fs ≡ []
none-found [] h = refl
none-found (f ∷ fs) h = absurd (true≢false (sym h))

-- ---- atomic values

-- the faults of a value by the shape of its field, or that the field is unknown
abbrev pub shape_test : Json → Path → Option Shape → List FaultAt
shape_test v p None = fault_at unknown_field p ∷ []
shape_test v p (Some s) = shape_faults s v p

shape_test-is : (v : Json) (p : Path) (o : Option Shape) → ◌≡◌ {A = List FaultAt}
    (elim o [ None ↦ fault_at unknown_field p ∷ [] | Some s ↦ shape_faults s v p ]) (shape_test v p o)
shape_test-is v p None = refl
shape_test-is v p (Some s) = refl

-- the faults of members in an atomic value are those of the first by its field's shape, and then those of the others
pub shape_member-now : (fs : ShapeFields) (n : Text) (v : Json) (ms : Members) (p : Path)
    → shape_field_faults fs (member n v ms) p ≡ shape_test v p (shape_of n fs) ++ shape_field_faults fs ms p
shape_member-now fs n v ms p = ap (λ xs. xs ++ shape_field_faults fs ms p) (shape_test-is v p (shape_of n fs))

shape_member-anywhere : (o : Option Shape) (v : Json) (p q : Path) → ((s : Shape) → shape_faults s v p ≡ [] → shape_faults s v q ≡ []) → shape_test v p o ≡ []
    → shape_test v q o ≡ []
shape_member-anywhere None v p q inside e = absurd (cons≢nil e)
shape_member-anywhere (Some s) v p q inside e = inside s e

mutual
  -- what has no fault in an atomic value at one path has none at another
  pub shape-anywhere : (s : Shape) (v : Json) (p q : Path) → shape_faults s v p ≡ [] → shape_faults s v q ≡ []
  shape-anywhere (kinds.scalar_shape k) (scalar t) p q e = ap (λ b. fault_unless b wrong_type q) (unless-true (is_of k t) wrong_type p e)
  shape-anywhere (kinds.record_shape fs) (object ms) p q e = shape_fields-anywhere fs ms p q e
  shape-anywhere (kinds.dict_shape s) (object ms) p q e = shape_entries-anywhere s ms p q e
  shape-anywhere (kinds.list_shape s) (list vs) p q e = shape_items-anywhere s vs p q e
  shape-anywhere _ _ p q e = absurd (cons≢nil e)

  shape_fields-anywhere : (fs : ShapeFields) (ms : Members) (p q : Path) → shape_field_faults fs ms p ≡ [] → shape_field_faults fs ms q ≡ []
  shape_fields-anywhere fs no_members p q e = refl
  shape_fields-anywhere fs (member n v ms) p q e =
      let now = sym (shape_member-now fs n v ms p) ∙ e in
      let first = shape_member-anywhere (shape_of n fs) v p q (λ s f. shape-anywhere s v p q f) (nil_first (shape_test v p (shape_of n fs)) _ now) in
      let later = shape_fields-anywhere fs ms p q (nil_second (shape_test v p (shape_of n fs)) _ now) in
      shape_member-now fs n v ms q ∙ (λ i. first i ++ later i)

  shape_entries-anywhere : (s : Shape) (ms : Members) (p q : Path) → shape_entry_faults s ms p ≡ [] → shape_entry_faults s ms q ≡ []
  shape_entries-anywhere s no_members p q e = refl
  shape_entries-anywhere s (member n v ms) p q e =
      let first = shape-anywhere s v p q (nil_first (shape_faults s v p) _ e) in
      let later = shape_entries-anywhere s ms p q (nil_second (shape_faults s v p) _ e) in
      λ i. first i ++ later i

  shape_items-anywhere : (s : Shape) (vs : Items) (p q : Path) → shape_item_faults s vs p ≡ [] → shape_item_faults s vs q ≡ []
  shape_items-anywhere s no_items p q e = refl
  shape_items-anywhere s (item v vs) p q e =
      let first = shape-anywhere s v p q (nil_first (shape_faults s v p) _ e) in
      let later = shape_items-anywhere s vs p q (nil_second (shape_faults s v p) _ e) in
      λ i. first i ++ later i
