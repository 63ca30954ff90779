-- The first of the faults.
use Rattle.std.proofs.Common.{◌≡◌, ℕ, zero, suc, List, [], ◌∷◌, ◌++◌, refl, sym, ap, ◌∙◌, append_assoc}
use Rattle.std.specs.Prelude.{Option, None, Some}
use Rattle.ssa_model.specs.definitions.Json.{Json, scalar, Scalar, list, Items, object, Members}
use Rattle.ssa_model.specs.definitions.Schema as model
use Rattle.ssa_schema.specs.Refusals.{first_of, or_next, object_faults, faults_at}

-- the first of two lists is that of the one, or else that of the other
pub first_of_append : {X : Type 0} (xs ys : List X) → first_of (xs ++ ys) ≡ or_next (first_of xs) (first_of ys)
first_of_append [] ys = refl
first_of_append (x ∷ xs) ys = refl

-- what is first stays so with others behind it
pub first_here : {X : Type 0} (xs ys : List X) (x : X) → Some x ≡ first_of xs → Some x ≡ first_of (xs ++ ys)
first_here xs ys x e = ap (λ o. or_next o (first_of ys)) e ∙ sym (first_of_append xs ys)

-- behind none, the first of the others is the first
pub first_later : {X : Type 0} (xs ys : List X) (o : Option X) → None ≡ first_of xs → o ≡ first_of ys → o ≡ first_of (xs ++ ys)
first_later xs ys o none e = e ∙ ap (λ p. or_next p (first_of ys)) none ∙ sym (first_of_append xs ys)

-- ---- one level

-- where no level is left, the first fault is the depth
pub faults_at_none : (s : model.Standing) (v : Json) → first_of (faults_at zero s v) ≡ Some model.schema_depth
unfolding faults_at
faults_at_none s v = refl

-- a scalar is no schema: its first fault is the shape
pub faults_at_scalar : (n : ℕ) (s : model.Standing) (v : Scalar) → first_of (faults_at (suc n) s (scalar v)) ≡ Some model.schema_shape
unfolding faults_at
faults_at_scalar n s v = refl

-- a list is no schema: its first fault is the shape
pub faults_at_list : (n : ℕ) (s : model.Standing) (vs : Items) → first_of (faults_at (suc n) s (list vs)) ≡ Some model.schema_shape
unfolding faults_at
faults_at_list n s vs = refl

regrouped : {X : Type 0} (a b c d rest : List X) → a ++ (b ++ (c ++ (d ++ rest))) ≡ (a ++ (b ++ (c ++ d))) ++ rest
regrouped a b c d rest = sym (append_assoc a (b ++ (c ++ d)) rest ∙ ap (λ x. a ++ x) (append_assoc b (c ++ d) rest ∙ ap (λ x. b ++ x) (append_assoc c d rest)))

-- the first fault of an object is one of its own, or else of the schemas inside, or else of its items
pub faults_at_object : (n : ℕ) (s : model.Standing) (ms : Members) → first_of (faults_at (suc n) s (object ms)) ≡ first_of (object_faults n s ms)
unfolding faults_at
faults_at_object n s ms =
    ap first_of
    (regrouped (model.fault_if (model.has_unknown_keyword ms) model.schema_keyword) (model.fault_if (model.has_wrong_type ms) model.schema_shape)
    (model.fault_if (model.has_wrong_shape s ms) model.schema_shape) (model.fault_if (model.has_wrong_keys ms) model.schema_keys)
    (model.child_faults (faults_at n (model.standing_inside s ms)) ms ++ model.item_faults ms))
