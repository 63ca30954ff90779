-- The identity that is found in an object is one, and an object of the same identity as one has it.
use Rattle.std.proofs.Common.{◌≡◌, Bool, true, false, Option, Some, None, ◌&&◌, ◌||◌, ◌∙◌, ap, refl, subst, cond}
use Rattle.std.proofs.lemmas.Bool.{and_parts}
use Rattle.std.specs.Prelude.{codes, [], ◌∷◌, option_and_then}
use Rattle.ssa_model.specs.definitions.Json.{Json, Text, scalar, list, object, member_of}
use Rattle.ssa_model.specs.definitions.Objects.{Identity, value_at, identity_of, is_named_text, is_missing, is_identity, is_some_object, same_value, same_identity}
use Rattle.ssa_model.proofs.Basics.{both-true as both}
use Rattle.ssa_model.proofs.SameValues.{same_json-true}
use Rattle.ssa_object.specs.Identities.{identity_in}

by_test : (b : Bool) (l found : Identity) → cond b (Some l) None ≡ Some found → (b ≡ true) × (l ≡ found)
by_test true l found is = (refl, cc)
by_test false l found is = cc

-- the identity that is found in an object is one that an object can have
pub named-in : (v : Json) (found : Identity) → identity_in v ≡ Some found → is_identity found ≡ true
named-in v found is =
    let tested = by_test (is_some_object (value_at (codes "metadata" ∷ []) v) && is_identity (identity_of v)) (identity_of v) found is in
    subst (λ l. is_identity l ≡ true) tested.1 (and_parts (is_some_object (value_at (codes "metadata" ∷ []) v)) (is_identity (identity_of v)) tested.0).1

-- ---- an object of the same identity

same-value : (a b : Option Json) → same_value a b ≡ true → a ≡ b
same-value None None h = refl
same-value (Some v) (Some w) h = ap Some (same_json-true v w h)
same-value None (Some w) h = cc
same-value (Some v) None h = cc

-- who has the same parts as an identity is one
same-named : (i j : Identity) → same_identity i j ≡ true → is_identity j ≡ true → is_identity i ≡ true
same-named i j h named =
    let version = and_parts (same_value i.version j.version) _ h in
    let kind = and_parts (same_value i.kind j.kind) _ version.1 in
    let name = and_parts (same_value i.name j.name) (same_value i.namespace j.namespace) kind.1 in
    let v = same-value i.version j.version version.0 in
    let k = same-value i.kind j.kind kind.0 in
    let n = same-value i.name j.name name.0 in
    let ns = same-value i.namespace j.namespace name.1 in
    (λ t. is_named_text (v t) && (is_named_text (k t) && (is_named_text (n t) && (is_missing (ns t) || is_named_text (ns t))))) ∙ named

-- where a member of a member is a text, the outer one is an object
outer-is : (n : Text) (o : Option Json) → is_named_text (option_and_then (value_at (n ∷ [])) o) ≡ true → is_some_object (option_and_then (value_at []) o) ≡ true
outer-is n None h = cc
outer-is n (Some (object ms)) h = refl
outer-is n (Some (scalar s)) h = cc
outer-is n (Some (list vs)) h = cc

with-metadata : (v : Json) → is_identity (identity_of v) ≡ true → is_some_object (value_at (codes "metadata" ∷ []) v) ≡ true
with-metadata v named =
    let version = and_parts (is_named_text (identity_of v).version) _ named in
    let kind = and_parts (is_named_text (identity_of v).kind) _ version.1 in
    by v (and_parts (is_named_text (identity_of v).name) _ kind.1).0
  where
    by : (w : Json) → is_named_text (value_at (codes "metadata" ∷ codes "name" ∷ []) w) ≡ true → is_some_object (value_at (codes "metadata" ∷ []) w) ≡ true
    by (object ms) h = outer-is (codes "name") (member_of (codes "metadata") ms) h
    by (scalar s) h = cc
    by (list vs) h = cc

-- an object of the same identity as one has `metadata` and an identity
pub same-whole : (v : Json) (j : Identity) → same_identity (identity_of v) j ≡ true → is_identity j ≡ true
    → (is_some_object (value_at (codes "metadata" ∷ []) v) && is_identity (identity_of v)) ≡ true
same-whole v j same named =
    let whole = same-named (identity_of v) j same named in
    both _ _ (with-metadata v whole) whole
