-- Equality of elements, part by part.
use Rattle.std.proofs.Common.{◌≡◌, [], Bool, true, ◌&&◌, sym, ap, ◌∙◌}
use Rattle.std.proofs.lemmas.Bool.{and_parts}
use Rattle.std.specs.Cmp.Lexicographic.{pointwise}
use Rattle.ssa_model.specs.definitions.Json.{Text, Scalar, text, same_text, same_scalar}
use Rattle.ssa_model.specs.definitions.Path.{Element, key, value, same_element}
use Rattle.ssa_model.proofs.Fitting.{same_element-true}
use Rattle.ssa_model.proofs.Scalars.{same_scalar-true, same_scalar-itself}
use Rattle.ssa_model.proofs.Tables.{element-itself, same_text-true, text-itself}
use Rattle.ssa_model.proofs.Tests.{same_tests, pointwise-true, pointwise-itself}
use Rattle.ssa_path.specs.Keys.{Members, same_key}

-- a test that holds of equal elements alone
agree : (b : Bool) (d e : Element) → (b ≡ true → d ≡ e) → (d ≡ e → b ≡ true) → b ≡ same_element d e
agree b d e sound whole =
    same_tests b (same_element d e) (λ h. ap (same_element d) (sym (sound h)) ∙ element-itself d) (λ h. whole (same_element-true d e h))

abbrev scalar_in : Element → Scalar
scalar_in (value s) = s
scalar_in _ = text []

abbrev keys_in : Element → Members
keys_in (key ks) = ks
keys_in _ = []

-- two scalars are the same where their elements are
pub same_values : (s t : Scalar) → same_scalar s t ≡ same_element (value s) (value t)
same_values s t =
    agree (same_scalar s t) (value s) (value t) (λ h. ap value (same_scalar-true s t h))
    (λ e. ap (same_scalar s) (sym (ap scalar_in e)) ∙ same_scalar-itself s)

same_key-true : (k j : Text × Scalar) → same_key k j ≡ true → k ≡ j
same_key-true k j h =
    let parts = and_parts (same_text k.0 j.0) (same_scalar k.1 j.1) h in
    λ i. (same_text-true k.0 j.0 parts.0 i, same_scalar-true k.1 j.1 parts.1 i)

same_key-itself : (k : Text × Scalar) → same_key k k ≡ true
same_key-itself k = λ i. text-itself k.0 i && same_scalar-itself k.1 i

-- key fields are the same, one by one, where their elements are
pub same_keys : (ks js : Members) → pointwise same_key ks js ≡ same_element (key ks) (key js)
same_keys ks js =
    agree (pointwise same_key ks js) (key ks) (key js) (λ h. ap key (pointwise-true same_key same_key-true ks js h))
    (λ e. ap (pointwise same_key ks) (sym (ap keys_in e)) ∙ pointwise-itself same_key same_key-itself ks)
