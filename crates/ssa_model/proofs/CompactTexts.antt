-- Different values have different compact texts.
use Rattle.std.proofs.Common.{◌≡◌, ℕ, ◌≤◌, List, [], ◌∷◌, ◌++◌, Bool, true, false, T, refl, sym, ap, ◌∙◌, arith, append_assoc, append-nil}
use Rattle.ssa_model.specs.definitions.Json.{Scalar, text, whole, truth, Json, scalar, list, object, Items, no_items, item, Members, no_members, member, comma_if, quoted, compact, compact_items, compact_members}
use Rattle.ssa_model.proofs.Texts.{Both, differ, quoted-apart, ends, class_of, scalar_class, class-scalar, BothScalar, scalar_text-apart, regrouped}
use Rattle.ssa_model.proofs.Basics.{same-tails as tails}

-- ---- the first byte of a value's text

abbrev value_class : Json → ℕ
value_class (scalar s) = scalar_class s
value_class (list vs) = 5
value_class (object ms) = 6

class-value : (v : Json) (r : List ℕ) → class_of (compact v ++ r) ≡ value_class v
class-value (scalar s) r = class-scalar s r
class-value (list vs) r = refl
class-value (object ms) r = refl

scalar-low : (s : Scalar) → scalar_class s ≤ 4
scalar-low (text t) = omega arith
scalar-low (whole z) = omega arith
scalar-low (truth true) = omega arith
scalar-low (truth false) = omega arith

value-low : (v : Json) → value_class v ≤ 6
value-low (scalar s) = let low = scalar-low s in omega arith
value-low (list vs) = omega arith
value-low (object ms) = omega arith

-- a value's text does not begin as a list ends
no-value : (v : Json) (r s : List ℕ) → compact v ++ r ≡ 93 ∷ s → ⊥
no-value v r s e = let is = sym (class-value v r) ∙ ap class_of e in let low = value-low v in omega arith

no-scalar : (y : Scalar) (v : Json) (r s : List ℕ) → 5 ≤ value_class v → compact (scalar y) ++ r ≡ compact v ++ s → ⊥
no-scalar y v r s high e = let is = sym (class-scalar y r) ∙ ap class_of e ∙ class-value v s in let low = scalar-low y in omega arith

-- ---- what stands behind a value

items-end : (vs : Items) (r : List ℕ) → T (ends (compact_items true vs ++ r))
items-end no_items r = tt
items-end (item v vs) r = tt

members-end : (ms : Members) (r : List ℕ) → T (ends (compact_members true ms ++ r))
members-end no_members r = tt
members-end (member n v ms) r = tt

-- behind the comma that both have or neither
behind-comma : (later : Bool) (a b r s : List ℕ) → (comma_if later ++ a) ++ r ≡ (comma_if later ++ b) ++ s → a ++ r ≡ b ++ s
behind-comma true a b r s e = tails 44 44 _ _ e
behind-comma false a b r s e = e

-- ---- values

scalars : (y z : Scalar) (r s : List ℕ) → BothScalar y z r s → Both (scalar y) (scalar z) r s
unfolding BothScalar
scalars y z r s h = (ap scalar h.0, h.1)

mutual
  compact-apart : (v w : Json) (r s : List ℕ) → T (ends r) → T (ends s) → compact v ++ r ≡ compact w ++ s → Both v w r s
  compact-apart (scalar y) (scalar z) r s g h e = scalars y z r s (scalar_text-apart y z r s g h e)
  compact-apart (scalar y) (list ws) r s g h e = absurd (no-scalar y (list ws) r s (omega arith) e)
  compact-apart (scalar y) (object ns) r s g h e = absurd (no-scalar y (object ns) r s (omega arith) e)
  compact-apart (list vs) (scalar z) r s g h e = absurd (no-scalar z (list vs) s r (omega arith) (sym e))
  compact-apart (list vs) (list ws) r s g h e = let both = items-apart false vs ws r s (tails 91 91 _ _ e) in (ap list both.0, both.1)
  compact-apart (list vs) (object ns) r s g h e = absurd (differ 91 123 _ _ refl e)
  compact-apart (object ms) (scalar z) r s g h e = absurd (no-scalar z (object ms) s r (omega arith) (sym e))
  compact-apart (object ms) (list ws) r s g h e = absurd (differ 123 91 _ _ refl e)
  compact-apart (object ms) (object ns) r s g h e = let both = members-apart false ms ns r s (tails 123 123 _ _ e) in (ap object both.0, both.1)

  items-apart : (later : Bool) (vs ws : Items) (r s : List ℕ) → compact_items later vs ++ r ≡ compact_items later ws ++ s → Both vs ws r s
  items-apart later no_items no_items r s e = (refl, tails 93 93 r s e)
  items-apart true no_items (item w ws) r s e = absurd (differ 93 44 _ _ refl e)
  items-apart false no_items (item w ws) r s e =
      absurd (no-value w (compact_items true ws ++ s) r (sym (append_assoc (compact w) (compact_items true ws) s) ∙ sym e))
  items-apart true (item v vs) no_items r s e = absurd (differ 44 93 _ _ refl e)
  items-apart false (item v vs) no_items r s e =
      absurd (no-value v (compact_items true vs ++ r) s (sym (append_assoc (compact v) (compact_items true vs) r) ∙ e))
  items-apart later (item v vs) (item w ws) r s e =
      let plain = behind-comma later (compact v ++ compact_items true vs) (compact w ++ compact_items true ws) r s e in
      let own = compact-apart v w (compact_items true vs ++ r) (compact_items true ws ++ s) (items-end vs r) (items-end ws s)
      (sym (append_assoc (compact v) (compact_items true vs) r) ∙ plain ∙ append_assoc (compact w) (compact_items true ws) s) in
      let rest = items-apart true vs ws r s own.1 in
      (λ i. item (own.0 i) (rest.0 i), rest.1)

  members-apart : (later : Bool) (ms ns : Members) (r s : List ℕ) → compact_members later ms ++ r ≡ compact_members later ns ++ s → Both ms ns r s
  members-apart later no_members no_members r s e = (refl, tails 125 125 r s e)
  members-apart true no_members (member m w ns) r s e = absurd (differ 125 44 _ _ refl e)
  members-apart false no_members (member m w ns) r s e = absurd (differ 125 34 _ _ refl e)
  members-apart true (member n v ms) no_members r s e = absurd (differ 44 125 _ _ refl e)
  members-apart false (member n v ms) no_members r s e = absurd (differ 34 125 _ _ refl e)
  members-apart later (member n v ms) (member m w ns) r s e =
      let plain =
      behind-comma later (quoted n ++ 58 ∷ (compact v ++ compact_members true ms)) (quoted m ++ 58 ∷ (compact w ++ compact_members true ns)) r s e in
      let name =
      quoted-apart n m _ _ (sym (regrouped n (compact v) (compact_members true ms) r) ∙ plain ∙ regrouped m (compact w) (compact_members true ns) s) in
      let own =
      compact-apart v w (compact_members true ms ++ r) (compact_members true ns ++ s) (members-end ms r) (members-end ns s) (tails 58 58 _ _ name.1) in
      let rest = members-apart true ms ns r s own.1 in
      (λ i. member (name.0 i) (own.0 i) (rest.0 i), rest.1)

-- values with one compact text are one value
pub compact-injective : (v w : Json) → compact v ≡ compact w → v ≡ w
compact-injective v w e = (compact-apart v w [] [] tt tt (append-nil (compact v) ∙ e ∙ sym (append-nil (compact w)))).0
