-- The test of equality tells values apart.
use Rattle.std.proofs.Common.{◌≡◌, true, ◌&&◌, refl, sym, ap, ap₂, subst, true≢false}
use Rattle.std.specs.Prelude.{◌↔◌, IsTrue}
use Rattle.std.proofs.lemmas.Bool.{and_parts, and_from}
use Rattle.ssa_model.specs.definitions.Json.{Json, scalar, list, object, Items, no_items, item, Members, no_members, member, same_text, same_json, same_items, same_members}
use Rattle.ssa_model.proofs.Scalars.{same_scalar-true, same_scalar-itself}
use Rattle.ssa_model.proofs.Tables.{same_text-true, text-itself}

mutual
  -- values that pass the test are one value
  pub same_json-true : (v w : Json) → same_json v w ≡ true → v ≡ w
  same_json-true (scalar a) (scalar b) e = ap scalar (same_scalar-true a b e)
  same_json-true (list a) (list b) e = ap list (same_items-true a b e)
  same_json-true (object a) (object b) e = ap object (same_members-true a b e)
  same_json-true (scalar a) (list b) e = absurd (true≢false (sym e))
  same_json-true (scalar a) (object b) e = absurd (true≢false (sym e))
  same_json-true (list a) (scalar b) e = absurd (true≢false (sym e))
  same_json-true (list a) (object b) e = absurd (true≢false (sym e))
  same_json-true (object a) (scalar b) e = absurd (true≢false (sym e))
  same_json-true (object a) (list b) e = absurd (true≢false (sym e))

  same_items-true : (vs ws : Items) → same_items vs ws ≡ true → vs ≡ ws
  same_items-true no_items no_items e = refl
  same_items-true no_items (item w ws) e = absurd (true≢false (sym e))
  same_items-true (item v vs) no_items e = absurd (true≢false (sym e))
  same_items-true (item v vs) (item w ws) e =
      let parts = and_parts (same_json v w) (same_items vs ws) e in
      ap₂ item (same_json-true v w parts.0) (same_items-true vs ws parts.1)

  same_members-true : (vs ws : Members) → same_members vs ws ≡ true → vs ≡ ws
  same_members-true no_members no_members e = refl
  same_members-true no_members (member m w ws) e = absurd (true≢false (sym e))
  same_members-true (member n v vs) no_members e = absurd (true≢false (sym e))
  same_members-true (member n v vs) (member m w ws) e =
      let parts = and_parts (same_text n m) (same_json v w && same_members vs ws) e in
      let below = and_parts (same_json v w) (same_members vs ws) parts.1 in
      let name = same_text-true n m parts.0 in
      let first = same_json-true v w below.0 in
      let rest = same_members-true vs ws below.1 in
      λ i. member (name i) (first i) (rest i)

mutual
  -- each value passes the test with itself
  pub same_json-itself : (v : Json) → same_json v v ≡ true
  same_json-itself (scalar s) = same_scalar-itself s
  same_json-itself (list vs) = same_items-itself vs
  same_json-itself (object vs) = same_members-itself vs

  same_items-itself : (vs : Items) → same_items vs vs ≡ true
  same_items-itself no_items = refl
  same_items-itself (item v vs) = and_from (same_json v v) (same_items vs vs) (same_json-itself v) (same_items-itself vs)

  same_members-itself : (vs : Members) → same_members vs vs ≡ true
  same_members-itself no_members = refl
  same_members-itself (member n v vs) =
      and_from (same_text n n) _ (text-itself n) (and_from (same_json v v) (same_members vs vs) (same_json-itself v) (same_members-itself vs))

-- so the test decides equality
pub same_json-decides : (v w : Json) → IsTrue (same_json v w) ↔ (v ≡ w)
same_json-decides v w = (same_json-true v w, λ e. subst (λ x. same_json v x ≡ true) e (same_json-itself v))
