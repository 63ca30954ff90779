-- An empty `metadata`.
use Rattle.std.proofs.Common.{◌≡◌, List, [], ◌∷◌, Bool, true, false, ◌&&◌, cond, Less, String, Global, string_bytes, string_cmp, nat_cmp, refl, sym, ap, ◌∙◌, true≢false, arith, length}
use Rattle.std.specs.Prelude.{None, Some, if◌then◌else◌, codes, IsTrue, ◌↔◌}
use Rattle.std.specs.List.{AllByRecursion}
use Rattle.std.specs.List.Sorted.{IsStrictlySortedBy}
use Rattle.std.specs.Map.{keys_of, remove_entry}
use Rattle.std.specs.BTreeMap.{is_at}
use Rattle.std.specs.Ordering.{is_eq}
use Rattle.std.specs.Cmp.Lexicographic.{slice_cmp}
use Rattle.ssa_model.specs.definitions.Json.{member, member_of, object, same_text}
use Rattle.ssa_model.specs.definitions.Body.{is_empty_object, without_empty_metadata}
use Rattle.ssa_json.specs.View.{view, members_view}
use Rattle.ssa_json.proofs.Converting.{Found}
use Rattle.ssa_model.proofs.Tables.{same_text-true}
use Rattle.ssa_json.proofs.Ordered.{above_first}
use Rattle.ssa_typed.specs.Reads.{is_empty_member, has_empty_metadata}
use Rattle.ssa_schema.proofs.Lawful.{same_turned as turned}

-- the key is that of `metadata`
abbrev pub at_metadata : String Global → Bool
at_metadata = is_at (λ k. slice_cmp nat_cmp (codes "metadata") (string_bytes k))

is_own : (e : Found) (b : Bool) → at_metadata e.0 ≡ b → same_text (string_bytes e.0) (codes "metadata") ≡ b
is_own e b h = turned (string_bytes e.0) (codes "metadata") ∙ h

-- ---- taken out

removed-step : (e : Found) (es : List Found) (b : Bool) → at_metadata e.0 ≡ b
    → is_empty_member (if b then Some (view e.1) else member_of (codes "metadata") (members_view es)) ≡ true
    → (has_empty_metadata (members_view es) ≡ true → members_view (remove_entry at_metadata es) ≡ without_empty_metadata (members_view es))
    → members_view (remove_entry at_metadata (e ∷ es)) ≡ without_empty_metadata (members_view (e ∷ es))
removed-step e es true is h more =
    ap (λ b. members_view (cond b es (e ∷ remove_entry at_metadata es))) is
    ∙ sym (λ i. if is_own e true is i && h i then members_view es else member (string_bytes e.0) (view e.1) (without_empty_metadata (members_view es)))
removed-step e es false is h more =
    ap (λ b. members_view (cond b es (e ∷ remove_entry at_metadata es))) is
    ∙ ap (member (string_bytes e.0) (view e.1)) (more h)
    ∙ sym (λ i. if is_own e false is i && is_empty_object (view e.1) then members_view es else member (string_bytes e.0) (view e.1)
    (without_empty_metadata (members_view es)))

-- an object without its empty `metadata` is what is left in the map without that key
pub removed : (es : List Found) → has_empty_metadata (members_view es) ≡ true
    → members_view (remove_entry at_metadata es) ≡ without_empty_metadata (members_view es)
removed [] h = absurd (true≢false (sym h))
removed (e ∷ es) h = removed-step e es (at_metadata e.0) refl h (removed es)

-- ---- gone

-- of names that rise, none is `metadata` after that one
no_further : (e : Found) (es : List Found) → AllByRecursion (λ y. string_cmp e.0 y ≡ Less) (keys_of es) → at_metadata e.0 ≡ true
    → member_of (codes "metadata") (members_view es) ≡ None
no_further e [] above is = refl
no_further e (f ∷ es) above is = ap (λ b. if b then Some (view f.1) else member_of (codes "metadata") (members_view es)) other ∙ no_further e es above.1 is
  where
    other : same_text (codes "metadata") (string_bytes f.0) ≡ false
    other = ap (λ n. same_text n (string_bytes f.0)) (same_text-true (codes "metadata") (string_bytes e.0) is) ∙ ap is_eq above.0

gone-step : (e : Found) (es : List Found) (b : Bool) → at_metadata e.0 ≡ b → AllByRecursion (λ y. string_cmp e.0 y ≡ Less) (keys_of es)
    → has_empty_metadata (members_view (remove_entry at_metadata es)) ≡ false
    → has_empty_metadata (members_view (cond b es (e ∷ remove_entry at_metadata es))) ≡ false
gone-step e es true is above more = ap is_empty_member (no_further e es above is)
gone-step e es false is above more = ap (λ b. is_empty_member
    (if b then Some (view e.1) else member_of (codes "metadata") (members_view (remove_entry at_metadata es)))) is ∙ more

-- without that key there is no empty `metadata`
pub gone : (es : List Found) → IsStrictlySortedBy string_cmp (keys_of es) → has_empty_metadata (members_view (remove_entry at_metadata es)) ≡ false
unfolding IsStrictlySortedBy
gone [] sorted = refl
gone (e ∷ es) sorted = gone-step e es (at_metadata e.0) refl sorted.0 (gone es sorted.1)

-- ---- not there

-- of names that rise, none is `metadata` after that one
no_second : (e : Found) (es : List Found) → AllByRecursion (λ y. string_cmp e.0 y ≡ Less) (keys_of es) → same_text (string_bytes e.0) (codes "metadata") ≡ true
    → without_empty_metadata (members_view es) ≡ members_view es
no_second e [] above is = refl
no_second e (f ∷ es) above is =
    ap (λ b. if b && is_empty_object (view f.1) then members_view es else member (string_bytes f.0) (view f.1) (without_empty_metadata (members_view es))) other
    ∙ ap (member (string_bytes f.0) (view f.1)) (no_second e es above.1 is)
  where
    other : same_text (string_bytes f.0) (codes "metadata") ≡ false
    other = ap (same_text (string_bytes f.0)) (sym (same_text-true (string_bytes e.0) (codes "metadata") is)) ∙ ap is_eq (above_first e [] f es above)

kept-step : (e : Found) (es : List Found) (b : Bool) → at_metadata e.0 ≡ b
    → is_empty_member (if b then Some (view e.1) else member_of (codes "metadata") (members_view es)) ≡ false
    → AllByRecursion (λ y. string_cmp e.0 y ≡ Less) (keys_of es)
    → (has_empty_metadata (members_view es) ≡ false → members_view es ≡ without_empty_metadata (members_view es))
    → members_view (e ∷ es) ≡ without_empty_metadata (members_view (e ∷ es))
kept-step e es true is h above more =
    ap (member (string_bytes e.0) (view e.1)) (sym (no_second e es above (is_own e true is)))
    ∙ sym (λ i. if is_own e true is i && h i then members_view es else member (string_bytes e.0) (view e.1) (without_empty_metadata (members_view es)))
kept-step e es false is h above more =
    ap (member (string_bytes e.0) (view e.1)) (more h)
    ∙ sym (λ i. if is_own e false is i && is_empty_object (view e.1) then members_view es else member (string_bytes e.0) (view e.1)
    (without_empty_metadata (members_view es)))

-- an object that has no empty `metadata` has nothing to lose
pub kept : (es : List Found) → IsStrictlySortedBy string_cmp (keys_of es) → has_empty_metadata (members_view es) ≡ false
    → members_view es ≡ without_empty_metadata (members_view es)
unfolding IsStrictlySortedBy
kept [] sorted h = refl
kept (e ∷ es) sorted h = kept-step e es (at_metadata e.0) refl h sorted.0 (kept es sorted.1)

-- whether there are no entries is whether there are no members
pub empty-told : (es : List Found) (none : Bool) → IsTrue none ↔ (length es ≡ 0) → none ≡ is_empty_object (object (members_view es))
empty-told [] none is = is.1 refl
empty-told (e ∷ es) true is = let empty = is.0 refl in absurd (omega arith)
empty-told (e ∷ es) false is = refl
