-- The children of a tree, one after the other, how large they are, and what of them is touched and led.
use Rattle.std.proofs.Common.{◌≡◌, ℕ, ◌+◌, ◌*◌, ◌<◌, List, [], ◌∷◌, ◌++◌, drop, get_or, length, take, Bool, true, false, not, Option, Some, None, append_assoc, refl, sym, ap, ◌∙◌, arith, true≢false}
use Rattle.ssa_model.specs.definitions.Json.{Json}
use Rattle.ssa_model.specs.definitions.Path.{Path, same_path}
use Rattle.ssa_model.specs.definitions.PathMap.{has}
use Rattle.ssa_model.specs.definitions.Kind.{Kind}
use Rattle.ssa_model.specs.definitions.Body.{Body}
use Rattle.ssa_model.specs.definitions.Fitting.{Place}
use Rattle.ssa_model.specs.definitions.RecordText.{value_at_place}
use Rattle.std.specs.Cmp.{first_so, second_so}
use Rattle.std.specs.List.{list_any}
use Rattle.std.specs.Prelude.{is_some, if◌then◌else◌}
use Rattle.ssa_model.specs.definitions.Path.{Element, same_element}
use Rattle.ssa_model.proofs.Fitting.{same_element-true}
use Rattle.ssa_model.proofs.Tables.{element-itself, true_or}
use Rattle.ssa_model.proofs.Tests.{by_test}
use Rattle.ssa_path.specs.Children.{child_at, elements, IsChildAt}
use Rattle.ssa_path.specs.View.{element_view}
use Rattle.ssa_path.specs.declared.element.Elem.{Elem}
use Rattle.ssa_path.specs.declared.trie.Trie.{Trie}
use Rattle.ssa_path.specs.declared.trie.Trie.TheViews.{out-Trie}
use Rattle.ssa_path.proofs.Levels.{any-paths, found, is_trie-child, same_path-reading}
use Rattle.ssa_path.proofs.Lists.{parted}
use Rattle.ssa_typed.specs.Rows.{are_apart, below, is_tree, rows}
use Rattle.ssa_typed.specs.Values.{value_of}
use Rattle.ssa_typed.specs.declared.node.Node.{Node}
use Rattle.ssa_typed.proofs.Sizes.{smaller}
use Rattle.ssa_json.specs.declared.value.Json as program
use Rattle.ssa_record.specs.LedValues.{value_below, IsGiven, IsHere, IsLed, IsToldFor}
use Rattle.ssa_record.specs.Places.{IsTouchedBelow, ToldMaps}
use Rattle.ssa_record.proofs.LedPlaces.{child-is, here-below, kept-there, own-here, place-of, value-is}
use Rattle.ssa_record.proofs.LedPuts.{no-trie}
use Rattle.ssa_record.proofs.LedUntouched.{untouched-value}
use Rattle.ssa_model.proofs.Basics.{or_true}

any-at : {A : Type 0} (test : Element → Bool) (xs ys : List (Elem × A)) (c : Elem × A) → test (element_view c.0) ≡ true
    → list_any test (elements (xs ++ c ∷ ys)) ≡ true
any-at test [] ys c h = true_or (test (element_view c.0)) (list_any test (elements ys)) h
any-at test (x ∷ xs) ys c h = or_true (test (element_view x.0)) (list_any test (elements (xs ++ c ∷ ys))) (any-at test xs ys c h)

new-before : {A : Type 0} (xs ys : List (Elem × A)) (c : Elem × A) → are_apart (elements (xs ++ c ∷ ys)) ≡ true → child_at (element_view c.0) xs ≡ None
new-before [] ys c apart = refl
new-before (x ∷ xs) ys c apart =
    let e = element_view c.0 in
    let rest = elements (xs ++ c ∷ ys) in
    by_test (same_element e (element_view x.0))
    (λ t.
    let same : same_element (element_view x.0) e ≡ true = ap (λ d. same_element d e) (sym (same_element-true e (element_view x.0) t)) ∙ element-itself e in
    absurd (true≢false (sym (first_so (not (list_any (same_element (element_view x.0)) rest)) (are_apart rest) apart)
    ∙ ap not (any-at (same_element (element_view x.0)) xs ys c same))))
    (λ k. ap (λ b. if b then Some x.1 else child_at e xs) k ∙ new-before xs ys c
    (second_so (not (list_any (same_element (element_view x.0)) rest)) (are_apart rest) apart))

-- no child before another one has its element
pub new-at-index : {A : Type 0} (cs : List (Elem × A)) (i : ℕ) (c : Elem × A) → i < length cs → c ≡ get_or cs i c → are_apart (elements cs) ≡ true
    → child_at (element_view c.0) (take i cs) ≡ None
new-at-index cs i c lt is apart = new-before (take i cs) (drop (i + 1) cs) c (ap (λ xs. are_apart (elements xs)) (sym (parted cs i c lt is)) ∙ apart)

-- the child at the place of an element has it
pub child-named : {A : Type 0} (e : Element) (cs : List (Elem × A)) (k : ℕ) (c : Elem × A) → IsChildAt e cs k → c ≡ get_or cs k c
    → same_element e (element_view c.0) ≡ true
child-named e cs k c at is = ap (λ (x : Elem × _). same_element e (element_view x.0)) is ∙ at.same c

-- a walk into a child is a walk over fewer rows
pub falls-into : (n : Node) (e : Element) (c : Node) → child_at e (below n) ≡ Some c → 8 * length (rows c) + 6 < 8 * length (rows n) + 2
falls-into n e c found = let part = smaller n e c found in omega arith

-- ---- what of them is touched

-- what is touched of a child is what the trie's child of the same element has
pub touched-child : (m : ToldMaps) (p : Path) (t c : Trie) (e : Element) → IsTouchedBelow m p t → child_at e (out-Trie t).below.items ≡ Some c
    → IsTouchedBelow m (p ++ e ∷ []) c
touched-child m p t c e h is = (
  is_trie-child t e c h.0 is,
  λ r. sym (any-paths same_path same_path-reading t e r h.0 ∙ ap (λ o. found same_path o r) is) ∙ h.1 (e ∷ r)
      ∙ ap (has m.touched) (sym (append_assoc p (e ∷ []) r)),
)

-- ---- what of them is led

-- what is led of a child that is not cut is the second body's value there
pub led-given : (m : ToldMaps) (p : Path) (n : Node) (e : Element) (c : Node) (o : Option program.Json) → is_tree n ≡ true → child_at e (below n) ≡ Some c
    → has m.cut (p ++ e ∷ []) ≡ false
    → IsLed m (p ++ e ∷ []) c o → (kind : Kind) (v w : Body) (q : Place) → IsToldFor m kind v w → IsHere kind v w p q n → (j : Json)
    × ((value_below q w p e ≡ Some j) × IsGiven o j)
led-given m p n e c o tree is uncut led kind v w q f h =
    let there = kept-there m kind v w f p e h.there (child-is m kind v w f p q n h tree e c is) uncut in
    let s = place-of m kind v w f p q e h.place there in (
      value_at_place s.0 w (p ++ e ∷ []),
      (
        value-is m kind v w f p q e s.0 there s.1,
        led kind v w s.0 f (here-below m kind v w f p q n h tree e c s.0 is there s.1),
      ),
    )

-- the value of a child that nothing touches stays
pub untouched-led : (m : ToldMaps) (p : Path) (t : Trie) (e : Element) (c : Node) → is_tree c ≡ true → IsTouchedBelow m p t
    → child_at e (out-Trie t).below.items ≡ None
    → (kind : Kind) (v w : Body) (q : Place) → IsToldFor m kind v w → IsHere kind v w (p ++ e ∷ []) q c → value_of c ≡ value_at_place q w (p ++ e ∷ [])
untouched-led m p t e c tree below none kind v w q f h =
    untouched-value m kind v w f (p ++ e ∷ []) q c tree h (ap is_some (own-here m kind v w f (p ++ e ∷ []) q c h tree))
    (λ r. ap (has m.touched) (append_assoc p (e ∷ []) r) ∙ no-trie m p t below e r none)
