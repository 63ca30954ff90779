-- What is left of paths that begin with an element, in a trie child by child.
use Rattle.std.proofs.Common.{◌≡◌, List, [], ◌∷◌, ◌++◌, length, Bool, true, false, cond, Option, Some, None, refl, sym, ap, ◌∙◌}
use Rattle.std.proofs.lemmas.List.{append-nil}
use Rattle.ssa_model.specs.definitions.FieldsV1.{heads, tails}
use Rattle.ssa_model.specs.definitions.Path.{Element, Path, same_element}
use Rattle.ssa_path.specs.declared.element.Elem.{Elem}
use Rattle.ssa_path.specs.declared.trie.Trie.{Trie}
use Rattle.ssa_path.specs.Children.{elements, child_at, rises}
use Rattle.ssa_path.specs.View.{element_view}
use Rattle.ssa_path.specs.Trie.{here_path, paths_after, paths_below, paths, are_filled_tries}
use Rattle.ssa_path.proofs.Orders.{both_first, both_second}
use Rattle.ssa_path.proofs.Searching.{absent-below}
use Rattle.ssa_path.proofs.Lists.{length-elements, paths_below-append}
use Rattle.ssa_path.proofs.FieldsLevels.{heads-below, heads-here, tails-append}

-- ---- the paths of a child

-- behind an element the paths of a child are what they were below it, and those of another child are none
pub tails-after : (e f : Element) (ps : List Path) → tails e (paths_after f ps) ≡ cond (same_element e f) ps []
tails-after e f ps = after (same_element e f) refl ps
  where
    after : (b : Bool) → same_element e f ≡ b → (ps : List Path) → tails e (paths_after f ps) ≡ cond (same_element e f) ps []
    after true s [] = ap (λ b. cond b [] []) (sym s) ∙ ap (λ b. cond b [] []) s ∙ sym (ap (λ (b : Bool). cond b [] []) s)
    after true s (p ∷ ps) = (λ i. cond (s i) (p ∷ after true s ps i) (after true s ps i)) ∙ ap (λ b. p ∷ cond b ps []) s ∙ sym (ap (λ b. cond b (p ∷ ps) []) s)
    after false s [] = sym (ap (λ (b : Bool). cond b [] []) s)
    after false s (p ∷ ps) = (λ i. cond (s i) (p ∷ after false s ps i) (after false s ps i)) ∙ ap (λ b. cond b ps []) s ∙ sym (ap (λ b. cond b (p ∷ ps) []) s)

-- ---- child by child

-- the paths below a child, if there is one
abbrev pub paths_of : Option Trie → List Path
paths_of None = []
paths_of (Some c) = paths c

first-or-rest : (b : Bool) (c : Trie) (x : Option Trie) → (b ≡ true → x ≡ None) → cond b (paths c) [] ++ paths_of x ≡ paths_of (cond b (Some c) x)
first-or-rest true c x h = ap (λ y. paths c ++ paths_of y) (h refl) ∙ append-nil (paths c)
first-or-rest false c x h = refl

-- behind an element the paths of children in order are those of its child
pub tails-below : (e : Element) (cs : List (Elem × Trie)) → rises (elements cs) ≡ true → tails e (paths_below cs) ≡ paths_of (child_at e cs)
tails-below e [] h = refl
tails-below e (c ∷ cs) h =
    tails-append e (paths_after (element_view c.0) (paths c.1)) (paths_below cs)
    ∙ (λ i. tails-after e (element_view c.0) (paths c.1) i ++ tails-below e cs (both_second _ _ h) i)
    ∙ first-or-rest (same_element e (element_view c.0)) c.1 (child_at e cs) (λ s. absent-below e (element_view c.0) cs s (both_first _ _ h))

-- another child leaves what is left of the paths that begin with e
pub tails-apart : (e : Element) (front left : List (Elem × Trie)) (d : Elem) (c : Trie) → same_element e (element_view d) ≡ false
    → tails e (paths_below (front ++ (d, c) ∷ left)) ≡ tails e (paths_below (front ++ left))
tails-apart e front left d c apart =
    ap (tails e) (paths_below-append front ((d, c) ∷ left))
    ∙ tails-append e (paths_below front) _
    ∙ ap (λ l. tails e (paths_below front) ++ l) (tails-append e (paths_after (element_view d) (paths c)) (paths_below left)
    ∙ (λ i. tails-after e (element_view d) (paths c) i ++ tails e (paths_below left)) ∙ ap (λ b. cond b (paths c) [] ++ tails e (paths_below left)) apart)
    ∙ sym (ap (tails e) (paths_below-append front left) ∙ tails-append e (paths_below front) (paths_below left))

-- ---- how many children

-- as many elements begin the paths as there are children
pub heads-count : (b : Bool) (cs : List (Elem × Trie)) → rises (elements cs) ≡ true → are_filled_tries cs ≡ true
    → length (heads (here_path b ++ paths_below cs)) ≡ length cs
heads-count b cs h f = ap length (heads-here b (paths_below cs) ∙ heads-below cs h f) ∙ length-elements cs
