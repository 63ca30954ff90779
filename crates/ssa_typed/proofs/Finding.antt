-- A binary search among values that stand for children in the order of their elements.
use Rattle.std.proofs.Common.{◌≡◌, ℕ, ◌<◌, ◌≤◌, List, [], ◌∷◌, length, get_or, map, Result, Ok, Err, Some, None, sym, ap, subst, ◌∙◌, arith, true}
use Rattle.std.proofs.lemmas.List.{get_or-map, length-map}
use Rattle.std.specs.Ordering.{ordering_index}
use Rattle.std.specs.Result.{MatchResult}
use Rattle.std.specs.List.Sorted.{IsBinarySearchResult}
use Rattle.std.specs.declared.cmp.Ordering.{Ordering}
use Rattle.ssa_model.specs.definitions.Path.{Element}
use Rattle.ssa_path.specs.Children.{elements, rises, child_at, IsSearchResult}
use Rattle.ssa_path.specs.declared.element.Elem.{Elem}
use Rattle.ssa_path.proofs.Searching.{compared, search-result, child-found, child-absent}

module _ {X A : Type 0} (entry : X → Elem × A) where
  -- how what a value stands for compares with the element
  abbrev pub compared_with : Element → X → Ordering
  compared_with e x = compared e (entry x)

  at-entry : (xs : List X) (i : ℕ) (x : X) (d : Elem × A) → i < length xs → get_or (map entry xs) i d ≡ entry (get_or xs i x)
  at-entry xs i x d lt = get_or-map entry xs i x d lt

  some-value : (xs : List X) (i : ℕ) → i < length xs → X
  some-value [] i lt = absurd (omega arith)
  some-value (x ∷ xs) i lt = x

  module _ (e : Element) (xs : List X) where
    in_range : (r : Result ℕ ℕ) → MatchResult r (λ i. i < length xs) (λ i. i ≤ length xs)
        → MatchResult r (λ i. i < length (map entry xs)) (λ i. i ≤ length (map entry xs))
    in_range (Ok i) h = simp length-map h
    in_range (Err i) h = simp length-map h

    search-entries : (r : Result ℕ ℕ) → MatchResult r (λ i. i < length xs) (λ i. i ≤ length xs) → IsBinarySearchResult (compared_with e) xs r
        → IsBinarySearchResult (compared e) (map entry xs) r
    search-entries (Ok i) bound found = λ d. let x = some-value xs i bound in ap (compared e) (at-entry xs i x d bound) ∙ found x
    search-entries (Err i) bound found =
        let long : length (map entry xs) ≡ length xs = length-map xs entry in
        λ up.
        let parts =
        found (λ k j x le lt.
        subst (λ c. ordering_index (compared_with e (get_or xs k x)) ≤ ordering_index (compared e c)) (at-entry xs j x (entry x) lt)
        (subst (λ c. ordering_index (compared e c) ≤ ordering_index (compared e (get_or (map entry xs) j (entry x))))
        (at-entry xs k x (entry x) (omega arith)) (up k j (entry x) le (omega arith)))) in (
          λ k d lt in_range. let x = some-value xs k (omega arith) in ap (compared e) (at-entry xs k x d (omega arith)) ∙ parts.0 k x lt (omega arith),
          λ k d le lt. let x = some-value xs k (omega arith) in ap (compared e) (at-entry xs k x d (omega arith)) ∙ parts.1 k x le (omega arith),
        )

    -- what a binary search among the values answers is a search result for the children
    pub search-found : (r : Result ℕ ℕ) → rises (elements (map entry xs)) ≡ true → MatchResult r (λ i. i < length xs) (λ i. i ≤ length xs)
        → IsBinarySearchResult (compared_with e) xs r → IsSearchResult e (map entry xs) r
    search-found r rise bound found = search-result e (map entry xs) r rise (in_range r bound) (search-entries r bound found)

    -- the value at the place that was found is the child of the element
    pub entry-found : (i : ℕ) (x : X) → rises (elements (map entry xs)) ≡ true → IsSearchResult e (map entry xs) (Ok i) → i < length xs → x ≡ get_or xs i x
        → child_at e (map entry xs) ≡ Some (entry x).1
    entry-found i x rise found lt is =
        child-found e (map entry xs) i (entry x) rise found.within (found.same (entry x))
        ∙ ap (λ (c : Elem × A). Some c.1) (at-entry xs i x (entry x) lt ∙ ap entry (sym is))

    -- where a gap was found, there is no child of the element
    pub entry-absent : (i : ℕ) → IsSearchResult e (map entry xs) (Err i) → child_at e (map entry xs) ≡ None
    entry-absent i gap = child-absent e (map entry xs) i gap.between
