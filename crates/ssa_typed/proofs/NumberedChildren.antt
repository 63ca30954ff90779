-- Children sorted by the numbers of their elements stand in the order of their elements.
use Rattle.std.proofs.Common.{◌≡◌, ℕ, ◌<◌, List, [], ◌∷◌, length, map, Bool, true, Less, Equal, Greater, refl, sym, ap, subst, ◌∙◌, arith}
use Rattle.std.specs.List.{All}
use Rattle.std.specs.List.Sorted.{IsPermutation, IsSortedBy, IsStableBy}
use Rattle.std.specs.Cmp.{IsTotalOrder, nat_cmp_total, on_total, then_total}
use Rattle.std.specs.Ordering.{is_lt, nat_cmp, ordering_reverse, ordering_then}
use Rattle.std.proofs.lemmas.Bool.Decides.{nat_tests}
use Rattle.std.proofs.lemmas.List.Elements.{All-cons, All-head, All-nil, All-tail}
use Rattle.std.proofs.lemmas.List.Sorted.{All-permutation}
use Rattle.ssa_model.specs.definitions.Path.{Element, element_cmp}
use Rattle.ssa_path.specs.Children.{elements}
use Rattle.ssa_path.specs.declared.element.Elem.{Elem}
use Rattle.ssa_path.specs.SortKeys.{BeginsWith, element_key}
use Rattle.ssa_path.specs.View.{element_view}
use Rattle.ssa_path.proofs.LeadingTexts.{element_key-decides}
use Rattle.ssa_path.proofs.Orders.{element_cmp_total}
use Rattle.ssa_path.proofs.SortKeys.{three-ways}
use Rattle.ssa_typed.specs.InOrder.{IsInOrder}
use Rattle.ssa_typed.specs.Keyed.{behind_key, child_of, keyed_cmp, keyed_element, keyed_view}
use Rattle.ssa_typed.specs.Rows.{are_apart}
use Rattle.ssa_typed.specs.declared.keyed.KeyedChild.{KeyedChild}
use Rattle.ssa_typed.specs.declared.node.Node.{Node}
use Rattle.ssa_typed.proofs.Sorting.{sorted-agreeing}

-- the order of children behind numbers is total
pub keyed_cmp_total : IsTotalOrder keyed_cmp
keyed_cmp_total = then_total (on_total (λ (k : KeyedChild). k.key) nat_cmp_total) (on_total keyed_element element_cmp_total)

-- the one is below the other
abbrev pub keyed_before : KeyedChild → KeyedChild → Bool
keyed_before j k = is_lt (keyed_cmp j k)

-- what the children begin with is the start, and their numbers are those behind it
record IsKeyed (first : Element) (start : List ℕ) (k : KeyedChild) : Type 0 where
  begins : BeginsWith start first (keyed_element k)
  number : k.key ≡ element_key first (length start) (keyed_element k)

-- the child with the lesser number stands first
key-first : (first : Element) (start : List ℕ) (j k : KeyedChild) → IsKeyed first start j → IsKeyed first start k → j.key < k.key
    → element_cmp (keyed_element j) (keyed_element k) ≡ Less
key-first first start j k g h lt =
    element_key-decides first (keyed_element j) (keyed_element k) start g.begins h.begins
    (subst (λ n. n < element_key first (length start) (keyed_element k)) g.number (subst (λ n. j.key < n) h.number lt))

-- so the order behind numbers is that of the elements
cmp-agrees : (first : Element) (start : List ℕ) (j k : KeyedChild) → IsKeyed first start j → IsKeyed first start k
    → keyed_cmp j k ≡ element_cmp (keyed_element j) (keyed_element k)
cmp-agrees first start j k g h =
    let d = keyed_element j in
    let e = keyed_element k in
    three-ways j.key k.key
    (λ lt.
    let less : nat_cmp j.key k.key ≡ Less = grind (arith, nat_tests) in
    ap (λ o. ordering_then o (element_cmp d e)) less ∙ sym (key-first first start j k g h lt))
    (λ lt.
    let greater : nat_cmp j.key k.key ≡ Greater = grind (arith, nat_tests) in
    ap (λ o. ordering_then o (element_cmp d e)) greater
    ∙ sym (element_cmp_total.antisymm d e ∙ ap ordering_reverse (key-first first start k j h g lt)))
    (λ same.
    let equal : nat_cmp j.key k.key ≡ Equal = grind (arith, nat_tests) in
    ap (λ o. ordering_then o (element_cmp d e)) equal)

abbrev Child : Type 0
Child = Elem × Node

no-pairs : (p : ℕ × Child) (ps : List (ℕ × Child)) → [] ≡ p ∷ ps → ⊥
no-pairs p ps e = cc

first-pair : (p q : ℕ × Child) (ps qs : List (ℕ × Child)) → p ∷ ps ≡ q ∷ qs → p ≡ q
first-pair p q ps qs e = cc

other-pairs : (p q : ℕ × Child) (ps qs : List (ℕ × Child)) → p ∷ ps ≡ q ∷ qs → ps ≡ qs
other-pairs p q ps qs e = cc

all-keyed : (first : Element) (start : List ℕ) (ks : List KeyedChild) (cs : List Child) → map keyed_view ks ≡ map (behind_key first (length start)) cs
    → All (λ c. BeginsWith start first (element_view c.0)) cs → All (IsKeyed first start) ks
all-keyed first start [] cs e all = All-nil (IsKeyed first start)
all-keyed first start (k ∷ ks) [] e all = absurd (no-pairs (keyed_view k) (map keyed_view ks) (sym e))
all-keyed first start (k ∷ ks) (c ∷ cs) e all =
    let n = length start in
    let begins = λ (d : Child). BeginsWith start first (element_view d.0) in
    let one = first-pair (keyed_view k) (behind_key first n c) (map keyed_view ks) (map (behind_key first n) cs) e in
    let rest = other-pairs (keyed_view k) (behind_key first n c) (map keyed_view ks) (map (behind_key first n) cs) e in
    let child = ap (λ (p : ℕ × Child). p.1) one in
    All-cons (IsKeyed first start) k ks
    (record {
      begins = subst begins (sym child) (All-head begins c cs all);
      number = ap (λ (p : ℕ × Child). p.0) one ∙ ap (λ (d : Child). element_key first n (element_view d.0)) (sym child);
    })
    (all-keyed first start ks cs rest (All-tail begins c cs all))

the-children : (first : Element) (n : ℕ) (ks : List KeyedChild) (cs : List Child) → map keyed_view ks ≡ map (behind_key first n) cs → map child_of ks ≡ cs
the-children first n [] [] e = refl
the-children first n [] (c ∷ cs) e = absurd (no-pairs (behind_key first n c) (map (behind_key first n) cs) e)
the-children first n (k ∷ ks) [] e = absurd (no-pairs (keyed_view k) (map keyed_view ks) (sym e))
the-children first n (k ∷ ks) (c ∷ cs) e =
    let one = first-pair (keyed_view k) (behind_key first n c) (map keyed_view ks) (map (behind_key first n) cs) e in
    let rest = other-pairs (keyed_view k) (behind_key first n c) (map keyed_view ks) (map (behind_key first n) cs) e in
    λ i. (one i).1 ∷ the-children first n ks cs rest i

-- what a stable sort of the children behind their numbers leaves
pub sorted-keyed : (first : Element) (start : List ℕ) (cs : List Child) (rs ss : List KeyedChild)
    → map keyed_view rs ≡ map (behind_key first (length start)) cs → All (λ c. BeginsWith start first (element_view c.0)) cs
    → are_apart (elements cs) ≡ true → IsPermutation rs ss → IsStableBy keyed_before rs ss → IsSortedBy keyed_before ss → IsInOrder cs (map child_of ss)
sorted-keyed first start cs rs ss is all apart moved stable up =
    let are = all-keyed first start rs cs is all in
    sorted-agreeing child_of (IsKeyed first start) keyed_before (λ j k g h. ap is_lt (cmp-agrees first start j k g h)) cs rs ss
    (the-children first (length start) rs cs is) apart are (All-permutation (IsKeyed first start) rs ss moved are) stable up
