-- Exchanges made in place, and made again in the other order.
use Rattle.std.proofs.Common.{◌≡◌, ℕ, zero, suc, ◌+◌, ◌<◌, List, [], ◌∷◌, ◌++◌, length, take, get_or, set, map, reverse, Bool, true, false, eqb, cond, refl, sym, ap, subst, ◌∙◌, arith, true≢false}
use Rattle.std.specs.List.{swap}
use Rattle.std.specs.List.Sorted.{SwapsInRange}
use Rattle.std.proofs.lemmas.Bool.{eqb-true}
use Rattle.std.proofs.lemmas.List.{map-set, reverse-append, ext_get_or, get_or-set_other, length-set, take_more}
use Rattle.std.proofs.Math.ListN.{get_or-map}
use Rattle.std.proofs.lemmas.Grind.{get_or-set_at}
use Rattle.ssa_turn_body.proofs.Weaving.{same_number}
use Rattle.std.proofs.lemmas.List.Edits.{length-swap, swap_is}
use Rattle.ssa_typed.specs.Rows.{is_tree, are_trees}
use Rattle.ssa_turn_body.specs.Marks.{Child}
use Rattle.ssa_turn_body.specs.Orders.{reordered}
use Rattle.ssa_turn_body.proofs.Descending.{trees-set}
use Rattle.ssa_path.proofs.Orders.{both_first, both_second}

module _ {X : Type 0} where
  some-of : (xs : List X) (i : ℕ) → i < length xs → X
  some-of [] i lt = absurd (omega arith)
  some-of (x ∷ xs) i lt = x

  -- exchanges keep a list's length
  pub length-reordered : (xs : List X) (ps : List (ℕ × ℕ)) → length (reordered xs ps) ≡ length xs
  length-reordered xs [] = refl
  length-reordered xs (p ∷ ps) = length-reordered (swap xs p.0 p.1) ps ∙ length-swap xs p.0 p.1

  -- one exchange more is made last
  pub reordered-push : (xs : List X) (ps : List (ℕ × ℕ)) (p : ℕ × ℕ) → reordered xs (ps ++ p ∷ []) ≡ swap (reordered xs ps) p.0 p.1
  reordered-push xs [] p = refl
  reordered-push xs (q ∷ ps) p = reordered-push (swap xs q.0 q.1) ps p

  -- after an exchange either place has the other's element, and the others have their own
  pub get-swap : (xs : List X) (i j k : ℕ) (d : X) → i < length xs → j < length xs
      → get_or (swap xs i j) k d ≡ cond (eqb k j) (get_or xs i d) (cond (eqb k i) (get_or xs j d) (get_or xs k d))
  get-swap xs i j k d il jl =
      let a = get_or xs i d in
      let b = get_or xs j d in
      ap (λ ys. get_or ys k d) (sym (swap_is xs i j d il jl))
      ∙ get-set (set xs i b) j k a d (subst (λ n. j < n) (sym (length-set xs i b)) jl)
      ∙ ap (λ x. cond (eqb k j) a x) (get-set xs i k b d il)
    where
      get-set : (ys : List X) (j k : ℕ) (a d : X) → j < length ys → get_or (set ys j a) k d ≡ cond (eqb k j) a (get_or ys k d)
      get-set ys j k a d lt =
          elim (eqb k j) as (λ c. eqb k j ≡ c → get_or (set ys j a) k d ≡ cond c a (get_or ys k d)) [
            | true ↦ λ t. let same = eqb-true k j t in get_or-set_at ys j k a d same lt
            | false ↦ λ t. get_or-set_other ys j k a d (λ e. true≢false (sym (ap (λ n. eqb n j) e ∙ same_number j) ∙ t))
          ] refl

  -- an exchange made twice leaves the list as it was
  pub swap-twice : (xs : List X) (i j : ℕ) → i < length xs → j < length xs → swap (swap xs i j) i j ≡ xs
  swap-twice xs i j il jl =
      let d = some-of xs i il in
      let ys = swap xs i j in
      let long = length-swap xs i j in
      let il2 : i < length ys = subst (λ n. i < n) (sym long) il in
      let jl2 : j < length ys = subst (λ n. j < n) (sym long) jl in
      ext_get_or d (swap ys i j) xs (length-swap ys i j ∙ long) (λ k lt.
      get-swap ys i j k d il2 jl2
      ∙ (λ t. cond (eqb k j) (get-swap xs i j i d il jl t) (cond (eqb k i) (get-swap xs i j j d il jl t) (get-swap xs i j k d il jl t)))
      ∙ back (eqb k j) (eqb k i) (eqb i j) (eqb i i) (eqb j j) (get_or xs i d) (get_or xs j d) (get_or xs k d) (same_number i) (same_number j)
      (λ t. ap (λ n. get_or xs n d) (eqb-true k j t)) (λ t. ap (λ n. get_or xs n d) (eqb-true k i t)) (λ t. ap (λ n. get_or xs n d) (eqb-true i j t)))
    where
      back : (kj ki ij ii jj : Bool) (a b c : X) → ii ≡ true → jj ≡ true → (kj ≡ true → c ≡ b) → (ki ≡ true → c ≡ a) → (ij ≡ true → a ≡ b)
          → cond kj (cond ij a (cond ii b a)) (cond ki (cond jj a (cond (eqb j i) b b)) (cond kj a (cond ki b c))) ≡ c
      back true ki true ii jj a b c e f h g l = l refl ∙ sym (h refl)
      back true ki false ii jj a b c e f h g l = ap (λ x. cond x b a) e ∙ sym (h refl)
      back false true ij ii jj a b c e f h g l = ap (λ x. cond x a (cond (eqb j i) b b)) f ∙ sym (g refl)
      back false false ij ii jj a b c e f h g l = refl

  -- exchanges made again in the other order leave the list as it was
  pub there-and-back : (xs : List X) (ps : List (ℕ × ℕ)) → SwapsInRange (length xs) ps → reordered (reordered xs ps) (reverse ps) ≡ xs
  there-and-back xs [] h = refl
  there-and-back xs (p ∷ ps) h =
      let ys = swap xs p.0 p.1 in
      let long = length-swap xs p.0 p.1 in
      ap (reordered (reordered ys ps)) (reverse-append (p ∷ []) ps)
      ∙ reordered-push (reordered ys ps) (reverse ps) p
      ∙ ap (λ zs. swap zs p.0 p.1) (there-and-back ys ps (subst (λ n. SwapsInRange n ps) (sym long) h.2))
      ∙ swap-twice xs p.0 p.1 h.0 h.1

-- ---- places in range

-- two lists of exchanges within range are so together
pub range-append : (n : ℕ) (ps qs : List (ℕ × ℕ)) → SwapsInRange n ps → SwapsInRange n qs → SwapsInRange n (ps ++ qs)
range-append n [] qs h g = g
range-append n (p ∷ ps) qs h g = (h.0, h.1, range-append n ps qs h.2 g)

-- exchanges within range are so in the other order
pub range-reverse : (n : ℕ) (ps : List (ℕ × ℕ)) → SwapsInRange n ps → SwapsInRange n (reverse ps)
range-reverse n [] h = tt
range-reverse n (p ∷ ps) h = subst (SwapsInRange n) (sym (reverse-append (p ∷ []) ps))
    (range-append n (reverse ps) (p ∷ []) (range-reverse n ps h.2) (h.0, h.1, tt))

-- each of some exchanges within range has both its places there
pub range-at : (n : ℕ) (ps : List (ℕ × ℕ)) (i : ℕ) (d : ℕ × ℕ) → i < length ps → SwapsInRange n ps → ((get_or ps i d).0 < n) × ((get_or ps i d).1 < n)
range-at n [] i d lt h = absurd (omega arith)
range-at n (p ∷ ps) zero d lt h = (h.0, h.1)
range-at n (p ∷ ps) (suc i) d lt h = range-at n ps i d (omega arith) h.2

-- ---- what the elements are seen as

map-swap : {X Y : Type 0} (f : X → Y) (xs : List X) (i j : ℕ) → map f (swap xs i j) ≡ swap (map f xs) i j
map-swap f [] i j = refl
map-swap f (d ∷ xs) i j =
    map-set f (set (d ∷ xs) i (get_or (d ∷ xs) j d)) j (get_or (d ∷ xs) i d)
    ∙ ap (λ ys. set ys j (f (get_or (d ∷ xs) i d))) (map-set f (d ∷ xs) i (get_or (d ∷ xs) j d))
    ∙ (λ t. set (set (map f (d ∷ xs)) i (sym (get_or-map f (d ∷ xs) j d) t)) j (sym (get_or-map f (d ∷ xs) i d) t))

-- what a function shows of a list is exchanged as the list is
pub map-reordered : {X Y : Type 0} (f : X → Y) (xs : List X) (ps : List (ℕ × ℕ)) → map f (reordered xs ps) ≡ reordered (map f xs) ps
map-reordered f xs [] = refl
map-reordered f xs (p ∷ ps) = map-reordered f (swap xs p.0 p.1) ps ∙ ap (λ ys. reordered ys ps) (map-swap f xs p.0 p.1)

-- ---- trees

tree-or : (cs : List Child) (i : ℕ) (d : Child) → are_trees cs ≡ true → is_tree d.1 ≡ true → is_tree (get_or cs i d).1 ≡ true
tree-or [] i d h t = t
tree-or (c ∷ cs) zero d h t = both_first (is_tree c.1) (are_trees cs) h
tree-or (c ∷ cs) (suc i) d h t = tree-or cs i d (both_second (is_tree c.1) (are_trees cs) h) t

trees-swap : (cs : List Child) (i j : ℕ) → are_trees cs ≡ true → are_trees (swap cs i j) ≡ true
trees-swap [] i j h = refl
trees-swap (d ∷ cs) i j h =
    let first = both_first (is_tree d.1) (are_trees cs) h in
    trees-set (set (d ∷ cs) i (get_or (d ∷ cs) j d)) j (get_or (d ∷ cs) i d)
    (trees-set (d ∷ cs) i (get_or (d ∷ cs) j d) h (tree-or (d ∷ cs) j d h first)) (tree-or (d ∷ cs) i d h first)

-- trees stay trees when they are exchanged
pub trees-reordered : (cs : List Child) (ps : List (ℕ × ℕ)) → are_trees cs ≡ true → are_trees (reordered cs ps) ≡ true
trees-reordered cs [] t = t
trees-reordered cs (p ∷ ps) t = trees-reordered (swap cs p.0 p.1) ps (trees-swap cs p.0 p.1 t)

-- ---- the loop

-- with one exchange more made, the first ones and this one are made
pub reorder-step : {X : Type 0} (xs ys zs : List X) (ps : List (ℕ × ℕ)) (i : ℕ) (d : ℕ × ℕ) → i < length ps → ys ≡ reordered xs (take i ps)
    → zs ≡ swap ys (get_or ps i d).0 (get_or ps i d).1 → zs ≡ reordered xs (take (i + 1) ps)
reorder-step xs ys zs ps i d lt h e =
    e ∙ ap (λ y. swap y (get_or ps i d).0 (get_or ps i d).1) h ∙ sym (reordered-push xs (take i ps) (get_or ps i d))
    ∙ sym (ap (reordered xs) (take_more ps i d lt))
