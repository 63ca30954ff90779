-- The least place of neighbours that are equal in a list that is sorted stably is that of the first that repeats.
use Rattle.std.proofs.Common.{◌≡◌, ℕ, suc, ◌+◌, ◌<◌, ◌≤◌, List, [], ◌∷◌, ◌++◌, length, get_or, map, Bool, true, false, not, ◌&&◌, ◌||◌, cond, Option, Some, None, ◌⊎◌, inl, inr, ⊎_elim, Ordering, Less, Equal, Greater, refl, sym, ap, ap₂, ◌∙◌, subst, arith, true≢false}
use Rattle.std.specs.Prelude.{⊤, filter, nat_lt, if◌then◌else◌}
use Rattle.std.specs.List.{list_any}
use Rattle.std.specs.List.Sorted.{IsSortedBy, IsStableBy, ties}
use Rattle.std.specs.Ordering.{is_lt, is_eq, ordering_reverse, eq_by_cmp}
use Rattle.std.specs.Cmp.{IsTotalOrder, Equal-is, tied_itself}
use Rattle.std.proofs.lemmas.Bool.Decides.{nat_tests}
use Rattle.std.proofs.lemmas.List.Sorted.{ranks_by, sorted_far}
use Rattle.ssa_schema.specs.Repeats.{repeat_from, lesser, least_from, least_repeat}

-- the number is there, and no more than this
abbrev AtMost : Option ℕ → ℕ → Type 0
AtMost None r = ⊥
AtMost (Some n) r = n ≤ r

lesser-here : (o : Option ℕ) (n : ℕ) → AtMost (lesser o n) n
lesser-here None n = omega arith
lesser-here (Some m) n = elim (nat_lt n m) as
    (λ b. nat_lt n m ≡ b → AtMost (if b then Some n else Some m) n) [ true ↦ λ h. omega arith | false ↦ λ h. grind (arith, nat_tests) ] refl

lesser-before : (o : Option ℕ) (n r : ℕ) → AtMost o r → AtMost (lesser o n) r
lesser-before None n r h = absurd h
lesser-before (Some m) n r h = elim (nat_lt n m) as
    (λ b. nat_lt n m ≡ b → AtMost (if b then Some n else Some m) r) [ true ↦ λ e. grind (arith, nat_tests) | false ↦ λ e. h ] refl

lesser-is : (o : Option ℕ) (n r : ℕ) → lesser o n ≡ Some r → (o ≡ Some r) ⊎ (n ≡ r)
lesser-is None n r e = inr (cc)
lesser-is (Some m) n r e = elim (nat_lt n m) as
    (λ b. (if b then Some n else Some m) ≡ Some r → (Some m ≡ Some r) ⊎ (n ≡ r)) [ true ↦ λ h. inr (cc) | false ↦ λ h. inl h ] e

none-number : (r : ℕ) → ◌≡◌ {A = Option ℕ} None (Some r) → ⊥
none-number r e = cc

-- where what was found is the same, the numbers are the same
pub some-number : (m n : ℕ) → ◌≡◌ {A = Option ℕ} (Some m) (Some n) → m ≡ n
some-number m n e = cc

-- numbers that bound each other
same-number : (o p : Option ℕ) → ((r : ℕ) → o ≡ Some r → AtMost p r) → ((r : ℕ) → p ≡ Some r → AtMost o r) → o ≡ p
same-number None None f g = refl
same-number None (Some n) f g = absurd (g n refl)
same-number (Some m) None f g = absurd (f m refl)
same-number (Some m) (Some n) f g =
    let a : n ≤ m = f m refl in
    let b : m ≤ n = g n refl in
    ap Some (omega arith)

-- each with its place, the first at k
abbrev pub numbered : {A : Type 0} → ℕ → List A → List (ℕ × A)
numbered k [] = []
numbered k (x ∷ xs) = (k, x) ∷ numbered (k + 1) xs

-- one more at the end has the next place
pub numbered-more : {A : Type 0} (k : ℕ) (xs : List A) (x : A) → numbered k xs ++ (k + length xs, x) ∷ [] ≡ numbered k (xs ++ x ∷ [])
numbered-more k [] x = let here : k + 0 ≡ k = omega arith in ap (λ n. (n, x) ∷ []) here
numbered-more k (y ∷ xs) x = let next : k + suc (length xs) ≡ (k + 1) + length xs = omega arith in
    ap (λ n. (k, y) ∷ (numbered (k + 1) xs ++ (n, x) ∷ [])) next ∙ ap (λ zs. (k, y) ∷ zs) (numbered-more (k + 1) xs x)

module _ {P : Type 0} where
  no-pairs : (p : P) (ps : List P) → [] ≡ p ∷ ps → ⊥
  no-pairs p ps e = cc

  first-pair : (p q : P) (ps qs : List P) → p ∷ ps ≡ q ∷ qs → p ≡ q
  first-pair p q ps qs e = cc

  other-pairs : (p q : P) (ps qs : List P) → p ∷ ps ≡ q ∷ qs → ps ≡ qs
  other-pairs p q ps qs e = cc

module _ {X K : Type 0} (place : X → ℕ) (key : X → K) (cmp : K → K → Ordering) (total : IsTotalOrder cmp) (exact : (a b : K) → cmp a b ≡ Equal → a ≡ b) where
  -- the places and keys
  abbrev seen : List X → List (ℕ × K)
  seen xs = map (λ x. (place x, key x)) xs

  abbrev same : K → K → Bool
  same = eq_by_cmp cmp

  -- the key of the one is below that of the other
  abbrev pub before : X → X → Bool
  before x y = is_lt (cmp (key x) (key y))

  abbrev of_key : K → X → Bool
  of_key e x = same e (key x)

  abbrev like : K → List X → List X
  like e xs = filter (of_key e) xs

  same-itself : (e : K) → same e e ≡ true
  same-itself e = ap is_eq (tied_itself total e)

  same-is : (d e : K) → same d e ≡ true → d ≡ e
  same-is d e h = exact d e ((Equal-is (cmp d e)).0 h)

  -- ---- a stable sort leaves those that are equal in their order

  none_some : {A : Type 0} (x : A) (xs : List A) → [] ≡ x ∷ xs → ⊥
  none_some x xs e = cc

  filter_passes : (f : X → Bool) (xs : List X) (x : X) (rest : List X) → filter f xs ≡ x ∷ rest → f x ≡ true
  filter_passes f [] x rest e = absurd (none_some x rest e)
  filter_passes f (y ∷ xs) x rest e =
      elim (f y) as (λ b. f y ≡ b → cond b (y ∷ filter f xs) (filter f xs) ≡ x ∷ rest → f x ≡ true) [
        | true ↦ λ h k. let is : y ≡ x = cc in ap f (sym is) ∙ h
        | false ↦ λ h k. filter_passes f xs x rest k
      ] refl e

  tied : (o : Ordering) → (not (is_lt o) && not (is_lt (ordering_reverse o))) ≡ is_eq o
  tied Less = refl
  tied Equal = refl
  tied Greater = refl

  ties_are : (x y : X) → ties before x y ≡ of_key (key x) y
  ties_are x y = ap (λ o. not (is_lt (cmp (key x) (key y))) && not (is_lt o)) (total.antisymm (key y) (key x)) ∙ tied (cmp (key x) (key y))

  module _ (xs ys : List X) (stable : IsStableBy before xs ys) where
    alike_at : (e : K) (x : X) → of_key e x ≡ true → like e ys ≡ like e xs
    alike_at e x h =
        subst (λ f. like f ys ≡ like f xs) (sym (same-is e (key x) h))
        ((λ i. filter (λ y. sym (ties_are x y) i) ys) ∙ stable x ∙ (λ i. filter (λ y. ties_are x y i) xs))

    alike : (e : K) → like e ys ≡ like e xs
    alike e =
        elim (like e ys) as (λ us. like e ys ≡ us → us ≡ like e xs) [
          | [] ↦ λ h. elim (like e xs) as (λ vs. like e xs ≡ vs → [] ≡ vs) [
            | [] ↦ λ k. refl
            | v ∷ vs ↦ λ k. sym h ∙ alike_at e v (filter_passes (of_key e) xs v vs k) ∙ k
          ] refl
          | u ∷ us ↦ λ h. sym h ∙ alike_at e u (filter_passes (of_key e) ys u us h)
        ] refl

  -- ---- one that repeats: another with its key stands before it

  record Again (e : K) (xs : List X) (x : X) : Type 0 where
    front : List X
    other : X
    behind : List X
    split : like e xs ≡ front ++ other ∷ x ∷ behind

  passes : (e : K) (x : X) (xs : List X) → of_key e x ≡ true → like e (x ∷ xs) ≡ x ∷ like e xs
  passes e x xs h = ap (λ b. cond b (x ∷ like e xs) (like e xs)) h

  skips : (e : K) (x : X) (xs : List X) → of_key e x ≡ false → like e (x ∷ xs) ≡ like e xs
  skips e x xs h = ap (λ b. cond b (x ∷ like e xs) (like e xs)) h

  again-cons : (e : K) (y : X) (xs : List X) (x : X) → Again e xs x → Again e (y ∷ xs) x
  again-cons e y xs x h =
      elim (of_key e y) as (λ b. of_key e y ≡ b → Again e (y ∷ xs) x) [
        | true ↦ λ k. record { front = y ∷ h.front; other = h.other; behind = h.behind; split = passes e y xs k ∙ ap (λ zs. y ∷ zs) h.split }
        | false ↦ λ k. record { front = h.front; other = h.other; behind = h.behind; split = skips e y xs k ∙ h.split }
      ] refl

  -- ---- neighbours in a sorted list

  least-bound : (o : Option ℕ) (x : X) (xs : List X) (r : ℕ) → AtMost o r → AtMost (least_from same o (key x) (seen xs)) r
  least-bound o x [] r h = h
  least-bound o x (y ∷ ys) r h =
      elim (same (key x) (key y)) as (λ b. AtMost (least_from same (if b then lesser o (place y) else o) (key y) (seen ys)) r) [
        | true ↦ least-bound (lesser o (place y)) y ys r (lesser-before o (place y) r h)
        | false ↦ least-bound o y ys r h
      ]

  -- one that repeats stands at the place
  record IsAgain (xs : List X) (r : ℕ) : Type 0 where
    of : K
    one : X
    at : (place one) ≡ r
    again : Again of xs one

  abbrev Placed : Option ℕ → List X → ℕ → Type 0
  Placed o xs r = (o ≡ Some r) ⊎ IsAgain xs r

  is_again-cons : (x : X) (xs : List X) (r : ℕ) → IsAgain xs r → IsAgain (x ∷ xs) r
  is_again-cons x xs r h = record { of = h.of; one = h.one; at = h.at; again = again-cons h.of x xs h.one h.again }

  placed-cons : (o p : Option ℕ) (x y : X) (ys : List X) (r : ℕ) → (p ≡ Some r → Placed o (x ∷ y ∷ ys) r) → Placed p (y ∷ ys) r → Placed o (x ∷ y ∷ ys) r
  placed-cons o p x y ys r f (inl h) = f h
  placed-cons o p x y ys r f (inr h) = inr (is_again-cons x (y ∷ ys) r h)

  neighbours : (x y : X) (ys : List X) → same (key x) (key y) ≡ true → Again (key y) (x ∷ y ∷ ys) y
  neighbours x y ys h =
      let first : of_key (key y) x ≡ true = subst (λ k. same k (key x) ≡ true) (same-is (key x) (key y) h) (same-itself (key x)) in
      let both = passes (key y) x (y ∷ ys) first ∙ ap (λ zs. x ∷ zs) (passes (key y) y ys (same-itself (key y))) in
      record { front = []; other = x; behind = like (key y) ys; split = both }

  -- the least place is one of a repeated value
  least-placed : (o : Option ℕ) (x : X) (xs : List X) (r : ℕ) → least_from same o (key x) (seen xs) ≡ Some r → Placed o (x ∷ xs) r
  least-placed o x [] r e = inl e
  least-placed o x (y ∷ ys) r e =
      elim (same (key x) (key y)) as (λ b. same (key x) (key y) ≡ b
      → least_from same (if b then lesser o (place y) else o) (key y) (seen ys) ≡ Some r → Placed o (x ∷ y ∷ ys) r) [
        | true ↦ λ h k.
            placed-cons o (lesser o (place y)) x y ys r
            (λ is. ⊎_elim (λ a. inl a) (λ b. inr (record { of = key y; one = y; at = b; again = neighbours x y ys h })) (lesser-is o (place y) r is))
            (least-placed (lesser o (place y)) y ys r k)
        | false ↦ λ h k. placed-cons o o x y ys r (λ is. inl is) (least-placed o y ys r k)
      ] refl e

  -- none is less than those before it
  abbrev Far : List X → Type 0
  Far xs = (i j : ℕ) (d : X) → i ≤ j → j < length xs → before (get_or xs j d) (get_or xs i d) ≡ false

  far-tail : (x : X) (xs : List X) → Far (x ∷ xs) → Far xs
  far-tail x xs h i j d le lt = h (suc i) (suc j) d (omega arith) (omega arith)

  abbrev Above : X → List X → Type 0
  Above x [] = ⊤
  Above x (y ∷ ys) = (before y x ≡ false) × Above x ys

  far-above : (x : X) (xs : List X) → ((k : ℕ) → k < length xs → before (get_or xs k x) x ≡ false) → Above x xs
  far-above x [] h = tt
  far-above x (y ∷ ys) h = (h 0 (omega arith), far-above x ys (λ k p. h (suc k) (omega arith)))

  above-first : (x : X) (e : K) (xs : List X) (b : X) (rest : List X) → Above x xs → like e xs ≡ b ∷ rest → before b x ≡ false
  above-first x e [] b rest up is = absurd (none_some b rest is)
  above-first x e (y ∷ ys) b rest up is =
      elim (of_key e y) as (λ t. cond t (y ∷ like e ys) (like e ys) ≡ b ∷ rest → before b x ≡ false) [
        | true ↦ λ h. let same-one : y ≡ b = cc in subst (λ z. before z x ≡ false) same-one up.0
        | false ↦ λ h. above-first x e ys b rest up.1 h
      ] is

  -- between two that are equal stands nothing else
  either-way : (o : Ordering) → is_lt o ≡ false → is_lt (ordering_reverse o) ≡ false → is_eq o ≡ true
  either-way Less a b = absurd (true≢false a)
  either-way Equal a b = refl
  either-way Greater a b = absurd (true≢false b)

  between : (e x y b : K) → same e x ≡ true → same e b ≡ true → is_lt (cmp y x) ≡ false → is_lt (cmp b y) ≡ false → same e y ≡ true
  between e x y b first last low high =
      let down : is_lt (cmp y e) ≡ false = ap (λ k. is_lt (cmp y k)) (same-is e x first) ∙ low in
      let up : is_lt (cmp e y) ≡ false = ap (λ k. is_lt (cmp k y)) (same-is e b last) ∙ high in
      either-way (cmp e y) up (ap is_lt (sym (total.antisymm y e)) ∙ down)

  no-pair : (zs front : List X) (a b : X) (behind : List X) → length zs ≤ 1 → zs ≡ front ++ a ∷ b ∷ behind → ⊥
  no-pair zs [] a b behind le is = let long : length zs ≡ length (a ∷ b ∷ behind) = ap length is in omega arith
  no-pair zs (c ∷ front) a b behind le is =
      let long : length zs ≡ suc (length (front ++ a ∷ b ∷ behind)) = ap length is in no-pair-two (front) a b behind (omega arith)
    where
      no-pair-two : (front : List X) (a b : X) (behind : List X) → length (front ++ a ∷ b ∷ behind) ≤ 0 → ⊥
      no-pair-two [] a b behind le = omega arith
      no-pair-two (c ∷ front) a b behind le = omega arith

  one-at-most : (e : K) (x : X) → length (like e (x ∷ [])) ≤ 1
  one-at-most e x = elim (of_key e x) as (λ b. length (cond b (x ∷ []) []) ≤ 1) [ true ↦ omega arith | false ↦ omega arith ]

  -- the next of its like is its neighbour
  least-next : (o : Option ℕ) (x y : X) (ys : List X) (e : K) (a b : X) (behind : List X) → Far (x ∷ y ∷ ys) → of_key e x ≡ true
      → x ∷ like e (y ∷ ys) ≡ a ∷ b ∷ behind → AtMost (least_from same o (key x) (seen (y ∷ ys))) (place b)
  least-next o x y ys e a b behind far h is =
      let next : like e (y ∷ ys) ≡ b ∷ behind = cc in
      elim (of_key e y) as (λ t. of_key e y ≡ t → AtMost (least_from same o (key x) (seen (y ∷ ys))) (place b)) [
        | true ↦ λ g.
            let all : y ∷ like e ys ≡ b ∷ behind = sym (passes e y ys g) ∙ next in
            let is-b : y ≡ b = cc in
            let tie : same (key x) (key y) ≡ true = subst (λ k. same k (key y) ≡ true) (same-is e (key x) h) g in
            subst (λ t. AtMost (least_from same (if t then lesser o (place y) else o) (key y) (seen ys)) (place b)) (sym tie)
            (least-bound (lesser o (place y)) y ys (place b) (subst (λ z. AtMost (lesser o (place y)) (place z)) is-b (lesser-here o (place y))))
        | false ↦ λ g.
            let later : like e ys ≡ b ∷ behind = sym (skips e y ys g) ∙ next in
            let high = above-first y e ys b behind (far-above y ys (λ k p. far 1 (suc (suc k)) y (omega arith) (omega arith))) later in
            let last = filter_passes (of_key e) ys b behind later in
            absurd (true≢false (sym (between e (key x) (key y) (key b) h last (far 0 1 x (omega arith) (omega arith)) high) ∙ g))
      ] refl

  -- a repeated value stands behind its like, and its place bounds the least
  least-at-most : (o : Option ℕ) (x : X) (xs : List X) (e : K) (front : List X) (a b : X) (behind : List X) → Far (x ∷ xs)
      → like e (x ∷ xs) ≡ front ++ a ∷ b ∷ behind → AtMost (least_from same o (key x) (seen xs)) (place b)
  least-at-most o x [] e front a b behind far is = absurd (no-pair (like e (x ∷ [])) front a b behind (one-at-most e x) is)
  least-at-most o x (y ∷ ys) e front a b behind far is =
      elim (of_key e x) as (λ t. of_key e x ≡ t → AtMost (least_from same o (key x) (seen (y ∷ ys))) (place b)) [
        | true ↦ λ h. elim front as (λ f. x ∷ like e (y ∷ ys) ≡ f ++ a ∷ b ∷ behind → AtMost (least_from same o (key x) (seen (y ∷ ys))) (place b)) [
          | [] ↦ λ k. least-next o x y ys e a b behind far h k
          | c ∷ f ↦ λ k. least-at-most (if same (key x) (key y) then lesser o (place y) else o) y ys e f a b behind (far-tail x (y ∷ ys) far) (cc)
        ] (sym (passes e x (y ∷ ys) h) ∙ is)
        | false ↦ λ h. least-at-most (if same (key x) (key y) then lesser o (place y) else o) y ys e front a b behind (far-tail x (y ∷ ys) far)
            (sym (skips e x (y ∷ ys) h) ∙ is)
      ] refl

  -- ---- the first that repeats, in a list with its places

  -- their places are k and those that follow
  abbrev pub Numbered : ℕ → List X → Type 0
  Numbered k [] = ⊤
  Numbered k (x ∷ xs) = ((place x) ≡ k) × Numbered (k + 1) xs

  abbrev keys : List X → List K
  keys xs = map key xs

  abbrev first_in : ℕ → List K → List X → Option ℕ
  first_in k earlier xs = repeat_from same k earlier (keys xs)

  place-first : (k : ℕ) (e : K) (xs : List X) (b : X) (rest : List X) → Numbered k xs → like e xs ≡ b ∷ rest → k ≤ (place b)
  place-first k e [] b rest n is = absurd (none_some b rest is)
  place-first k e (x ∷ xs) b rest n is =
      elim (of_key e x) as (λ t. cond t (x ∷ like e xs) (like e xs) ≡ b ∷ rest → k ≤ (place b)) [
        | true ↦ λ h. let same-one : x ≡ b = cc in let there : (place b) ≡ k = ap (λ z. (place z)) (sym same-one) ∙ n.0 in omega arith
        | false ↦ λ h. let more = place-first (k + 1) e xs b rest n.1 h in omega arith
      ] is

  place-pair : (k : ℕ) (e : K) (xs front : List X) (a b : X) (behind : List X) → Numbered k xs → like e xs ≡ front ++ a ∷ b ∷ behind → k ≤ (place b)
  place-pair k e [] [] a b behind n is = absurd (none_some a (b ∷ behind) is)
  place-pair k e [] (c ∷ front) a b behind n is = absurd (none_some c (front ++ a ∷ b ∷ behind) is)
  place-pair k e (x ∷ xs) front a b behind n is =
      elim (of_key e x) as (λ t. cond t (x ∷ like e xs) (like e xs) ≡ front ++ a ∷ b ∷ behind → k ≤ (place b)) [
        | true ↦ elim front as (λ f. x ∷ like e xs ≡ f ++ a ∷ b ∷ behind → k ≤ (place b)) [
          | [] ↦ λ h. let next : like e xs ≡ b ∷ behind = cc in let more = place-first (k + 1) e xs b behind n.1 next in omega arith
          | c ∷ f ↦ λ h. let next : like e xs ≡ f ++ a ∷ b ∷ behind = cc in let more = place-pair (k + 1) e xs f a b behind n.1 next in omega arith
        ]
        | false ↦ λ h. let more = place-pair (k + 1) e xs front a b behind n.1 h in omega arith
      ] is

  -- one whose like stands before the list
  known-at-most : (k : ℕ) (earlier : List K) (e : K) (xs : List X) (b : X) (rest : List X) → Numbered k xs → list_any (same e) earlier ≡ true
      → like e xs ≡ b ∷ rest → AtMost (first_in k earlier xs) (place b)
  known-at-most k earlier e [] b rest n among is = absurd (none_some b rest is)
  known-at-most k earlier e (x ∷ xs) b rest n among is =
      elim (list_any (same (key x)) earlier) as
      (λ t. list_any (same (key x)) earlier ≡ t → AtMost (if t then Some k else first_in (k + 1) (key x ∷ earlier) xs) (place b)) [
        | true ↦ λ h. place-first k e (x ∷ xs) b rest n is
        | false ↦ λ h. elim (of_key e x) as (λ t. of_key e x ≡ t → AtMost (first_in (k + 1) (key x ∷ earlier) xs) (place b)) [
          | true ↦ λ g. absurd (true≢false (sym among ∙ ap (λ d. list_any (same d) earlier) (same-is e (key x) g) ∙ h))
          | false ↦ λ g. known-at-most (k + 1) (key x ∷ earlier) e xs b rest n.1
              (ap (λ t. t || list_any (same e) earlier) g ∙ among) (sym (skips e x xs g) ∙ is)
        ] refl
      ] refl

  again-at-most : (k : ℕ) (earlier : List K) (e : K) (xs front : List X) (a b : X) (behind : List X) → Numbered k xs → like e xs ≡ front ++ a ∷ b ∷ behind
      → AtMost (first_in k earlier xs) (place b)
  again-at-most k earlier e [] [] a b behind n is = absurd (none_some a (b ∷ behind) is)
  again-at-most k earlier e [] (c ∷ front) a b behind n is = absurd (none_some c (front ++ a ∷ b ∷ behind) is)
  again-at-most k earlier e (x ∷ xs) front a b behind n is =
      elim (list_any (same (key x)) earlier) as (λ t. AtMost (if t then Some k else first_in (k + 1) (key x ∷ earlier) xs) (place b)) [
        | true ↦ place-pair k e (x ∷ xs) front a b behind n is
        | false ↦ elim (of_key e x) as (λ t. of_key e x ≡ t → AtMost (first_in (k + 1) (key x ∷ earlier) xs) (place b)) [
          | true ↦ λ g. elim front as (λ f. x ∷ like e xs ≡ f ++ a ∷ b ∷ behind → AtMost (first_in (k + 1) (key x ∷ earlier) xs) (place b)) [
            | [] ↦ λ h. known-at-most (k + 1) (key x ∷ earlier) e xs b behind n.1 (ap (λ t. t || list_any (same e) earlier) g) (cc)
            | c ∷ f ↦ λ h. again-at-most (k + 1) (key x ∷ earlier) e xs f a b behind n.1 (cc)
          ] (sym (passes e x xs g) ∙ is)
          | false ↦ λ g. again-at-most (k + 1) (key x ∷ earlier) e xs front a b behind n.1 (sym (skips e x xs g) ∙ is)
        ] refl
      ]

  -- the one found is the first of its like behind one before the list, or repeats in it
  record IsFirst (earlier : List K) (xs : List X) (r : ℕ) : Type 0 where
    one : X
    behind : List X
    at : (place one) ≡ r
    among : list_any (same (key one)) earlier ≡ true
    split : like (key one) xs ≡ one ∷ behind

  abbrev Known : List K → List X → ℕ → Type 0
  Known earlier xs r = IsFirst earlier xs r ⊎ IsAgain xs r

  known-cons : (earlier : List K) (x : X) (xs : List X) (r : ℕ) → Known (key x ∷ earlier) xs r → Known earlier (x ∷ xs) r
  known-cons earlier x xs r (inr h) = inr (is_again-cons x xs r h)
  known-cons earlier x xs r (inl h) =
      let b = h.one in
      elim (of_key (key b) x) as (λ t. of_key (key b) x ≡ t → (t || list_any (same (key b)) earlier) ≡ true → Known earlier (x ∷ xs) r) [
        | true ↦ λ g among.
            let split = passes (key b) x xs g ∙ ap (λ zs. x ∷ zs) h.split in
            inr (record { of = key b; one = b; at = h.at; again = record { front = []; other = x; behind = h.behind; split = split } })
        | false ↦ λ g among. inl (record { one = b; behind = h.behind; at = h.at; among = among; split = skips (key b) x xs g ∙ h.split })
      ] refl h.among

  first-known : (k : ℕ) (earlier : List K) (xs : List X) (r : ℕ) → Numbered k xs → first_in k earlier xs ≡ Some r → Known earlier xs r
  first-known k earlier [] r n e = absurd (none-number r e)
  first-known k earlier (x ∷ xs) r n e =
      elim (list_any (same (key x)) earlier) as
      (λ t. list_any (same (key x)) earlier ≡ t → (if t then Some k else first_in (k + 1) (key x ∷ earlier) xs) ≡ Some r → Known earlier (x ∷ xs) r) [
        | true ↦ λ h g.
            let itself = passes (key x) x xs (same-itself (key x)) in
            inl (record { one = x; behind = like (key x) xs; at = n.0 ∙ some-number k r g; among = h; split = itself })
        | false ↦ λ h g. known-cons earlier x xs r (first-known (k + 1) (key x ∷ earlier) xs r n.1 g)
      ] refl e

  -- ---- both are one

  again-least : (o : Option ℕ) (ys : List X) (e : K) (b : X) → Far ys → Again e ys b → AtMost (least_repeat same (seen ys)) (place b)
  again-least o [] e b far h = absurd (no-pair [] h.front h.other b h.behind (omega arith) h.split)
  again-least o (y ∷ ys) e b far h = least-at-most None y ys e h.front h.other b h.behind far h.split

  least-again : (ys : List X) (r : ℕ) → least_repeat same (seen ys) ≡ Some r → IsAgain ys r
  least-again [] r e = absurd (none-number r e)
  least-again (y ∷ ys) r e = ⊎_elim (λ none. absurd (none-number r none)) (λ h. h) (least-placed None y ys r e)

  moved : (e : K) (xs ys : List X) (b : X) → like e ys ≡ like e xs → Again e xs b → Again e ys b
  moved e xs ys b is h = record { front = h.front; other = h.other; behind = h.behind; split = is ∙ h.split }

  numbered-places : (k : ℕ) (xs : List X) (ks : List K) → seen xs ≡ numbered k ks → Numbered k xs
  numbered-places k [] ks e = tt
  numbered-places k (x ∷ xs) [] e = absurd (no-pairs (place x, key x) (seen xs) (sym e))
  numbered-places k (x ∷ xs) (d ∷ ks) e = (
    ap (λ p. p.0) (first-pair (place x, key x) (k, d) (seen xs) (numbered (k + 1) ks) e),
    numbered-places (k + 1) xs ks (other-pairs (place x, key x) (k, d) (seen xs) (numbered (k + 1) ks) e),
  )

  numbered-keys : (k : ℕ) (xs : List X) (ks : List K) → seen xs ≡ numbered k ks → keys xs ≡ ks
  numbered-keys k [] [] e = refl
  numbered-keys k [] (d ∷ ks) e = absurd (no-pairs (k, d) (numbered (k + 1) ks) e)
  numbered-keys k (x ∷ xs) [] e = absurd (no-pairs (place x, key x) (seen xs) (sym e))
  numbered-keys k (x ∷ xs) (d ∷ ks) e =
      ap₂ (λ a bs. a ∷ bs) (ap (λ p. p.1) (first-pair (place x, key x) (k, d) (seen xs) (numbered (k + 1) ks) e))
      (numbered-keys (k + 1) xs ks (other-pairs (place x, key x) (k, d) (seen xs) (numbered (k + 1) ks) e))

  module _ (xs ys : List X) (ks : List K) (is : seen xs ≡ numbered 0 ks) (stable : IsStableBy before xs ys) (up : IsSortedBy before ys) where
    n : Numbered 0 xs
    n = numbered-places 0 xs ks is

    far : Far ys
    far = sorted_far before (ranks_by total key) ys up

    first-bounds : (r : ℕ) → IsAgain ys r → AtMost (first_in 0 [] xs) r
    first-bounds r h =
        let g = moved h.of ys xs h.one (sym (alike xs ys stable h.of)) h.again in
        subst (λ m. AtMost (first_in 0 [] xs) m) h.at (again-at-most 0 [] h.of xs g.front g.other h.one g.behind n g.split)

    least-bounds : (r : ℕ) → IsAgain xs r → AtMost (least_repeat same (seen ys)) r
    least-bounds r h = subst (λ m. AtMost (least_repeat same (seen ys)) m) h.at
        (again-least None ys h.of h.one far (moved h.of xs ys h.one (alike xs ys stable h.of) h.again))

    -- the least place of equal neighbours, once all is sorted, is that of the first key that repeats
    pub least-is-first : least_repeat same (seen ys) ≡ repeat_from same 0 [] ks
    least-is-first =
        same-number (least_repeat same (seen ys)) (first_in 0 [] xs) (λ r e. first-bounds r (least-again ys r e))
        (λ r e. ⊎_elim (λ h. absurd (true≢false (sym h.among))) (λ h. least-bounds r h) (first-known 0 [] xs r n e))
        ∙ ap (repeat_from same 0 []) (numbered-keys 0 xs ks is)
