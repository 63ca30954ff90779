-- The order of a list that both bodies have: the items put stand at their places, the rest keep their order.
use Rattle.std.proofs.Common.{◌≡◌, ◌⊎◌, inl, inr, ℕ, ◌+◌, ◌≤◌, List, [], ◌∷◌, ◌++◌, length, Bool, true, false, cond, not, ◌&&◌, Option, Some, None, refl, sym, ap, ◌∙◌, true≢false, arith, append_assoc, length-append}
use Rattle.std.proofs.Math.Bool.{not-not, and-true}
use Rattle.std.proofs.lemmas.Bool.Decides.{nat_tests}
use Rattle.std.proofs.lemmas.Option.{none-some, same_Some}
use Rattle.std.specs.Cmp.{first_so, second_so}
use Rattle.std.specs.FinMap.Entries.{find}
use Rattle.std.specs.List.{cons_option, position_from}
use Rattle.std.specs.Prelude.{is_some, if◌then◌else◌, filter, filter_map, ◌==◌}
use Rattle.ssa_model.specs.definitions.Path.{Element, Path, path_cmp, same_element, same_path, parent, is_item_element, last_element}
use Rattle.ssa_model.specs.definitions.PathMap.{get, has, paths}
use Rattle.ssa_model.specs.definitions.Kind.{is_among}
use Rattle.ssa_model.specs.definitions.Body.{list_branch, Body, order_at}
use Rattle.ssa_model.specs.definitions.Fitting.{are_distinct}
use Rattle.ssa_model.specs.definitions.Record.{Part, is_top, item_place, part_at, cuts, puts, common}
use Rattle.ssa_model.specs.definitions.Carry.{filled, end_of, place_in, is_place, put_item}
use Rattle.ssa_model.specs.laws.RecordWalks.{IsTree}
use Rattle.ssa_model.proofs.Fitting.{same_element-true}
use Rattle.ssa_model.proofs.PathMaps.{same_path-true, same_path-itself, has-set_of, has-paths}
use Rattle.ssa_model.proofs.Tables.{true_or, element-itself}
use Rattle.ssa_model.proofs.Tests.{by_test}
use Rattle.ssa_model.proofs.FilledLists.{Gives, filled_is}
use Rattle.ssa_model.proofs.Beginnings.{parent-push, last-push, parent-last}
use Rattle.ssa_model.proofs.PutParts.{AllAt, IsPut, all-puts, get-puts}
use Rattle.ssa_model.proofs.Basics.{or_true, not_true as no, yes_no}

-- ---- orders

-- tests that answer alike on the elements of a list find the same
pub filter-members : (p q : Element → Bool) (es : List Element) → ((e : Element) → is_among e es ≡ true → p e ≡ q e) → filter p es ≡ filter q es
filter-members p q [] h = refl
filter-members p q (e ∷ es) h =
    let here = h e (true_or (same_element e e) (is_among e es) (element-itself e)) in
    let rest = filter-members p q es (λ f one. h f (or_true (same_element f e) (is_among f es) one)) in
    λ i. cond (here i) (e ∷ rest i) (rest i)

-- elements that differ differ the other way too
pub element-apart : (e f : Element) → same_element e f ≡ false → same_element f e ≡ false
element-apart e f h = by_test (same_element f e) (λ t. yes_no (same_element e f) (ap (same_element e) (same_element-true f e t) ∙ element-itself e) h) (λ k. k)

-- an element between two lists is among all
pub among-middle : (xs ys : List Element) (y : Element) → is_among y (xs ++ y ∷ ys) ≡ true
among-middle [] ys y = true_or (same_element y y) (is_among y ys) (element-itself y)
among-middle (x ∷ xs) ys y = or_true (same_element y x) (is_among y (xs ++ y ∷ ys)) (among-middle xs ys y)

among-apart : (x y : Element) (zs : List Element) → is_among x zs ≡ false → is_among y zs ≡ true → same_element x y ≡ false
among-apart x y zs off one = by_test (same_element x y) (λ t. yes_no (is_among x zs) (ap (λ e. is_among e zs) (same_element-true x y t) ∙ one) off) (λ k. k)

-- the place of an element of a list that names each once
pub position-middle : (i : ℕ) (xs ys : List Element) (y : Element) → are_distinct (xs ++ y ∷ ys) ≡ true
    → position_from (same_element y) i (xs ++ y ∷ ys) ≡ Some (i + length xs)
position-middle i [] ys y h = ap (λ b. cond b (Some i) (position_from (same_element y) (i + 1) ys)) (element-itself y)
    ∙ ap (λ n. Some n) (let e : i ≡ i + 0 = omega arith in e)
position-middle i (x ∷ xs) ys y h =
    let off = among-apart x y (xs ++ y ∷ ys) (no (is_among x (xs ++ y ∷ ys)) (first_so (not (is_among x (xs ++ y ∷ ys))) (are_distinct (xs ++ y ∷ ys)) h))
    (among-middle xs ys y) in
    ap (λ b. cond b (Some i) (position_from (same_element y) (i + 1) (xs ++ y ∷ ys))) (element-apart x y off)
    ∙ position-middle (i + 1) xs ys y (second_so (not (is_among x (xs ++ y ∷ ys))) (are_distinct (xs ++ y ∷ ys)) h)
    ∙ ap (λ n. Some n) (let e : i + 1 + length xs ≡ i + length (x ∷ xs) = omega arith in e)

-- an element found stands at its place
abbrev pub StandsAt : Element → ℕ → ℕ → List Element → Type 0
StandsAt e i j fs = (xs : List Element) × ((ys : List Element) × (fs ≡ xs ++ e ∷ ys) × (i + length xs ≡ j))

-- the place that is found for an element is one where it stands
pub position-stands : (e : Element) (i j : ℕ) (fs : List Element) → position_from (same_element e) i fs ≡ Some j → StandsAt e i j fs
position-stands e i j [] h = absurd (none-some j h)
position-stands e i j (f ∷ fs) h =
    by_test (same_element e f)
    (λ t.
    let at : i ≡ j = same_Some i j (sym (ap (λ b. cond b (Some i) (position_from (same_element e) (i + 1) fs)) t) ∙ h) in
    ([], (fs, (λ k. sym (same_element-true e f t) k ∷ fs), (let z : i + 0 ≡ j = omega arith in z))))
    (λ k.
    let s = position-stands e (i + 1) j fs (sym (ap (λ b. cond b (Some i) (position_from (same_element e) (i + 1) fs)) k) ∙ h) in
    let n = s.1.2 in
    (f ∷ s.0, (s.1.0, ap (λ zs. f ∷ zs) s.1.1, (let z : i + length (f ∷ s.0) ≡ j = omega arith in z))))

-- at one place stands one element
one-place : (xs ys us vs : List Element) (x u : Element) → xs ++ x ∷ ys ≡ us ++ u ∷ vs → length xs ≡ length us → x ≡ u
one-place [] ys [] vs x u h n = cc
one-place [] ys (u' ∷ us) vs x u h n = absurd (omega arith)
one-place (x' ∷ xs) ys [] vs x u h n = absurd (omega arith)
one-place (x' ∷ xs) ys (u' ∷ us) vs x u h n = one-place xs ys us vs x u (let g : xs ++ x ∷ ys ≡ us ++ u ∷ vs = cc in g) (omega arith)

-- ---- the items put into a list

placed-place : (q : Path) (i : ℕ) (b : Bool) (o : Option ℕ) → is_place i (if b then o else None) ≡ true → (b ≡ true) × (o ≡ Some i)
placed-place q i true (Some j) h = (refl, ap (λ n. Some n) (let e : j ≡ i = grind (arith, nat_tests) in e))
placed-place q i true None h = absurd (true≢false (sym h))
placed-place q i false o h = absurd (true≢false (sym h))

-- the item that is put at a place is the last element of a path that only the second body has, and has that place there
abbrev pub PutAt : Body → Body → List (Path × Part) → Path → ℕ → Type 0
PutAt v w es q j = (g : Path) × (put_item es q j ≡ last_element g) × (parent g ≡ q) × (item_place w g ≡ Some j) × (is_top v g ≡ true)

-- at a place, nothing is put, or an item that only the second body has and that has this place there
pub item_case : (v w : Body) (es : List (Path × Part)) (q : Path) (j : ℕ) → AllAt (IsPut v w) es → (put_item es q j ≡ None) ⊎ PutAt v w es q j
item_case v w [] q j h = inl refl
item_case v w (e ∷ es) q j h =
    by_test (is_place j (place_in q e))
    (λ t.
    let at = placed-place q j (same_path (parent e.0) q) e.1.place t in
    inr (
      e.0,
      ap (λ b. if b then last_element e.0 else put_item es q j) t,
      same_path-true (parent e.0) q at.0,
      sym (ap (λ (x : Part). x.place) h.0.0)
          ∙ at.1,
      h.0.1,
    ))
    (λ f.
    let off = ap (λ b. if b then last_element e.0 else put_item es q j) f in
    elim (item_case v w es q j h.1) [
      | inl none ↦ inl (off ∙ none)
      | inr one ↦ inr (one.0, off ∙ one.1, one.2, one.3, one.4)
    ])

-- the place of an element in the list above a path
abbrev place_of : Body → Path → Element → Option ℕ
place_of w g e = position_from (same_element e) 0 (order_at (get w (parent g)))

some-last : (w : Body) (g : Path) (j : ℕ) → item_place w g ≡ Some j → (e : Element) × (last_element g ≡ Some e) × (place_of w g e ≡ Some j)
some-last w g j h =
    elim (last_element g) as (λ o. last_element g ≡ o → (elim o [ None ↦ None | Some e ↦ place_of w g e ]) ≡ Some j → (e : Element)
    × (last_element g ≡ Some e) × (place_of w g e ≡ Some j)) [
      | None ↦ λ is k. absurd (none-some j k)
      | Some e ↦ λ is k. (e, is, k)
    ] refl h

-- where no item is put at a place, no entry puts one there
pub item_missed : (v w : Body) (es : List (Path × Part)) (q : Path) (j : ℕ) → AllAt (IsPut v w) es
    → (g : Path) (x : Part) → find path_cmp g es ≡ Some x → parent g ≡ q → x.place ≡ Some j → put_item es q j ≡ None → ⊥
item_missed v w [] q j h g x found up place none = none-some x found
item_missed v w (e ∷ es) q j h g x found up place none =
    by_test (is_place j (place_in q e))
    (λ t.
    let at = placed-place q j (same_path (parent e.0) q) e.1.place t in
    let last = some-last w e.0 j (sym (ap (λ (y : Part). y.place) h.0.0) ∙ at.1) in
    none-some last.0 (sym none ∙ ap (λ b. if b then last_element e.0 else put_item es q j) t ∙ last.1))
    (λ f.
    by_test (same_path g e.0)
    (λ same.
    let is : e.1 ≡ x = same_Some e.1 x (sym (ap (λ b. cond b (Some e.1) (find path_cmp g es)) same) ∙ found) in
    let here : same_path (parent e.0) q ≡ true = ap (λ p. same_path p q) (sym (ap parent (same_path-true g e.0 same)) ∙ up) ∙ same_path-itself q in
    yes_no (is_place j (place_in q e)) ((λ i. is_place j (if here i then e.1.place else None)) ∙ ap (is_place j) (ap (λ (y : Part). y.place) is ∙ place)
    ∙ (let z : (j == j) ≡ true = grind (arith, nat_tests) in z)) f)
    (λ off.
    item_missed v w es q j h.1 g x (sym (ap (λ b. cond b (Some e.1) (find path_cmp g es)) off)
    ∙ found) up place (sym (ap (λ b. if b then last_element e.0 else put_item es q j) f) ∙ none)))

no-place : (j : ℕ) (o : Option ℕ) (is : List ℕ) → end_of (cons_option o is) ≤ j → (is_place j o ≡ false) × (end_of is ≤ j)
no-place j None is h = (refl, h)
no-place j (Some i) is h = ((let z : (i == j) ≡ false = grind (arith, nat_tests) in z), omega arith)

-- from the end of the given places on nothing is put
pub item_end : (es : List (Path × Part)) (q : Path) (j : ℕ) → end_of (filter_map (place_in q) es) ≤ j → put_item es q j ≡ None
item_end [] q j h = refl
item_end (e ∷ es) q j h =
    let at = no-place j (place_in q e) (filter_map (place_in q) es) h in
    ap (λ b. if b then last_element e.0 else put_item es q j) at.0 ∙ item_end es q j at.1

-- ---- a list of both bodies

module _ (v w : Body) (a : IsTree v) (b : IsTree w) (q : Path) (es fs : List Element) (is_es : get v q ≡ Some (list_branch es))
    (is_fs : get w q ≡ Some (list_branch fs)) where
  items_v : (e : Element) → is_among e es ≡ (is_item_element e && has v (q ++ e ∷ []))
  items_v e = sym (ap (λ o. is_among e (order_at o)) is_es) ∙ a.items q e

  items_w : (e : Element) → is_among e fs ≡ (is_item_element e && has w (q ++ e ∷ []))
  items_w e = sym (ap (λ o. is_among e (order_at o)) is_fs) ∙ b.items q e

  has_v : has v q ≡ true
  has_v = ap is_some is_es

  has_w : has w q ≡ true
  has_w = ap is_some is_fs

  once_w : are_distinct fs ≡ true
  once_w = sym (ap (λ o. are_distinct (order_at o)) is_fs) ∙ b.once q

  -- an item that stays is not cut
  pub stays : (e : Element) → is_among e es ≡ true → not (has (cuts v w) (q ++ e ∷ [])) ≡ is_among e fs
  stays e one =
      let p = q ++ e ∷ [] in
      let both = sym (items_v e) ∙ one in
      let item = first_so (is_item_element e) (has v p) both in
      let there = second_so (is_item_element e) (has v p) both in
      ap not (has-set_of (paths v) (is_top w) p ∙ (λ i. (sym (has-paths v p) ∙ there) i && (not (has w p) && has w (parent-push q e i)))
      ∙ (λ i. not (has w p) && has_w i) ∙ and-true (not (has w p)))
      ∙ not-not (has w p) ∙ sym (items_w e ∙ (λ i. item i && has w p))

  abbrev at : ℕ → Option Element
  at = put_item (puts v w).entries q

  order_is : order_at (get w q) ≡ fs
  order_is = ap order_at is_fs

  -- what is put at a place stands there in the second list, and isn't in the first
  abbrev Found : ℕ → Type 0
  Found j = (e : Element) × (at j ≡ Some e) × (is_among e es ≡ false) × StandsAt e 0 j fs

  not-there : (t s : Bool) → t ≡ false → (s && t) ≡ false
  not-there t true h = h
  not-there t false h = refl

  found : (j : ℕ) → PutAt v w (puts v w).entries q j → Found j
  found j one =
      let last = some-last w one.0 j one.3 in
      let path : one.0 ≡ q ++ last.0 ∷ [] = parent-last one.0 last.0 last.1 ∙ ap (λ p. p ++ last.0 ∷ []) one.2 in
      let off : has v (q ++ last.0 ∷ []) ≡ false = ap (has v) (sym path) ∙ no (has v one.0) (first_so (not (has v one.0)) (has v (parent one.0)) one.4) in (
        last.0,
        one.1 ∙ last.1,
        items_v last.0 ∙ not-there (has v (q ++ last.0 ∷ [])) (is_item_element last.0) off,
        position-stands last.0 0 j fs (ap (position_from (same_element last.0) 0) (sym (ap (λ p. order_at (get w p)) one.2 ∙ order_is)) ∙ last.2),
      )

  -- an item of the second list alone is put at its place
  put_there : (xs ys : List Element) (y : Element) → xs ++ y ∷ ys ≡ fs → is_among y es ≡ false → at (length xs) ≡ None → ⊥
  put_there xs ys y split off none =
      let g = q ++ y ∷ [] in
      let one : is_among y fs ≡ true = ap (is_among y) (sym split) ∙ among-middle xs ys y in
      let both = sym (items_w y) ∙ one in
      let item = first_so (is_item_element y) (has w g) both in
      let lacks : has v g ≡ false = sym (λ i. item i && has v g) ∙ sym (items_v y) ∙ off in
      let top : is_top v g ≡ true = (λ i. not (lacks i) && has v (parent-push q y i)) ∙ has_v in
      let distinct : are_distinct (xs ++ y ∷ ys) ≡ true = ap are_distinct split ∙ once_w in
      let place : item_place w g ≡ Some (length xs) =
      ap (λ o. elim o [ None ↦ None | Some e ↦ position_from (same_element e) 0 (order_at (get w (parent g))) ]) (last-push q y)
      ∙ ap (λ p. position_from (same_element y) 0 (order_at (get w p))) (parent-push q y)
      ∙ ap (position_from (same_element y) 0) (order_is ∙ sym split)
      ∙ position-middle 0 xs ys y distinct ∙ ap (λ n. Some n) (let z : 0 + length xs ≡ length xs = omega arith in z) in
      item_missed v w (puts v w).entries q (length xs) (all-puts v w) g (part_at w g) (get-puts v w g (second_so (is_item_element y) (has w g) both) top)
      (parent-push q y) place none

  -- the places give the items of the second list that the first has not, each where it stands
  pub gives : (i : ℕ) (xs ys : List Element) → length xs ≡ i → xs ++ ys ≡ fs → Gives at (λ e. is_among e es) i ys
  gives i xs [] n split = λ j h. elim (item_case v w (puts v w).entries q j (all-puts v w)) [
    | inl none ↦ none
    | inr one ↦
        let f = found j one in
        let s = f.3 in
        let len : length fs ≡ length s.0 + (length s.1.0 + 1) = ap length s.1.1 ∙ length-append s.0 (f.0 ∷ s.1.0)
        ∙ (let z : length s.0 + length (f.0 ∷ s.1.0) ≡ length s.0 + (length s.1.0 + 1) = omega arith in z) in
        let all : length fs ≡ length xs = ap length (sym split) ∙ length-append xs [] ∙ (let z : length xs + 0 ≡ length xs = omega arith in z) in
        let m = s.1.2 in
        absurd (omega arith)
  ]
  gives i xs (y ∷ ys) n split = (
    elim (item_case v w (puts v w).entries q i (all-puts v w)) [
      | inl none ↦ none ∙ by_test (is_among y es)
          (λ t. ap (λ b. if b then None else Some y) (sym t))
          (λ off. absurd (put_there xs ys y split off (ap at n ∙ none)))
      | inr one ↦
          let f = found i one in
          let s = f.3 in
          let m = s.1.2 in
          let same : f.0 ≡ y = one-place s.0 s.1.0 xs ys f.0 y (sym s.1.1 ∙ sym split) (let z : length s.0 ≡ length xs = omega arith in z) in
          f.1 ∙ ap (λ e. Some e) same ∙ ap (λ b. if b then None else Some y) (sym (ap (λ e. is_among e es) (sym same) ∙ f.2))
    ],
    gives (i + 1) (xs ++ y ∷ []) ys (length-append xs (y ∷ []) ∙ (let z : length xs + 1 ≡ i + 1 = omega arith in z)) (append_assoc xs (y ∷ []) ys ∙ split),
  )

  -- where the common items stand in one order, the list that a record makes is the second's
  pub refilled-is : common es fs ≡ common fs es → filled at 0 (end_of (filter_map (place_in q) (puts v w).entries))
      (filter (λ e. not (has (cuts v w) (q ++ e ∷ []))) es) ≡ fs
  refilled-is alike =
      ap (filled at 0 (end_of (filter_map (place_in q) (puts v w).entries)))
      (filter-members (λ e. not (has (cuts v w) (q ++ e ∷ []))) (λ e. is_among e fs) es stays ∙ alike)
      ∙ filled_is at (λ e. is_among e es) 0 (end_of (filter_map (place_in q) (puts v w).entries)) fs (gives 0 [] fs refl refl)
      (λ j h. item_end (puts v w).entries q j (omega arith))
