-- The list that is woven of what is told to be put and of what stays is the one that the places tell.
use Rattle.std.proofs.Common.{◌≡◌, ℕ, zero, suc, ◌+◌, ◌<◌, ◌≤◌, List, [], ◌∷◌, ◌++◌, length, map, Bool, true, false, cond, not, ◌&&◌, ◌||◌, Option, Some, None, refl, sym, ap, ◌∙◌, true≢false, length-append, arith}
use Rattle.std.proofs.lemmas.Bool.Decides.{nat_tests}
use Rattle.std.proofs.lemmas.List.{length-map}
use Rattle.std.proofs.lemmas.List.Folds.{list_any-append}
use Rattle.std.proofs.lemmas.Option.{none-some, same_Some}
use Rattle.std.specs.Borrow.{Bor}
use Rattle.std.specs.Cmp.{first_so, second_so}
use Rattle.std.specs.List.{position_from}
use Rattle.std.specs.Option.{option_map}
use Rattle.std.specs.Prelude.{filter, if◌then◌else◌, is_some, nat_lt, ◌==◌}
use Rattle.ssa_model.specs.definitions.Carry.{placed_at}
use Rattle.ssa_model.specs.definitions.Fitting.{are_distinct}
use Rattle.ssa_model.specs.definitions.Kind.{is_among}
use Rattle.ssa_model.specs.definitions.Path.{Element, Path, same_element, same_path}
use Rattle.ssa_model.specs.definitions.PathMap.{get, has}
use Rattle.ssa_model.proofs.Fitting.{same_element-true}
use Rattle.ssa_model.proofs.PutItems.{position-middle, position-stands, among-middle}
use Rattle.ssa_model.proofs.Tables.{either, element-itself, true_or}
use Rattle.ssa_model.proofs.Tests.{by_test, filter-kept, filter-dropped}
use Rattle.ssa_path.specs.Children.{child_at, elements}
use Rattle.ssa_path.specs.View.{element_view}
use Rattle.ssa_path.specs.declared.element.Elem.{Elem}
use Rattle.ssa_path.specs.declared.trie.Trie.{Trie}
use Rattle.ssa_path.specs.declared.trie.Trie.TheViews.{out-Trie}
use Rattle.ssa_path.proofs.Levels.{any-paths, found, same_path-reading}
use Rattle.ssa_record.specs.Places.{ToldMaps, AllTouched, IsRefilled, IsTouchedBelow, items_left}
use Rattle.ssa_record.specs.Refilled.{IsLentOrder, all_below, lent_elements, lent_puts, place_told, puts_told, with_put, woven}
use Rattle.ssa_record.proofs.ByPaths.{mapped-some}
use Rattle.ssa_record.proofs.Slots.{chosen, placed-map, slot, slot-map, woven-is, woven-map}
use Rattle.ssa_model.proofs.Basics.{or_true, not_true as no, yes_no}

-- ---- elements of a list

among-position : (e : Element) (k : ℕ) (fs : List Element) → is_among e fs ≡ true → (i : ℕ) × (position_from (same_element e) k fs ≡ Some i)
among-position e k [] h = absurd (true≢false (sym h))
among-position e k (f ∷ fs) h =
    by_test (same_element e f)
    (λ t. (k, ap (λ b. cond b (Some k) (position_from (same_element e) (k + 1) fs)) t))
    (λ off.
    let r = among-position e (k + 1) fs (sym (ap (λ b. b || is_among e fs) off) ∙ h) in
    (r.0, ap (λ b. cond b (Some k) (position_from (same_element e) (k + 1) fs)) off ∙ r.1))

-- an element of a list parts it
record Parted (e : Element) (ys : List Element) : Type 0 where
  before : List Element
  after : List Element
  split : ys ≡ before ++ e ∷ after

parted : (e : Element) (ys : List Element) → is_among e ys ≡ true → Parted e ys
parted e [] h = absurd (true≢false (sym h))
parted e (y ∷ ys) h =
    by_test (same_element e y)
    (λ t. record { before = []; after = ys; split = ap (λ x. x ∷ ys) (sym (same_element-true e y t)) })
    (λ off.
    let r = parted e ys (sym (ap (λ b. b || is_among e ys) off) ∙ h) in
    record { before = y ∷ r.before; after = r.after; split = ap (λ l. y ∷ l) r.split })

among-others : (e f : Element) (us vs : List Element) → same_element e f ≡ false → is_among e (us ++ f ∷ vs) ≡ true → is_among e (us ++ vs) ≡ true
among-others e f [] vs off h = sym (ap (λ b. b || is_among e vs) off) ∙ h
among-others e f (u ∷ us) vs off h =
    either (same_element e u) (is_among e (us ++ f ∷ vs)) h
    (λ t. true_or (same_element e u) (is_among e (us ++ vs)) t)
    (λ l. or_true (same_element e u) (is_among e (us ++ vs)) (among-others e f us vs off l))

-- a list that names each once has no more elements that pass a test than another that has each of them
few : (test : Element → Bool) (fs ys : List Element) → are_distinct fs ≡ true → ((e : Element) → is_among e fs ≡ true → test e ≡ true → is_among e ys ≡ true)
    → length (filter test fs) ≤ length ys
few test [] ys once all = omega arith
few test (f ∷ fs) ys once all =
    let new : is_among f fs ≡ false = no (is_among f fs) (first_so (not (is_among f fs)) (are_distinct fs) once) in
    let rest : are_distinct fs ≡ true = second_so (not (is_among f fs)) (are_distinct fs) once in
    by_test (test f)
    (λ t.
    let at = parted f ys (all f (true_or (same_element f f) (is_among f fs) (element-itself f)) t) in
    let le = few test fs (at.before ++ at.after) rest (λ e one pass.
    among-others e f at.before at.after
    (by_test (same_element e f) (λ s. yes_no (is_among f fs) (ap (λ x. is_among x fs) (sym (same_element-true e f s)) ∙ one) new) (λ k. k))
    (ap (is_among e) (sym at.split) ∙ all e (or_true (same_element e f) (is_among e fs) one) pass)) in
    let long : length ys ≡ length at.before + (length at.after + 1) =
    ap length at.split ∙ length-append at.before (f ∷ at.after)
    ∙ (let z : length at.before + length (f ∷ at.after) ≡ length at.before + (length at.after + 1) = omega arith in z) in
    let less : length (at.before ++ at.after) ≡ length at.before + length at.after = length-append at.before at.after in
    let here : length (filter test (f ∷ fs)) ≡ length (filter test fs) + 1 = ap length (filter-kept test f fs t)
    ∙ (let z : length (f ∷ filter test fs) ≡ length (filter test fs) + 1 = omega arith in z) in
    omega arith)
    (λ off.
    let here : length (filter test (f ∷ fs)) ≡ length (filter test fs) = ap length (filter-dropped test f fs off) in
    let le = few test fs ys rest (λ e one pass. all e (or_true (same_element e f) (is_among e fs) one) pass) in
    omega arith)

-- those that pass a test and those that don't are all
both-counts : (test : Element → Bool) (fs : List Element) → length fs ≡ length (filter (λ e. not (test e)) fs) + length (filter test fs)
both-counts test [] = omega arith
both-counts test (f ∷ fs) =
    let rest = both-counts test fs in
    by_test (test f)
    (λ t.
    let one = ap length (filter-dropped (λ e. not (test e)) f fs (ap not t)) in
    let two : length (filter test (f ∷ fs)) ≡ length (f ∷ filter test fs) = ap length (filter-kept test f fs t) in
    omega arith)
    (λ off.
    let one : length (filter (λ e. not (test e)) (f ∷ fs)) ≡ length (f ∷ filter (λ e. not (test e)) fs) = ap length
    (filter-kept (λ e. not (test e)) f fs (ap not off)) in
    let two = ap length (filter-dropped test f fs off) in
    omega arith)

-- ---- the element that is chosen at a place

chosen-middle : (test : Element → Bool) (xs ys : List Element) (e : Element) → test e ≡ true → chosen test (xs ++ e ∷ ys) (length xs) ≡ Some e
chosen-middle test [] ys e t = ap (λ b. if b then Some e else None) t
chosen-middle test (x ∷ xs) ys e t = chosen-middle test xs ys e t

record Chosen (test : Element → Bool) (fs : List Element) (j : ℕ) (y : Element) : Type 0 where
  before : List Element
  after : List Element
  split : fs ≡ before ++ y ∷ after
  long : length before ≡ j
  pass : test y ≡ true

chosen-stands : (test : Element → Bool) (fs : List Element) (j : ℕ) (y : Element) → chosen test fs j ≡ Some y → Chosen test fs j y
chosen-stands test [] j y h = absurd (none-some y h)
chosen-stands test (f ∷ fs) zero y h =
    by_test (test f)
    (λ t.
    let same : f ≡ y = same_Some f y (sym (ap (λ b. if b then Some f else None) t) ∙ h) in
    record { before = []; after = fs; split = ap (λ x. x ∷ fs) same; long = refl; pass = ap test (sym same) ∙ t })
    (λ off. absurd (none-some y (sym (ap (λ b. if b then Some f else None) off) ∙ h)))
chosen-stands test (f ∷ fs) (suc j) y h =
    let r = chosen-stands test fs j y h in
    record { before = f ∷ r.before; after = r.after; split = ap (λ l. f ∷ l) r.split; long = ap suc r.long; pass = r.pass }

-- ---- those that are told to be put

abbrev put_elements : List (ℕ × Element) → List Element
put_elements = map (λ x. x.1)

module _ (at : Element → Option (Option ℕ)) (fs : List Element) where
  -- each of them is put, and stands at its place in the list
  abbrev AllPlaced : List (ℕ × Element) → Type 0
  AllPlaced [] = Unit {0}
  AllPlaced (x ∷ ps) = (is_some (at x.1) ≡ true) × (position_from (same_element x.1) 0 fs ≡ Some x.0) × AllPlaced ps

  record AreTold (es : List Element) : Type 0 where
    ps : List (ℕ × Element)
    told : puts_told at es ≡ Some ps
    placed : AllPlaced ps
    all : (e : Element) → is_among e es ≡ true → is_some (at e) ≡ true → is_among e (put_elements ps) ≡ true

  module _ (there : (e : Element) → is_some (at e) ≡ true → is_among e fs ≡ true)
      (places : (e : Element) (o : Option ℕ) → at e ≡ Some o → o ≡ position_from (same_element e) 0 fs) where
    are-told : (es : List Element) → AreTold es
    are-told [] = record { ps = []; told = refl; placed = tt; all = λ e one t. one }
    are-told (e ∷ es) =
        let r = are-told es in
        elim (at e) as (λ o. at e ≡ o → AreTold (e ∷ es)) [
          | None ↦ λ none. record {
            ps = r.ps;
            told = ap (λ o. with_put o e (puts_told at es)) none ∙ r.told;
            placed = r.placed;
            all = λ f one t. either (same_element f e) (is_among f es) one
                (λ s. yes_no (is_some (at f)) t (ap is_some (ap at (same_element-true f e s) ∙ none)))
                (λ l. r.all f l t);
          }
          | Some o ↦ λ some.
              let put : is_some (at e) ≡ true = ap is_some some in
              let place = among-position e 0 fs (there e put) in
              record {
                ps = (place.0, e) ∷ r.ps;
                told = ap (λ x. with_put x e (puts_told at es)) (some ∙ ap (λ x. Some x) (places e o some ∙ place.1))
                    ∙ ap (option_map (λ ps. (place.0, e) ∷ ps)) r.told;
                placed = (put, place.1, r.placed);
                all = λ f one t. either (same_element f e) (is_among f es) one
                    (λ s. true_or (same_element f e) (is_among f (put_elements r.ps)) s)
                    (λ l. or_true (same_element f e) (is_among f (put_elements r.ps)) (r.all f l t));
              }
        ] refl

  -- what is at a place is put there
  placed-found : (ps : List (ℕ × Element)) (j : ℕ) (e : Element) → AllPlaced ps → placed_at ps j ≡ Some e
      → (is_some (at e) ≡ true) × (position_from (same_element e) 0 fs ≡ Some j)
  placed-found [] j e a h = absurd (none-some e h)
  placed-found (x ∷ ps) j e a h =
      by_test (x.0 == j)
      (λ t.
      let same : x.1 ≡ e = same_Some x.1 e (sym (ap (λ b. if b then Some x.1 else placed_at ps j) t) ∙ h) in
      let here : x.0 ≡ j = grind (arith, nat_tests) in
      (ap (λ f. is_some (at f)) (sym same) ∙ a.0, ap (λ f. position_from (same_element f) 0 fs) (sym same) ∙ a.1 ∙ ap (λ n. Some n) here))
      (λ off. placed-found ps j e a.2 (sym (ap (λ b. if b then Some x.1 else placed_at ps j) off) ∙ h))

  -- what is put stands at its place
  placed-there : (ps : List (ℕ × Element)) (j : ℕ) (y : Element) → AllPlaced ps → is_among y (put_elements ps) ≡ true
      → position_from (same_element y) 0 fs ≡ Some j → placed_at ps j ≡ None → ⊥
  placed-there [] j y a one here none = true≢false (sym one)
  placed-there (x ∷ ps) j y a one here none =
      by_test (x.0 == j)
      (λ t. none-some x.1 (sym none ∙ ap (λ b. if b then Some x.1 else placed_at ps j) t))
      (λ off. either (same_element y x.1) (is_among y (put_elements ps)) one
      (λ s.
      let is : x.0 ≡ j = same_Some x.0 j (sym a.1 ∙ ap (λ e. position_from (same_element e) 0 fs) (sym (same_element-true y x.1 s)) ∙ here) in
      yes_no (x.0 == j) (let z : (x.0 == j) ≡ true = grind (arith, nat_tests) in z) off)
      (λ l. placed-there ps j y a.2 l here (sym (ap (λ b. if b then Some x.1 else placed_at ps j) off) ∙ none)))

  all-below : (ps : List (ℕ × Element)) (n : ℕ) → AllPlaced ps → length fs ≤ n → all_below n ps ≡ true
  all-below [] n a le = refl
  all-below (x ∷ ps) n a le =
      let s = position-stands x.1 0 x.0 fs a.1 in
      let long : length fs ≡ length s.0 + (length s.1.0 + 1) =
      ap length s.1.1 ∙ length-append s.0 (x.1 ∷ s.1.0)
      ∙ (let z : length s.0 + length (x.1 ∷ s.1.0) ≡ length s.0 + (length s.1.0 + 1) = omega arith in z) in
      let at_end = s.1.2 in
      let lt : x.0 < n = omega arith in
      let here : nat_lt x.0 n ≡ true = grind (arith, nat_tests) in
      λ i. here i && all-below ps n a.2 le i

  module _ (once : are_distinct fs ≡ true) (ps : List (ℕ × Element)) (a : AllPlaced ps)
      (all : (e : Element) → is_among e fs ≡ true → is_some (at e) ≡ true → is_among e (put_elements ps) ≡ true) where
    abbrev test : Element → Bool
    test e = is_some (at e)

    placed-chosen : (j : ℕ) → placed_at ps j ≡ chosen test fs j
    placed-chosen j =
        elim (placed_at ps j) as (λ o. placed_at ps j ≡ o → placed_at ps j ≡ chosen test fs j) [
          | Some e ↦ λ is.
              let f = placed-found ps j e a is in
              let s = position-stands e 0 j fs f.1 in
              let m = s.1.2 in
              let n : j ≡ length s.0 = omega arith in
              is ∙ sym ((λ i. chosen test (s.1.1 i) (n i)) ∙ chosen-middle test s.0 s.1.0 e f.0)
          | None ↦ λ is. elim (chosen test fs j) as (λ o. chosen test fs j ≡ o → placed_at ps j ≡ chosen test fs j) [
            | None ↦ λ off. is ∙ sym off
            | Some y ↦ λ one.
                let s = chosen-stands test fs j y one in
                let among = ap (is_among y) s.split ∙ among-middle s.before s.after y in
                let m = s.long in
                let here = ap (position_from (same_element y) 0) s.split ∙ position-middle 0 s.before s.after y (ap are_distinct (sym s.split) ∙ once)
                ∙ ap (λ n. Some n) (let z : 0 + length s.before ≡ j = omega arith in z) in
                absurd (placed-there ps j y a (all y among s.pass) here is)
          ] refl
        ] refl

    enough : length fs ≤ length (filter (λ e. not (test e)) fs) + length ps
    enough =
        let counts = both-counts test fs in
        let le = few test fs (put_elements ps) once all in
        let same : length (put_elements ps) ≡ length ps = length-map ps (λ (x : ℕ × Element). x.1) in
        omega arith

-- ---- the list that the places tell

-- the puts that are told have places, below as many as these and those that stay are, and the list is woven of both
pub record IsFilled (at : Element → Option (Option ℕ)) (cs stays fs : List Element) : Type 0 where
  -- those that are put, each with its place
  pub ps : List (ℕ × Element)
  -- they are told of the children
  pub told : puts_told at cs ≡ Some ps
  -- each place is below the number of all
  pub below : all_below (length stays + length ps) ps ≡ true
  -- slots in which they stand at their places, woven with those that stay, make the list
  pub all : (ss : List (Option Element)) → length ss ≡ length stays + length ps → ((j : ℕ) → slot ss j ≡ placed_at ps j) → woven ss stays ≡ fs

filled : (m : ToldMaps) (p : Path) (es fs cs : List Element) → IsRefilled m p es fs
    → ((e : Element) → has m.put (p ++ e ∷ []) ≡ true → is_among e cs ≡ true)
    → IsFilled (place_told m p) cs (items_left m p es) fs
filled m p es fs cs r below =
    let at = place_told m p in
    let alike : (e : Element) → has m.put (p ++ e ∷ []) ≡ is_some (at e) = λ e. mapped-some (λ (x : _). x.1) (get m.put (p ++ e ∷ [])) in
    let put : (e : Element) → is_some (at e) ≡ true → has m.put (p ++ e ∷ []) ≡ true = λ e t. alike e ∙ t in
    let stays : filter (λ e. not (is_some (at e))) fs ≡ items_left m p es = (λ i. filter (λ e. not (sym (alike e) i)) fs) ∙ r.stay in
    let places : (e : Element) (o : Option ℕ) → at e ≡ Some o → o ≡ position_from (same_element e) 0 fs = λ e o is. at-place e o (get m.put (p ++ e ∷ []))
    refl is in
    let t = are-told at fs (λ e one. r.put e (put e one)) places cs in
    let all : (e : Element) → is_among e fs ≡ true → is_some (at e) ≡ true → is_among e (put_elements t.ps) ≡ true = λ e one pass. t.all e
    (below e (put e pass)) pass in
    let long : length fs ≤ length (items_left m p es) + length t.ps =
    (let le = enough at fs r.once t.ps t.placed all in let same = ap length stays in omega arith) in
    record {
      ps = t.ps;
      told = t.told;
      below = all-below at fs t.ps (length (items_left m p es) + length t.ps) t.placed long;
      all = λ ss n is. ap (woven ss) (sym stays)
          ∙ woven-is (λ e. is_some (at e)) ss fs (omega arith) (λ j. is j ∙ placed-chosen at fs r.once t.ps t.placed all j);
    }
  where
    at-place : (e : Element) (o : Option ℕ) (x : Option (_ × Option ℕ)) → get m.put (p ++ e ∷ []) ≡ x → option_map (λ y. y.1) x ≡ Some o
        → o ≡ position_from (same_element e) 0 fs
    at-place e o None is h = absurd (none-some o h)
    at-place e o (Some x) is h = sym (same_Some x.1 o h) ∙ r.places e x is

-- ---- as the program has it

below-lent : (n : ℕ) (qs : List (ℕ × Bor Elem)) → all_below n (lent_puts qs) ≡ all_below n qs
below-lent n [] = refl
below-lent n (q ∷ qs) = ap (λ b. nat_lt q.0 n && b) (below-lent n qs)

module _ (at : Element → Option (Option ℕ)) (cs stays fs : List Element) (f : IsFilled at cs stays fs) where
  -- no put is without a place
  pub all-placed : puts_told at cs ≡ None → ⊥
  all-placed none = none-some f.ps (sym none ∙ f.told)

  module _ (xs : List (Bor Elem)) (qs : List (ℕ × Bor Elem)) (left : lent_elements xs ≡ stays) (puts : Some (lent_puts qs) ≡ puts_told at cs) where
    own : lent_puts qs ≡ f.ps
    own = same_Some (lent_puts qs) f.ps (puts ∙ f.told)

    counts : length stays + length f.ps ≡ length xs + length qs
    counts =
        (λ i. length (sym left i) + length (sym own i))
        ∙ (λ i. length-map xs (λ (e : Bor Elem). element_view e.now) i + length-map {B = ℕ × Element} qs (λ (x : ℕ × Bor Elem). (x.0, element_view x.1.now)) i)

    -- no place is too far
    pub places-below : all_below (length xs + length qs) qs ≡ true
    places-below = sym (below-lent (length xs + length qs) qs) ∙ (λ i. all_below (sym counts i) (own i)) ∙ f.below

    -- woven of what is lent, it is the same order
    pub order-woven : (ss : List (Option (Bor Elem))) (all : List (Bor Elem)) → length ss ≡ length xs + length qs → ((j : ℕ) → slot ss j ≡ placed_at qs j)
        → all ≡ woven ss xs → IsLentOrder (Some all) fs
    order-woven ss all long put is =
        let show : Bor Elem → Element = λ e. element_view e.now in
        ap (λ l. Some l) (
        ap (map show) is ∙ woven-map show ss xs ∙ ap (woven (map (option_map show) ss)) left
        ∙ f.all (map (option_map show) ss) (length-map ss (option_map show) ∙ long ∙ sym counts)
        (λ j. slot-map show ss j ∙ ap (option_map show) (put j) ∙ placed-map show qs j ∙ ap (λ l. placed_at l j) own))

-- ---- what is put is found among the touched children

child-among : {A : Type 0} (e : Element) (cs : List (Elem × A)) → is_among e (elements cs) ≡ is_some (child_at e cs)
child-among e [] = refl
child-among e (c ∷ cs) =
    elim (same_element e (element_view c.0)) as (λ b. (b || is_among e (elements cs)) ≡ is_some (if b then Some c.1 else child_at e cs)) [
      | true ↦ refl
      | false ↦ child-among e cs
    ]

found-child : (e : Element) (o : Option Trie) → found same_path o [] ≡ true → is_some o ≡ true
found-child e None h = h
found-child e (Some t) h = refl

put-below : (m : ToldMaps) (p : Path) (t : Trie) (e : Element) → IsTouchedBelow m p t → AllTouched m → has m.put (p ++ e ∷ []) ≡ true
    → is_among e (elements (out-Trie t).below.items) ≡ true
put-below m p t e touched all one =
    let here = sym (any-paths same_path same_path-reading t e [] touched.0) ∙ touched.1 (e ∷ []) ∙ all.put (p ++ e ∷ []) one in
    child-among e (out-Trie t).below.items ∙ found-child e (child_at e (out-Trie t).below.items) here

-- a list that the places tell is filled from the touched children
pub filled-below : (m : ToldMaps) (p : Path) (es fs : List Element) (t : Trie) (cs : List (Elem × Trie)) → cs ≡ (out-Trie t).below.items
    → IsTouchedBelow m p t → AllTouched m → IsRefilled m p es fs → IsFilled (place_told m p) (elements cs) (items_left m p es) fs
filled-below m p es fs t cs is touched all r =
    filled m p es fs (elements cs) r (λ e one. ap (λ (l : List (Elem × Trie)). is_among e (elements l)) is ∙ put-below m p t e touched all one)
