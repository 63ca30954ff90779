-- Whether the items of two lists stand in one order, item by item of the second: the places of its items in the first rise.
use Rattle.std.proofs.Common.{◌≡◌, ℕ, suc, ◌+◌, ◌-◌, ◌<◌, ◌≤◌, length, map, List, [], ◌∷◌, ◌++◌, take, drop, get_or, true, false, not, ◌||◌, ◌&&◌, cond, Some, None, refl, sym, ap, subst, ◌∙◌, arith, true≢false}
use Rattle.std.proofs.lemmas.List.{drop_all, drop_more, drop-drop, take-append-drop}
use Rattle.std.proofs.lemmas.List.Elements.{filter-append}
use Rattle.std.proofs.lemmas.List.Folds.{list_any-append}
use Rattle.std.specs.Cmp.Lexicographic.{pointwise}
use Rattle.std.specs.Prelude.{filter}
use Rattle.ssa_model.specs.definitions.Kind.{is_among}
use Rattle.ssa_model.specs.definitions.Path.{Element, same_element}
use Rattle.ssa_model.specs.definitions.Record.{are_in_one_order, common}
use Rattle.ssa_model.proofs.Basics.{not_true, or_true, yes_no}
use Rattle.ssa_model.proofs.Fitting.{among-filter, same_element-true}
use Rattle.ssa_model.proofs.PutItems.{filter-members}
use Rattle.ssa_model.proofs.Tables.{apart_by, either, element-itself, true_or}
use Rattle.ssa_model.proofs.Tests.{filter-dropped, filter-kept, pointwise-itself, pointwise-true}
use Rattle.ssa_path.specs.Children.{child_at, elements}
use Rattle.ssa_path.specs.View.{element_view}
use Rattle.ssa_path.proofs.Lists.{elements-append, left-at}
use Rattle.ssa_path.proofs.Orders.{both_first, both_second}
use Rattle.ssa_typed.specs.MergedOrder.{next_place, places}
use Rattle.ssa_typed.specs.Rows.{are_apart}
use Rattle.ssa_typed.proofs.Building.{Child}
use Rattle.ssa_typed.proofs.Pairs.{none-pass}
use Rattle.ssa_typed.proofs.SortedOut.{before-apart, child-next, is_absent, new-place, next-of, none-among, place-within}
use Rattle.ssa_schema.proofs.Repeats.{some-number}

-- ---- elements that are apart

apart-behind : (es fs : List Element) → are_apart (es ++ fs) ≡ true → are_apart fs ≡ true
apart-behind [] fs h = h
apart-behind (e ∷ es) fs h = apart-behind es fs (both_second (not (is_among e (es ++ fs))) _ h)

-- none of the first is among those behind them
apart-parts : (es fs : List Element) (e : Element) → are_apart (es ++ fs) ≡ true → is_among e es ≡ true → is_among e fs ≡ false
apart-parts [] fs e h there = absurd (true≢false (sym there))
apart-parts (d ∷ es) fs e h there =
    either (same_element e d) (is_among e es) there
    (λ s.
    let none : is_among d (es ++ fs) ≡ false = not_true _ (both_first (not (is_among d (es ++ fs))) _ h) in
    ap (λ x. is_among x fs) (same_element-true e d s)
    ∙ apart_by (is_among d fs) (λ t. yes_no (is_among d (es ++ fs)) (list_any-append (same_element d) es fs ∙ or_true (is_among d es) (is_among d fs) t) none))
    (λ later. apart-parts es fs e (both_second (not (is_among d (es ++ fs))) _ h) later)

among-behind : (es fs : List Element) (e : Element) → is_among e fs ≡ true → is_among e (es ++ fs) ≡ true
among-behind es fs e h = list_any-append (same_element e) es fs ∙ or_true (is_among e es) (is_among e fs) h

among-front : (es fs : List Element) (e : Element) → is_among e es ≡ true → is_among e (es ++ fs) ≡ true
among-front es fs e h = list_any-append (same_element e) es fs ∙ true_or (is_among e es) (is_among e fs) h

-- an element is none of those that it is not among
other : (xs : List Element) (x f : Element) → is_among x xs ≡ true → is_among f xs ≡ false → same_element x f ≡ false
other xs x f there none = apart_by (same_element x f) (λ s. yes_no (is_among f xs) (ap (λ y. is_among y xs) (sym (same_element-true x f s)) ∙ there) none)

-- ---- what is left of both orders

module _ (es : List Element) where
  -- of what is left, the elements of both stand alike in both
  abbrev pub Agree : List Element → List Element → Type 0
  Agree live fs = filter (λ e. is_among e fs) live ≡ filter (λ f. is_among f es) fs

  -- with an element more that is none of these, the same ones are among
  passed-by : (live fs : List Element) (f : Element) → is_among f live ≡ false
      → filter (λ e. is_among e (f ∷ fs)) live ≡ filter (λ e. is_among e fs) live
  passed-by live fs f none =
      filter-members (λ e. is_among e (f ∷ fs)) (λ e. is_among e fs) live (λ x there. ap (λ b. b || is_among x fs) (other live x f there none))

  module _ (live fs : List Element) (f : Element) (within : (x : Element) → is_among x live ≡ true → is_among x es ≡ true)
      (new : is_among f es ≡ false) where
    none-left : is_among f live ≡ false
    none-left = apart_by (is_among f live) (λ t. yes_no (is_among f es) (within f t) new)

    dropped : filter (λ g. is_among g es) (f ∷ fs) ≡ filter (λ g. is_among g es) fs
    dropped = filter-dropped (λ g. is_among g es) f fs new

    -- an element that the first order lacks is passed by
    pub agree-past-new : Agree live (f ∷ fs) → Agree live fs
    agree-past-new h = sym (passed-by live fs f none-left) ∙ h ∙ dropped

    pub agree-before-new : Agree live fs → Agree live (f ∷ fs)
    agree-before-new h = passed-by live fs f none-left ∙ h ∙ sym dropped

  -- an element that the first order has, but not among what is left, stands in another order
  pub agree-never : (live fs : List Element) (f : Element) → is_among f es ≡ true → is_among f live ≡ false → Agree live (f ∷ fs) → ⊥
  agree-never live fs f there none h =
      let first : filter (λ e. is_among e (f ∷ fs)) live ≡ f ∷ filter (λ g. is_among g es) fs = h ∙ filter-kept (λ g. is_among g es) f fs there in
      let among : is_among f (filter (λ e. is_among e (f ∷ fs)) live) ≡ true = ap (is_among f) first
      ∙ true_or (same_element f f) (is_among f (filter (λ g. is_among g es) fs)) (element-itself f) in
      yes_no (is_among f live) (both_first (is_among f live) (is_among f (f ∷ fs)) (sym (among-filter (λ e. is_among e (f ∷ fs)) live f) ∙ among)) none

  rest-alike : (xs ys zs : List Element) (f : Element) → is_among f xs ≡ false → xs ++ f ∷ ys ≡ f ∷ zs → ys ≡ zs
  rest-alike [] ys zs f none h = cc
  rest-alike (x ∷ xs) ys zs f none h =
      let same : x ≡ f = cc in
      absurd (yes_no (is_among f (x ∷ xs)) (true_or (same_element f x) (is_among f xs) (ap (same_element f) same ∙ element-itself f)) none)

  module _ (skip rest fs : List Element) (f : Element) (apart : are_apart (skip ++ f ∷ rest) ≡ true)
      (within : (x : Element) → is_among x (skip ++ f ∷ rest) ≡ true → is_among x es ≡ true) where
    there : is_among f es ≡ true
    there = within f (among-behind skip (f ∷ rest) f (true_or (same_element f f) (is_among f rest) (element-itself f)))

    not-later : is_among f rest ≡ false
    not-later = not_true _ (both_first (not (is_among f rest)) _ (apart-behind skip (f ∷ rest) apart))

    not-before : is_among f skip ≡ false
    not-before = before-apart skip f rest apart

    abbrev skipped : List Element
    skipped = filter (λ e. is_among e (f ∷ fs)) skip

    parted : filter (λ e. is_among e (f ∷ fs)) (skip ++ f ∷ rest) ≡ skipped ++ f ∷ filter (λ e. is_among e fs) rest
    parted =
        filter-append (λ e. is_among e (f ∷ fs)) skip (f ∷ rest)
        ∙ ap (λ l. skipped ++ l) (filter-kept (λ e. is_among e (f ∷ fs)) f rest (true_or (same_element f f) (is_among f fs) (element-itself f))
        ∙ ap (λ l. f ∷ l) (passed-by rest fs f not-later))

    kept : filter (λ g. is_among g es) (f ∷ fs) ≡ f ∷ filter (λ g. is_among g es) fs
    kept = filter-kept (λ g. is_among g es) f fs there

    -- where the next element stands further on, what is behind it is left
    pub agree-past : Agree (skip ++ f ∷ rest) (f ∷ fs) → Agree rest fs
    agree-past h =
        rest-alike skipped (filter (λ e. is_among e fs) rest) (filter (λ g. is_among g es) fs) f
        (among-filter (λ e. is_among e (f ∷ fs)) skip f ∙ ap (λ b. b && is_among f (f ∷ fs)) not-before)
        (sym parted ∙ h ∙ kept)

    none-skipped : Agree rest fs → (x : Element) → is_among x skip ≡ true → is_among x (f ∷ fs) ≡ false
    none-skipped h x before =
        apart_by (is_among x (f ∷ fs)) (λ t.
        either (same_element x f) (is_among x fs) t
        (λ s. yes_no (same_element x f) s (other skip x f before not-before))
        (λ among.
        let both : is_among x (filter (λ g. is_among g es) fs) ≡ true = among-filter (λ g. is_among g es) fs x
        ∙ (λ i. among i && within x (among-front skip (f ∷ rest) x before) i) in
        let later : is_among x rest ≡ true = both_first (is_among x rest) (is_among x fs) (sym (among-filter (λ e. is_among e fs) rest x) ∙ ap (is_among x) h ∙ both) in
        yes_no (is_among x (f ∷ rest)) (or_true (same_element x f) (is_among x rest) later) (apart-parts skip (f ∷ rest) x apart before)))

    pub agree-before : Agree rest fs → Agree (skip ++ f ∷ rest) (f ∷ fs)
    agree-before h =
        parted ∙ ap (λ l. l ++ f ∷ filter (λ e. is_among e fs) rest) (none-pass (λ e. is_among e (f ∷ fs)) skip (none-skipped h))
        ∙ ap (λ l. f ∷ l) h ∙ sym kept

-- ---- a place that is found

-- the child of an element stands at this place
pub record StandsAt (e : Element) (cs : List Child) (p : ℕ) : Type 0 where
  -- the child
  pub child : Child
  -- at the place it stands before those behind it
  pub here : drop p cs ≡ child ∷ drop (suc p) cs
  -- it has the element
  pub same : e ≡ element_view child.0
  -- it is the one of the element
  pub found : child_at e cs ≡ Some child.1

first-stands : (e : Element) (c : Child) (cs : List Child) (p : ℕ) → same_element e (element_view c.0) ≡ true → 0 ≡ p → StandsAt e (c ∷ cs) p
first-stands e c cs p s at = subst (StandsAt e (c ∷ cs)) at (record {
  child = c;
  here = refl;
  same = same_element-true e (element_view c.0) s;
  found = ap (λ b. cond b (Some c.1) (child_at e cs)) s;
})

later-stands : (e : Element) (c : Child) (cs : List Child) (q p : ℕ) → same_element e (element_view c.0) ≡ false → StandsAt e cs q → p ≡ suc q
    → StandsAt e (c ∷ cs) p
later-stands e c cs q p s h at = subst (StandsAt e (c ∷ cs)) (sym at) (record {
  child = h.child;
  here = h.here;
  same = h.same;
  found = ap (λ b. cond b (Some c.1) (child_at e cs)) s ∙ h.found;
})

-- where a place is found for an element, its child stands there
pub stands-at : (e : Element) (cs : List Child) (p : ℕ) → child_at e (places cs) ≡ Some p → StandsAt e cs p
stands-at e [] p h = cc
stands-at e (c ∷ cs) p h =
    elim (same_element e (element_view c.0)) as (λ b. same_element e (element_view c.0) ≡ b
    → cond b (Some 0) (child_at e (map next_place (places cs))) ≡ Some p → StandsAt e (c ∷ cs) p) [
      | true ↦ λ s k. first-stands e c cs p s (some-number 0 p k)
      | false ↦ λ s k.
          let n = next-of (child_at e (places cs)) p (sym (child-next e (places cs)) ∙ k) in
          later-stands e c cs n.before p s (stands-at e cs n.before n.there) n.next
    ] refl h

-- what is read at a place that is found for an element is the child of the element
pub placed-child : (e : Element) (cs : List Child) (p : ℕ) (d : Child) → child_at e (places cs) ≡ Some p → child_at e cs ≡ Some (get_or cs p d).1
placed-child e cs p d found =
    let stands = stands-at e cs p found in
    let both : stands.child ∷ drop (suc p) cs ≡ get_or cs p d ∷ drop (p + 1) cs = sym stands.here ∙ drop_more cs p d (place-within e cs p found) in
    let same : stands.child ≡ get_or cs p d = cc in
    stands.found ∙ ap (λ (x : Child). Some x.1) same

-- ---- child by child of the second

-- what is left of children is within all of them
pub left-within : (cs : List Child) (n : ℕ) (x : Element) → is_among x (elements (drop n cs)) ≡ true → is_among x (elements cs) ≡ true
left-within cs n x h =
    ap (is_among x) (ap elements (sym (take-append-drop n cs)) ∙ elements-append (take n cs) (drop n cs))
    ∙ among-behind (elements (take n cs)) (elements (drop n cs)) x h

-- The items of both stand in one order just where those that are left do: behind n of the first, and j of the second.
pub record IsOrderedSoFar (cs ds : List Child) (n j : ℕ) : Type 0 where
  pub back : Agree (elements cs) (elements (drop n cs)) (elements (drop j ds)) → Agree (elements cs) (elements cs) (elements ds)
  pub on : Agree (elements cs) (elements cs) (elements ds) → Agree (elements cs) (elements (drop n cs)) (elements (drop j ds))

pub ordered-start : (cs ds : List Child) → IsOrderedSoFar cs ds 0 0
ordered-start cs ds = record { back = λ h. h; on = λ h. h }

module _ (cs ds : List Child) (n j : ℕ) (d : Child) (apart : are_apart (elements cs) ≡ true) (lt : j < length ds) (is : d ≡ get_or ds j d)
    (h : IsOrderedSoFar cs ds n j) where
  abbrev es : List Element
  es = elements cs

  abbrev f : Element
  f = element_view d.0

  next : elements (drop j ds) ≡ f ∷ elements (drop (j + 1) ds)
  next = ap elements (left-at ds j d lt is)

  back-now : Agree es (elements (drop n cs)) (f ∷ elements (drop (j + 1) ds)) → Agree es es (elements ds)
  back-now = subst (λ l. Agree es (elements (drop n cs)) l → Agree es es (elements ds)) next h.back

  on-now : Agree es es (elements ds) → Agree es (elements (drop n cs)) (f ∷ elements (drop (j + 1) ds))
  on-now = subst (λ l. Agree es es (elements ds) → Agree es (elements (drop n cs)) l) next h.on

  -- a child that the first lacks is passed by
  pub ordered-past-new : child_at f (places cs) ≡ None → IsOrderedSoFar cs ds n (j + 1)
  ordered-past-new none =
      let new : is_among f es ≡ false = none-among f cs (sym (new-place f cs) ∙ ap is_absent none) in
      let live = elements (drop n cs) in
      let rest = elements (drop (j + 1) ds) in
      record {
        back = λ k. back-now (agree-before-new es live rest f (left-within cs n) new k);
        on = λ k. agree-past-new es live rest f (left-within cs n) new (on-now k);
      }

  module _ (p : ℕ) (found : child_at f (places cs) ≡ Some p) where
    stands : StandsAt f cs p
    stands = stands-at f cs p found

    behind : elements (drop p cs) ≡ f ∷ elements (drop (suc p) cs)
    behind = ap elements stands.here ∙ ap (λ e. e ∷ elements (drop (suc p) cs)) (sym stands.same)

    whole : es ≡ elements (take p cs) ++ f ∷ elements (drop (suc p) cs)
    whole = ap elements (sym (take-append-drop p cs)) ∙ elements-append (take p cs) (drop p cs) ∙ ap (λ l. elements (take p cs) ++ l) behind

    there-too : is_among f es ≡ true
    there-too = ap (is_among f) whole ∙ among-behind (elements (take p cs)) (f ∷ elements (drop (suc p) cs)) f
        (true_or (same_element f f) (is_among f (elements (drop (suc p) cs))) (element-itself f))

    -- a child that stands further on is passed by, and so are those before it
    pub ordered-past : n ≤ p → IsOrderedSoFar cs ds (p + 1) (j + 1)
    ordered-past le =
        let skip = take (p - n) (drop n cs) in
        let far : n + (p - n) ≡ p = omega arith in
        let one : suc p ≡ p + 1 = omega arith in
        let rest = elements (drop (j + 1) ds) in
        let later = elements (drop (suc p) cs) in
        let parts : elements (drop n cs) ≡ elements skip ++ f ∷ later = ap elements (sym (take-append-drop (p - n) (drop n cs))
        ∙ ap (λ l. skip ++ l) (drop-drop (p - n) n cs ∙ ap (λ k. drop k cs) far)) ∙ elements-append skip (drop p cs)
        ∙ ap (λ l. elements skip ++ l) behind in
        let left : are_apart (elements skip ++ f ∷ later) ≡ true = ap are_apart (sym parts) ∙ apart-behind (elements (take n cs)) (elements (drop n cs))
        (ap are_apart (sym (elements-append (take n cs) (drop n cs)) ∙ ap elements (take-append-drop n cs)) ∙ apart) in
        let within = λ (x : Element) (k : is_among x (elements skip ++ f ∷ later) ≡ true). left-within cs n x (ap (is_among x) parts ∙ k) in
        subst (λ k. IsOrderedSoFar cs ds k (j + 1)) one (record {
          back = λ k. back-now (subst (λ l. Agree es l (f ∷ rest)) (sym parts) (agree-before es (elements skip) later rest f left within k));
          on = λ k. agree-past es (elements skip) later rest f left within (subst (λ l. Agree es l (f ∷ rest)) parts (on-now k));
        })

    -- a child that stands before those that are left stands in another order
    pub never-ordered : p < n → are_in_one_order es (elements ds) ≡ false
    never-ordered less =
        let far : suc p + (n - suc p) ≡ n = omega arith in
        let later : is_among f (elements (drop (suc p) cs)) ≡ false = not_true _ (both_first (not (is_among f (elements (drop (suc p) cs)))) _
        (apart-behind (elements (take p cs)) (f ∷ elements (drop (suc p) cs)) (ap are_apart (sym whole) ∙ apart))) in
        let none : is_among f (elements (drop n cs)) ≡ false = apart_by (is_among f (elements (drop n cs))) (λ t.
        yes_no (is_among f (elements (drop (suc p) cs))) (left-within (drop (suc p) cs) (n - suc p) f
        (ap (λ l. is_among f (elements l)) (drop-drop (n - suc p) (suc p) cs ∙ ap (λ k. drop k cs) far) ∙ t)) later) in
        apart_by (are_in_one_order es (elements ds)) (λ t.
        agree-never es (elements (drop n cs)) (elements (drop (j + 1) ds)) f there-too none
        (on-now (pointwise-true same_element same_element-true _ _ t)))

-- behind the last, they stand in one order
pub ordered-end : (cs ds : List Child) (n j : ℕ) → length ds ≤ j → IsOrderedSoFar cs ds n j → are_in_one_order (elements cs) (elements ds) ≡ true
ordered-end cs ds n j done h =
    let none : elements (drop j ds) ≡ [] = ap elements (drop_all j ds done) in
    let end : Agree (elements cs) (elements (drop n cs)) [] = none-pass (λ e. is_among e []) (elements (drop n cs)) (λ e there. refl) in
    let all = h.back (subst (Agree (elements cs) (elements (drop n cs))) (sym none) end) in
    ap (pointwise same_element (common (elements cs) (elements ds))) (sym all)
    ∙ pointwise-itself same_element element-itself (common (elements cs) (elements ds))
