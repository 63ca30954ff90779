-- The walk over the children of a place: those that were led so far, those that come, and the edit of the place itself.
use Rattle.std.proofs.Common.{◌≡◌, ℕ, zero, suc, ◌+◌, ◌<◌, ◌≤◌, List, [], ◌∷◌, ◌++◌, length, drop, get_or, Bool, true, false, not, ◌&&◌, ◌||◌, cond, Option, Some, None, option_map, refl, sym, ap, subst, ◌∙◌, arith, append_assoc, append-nil}
use Rattle.std.specs.List.{list_any}
use Rattle.std.specs.Prelude.{is_some}
use Rattle.std.proofs.lemmas.List.{drop_more, length-drop, nil_from_length}
use Rattle.std.proofs.lemmas.Option.{none-some, slice_get-get_or}
use Rattle.ssa_model.specs.definitions.Body.{Content}
use Rattle.ssa_model.specs.definitions.Path.{Element, Path, same_element, parent, under}
use Rattle.ssa_path.specs.Children.{child_at, elements, IsChildAt}
use Rattle.ssa_model.proofs.Pruned.{under-rest}
use Rattle.ssa_path.specs.View.{element_view}
use Rattle.ssa_path.proofs.Orders.{both_first, both_second}
use Rattle.ssa_typed.specs.Rows.{below, own_content, is_tree, are_trees, are_apart}
use Rattle.ssa_typed.specs.declared.node.Node.{Node}
use Rattle.ssa_turn_body.specs.Found.{AreFound, fresh}
use Rattle.ssa_typed.specs.Over.{AreAlikeBelow}
use Rattle.ssa_turn_body.specs.Led.{AreLeading, IsAlikeChild, IsChildLed}
use Rattle.ssa_turn_body.specs.Marks.{Child, Marks, marks, marks_in}
use Rattle.ssa_turn_body.specs.Once.{AreOnceMore, changes_at}
use Rattle.ssa_turn_body.specs.Told.{content_told}
use Rattle.ssa_turn_body.specs.declared.steps.Step.{Step}
use Rattle.ssa_turn_body.proofs.Descending.{child-here, found-at}
use Rattle.ssa_turn_body.specs.Said.{contents}
use Rattle.ssa_turn_body.proofs.Leading.{led-child, under-further}
use Rattle.ssa_turn_body.proofs.OnceOnly.{once-child}
use Rattle.ssa_turn_body.proofs.Recording.{leading-same, leading-then, saying-child}
use Rattle.ssa_turn_body.proofs.Saying.{IsAround, Joins, joins-first, joins-second, joins-still-first, other-around, still-root}
use Rattle.ssa_turn_body.proofs.Marking.{marks-level}
use Rattle.ssa_turn_body.proofs.Matching.{found-length}
use Rattle.ssa_model.proofs.Tables.{element-itself as same_element-itself}
use Rattle.ssa_model.proofs.Fitting.{same_element-true}
use Rattle.ssa_model.proofs.ReplacedParts.{longer as under-above}
use Rattle.ssa_model.proofs.ShownNames.{turned as same_either_way}
use Rattle.ssa_model.proofs.Basics.{not_true, first_false as neither_first, second_false as neither_second}

abbrev Found : Type 0
Found = List (Option ℕ)

-- ---- children of a list

-- a child is found under an element where the element is one of the children's
pub child-among : (e : Element) (cs : List Child) → is_some (child_at e cs) ≡ list_any (same_element e) (elements cs)
child-among e [] = refl
child-among e (c ∷ cs) =
    elim (same_element e (element_view c.0)) as (λ b. is_some (cond b (Some c.1) (child_at e cs)) ≡ (b || list_any (same_element e) (elements cs))) [
      | true ↦ refl
      | false ↦ child-among e cs
    ]

any-middle : (x : Element) (done : List Child) (d : Child) (rest : List Child) → list_any (same_element x) (elements (done ++ d ∷ rest)) ≡ false
    → same_element x (element_view d.0) ≡ false
any-middle x [] d rest h = neither_first (same_element x (element_view d.0)) _ h
any-middle x (c ∷ done) d rest h = any-middle x done d rest (neither_second (same_element x (element_view c.0)) _ h)

other-first : (x : Child) (done : List Child) (d : Child) (rest : List Child) → are_apart (elements (x ∷ (done ++ d ∷ rest))) ≡ true
    → same_element (element_view d.0) (element_view x.0) ≡ false
other-first x done d rest apart =
    same_either_way (element_view x.0) (element_view d.0)
    ∙ any-middle (element_view x.0) done d rest (not_true _ (both_first (not (list_any (same_element (element_view x.0)) (elements (done ++ d ∷ rest)))) _
    apart))

-- a child between others is found under its element
pub middle-found : (done : List Child) (d : Child) (rest : List Child) → are_apart (elements (done ++ d ∷ rest)) ≡ true
    → child_at (element_view d.0) (done ++ d ∷ rest) ≡ Some d.1
middle-found [] d rest apart = ap (λ b. cond b (Some d.1) (child_at (element_view d.0) rest)) (same_element-itself (element_view d.0))
middle-found (x ∷ done) d rest apart =
    ap (λ b. cond b (Some x.1) (child_at (element_view d.0) (done ++ d ∷ rest))) (other-first x done d rest apart)
    ∙ middle-found done d rest (both_second (not (list_any (same_element (element_view x.0)) (elements (done ++ d ∷ rest)))) _ apart)

-- no child before it has its element
pub none-before : (done : List Child) (d : Child) (rest : List Child) → are_apart (elements (done ++ d ∷ rest)) ≡ true → child_at (element_view d.0) done ≡ None
none-before [] d rest apart = refl
none-before (x ∷ done) d rest apart =
    ap (λ b. cond b (Some x.1) (child_at (element_view d.0) done)) (other-first x done d rest apart)
    ∙ none-before done d rest (both_second (not (list_any (same_element (element_view x.0)) (elements (done ++ d ∷ rest)))) _ apart)

push-same : (done : List Child) (d : Child) → child_at (element_view d.0) done ≡ None → child_at (element_view d.0) (done ++ d ∷ []) ≡ Some d.1
push-same [] d h = ap (λ b. cond b (Some d.1) None) (same_element-itself (element_view d.0))
push-same (x ∷ done) d h =
    elim (same_element (element_view d.0) (element_view x.0)) as (λ b. cond b (Some x.1) (child_at (element_view d.0) done) ≡ None
    → cond b (Some x.1) (child_at (element_view d.0) (done ++ d ∷ [])) ≡ Some d.1) [
      | true ↦ λ k. absurd (none-some x.1 (sym k))
      | false ↦ λ k. push-same done d k
    ] h

push-other : (e : Element) (done : List Child) (d : Child) → same_element e (element_view d.0) ≡ false → child_at e (done ++ d ∷ []) ≡ child_at e done
push-other e [] d h = ap (λ b. cond b (Some d.1) None) h
push-other e (x ∷ done) d h =
    elim (same_element e (element_view x.0)) as (λ b. cond b (Some x.1) (child_at e (done ++ d ∷ [])) ≡ cond b (Some x.1) (child_at e done)) [
      | true ↦ refl
      | false ↦ push-other e done d h
    ]

-- ---- what a place tells where some of its children are led

-- what a child tells, where it is led already: what the second child of its element tells
abbrev pub led_in : Option Node → Option Node → Marks
led_in None d q = None
led_in (Some c) None q = marks c q
led_in (Some c) (Some d) q = marks d q

-- what a place tells while some of its children are led
abbrev pub led : Content → List Child → List Child → Marks
led o cs ds [] = Some (o, elements cs)
led o cs ds (e ∷ q) = led_in (child_at e cs) (child_at e ds) q

-- at first, while none is led, it is what the tree tells
pub led-start : (v : Node) (q : Path) → marks v q ≡ led (own_content v) (below v) [] q
led-start v [] = marks-level v []
led-start v (e ∷ q) = marks-level v (e ∷ q) ∙ by (child_at e (below v))
  where
    by : (o : Option Node) → marks_in (option_map marks o) q ≡ led_in o None q
    by None = refl
    by (Some c) = refl

-- a tree tells a content at its root
pub root-some : (n : Node) → is_some (contents (marks n) []) ≡ true
root-some n = ap (λ m. is_some (content_told m)) (marks-level n [])

-- changes are put behind the others below the path alone, and below these children
pub record AreAmong (p : Path) (done : List Child) (old new : List Step) : Type 0 where
  -- at the place itself there are as many changes as before
  pub here : changes_at p new ≡ changes_at p old
  -- below other children there are as many changes as before
  pub others : (e : Element) (q : Path) → child_at e done ≡ None → changes_at (p ++ e ∷ q) new ≡ changes_at (p ++ e ∷ q) old

-- ---- one child more is led

module _ (p : Path) (o : Content) (cs : List Child) (old : List Step) (done : List Child) (d : Child) (steps : List Step)
    (new : child_at (element_view d.0) done ≡ None) (leading : AreLeading p (led o cs []) (led o cs done) old steps) (among : AreAmong p done old steps) where
  led-here : (q : Path) → under (element_view d.0 ∷ []) q ≡ false → led o cs (done ++ d ∷ []) q ≡ led o cs done q
  led-here [] u = refl
  led-here (f ∷ q) u =
      let other : same_element f (element_view d.0) ≡ false = same_either_way (element_view d.0) f ∙ first (same_element (element_view d.0) f) u in
      ap (λ x. led_in (child_at f cs) x q) (push-other f done d other)
    where
      first : (b : Bool) → (b && true) ≡ false → b ≡ false
      first true e = e
      first false e = refl

  -- what is said of the children so far, and of this one, is said of both together
  joins-here : (q : Path) → Joins (contents (led o cs [])) (contents (led o cs done)) (contents (led o cs (done ++ d ∷ []))) q
  joins-here [] =
      joins-still-first (contents (led o cs [])) (contents (led o cs done)) (contents (led o cs (done ++ d ∷ []))) [] (still-root _ _ _) refl
  joins-here (f ∷ q) =
      elim (same_element (element_view d.0) f) as (λ b. same_element (element_view d.0) f ≡ b
      → Joins (contents (led o cs [])) (contents (led o cs done)) (contents (led o cs (done ++ d ∷ []))) (f ∷ q)) [
        | true ↦ λ t.
            let is = same_element-true (element_view d.0) f t in
            joins-first (contents (led o cs [])) (contents (led o cs done)) (contents (led o cs (done ++ d ∷ []))) (f ∷ q)
            (not-yet f q (ap (λ e. child_at e done) (sym is) ∙ new))
        | false ↦ λ t.
            joins-second (contents (led o cs [])) (contents (led o cs done)) (contents (led o cs (done ++ d ∷ []))) (f ∷ q)
            (other-around (contents (led o cs done)) (contents (led o cs (done ++ d ∷ []))) (element_view d.0) f q t
            (λ r u. ap content_told (led-here r u)))
      ] refl
    where
      not-yet : (f : Element) (q : Path) → child_at f done ≡ None → IsAround (contents (led o cs [])) (contents (led o cs done)) (f ∷ q)
      not-yet f [] e = record { above = refl; from = λ r. ap (λ x. content_told (led_in (child_at f cs) x r)) (sym e) }
      not-yet f (g ∷ q) e =
          record {
            above = ap (λ x. content_told (led_in (child_at f cs) x (parent (g ∷ q)))) (sym e);
            from = λ r. ap
                (λ x. content_told (led_in (child_at f cs) x (g ∷ (q ++ r)))) (sym e);
          }

  -- an element that is not among the children so far and this one
  other-child : (f : Element) → child_at f (done ++ d ∷ []) ≡ None → (same_element (element_view d.0) f ≡ false) × (child_at f done ≡ None)
  other-child f none =
      elim (same_element f (element_view d.0)) as (λ b. same_element f (element_view d.0) ≡ b
      → (same_element (element_view d.0) f ≡ false) × (child_at f done ≡ None)) [
        | true ↦ λ t.
            let is = same_element-true f (element_view d.0) t in
            let there : child_at f (done ++ d ∷ []) ≡ Some d.1 = ap (λ x. child_at x (done ++ d ∷ [])) is ∙ push-same done d new in
            absurd (none-some d.1 (sym none ∙ there))
        | false ↦ λ t. (same_either_way f (element_view d.0) ∙ t, sym (push-other f done d t) ∙ none)
      ] refl

  -- the changes in this child are at other places than those so far
  places-here : (steps2 : List Step) → AreOnceMore (p ++ element_view d.0 ∷ []) steps steps2 → (q : Path) → changes_at q steps2 ≤ changes_at q old + 1
  places-here steps2 once q =
      let e = element_view d.0 in
      elim (under (p ++ e ∷ []) q) as (λ b. under (p ++ e ∷ []) q ≡ b → changes_at q steps2 ≤ changes_at q old + 1) [
        | true ↦ λ u.
            let rest = under-rest (p ++ e ∷ []) q u in
            let is : q ≡ p ++ e ∷ rest.0 = rest.1 ∙ append_assoc p (e ∷ []) rest.0 in
            let none : changes_at (p ++ e ∷ rest.0) steps ≡ changes_at (p ++ e ∷ rest.0) old = among.others e rest.0 new in
            let same : changes_at q steps ≡ changes_at q old = (λ i. changes_at (is i) steps) ∙ none ∙ (λ i. changes_at (sym is i) old) in
            let more = once.places q in
            omega arith
        | false ↦ λ u.
            let same = once.others q u in
            let more = leading.once.places q in
            omega arith
      ] refl

  among-here : (steps2 : List Step) → AreOnceMore (p ++ element_view d.0 ∷ []) steps steps2 → AreAmong p (done ++ d ∷ []) old steps2
  among-here steps2 once = record {
    here = once.others p (under-above p (element_view d.0)) ∙ among.here;
    others = λ f q none.
        let other = other-child f none in
        once.others (p ++ f ∷ q) (under-further p (element_view d.0 ∷ []) (f ∷ q) ∙ ap (λ b. b && true) other.0) ∙ among.others f q other.1;
  }

  -- the next child is led
  pub more-led : (c : Node) (steps2 : List Step) → child_at (element_view d.0) cs ≡ Some c
      → AreLeading (p ++ element_view d.0 ∷ []) (marks c) (marks d.1) steps steps2
      → AreLeading p (led o cs []) (led o cs (done ++ d ∷ [])) old steps2 × AreAmong p (done ++ d ∷ []) old steps2
  more-led c steps2 there one =
      let step : AreLeading p (led o cs done) (led o cs (done ++ d ∷ [])) steps steps2 = record {
        made = one.made;
        added = one.added;
        led = led-child p (element_view d.0) (led o cs done) (led o cs (done ++ d ∷ [])) (marks c) (marks d.1) one.made
            (λ q. (λ t. led_in (there t) (new t) q))
            (λ q. (λ t. led_in (there t) (push-same done d new t) q))
            led-here
            one.led;
        saying = saying-child p (element_view d.0) (led o cs done) (led o cs (done ++ d ∷ [])) (marks c) (marks d.1) one.made
            (λ q. (λ t. led_in (there t) (new t) q))
            (λ q. (λ t. led_in (there t) (push-same done d new t) q))
            led-here (root-some c) (root-some d.1)
            one.saying;
        once = once-child p (element_view d.0) steps steps2 one.once;
        writable = one.writable;
        lean = one.lean;
      } in (
        leading-then p (led o cs []) (led o cs done) (led o cs (done ++ d ∷ [])) old steps steps2 joins-here leading step (places-here steps2 one.once),
        among-here steps2 one.once,
      )

  same-led : child_at (element_view d.0) cs ≡ None → (q : Path) → led o cs done q ≡ led o cs (done ++ d ∷ []) q
  same-led absent [] = refl
  same-led absent (f ∷ q) =
      elim (same_element f (element_view d.0)) as (λ b. same_element f (element_view d.0) ≡ b
      → led_in (child_at f cs) (child_at f done) q ≡ led_in (child_at f cs) (child_at f (done ++ d ∷ [])) q) [
        | true ↦ λ t.
            let gone : child_at f cs ≡ None = ap (λ x. child_at x cs) (same_element-true f (element_view d.0) t) ∙ absent in
            ap (λ x. led_in x (child_at f done) q) gone ∙ sym (ap (λ x. led_in x (child_at f (done ++ d ∷ [])) q) gone)
        | false ↦ λ t. ap (λ x. led_in (child_at f cs) x q) (sym (push-other f done d t))
      ] refl

  -- the next child is held, since it comes
  pub more-held : child_at (element_view d.0) cs ≡ None
      → AreLeading p (led o cs []) (led o cs (done ++ d ∷ [])) old steps × AreAmong p (done ++ d ∷ []) old steps
  more-held absent =
      let same : (q : Path) → led o cs done q ≡ led o cs (done ++ d ∷ []) q = same-led absent in (
        leading-then p (led o cs []) (led o cs done) (led o cs (done ++ d ∷ [])) old steps steps
            (λ q. joins-second (contents (led o cs [])) (contents (led o cs done)) (contents (led o cs (done ++ d ∷ []))) q
            (record { above = ap content_told (same (parent q)); from = λ r. ap content_told (same (q ++ r)) }))
            leading (leading-same p (led o cs done) (led o cs (done ++ d ∷ [])) steps steps refl same) leading.once.places,
        record { here = among.here; others = λ f q none. among.others f q (other-child f none).1 },
      )

-- so far: the children before the rest are led, or held where they come
pub record IsWalking (p : Path) (o : Content) (cs ds : List Child) (fs : Found) (old : List Step) (i : ℕ) (rest held : List Child) (steps : List Step) : Type
    0 where
  -- the children that were led or held so far
  pub done : List Child
  -- those and the rest are all of the second children
  pub whole : ds ≡ done ++ rest
  -- so many of the second children were met
  pub count : i + length rest ≡ length ds
  -- the rest is made of trees
  pub trees : are_trees rest ≡ true
  -- the places found are those of the rest
  pub found : AreFound cs rest (drop i fs)
  -- what is held so far, with what comes of the rest, is all that comes
  pub held_is : fresh fs ds ≡ held ++ fresh (drop i fs) rest
  -- the changes so far lead the children so far, and say so
  pub leading : AreLeading p (led o cs []) (led o cs done) old steps
  -- the changes so far are at places below these children alone
  pub among : AreAmong p done old steps

-- at first no child is led or held
pub walking-start : (p : Path) (o : Content) (cs ds : List Child) (fs : Found) (old : List Step) → are_trees ds ≡ true → AreFound cs ds fs
    → IsWalking p o cs ds fs old 0 ds [] old
walking-start p o cs ds fs old trees found = record {
  done = [];
  whole = refl;
  count = omega arith;
  trees = trees;
  found = found;
  held_is = refl;
  leading = leading-same p (led o cs []) (led o cs []) old old refl (λ q. refl);
  among = record { here = refl; others = λ e q none. refl };
}

module _ (p : Path) (o : Content) (cs ds : List Child) (fs : Found) (old : List Step) (i : ℕ) (d : Child) (all rest held : List Child) (steps : List Step)
    (is : all ≡ d ∷ rest) (apart : are_apart (elements ds) ≡ true)
    (w : IsWalking p o cs ds fs old i all held steps) where
  here : IsWalking p o cs ds fs old i (d ∷ rest) held steps
  here = subst (λ l. IsWalking p o cs ds fs old i l held steps) is w

  -- a place is found for the next child, or none
  pub walking-index : i < length fs
  walking-index =
      let long = found-length cs (d ∷ rest) (drop i fs) here.found in
      let dropped = length-drop i fs in
      omega arith

  split : (f : Option ℕ) → get_or fs i None ≡ f → drop i fs ≡ f ∷ drop (i + 1) fs
  split f e = drop_more fs i None walking-index ∙ ap (λ g. g ∷ drop (i + 1) fs) e

  apart_now : are_apart (elements (here.done ++ d ∷ rest)) ≡ true
  apart_now = ap (λ l. are_apart (elements l)) (sym here.whole) ∙ apart

  -- the next child is a tree
  pub walking-tree : is_tree d.1 ≡ true
  walking-tree = both_first (is_tree d.1) _ here.trees

  found_now : (f : Option ℕ) → get_or fs i None ≡ f → AreFound cs (d ∷ rest) (f ∷ drop (i + 1) fs)
  found_now f e = subst (AreFound cs (d ∷ rest)) (split f e) here.found

  -- the place found for the next child is that of its element
  pub walking-place : (k : ℕ) → get_or fs i None ≡ Some k → IsChildAt (element_view d.0) cs k
  walking-place k e = (found_now (Some k) e).0

  -- the next child is alike to the one of its element, as all are
  pub walking-alike : AreAlikeBelow cs ds → IsAlikeChild cs d
  walking-alike alike c there = alike (element_view d.0) c d.1 there (ap (child_at (element_view d.0)) here.whole ∙ middle-found here.done d rest apart_now)

  whole_after : ds ≡ (here.done ++ d ∷ []) ++ rest
  whole_after = here.whole ∙ sym (append_assoc here.done (d ∷ []) rest)

  count_after : (i + 1) + length rest ≡ length ds
  count_after = let c = here.count in omega arith

  -- with the next child led, the walk goes on
  pub walking-led : (k : ℕ) (steps2 : List Step) → are_apart (elements cs) ≡ true → get_or fs i None ≡ Some k → IsChildLed p cs d steps steps2
      → IsWalking p o cs ds fs old (i + 1) rest held steps2
  walking-led k steps2 own_apart e child =
      let at = child-here (element_view d.0) cs k (walking-place k e) in
      let there : child_at (element_view d.0) cs ≡ Some at.child.1 = found-at (element_view d.0) cs k at.child at.here at.same own_apart in
      let new = none-before here.done d rest apart_now in
      let more = more-led p o cs old here.done d steps new here.leading here.among at.child.1 steps2 there (child at.child.1 there) in
      record {
        done = here.done ++ d ∷ [];
        whole = whole_after;
        count = count_after;
        trees = both_second (is_tree d.1) _ here.trees;
        found = (found_now (Some k) e).1;
        held_is = here.held_is ∙ ap (λ gs. held ++ fresh gs (d ∷ rest)) (split (Some k) e);
        leading = more.0;
        among = more.1;
      }

  -- with the next child held, since it comes, the walk goes on
  pub walking-held : (held2 : List Child) → get_or fs i None ≡ None → held2 ≡ held ++ d ∷ [] → IsWalking p o cs ds fs old (i + 1) rest held2 steps
  walking-held held2 e pushed =
      let new = none-before here.done d rest apart_now in
      let more = more-held p o cs old here.done d steps new here.leading here.among (found_now None e).0 in
      record {
        done = here.done ++ d ∷ [];
        whole = whole_after;
        count = count_after;
        trees = both_second (is_tree d.1) _ here.trees;
        found = (found_now None e).1;
        held_is =
            here.held_is ∙ ap (λ gs. held ++ fresh gs (d ∷ rest)) (split None e) ∙ sym (append_assoc held (d ∷ []) (fresh (drop (i + 1) fs) rest))
            ∙ ap (λ hs. hs ++ fresh (drop (i + 1) fs) rest) (sym pushed);
        leading = more.0;
        among = more.1;
      }

nothing-fresh : (gs : Found) → fresh {X = Child} gs [] ≡ []
nothing-fresh [] = refl
nothing-fresh (g ∷ gs) = refl

-- at the end all that comes is held, and the changes lead the common children
pub walking-end : (p : Path) (o : Content) (cs ds : List Child) (fs : Found) (old : List Step) (i : ℕ) (rest held : List Child) (steps : List Step)
    → rest ≡ [] → IsWalking p o cs ds fs old i rest held steps
    → (held ≡ fresh fs ds) × AreLeading p (led o cs []) (led o cs ds) old steps × (changes_at p steps ≡ changes_at p old)
walking-end p o cs ds fs old i rest held steps none w = (
  sym (w.held_is ∙ ap (λ l. held ++ fresh (drop i fs) l) none ∙ ap (λ l. held ++ l) (nothing-fresh (drop i fs)) ∙ append-nil held),
  subst (λ l. AreLeading p (led o cs []) (led o cs l) old steps) (sym (w.whole ∙ ap (λ l. w.done ++ l) none ∙ append-nil w.done)) w.leading,
  w.among.here,
)

-- ---- what is read

-- the place that is read is the one that was found
pub found-read : (fs : Found) (i : ℕ) (x y : Option ℕ) → i < length fs → x ≡ get_or fs i x → x ≡ y → get_or fs i None ≡ y
found-read [] i x y lt is e = absurd (omega arith)
found-read (f ∷ fs) zero x y lt is e = sym is ∙ e
found-read (f ∷ fs) (suc i) x y lt is e = found-read fs i x y (omega arith) is e

-- the child at the place of an element is the element's
pub child-there : (e : Element) (cs own : List Child) (k : ℕ) (c : Child) → own ≡ cs → IsChildAt e cs k → c ≡ get_or own k c → are_apart (elements cs) ≡ true
    → child_at e cs ≡ Some c.1
child-there e cs own k c lent at is apart =
    let read : get_or cs k c ≡ c = sym (is ∙ ap (λ l. get_or l k c) lent) in
    found-at e cs k c (slice_get-get_or cs k c at.within ∙ ap Some read) (ap (λ (x : Child). same_element e (element_view x.0)) (sym read) ∙ at.same c) apart

-- the child at the place of an element has the element
pub child-named : (e : Element) (cs own : List Child) (k : ℕ) (c : Child) → own ≡ cs → IsChildAt e cs k → c ≡ get_or own k c → element_view c.0 ≡ e
child-named e cs own k c lent at is =
    let read : get_or cs k c ≡ c = sym (is ∙ ap (λ l. get_or l k c) lent) in
    sym (same_element-true e (element_view c.0) (ap (λ (x : Child). same_element e (element_view x.0)) (sym read) ∙ at.same c))

-- the children that are left are within the second ones
pub left-within : (xs : List Child) (i n : ℕ) → i + length (drop i xs) ≡ n → i < n → i < length xs
left-within xs i n count lt = let long = length-drop i xs in omega arith

-- none is left behind the last place
pub none-left : (xs : List Child) (i n : ℕ) → i + length (drop i xs) ≡ n → n ≤ i → drop i xs ≡ []
none-left xs i n count all = nil_from_length (drop i xs) (omega arith)
