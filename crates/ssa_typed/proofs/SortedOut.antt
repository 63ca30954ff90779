-- The configuration's children, sorted out by the live children.
use Rattle.std.proofs.Common.{◌≡◌, ℕ, suc, ◌+◌, ◌<◌, List, [], ◌∷◌, ◌++◌, map, length, get_or, set, take, Bool, true, false, not, ◌||◌, cond, Option, Some, None, option_map, refl, sym, ap, subst, ◌∙◌, append_assoc, append-nil, arith, true≢false, slice_index_or, zero, Bor}
use Rattle.std.specs.Prelude.{filter, IfNone, IfSome}
use Rattle.std.specs.List.{list_any}
use Rattle.std.proofs.lemmas.List.{length-map, length-take-le, map-append}
use Rattle.std.proofs.lemmas.List.Elements.{filter-append}
use Rattle.std.proofs.lemmas.List.Folds.{list_any-append}
use Rattle.ssa_model.specs.definitions.Path.{Element, same_element}
use Rattle.ssa_path.specs.Children.{child_at, elements, IsChildAt}
use Rattle.ssa_path.specs.declared.element.Elem.{Elem}
use Rattle.ssa_path.specs.View.{element_view}
use Rattle.ssa_path.proofs.Lists.{elements-append, taken-at}
use Rattle.ssa_path.proofs.Orders.{both_first, both_second}
use Rattle.ssa_typed.specs.InOrder.{IsInOrder}
use Rattle.ssa_typed.specs.MergedOrder.{beside, is_new, lent_place, next_place, places, whole_child}
use Rattle.ssa_typed.specs.Rows.{are_apart}
use Rattle.ssa_typed.proofs.Building.{Child}
use Rattle.ssa_model.proofs.Fitting.{same_element-true}
use Rattle.ssa_model.proofs.ShownNames.{turned as same_either_way}
use Rattle.ssa_schema.proofs.Repeats.{some-number}
use Rattle.ssa_model.proofs.Basics.{not_true, or_true, first_false as neither_first, second_false as neither_second}

-- ---- places

-- one child more stands at the next place
pub places-push : (cs : List Child) (c : Child) → places (cs ++ c ∷ []) ≡ places cs ++ (c.0, length cs) ∷ []
places-push [] c = refl
places-push (d ∷ cs) c = ap (λ ps. (d.0, 0) ∷ ps) (ap (map next_place) (places-push cs c) ∙ map-append next_place (places cs) ((c.0, length cs) ∷ []))

-- one place more is lent, that of the next child
pub places-more : (cs : List Child) (i : ℕ) (c : Child) (own : Bor Elem) (sorted more : List (Bor Elem × ℕ)) → i < length cs → c ≡ get_or cs i c
    → own.now ≡ c.0 → map lent_place sorted ≡ places (take i cs)
    → more ≡ sorted ++ (own, i) ∷ [] → map lent_place more ≡ places (take (i + 1) cs)
places-more cs i c own sorted more lt is lent h pushed =
    let long : length (take i cs) ≡ i = length-take-le i cs (omega arith) in
    ap (map lent_place) pushed ∙ map-append lent_place sorted ((own, i) ∷ []) ∙ (λ j. h j ++ (lent j, sym long j) ∷ [])
    ∙ sym (ap places (taken-at cs i c lt is) ∙ places-push (take i cs) c)

-- one place further, the elements are the same
pub elements-next : (ps : List (Elem × ℕ)) → elements (map next_place ps) ≡ elements ps
elements-next [] = refl
elements-next (p ∷ ps) = ap (λ es. element_view p.0 ∷ es) (elements-next ps)

-- children and their places have the same elements
pub elements-places : (cs : List Child) → elements (places cs) ≡ elements cs
elements-places [] = refl
elements-places (c ∷ cs) = ap (λ es. element_view c.0 ∷ es) (elements-next (places cs) ∙ elements-places cs)

-- a place further on is found where the place before it is
pub child-next : (e : Element) (ps : List (Elem × ℕ)) → child_at e (map next_place ps) ≡ option_map suc (child_at e ps)
child-next e [] = refl
child-next e (p ∷ ps) =
    elim (same_element e (element_view p.0)) as (λ b. cond b (Some (suc p.1)) (child_at e (map next_place ps))
    ≡ option_map suc (cond b (Some p.1) (child_at e ps))) [ true ↦ refl | false ↦ child-next e ps ]

-- a place further on
pub record IsNext (o : Option ℕ) (i : ℕ) : Type 0 where
  -- what was found
  pub before : ℕ
  -- it is found
  pub there : o ≡ Some before
  -- this place is the next
  pub next : i ≡ suc before

-- a place found one further is the next behind one that is found
pub next-of : (o : Option ℕ) (i : ℕ) → option_map suc o ≡ Some i → IsNext o i
next-of None i h = cc
next-of (Some j) i h = record { before = j; there = refl; next = cc }

-- ---- the configuration's child beside a live one

-- the child of an element is the node that is found with its element
pub whole-child : (e : Element) (ds : List Child) → child_at e ds ≡ option_map (λ d. d.1) (whole_child e ds)
whole-child e [] = refl
whole-child e (d ∷ ds) =
    elim (same_element e (element_view d.0)) as (λ b. cond b (Some d.1) (child_at e ds) ≡ option_map (λ x. x.1) (cond b (Some d) (whole_child e ds)))
    [ true ↦ refl | false ↦ whole-child e ds ]

-- what is found for an element has this element
pub whole-element : (e : Element) (ds : List Child) (d : Child) → whole_child e ds ≡ Some d → element_view d.0 ≡ e
whole-element e [] d h = cc
whole-element e (x ∷ ds) d h =
    elim (same_element e (element_view x.0)) as (λ b. same_element e (element_view x.0) ≡ b → cond b (Some x) (whole_child e ds) ≡ Some d
    → element_view d.0 ≡ e) [
      | true ↦ λ s k. let same : x ≡ d = cc in ap (λ (y : Child). element_view y.0) (sym same) ∙ sym (same_element-true e (element_view x.0) s)
      | false ↦ λ s k. whole-element e ds d k
    ] refl h

-- one child more
whole-push : (e : Element) (ds : List Child) (d : Child) → same_element e (element_view d.0) ≡ false → whole_child e (ds ++ d ∷ []) ≡ whole_child e ds
whole-push e [] d other = ap (λ b. cond b (Some d) None) other
whole-push e (x ∷ ds) d other = ap (cond (same_element e (element_view x.0)) (Some x)) (whole-push e ds d other)

whole-first : (e : Element) (ds : List Child) (d : Child) → same_element e (element_view d.0) ≡ true → list_any (same_element e) (elements ds) ≡ false
    → whole_child e (ds ++ d ∷ []) ≡ Some d
whole-first e [] d same none = ap (λ b. cond b (Some d) None) same
whole-first e (x ∷ ds) d same none =
    ap (λ b. cond b (Some x) (whole_child e (ds ++ d ∷ []))) (neither_first (same_element e (element_view x.0)) _ none)
    ∙ whole-first e ds d same (neither_second (same_element e (element_view x.0)) _ none)

-- where no live child has the element, each keeps what is beside it
pub beside-apart : (ds cs : List Child) (d : Child) → list_any (same_element (element_view d.0)) (elements cs) ≡ false
    → map (beside ds) cs ≡ map (beside (ds ++ d ∷ [])) cs
beside-apart ds [] d none = refl
beside-apart ds (c ∷ cs) d none =
    let other = same_either_way (element_view d.0) (element_view c.0) ∙ neither_first (same_element (element_view d.0) (element_view c.0)) _ none in
    λ i. sym (whole-push (element_view c.0) ds d other) i ∷ beside-apart ds cs d (neither_second (same_element (element_view d.0) (element_view c.0)) _ none) i

module _ (ds cs : List Child) (c d : Child) (i : ℕ) (apart : are_apart (elements (c ∷ cs)) ≡ true)
    (none : list_any (same_element (element_view d.0)) (elements ds) ≡ false)
    (rest : (k : ℕ) → child_at (element_view d.0) (places cs) ≡ Some k → set (map (beside ds) cs) k (Some d) ≡ map (beside (ds ++ d ∷ [])) cs) where
  abbrev IsPut : ℕ → Type 0
  IsPut j = set (map (beside ds) (c ∷ cs)) j (Some d) ≡ map (beside (ds ++ d ∷ [])) (c ∷ cs)

  put-here : same_element (element_view d.0) (element_view c.0) ≡ true → IsPut 0
  put-here s =
      let e = element_view d.0 in
      let f = element_view c.0 in
      let is : e ≡ f = same_element-true e f s in
      let first = whole-first f ds d (same_either_way e f ∙ s) (ap (λ g. list_any (same_element g) (elements ds)) (sym is) ∙ none) in
      let others = ap (λ g. list_any (same_element g) (elements cs)) is ∙ not_true _ (both_first (not (list_any (same_element f) (elements cs))) _ apart) in
      λ j. sym first j ∷ beside-apart ds cs d others j

  put-further : (k : ℕ) → same_element (element_view d.0) (element_view c.0) ≡ false → child_at (element_view d.0) (places cs) ≡ Some k → IsPut (suc k)
  put-further k s there =
      let other = whole-push (element_view c.0) ds d (same_either_way (element_view d.0) (element_view c.0) ∙ s) in
      λ j. sym other j ∷ rest k there j

  next-beside : (b : Bool) → same_element (element_view d.0) (element_view c.0) ≡ b
      → cond b (Some 0) (child_at (element_view d.0) (map next_place (places cs))) ≡ Some i → IsPut i
  next-beside true s k = subst IsPut (some-number 0 i k) (put-here s)
  next-beside false s k =
      let n = next-of (child_at (element_view d.0) (places cs)) i (sym (child-next (element_view d.0) (places cs)) ∙ k) in
      subst IsPut (sym n.next) (put-further n.before s n.there)

-- the configuration's next child is put beside the live child of its element
pub beside-more : (ds cs : List Child) (d : Child) (i : ℕ) → are_apart (elements cs) ≡ true
    → list_any (same_element (element_view d.0)) (elements ds) ≡ false → child_at (element_view d.0) (places cs) ≡ Some i
    → set (map (beside ds) cs) i (Some d) ≡ map (beside (ds ++ d ∷ [])) cs
beside-more ds [] d i apart none at = cc
beside-more ds (c ∷ cs) d i apart none at =
    let f = element_view c.0 in
    next-beside ds cs c d i apart none (λ k. beside-more ds cs d k (both_second (not (list_any (same_element f) (elements cs))) _ apart) none)
    (same_element (element_view d.0) f) refl at

-- a place that is found is there
pub place-within : (e : Element) (cs : List Child) (i : ℕ) → child_at e (places cs) ≡ Some i → i < length cs
place-within e [] i h = cc
place-within e (c ∷ cs) i h =
    elim (same_element e (element_view c.0)) as (λ b. cond b (Some 0) (child_at e (map next_place (places cs))) ≡ Some i → i < length (c ∷ cs)) [
      | true ↦ λ k. let first : 0 ≡ i = some-number 0 i k in omega arith
      | false ↦ λ k.
          let n = next-of (child_at e (places cs)) i (sym (child-next e (places cs)) ∙ k) in
          let rest = place-within e cs n.before n.there in
          let next = n.next in
          omega arith
    ] h

-- a child that stands at a place is among the children
any-at : (e : Element) (cs : List Child) (i : ℕ) (d : Child) → i < length cs → same_element e (element_view (slice_index_or cs i d).0) ≡ true
    → list_any (same_element e) (elements cs) ≡ true
any-at e [] i d lt s = absurd (omega (arith, lt))
any-at e (c ∷ cs) zero d lt s = ap (λ b. b || list_any (same_element e) (elements cs)) s
any-at e (c ∷ cs) (suc i) d lt s = or_true (same_element e (element_view c.0)) _ (any-at e cs i d (omega (arith, lt)) s)

-- the place of a child of an element is found, where the elements are apart
pub place-at : (e : Element) (cs : List Child) (i : ℕ) (d : Child) → are_apart (elements cs) ≡ true → i < length cs
    → same_element e (element_view (slice_index_or cs i d).0) ≡ true → child_at e (places cs) ≡ Some i
place-at e [] i d apart lt s = absurd (omega (arith, lt))
place-at e (c ∷ cs) zero d apart lt s = ap (λ b. cond b (Some 0) (child_at e (map next_place (places cs)))) s
place-at e (c ∷ cs) (suc i) d apart lt s =
    let f = element_view c.0 in
    let further = child-next e (places cs) ∙ ap (option_map suc) (place-at e cs i d (both_second (not (list_any (same_element f) (elements cs))) _ apart) (omega (arith, lt)) s) in
    elim (same_element e f) as (λ b. same_element e f ≡ b → cond b (Some 0) (child_at e (map next_place (places cs))) ≡ Some (suc i)) [
      | true ↦ λ t.
          let among = ap (λ g. list_any (same_element g) (elements cs)) (sym (same_element-true e f t)) ∙ any-at e cs i d (omega (arith, lt)) s in
          absurd (true≢false (sym among ∙ not_true _ (both_first (not (list_any (same_element f) (elements cs))) _ apart)))
      | false ↦ λ t. further
    ] refl

-- a live child is found where there is one
abbrev pub is_absent : {A : Type 0} → Option A → Bool
is_absent None = true
is_absent (Some x) = false

absent-next : (o : Option ℕ) → is_absent (option_map suc o) ≡ is_absent o
absent-next None = refl
absent-next (Some i) = refl

pub new-place : (e : Element) (cs : List Child) → is_absent (child_at e (places cs)) ≡ is_absent (child_at e cs)
new-place e [] = refl
new-place e (c ∷ cs) =
    elim (same_element e (element_view c.0)) as (λ b. is_absent (cond b (Some 0) (child_at e (map next_place (places cs))))
    ≡ is_absent (cond b (Some c.1) (child_at e cs))) [
      | true ↦ refl
      | false ↦ ap is_absent (child-next e (places cs)) ∙ absent-next (child_at e (places cs)) ∙ new-place e cs
    ]

pub absent-none : {A : Type 0} (o : Option A) → is_absent o ≡ true → o ≡ None
absent-none None h = refl
absent-none (Some x) h = absurd (true≢false (sym h))

found-place : (e : Element) (cs : List Child) (i : ℕ) → are_apart (elements cs) ≡ true → IsChildAt e cs i → child_at e (places cs) ≡ Some i
found-place e [] i apart h = absurd (omega (arith, h.within))
found-place e (c ∷ cs) i apart h = place-at e (c ∷ cs) i c apart h.within (h.same c)

-- what is found among children as they stand
pub scanned-place : (e : Element) (cs : List Child) (o : Option ℕ) → are_apart (elements cs) ≡ true → IfSome o (IsChildAt e cs)
    → IfNone o (child_at e cs ≡ None) → child_at e (places cs) ≡ o
scanned-place e cs None apart some none = absent-none (child_at e (places cs)) (new-place e cs ∙ ap is_absent none)
scanned-place e cs (Some i) apart some none = found-place e cs i apart some

is_new-absent : (cs : List Child) (d : Child) → is_new cs d ≡ is_absent (child_at (element_view d.0) cs)
is_new-absent cs d = elim (child_at (element_view d.0) cs) as (λ o. elim o [ None ↦ true | Some c ↦ false ] ≡ is_absent o) [ None ↦ refl | Some c ↦ refl ]

pub none-among : (e : Element) (cs : List Child) → is_absent (child_at e cs) ≡ true → list_any (same_element e) (elements cs) ≡ false
none-among e [] h = refl
none-among e (c ∷ cs) h =
    elim (same_element e (element_view c.0)) as (λ b. is_absent (cond b (Some c.1) (child_at e cs)) ≡ true
    → (b || list_any (same_element e) (elements cs)) ≡ false) [
      | true ↦ λ k. absurd (true≢false (sym k))
      | false ↦ λ k. none-among e cs k
    ] h

-- an element is none of those before it
pub before-apart : (es : List Element) (e : Element) (fs : List Element) → are_apart (es ++ e ∷ fs) ≡ true → list_any (same_element e) es ≡ false
before-apart [] e fs h = refl
before-apart (f ∷ es) e fs h =
    let others = sym (list_any-append (same_element f) es (e ∷ fs)) ∙ not_true _ (both_first (not (list_any (same_element f) (es ++ e ∷ fs))) _ h) in
    let other = neither_first (same_element f e) _ (neither_second (list_any (same_element f) es) _ others) in
    λ i. (same_either_way f e ∙ other) i || before-apart es e fs (both_second (not (list_any (same_element f) (es ++ e ∷ fs))) _ h) i

-- what is found among the places put in order and lent
pub place-found : (e : Element) (cs : List Child) (sorted vs : List (Bor Elem × ℕ)) (o : Option ℕ) → vs ≡ sorted
    → IsInOrder (places cs) (map lent_place sorted) → o ≡ child_at e (map lent_place vs) → child_at e (places cs) ≡ o
place-found e cs sorted vs o lent h found = sym (h.same e) ∙ sym (ap (λ l. child_at e (map lent_place l)) lent) ∙ sym found

-- ---- the walk over the configuration's children

-- of the configuration's children some are sorted out, into slots beside the live ones or among the new
pub record IsSortingOut (cs ds left : List Child) (slots : List (Option Child)) (new : List Child) : Type 0 where
  -- those sorted out
  pub done : List Child
  -- they and what is left are all
  pub parted : done ++ left ≡ ds
  -- beside each live child stands the one of its element, if it is sorted out
  pub slots_are : slots ≡ map (beside done) cs
  -- the new ones are those whose elements no live child has
  pub new_are : new ≡ filter (is_new cs) done

module _ (cs ds all left : List Child) (slots : List (Option Child)) (new : List Child) (d : Child) (live : are_apart (elements cs) ≡ true)
    (config : are_apart (elements ds) ≡ true) (is : all ≡ d ∷ left) (h : IsSortingOut cs ds all slots new) where
  now : h.done ++ d ∷ left ≡ ds
  now = ap (λ l. h.done ++ l) (sym is) ∙ h.parted

  next : (h.done ++ d ∷ []) ++ left ≡ ds
  next = append_assoc h.done (d ∷ []) left ∙ now

  none : list_any (same_element (element_view d.0)) (elements h.done) ≡ false
  none = before-apart (elements h.done) (element_view d.0) (elements left) (ap are_apart (sym (elements-append h.done (d ∷ left)))
      ∙ ap (λ l. are_apart (elements l)) now ∙ config)

  filtered : (b : Bool) → is_new cs d ≡ b → filter (is_new cs) (h.done ++ d ∷ []) ≡ filter (is_new cs) h.done ++ cond b (d ∷ []) []
  filtered b e = filter-append (is_new cs) h.done (d ∷ []) ∙ ap (λ t. filter (is_new cs) h.done ++ cond t (d ∷ []) []) e

  -- the place of a live child is that of a slot
  pub slot-within : (i : ℕ) → child_at (element_view d.0) (places cs) ≡ Some i → i < length slots
  slot-within i found =
      let short = place-within (element_view d.0) cs i found in
      let long : length slots ≡ length cs = ap length h.slots_are ∙ length-map cs (beside h.done) in
      omega arith

  -- the next child goes into the slot of the live child of its element
  pub sorting-beside : (i : ℕ) (more : List (Option Child)) → child_at (element_view d.0) (places cs) ≡ Some i → more ≡ set slots i (Some d)
      → IsSortingOut cs ds left more new
  sorting-beside i more found put = record {
    done = h.done ++ d ∷ [];
    parted = next;
    slots_are = put ∙ ap (λ l. set l i (Some d)) h.slots_are ∙ beside-more h.done cs d i live none found;
    new_are = h.new_are ∙ sym (filtered false (is_new-absent cs d ∙ sym (new-place (element_view d.0) cs) ∙ ap is_absent found)
        ∙ append-nil (filter (is_new cs) h.done));
  }

  -- the next child goes among the new, where no live child has its element
  pub sorting-new : (more : List Child) → child_at (element_view d.0) (places cs) ≡ None → more ≡ new ++ d ∷ [] → IsSortingOut cs ds left slots more
  sorting-new more none_found put =
      let absent : is_absent (child_at (element_view d.0) cs) ≡ true = sym (new-place (element_view d.0) cs) ∙ ap is_absent none_found in
      record {
        done = h.done ++ d ∷ [];
        parted = next;
        slots_are = h.slots_are ∙ beside-apart h.done cs d (none-among (element_view d.0) cs absent);
        new_are = put ∙ ap (λ l. l ++ d ∷ []) h.new_are ∙ sym (filtered true (is_new-absent cs d ∙ absent));
      }
