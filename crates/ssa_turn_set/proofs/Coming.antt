-- Children that come among those of a place, in one pass.
use Rattle.std.proofs.Common.{◌≡◌, ℕ, suc, ◌+◌, ◌<◌, ◌≤◌, List, [], ◌∷◌, ◌++◌, length, get_or, drop, take, true, false, ◌&&◌, ◌||◌, Ordering, Less, Equal, Greater, true≢false, refl, sym, ap, ◌∙◌, arith, append_assoc, subst}
use Rattle.std.proofs.lemmas.List.{get_or_default, length-append, length-take-le, take-append-drop}
use Rattle.std.specs.Ordering.{is_eq, is_lt, ordering_reverse}
use Rattle.ssa_model.specs.definitions.FieldsV1.{tails}
use Rattle.ssa_model.specs.definitions.Path.{Element, Path, element_cmp, same_element}
use Rattle.ssa_path.specs.declared.element.Elem.{Elem}
use Rattle.ssa_path.specs.declared.trie.Trie.{Trie}
use Rattle.ssa_path.specs.Children.{elements, is_below, rises, IsChildAt, IsGapFor}
use Rattle.ssa_path.specs.View.{element_view}
use Rattle.ssa_path.specs.Trie.{is_one_of, paths_after, paths_below, paths, has_some, is_trie, is_filled, are_filled_tries, IsGathered}
use Rattle.ssa_path.proofs.FieldsMembers.{child-filled}
use Rattle.ssa_path.proofs.Lists.{elements-append, filled-append, filled-without, parted, paths_below-append, rises-drop}
use Rattle.ssa_path.proofs.Orders.{element_cmp_total, both_first, both_second}
use Rattle.ssa_turn_set.specs.declared.room.Room.{Room}
use Rattle.ssa_turn_set.specs.declared.spare.Spare.{Spare}
use Rattle.ssa_turn_set.specs.Room.{fresh, gain_room, lose_room}
use Rattle.ssa_turn_set.specs.Spare.{is_nothing}
use Rattle.ssa_turn_set.specs.Weaving.{starts_before, starts_with, IsOpened, IsOpenedAt}
use Rattle.ssa_turn_set.proofs.Gaining.{IsGaining, gaining-fits, gaining-more, gathered-child}
use Rattle.ssa_turn_set.proofs.Keeping.{at-middle}
use Rattle.ssa_turn_set.proofs.Places.{filled-more, found-paths, fresh-filled, gap-paths}
use Rattle.ssa_turn_set.proofs.Tails.{tails-apart}
use Rattle.ssa_turn_set.proofs.Reaching.{is_below-before, rises-front, rises-joined}
use Rattle.ssa_model.proofs.Fitting.{same_element-true}
use Rattle.ssa_model.proofs.Tables.{element-itself as same_element-itself}
use Rattle.ssa_model.proofs.Basics.{both-true as both}

-- ---- those that are passed

-- one more is passed, which is before the element
pub pass-more : (e : Element) (front : List (Elem × Trie)) (c : Elem × Trie) (behind : List (Elem × Trie)) → rises (elements (front ++ c ∷ behind)) ≡ true
    → is_lt (element_cmp (element_view c.0) e) ≡ true → rises (elements (front ++ c ∷ []) ++ e ∷ []) ≡ true
pass-more e front c behind h before =
    let named = elements-append front (c ∷ behind) ∙ sym (append_assoc (elements front) (element_view c.0 ∷ []) (elements behind)) in
    ap (λ es. rises (es ++ e ∷ [])) (elements-append front (c ∷ []))
    ∙ rises-joined (elements front) (element_view c.0) (e ∷ [])
    (rises-front (elements front ++ element_view c.0 ∷ []) (elements behind) (ap rises (sym named) ∙ h))
    (both _ _ (both _ _ before refl) refl)

-- a child that is passed moves from those that are left to those that are passed
pub passed-items : {A : Type 0} (old passed new : List A) (c : A) (left behind : List A) → new ≡ passed ++ c ∷ [] → left ≡ c ∷ behind → passed ++ left ≡ old
    → new ++ behind ≡ old
passed-items old passed new c left behind is next h = ap (λ l. l ++ behind) is ∙ append_assoc passed (c ∷ []) behind ∙ ap (λ l. passed ++ l) (sym next) ∙ h

-- ---- the child of the element

other-way : (o : Ordering) → is_lt o ≡ false → is_eq (ordering_reverse o) ≡ false → is_lt (ordering_reverse o) ≡ true
other-way Less a b = absurd (true≢false a)
other-way Equal a b = absurd (true≢false b)
other-way Greater a b = refl

-- children of which the first is behind the element
behind-all : (e : Element) (cs : List (Elem × Trie)) → starts_before e cs ≡ false → starts_with e cs ≡ false → rises (elements cs) ≡ true
    → is_below e (elements cs) ≡ true
behind-all e [] a b h = refl
behind-all e (c ∷ cs) a b h =
    let turned = element_cmp_total.antisymm e (element_view c.0) in
    let before : is_lt (element_cmp e (element_view c.0)) ≡ true =
    ap is_lt turned ∙ other-way (element_cmp (element_view c.0) e) a (ap is_eq (sym turned) ∙ b) in
    both _ _ before (is_below-before e (element_view c.0) (elements cs) before (both_first _ _ h))

front-parts : {A : Type 0} (front back : List A) → (take (length front) (front ++ back) ≡ front) × (drop (length front) (front ++ back) ≡ back)
front-parts [] back = (refl, refl)
front-parts (x ∷ front) back = let rest = front-parts front back in (ap (λ l. x ∷ l) rest.0, rest.1)

-- between those that are passed and those that are neither before the element nor its own, the element rises
pub between-all : (e : Element) (front behind : List (Elem × Trie)) → rises (elements (front ++ behind)) ≡ true → rises (elements front ++ e ∷ []) ≡ true
    → starts_before e behind ≡ false → starts_with e behind ≡ false → rises (elements front ++ e ∷ elements behind) ≡ true
between-all e front behind rise passed not_before not_same =
    let behind_rise = rises-drop (elements front) (elements behind) (ap rises (sym (elements-append front behind)) ∙ rise) in
    ap rises (sym (append_assoc (elements front) (e ∷ []) (elements behind)))
    ∙ rises-joined (elements front) e (elements behind) passed (both _ _ (behind-all e behind not_before not_same behind_rise) behind_rise)

-- where an element rises between children, they have no path below it
pub between-tails : (e : Element) (old front behind : List (Elem × Trie)) → front ++ behind ≡ old → rises (elements old) ≡ true
    → rises (elements front ++ e ∷ elements behind) ≡ true → tails e (paths_below old) ≡ []
between-tails e old front behind is rise between =
    let parts = front-parts front behind in
    subst (λ l. tails e (paths_below l) ≡ []) is
    (gap-paths e (front ++ behind) (length front) (ap (λ l. rises (elements l)) is ∙ rise)
    ((λ i. rises (elements (parts.0 i) ++ e ∷ elements (parts.1 i))) ∙ between))

module _ (e : Element) (old front : List (Elem × Trie)) (c : Elem × Trie) (behind : List (Elem × Trie)) where
  -- what the old children have below the element is what the child has
  pub opened-tails : IsOpened e old front c behind → tails e (paths_below old) ≡ paths c.1
  opened-tails h =
      let lt : length front < length (front ++ c ∷ behind) = simp length-append (omega arith) in
      let tie : same_element e (element_view c.0) ≡ true = ap (same_element e) h.element ∙ same_element-itself e in
      ap (tails e) (sym h.paths_same)
      ∙ found-paths e (front ++ c ∷ behind) (length front) c h.risen lt (at-middle front behind c c)
      (ap (λ (x : Elem × Trie). same_element e (element_view x.0)) (sym (at-middle front behind c c)) ∙ tie)

  -- a child that stands among the old ones is a set with some path
  pub middle-filled : front ++ c ∷ behind ≡ old → are_filled_tries old ≡ true → (is_trie c.1 && is_filled c.1) ≡ true
  middle-filled is tries = both_first _ _ (both_second (are_filled_tries front) _ (sym (filled-append front (c ∷ behind)) ∙ ap are_filled_tries is ∙ tries))

  -- it is one of them
  pub opened-found : front ++ c ∷ behind ≡ old → rises (elements old) ≡ true → are_filled_tries old ≡ true → starts_with e (c ∷ behind) ≡ true
      → IsOpened e old front c behind
  opened-found is rise tries same =
      let filled = ap are_filled_tries is ∙ tries in
      let own = middle-filled is tries in
      let none = fresh-filled (paths c.1) (both_second (is_trie c.1) _ own) in
      let long = ap length is in
      record {
        element = sym (same_element-true e (element_view c.0) same);
        trie = both_first _ _ own;
        paths_same = ap paths_below is;
        risen = ap (λ l. rises (elements l)) is ∙ rise;
        others = filled-without front behind c filled;
        len = omega arith;
      }

  -- a child without a path comes among them where its element rises between them
  pub opened-between : front ++ behind ≡ old → are_filled_tries old ≡ true → rises (elements front ++ e ∷ elements behind) ≡ true
      → element_view c.0 ≡ e → is_trie c.1 ≡ true → paths c.1 ≡ [] → IsOpened e old front c behind
  opened-between is tries between element trie none =
      let one = ap fresh none in
      let long = ap length is in
      let a = length-append front (c ∷ behind) in
      let b = length-append front behind in
      record {
        element = element;
        trie = trie;
        paths_same =
            paths_below-append front (c ∷ behind) ∙ ap (λ ps. paths_below front ++ (paths_after (element_view c.0) ps ++ paths_below behind)) none
            ∙ sym (paths_below-append front behind) ∙ ap paths_below is;
        risen = ap rises (elements-append front (c ∷ behind)) ∙ ap (λ f. rises (elements front ++ f ∷ elements behind)) element ∙ between;
        others = ap are_filled_tries is ∙ tries;
        len = omega arith;
      }

  -- it comes behind those that are passed and before the others
  pub opened-new : front ++ behind ≡ old → rises (elements old) ≡ true → are_filled_tries old ≡ true → rises (elements front ++ e ∷ []) ≡ true
      → starts_before e behind ≡ false → starts_with e behind ≡ false → element_view c.0 ≡ e → is_trie c.1 ≡ true → paths c.1 ≡ []
      → IsOpened e old front c behind
  opened-new is rise tries passed not_before not_same element trie none =
      opened-between is tries (between-all e front behind (ap (λ l. rises (elements l)) is ∙ rise) passed not_before not_same) element trie none

  -- ---- and with more paths below it

  module _ (h : IsOpened e old front c behind) (t m : Trie) (made : (p : Path) → is_one_of (paths m) p ≡ (is_one_of (paths t) p || is_one_of (paths c.1) p))
      (trie : is_trie m ≡ true) (some : has_some (paths t) ≡ true) where
    opened-gathered : IsGathered old e t (front ++ (c.0, m) ∷ behind)
    opened-gathered =
        let tie = ap (same_element e) h.element ∙ same_element-itself e in
        let filled = filled-more (paths t) (paths m) (λ p k. made p ∙ ap (λ b. b || is_one_of (paths c.1) p) k) some in
        let g = gathered-child (front ++ c ∷ behind) (front ++ (c.0, m) ∷ behind) front behind e t c.0 c.1 m refl refl tie made trie filled h.risen h.others in
        record {
          paths_are = λ p. g.paths_are p ∙ ap (λ ps. is_one_of (paths_after e (paths t)) p || is_one_of ps p) h.paths_same;
          risen = g.risen;
          tries = g.tries;
        }

    opened-apart : (f : Element) → same_element f e ≡ false → tails f (paths_below (front ++ (c.0, m) ∷ behind)) ≡ tails f (paths_below old)
    opened-apart f apart =
        let away = ap (same_element f) h.element ∙ apart in
        tails-apart f front behind c.0 m away ∙ sym (tails-apart f front behind c.0 c.1 away) ∙ ap (tails f) h.paths_same

    opened-len : length (front ++ (c.0, m) ∷ behind) ≡ length old + fresh (tails e (paths_below old))
    opened-len =
        let left = ap fresh (opened-tails h) in
        let long = h.len in
        let a = length-append front (c ∷ behind) in
        let b = length-append front ((c.0, m) ∷ behind) in
        omega arith

-- ---- at a place

middle-parts : {A : Type 0} (front back : List A) (x c : A) → c ≡ get_or (front ++ x ∷ back) (length front) c
    → (c ≡ x) × (take (length front) (front ++ x ∷ back) ≡ front) × (drop (length front + 1) (front ++ x ∷ back) ≡ back)
middle-parts [] back x c is = (is, refl, refl)
middle-parts (y ∷ front) back x c is =
    let rest = middle-parts front back x c is in
    let next : length (y ∷ front) + 1 ≡ suc (length front + 1) = omega arith in
    (rest.0, ap (λ l. y ∷ l) rest.1, ap (λ k. drop k (y ∷ front ++ x ∷ back)) next ∙ rest.2)

-- where a child of the element stands, the children have some path below it
pub child-some : (e : Element) (cs : List (Elem × Trie)) (place : ℕ) → IsChildAt e cs place → rises (elements cs) ≡ true → are_filled_tries cs ≡ true
    → has_some (tails e (paths_below cs)) ≡ true
child-some e [] place at rise tries = let lt = at.within in absurd (omega arith)
child-some e (x ∷ cs) place at rise tries =
    let c = get_or (x ∷ cs) place x in
    let is : c ≡ get_or (x ∷ cs) place c = get_or_default (x ∷ cs) place x c at.within in
    ap has_some (found-paths e (x ∷ cs) place c rise at.within is (at.same c)) ∙ child-filled (x ∷ cs) place c at.within is tries

-- a child without a path that is put into its gap is opened there
pub opened-in-gap : (e : Element) (cs new : List (Elem × Trie)) (place : ℕ) (x : Elem × Trie) → new ≡ take place cs ++ x ∷ drop place cs → IsGapFor e cs place
    → are_filled_tries cs ≡ true → element_view x.0 ≡ e → is_trie x.1 ≡ true → paths x.1 ≡ [] → IsOpenedAt e cs new place
opened-in-gap e cs new place x is gap tries element trie none =
    let front = take place cs in
    let back = drop place cs in
    let at : length front ≡ place = length-take-le place cs gap.within in
    let long = ap length is in
    let joined = length-append front (x ∷ back) in
    record {
      within = omega arith;
      opened = λ c j.
          let parts = middle-parts front back x c
          (subst (λ n. c ≡ get_or (front ++ x ∷ back) n c) (sym at) (subst (λ l. c ≡ get_or l place c) is j)) in
          subst (λ l. IsOpened e cs (take place l) c (drop (place + 1) l)) (sym is)
          (subst (λ n. IsOpened e cs (take n (front ++ x ∷ back)) c (drop (n + 1) (front ++ x ∷ back))) at
          (subst (λ l. IsOpened e cs l c (drop (length front + 1) (front ++ x ∷ back))) (sym parts.1)
          (subst (λ l. IsOpened e cs front c l) (sym parts.2)
          (subst (λ y. IsOpened e cs front y back) (sym parts.0)
          (opened-between e cs front x back (take-append-drop place cs) tries gap.between element trie none)))));
    }

-- ---- in the loop

-- the next child's element is behind all that are passed
pub passed-next : (front : List (Elem × Trie)) (d : Elem × Trie) (left : List (Elem × Trie)) → rises (elements front ++ elements (d ∷ left)) ≡ true
    → rises (elements front ++ element_view d.0 ∷ []) ≡ true
passed-next front d left h =
    rises-front (elements front ++ element_view d.0 ∷ []) (elements left) (ap rises (append_assoc (elements front) (element_view d.0 ∷ []) (elements left)) ∙ h)

-- the child at a place is one of the children
pub opened-at : (e : Element) (cs : List (Elem × Trie)) (place : ℕ) (c : Elem × Trie) → IsChildAt e cs place → c ≡ get_or cs place c
    → rises (elements cs) ≡ true
    → are_filled_tries cs ≡ true → IsOpened e cs (take place cs) c (drop (place + 1) cs)
opened-at e cs place c at is rise tries =
    opened-found e cs (take place cs) c (drop (place + 1) cs) (sym (parted cs place c at.within is)) rise tries
    (ap (λ (x : Elem × Trie). same_element e (element_view x.0)) is ∙ at.same c)

module _ (cs done left : List (Elem × Trie)) (filled rooms : List (Spare × Room)) (now : List (Elem × Trie)) (capacity : ℕ) (d : Elem × Trie) (r : Spare × Room)
    (h : IsGaining cs done (d ∷ left) filled (r ∷ rooms) now capacity) where
  module _ (front : List (Elem × Trie)) (c : Elem × Trie) (behind : List (Elem × Trie)) (o : IsOpened (element_view d.0) now front c behind) where
    -- the room of the next child is enough to put it into the child that was opened
    pub opened-room : gain_room d.1 (paths c.1) r.1 ≡ true
    opened-room =
        ap (λ l. gain_room d.1 l r.1) (sym (opened-tails (element_view d.0) now front c behind o))
        ∙ both_second _ _ (gaining-fits cs done left filled rooms now capacity d r h).1

    -- the children, with the one that was opened, are no more than the place's capacity
    pub opened-fits : length (front ++ c ∷ behind) ≤ capacity
    opened-fits =
        let fits = (gaining-fits cs done left filled rooms now capacity d r h).0 in
        let long = o.len in
        let own = ap fresh (opened-tails (element_view d.0) now front c behind o) in
        omega arith

    -- the opened child, whatever it has by now, is passed, before those that are left
    pub passed-one : (x : Elem × Trie) → element_view x.0 ≡ element_view c.0 → rises (elements (front ++ x ∷ []) ++ elements left) ≡ true
    passed-one x same =
        let named : elements (front ++ x ∷ []) ≡ elements front ++ element_view d.0 ∷ [] =
        elements-append front (x ∷ []) ∙ ap (λ f. elements front ++ f ∷ []) (same ∙ o.element) in
        let before = ap rises (append_assoc (elements front) (element_view c.0 ∷ []) (elements behind) ∙ sym (elements-append front (c ∷ behind))) ∙ o.risen in
        let own = ap (λ f. rises (elements front ++ f ∷ [])) (sym o.element) ∙ rises-front (elements front ++ element_view c.0 ∷ []) (elements behind) before in
        ap (λ es. rises (es ++ elements left)) named ∙ rises-joined (elements front) (element_view d.0) (elements left) own h.left_rise

    -- with the paths put into the opened child, one child more is put in
    pub opened-more : (m : Trie) (s : Spare × Room) (longer : ℕ) → ((p : Path) → is_one_of (paths m) p ≡ (is_one_of (paths d.1) p || is_one_of (paths c.1) p))
        → is_trie m ≡ true → is_nothing s.0 ≡ true → lose_room d.1 (paths c.1) s.1 ≡ true → capacity ≤ longer
        → IsGaining cs (done ++ d ∷ []) left (filled ++ s ∷ []) rooms (front ++ (c.0, m) ∷ behind) longer
    opened-more m s longer made trie nothing room wider =
        let some = both_second (is_trie d.1) _ (both_first _ _ h.left_tries) in
        gaining-more cs done left filled rooms now (front ++ (c.0, m) ∷ behind) capacity longer d r s h
        (opened-gathered (element_view d.0) now front c behind o d.1 m made trie some)
        (opened-apart (element_view d.0) now front c behind o d.1 m made trie some)
        (opened-len (element_view d.0) now front c behind o d.1 m made trie some)
        wider
        (both _ _ nothing (ap (λ l. lose_room d.1 l s.1) (opened-tails (element_view d.0) now front c behind o) ∙ room))
