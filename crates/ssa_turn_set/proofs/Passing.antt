-- A set taken out of another in one pass over the place's children, each found behind the one before.
use Rattle.std.proofs.Common.{◌≡◌, ℕ, ◌+◌, ◌-◌, ◌<◌, ◌≤◌, List, [], ◌∷◌, ◌++◌, length, get_or, set, drop, take, Bool, true, false, not, ◌&&◌, ◌||◌, cond, Some, None, refl, sym, ap, ◌∙◌, arith, subst, length-set, true≢false}
use Rattle.std.proofs.lemmas.List.{drop-drop, get_or-drop, take-append-drop, take-set, take_more_set}
use Rattle.std.proofs.lemmas.List.Elements.{filter-append}
use Rattle.std.proofs.lemmas.List.Folds.{list_any-append}
use Rattle.ssa_model.specs.definitions.FieldsV1.{tails}
use Rattle.ssa_model.specs.definitions.Path.{Element, Path, same_element, same_path}
use Rattle.ssa_path.specs.declared.element.Elem.{Elem}
use Rattle.ssa_path.specs.declared.trie.Trie.{Trie}
use Rattle.ssa_path.specs.Children.{child_at, elements, rises, IsChildAt}
use Rattle.ssa_path.specs.View.{element_view}
use Rattle.ssa_path.specs.Trie.{has_any, kept, is_one_of, paths_after, paths_below, paths, is_trie, is_filled, are_filled_tries}
use Rattle.ssa_path.proofs.FieldsMembers.{child-filled}
use Rattle.ssa_path.proofs.Levels.{same_path-reading, any-after, any-below, found}
use Rattle.ssa_path.proofs.Lists.{child-trie, elements-append, filled-without, left-at, parted, parted-set, rises-drop, taken-at}
use Rattle.ssa_path.proofs.Orders.{both_first, both_second}
use Rattle.ssa_path.proofs.Removing.{found-one, set-tries}
use Rattle.ssa_path.proofs.Searching.{apart-before, below-middle}
use Rattle.ssa_turn_set.specs.declared.room.Room.{Room}
use Rattle.ssa_turn_set.specs.declared.spare.Spare.{Spare}
use Rattle.ssa_turn_set.specs.Room.{gain_one, lose_one, loses}
use Rattle.ssa_path.proofs.Kept.{has-any-is, kept-all, kept-goes, kept-stays}
use Rattle.ssa_turn_set.proofs.Keeping.{IsLessened, less-goes, less-stays}
use Rattle.ssa_turn_set.proofs.Losing.{IsLosing, losing-more, losing-none}
use Rattle.ssa_turn_set.proofs.Places.{left-set}
use Rattle.ssa_turn_set.proofs.Reaching.{rises-joined, rises-near}
use Rattle.ssa_model.proofs.Basics.{both-true as both}
use Rattle.ssa_model.proofs.Tables.{element-itself as same_element-itself}
use Rattle.ssa_model.proofs.Fitting.{same_element-true}
use Rattle.ssa_path.proofs.LyingWithin.{some-path as a_path}
use Rattle.std.proofs.lemmas.Bool.{or_parts}

-- Those of `done` are taken out of the children cs, which have become `now`: those before `start` have been passed, and those from there on are as
-- they were. Where `any` is false, none of them is without paths.
pub record IsPassing (cs done left : List (Elem × Trie)) (old filled rooms : List (Spare × Room)) (now : List (Elem × Trie)) (start : ℕ)
    (any : Bool) : Type 0 where
  -- without the children that have no path left, they are taken out as told
  pub losing : IsLosing cs done left old filled rooms (kept now)
  -- those not passed are as they were
  pub same : drop start now ≡ drop start cs
  -- there are as many as there were
  pub long : length now ≡ length cs
  -- what is passed is within the children
  pub within : start ≤ length cs
  -- those that are passed are before those still to be taken out
  pub passed : rises (elements (take start cs) ++ elements left) ≡ true
  -- what is still to be taken out lies within the children
  pub inside : (p : Path) → is_one_of (paths_below left) p ≡ true → is_one_of (paths_below cs) p ≡ true
  -- where none is without paths, each has some
  pub all_filled : any ≡ false → are_filled_tries now ≡ true

-- ---- where the next child is

-- none of those that have been passed is the element's
child_at-behind : (e : Element) (es : List Element) (front back : List (Elem × Trie)) → rises (elements front ++ e ∷ es) ≡ true
    → child_at e (front ++ back) ≡ child_at e back
child_at-behind e es [] back h = refl
child_at-behind e es (c ∷ front) back h =
    let before = below-middle (element_view c.0) e (elements front) es (both_first _ _ h) in
    ap (λ b. cond b (Some c.1) (child_at e (front ++ back))) (apart-before e (element_view c.0) e (same_element-itself e) before)
    ∙ child_at-behind e es front back (both_second _ _ h)

-- one of the paths that are left begins with d
left-one : (d : Elem × Trie) (left : List (Elem × Trie)) (p : Path) → is_one_of (paths d.1) p ≡ true
    → is_one_of (paths_below (d ∷ left)) (element_view d.0 ∷ p) ≡ true
left-one d left p k =
    list_any-append (same_path (element_view d.0 ∷ p)) (paths_after (element_view d.0) (paths d.1)) (paths_below left)
    ∙ ap (λ b. b || is_one_of (paths_below left) (element_view d.0 ∷ p))
    (any-after same_path same_path-reading (element_view d.0) (element_view d.0) (paths d.1) p ∙ both _ _ (same_element-itself (element_view d.0)) k)

left-more : (d : Elem × Trie) (left : List (Elem × Trie)) (p : Path) → is_one_of (paths_below left) p ≡ true → is_one_of (paths_below (d ∷ left)) p ≡ true
left-more d left p k =
    list_any-append (same_path p) (paths_after (element_view d.0) (paths d.1)) (paths_below left)
    ∙ ap (λ b. is_one_of (paths_after (element_view d.0) (paths d.1)) p || b) k ∙ or_true _
  where
    or_true : (b : Bool) → (b || true) ≡ true
    or_true true = refl
    or_true false = refl

not-bare : (a b : Bool) → a ≡ not b → a ≡ false → b ≡ true
not-bare a true h k = refl
not-bare a false h k = absurd (true≢false (sym h ∙ k))

module _ (cs : List (Elem × Trie)) (rise : rises (elements cs) ≡ true) (tries : are_filled_tries cs ≡ true) (done left : List (Elem × Trie))
    (old filled rest : List (Spare × Room)) (now : List (Elem × Trie)) (start : ℕ) (any : Bool)
    (d : Elem × Trie) (h : IsPassing cs done (d ∷ left) old filled rest now start any) where
  -- those not passed stand in order
  pub next-rises : rises (elements (drop start now)) ≡ true
  next-rises =
      ap (λ l. rises (elements l)) h.same
      ∙ rises-drop (elements (take start cs)) (elements (drop start cs))
      (ap rises (sym (elements-append (take start cs) (drop start cs))) ∙ ap (λ l. rises (elements l)) (take-append-drop start cs) ∙ rise)

  -- the next child is found among those not passed
  pub next-present : child_at (element_view d.0) (drop start now) ≡ None → ⊥
  next-present none =
      let e = element_view d.0 in
      let one = a_path (paths d.1) (both_second (is_trie d.1) _ (both_first (is_trie d.1 && is_filled d.1) _ h.losing.left_tries)) in
      let behind : child_at e cs ≡ None =
      ap (child_at e) (sym (take-append-drop start cs)) ∙ child_at-behind e (elements left) (take start cs) (drop start cs) h.passed
      ∙ ap (child_at e) (sym h.same) ∙ none in
      true≢false (sym (h.inside (e ∷ one.0) (left-one d left one.0 one.1)) ∙ any-below same_path same_path-reading e cs one.0 rise
      ∙ ap (λ x. found same_path x one.0) behind)

  -- ---- the child there

  module _ (place : ℕ) (c : Elem × Trie) (behind : start ≤ place) (at : IsChildAt (element_view d.0) now place) (is : c ≡ get_or now place c) where
    in_old : place < length cs
    in_old = let a = at.within in let b = h.long in omega arith

    as_was : c ≡ get_or cs place c
    as_was =
        let there : start + (place - start) ≡ place = omega arith in
        is ∙ ap (λ n. get_or now n c) (sym there) ∙ sym (get_or-drop start now (place - start) c) ∙ ap (λ l. get_or l (place - start) c) h.same
        ∙ get_or-drop start cs (place - start) c ∙ ap (λ n. get_or cs n c) there

    -- the child found there has the next element
    child-tie : same_element (element_view d.0) (element_view c.0) ≡ true
    child-tie = ap (λ (x : Elem × Trie). same_element (element_view d.0) (element_view x.0)) is ∙ at.same c

    -- its set is a trie
    child-is-trie : is_trie c.1 ≡ true
    child-is-trie = child-trie cs place c in_old as_was tries

    -- what is to be taken out lies within it
    child-within : (p : Path) → is_one_of (paths d.1) p ≡ true → is_one_of (paths c.1) p ≡ true
    child-within p k = sym (found-one (element_view d.0) cs place c p rise in_old as_was child-tie) ∙ h.inside (element_view d.0 ∷ p) (left-one d left p k)

    -- what is asked where its paths are to be taken out
    pub passed-child : (rooms : List (Spare × Room)) (r : Spare × Room) → rest ≡ r ∷ rooms
        → (same_element (element_view d.0) (element_view c.0) ≡ true) × (is_trie c.1 ≡ true) × (is_trie d.1 ≡ true)
        × ((p : Path) → is_one_of (paths d.1) p ≡ true → is_one_of (paths c.1) p ≡ true)
        × ((ps : List Path) × (lose_one d ps r ≡ true))
    passed-child rooms r rest_is =
        let one = both_first (is_trie d.1 && is_filled d.1) _ h.losing.left_tries in
        let form : loses (d ∷ left) h.losing.without (r ∷ rooms) ≡ true = ap (loses (d ∷ left) h.losing.without) (sym rest_is) ∙ h.losing.form in
        (child-tie, child-is-trie, both_first _ _ one, child-within, (tails (element_view d.0) h.losing.without, both_first _ _ form))

    -- ---- and after it

    passed-more : rises (elements (take (place + 1) cs) ++ elements left) ≡ true
    passed-more =
        let e = element_view d.0 in
        let named : elements (take (place + 1) cs) ≡ elements (take place cs) ++ e ∷ [] =
        ap elements (taken-at cs place c in_old as_was) ∙ elements-append (take place cs) (c ∷ [])
        ∙ ap (λ f. elements (take place cs) ++ f ∷ []) (sym (same_element-true e (element_view c.0) child-tie)) in
        let behind = rises-drop (elements done) (e ∷ elements left) (ap rises (sym (elements-append done (d ∷ left))) ∙ h.losing.all_rise) in
        ap (λ es. rises (es ++ elements left)) named
        ∙ rises-joined (elements (take place cs)) e (elements left) (ap rises (sym named) ∙ rises-near cs (place + 1) rise) behind

    module _ (rooms : List (Spare × Room)) (r s : Spare × Room) (rest_is : rest ≡ r ∷ rooms) (m : Elem × Trie) (bare : Bool)
        (made : (p : Path) → is_one_of (paths m.1) p ≡ (is_one_of (paths c.1) p && not (is_one_of (paths d.1) p))) (trie : is_trie m.1 ≡ true)
        (told : bare ≡ not (is_filled m.1)) (element : is_filled m.1 ≡ true → m.0 ≡ c.0)
        (room : lose_one d (paths m.1) r ≡ true → gain_one d (paths m.1) s ≡ true) where
      lessened : IsLessened (kept now) (element_view d.0) d.1 m.1 (kept (set now place m))
      lessened =
          let kept_now = ap kept (parted now place c at.within is)
          ∙ kept-stays front back c (has-any-is c child-is-trie ∙ child-filled cs place c in_old as_was tries) in
          let risen = ap (λ l. rises (elements l)) (sym kept_now) ∙ h.losing.risen in
          let tries_now = ap are_filled_tries (sym kept_now) ∙ h.losing.tries in
          subst (λ l. IsLessened l (element_view d.0) d.1 m.1 (kept (set now place m))) (sym kept_now) (told_by (is_filled m.1) refl risen tries_now)
        where
          front : List (Elem × Trie)
          front = take place now

          back : List (Elem × Trie)
          back = drop (place + 1) now

          told_by : (b : Bool) → is_filled m.1 ≡ b → rises (elements (kept front ++ c ∷ kept back)) ≡ true
              → are_filled_tries (kept front ++ c ∷ kept back) ≡ true
              → IsLessened (kept front ++ c ∷ kept back) (element_view d.0) d.1 m.1 (kept (set now place m))
          told_by true some risen tries_now =
              let new : kept (set now place m) ≡ kept front ++ (c.0, m.1) ∷ kept back =
              ap kept (parted-set now place m at.within) ∙ kept-stays front back m (has-any-is m trie ∙ some)
              ∙ ap (λ f. kept front ++ (f, m.1) ∷ kept back) (element some) in
              subst (λ l. IsLessened (kept front ++ c ∷ kept back) (element_view d.0) d.1 m.1 l) (sym new)
              (less-stays (kept front) (kept back) c (element_view d.0) d.1 m.1 risen tries_now child-tie made trie some)
          told_by false none risen tries_now =
              let new : kept (set now place m) ≡ kept front ++ kept back =
              ap kept (parted-set now place m at.within) ∙ kept-goes front back m (has-any-is m trie ∙ none) in
              subst (λ l. IsLessened (kept front ++ c ∷ kept back) (element_view d.0) d.1 m.1 l) (sym new)
              (less-goes (kept front) (kept back) c (element_view d.0) d.1 m.1 risen tries_now child-tie made none)

      -- with the paths taken out of the child found there, it is passed
      pub passing-more : (more : Bool) → more ≡ (any || bare)
          → IsPassing cs (done ++ d ∷ []) left (old ++ r ∷ []) (filled ++ s ∷ []) rooms (set now place m) (place + 1) more
      passing-more more is_more =
          let less = lessened in
          let k = place + 1 - start in
          let there : start + k ≡ place + 1 = omega arith in
          record {
            losing = losing-more cs done left old filled rooms (kept now) (kept (set now place m)) d r s
                (subst (λ l. IsLosing cs done (d ∷ left) old filled l (kept now)) rest_is h.losing)
                less.paths_are less.risen less.tries less.apart less.len
                (λ j. ap (λ l. gain_one d l s) less.tails_are ∙ room (ap (λ l. lose_one d l r) (sym less.tails_are) ∙ j));
            same = left-set now place m ∙ ap (λ n. drop n now) (sym there) ∙ sym (drop-drop k start now) ∙ ap (drop k) h.same ∙ drop-drop k start cs
                ∙ ap (λ n. drop n cs) there;
            long = length-set now place m ∙ h.long;
            within = let lt = in_old in omega arith;
            passed = passed-more;
            inside = λ p j. h.inside p (left-more d left p j);
            all_filled = λ j.
                let both_none = or_parts any bare (sym is_more ∙ j) in
                let some = not-bare bare (is_filled m.1) told both_none.1 in
                ap (λ f. are_filled_tries (set now place (f, m.1))) (element some)
                ∙ set-tries now place c m.1 at.within is trie some (h.all_filled both_none.0);
          }

-- a child that has no path left is taken out where it stands, and all others stay
pub kept-without : (cs : List (Elem × Trie)) (place : ℕ) (c m : Elem × Trie) → place < length cs → c ≡ get_or cs place c → are_filled_tries cs ≡ true
    → has_any m ≡ false → take place (set cs place m) ++ drop (place + 1) (set cs place m) ≡ kept (set cs place m)
kept-without cs place c m lt is tries none =
    let front = take place cs in
    let back = drop (place + 1) cs in
    let others = filled-without front back c (sym (ap are_filled_tries (parted cs place c lt is)) ∙ tries) in
    (λ i. take-set cs place m i ++ left-set cs place m i) ∙ sym (kept-all (front ++ back) others) ∙ filter-append has_any front back
    ∙ sym (ap kept (parted-set cs place m lt) ∙ kept-goes front back m none)

-- ---- in a loop

-- at first nothing is passed
pub passing-none : (cs ds : List (Elem × Trie)) (rooms : List (Spare × Room)) (ps : List Path) → rises (elements cs) ≡ true → are_filled_tries cs ≡ true
    → rises (elements ds) ≡ true → are_filled_tries ds ≡ true
    → ((p : Path) → is_one_of (paths_below ds) p ≡ true → is_one_of (paths_below cs) p ≡ true)
    → loses ds ps rooms ≡ true → IsPassing cs [] ds [] [] rooms cs 0 false
passing-none cs ds rooms ps risen tries left_rise left_tries within form = record {
  losing = subst (λ l. IsLosing cs [] ds [] [] rooms l) (sym (kept-all cs tries)) (losing-none cs ds rooms ps risen tries left_rise left_tries form);
  same = refl;
  long = refl;
  within = omega arith;
  passed = left_rise;
  inside = within;
  all_filled = λ j. tries;
}

-- the next child is the first of those still to be taken out
pub passing-at : (cs ds : List (Elem × Trie)) (old filled rooms : List (Spare × Room)) (now : List (Elem × Trie)) (start : ℕ) (any : Bool) (i : ℕ)
    (d : Elem × Trie)
    → i < length ds → d ≡ get_or ds i d → IsPassing cs (take i ds) (drop i ds) old filled rooms now start any
    → IsPassing cs (take i ds) (d ∷ drop (i + 1) ds) old filled rooms now start any
passing-at cs ds old filled rooms now start any i d lt is h = subst (λ l. IsPassing cs (take i ds) l old filled rooms now start any) (left-at ds i d lt is) h

-- after a step one child and one room more are done
pub passing-next : (cs ds : List (Elem × Trie)) (rs ns : List (Spare × Room)) (now : List (Elem × Trie)) (start : ℕ) (any : Bool) (i : ℕ) (d : Elem × Trie)
    (r s : Spare × Room)
    → i < length ds → d ≡ get_or ds i d → i < length rs → r ≡ get_or rs i r → i < length ns
    → IsPassing cs (take i ds ++ d ∷ []) (drop (i + 1) ds) (take i rs ++ r ∷ []) (take i ns ++ s ∷ []) (drop (i + 1) rs) now start any
    → IsPassing cs (take (i + 1) ds) (drop (i + 1) ds) (take (i + 1) rs) (take (i + 1) (set ns i s)) (drop (i + 1) rs) now start any
passing-next cs ds rs ns now start any i d r s lt is lt2 is2 lt3 h =
    subst (λ l. IsPassing cs l (drop (i + 1) ds) (take (i + 1) rs) (take (i + 1) (set ns i s)) (drop (i + 1) rs) now start any) (sym (taken-at ds i d lt is))
    (subst (λ l. IsPassing cs (take i ds ++ d ∷ []) (drop (i + 1) ds) l (take (i + 1) (set ns i s)) (drop (i + 1) rs) now start any)
    (sym (taken-at rs i r lt2 is2))
    (subst (λ l. IsPassing cs (take i ds ++ d ∷ []) (drop (i + 1) ds) (take i rs ++ r ∷ []) l (drop (i + 1) rs) now start any)
    (sym (take_more_set ns i s lt3)) h))
