-- A set of one child, of which nothing comes or goes but below it, put into another or taken out of it.
use Rattle.std.proofs.Common.{◌≡◌, ℕ, suc, ◌+◌, ◌<◌, List, [], ◌∷◌, ◌++◌, length, get_or, set, drop, take, true, false, not, ◌&&◌, ◌||◌, cond, None, refl, sym, ap, ◌∙◌, arith, subst, true≢false, length-drop, length-set, Vec}
use Rattle.std.specs.declared.alloc.Global.{Global}
use Rattle.std.proofs.lemmas.List.{length-append, length-take-le}
use Rattle.ssa_model.specs.definitions.FieldsV1.{tails}
use Rattle.ssa_model.specs.definitions.Path.{Path}
use Rattle.ssa_model.proofs.Basics.{both-true as both}
use Rattle.ssa_model.proofs.Tables.{element-itself as same_element-itself}
use Rattle.ssa_path.specs.declared.element.Elem.{Elem}
use Rattle.ssa_path.specs.declared.trie.Trie.{Trie}
use Rattle.ssa_path.specs.declared.trie.Trie.TheOpen.{Trie-F}
use Rattle.ssa_path.specs.declared.trie.Trie.TheViews.{out-Trie, roll-Trie, out-roll-Trie}
use Rattle.ssa_path.specs.Children.{child_at, IsChildAt}
use Rattle.ssa_path.specs.View.{element_view}
use Rattle.ssa_path.specs.Trie.{is_filled, is_one_of, is_trie, paths, paths_below}
use Rattle.ssa_path.proofs.Levels.{trie-parts}
use Rattle.ssa_path.proofs.Orders.{both_first, both_second}
use Rattle.ssa_turn_set.specs.declared.room.Room.{Room}
use Rattle.ssa_turn_set.specs.declared.room.Room.TheVariants.{Lone}
use Rattle.ssa_turn_set.specs.declared.room.Room.TheViews.{out-Room}
use Rattle.ssa_turn_set.specs.declared.spare.Spare.{Spare}
use Rattle.ssa_turn_set.specs.declared.spare.Spare.TheVariants.{Kept, Nothing}
use Rattle.ssa_turn_set.specs.Room.{children, freshes, gain_one, gain_room, gains, has_place, lose_room, loses, own_children, rooms_of, serves}
use Rattle.ssa_turn_set.specs.Siblings.{AreTaken}
use Rattle.ssa_turn_set.specs.Spare.{fits}
use Rattle.ssa_turn_set.specs.Weaving.{AreGathered, IsOpened}
use Rattle.ssa_turn_set.proofs.Coming.{opened-at, opened-tails}
use Rattle.ssa_turn_set.proofs.Lone.{lone-child, lone-goes, lone-present, lone-stays}
use Rattle.ssa_turn_set.proofs.LoneComing.{lone-back, lone-fits, lone-gathered}
use Rattle.ssa_turn_set.proofs.Losing.{gain-form, lost-room, start-form, start-within}
use Rattle.ssa_turn_set.proofs.Places.{gain-below, lose-below, lose-held, none-comes, none-goes}
use Rattle.ssa_turn_set.proofs.Rooms.{gains-some, lone-at, lone-out, loses-some}
use Rattle.ssa_turn_set.proofs.Tails.{paths_of, tails-below}

-- the room of the child
abbrev inner : ℕ → ℕ → Vec (Elem × Trie) Global → Spare → Spare × Room
inner n near v s = (Nothing, Lone n near v s)

-- ---- put in

module _ (g t : Trie) (n a near : ℕ) (deep : suc n ≡ a) (v : Vec (Elem × Trie) Global) (s : Spare) (gained : is_trie g ≡ true) (trie : is_trie t ≡ true)
    (room : gain_room g (paths t) (Lone a near v s) ≡ true) where
  enough : gains (children g) (paths_below (children t)) (inner n near v s ∷ []) ≡ true
  enough = ap (λ x. gains (children g) (paths_below (children t)) (rooms_of x)) (sym (lone-at a (suc n) near v s (sym deep))) ∙ gain-below g t _ room

  -- there is one child
  pub gain-one : length (children g) ≡ 1
  gain-one = gains-some (children g) (paths_below (children t)) (inner n near v s ∷ []) enough

  stays : 0 < freshes (children g) (paths_below (children t)) → ⊥
  stays = none-comes g t _ trie room (ap has_place (lone-at a (suc n) near v s (sym deep)))

  module _ (d : Elem × Trie) (is : d ≡ get_or (children g) 0 d) where
    abbrev wide : ℕ
    wide = length (children t) + freshes (children g) (paths_below (children t))

    fits-it : gain_one d (tails (element_view d.0) (paths_below (children t))) (inner n near v s) ≡ true
    fits-it =
        let own = trie-parts t _ refl trie in
        let other = trie-parts g _ refl gained in
        lone-fits (children t) (children g) (inner n near v s) wide own.0 own.1 other.0 other.1 (omega arith) enough d is

    -- it stands among those of the place
    pub gain-present : child_at (element_view d.0) (children t) ≡ None → ⊥
    gain-present none =
        let e = element_view d.0 in
        let bare = tails-below e (children t) (trie-parts t _ refl trie).0 ∙ ap paths_of none in
        true≢false (sym (both_first _ _ fits-it) ∙ ap (λ l. serves e l Nothing) bare)

    module _ (place : ℕ) (c : Elem × Trie) (at : IsChildAt (element_view d.0) (children t) place) (here : c ≡ get_or (children t) place c) where
      opened : IsOpened (element_view d.0) (children t) (take place (children t)) c (drop (place + 1) (children t))
      opened = let own = trie-parts t _ refl trie in opened-at (element_view d.0) (children t) place c at here own.0 own.1

      -- the room below it is enough for it
      pub gain-inner : gain_room d.1 (paths c.1) (Lone n near v s) ≡ true
      gain-inner =
          sym (ap (λ l. gain_room d.1 l (Lone n near v s)) (opened-tails (element_view d.0) (children t) _ c _ opened))
          ∙ both_second (serves (element_view d.0) (tails (element_view d.0) (paths_below (children t))) Nothing) _ fits-it

      module _ (m : Trie) (after : ℕ) (w : Vec (Elem × Trie) Global) (left : Spare)
          (made : (p : Path) → is_one_of (paths m) p ≡ (is_one_of (paths d.1) p || is_one_of (paths c.1) p)) (whole : is_trie m ≡ true)
          (back : lose_room d.1 (paths c.1) (Lone n after w left) ≡ true) where
        -- the children have the gained paths as well
        pub gain-gathered : AreGathered (children g) (children t) (set (children t) place (c.0, m))
        gain-gathered =
            let own = trie-parts t _ refl trie in
            let other = trie-parts g _ refl gained in
            lone-gathered (children t) (children g) (inner n near v s) wide own.0 own.1 other.0 other.1 (omega arith) enough d is
            (children t) place wide c opened at.within m (inner n after w left) made whole refl back (omega arith)

        -- and the room that is left is enough to take them out again
        pub gain-back : lose_room g (paths t) (Lone a after w left) ≡ true
        gain-back =
            let own = trie-parts t _ refl trie in
            let other = trie-parts g _ refl gained in
            lose-held g t _ _ (lone-at a (suc n) after w left (sym deep)) trie
            (ap own_children (sym (lone-out n after w left)) ∙ (start-form d.1 (paths c.1) (Lone n after w left) back).0)
            (λ lt. absurd (stays lt)) (λ lt. absurd (stays lt))
            (lone-back (children t) (children g) (inner n near v s) wide own.0 own.1 other.0 other.1 (omega arith) enough d is
            (children t) place wide c opened at.within m (inner n after w left) made whole refl back (omega arith))

-- ---- taken out

module _ (l t : Trie) (n a near : ℕ) (deep : suc n ≡ a) (v : Vec (Elem × Trie) Global) (s : Spare) (lost : is_trie l ≡ true) (trie : is_trie t ≡ true)
    (within : (p : Path) → is_one_of (paths l) p ≡ true → is_one_of (paths t) p ≡ true) (ps : List Path)
    (form : lose_room l ps (Lone a near v s) ≡ true) where
  each : loses (children l) ps (inner n near v s ∷ []) ≡ true
  each = ap (λ x. loses (children l) ps (rooms_of x)) (sym (lone-at a (suc n) near v s (sym deep))) ∙ (start-form l ps _ form).1

  -- there is one child
  pub lose-one : length (children l) ≡ 1
  lose-one = loses-some (children l) ps (inner n near v s ∷ []) each

  module _ (d : Elem × Trie) (is : d ≡ get_or (children l) 0 d) where
    -- it stands among those of the place
    pub lose-present : child_at (element_view d.0) (children t) ≡ None → ⊥
    lose-present =
        let own = trie-parts t _ refl trie in
        let other = trie-parts l _ refl lost in
        lone-present (children t) (children l) (inner n near v s ∷ []) ps lose-one own.0 own.1 other.0 other.1 (start-within l t within) each d is

    module _ (place : ℕ) (c : Elem × Trie) (at : IsChildAt (element_view d.0) (children t) place) (here : c ≡ get_or (children t) place c) where
      -- what is asked where its paths are to be taken out
      pub lose-inner : (is_trie c.1 ≡ true) × (is_trie d.1 ≡ true) × ((p : Path) → is_one_of (paths d.1) p ≡ true → is_one_of (paths c.1) p ≡ true)
          × ((qs : List Path) × (lose_room d.1 qs (Lone n near v s) ≡ true))
      lose-inner =
          let own = trie-parts t _ refl trie in
          let other = trie-parts l _ refl lost in
          let asked = lone-child (children t) (children l) (inner n near v s ∷ []) ps lose-one own.0 own.1 other.0 other.1 (start-within l t within) each d is
          place c at here (inner n near v s) refl in
          (asked.1, asked.2, asked.3, asked.4)

      module _ (m : Trie) (w : Vec (Elem × Trie) Global) (left : Spare)
          (made : (p : Path) → is_one_of (paths m) p ≡ (is_one_of (paths c.1) p && not (is_one_of (paths d.1) p))) (whole : is_trie m ≡ true)
          (back : lose_room d.1 (paths m) (Lone n near v s) ≡ true → gain_room d.1 (paths m) (Lone n near w left) ≡ true) where
        -- a child that has some path left stays among the others
        pub lose-stays : is_filled m ≡ true
            → AreTaken (children l) (children t) (inner n near v s ∷ []) (set (children t) place (c.0, m)) (inner n near w left ∷ [])
        lose-stays some =
            let own = trie-parts t _ refl trie in
            let other = trie-parts l _ refl lost in
            lone-stays (children t) (children l) (inner n near v s ∷ []) ps lose-one own.0 own.1 other.0 other.1 (start-within l t within) each d is
            place c at here (inner n near v s) refl (inner n near w left) (c.0, m) false made whole (sym (ap not some)) (λ k. refl)
            (λ k. both _ _ (ap (λ b. cond b true (fits (element_view d.0) Nothing)) some) (back k)) refl

        -- one that has none goes
        pub lose-goes : is_filled m ≡ false
            → AreTaken (children l) (children t) (inner n near v s ∷ [])
            (take place (set (children t) place (c.0, m)) ++ drop (place + 1) (set (children t) place (c.0, m))) ((Kept d.0, Lone n near w left) ∷ [])
        lose-goes none =
            let own = trie-parts t _ refl trie in
            let other = trie-parts l _ refl lost in
            lone-goes (children t) (children l) (inner n near v s ∷ []) ps lose-one own.0 own.1 other.0 other.1 (start-within l t within) each d is
            place c at here (inner n near v s) refl (Kept d.0, Lone n near w left) (c.0, m) true made whole (sym (ap not none)) (λ k. refl)
            (λ k. both _ _ (ap (λ b. cond b false (fits (element_view d.0) (Kept d.0))) none ∙ same_element-itself (element_view d.0)) (back k)) none

-- without one of them there are fewer
pub fewer : {A : Type 0} (xs : List A) (i : ℕ) (x : A) → i < length xs → length (take i (set xs i x) ++ drop (i + 1) (set xs i x)) < length xs
fewer xs i x lt =
    let all = length-set xs i x in
    let both = length-append (take i (set xs i x)) (drop (i + 1) (set xs i x)) in
    let first = length-take-le i (set xs i x) (omega arith) in
    let rest = length-drop (i + 1) (set xs i x) in
    omega arith

-- of room to put children in, the vector of the first's own place is empty
first-empty : (ds : List (Elem × Trie)) (ps : List Path) (s : Spare) (r : Room) → gains ds ps ((s, r) ∷ []) ≡ true → own_children (out-Room r) ≡ []
first-empty [] ps s r h = absurd (true≢false (sym h))
first-empty (d ∷ ds) ps s r h = gain-form d.1 _ r (both_second (serves (element_view d.0) (tails (element_view d.0) ps) s) _ (both_first _ _ h))

module _ (l : Trie) (x : Trie-F Trie) (n a near : ℕ) (deep : suc n ≡ a) (v w : Vec (Elem × Trie) Global) (s left : Spare) (trie : is_trie (roll-Trie x) ≡ true) where
  -- where the child stays, room for what goes below it is room for the way back
  pub lose-back : (cs : List (Elem × Trie)) → AreTaken (children l) cs (inner n near v s ∷ []) x.below.items (inner n near w left ∷ [])
      → lose_room l (paths (roll-Trie x)) (Lone a near v s) ≡ true → gain_room l (paths (roll-Trie x)) (Lone a near w left) ≡ true
  lose-back cs taken k =
      let old = lone-at a (suc n) near v s (sym deep) in
      let below : loses (children l) (paths_below x.below.items) (inner n near v s ∷ []) ≡ true =
      subst (λ z. loses (children l) (paths_below z.below.items) (inner n near v s ∷ []) ≡ true) (out-roll-Trie x)
      (ap (λ y. loses (children l) (paths_below (out-Trie (roll-Trie x)).below.items) (rooms_of y)) (sym old) ∙ lose-below l (roll-Trie x) _ k) in
      lost-room l x (Lone a near v s) (Lone a near w left) _ (lone-at a (suc n) near w left (sym deep)) trie
      (ap own_children (sym (lone-out n near w left)) ∙ first-empty (children l) _ Nothing (Lone n near w left) (taken.room below))
      (λ place. absurd (true≢false (sym place ∙ ap has_place old)))
      (λ h. taken.room (ap (λ y. loses (children l) (paths_below x.below.items) (rooms_of y)) (sym old) ∙ h)) k

  -- where it goes, the room was not enough
  pub lose-short : (cs new : List (Elem × Trie)) (rs ts : List (Spare × Room)) → x.below.items ≡ new → AreTaken (children l) cs rs new ts
      → length new < length cs → lose_room l (paths (roll-Trie x)) (Lone a near v s) ≡ true → ⊥
  lose-short cs new rs ts is taken less k =
      let counted = taken.len in
      let some : 0 < freshes (children l) (paths_below new) = omega arith in
      none-goes l (roll-Trie x) _ trie k (ap has_place (lone-at a (suc n) near v s (sym deep)))
      (subst (λ z. 0 < freshes (children l) (paths_below z.below.items)) (sym (out-roll-Trie x))
      (subst (λ m. 0 < freshes (children l) (paths_below m)) (sym is) some))
