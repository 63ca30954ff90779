-- Tries with the same paths need the same room.
use Rattle.std.proofs.Common.{◌≡◌, ◌+◌, List, [], ◌∷◌, ◌++◌, length, map, Bool, true, false, ◌&&◌, cond, Some, refl, sym, ap, subst, ◌∙◌, arith}
use Rattle.std.proofs.lemmas.List.{append_cancel_left}
use Rattle.ssa_model.specs.definitions.FieldsV1.{heads, tails}
use Rattle.ssa_model.specs.definitions.Path.{Element, Path}
use Rattle.ssa_path.specs.Children.{child_at, elements, rises}
use Rattle.ssa_path.specs.Trie.{are_filled_tries, here_path, is_filled, is_trie, paths, paths_after, paths_below}
use Rattle.ssa_path.specs.View.{element_view}
use Rattle.ssa_path.specs.declared.element.Elem.{Elem}
use Rattle.ssa_path.specs.declared.trie.Trie.{Trie}
use Rattle.ssa_path.specs.declared.trie.Trie.TheFolds.{ind-Trie}
use Rattle.ssa_path.specs.declared.trie.Trie.TheOpen.{Trie-F}
use Rattle.ssa_path.specs.declared.trie.Trie.TheViews.{out-Trie, roll-Trie, out-roll-Trie}
use Rattle.ssa_path.proofs.FieldsLevels.{heads-below}
use Rattle.ssa_path.proofs.Levels.{paths-level, trie-parts}
use Rattle.ssa_path.proofs.Orders.{both_first, both_second}
use Rattle.ssa_turn_set.specs.Room.{fresh, freshes, gain_room, gains, holds, lose_room, loses, rooms_of, serves}
use Rattle.ssa_turn_set.specs.Spare.{is_nothing}
use Rattle.ssa_turn_set.specs.declared.room.Room.{Room}
use Rattle.ssa_turn_set.specs.declared.room.Room.TheViews.{out-Room}
use Rattle.ssa_turn_set.specs.declared.spare.Spare.{Spare}
use Rattle.ssa_turn_set.proofs.Rooms.{gain_room-level, lose_room-level}
use Rattle.ssa_turn_set.proofs.Tails.{paths_of, tails-below}
use Rattle.ssa_model.proofs.Tables.{element-itself as same_element-itself}

-- ---- children of the same paths

-- as many children, with the same elements and each with the same paths
abbrev AreTwins : List (Elem × Trie) → List (Elem × Trie) → Type 0
AreTwins [] [] = Unit {0}
AreTwins [] (d ∷ ds) = ⊥
AreTwins (c ∷ cs) [] = ⊥
AreTwins (c ∷ cs) (d ∷ ds) = (element_view c.0 ≡ element_view d.0) × (paths c.1 ≡ paths d.1) × AreTwins cs ds

first_or : Element → List Element → Element
first_or e [] = e
first_or e (f ∷ fs) = f

first-paths : (c : Elem × Trie) (cs : List (Elem × Trie)) → rises (elements (c ∷ cs)) ≡ true → tails (element_view c.0) (paths_below (c ∷ cs)) ≡ paths c.1
first-paths c cs h =
    tails-below (element_view c.0) (c ∷ cs) h
    ∙ ap (λ b. paths_of (cond b (Some c.1) (child_at (element_view c.0) cs))) (same_element-itself (element_view c.0))

are-twins : (cs ds : List (Elem × Trie)) → rises (elements cs) ≡ true → rises (elements ds) ≡ true → are_filled_tries cs ≡ true → are_filled_tries ds ≡ true
    → paths_below cs ≡ paths_below ds → AreTwins cs ds
unfolding first_or
are-twins [] [] rc rd fc fd same = tt
are-twins [] (d ∷ ds) rc rd fc fd same = let e = ap (λ ps. length (heads ps)) same ∙ ap length (heads-below (d ∷ ds) rd fd) in absurd (omega (arith, e))
are-twins (c ∷ cs) [] rc rd fc fd same = let e = ap (λ ps. length (heads ps)) (sym same) ∙ ap length (heads-below (c ∷ cs) rc fc) in absurd (omega (arith, e))
are-twins (c ∷ cs) (d ∷ ds) rc rd fc fd same =
    let named : element_view c.0 ≡ element_view d.0 =
    ap (first_or (element_view c.0)) (sym (heads-below (c ∷ cs) rc fc) ∙ ap heads same ∙ heads-below (d ∷ ds) rd fd) in
    let alike : paths c.1 ≡ paths d.1 =
    sym (first-paths c cs rc) ∙ (λ i. tails (named i) (same i)) ∙ first-paths d ds rd in
    let rest = append_cancel_left (paths_after (element_view d.0) (paths d.1)) (paths_below cs) (paths_below ds)
    ((λ i. paths_after (sym named i) (sym alike i) ++ paths_below cs) ∙ same) in (
      named,
      alike,
      are-twins cs ds (both_second _ _ rc) (both_second _ _ rd) (both_second (is_trie c.1 && is_filled c.1) _ fc)
          (both_second (is_trie d.1 && is_filled d.1) _ fd) rest,
    )

twins-fresh : (cs ds : List (Elem × Trie)) (ps : List Path) → AreTwins cs ds → freshes cs ps ≡ freshes ds ps
twins-fresh [] [] ps h = refl
twins-fresh [] (d ∷ ds) ps h = absurd h
twins-fresh (c ∷ cs) [] ps h = absurd h
twins-fresh (c ∷ cs) (d ∷ ds) ps h = λ i. fresh (tails (h.0 i) ps) + twins-fresh cs ds ps h.2 i

-- ---- what is below a place

-- the paths of at least one element
deeper : List Path → List Path
deeper [] = []
deeper ([] ∷ ps) = deeper ps
deeper ((e ∷ p) ∷ ps) = (e ∷ p) ∷ deeper ps

deeper-after : (e : Element) (ps qs : List Path) → deeper (paths_after e ps ++ qs) ≡ paths_after e ps ++ deeper qs
unfolding deeper
deeper-after e [] qs = refl
deeper-after e (p ∷ ps) qs = ap (λ l. (e ∷ p) ∷ l) (deeper-after e ps qs)

deeper-below : (cs : List (Elem × Trie)) → deeper (paths_below cs) ≡ paths_below cs
unfolding deeper
deeper-below [] = refl
deeper-below (c ∷ cs) =
    deeper-after (element_view c.0) (paths c.1) (paths_below cs) ∙ ap (λ l. paths_after (element_view c.0) (paths c.1) ++ l) (deeper-below cs)

deeper-here : (b : Bool) (cs : List (Elem × Trie)) → deeper (here_path b ++ paths_below cs) ≡ paths_below cs
unfolding deeper
deeper-here true cs = deeper-below cs
deeper-here false cs = deeper-below cs

below-same : (t u : Trie) → paths t ≡ paths u → paths_below (out-Trie t).below.items ≡ paths_below (out-Trie u).below.items
below-same t u same =
    sym (deeper-here (out-Trie t).here (out-Trie t).below.items)
    ∙ ap deeper (sym (paths-level t) ∙ same ∙ paths-level u) ∙ deeper-here (out-Trie u).here (out-Trie u).below.items

-- ---- level by level

-- both need the same room, for either way
pub record NeedSame (t u : Trie) : Type 0 where
  -- both need the same room to be put in
  pub gain : (ps : List Path) (r : Room) → gain_room t ps r ≡ gain_room u ps r
  -- both need the same room to be taken out
  pub lose : (ps : List Path) (r : Room) → lose_room t ps r ≡ lose_room u ps r

-- every trie with the same paths needs the same room
abbrev pub HasTwins : Trie → Type 0
HasTwins t = (u : Trie) → is_trie t ≡ true → is_trie u ≡ true → paths t ≡ paths u → NeedSame t u

-- a trie beside its proof
abbrev Proved : Type 0
Proved = (t : Trie) × HasTwins t

abbrev tries_of : List (Elem × Proved) → List (Elem × Trie)
tries_of ys = map (λ c. (c.0, c.1.0)) ys

-- each two need the same room
abbrev NeedEach : List (Elem × Trie) → List (Elem × Trie) → Type 0
NeedEach [] [] = Unit {0}
NeedEach [] (d ∷ ds) = ⊥
NeedEach (c ∷ cs) [] = ⊥
NeedEach (c ∷ cs) (d ∷ ds) = (element_view c.0 ≡ element_view d.0) × NeedSame c.1 d.1 × NeedEach cs ds

need-each : (ys : List (Elem × Proved)) (ds : List (Elem × Trie)) → AreTwins (tries_of ys) ds → are_filled_tries (tries_of ys) ≡ true
    → are_filled_tries ds ≡ true → NeedEach (tries_of ys) ds
need-each [] [] h f g = tt
need-each [] (d ∷ ds) h f g = absurd h
need-each (y ∷ ys) [] h f g = absurd h
need-each (y ∷ ys) (d ∷ ds) h f g = (
  h.0,
  y.1.1 d.1 (both_first (is_trie y.1.0) _ (both_first _ _ f)) (both_first (is_trie d.1) _ (both_first _ _ g)) h.1,
  need-each ys ds h.2 (both_second (is_trie y.1.0 && is_filled y.1.0) _ f) (both_second (is_trie d.1 && is_filled d.1) _ g),
)

need-gains : (cs ds : List (Elem × Trie)) (ps : List Path) (rs : List (Spare × Room)) → NeedEach cs ds → gains cs ps rs ≡ gains ds ps rs
need-gains [] [] ps rs h = refl
need-gains [] (d ∷ ds) ps rs h = absurd h
need-gains (c ∷ cs) [] ps rs h = absurd h
need-gains (c ∷ cs) (d ∷ ds) ps [] h = refl
need-gains (c ∷ cs) (d ∷ ds) ps (r ∷ rs) h =
    let below = h.1.gain (tails (element_view c.0) ps) r.1 ∙ ap (λ e. gain_room d.1 (tails e ps) r.1) h.0 in
    λ i. (serves (h.0 i) (tails (h.0 i) ps) r.0 && below i) && need-gains cs ds ps rs h.2 i

need-loses : (cs ds : List (Elem × Trie)) (ps : List Path) (rs : List (Spare × Room)) → NeedEach cs ds → loses cs ps rs ≡ loses ds ps rs
need-loses [] [] ps rs h = refl
need-loses [] (d ∷ ds) ps rs h = absurd h
need-loses (c ∷ cs) [] ps rs h = absurd h
need-loses (c ∷ cs) (d ∷ ds) ps [] h = refl
need-loses (c ∷ cs) (d ∷ ds) ps (r ∷ rs) h =
    let below = h.1.lose (tails (element_view c.0) ps) r.1 ∙ ap (λ e. lose_room d.1 (tails e ps) r.1) h.0 in
    λ i. (is_nothing r.0 && below i) && need-loses cs ds ps rs h.2 i

need-same : (t u : Trie) → AreTwins (out-Trie t).below.items (out-Trie u).below.items → NeedEach (out-Trie t).below.items (out-Trie u).below.items
    → NeedSame t u
need-same t u twins each = record {
  gain = λ ps r.
      gain_room-level t ps r
      ∙ (λ i. holds (twins-fresh _ _ ps twins i) (length (heads ps) + twins-fresh _ _ ps twins i) r && need-gains _ _ ps (rooms_of (out-Room r)) each i)
      ∙ sym (gain_room-level u ps r);
  lose = λ ps r.
      lose_room-level t ps r
      ∙ (λ i. holds (twins-fresh _ _ ps twins i) (length (heads ps)) r && need-loses _ _ ps (rooms_of (out-Room r)) each i)
      ∙ sym (lose_room-level u ps r);
}

-- y is x with a proof beside each child
pub twins-need : (t : Trie) → HasTwins t
twins-need = ind-Trie HasTwins (λ x y is u trie trie_u same.
    let t = roll-Trie x in
    let ds = (out-Trie u).below.items in
    let own = trie-parts t _ refl trie in
    let other = trie-parts u _ refl trie_u in
    let twins : AreTwins (out-Trie t).below.items ds = are-twins (out-Trie t).below.items ds own.0 other.0 own.1 other.1 (below-same t u same) in
    let inner =
    subst (λ (z : Trie-F Trie). AreTwins z.below.items ds → are_filled_tries z.below.items ≡ true → are_filled_tries ds ≡ true → NeedEach z.below.items ds)
    (is ∙ sym (out-roll-Trie x))
    (need-each y.below.items ds) in
    need-same t u twins (inner twins own.1 other.1))
