-- The walk over two trees that tells how they differ.
use Rattle.std.proofs.Common.{◌≡◌, ℕ, ◌+◌, ◌-◌, ◌^◌, min, inl, inr, List, [], ◌∷◌, length, drop, Bool, true, false, not, ◌&&◌, Option, Some, None, Less, Equal, Greater, Vec, Global, refl, sym, ap, subst, ◌∙◌, true≢false, arith}
use Rattle.std.specs.Prelude.{is_some, slice_get}
use Rattle.ssa_model.specs.definitions.Path.{Element, Path, same_path}
use Rattle.ssa_model.specs.definitions.PathMap.{PathSet, empty, get, has, paths as set_paths, listed}
use Rattle.ssa_model.specs.definitions.Body.{Body, Content, leaf, atom, record_branch, dict_branch, list_branch, is_other_leaf, points, added, modified, removed}
use Rattle.ssa_model.proofs.PathMaps.{has-paths, has-set_of, same_sets}
use Rattle.ssa_path.specs.Children.{elements, heads_order, is_below, rises}
use Rattle.ssa_path.specs.declared.element.Elem.{Elem}
use Rattle.ssa_path.specs.declared.trie.Trie.{Trie}
use Rattle.ssa_path.specs.declared.trie.Trie.TheOpen.{Trie-F}
use Rattle.ssa_path.specs.declared.trie.Trie.TheViews.{roll-Trie}
use Rattle.ssa_path.specs.Trie.{is_one_of, paths}
use Rattle.ssa_path.specs.View.{element_view}
use Rattle.ssa_path.proofs.Levels.{any-made, is_trie-made, one-made-root, same_path-reading}
use Rattle.ssa_path.proofs.Orders.{both_second}
use Rattle.ssa_typed.specs.Differences.{Difference, Added, Modified, Removed, differs, differs_here, differs_below, differs_at, told_of_lost, told_of_new, AreToldBoth, IsDiffering, IsDifference, IsToldAlone, IsToldBoth, IsToldLost}
use Rattle.ssa_typed.specs.NewPlaces.{new_below, new_places}
use Rattle.ssa_typed.specs.Repeating.{TreeRepeats}
use Rattle.ssa_typed.specs.Points.{point_in, collects_of, is_point_of}
use Rattle.ssa_typed.specs.Rows.{rows, content_at, body_of, is_tree}
use Rattle.ssa_typed.specs.declared.compare.PartsBelow.{PartsBelow}
use Rattle.ssa_typed.specs.declared.compare.Scope.{Scope}
use Rattle.ssa_typed.specs.declared.compare.Scope.TheVariants.{Whole, Part}
use Rattle.ssa_typed.specs.declared.node.Node.{Node}
use Rattle.ssa_typed.specs.declared.points.Collected.TheVariants.{Points}
use Rattle.ssa_typed.proofs.Collecting.{point-level}
use Rattle.ssa_typed.proofs.Lookups.{content-level, content-root}
use Rattle.ssa_typed.proofs.Looks.{get-body}
use Rattle.ssa_typed.proofs.Making.{TellsNothing, IsMaking, making-none, making-more, making-skip, front-own, front-other, front-both}
use Rattle.ssa_typed.proofs.NewPlaces.{new-past-both, new-past-lost, new-past-new}
use Rattle.ssa_typed.proofs.References.{left-read}
use Rattle.ssa_typed.proofs.Repeating.{RepeatChildren, repeat-past-both, repeat-past-lost}
use Rattle.ssa_typed.proofs.Stands.{points-body}
use Rattle.ssa_model.proofs.Lists.{has-listed}
use Rattle.ssa_model.proofs.Basics.{and-true as and_true, and-false as and_false}

-- ---- what differs, told of children that only one tree has

-- where nothing stands is no other leaf
pub other-none : (o : Option Content) → is_other_leaf o None ≡ false
other-none None = refl
other-none (Some (leaf s)) = refl
other-none (Some (atom v)) = refl
other-none (Some record_branch) = refl
other-none (Some dict_branch) = refl
other-none (Some (list_branch es)) = refl

-- of a child that neither tree has nothing is told
pub tells-nothing : (what : Difference) (d : Bool) → TellsNothing (differs what d)
tells-nothing Added d e [] = refl
tells-nothing Added d e (f ∷ p) = refl
tells-nothing Modified d e p = refl
tells-nothing (Removed Whole) d e p = refl
tells-nothing (Removed Part) d e p = refl

lost-differs : (what : Difference) (d : Bool) (e : Element) (c : Node) (p : Path)
    → collects_of (told_of_lost what) d e (Some c) p ≡ differs what d e (Some c) None p
lost-differs Added d e c [] = refl
lost-differs Added d e c (f ∷ p) = refl
lost-differs Modified d e c p = sym (other-none (content_at (rows c) p))
lost-differs (Removed Whole) d e c p = sym (and_true _)
lost-differs (Removed Part) d e c p = refl

new-differs : (what : Difference) (d : Bool) (e : Element) (c : Node) (p : Path)
    → collects_of (told_of_new what) d e (Some c) p ≡ differs what d e None (Some c) p
new-differs Added d e c p = sym (and_true _)
new-differs Modified d e c p = refl
new-differs (Removed Whole) d e c p = refl
new-differs (Removed Part) d e c p = refl

-- ---- what differs at and below two nodes

module _ (n m : Node) (before : is_tree n ≡ true) (after : is_tree m ≡ true) where
  -- what differs at a path that goes on below both nodes is told by their children there
  pub differs-level : (what : Difference) (d : Bool) (e f : Element) (p : Path) → differs what d e (Some n) (Some m) (f ∷ p) ≡ differs_below what n m f p
  differs-level Added d e f p = (λ i. point-level m after d e f p i && not (is_some (content-level n f p before i)))
  differs-level Modified d e f p = (λ i. is_other_leaf (content-level n f p before i) (content-level m f p after i))
  differs-level (Removed Part) d e f p = refl
  differs-level (Removed Whole) d e f p = (λ i. is_some (content-level n f p before i) && not (is_some (content-level m f p after i)))

differs-root : (n m : Node) (what : Difference) (d : Bool) (e : Element) → differs what d e (Some n) (Some m) [] ≡ differs_here what n m
differs-root n m Added d e = ap (λ o. point_in d e (Some m) [] && not (is_some o)) (content-root n) ∙ and_false _
differs-root n m Modified d e = (λ i. is_other_leaf (content-root n i) (content-root m i))
differs-root n m (Removed Part) d e = refl
differs-root n m (Removed Whole) d e = (λ i. is_some (content-root n i) && not (is_some (content-root m i)))

-- a place over what differs below it
pub difference-made : (what : Difference) (n m : Node) (x : Trie-F Trie) → x.here ≡ differs_here what n m → IsDiffering what n m x.below.items
    → IsDifference what n m (roll-Trie x)
difference-made what n m x here h = record { paths_are = held; trie = is_trie-made x h.risen h.tries }
  where
    held : (p : Path) → is_one_of (paths (roll-Trie x)) p ≡ differs_at what n m p
    held [] = one-made-root x ∙ here
    held (f ∷ p) = any-made same_path same_path-reading x f p ∙ h.paths_are f p

-- whether a path of two nodes is told is told alike of children
pub differs-whole : (what : Difference) (d : Bool) (e : Element) (n m : Node) → is_tree n ≡ true → is_tree m ≡ true → (p : Path)
    → differs_at what n m p ≡ differs what d e (Some n) (Some m) p
differs-whole what d e n m before after [] = sym (differs-root n m what d e)
differs-whole what d e n m before after (f ∷ p) = sym (differs-level n m before after what d e f p)

-- ---- the walk over the children of both

module _ (what : Difference) (d : Bool) (cs0 ds0 : List (Elem × Node)) where
  -- the tries so far hold what is told of the children before those that are left
  abbrev pub IsComparing : List (Elem × Node) → List (Elem × Node) → List (Elem × Trie) → Type 0
  IsComparing cs ds out = IsMaking (differs what d) cs0 ds0 cs ds out

  module _ (i j : ℕ) where
    -- a child that only the tree before has is passed, with what is told of a lost one
    pub comparing-lost : (c : Elem × Node) (out new : List (Elem × Trie)) → heads_order (drop i cs0) (drop j ds0) ≡ Some Less → slice_get cs0 i ≡ Some c
        → IsToldAlone (told_of_lost what) d c out new
        → IsComparing (drop i cs0) (drop j ds0) out → IsComparing (drop (i + 1) cs0) (drop j ds0) new
    comparing-lost c out new order is (t, made, grown) h =
        let e = element_view c.0 in
        let cs = drop (i + 1) cs0 in
        let ds = drop j ds0 in
        let left = left-read cs0 i c is in
        let now = subst (λ l. IsComparing l ds out) left h in
        let heads = subst (λ l. heads_order l ds ≡ Some Less) left order in
        making-more (differs what d) e (Some c.1) None cs0 ds0 (c ∷ cs) ds cs ds out new t (tells-nothing what d)
        (front-own c cs ds heads now.own_rise now.others_rise) (both_second _ _ now.own_rise) now.others_rise (λ p. made.paths_are p
        ∙ lost-differs what d e c.1 p) made.trie grown now

    -- a child that only the tree after has is passed, with what is told of a new one
    pub comparing-new : (c : Elem × Node) (out new : List (Elem × Trie)) → heads_order (drop i cs0) (drop j ds0) ≡ Some Greater → slice_get ds0 j ≡ Some c
        → IsToldAlone (told_of_new what) d c out new
        → IsComparing (drop i cs0) (drop j ds0) out → IsComparing (drop i cs0) (drop (j + 1) ds0) new
    comparing-new c out new order is (t, made, grown) h =
        let e = element_view c.0 in
        let cs = drop i cs0 in
        let ds = drop (j + 1) ds0 in
        let left = left-read ds0 j c is in
        let now = subst (λ l. IsComparing cs l out) left h in
        let heads = subst (λ l. heads_order cs l ≡ Some Greater) left order in
        making-more (differs what d) e None (Some c.1) cs0 ds0 cs (c ∷ ds) cs ds out new t (tells-nothing what d)
        (front-other cs c ds heads now.own_rise now.others_rise) now.own_rise (both_second _ _ now.others_rise) (λ p. made.paths_are p
        ∙ new-differs what d e c.1 p) made.trie grown now

    -- nothing is told of a child that only one of the trees has
    pub comparing-past-lost : (c : Elem × Node) (out : List (Elem × Trie)) → heads_order (drop i cs0) (drop j ds0) ≡ Some Less → slice_get cs0 i ≡ Some c
        → told_of_lost what ≡ None
        → IsComparing (drop i cs0) (drop j ds0) out → IsComparing (drop (i + 1) cs0) (drop j ds0) out
    comparing-past-lost c out order is none h =
        let e = element_view c.0 in
        let cs = drop (i + 1) cs0 in
        let ds = drop j ds0 in
        let left = left-read cs0 i c is in
        let now = subst (λ l. IsComparing l ds out) left h in
        let heads = subst (λ l. heads_order l ds ≡ Some Less) left order in
        making-skip (differs what d) e (Some c.1) None cs0 ds0 (c ∷ cs) ds cs ds out (tells-nothing what d)
        (front-own c cs ds heads now.own_rise now.others_rise) (both_second _ _ now.own_rise) now.others_rise (λ p. sym (lost-differs what d e c.1 p)
        ∙ ap (λ o. collects_of o d e (Some c.1) p) none) now

    -- where nothing is told of new children, one is passed and nothing comes
    pub comparing-past-new : (c : Elem × Node) (out : List (Elem × Trie)) → heads_order (drop i cs0) (drop j ds0) ≡ Some Greater → slice_get ds0 j ≡ Some c
        → told_of_new what ≡ None
        → IsComparing (drop i cs0) (drop j ds0) out → IsComparing (drop i cs0) (drop (j + 1) ds0) out
    comparing-past-new c out order is none h =
        let e = element_view c.0 in
        let cs = drop i cs0 in
        let ds = drop (j + 1) ds0 in
        let left = left-read ds0 j c is in
        let now = subst (λ l. IsComparing cs l out) left h in
        let heads = subst (λ l. heads_order cs l ≡ Some Greater) left order in
        making-skip (differs what d) e None (Some c.1) cs0 ds0 cs (c ∷ ds) cs ds out (tells-nothing what d)
        (front-other cs c ds heads now.own_rise now.others_rise) now.own_rise (both_second _ _ now.others_rise) (λ p. sym (new-differs what d e c.1 p)
        ∙ ap (λ o. collects_of o d e (Some c.1) p) none) now

    -- a child that both trees have is passed, with what differs in it
    pub comparing-both : (c b : Elem × Node) (out new : List (Elem × Trie))
        → heads_order (drop i cs0) (drop j ds0) ≡ Some Equal → slice_get cs0 i ≡ Some c → slice_get ds0 j ≡ Some b
        → is_tree c.1 ≡ true → is_tree b.1 ≡ true → IsToldBoth what c b.1 out new
        → IsComparing (drop i cs0) (drop j ds0) out → IsComparing (drop (i + 1) cs0) (drop (j + 1) ds0) new
    comparing-both c b out new order is_c is_b before after told h =
        let e = element_view c.0 in
        let cs = drop (i + 1) cs0 in
        let ds = drop (j + 1) ds0 in
        let own = left-read cs0 i c is_c in
        let other = left-read ds0 j b is_b in
        let now = subst (λ l. IsComparing (c ∷ cs) l out) other (subst (λ l. IsComparing l (drop j ds0) out) own h) in
        let heads = subst (λ l. heads_order (c ∷ cs) l ≡ Some Equal) other (subst (λ l. heads_order l (drop j ds0) ≡ Some Equal) own order) in
        let front = front-both c b cs ds heads now.own_rise now.others_rise in
        let own_rise = both_second (is_below e (elements cs)) _ now.own_rise in
        let others_rise = both_second (is_below (element_view b.0) (elements ds)) _ now.others_rise in
        elim told [
          | inl (t, made, grown) ↦
              making-more (differs what d) e (Some c.1) (Some b.1) cs0 ds0 (c ∷ cs) (b ∷ ds) cs ds out new t (tells-nothing what d) front own_rise others_rise
              (λ p. made.paths_are p ∙ differs-whole what d e c.1 b.1 before after p) made.trie grown now
          | inr (nothing, same) ↦
              subst (IsComparing cs ds) (sym same)
              (making-skip (differs what d) e (Some c.1) (Some b.1) cs0 ds0 (c ∷ cs) (b ∷ ds) cs ds out (tells-nothing what d) front own_rise others_rise
              (λ p. sym (differs-whole what d e c.1 b.1 before after p) ∙ nothing p) now)
        ]

-- ---- all that is told, by one walk

-- a child that only the tree before has is passed, with what is removed by a whole tree or by a part
comparing-removed : (scope : Scope) (d : Bool) (cs0 ds0 : List (Elem × Node)) (i j : ℕ) (c : Elem × Node) (out new : List (Elem × Trie))
    → heads_order (drop i cs0) (drop j ds0) ≡ Some Less → slice_get cs0 i ≡ Some c → IsToldLost scope d c out new
    → IsComparing (Removed scope) d cs0 ds0 (drop i cs0) (drop j ds0) out → IsComparing (Removed scope) d cs0 ds0 (drop (i + 1) cs0) (drop j ds0) new
comparing-removed Whole d cs0 ds0 i j c out new order is told h = comparing-lost (Removed Whole) d cs0 ds0 i j c out new order is told h
comparing-removed Part d cs0 ds0 i j c out new order is same h =
    subst (IsComparing (Removed Part) d cs0 ds0 (drop (i + 1) cs0) (drop j ds0)) (sym same)
    (comparing-past-lost (Removed Part) d cs0 ds0 i j c out order is refl h)

-- so many places are new of the children passed, and with those of the children that are left it is all of them
abbrev pub IsNewSoFar : (cs0 ds0 cs ds : List (Elem × Node)) → ℕ → Type 0
IsNewSoFar cs0 ds0 cs ds count = (k : ℕ) × (count ≡ min k (2 ^ 64 - 1)) × (k + new_below cs ds ≡ new_below cs0 ds0)

-- so far all is told: what is added, modified and removed, and how many places are new
pub record AreComparing (scope : Scope) (d : Bool) (cs0 ds0 cs ds : List (Elem × Node)) (told : PartsBelow) : Type 0 where
  -- what is added among the children passed
  pub added_so_far : IsComparing Added d cs0 ds0 cs ds told.added.items
  -- what is modified among them
  pub modified_so_far : IsComparing Modified d cs0 ds0 cs ds told.modified.items
  -- what is removed among them
  pub removed_so_far : IsComparing (Removed scope) d cs0 ds0 cs ds told.removed.items
  -- how many places are new among them
  pub new_so_far : IsNewSoFar cs0 ds0 cs ds told.new_places
  -- where the flag still stands, all the children stay as they are if those that are left do
  pub repeats_so_far : told.repeats ≡ true → RepeatChildren cs ds → RepeatChildren cs0 ds0

-- the children of a trie, as the program holds them
abbrev Tries : Type 0
Tries = Vec (Elem × Trie) Global

module _ (scope : Scope) (d : Bool) (cs0 ds0 : List (Elem × Node)) (i j : ℕ) (old : PartsBelow)
    (h : AreComparing scope d cs0 ds0 (drop i cs0) (drop j ds0) old) where
  -- a lost child is passed: more is removed, unless the tree after is a part
  pub past-lost : (c : Elem × Node) (new : Tries) → heads_order (drop i cs0) (drop j ds0) ≡ Some Less → slice_get cs0 i ≡ Some c
      → IsToldLost scope d c old.removed.items new.items
      → AreComparing scope d cs0 ds0 (drop (i + 1) cs0) (drop j ds0) (record old { removed = new })
  past-lost c new order is told = record {
    added_so_far = comparing-past-lost Added d cs0 ds0 i j c old.added.items order is refl h.added_so_far;
    modified_so_far = comparing-past-lost Modified d cs0 ds0 i j c old.modified.items order is refl h.modified_so_far;
    removed_so_far = comparing-removed scope d cs0 ds0 i j c old.removed.items new.items order is told h.removed_so_far;
    new_so_far =
        let so_far = h.new_so_far in
        let rest = new-past-lost cs0 ds0 i j h.added_so_far.own_rise h.added_so_far.others_rise c order is in
        (so_far.0, so_far.1, ap (λ n. so_far.0 + n) (sym rest) ∙ so_far.2);
    repeats_so_far = λ all rest.
        h.repeats_so_far all (repeat-past-lost cs0 ds0 i j h.added_so_far.own_rise h.added_so_far.others_rise c order is rest);
  }

  -- a new child is passed: more is added
  pub past-new : (c : Elem × Node) (new : Tries) (own count : ℕ) → heads_order (drop i cs0) (drop j ds0) ≡ Some Greater → slice_get ds0 j ≡ Some c
      → IsToldAlone (Some Points) d c old.added.items new.items
      → own ≡ min (length (rows c.1)) (2 ^ 64 - 1) → count ≡ min (old.new_places + own) (2 ^ 64 - 1)
      → AreComparing scope d cs0 ds0 (drop i cs0) (drop (j + 1) ds0) (record old { added = new; new_places = count; repeats = false })
  past-new c new own count order is told size sum = record {
    added_so_far = comparing-new Added d cs0 ds0 i j c old.added.items new.items order is told h.added_so_far;
    modified_so_far = comparing-past-new Modified d cs0 ds0 i j c old.modified.items order is refl h.modified_so_far;
    removed_so_far = comparing-past-new (Removed scope) d cs0 ds0 i j c old.removed.items order is refl h.removed_so_far;
    new_so_far =
        let so_far = h.new_so_far in
        let before = so_far.1 in
        let all = so_far.2 in
        let rest = new-past-new cs0 ds0 i j h.added_so_far.own_rise h.added_so_far.others_rise c order is in
        (so_far.0 + length (rows c.1), omega arith, omega arith);
    repeats_so_far = λ all rest. absurd (true≢false (sym all));
  }

  -- a child of both trees is passed, with all that is told of it
  pub past-both : (c b : Elem × Node) (new : PartsBelow)
      → heads_order (drop i cs0) (drop j ds0) ≡ Some Equal → slice_get cs0 i ≡ Some c → slice_get ds0 j ≡ Some b
      → is_tree c.1 ≡ true → is_tree b.1 ≡ true → AreToldBoth scope c b.1 old new
      → (new.repeats ≡ true → (old.repeats ≡ true) × TreeRepeats c.1 b.1)
      → AreComparing scope d cs0 ds0 (drop (i + 1) cs0) (drop (j + 1) ds0) new
  past-both c b new order is_c is_b before after told repeats = record {
    added_so_far = comparing-both Added d cs0 ds0 i j c b old.added.items new.added.items order is_c is_b before after told.added_told h.added_so_far;
    modified_so_far = comparing-both Modified d cs0 ds0 i j c b old.modified.items new.modified.items order is_c is_b before after told.modified_told
        h.modified_so_far;
    removed_so_far = comparing-both (Removed scope) d cs0 ds0 i j c b old.removed.items new.removed.items order is_c is_b before after told.removed_told
        h.removed_so_far;
    new_so_far =
        let so_far = h.new_so_far in
        let all = so_far.2 in
        let rest = new-past-both cs0 ds0 i j h.added_so_far.own_rise h.added_so_far.others_rise c b order is_c is_b in
        (so_far.0 + new_places c.1 b.1, told.new_counted so_far.0 so_far.1, omega arith);
    repeats_so_far = λ all rest.
        let both = repeats all in
        h.repeats_so_far both.0 (repeat-past-both cs0 ds0 i j h.added_so_far.own_rise h.added_so_far.others_rise c b order is_c is_b both.1 rest);
  }

-- before the walk nothing is told of any child
pub past-none : (scope : Scope) (d : Bool) (cs ds : List (Elem × Node)) (v : PartsBelow) → v.added.items ≡ [] → v.modified.items ≡ [] → v.removed.items ≡ []
    → v.new_places ≡ 0 → rises (elements cs) ≡ true → rises (elements ds) ≡ true → AreComparing scope d cs ds cs ds v
past-none scope d cs ds v added_none modified_none removed_none new_none own_rise others_rise = record {
  added_so_far = rw added_none (making-none (differs Added d) cs ds own_rise others_rise);
  modified_so_far = rw modified_none (making-none (differs Modified d) cs ds own_rise others_rise);
  removed_so_far = rw removed_none (making-none (differs (Removed scope) d) cs ds own_rise others_rise);
  new_so_far = (0, omega arith, omega arith);
  repeats_so_far = λ all rest. rest;
}

-- ---- THE BRIDGE: the comparison of the bodies that the trees stand for

-- the paths of two bodies that are told, as the definitions have them
abbrev pub difference_of : Difference → Body → Body → PathSet
difference_of Added before after = added before after
difference_of Modified before after = modified before after
difference_of (Removed Whole) before after = removed before after
difference_of (Removed Part) before after = empty

leaf_there : (x y : Option Content) → (is_some x && is_other_leaf x y) ≡ is_other_leaf x y
leaf_there None y = refl
leaf_there (Some c) y = refl

-- what the difference of two bodies has is told by the rows
pub has-difference : (what : Difference) (n m : Node) (q : Path) → has (difference_of what (body_of n) (body_of m)) q
    ≡ elim what [
      | Added ↦ is_point_of (rows m) q && not (is_some (content_at (rows n) q))
      | Modified ↦ is_other_leaf (content_at (rows n) q)
          (content_at (rows m) q)
      | Removed scope ↦ elim scope [ Whole ↦ is_some (content_at (rows n) q) && not (is_some (content_at (rows m) q)) | Part ↦ false ]
    ]
has-difference Added n m q =
    has-set_of (set_paths (points (body_of m))) (λ p. not (has (body_of n) p)) q
    ∙ (λ i. (sym (has-paths (points (body_of m)) q) ∙ points-body m q) i && not (is_some (get-body n q i)))
has-difference Modified n m q =
    has-set_of (set_paths (body_of n)) (λ p. is_other_leaf (get (body_of n) p) (get (body_of m) p)) q
    ∙ ap (λ b. b && is_other_leaf (get (body_of n) q) (get (body_of m) q)) (sym (has-paths (body_of n) q))
    ∙ leaf_there (get (body_of n) q) (get (body_of m) q) ∙ (λ i. is_other_leaf (get-body n q i) (get-body m q i))
has-difference (Removed Part) n m q = refl
has-difference (Removed Whole) n m q =
    has-set_of (set_paths (body_of n)) (λ p. not (has (body_of m) p)) q
    ∙ ap (λ b. b && not (has (body_of m) q)) (sym (has-paths (body_of n) q)) ∙ (λ i. is_some (get-body n q i) && not (is_some (get-body m q i)))

-- the difference of two bodies has what is told of their trees
pub has-differing : (what : Difference) (n m : Node) → is_tree n ≡ true → is_tree m ≡ true → (q : Path)
    → has (difference_of what (body_of n) (body_of m)) q ≡ differs_at what n m q
has-differing Added n m before after [] = has-difference Added n m []
has-differing Modified n m before after [] = has-difference Modified n m [] ∙ (λ i. is_other_leaf (content-root n i) (content-root m i))
has-differing (Removed Part) n m before after [] = refl
has-differing (Removed Whole) n m before after [] = has-difference (Removed Whole) n m [] ∙ (λ i. is_some (content-root n i) && not (is_some (content-root m i)))
has-differing Added n m before after (f ∷ p) = has-difference Added n m (f ∷ p) ∙ differs-level n m before after Added false f f p
has-differing Modified n m before after (f ∷ p) = has-difference Modified n m (f ∷ p) ∙ differs-level n m before after Modified false f f p
has-differing (Removed Part) n m before after (f ∷ p) = refl
has-differing (Removed Whole) n m before after (f ∷ p) = has-difference (Removed Whole) n m (f ∷ p) ∙ differs-level n m before after (Removed Whole) false f f p

-- the listed paths of the trie are the difference of the bodies
pub difference-listed : (what : Difference) (n m : Node) (t : Trie) → is_tree n ≡ true → is_tree m ≡ true → IsDifference what n m t
    → listed (paths t) ≡ difference_of what (body_of n) (body_of m)
difference-listed what n m t before after h = same_sets _ _ (λ q. has-listed (paths t) q ∙ h.paths_are q ∙ sym (has-differing what n m before after q))
