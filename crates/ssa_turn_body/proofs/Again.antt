-- A change made again, over trees that tell the same.
use Rattle.std.proofs.Common.{◌≡◌, List, [], ◌∷◌, ◌++◌, map, Bool, true, false, not, ◌||◌, cond, Option, Some, None, option_map, refl, sym, ap, subst, ◌∙◌, true≢false}
use Rattle.std.specs.List.{list_any}
use Rattle.std.proofs.lemmas.Option.{none-some, same_Some}
use Rattle.ssa_model.specs.definitions.Path.{Element, Path, same_element, under}
use Rattle.ssa_model.proofs.Pruned.{under-rest}
use Rattle.ssa_path.specs.Children.{child_at, elements}
use Rattle.ssa_path.specs.View.{element_view}
use Rattle.ssa_path.proofs.Orders.{both_first, both_second}
use Rattle.ssa_typed.specs.Rows.{below, own_content, is_tree, are_apart}
use Rattle.ssa_typed.specs.declared.node.Node.{Node}
use Rattle.ssa_typed.proofs.Levels.{level-below}
use Rattle.ssa_typed.proofs.Lookups.{tree-child}
use Rattle.ssa_turn_body.specs.Marks.{Child, Mark, Marks, marks, marks_in, Kids, kids, Place, seen}
use Rattle.ssa_turn_body.specs.Told.{from_place, named}
use Rattle.ssa_typed.specs.Nodes.{node_on, then_on}
use Rattle.ssa_turn_body.specs.Descent.{FitsIn, GivesIn, IsChange}
use Rattle.ssa_turn_body.proofs.Marking.{told, marks-level, names-kids}
use Rattle.ssa_model.proofs.Tables.{element-itself as same_element-itself}
use Rattle.ssa_model.proofs.ShownNames.{turned as same_either_way}
use Rattle.ssa_model.proofs.Basics.{not_true}

-- ---- what a place tells

-- what the child of an element tells is told under its name
pub named-kids : (cs : List Child) (e : Element) → option_map marks (child_at e cs) ≡ named (kids cs) e
named-kids [] e = refl
named-kids (c ∷ cs) e =
    elim (same_element e (element_view c.0)) as (λ b. option_map marks (cond b (Some c.1) (child_at e cs)) ≡ cond b (Some (marks c.1)) (named (kids cs) e)) [
      | true ↦ refl
      | false ↦ named-kids cs e
    ]

told-place : (n : Node) (p : Path) → told (own_content n) (below n) p ≡ from_place (seen n) p
told-place n [] = ap (λ es. Some (own_content n, es)) (sym (names-kids (below n)))
told-place n (e ∷ p) = ap (λ o. marks_in o p) (named-kids (below n) e)

-- a place tells all of its tree
pub marks-place : (n : Node) (p : Path) → marks n p ≡ from_place (seen n) p
marks-place n p = marks-level n p ∙ told-place n p

-- what a tree tells from a path on is what the tree at the path tells
pub marks-on : (p : Path) (n : Node) (q : Path) → marks n (p ++ q) ≡ marks_in (option_map marks (node_on p n)) q
marks-on [] n q = refl
marks-on (e ∷ p) n q = marks-level n (e ∷ (p ++ q)) ∙ on_child (child_at e (below n)) (λ c. marks-on p c q)
  where
    on_child : (o : Option Node) → ((c : Node) → marks c (p ++ q) ≡ marks_in (option_map marks (node_on p c)) q)
        → marks_in (option_map marks o) (p ++ q) ≡ marks_in (option_map marks (then_on o (node_on p))) q
    on_child None h = refl
    on_child (Some c) h = h c

-- ---- trees that tell the same have the same places

-- each of the second children is found among the first under its element
abbrev pub AllFound : List Child → List Child → Type 0
AllFound cs [] = Unit {0}
AllFound cs (d ∷ ds) = (child_at (element_view d.0) cs ≡ Some d.1) × AllFound cs ds

found-more : (c : Child) (cs ds : List Child) → list_any (same_element (element_view c.0)) (elements ds) ≡ false → AllFound cs ds → AllFound (c ∷ cs) ds
found-more c cs [] h found = tt
found-more c cs (d ∷ ds) h found =
    let other : same_element (element_view d.0) (element_view c.0) ≡ false = same_either_way (element_view c.0) (element_view d.0)
    ∙ or_first (same_element (element_view c.0) (element_view d.0)) _ h in (
      ap (λ b. cond b (Some c.1) (child_at (element_view d.0) cs)) other ∙ found.0,
      found-more c cs ds (or_second (same_element (element_view c.0) (element_view d.0)) _ h) found.1,
    )
  where
    or_first : (a b : Bool) → (a || b) ≡ false → a ≡ false
    or_first true b e = e
    or_first false b e = refl

    or_second : (a b : Bool) → (a || b) ≡ false → b ≡ false
    or_second true b e = absurd (true≢false e)
    or_second false b e = e

-- children with distinct elements are all found under them
pub all-found : (cs : List Child) → are_apart (elements cs) ≡ true → AllFound cs cs
all-found [] h = tt
all-found (c ∷ cs) h = (
  ap (λ b. cond b (Some c.1) (child_at (element_view c.0) cs)) (same_element-itself (element_view c.0)),
  found-more c cs cs (not_true _ (both_first (not (list_any (same_element (element_view c.0)) (elements cs))) _ h))
      (all-found cs (both_second (not (list_any (same_element (element_view c.0)) (elements cs))) _ h)),
)

-- children of these elements, each with what a function tells of it
abbrev pub kids_from : (Element → Marks) → List Element → Kids
kids_from f es = map (λ e. (e, f e)) es

kids-found : (cs ds : List Child) → AllFound cs ds → kids ds ≡ kids_from (λ e p. marks_in (option_map marks (child_at e cs)) p) (elements ds)
kids-found cs [] h = refl
kids-found cs (d ∷ ds) h = λ i. (element_view d.0, λ p. marks_in (option_map marks (sym h.0 i)) p) ∷ kids-found cs ds h.1 i

-- the children of a tree are those of its elements, each with what the tree tells there
pub kids-told : (n : Node) → is_tree n ≡ true → kids (below n) ≡ kids_from (λ e p. marks n (e ∷ p)) (elements (below n))
kids-told n tree =
    kids-found (below n) (below n) (all-found (below n) ((level-below n).apart tree))
    ∙ ap (λ (f : Element → Marks). kids_from f (elements (below n))) (λ i e p. sym (marks-level n (e ∷ p)) i)

-- trees that tell the same are seen as one place at their roots
pub seen-same : (n m : Node) → is_tree n ≡ true → is_tree m ≡ true → ((p : Path) → marks n p ≡ marks m p) → seen n ≡ seen m
seen-same n m tn tm same =
    let mark : (own_content n, elements (below n)) ≡ (own_content m, elements (below m)) =
    same_Some _ _ (sym (marks-level n []) ∙ same [] ∙ marks-level m []) in
    let below_is : kids (below n) ≡ kids (below m) =
    kids-told n tn ∙ (λ i. kids_from (λ e p. same (e ∷ p) i) (ap (λ (x : Mark). x.1) mark i)) ∙ sym (kids-told m tm) in
    λ i. (ap (λ (x : Mark). x.0) mark i, below_is i)

-- what both find at a path
abbrev pub SameIn : Option Node → Option Node → Type 0
SameIn None None = Unit {0}
SameIn None (Some m) = ⊥
SameIn (Some n) None = ⊥
SameIn (Some n) (Some m) = (is_tree n ≡ true) × (is_tree m ≡ true) × ((p : Path) → marks n p ≡ marks m p)

root-told : (n : Node) → marks n [] ≡ None → ⊥
root-told n h = none-some _ (sym h ∙ marks-level n [])

-- trees that tell the same have, at each path, trees that tell the same or none
pub same-on : (p : Path) (n m : Node) → is_tree n ≡ true → is_tree m ≡ true → ((q : Path) → marks n q ≡ marks m q) → SameIn (node_on p n) (node_on p m)
same-on [] n m tn tm same = (tn, tm, same)
same-on (e ∷ p) n m tn tm same =
    in_both (child_at e (below n)) (child_at e (below m)) (λ c is. tree-child n e c tn is) (λ c is. tree-child m e c tm is) (λ q. sym (marks-level n (e ∷ q))
    ∙ same (e ∷ q) ∙ marks-level m (e ∷ q)) (same-on p)
  where
    in_both : (a b : Option Node) → ((c : Node) → a ≡ Some c → is_tree c ≡ true) → ((c : Node) → b ≡ Some c → is_tree c ≡ true)
        → ((q : Path) → marks_in (option_map marks a) q ≡ marks_in (option_map marks b) q)
        → ((n m : Node) → is_tree n ≡ true → is_tree m ≡ true → ((q : Path) → marks n q ≡ marks m q) → SameIn (node_on p n) (node_on p m))
        → SameIn (then_on a (node_on p)) (then_on b (node_on p))
    in_both None None ta tb h go = tt
    in_both None (Some d) ta tb h go = absurd (root-told d (sym (h [])))
    in_both (Some c) None ta tb h go = absurd (root-told c (h []))
    in_both (Some c) (Some d) ta tb h go = go c d (ta c refl) (tb d refl) h

-- ---- a change there and back

module _ (F : Place → Type 0) where
  abbrev fits_at : Option Node → Type 0
  fits_at o = FitsIn (λ n. F (seen n)) o

  -- what fits at a path of a tree fits there in one that tells the same
  pub fits-on : (p : Path) (n m : Node) → is_tree n ≡ true → is_tree m ≡ true → ((q : Path) → marks n q ≡ marks m q) → FitsIn (λ n. F (seen n)) (node_on p n)
      → FitsIn (λ n. F (seen n)) (node_on p m)
  fits-on p n m tn tm same h = in_both (node_on p n) (node_on p m) (same-on p n m tn tm same) h
    where
      in_both : (a b : Option Node) → SameIn a b → fits_at a → fits_at b
      in_both None None s h = h
      in_both None (Some d) s h = absurd s
      in_both (Some c) None s h = absurd s
      in_both (Some c) (Some d) s h = subst F (seen-same c d s.0 s.1 s.2) h

  module _ (G : Place → Place → Type 0) where
    -- what a change leaves fits the change that it became
    pub back-on : (H : Place → Type 0) → ((x y : Place) → F x → G x y → H y) → (p : Path) (v w : Node) → FitsIn (λ n. F (seen n)) (node_on p v)
        → IsChange (λ n m. G (seen n) (seen m)) p v w → FitsIn (λ n. H (seen n)) (node_on p w)
    back-on H law p v w h change = in_both (node_on p v) (node_on p w) h change.inside
      where
        in_both : (a b : Option Node) → fits_at a → GivesIn (λ n m. G (seen n) (seen m)) a b → FitsIn (λ n. H (seen n)) b
        in_both None b h g = absurd h
        in_both (Some c) None h g = absurd g
        in_both (Some c) (Some d) h g = law (seen c) (seen d) h g

    abbrev IsTrip : (Q : Type 0) → Option Node → Option Node → Type 0
    IsTrip Q a d = ((q : Path) → marks_in (option_map marks d) q ≡ marks_in (option_map marks a) q) × Q

    trip-in : (H : Place → Place → Type 0) (Q : Type 0) → ((x y z : Place) → F x → G x y → H y z → (z ≡ x) × Q) → (a b c d : Option Node) → fits_at a
        → GivesIn (λ n m. G (seen n) (seen m)) a b → SameIn b c → GivesIn (λ n m. H (seen n) (seen m)) c d → IsTrip Q a d
    trip-in H Q law None b c d h g s k = absurd h
    trip-in H Q law (Some x) None c d h g s k = absurd g
    trip-in H Q law (Some x) (Some y) None d h g s k = absurd s
    trip-in H Q law (Some x) (Some y) (Some z) None h g s k = absurd k
    trip-in H Q law (Some x) (Some y) (Some z) (Some u) h g s k =
        let again = law (seen x) (seen y) (seen u) h g (subst (λ r. H r (seen u)) (sym (seen-same y z s.0 s.1 s.2)) k) in
        (λ q. marks-place u q ∙ ap (λ r. from_place r q) again.0 ∙ sym (marks-place x q), again.1)

    -- a change made again, over a tree that tells the same as what it left, leaves what it found
    pub round-trip : (H : Place → Place → Type 0) (Q : Type 0) → ((x y z : Place) → F x → G x y → H y z → (z ≡ x) × Q) → (p : Path) (v w w2 k : Node)
        → FitsIn (λ n. F (seen n)) (node_on p v) → IsChange (λ n m. G (seen n) (seen m)) p v w
        → is_tree w2 ≡ true → ((q : Path) → marks w q ≡ marks w2 q) → IsChange (λ n m. H (seen n) (seen m)) p w2 k → ((q : Path) → marks k q ≡ marks v q) × Q
    round-trip H Q law p v w w2 k h there tree same again =
        let trip = trip-in H Q law (node_on p v) (node_on p w) (node_on p w2) (node_on p k) h there.inside (same-on p w w2 there.tree tree same)
        again.inside in (
          λ q. at q (under p q) refl trip.0,
          trip.1,
        )
      where
        at : (q : Path) (b : Bool) → under p q ≡ b → ((r : Path) → marks_in (option_map marks (node_on p k)) r ≡ marks_in (option_map marks (node_on p v)) r)
            → marks k q ≡ marks v q
        at q true u inside =
            let rest = under-rest p q u in
            ap (marks k) rest.1 ∙ marks-on p k rest.0 ∙ inside rest.0 ∙ sym (marks-on p v rest.0) ∙ sym (ap (marks v) rest.1)
        at q false u inside = again.outside q u ∙ sym (same q) ∙ there.outside q u

-- a change leads from each tree that tells the same
pub change-on : (G : Place → Place → Type 0) (p : Path) (n m w : Node) → is_tree n ≡ true → is_tree m ≡ true → ((q : Path) → marks n q ≡ marks m q)
    → IsChange (λ n m. G (seen n) (seen m)) p m w → IsChange (λ n m. G (seen n) (seen m)) p n w
change-on G p n m w tn tm same change = record {
  inside = in_both (node_on p n) (node_on p m) (node_on p w) (same-on p n m tn tm same) change.inside;
  outside = λ q u. change.outside q u ∙ sym (same q);
  tree = change.tree;
}
  where
    in_both : (a b d : Option Node) → SameIn a b → GivesIn (λ n m. G (seen n) (seen m)) b d → GivesIn (λ n m. G (seen n) (seen m)) a d
    in_both None None d s g = g
    in_both None (Some y) d s g = absurd s
    in_both (Some x) None d s g = absurd s
    in_both (Some x) (Some y) None s g = absurd g
    in_both (Some x) (Some y) (Some z) s g = subst (λ r. G r (seen z)) (sym (seen-same x y s.0 s.1 s.2)) g
