-- A body and the marks of its tree tell each other.
use Rattle.std.proofs.Common.{◌≡◌, List, [], ◌∷◌, Bool, true, false, ◌||◌, Option, Some, None, option_map, Less, refl, sym, ap, subst, ◌∙◌, true≢false}
use Rattle.std.specs.List.{list_any}
use Rattle.std.specs.Ordering.{is_lt, is_eq}
use Rattle.std.proofs.lemmas.Option.{none-some, same_Some}
use Rattle.std.specs.Prelude.{is_some}
use Rattle.ssa_model.specs.definitions.Body.{Content, leaf, atom, record_branch, dict_branch, list_branch}
use Rattle.ssa_model.specs.definitions.Path.{Element, Path, element_cmp, same_element}
use Rattle.ssa_model.specs.definitions.PathMap.{get}
use Rattle.ssa_model.proofs.PathMaps.{same_map}
use Rattle.ssa_path.specs.Children.{child_at, elements, is_below, rises}
use Rattle.ssa_path.proofs.Orders.{element_cmp_total, not_tied, both_first, both_second}
use Rattle.ssa_typed.specs.Points.{content_in}
use Rattle.ssa_typed.specs.Rows.{rows, below, body_of, own_content, leaf_content, content_at, is_tree, are_trees, are_fields}
use Rattle.ssa_typed.specs.declared.node.Leaf.{Leaf}
use Rattle.ssa_typed.specs.declared.node.Leaf.TheVariants.{Scalar, Atomic}
use Rattle.ssa_typed.specs.declared.node.Node.{Node, Leaf as LeafOf, Branch, Dict, List as ListOf, the_lemmas}
use Rattle.ssa_typed.specs.declared.node.Node.TheOpen.{Node-F}
use Rattle.ssa_typed.specs.declared.node.Node.TheViews.{out-Node, roll-Node, roll-out-Node}
use Rattle.ssa_typed.proofs.Levels.{below-apart, own-Branch, own-Dict, own-List, tree-Branch, tree-Dict, tree-List}
use Rattle.ssa_typed.proofs.Looks.{get-body, some-child}
use Rattle.ssa_typed.proofs.Lookups.{content-root, content-level, tree-child}
use Rattle.std.proofs.Common.{rules}
use Rattle.ssa_turn_body.specs.Told.{content_told}
use Rattle.ssa_turn_body.specs.Marks.{marks, marks_in, may_stand}
use Rattle.ssa_turn_body.proofs.Marking.{marks-level}
use Rattle.ssa_turn_body.proofs.Returning.{SameMarks}
use Rattle.ssa_model.proofs.Fitting.{same_element-true}
use Rattle.ssa_model.proofs.Tables.{element-itself as same_element-itself}
use Rattle.ssa_model.proofs.Basics.{lower}

-- ---- the content is part of the mark

content-in : (o : Option Node) (p : Path) → ((c : Node) → o ≡ Some c → content_at (rows c) p ≡ content_told (marks c p))
    → content_in o p ≡ content_told (marks_in (option_map marks o) p)
content-in None p h = refl
content-in (Some c) p h = h c refl

-- the content at a path of a tree is part of what it tells there
pub content-marks : (p : Path) (n : Node) → is_tree n ≡ true → content_at (rows n) p ≡ content_told (marks n p)
content-marks [] n tree = content-root n ∙ sym (ap content_told (marks-level n []))
content-marks (e ∷ p) n tree = content-level n e p tree ∙ content-in (child_at e (below n)) p (λ c is. content-marks p c (tree-child n e c tree is))
    ∙ sym (ap content_told (marks-level n (e ∷ p)))

-- trees that tell the same have one body
pub body-same : (n m : Node) → is_tree n ≡ true → is_tree m ≡ true → SameMarks n m → body_of n ≡ body_of m
body-same n m tn tm same =
    same_map (body_of n) (body_of m) (λ p. get-body n p ∙ content-marks p n tn ∙ ap content_told (same p) ∙ sym (content-marks p m tm) ∙ sym (get-body m p))

-- ---- elements that rise are told by their members

-- an element that stands before all of these stands before each of them
pub below-any : (e x : Element) (fs : List Element) → is_below e fs ≡ true → list_any (same_element x) fs ≡ true → is_lt (element_cmp e x) ≡ true
below-any e x [] h a = absurd (true≢false (sym a))
below-any e x (f ∷ fs) h a =
    elim (same_element x f) as (λ b. same_element x f ≡ b → (b || list_any (same_element x) fs) ≡ true → is_lt (element_cmp e x) ≡ true) [
      | true ↦ λ t u. ap (λ y. is_lt (element_cmp e y)) (same_element-true x f t) ∙ both_first _ (is_below e fs) h
      | false ↦ λ t u. below-any e x fs (both_second (is_lt (element_cmp e f)) _ h) u
    ] refl a

-- no element stands before another and behind it
pub both-ways : (e f : Element) → is_lt (element_cmp e f) ≡ true → is_lt (element_cmp f e) ≡ true → ⊥
both-ways e f a b =
    let round : element_cmp e e ≡ Less = element_cmp_total.trans e f e (lower _ a) (lower _ b) in
    true≢false (sym (same_element-itself e) ∙ ap is_eq round)

-- the same elements, in any order
unfoldable pub SameMembers : List Element → List Element → Type 0
SameMembers es fs = (x : Element) → list_any (same_element x) es ≡ list_any (same_element x) fs

or_other : (a b : Bool) → a ≡ false → (a || b) ≡ true → b ≡ true
or_other true b h e = absurd (true≢false h)
or_other false b h e = e

first-same : (e f : Element) (es fs : List Element) → rises (e ∷ es) ≡ true → rises (f ∷ fs) ≡ true → SameMembers (e ∷ es) (f ∷ fs) → (b : Bool)
    → same_element e f ≡ b → b ≡ true
unfolding SameMembers
first-same e f es fs re rf same true t = refl
first-same e f es fs re rf same false t =
    let e_among : list_any (same_element e) (f ∷ fs) ≡ true = sym (same e) ∙ ap (λ b. b || list_any (same_element e) es) (same_element-itself e) in
    let f_among : list_any (same_element f) (e ∷ es) ≡ true = same f ∙ ap (λ b. b || list_any (same_element f) fs) (same_element-itself f) in
    let f_less : is_lt (element_cmp f e) ≡ true = below-any f e fs (both_first _ (rises fs) rf) (or_other (same_element e f) _ t e_among) in
    let other : same_element f e ≡ false = not_tied (element_cmp f e) f_less in
    absurd (both-ways e f (below-any e f es (both_first _ (rises es) re) (or_other (same_element f e) _ other f_among)) f_less)

rest-same : (e : Element) (es fs : List Element) → is_below e es ≡ true → is_below e fs ≡ true → SameMembers (e ∷ es) (e ∷ fs) → SameMembers es fs
unfolding SameMembers
rest-same e es fs be bf same x =
    elim (same_element x e) as (λ b. same_element x e ≡ b → (b || list_any (same_element x) es) ≡ (b || list_any (same_element x) fs)
    → list_any (same_element x) es ≡ list_any (same_element x) fs) [
      | true ↦ λ t u.
          let is : x ≡ e = same_element-true x e t in
          ap (λ y. list_any (same_element y) es) is ∙ below-apart e es be ∙ sym (below-apart e fs bf) ∙ sym (ap (λ y. list_any (same_element y) fs) is)
      | false ↦ λ t u. u
    ] refl (same x)

-- elements that rise are the same where they have the same members
pub rising-same : (es fs : List Element) → rises es ≡ true → rises fs ≡ true → SameMembers es fs → es ≡ fs
unfolding SameMembers
rising-same [] [] re rf same = refl
rising-same [] (f ∷ fs) re rf same = absurd (true≢false (ap (λ b. b || list_any (same_element f) fs) (sym (same_element-itself f)) ∙ sym (same f)))
rising-same (e ∷ es) [] re rf same = absurd (true≢false (ap (λ b. b || list_any (same_element e) es) (sym (same_element-itself e)) ∙ same e))
rising-same (e ∷ es) (f ∷ fs) re rf same =
    let is : e ≡ f = same_element-true e f (first-same e f es fs re rf same (same_element e f) refl) in
    let below_f : is_below e fs ≡ true = ap (λ y. is_below y fs) is ∙ both_first _ (rises fs) rf in
    let members : SameMembers (e ∷ es) (e ∷ fs) = subst (λ y. SameMembers (e ∷ es) (y ∷ fs)) (sym is) same in
    λ i. is i ∷ rising-same es fs (both_second _ _ re) (both_second _ _ rf) (rest-same e es fs (both_first _ (rises es) re) below_f members) i

-- ---- the content tells the order of the children, or they rise

-- children of these elements stand in the order that the content tells, or in that of their texts
abbrev pub Ordered : Content → List Element → Type 0
Ordered (leaf s) es = rises es ≡ true
Ordered (atom v) es = rises es ≡ true
Ordered record_branch es = rises es ≡ true
Ordered dict_branch es = rises es ≡ true
Ordered (list_branch os) es = os ≡ es

-- children of the same elements stand in one order, where one content tells it
pub same-ordered : (c : Content) (es fs : List Element) → Ordered c es → Ordered c fs → SameMembers es fs → es ≡ fs
same-ordered (leaf s) es fs a b same = rising-same es fs a b same
same-ordered (atom v) es fs a b same = rising-same es fs a b same
same-ordered record_branch es fs a b same = rising-same es fs a b same
same-ordered dict_branch es fs a b same = rising-same es fs a b same
same-ordered (list_branch os) es fs a b same = sym a ∙ b

leaf-ordered : (l : Leaf) → Ordered (leaf_content l) []
leaf-ordered (Scalar s) = refl
leaf-ordered (Atomic v) = refl

ordered-by : (n : Node) (c : Content) (es : List Element) → own_content n ≡ c → elements (below n) ≡ es → Ordered c es
    → Ordered (own_content n) (elements (below n))
ordered-by n c es own is h = subst (λ x. Ordered x (elements (below n))) (sym own) (subst (λ fs. Ordered c fs) (sym is) h)

ordered-made : (x : Node-F Node) → is_tree (roll-Node x) ≡ true → Ordered (own_content (roll-Node x)) (elements (below (roll-Node x)))
unfolding roll-Node denote.Hole.Carrier.roll
ordered-made (Node-F.Leaf l) h = ordered-by (LeafOf l) (leaf_content l) [] (search (rules, the_lemmas)) (search (rules, the_lemmas)) (leaf-ordered l)
ordered-made (Node-F.Branch v) h = ordered-by (Branch v) record_branch (elements v.items) (own-Branch v) (search (rules, the_lemmas))
    (both_first _ (are_fields (elements v.items)) (both_first _ (are_trees v.items) (sym (tree-Branch v) ∙ h)))
ordered-made (Node-F.Dict v) h = ordered-by (Dict v) dict_branch (elements v.items) (own-Dict v) (search (rules, the_lemmas))
    (both_first _ (are_fields (elements v.items)) (both_first _ (are_trees v.items) (sym (tree-Dict v) ∙ h)))
ordered-made (Node-F.List v) h = ordered-by (ListOf v) (list_branch (elements v.items)) (elements v.items) (own-List v) (search (rules, the_lemmas)) refl

-- the children of a tree stand in the order that its content asks for
pub ordered : (n : Node) → is_tree n ≡ true → Ordered (own_content n) (elements (below n))
ordered n h = subst (λ m. is_tree m ≡ true → Ordered (own_content m) (elements (below m))) (roll-out-Node n) (ordered-made (out-Node n)) h

-- the children of a branch may stand there
leaf-stands : (l : Leaf) (es fs : List Element) → may_stand (leaf_content l) es ≡ true → may_stand (leaf_content l) fs ≡ true
leaf-stands (Scalar s) es fs h = h
leaf-stands (Atomic v) es fs h = h

stands-by : (n : Node) (c : Content) (es : List Element) → own_content n ≡ c → elements (below n) ≡ es → may_stand c es ≡ true
    → may_stand (own_content n) (elements (below n)) ≡ true
stands-by n c es own is h = (λ i. may_stand (own i) (is i)) ∙ h

stands-made : (x : Node-F Node) (es : List Element) → is_tree (roll-Node x) ≡ true → may_stand (own_content (roll-Node x)) es ≡ true
    → may_stand (own_content (roll-Node x)) (elements (below (roll-Node x))) ≡ true
unfolding roll-Node denote.Hole.Carrier.roll
stands-made (Node-F.Leaf l) es h k =
    let own : own_content (LeafOf l) ≡ leaf_content l = search (rules, the_lemmas) in
    ap (λ c. may_stand c (elements (below (LeafOf l)))) own ∙ leaf-stands l es (elements (below (LeafOf l))) (ap (λ c. may_stand c es) (sym own) ∙ k)
stands-made (Node-F.Branch v) es h k =
    stands-by (Branch v) record_branch (elements v.items) (own-Branch v) (search (rules, the_lemmas))
    (both_first _ (are_trees v.items) (sym (tree-Branch v) ∙ h))
stands-made (Node-F.Dict v) es h k =
    stands-by (Dict v) dict_branch (elements v.items) (own-Dict v) (search (rules, the_lemmas)) (both_first _ (are_trees v.items) (sym (tree-Dict v) ∙ h))
stands-made (Node-F.List v) es h k =
    stands-by (ListOf v) (list_branch (elements v.items)) (elements v.items) (own-List v) (search (rules, the_lemmas))
    (both_first _ (are_trees v.items) (sym (tree-List v) ∙ h))

-- where children may stand at the content of a tree, its own may stand there
pub own-stands : (n : Node) (es : List Element) → is_tree n ≡ true → may_stand (own_content n) es ≡ true → may_stand (own_content n) (elements (below n)) ≡ true
own-stands n es h k =
    subst (λ m. is_tree m ≡ true → may_stand (own_content m) es ≡ true → may_stand (own_content m) (elements (below m)) ≡ true) (roll-out-Node n)
    (stands-made (out-Node n) es) h k

-- ---- a body tells the marks

SameContents : Node → Node → Type 0
SameContents n m = (p : Path) → content_at (rows n) p ≡ content_at (rows m) p

root-there : (c : Node) → content_at (rows c) [] ≡ None → ⊥
root-there c h = none-some _ (sym h ∙ content-root c)

marks-same : (p : Path) (n m : Node) → is_tree n ≡ true → is_tree m ≡ true → SameContents n m → marks n p ≡ marks m p
unfolding SameContents SameMembers
marks-same [] n m tn tm same =
    let own : own_content n ≡ own_content m = same_Some _ _ (sym (content-root n) ∙ same [] ∙ content-root m) in
    let members : SameMembers (elements (below n)) (elements (below m)) = λ e. sym (some-child n e) ∙ ap is_some (same (e ∷ [])) ∙ some-child m e in
    let es : elements (below n) ≡ elements (below m) = same-ordered (own_content n) (elements (below n)) (elements (below m)) (ordered n tn)
    (subst (λ c. Ordered c (elements (below m))) (sym own) (ordered m tm)) members in
    marks-level n [] ∙ (λ i. Some (own i, es i)) ∙ sym (marks-level m [])
marks-same (e ∷ p) n m tn tm same =
    marks-level n (e ∷ p)
    ∙ in_both (child_at e (below n)) (child_at e (below m)) (λ c is. tree-child n e c tn is) (λ c is. tree-child m e c tm is)
    (λ q. sym (content-level n e q tn) ∙ same (e ∷ q) ∙ content-level m e q tm) (marks-same p)
    ∙ sym (marks-level m (e ∷ p))
  where
    in_both : (a b : Option Node) → ((c : Node) → a ≡ Some c → is_tree c ≡ true) → ((c : Node) → b ≡ Some c → is_tree c ≡ true)
        → ((q : Path) → content_in a q ≡ content_in b q)
        → ((n m : Node) → is_tree n ≡ true → is_tree m ≡ true → SameContents n m → marks n p ≡ marks m p)
        → marks_in (option_map marks a) p ≡ marks_in (option_map marks b) p
    in_both None None ta tb h go = refl
    in_both None (Some d) ta tb h go = absurd (root-there d (sym (h [])))
    in_both (Some c) None ta tb h go = absurd (root-there c (h []))
    in_both (Some c) (Some d) ta tb h go = go c d (ta c refl) (tb d refl) h

-- trees with one body tell the same
pub body-marks : (n m : Node) → is_tree n ≡ true → is_tree m ≡ true → body_of n ≡ body_of m → SameMarks n m
unfolding SameContents
body-marks n m tn tm same p = marks-same p n m tn tm (λ q. sym (get-body n q) ∙ ap (λ b. get b q) same ∙ get-body m q)
