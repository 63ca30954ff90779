-- A configuration put over a live tree, of which some places go, at one place and at its children.
use Rattle.std.proofs.Common.{◌≡◌, ℕ, get_or, ◌+◌, ◌-◌, ◌<◌, List, [], ◌∷◌, ◌++◌, length, map, drop, Bool, true, false, not, Option, Some, None, refl, sym, ap, subst, ◌∙◌, arith, append-nil, true≢false}
use Rattle.std.specs.Prelude.{filter, is_some}
use Rattle.std.specs.List.{list_any}
use Rattle.std.proofs.lemmas.List.{drop_more, length-drop, length-map, nil_from_length}
use Rattle.ssa_model.specs.definitions.Body.{Content, leaf, atom, record_branch, dict_branch, list_branch, joined, order_at, over_content}
use Rattle.ssa_model.specs.definitions.Kind.{is_among}
use Rattle.ssa_model.specs.definitions.Path.{Element, Path, same_element}
use Rattle.ssa_model.specs.definitions.Record.{are_in_one_order, is_reordered}
use Rattle.ssa_model.proofs.Basics.{not_false}
use Rattle.ssa_path.specs.Children.{child_at, elements, rises}
use Rattle.ssa_path.specs.View.{element_view}
use Rattle.ssa_path.specs.declared.element.Elem.{Elem}
use Rattle.ssa_path.specs.declared.trie.Trie.{Trie}
use Rattle.ssa_path.proofs.Lists.{left-at}
use Rattle.ssa_typed.specs.Alike.{are_alike}
use Rattle.ssa_typed.specs.MergedOrder.{beside, is_new}
use Rattle.ssa_typed.specs.Over.{AreAlikeBelow, AreAlikeTrees}
use Rattle.ssa_typed.specs.Points.{content_in}
use Rattle.ssa_typed.specs.Restricted.{part_at}
use Rattle.ssa_typed.specs.Rows.{are_apart, are_trees, below, below_of, content_at, content_of, is_tree, own_content, rows}
use Rattle.ssa_typed.specs.declared.node.Leaf.{Leaf as LeafType}
use Rattle.ssa_typed.specs.declared.node.Leaf.TheVariants.{Scalar, Atomic}
use Rattle.ssa_typed.specs.declared.node.Node.{Node, Leaf as LeafOf}
use Rattle.ssa_typed.specs.declared.node.Node.TheOpen.{Node-F}
use Rattle.ssa_typed.specs.declared.node.Node.TheViews.{out-Node}
use Rattle.ssa_typed.proofs.Lookups.{child-tree, content-level, content-root}
use Rattle.ssa_typed.proofs.OverNodes.{leaf-over}
use Rattle.ssa_typed.proofs.Overlaying.{alike-root, child-at-index, new-child}
use Rattle.ssa_typed.proofs.Pairs.{element-beside, joined-alike, same-length}
use Rattle.ssa_typed.proofs.SortedOut.{whole-child}
use Rattle.ssa_typed.proofs.Restricting.{below_set}
use Rattle.ssa_turn_body.specs.Applying.{Gone, IsAlikeOver, IsApplied, IsAppliedBelow, IsApplying, IsApplyingBelow, MayPart, MayPartBelow, behind, gone_below, node_of, stays_of}
use Rattle.ssa_turn_body.specs.Marks.{Child, TellAlike, marks, may_stand, with_order}
use Rattle.ssa_turn_body.specs.Told.{content_told}
use Rattle.ssa_turn_body.specs.Turnovers.{MayTurnOver, Passing, is_still, none_passes, with_all_come}
use Rattle.ssa_turn_body.specs.declared.steps.Step.{Step}
use Rattle.ssa_turn_body.proofs.BodyMarks.{content-marks, own-stands}
use Rattle.ssa_turn_body.proofs.Coming.{after-coming, before-coming, comers-coming, coming, coming-all, joined-left, joined-stand}
use Rattle.ssa_turn_body.proofs.Fates.{after, before}
use Rattle.ssa_turn_body.proofs.Finishing.{stand-apart}
use Rattle.ssa_turn_body.proofs.GoodFates.{still-names, whole-part}
use Rattle.ssa_turn_body.proofs.Leaving.{behind-trie, here-gone, left-names, none-behind, stand-filter}
use Rattle.ssa_turn_body.proofs.Meeting.{IsMeeting}
use Rattle.ssa_turn_body.proofs.Passing.{passing-place}
use Rattle.ssa_turn_body.proofs.Recording.{leading-same}
use Rattle.ssa_turn_body.proofs.Walking.{child-among}

-- ---- a child that both have

over-same : (c : Option Content) → over_content c c ≡ c
over-same None = refl
over-same (Some (leaf s)) = refl
over-same (Some (atom v)) = refl
over-same (Some record_branch) = refl
over-same (Some dict_branch) = refl
over-same (Some (list_branch es)) = ap (λ l. Some (list_branch l)) (joined-alike es es refl)

-- a tree put over one that tells the same leaves it as it is
pub same-applying : (p : Path) (gone : Gone) (n m : Node) (steps : List Step) → is_tree n ≡ true → is_tree m ≡ true → MayPart gone n (Some m) → TellAlike n m
    → IsApplying p gone n (Some m) steps steps
same-applying p gone n m steps tree tree_m may same =
    let contents : (q : Path) → content_at (rows n) q ≡ content_at (rows m) q =
    λ q. content-marks q n tree ∙ ap content_told (same q) ∙ sym (content-marks q m tree_m) in (
      n,
      record {
        tree = tree;
        content = λ q.
            sym (ap (λ c. part_at (stays_of gone) q (over_content (content_at (rows n) q) c)) (sym (contents q))
            ∙ ap (part_at (stays_of gone) q) (over-same (content_at (rows n) q))
            ∙ whole-part n tree (stays_of gone) (λ r there. ap not (may.kept r (ap is_some (sym (contents r)) ∙ there))) q);
      },
      leading-same p (marks n) (marks n) steps steps refl (λ q. refl),
    )

module _ (ts : List (Elem × Trie)) (rise : rises (elements ts) ≡ true) (e : Element) (n m : Node) (may : MayPart (behind e (gone_below ts)) n (Some m)) where
  -- what goes behind the element of a child that the configuration has is told by the tries below the element's
  pub behind-kept : (t : Trie) → child_at e ts ≡ Some t → behind e (gone_below ts) ≡ gone_below (below_set t)
  behind-kept t there = behind-trie ts rise e t there (sym (here-gone ts rise e t there) ∙ may.kept [] (ap is_some (content-root m)))

  -- where there is no trie of the element, nothing goes
  pub behind-nothing : child_at e ts ≡ None → behind e (gone_below ts) ≡ gone_below []
  behind-nothing none = λ i q. none-behind ts rise e none q i

-- ---- a leaf

-- a leaf put over a leaf is what is there then
pub leaf-applied : (gone : Gone) (n m : Node) (l : LeafType) → is_tree n ≡ true → is_tree m ≡ true → AreAlikeTrees n m → MayPart gone n (Some m)
    → m ≡ LeafOf l
    → IsApplied gone n (Some m) m
leaf-applied gone n m l tree tree_m alike may is =
    let over = leaf-over n m tree tree_m alike l is in
    record {
      tree = tree_m;
      content = λ q.
          sym (ap (part_at (stays_of gone) q) (sym (over.content q) ∙ ap (λ x. content_at (rows x) q) (sym is))
          ∙ whole-part m tree_m (stays_of gone) (λ r there. ap not (may.kept r there)) q);
    }

-- ---- a place

-- a list's items are its children
listed-items : (x : Node-F Node) (fs : List Element) → content_of x ≡ list_branch fs → fs ≡ elements (below_of x)
listed-items (Node-F.Leaf (Scalar s)) fs h = cc
listed-items (Node-F.Leaf (Atomic v)) fs h = cc
listed-items (Node-F.Branch v) fs h = cc
listed-items (Node-F.Dict v) fs h = cc
listed-items (Node-F.List v) fs h = let same : list_branch fs ≡ list_branch (elements v.items) = sym h in ap (λ c. order_at (Some c)) same

-- where alike places keep the order, the children of the second do, were they a list's
items-ordered : (c d : Content) (es : List Element) → are_alike (Some c) (Some d) ≡ true → ((fs : List Element) → d ≡ list_branch fs → fs ≡ es)
    → is_reordered (Some c) (Some d) ≡ false → is_reordered (Some c) (Some (list_branch es)) ≡ false
items-ordered (leaf s) d es alike own h = refl
items-ordered (atom v) d es alike own h = refl
items-ordered record_branch d es alike own h = refl
items-ordered dict_branch d es alike own h = refl
items-ordered (list_branch os) (leaf s) es alike own h = absurd (true≢false (sym alike))
items-ordered (list_branch os) (atom v) es alike own h = absurd (true≢false (sym alike))
items-ordered (list_branch os) record_branch es alike own h = absurd (true≢false (sym alike))
items-ordered (list_branch os) dict_branch es alike own h = absurd (true≢false (sym alike))
items-ordered (list_branch os) (list_branch fs) es alike own h = ap (λ l. is_reordered (Some (list_branch os)) (Some (list_branch l))) (sym (own fs refl)) ∙ h

-- what may part of a tree may part of its place
pub may-below : (gone : Gone) (n m : Node) (ds : List Child) → is_tree n ≡ true → is_tree m ≡ true → AreAlikeTrees n m → below m ≡ ds
    → MayPart gone n (Some m) → MayPartBelow gone n ds
may-below gone n m ds tree_n tree alike is may = record {
  items = items-ordered (own_content n) (own_content m) (elements ds) (alike-root n m alike) (λ fs own. listed-items (out-Node m) fs own ∙ ap elements is)
      (sym (λ i. is_reordered (content-root n i) (content-root m i)) ∙ may.order []);
  order = λ e p.
      sym (λ i. is_reordered (content-level n e p tree_n i) ((content-level m e p tree ∙ ap (λ l. content_in (child_at e l) p) is) i)) ∙ may.order (e ∷ p);
  root = may.kept [] (ap is_some (content-root m));
  kept = λ e p some. may.kept (e ∷ p) (ap is_some (content-level m e p tree ∙ ap (λ l. content_in (child_at e l) p) is) ∙ some);
  whole = may.whole;
}

-- a place with the configuration's children over its own is the live tree with the configuration over it
pub place-applied : (gone : Gone) (n m to : Node) (ds : List Child) → is_tree n ≡ true → is_tree m ≡ true → below m ≡ ds
    → with_order (own_content n) (elements ds) ≡ own_content m → IsAppliedBelow gone n ds to → IsApplied gone n (Some m) to
place-applied gone n m to ds tree tree_m is own h = record { tree = h.tree; content = at }
  where
    at : (q : Path) → content_at (rows to) q ≡ part_at (stays_of gone) q (over_content (content_at (rows n) q) (content_at (rows m) q))
    at [] =
        content-root to ∙ h.own
        ∙ (λ i. part_at (stays_of gone) [] (over_content (sym (content-root n) i) ((ap (λ c. Some c) own ∙ sym (content-root m)) i)))
    at (e ∷ q) =
        h.contents e q
        ∙ (λ i. part_at (stays_of gone) (e ∷ q) (over_content (sym (content-level n e q tree) i)
        ((ap (λ l. content_in (child_at e l) q) (sym is) ∙ sym (content-level m e q tree_m)) i)))

-- a child is alike to what is put over it
pub alike-over : (live config : List Child) (e : Element) (c : Node) (o : Option Node) → child_at e live ≡ Some c → child_at e config ≡ o
    → are_trees config ≡ true
    → AreAlikeBelow live config → IsAlikeOver c o
alike-over live config e c None there is trees alike = tt
alike-over live config e c (Some d) there is trees alike = (child-tree e config d trees is, alike e c d there is)

-- ---- children that stand alike

none-found : (o : Option Node) → is_some o ≡ false → o ≡ None
none-found None h = refl
none-found (Some c) h = absurd (true≢false h)

some-found : (e : Element) (ds : List Child) → is_among e (elements ds) ≡ true → is_some (content_in (child_at e ds) []) ≡ true
some-found e ds among = by (child_at e ds) (child-among e ds ∙ among)
  where
    by : (o : Option Node) → is_some o ≡ true → is_some (content_in o []) ≡ true
    by None h = h
    by (Some c) h = ap is_some (content-root c)

module _ (p : Path) (gone : Gone) (live : Node) (config : List Child) (old : List Step) (i count : ℕ) (t : Passing) (steps : List Step)
    (tree : is_tree live ≡ true) (trees : are_trees config ≡ true) (stand : may_stand (own_content live) (elements config) ≡ true) (may : MayPartBelow gone live config)
    (h : IsMeeting p gone live config old i count t steps) (all : drop i (below live) ≡ []) where
  abbrev cs : List Child
  cs = below live

  abbrev test : Element → Bool
  test e = not (gone (e ∷ []))

  met : before h.fates ≡ cs
  met = sym (append-nil (before h.fates)) ∙ ap (λ l. before h.fates ++ l) (sym all) ∙ sym h.whole

  names : elements (after h.fates) ≡ filter test (elements cs)
  names = left-names gone cs config h.fates h.none h.passing.good ∙ ap (λ l. filter test (elements l)) met

  kept : (e : Element) → is_among e (elements config) ≡ true → test e ≡ true
  kept e among = ap not (may.kept e [] (some-found e config among))

  -- children that stand alike all stay, and no edit is made
  pub alike-applying : elements cs ≡ elements config → t ≡ none_passes → IsApplyingBelow p gone live config old steps
  alike-applying same none =
      passing-place p gone live config old h.fates count t steps steps tree met h.passing
      (ap (may_stand (own_content live)) (sym (still-names gone cs config h.fates h.passing.good
      (ap is_still (sym h.passing.told ∙ none))) ∙ ap elements met ∙ same) ∙ stand)
      (subst (λ u. MayTurnOver (is_still u) p u count steps steps) (sym none) refl) may trees
      (λ e absent. ap (child_at e) h.none ∙ sym (none-found (child_at e config)
      (child-among e config ∙ ap (list_any (same_element e)) (sym same) ∙ sym (child-among e cs) ∙ ap is_some absent)))
      (λ os is. names ∙ ap (filter test) (sym (joined-alike (elements cs) (elements config) same)))

  -- ---- the items of a list

  -- the live items stay or go, and those of the configuration alone come behind them
  pub items-applying : (u : Passing) (n : ℕ) (new : List Step) → own_content live ≡ list_branch (elements cs)
      → u ≡ with_all_come count (filter (is_new cs) config) t
      → n ≡ count + length (filter (is_new cs) config) → MayTurnOver (is_still u) p u n steps new → IsApplyingBelow p gone live config old new
  items-applying u n new listed come count_is turned =
      let fresh = filter (is_new cs) config in
      let fs = h.fates ++ coming fresh in
      let apart = stand-apart (own_content live) (elements config) stand in
      let passing = coming-all p gone live config old steps apart trees fresh h.fates count t h.passing (ap (λ l. l ++ fresh) h.none) met in
      let order : elements (after fs) ≡ filter test (joined (elements cs) (elements config)) =
      ap elements (after-coming h.fates fresh) ∙ joined-left test cs config (after h.fates)
      (not_false (are_in_one_order (elements cs) (elements config)) (ap (λ c. is_reordered (Some c) (Some (list_branch (elements config)))) (sym listed) ∙ may.items)) names kept in
      let own_stand = ap (λ c. may_stand c (elements cs)) (sym listed) ∙ own-stands live (elements config) tree stand in
      let config_stand = ap (λ c. may_stand c (elements config)) (sym listed) ∙ stand in
      passing-place p gone live config old fs (count + length fresh) (with_all_come count fresh t) steps new tree (before-coming h.fates fresh ∙ met) passing
      (ap (may_stand (own_content live)) order
      ∙ ap (λ c. may_stand c (filter test (joined (elements cs) (elements config)))) listed
      ∙ stand-filter (list_branch (elements cs)) test (joined (elements cs) (elements config))
      (joined-stand (elements cs) (elements cs) (elements config) own_stand config_stand))
      (subst (λ k. MayTurnOver (is_still (with_all_come count fresh t)) p (with_all_come count fresh t) k steps new) count_is
      (subst (λ v. MayTurnOver (is_still v) p v n steps new) come turned)) may trees
      (λ e absent. ap (child_at e) (comers-coming h.fates fresh ∙ ap (λ l. l ++ fresh) h.none) ∙ new-child cs config e absent)
      (λ os is. order)

-- ---- the child at a place of those that stand alike

first-of : {X : Type 0} (x y : X) (xs ys : List X) → x ∷ xs ≡ y ∷ ys → x ≡ y
first-of x y xs ys h = cc

rest-of : {X : Type 0} (x y : X) (xs ys : List X) → x ∷ xs ≡ y ∷ ys → xs ≡ ys
rest-of x y xs ys h = cc

module _ (cs ds xs : List Child) (i : ℕ) (c d : Child) (same : elements cs ≡ elements ds) (apart : are_apart (elements cs) ≡ true) (lt : i < length ds)
    (own : c ≡ get_or cs i c) (read : d ≡ get_or xs i d) (left : drop i xs ≡ drop i ds) where
  -- there is a live child at the place
  pub alike-within : i < length cs
  alike-within = let long = same-length cs ds same in omega arith

  -- what is left there is within, too
  pub left-there : i < length xs
  left-there =
      let sizes : length xs - i ≡ length ds - i = sym (length-drop i xs) ∙ ap length left ∙ length-drop i ds in
      omega arith

  parts : get_or xs i d ∷ drop (i + 1) xs ≡ get_or ds i d ∷ drop (i + 1) ds
  parts = sym (drop_more xs i d left-there) ∙ left ∙ drop_more ds i d lt

  -- what is left behind it is the same
  pub left-more : drop (i + 1) xs ≡ drop (i + 1) ds
  left-more = rest-of _ _ _ _ parts

  -- the configuration's child of the live one's element is the one at its place
  pub alike-there : child_at (element_view c.0) ds ≡ Some d.1
  alike-there =
      let is : d ≡ get_or ds i d = read ∙ first-of _ _ _ _ parts in
      let name : element_view c.0 ≡ element_view d.0 = element-beside cs ds i c d alike-within lt own is same in
      ap (λ e. child_at e ds) name ∙ child-at-index ds i d lt is (ap are_apart (sym same) ∙ apart)

-- ---- the slots beside the live children

slot-lists : (x : Option Child) (xs ys : List (Option Child)) → x ∷ xs ≡ ys → 0 < length ys
slot-lists x xs ys h = let long : length (x ∷ xs) ≡ length ys = ap length h in omega arith

module _ (cs ds : List Child) (i : ℕ) (slot : Option Child) (all slots : List (Option Child)) (is : all ≡ slot ∷ slots)
    (so : all ≡ map (beside ds) (drop i cs)) where
  -- there is a live child beside the next slot
  pub slot-within : i < length cs
  slot-within =
      let some = slot-lists slot slots (map (beside ds) (drop i cs)) (sym is ∙ so) in
      let long : length (map (beside ds) (drop i cs)) ≡ length cs - i = length-map (drop i cs) (beside ds) ∙ length-drop i cs in
      omega arith

  module _ (c : Child) (own : c ≡ get_or cs i c) where
    slot-parts : slot ∷ slots ≡ beside ds c ∷ map (beside ds) (drop (i + 1) cs)
    slot-parts = sym is ∙ so ∙ ap (map (beside ds)) (left-at cs i c slot-within own)

    -- the slot has the configuration's child of the live one's element
    pub slot-there : node_of slot ≡ child_at (element_view c.0) ds
    slot-there = ap node_of (first-of _ _ _ _ slot-parts) ∙ sym (whole-child (element_view c.0) ds)

    -- what is left are the slots of the live children left
    pub slots-more : slots ≡ map (beside ds) (drop (i + 1) cs)
    slots-more = rest-of _ _ _ _ slot-parts

-- behind the last slot no live child is left
pub slots-end : (cs ds : List Child) (i : ℕ) (slots : List (Option Child)) → slots ≡ map (beside ds) (drop i cs) → slots ≡ [] → drop i cs ≡ []
slots-end cs ds i slots so none =
    nil_from_length (drop i cs) (sym (length-map (drop i cs) (beside ds)) ∙ ap length (sym so ∙ none))
