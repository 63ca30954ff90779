-- A tree that leaves another as it is where it is put over it.
use Rattle.std.proofs.Common.{◌≡◌, ℕ, ◌+◌, inl, inr, List, [], ◌∷◌, ◌++◌, drop, true, false, not, ◌||◌, cond, Option, Some, None, Less, Equal, refl, sym, ap, subst, subst₂, ◌∙◌, append-nil, true≢false}
use Rattle.std.specs.Prelude.{slice_get}
use Rattle.ssa_model.specs.definitions.Body.{Content, leaf, atom, record_branch, dict_branch, list_branch, joined, order_at, over_content}
use Rattle.ssa_model.specs.definitions.Kind.{is_among}
use Rattle.ssa_model.specs.definitions.Path.{Element, Path, same_element}
use Rattle.ssa_model.specs.definitions.Record.{are_in_one_order, is_reordered}
use Rattle.ssa_model.proofs.Joining.{joined-in-order}
use Rattle.ssa_model.proofs.Basics.{not_false, some≢none as some-none}
use Rattle.ssa_path.specs.Children.{child_at, elements, heads_order, rises}
use Rattle.ssa_path.specs.declared.element.Elem.{Elem}
use Rattle.ssa_path.specs.View.{element_view}
use Rattle.ssa_typed.specs.Alike.{are_branches_alike}
use Rattle.ssa_typed.specs.Points.{content_in}
use Rattle.ssa_typed.specs.Repeating.{ChildrenRepeat, Repeats, TreeRepeats}
use Rattle.ssa_typed.specs.Rows.{below, content_at, is_tree, own_content, rows}
use Rattle.ssa_typed.specs.Same.{AreLeft, AreSame, IsLeft}
use Rattle.ssa_typed.specs.declared.node.Node.{Node}
use Rattle.ssa_typed.specs.declared.node.Node.TheViews.{out-Node}
use Rattle.ssa_typed.proofs.Lookups.{child_at-none, content-level, content-root}
use Rattle.ssa_typed.proofs.Making.{IsFront, front-both, front-own}
use Rattle.ssa_typed.proofs.OverNodes.{is_listing, dict-alone, order-made, record-alone}
use Rattle.ssa_typed.proofs.Overlaying.{over-none}
use Rattle.ssa_typed.proofs.Pairs.{joined-alike, none-pass}
use Rattle.ssa_typed.proofs.References.{left-read}

-- ---- the children that are left

-- the second child, put over the first, leaves it as it is, where the items of both stand in one order
abbrev pub RepeatsIn : Option Node → Option Node → Type 0
RepeatsIn x y = (p : Path) → Repeats (content_in x p) (content_in y p)

-- so do all the children
abbrev pub RepeatChildren : List (Elem × Node) → List (Elem × Node) → Type 0
RepeatChildren cs ds = ChildrenRepeat cs ds

-- where the children in front leave the others as they are, and what is left behind them does, all do
repeat-front : (f : Element) (x y : Option Node) (cs0 ds0 cs ds : List (Elem × Node)) → IsFront f x y cs0 ds0 cs ds → RepeatsIn x y → RepeatChildren cs ds
    → RepeatChildren cs0 ds0
repeat-front f x y cs0 ds0 cs ds front here rest e =
    subst₂ RepeatsIn (sym (front.own e)) (sym (front.other e))
    (elim (same_element e f) as (λ b. RepeatsIn (cond b x (child_at e cs)) (cond b y (child_at e ds))) [
      | true ↦ here
      | false ↦ rest e
    ])

module _ (cs0 ds0 : List (Elem × Node)) (i j : ℕ) (own_rise : rises (elements (drop i cs0)) ≡ true) (others_rise : rises (elements (drop j ds0)) ≡ true) where
  -- a child that only the first tree has stays as it is
  pub repeat-past-lost : (c : Elem × Node) → heads_order (drop i cs0) (drop j ds0) ≡ Some Less → slice_get cs0 i ≡ Some c
      → RepeatChildren (drop (i + 1) cs0) (drop j ds0) → RepeatChildren (drop i cs0) (drop j ds0)
  repeat-past-lost c order is rest =
      let cs = drop (i + 1) cs0 in
      let ds = drop j ds0 in
      let left = left-read cs0 i c is in
      let front = front-own c cs ds (subst (λ l. heads_order l ds ≡ Some Less) left order) (subst (λ l. rises (elements l) ≡ true) left own_rise)
      others_rise in
      subst (λ l. RepeatChildren l ds) (sym left) (repeat-front (element_view c.0) (Some c.1) None (c ∷ cs) ds cs ds front (λ p ordered. refl) rest)

  -- a child that both have stays where the one tree leaves the other as it is
  pub repeat-past-both : (c b : Elem × Node) → heads_order (drop i cs0) (drop j ds0) ≡ Some Equal → slice_get cs0 i ≡ Some c → slice_get ds0 j ≡ Some b
      → TreeRepeats c.1 b.1
      → RepeatChildren (drop (i + 1) cs0) (drop (j + 1) ds0) → RepeatChildren (drop i cs0) (drop j ds0)
  repeat-past-both c b order is_c is_b here rest =
      let cs = drop (i + 1) cs0 in
      let ds = drop (j + 1) ds0 in
      let own = left-read cs0 i c is_c in
      let other = left-read ds0 j b is_b in
      let front = front-both c b cs ds (subst₂ (λ l k. heads_order l k ≡ Some Equal) own other order)
      (subst (λ l. rises (elements l) ≡ true) own own_rise) (subst (λ l. rises (elements l) ≡ true) other others_rise) in
      subst₂ RepeatChildren (sym own) (sym other)
      (repeat-front (element_view c.0) (Some c.1) (Some b.1) (c ∷ cs) (b ∷ ds) cs ds front here rest)

over-itself : (o : Option Content) → o ≡ over_content o o
over-itself None = refl
over-itself (Some (leaf s)) = refl
over-itself (Some (atom v)) = refl
over-itself (Some record_branch) = refl
over-itself (Some dict_branch) = refl
over-itself (Some (list_branch es)) = ap (λ l. Some (list_branch l)) (sym (joined-alike es es refl))

-- a tree that is the other leaves its contents as they are
same-repeats : (n m : Node) → AreSame n m → RepeatsIn (Some n) (Some m)
same-repeats n m same p ordered = over-itself (content_at (rows n) p) ∙ ap (over_content (content_at (rows n) p)) (sym (same p))

-- where what is left under an element leaves the first as it is, so does all that stands under it
pub left-repeats : (x y own other : Option Node) → IsLeft x y own other → RepeatsIn own other → RepeatsIn x y
left-repeats x y own other h rest = elim h [
  | inl (is, other_is) ↦ subst₂ RepeatsIn is other_is rest
  | inr (pair, none, none_other) ↦ subst₂ RepeatsIn (sym pair.own_is) (sym pair.other_is) (same-repeats pair.own pair.other pair.same)
]

-- where no child is left and the children so far stay, all that is below the first node stays
pub repeat-all : (cs0 ds0 : List (Elem × Node)) (n m : Node) (cs ds : List (Elem × Node)) → AreLeft (below n) (below m) cs0 ds0 → cs ≡ [] → ds ≡ []
    → (RepeatChildren cs ds → RepeatChildren cs0 ds0) → RepeatChildren (below n) (below m)
repeat-all cs0 ds0 n m cs ds left none_own none_other so_far e =
    left-repeats (child_at e (below n)) (child_at e (below m)) (child_at e cs0) (child_at e ds0) (left.each e) (so_far none-left e)
  where
    none-left : RepeatChildren cs ds
    none-left f = subst₂ (λ ks ls. RepeatsIn (child_at f ks) (child_at f ls)) (sym none_own) (sym none_other) (λ p ordered. refl)

-- ---- two places themselves

child-there : (e : Element) (cs : List (Elem × Node)) → is_among e (elements cs) ≡ true → (c : Node) × (child_at e cs ≡ Some c)
child-there e [] among = absurd (true≢false (sym among))
child-there e (c ∷ cs) among =
    elim (same_element e (element_view c.0)) as (λ b. (b || is_among e (elements cs)) ≡ true → (d : Node) × (cond b (Some c.1) (child_at e cs) ≡ Some d)) [
      | true ↦ λ h. (c.1, refl)
      | false ↦ λ h. child-there e cs h
    ] among

-- each child of the second tree is one of the first
child-known : (cs ds : List (Elem × Node)) → RepeatChildren cs ds → (e : Element) → is_among e (elements ds) ≡ true → is_among e (elements cs) ≡ true
child-known cs ds h e among =
    elim (is_among e (elements cs)) as (λ b. is_among e (elements cs) ≡ b → b ≡ true) [
      | true ↦ λ is. refl
      | false ↦ λ is.
          let none = child_at-none e cs is in
          let d = child-there e ds among in
          let found : content_in (child_at e ds) [] ≡ Some (own_content d.0) = ap (λ o. content_in o []) d.1 ∙ content-root d.0 in
          let stays : None ≡ over_content None (content_in (child_at e ds) []) = subst (λ o. Repeats (content_in o [])
          (content_in (child_at e ds) [])) none (h e []) refl in
          absurd (some-none (own_content d.0) (sym found ∙ sym (over-none (content_in (child_at e ds) [])) ∙ sym stays))
    ] refl

known-order : (es fs : List Element) → are_in_one_order es fs ≡ true → ((e : Element) → is_among e fs ≡ true → is_among e es ≡ true) → joined es fs ≡ es
known-order es fs ordered h = joined-in-order es fs ordered ∙ ap (λ l. es ++ l) (none-pass (λ f. not (is_among f es)) fs (λ e among. ap not (h e among))) ∙ append-nil es

repeat-content : (c d : Content) → are_branches_alike c d ≡ true
    → (is_listing c ≡ true → is_listing d ≡ true → joined (order_at (Some c)) (order_at (Some d)) ≡ order_at (Some c))
    → Some c ≡ over_content (Some c) (Some d)
unfolding is_listing
repeat-content c (leaf s) h k = absurd (true≢false (sym h))
repeat-content c (atom v) h k = absurd (true≢false (sym h))
repeat-content c record_branch h k = ap (λ x. Some x) (sym (record-alone c h))
repeat-content c dict_branch h k = ap (λ x. Some x) (sym (dict-alone c h))
repeat-content (leaf s) (list_branch fs) h k = absurd (true≢false (sym h))
repeat-content (atom v) (list_branch fs) h k = absurd (true≢false (sym h))
repeat-content record_branch (list_branch fs) h k = absurd (true≢false (sym h))
repeat-content dict_branch (list_branch fs) h k = absurd (true≢false (sym h))
repeat-content (list_branch es) (list_branch fs) h k = ap (λ l. Some (list_branch l)) (sym (k refl refl))

one-order : (c d : Content) → is_listing c ≡ true → is_listing d ≡ true → is_reordered (Some c) (Some d) ≡ false
    → are_in_one_order (order_at (Some c)) (order_at (Some d)) ≡ true
unfolding is_listing
one-order (list_branch es) (list_branch fs) a b h = not_false (are_in_one_order es fs) h
one-order (list_branch es) (leaf s) a b h = absurd (true≢false (sym b))
one-order (list_branch es) (atom v) a b h = absurd (true≢false (sym b))
one-order (list_branch es) record_branch a b h = absurd (true≢false (sym b))
one-order (list_branch es) dict_branch a b h = absurd (true≢false (sym b))
one-order (leaf s) d a b h = absurd (true≢false (sym a))
one-order (atom v) d a b h = absurd (true≢false (sym a))
one-order record_branch d a b h = absurd (true≢false (sym a))
one-order dict_branch d a b h = absurd (true≢false (sym a))

module _ (n m : Node) (before : is_tree n ≡ true) (after : is_tree m ≡ true)
    (sort : are_branches_alike (own_content n) (own_content m) ≡ true) (h : RepeatChildren (below n) (below m)) where
  order : is_reordered (Some (own_content n)) (Some (own_content m)) ≡ false → is_listing (own_content n) ≡ true → is_listing (own_content m) ≡ true
      → joined (order_at (Some (own_content n))) (order_at (Some (own_content m))) ≡ order_at (Some (own_content n))
  order ordered a b =
      let own = order-made (out-Node n) a in
      let other = order-made (out-Node m) b in
      (λ i. joined (own i) (other i))
      ∙ known-order (elements (below n)) (elements (below m)) (sym (λ i. are_in_one_order (own i) (other i)) ∙ one-order (own_content n) (own_content m) a b ordered)
      (child-known (below n) (below m) h)
      ∙ sym own

  -- where both are branches of one sort and each child stays, so does the first tree
  pub repeat-level : TreeRepeats n m
  repeat-level [] =
      subst₂ Repeats (sym (content-root n)) (sym (content-root m))
      (λ ordered. repeat-content (own_content n) (own_content m) sort (order ordered))
  repeat-level (e ∷ p) = subst₂ Repeats (sym (content-level n e p before)) (sym (content-level m e p after)) (h e p)

-- a tree that is the other leaves it as it is
pub repeat-same : (n m : Node) → is_tree n ≡ true → AreSame n m → TreeRepeats n m
repeat-same n m before same = same-repeats n m same
