-- Trees whose common items stand in one order, list by list: child by child of the second.
use Rattle.std.proofs.Common.{◌≡◌, ℕ, ◌+◌, ◌<◌, ◌≤◌, ◌⊎◌, inl, inr, List, [], ◌∷◌, ◌++◌, length, get_or, take, true, false, cond, Option, Some, None, refl, sym, ap, subst, ◌∙◌}
use Rattle.std.proofs.lemmas.List.{take_all}
use Rattle.ssa_model.specs.definitions.Body.{Content, leaf, atom, record_branch, dict_branch, list_branch, over, over_content}
use Rattle.ssa_model.specs.definitions.Path.{Element, Path, same_element}
use Rattle.ssa_model.specs.definitions.Record.{is_reordered}
use Rattle.ssa_model.proofs.Basics.{some-same, some≢none as some-none}
use Rattle.ssa_model.proofs.Fitting.{same_element-true}
use Rattle.ssa_model.proofs.PathMaps.{get-over, same_map}
use Rattle.ssa_path.specs.Children.{child_at}
use Rattle.ssa_path.specs.View.{element_view}
use Rattle.ssa_path.proofs.Lists.{taken-at}
use Rattle.ssa_typed.specs.KeepsOrder.{ChildrenKeepOrder, KeepsItemOrder, TreeKeepsOrder}
use Rattle.ssa_typed.specs.MergedOrder.{places}
use Rattle.ssa_typed.specs.Points.{content_in}
use Rattle.ssa_typed.specs.Repeating.{TreeRepeats}
use Rattle.ssa_typed.specs.Rows.{below, body_of, content_at, is_tree, own_content, rows}
use Rattle.ssa_typed.specs.declared.node.Node.{Node}
use Rattle.ssa_typed.proofs.Building.{Child}
use Rattle.ssa_typed.proofs.Looks.{get-body}
use Rattle.ssa_typed.proofs.Lookups.{content-level, content-root}
use Rattle.ssa_typed.proofs.SortedOut.{absent-none, is_absent, new-place}

-- ---- one level

-- beside nothing, nothing stands in another order
pub nothing-ordered : (c : Option Content) → is_reordered c None ≡ false
nothing-ordered None = refl
nothing-ordered (Some (leaf s)) = refl
nothing-ordered (Some (atom v)) = refl
nothing-ordered (Some record_branch) = refl
nothing-ordered (Some dict_branch) = refl
nothing-ordered (Some (list_branch es)) = refl

in-order-below : (x y : Option Node) → ((c d : Node) → x ≡ Some c → y ≡ Some d → TreeKeepsOrder c d) → (p : Path)
    → is_reordered (content_in x p) (content_in y p) ≡ false
in-order-below None y h p = refl
in-order-below (Some c) None h p = nothing-ordered (content_at (rows c) p)
in-order-below (Some c) (Some d) h p = h c d refl refl p

-- where the places themselves and their children keep the order, so do the trees
pub order-level : (n m : Node) → is_tree n ≡ true → is_tree m ≡ true → is_reordered (Some (own_content n)) (Some (own_content m)) ≡ false
    → ChildrenKeepOrder (below n) (below m) → TreeKeepsOrder n m
order-level n m live config own h [] = (λ i. is_reordered (content-root n i) (content-root m i)) ∙ own
order-level n m live config own h (e ∷ p) =
    (λ i. is_reordered (content-level n e p live i) (content-level m e p config i))
    ∙ in-order-below (child_at e (below n)) (child_at e (below m)) (h e) p

-- where trees keep the order, so do the places themselves
pub order-here : (n m : Node) → TreeKeepsOrder n m → is_reordered (Some (own_content n)) (Some (own_content m)) ≡ false
order-here n m h = sym (λ i. is_reordered (content-root n i) (content-root m i)) ∙ h []

-- and so do their children
pub order-below : (n m : Node) → is_tree n ≡ true → is_tree m ≡ true → TreeKeepsOrder n m → ChildrenKeepOrder (below n) (below m)
order-below n m live config h e c d is_c is_d p =
    sym (λ i. is_reordered ((content-level n e p live ∙ ap (λ x. content_in x p) is_c) i) ((content-level m e p config ∙ ap (λ x. content_in x p) is_d) i))
    ∙ h (e ∷ p)

-- ---- of bodies

-- bodies keep the order where their trees do
pub order-bodies : (n m : Node) → TreeKeepsOrder n m → KeepsItemOrder (body_of n) (body_of m)
order-bodies n m h p = (λ i. is_reordered (get-body n p i) (get-body m p i)) ∙ h p

pub order-trees : (n m : Node) → KeepsItemOrder (body_of n) (body_of m) → TreeKeepsOrder n m
order-trees n m h p = sym (λ i. is_reordered (get-body n p i) (get-body m p i)) ∙ h p

-- a tree that repeats the other leaves its body as it is
pub repeated-body : (n m : Node) → TreeRepeats n m → KeepsItemOrder (body_of n) (body_of m) → over (body_of n) (body_of m) ≡ body_of n
repeated-body n m repeats order =
    same_map (over (body_of n) (body_of m)) (body_of n) (λ p.
    get-over (body_of n) (body_of m) p ∙ (λ i. over_content (get-body n p i) (get-body m p i)) ∙ sym (repeats p (order-trees n m order p)) ∙ sym (get-body n p))

-- ---- child by child of the second

-- the child of an element is among the first ones, or is the last
last-child : (e : Element) (xs : List Child) (x : Child) (d : Node) → child_at e (xs ++ x ∷ []) ≡ Some d
    → (child_at e xs ≡ Some d) ⊎ ((e ≡ element_view x.0) × (x.1 ≡ d))
last-child e [] x d h =
    elim (same_element e (element_view x.0)) as (λ b. same_element e (element_view x.0) ≡ b → cond b (Some x.1) None ≡ Some d
    → (◌≡◌ {A = Option Node} None (Some d)) ⊎ ((e ≡ element_view x.0) × (x.1 ≡ d))) [
      | true ↦ λ s k. inr (same_element-true e (element_view x.0) s, some-same x.1 d k)
      | false ↦ λ s k. inl k
    ] refl h
last-child e (y ∷ xs) x d h =
    elim (same_element e (element_view y.0)) as (λ b. cond b (Some y.1) (child_at e (xs ++ x ∷ [])) ≡ Some d
    → (cond b (Some y.1) (child_at e xs) ≡ Some d) ⊎ ((e ≡ element_view x.0) × (x.1 ≡ d))) [
      | true ↦ λ k. inl k
      | false ↦ λ k. last-child e xs x d k
    ] h

module _ (cs ds : List Child) (j : ℕ) (x : Child) (lt : j < length ds) (is : x ≡ get_or ds j x) (h : ChildrenKeepOrder cs (take j ds)) where
  abbrev f : Element
  f = element_view x.0

  -- the first ones keep the order, and the next one does
  one-more : ((c : Node) → child_at f cs ≡ Some c → TreeKeepsOrder c x.1) → ChildrenKeepOrder cs (take (j + 1) ds)
  one-more here e c d is_c is_d =
      elim (last-child e (take j ds) x d (ap (child_at e) (sym (taken-at ds j x lt is)) ∙ is_d)) [
        | inl before ↦ h e c d is_c before
        | inr last ↦ subst (TreeKeepsOrder c) last.1 (here c (ap (λ g. child_at g cs) (sym last.0) ∙ is_c))
      ]

  -- a child that the first lacks keeps it
  pub keeps-past-new : child_at f (places cs) ≡ None → ChildrenKeepOrder cs (take (j + 1) ds)
  keeps-past-new none =
      let absent : child_at f cs ≡ None = absent-none (child_at f cs) (sym (new-place f cs) ∙ ap is_absent none) in
      one-more (λ c there. absurd (some-none c (sym there ∙ absent)))

  -- a child that keeps it with the one of its element
  pub keeps-past : (c : Node) → child_at f cs ≡ Some c → TreeKeepsOrder c x.1 → ChildrenKeepOrder cs (take (j + 1) ds)
  keeps-past c there one = one-more (λ n found. subst (λ k. TreeKeepsOrder k x.1) (some-same c n (sym there ∙ found)) one)

-- no child is in another order so far
pub keeps-none : (cs ds : List Child) → ChildrenKeepOrder cs (take 0 ds)
keeps-none cs ds e c d is_c is_d = absurd (some-none d (sym is_d))

-- behind the last, all children keep it
pub keeps-all : (cs ds : List Child) (j : ℕ) → length ds ≤ j → ChildrenKeepOrder cs (take j ds) → ChildrenKeepOrder cs ds
keeps-all cs ds j done h = subst (ChildrenKeepOrder cs) (take_all j ds done) h
