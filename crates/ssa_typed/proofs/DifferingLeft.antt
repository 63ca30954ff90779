-- What differs is told by the children that are left without those that are one.
use Rattle.std.proofs.Common.{◌≡◌, ℕ, ◌-◌, ◌^◌, min, inl, inr, List, [], ◌∷◌, Bool, true, false, not, Option, Some, None, refl, sym, ap, subst₂, ◌∙◌, true≢false, arith}
use Rattle.ssa_model.specs.definitions.Body.{Content, leaf, atom, record_branch, dict_branch, list_branch, is_leaf, is_other_leaf}
use Rattle.ssa_model.specs.definitions.Path.{Element, Path}
use Rattle.ssa_path.specs.Children.{child_at}
use Rattle.ssa_path.specs.declared.element.Elem.{Elem}
use Rattle.ssa_path.specs.declared.trie.Trie.{Trie}
use Rattle.ssa_path.proofs.Orders.{both_first}
use Rattle.ssa_typed.specs.Alike.{are_branches_alike}
use Rattle.ssa_typed.specs.Differences.{Difference, Added, Modified, Removed, differs, AreDiffering, AreUnchanged, IsDiffering, IsUntold}
use Rattle.ssa_typed.specs.Repeating.{TreeRepeats}
use Rattle.ssa_typed.specs.NewPlaces.{new_below}
use Rattle.ssa_typed.specs.Points.{content_in, is_in_dict}
use Rattle.ssa_typed.specs.Rows.{below, is_tree, own_content}
use Rattle.ssa_typed.specs.Same.{AreLeft, IsLeft, IsSamePair}
use Rattle.ssa_typed.specs.declared.compare.PartsBelow.{PartsBelow}
use Rattle.ssa_typed.specs.declared.compare.Scope.{Scope}
use Rattle.ssa_typed.specs.declared.node.Node.{Node}
use Rattle.ssa_typed.proofs.Building.{Child}
use Rattle.ssa_typed.proofs.Differing.{AreComparing, IsComparing, IsNewSoFar, tells-nothing}
use Rattle.ssa_typed.proofs.Lookups.{content-level, content-root}
use Rattle.ssa_typed.proofs.Making.{making-all}
use Rattle.ssa_typed.proofs.NewPlaces.{left-new}
use Rattle.ssa_typed.proofs.Repeating.{left-repeats, repeat-level}
use Rattle.ssa_typed.proofs.Unchanged.{same-unchanged, untold, untold-by}

-- ---- nothing is told of what is not left

pair-untold : (x y : Option Node) (p : Path) → IsSamePair x y → IsUntold (content_in x p) (content_in y p)
pair-untold x y p h =
    subst₂ (λ c d. IsUntold (content_in c p) (content_in d p)) (sym h.own_is) (sym h.other_is) (same-unchanged h.own h.other h.same p)

-- what is told under an element is told by what is left there
left-differs : (what : Difference) (d : Bool) (e : Element) (x y own other : Option Node) (p : Path) → IsLeft x y own other
    → differs what d e own other p ≡ differs what d e x y p
left-differs what d e x y own other p h = elim h [
  | inl (is, other_is) ↦ λ i. differs what d e (is i) (other_is i) p
  | inr (pair, none, none_other) ↦
      (λ i. differs what d e (none i) (none_other i) p) ∙ tells-nothing what d e p ∙ sym (untold what d e x y p (pair-untold x y p pair))
]

-- ---- where no child is left

module _ (what : Difference) (d : Bool) (cs0 ds0 : List Child) where
  -- the tries hold what differs below the two nodes
  comparing-all : (n m : Node) (cs ds : List Child) (out : List (Elem × Trie)) → d ≡ is_in_dict m → AreLeft (below n) (below m) cs0 ds0 → cs ≡ [] → ds ≡ []
      → IsComparing what d cs0 ds0 cs ds out → IsDiffering what n m out
  comparing-all n m cs ds out is left none_own none_other h =
      let made = making-all (differs what d) cs0 ds0 cs ds out (tells-nothing what d) none_own none_other h in
      record {
        paths_are = λ e p.
            made.paths_are e p
            ∙ left-differs what d e (child_at e (below n)) (child_at e (below m)) (child_at e cs0) (child_at e ds0) p (left.each e)
            ∙ ap (λ b. differs what b e (child_at e (below n)) (child_at e (below m)) p) is;
        risen = made.risen;
        tries = made.tries;
      }

-- as many places are counted as are new below the two nodes
new-all : (cs0 ds0 : List Child) (n m : Node) (cs ds : List Child) (count : ℕ) → is_tree m ≡ true → AreLeft (below n) (below m) cs0 ds0 → ds ≡ []
    → IsNewSoFar cs0 ds0 cs ds count → count ≡ min (new_below (below n) (below m)) (2 ^ 64 - 1)
new-all cs0 ds0 n m cs ds count after left none (k, is, sum) =
    let nothing : new_below cs ds ≡ 0 = ap (new_below cs) none in
    let all = left-new n m cs0 ds0 after left in
    omega arith

-- all that differs below the two nodes is told
pub past-all : (scope : Scope) (d : Bool) (cs0 ds0 : List Child) (n m : Node) (cs ds : List Child) (v : PartsBelow) → d ≡ is_in_dict m
    → is_tree m ≡ true → AreLeft (below n) (below m) cs0 ds0 → cs ≡ [] → ds ≡ [] → AreComparing scope d cs0 ds0 cs ds v → AreDiffering scope n m v
past-all scope d cs0 ds0 n m cs ds v is after left none_own none_other h = record {
  added_below = comparing-all Added d cs0 ds0 n m cs ds v.added.items is left none_own none_other h.added_so_far;
  modified_below = comparing-all Modified d cs0 ds0 n m cs ds v.modified.items is left none_own none_other h.modified_so_far;
  removed_below = comparing-all (Removed scope) d cs0 ds0 n m cs ds v.removed.items is left none_own none_other h.removed_so_far;
  new_are = new-all cs0 ds0 n m cs ds v.new_places after left none_other h.new_so_far;
}

-- ---- where none is left from the first

none-untold : (x y : Option Node) (p : Path) → IsLeft x y None None → IsUntold (content_in x p) (content_in y p)
none-untold x y p h = elim h [
  | inl (is, other_is) ↦ subst₂ (λ c d. IsUntold (content_in c p) (content_in d p)) is other_is (refl, refl)
  | inr (pair, none, none_other) ↦ pair-untold x y p pair
]

no-other-leaf : (c d : Content) → not (is_leaf (Some d)) ≡ true → is_other_leaf (Some c) (Some d) ≡ false
no-other-leaf c (leaf s) h = absurd (true≢false (sym h))
no-other-leaf c (atom v) h = absurd (true≢false (sym h))
no-other-leaf (leaf s) record_branch h = refl
no-other-leaf (leaf s) dict_branch h = refl
no-other-leaf (leaf s) (list_branch es) h = refl
no-other-leaf (atom v) record_branch h = refl
no-other-leaf (atom v) dict_branch h = refl
no-other-leaf (atom v) (list_branch es) h = refl
no-other-leaf record_branch record_branch h = refl
no-other-leaf record_branch dict_branch h = refl
no-other-leaf record_branch (list_branch es) h = refl
no-other-leaf dict_branch record_branch h = refl
no-other-leaf dict_branch dict_branch h = refl
no-other-leaf dict_branch (list_branch es) h = refl
no-other-leaf (list_branch es) record_branch h = refl
no-other-leaf (list_branch es) dict_branch h = refl
no-other-leaf (list_branch es) (list_branch fs) h = refl

module _ (n m : Node) (before : is_tree n ≡ true) (after : is_tree m ≡ true)
    (sort : are_branches_alike (own_content n) (own_content m) ≡ true) (left : AreLeft (below n) (below m) [] [])
  where
    -- nothing is told of the two
    pub none-left-unchanged : AreUnchanged n m
    none-left-unchanged [] =
        untold-by _ _ (Some (own_content n)) (Some (own_content m)) (content-root n) (content-root m)
        (refl, no-other-leaf (own_content n) (own_content m) (both_first (not (is_leaf (Some (own_content m)))) _ sort))
    none-left-unchanged (e ∷ p) =
        untold-by _ _ (content_in (child_at e (below n)) p) (content_in (child_at e (below m)) p) (content-level n e p before) (content-level m e p after)
        (none-untold (child_at e (below n)) (child_at e (below m)) p (left.each e))

    -- and the second, put over the first, leaves it as it is
    pub none-left-repeats : TreeRepeats n m
    none-left-repeats =
        repeat-level n m before after sort
        (λ e. left-repeats (child_at e (below n)) (child_at e (below m)) None None (left.each e) (λ p ordered. refl))
