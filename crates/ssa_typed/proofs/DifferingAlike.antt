-- The walk over the children of two nodes that have the same elements, which stand in the order of these.
use Rattle.std.proofs.Common.{◌≡◌, ℕ, ◌+◌, ◌<◌, ◌≤◌, List, [], ◌∷◌, length, get_or, drop, true, Equal, Some, refl, sym, ap, subst₂, ◌∙◌, arith}
use Rattle.std.proofs.lemmas.List.{drop_all}
use Rattle.std.proofs.lemmas.Option.{slice_get_read}
use Rattle.std.specs.Prelude.{slice_get}
use Rattle.std.specs.Cmp.{tied_itself}
use Rattle.ssa_model.specs.definitions.Path.{Element, element_cmp}
use Rattle.ssa_path.proofs.Orders.{element_cmp_total}
use Rattle.ssa_path.proofs.Lists.{left-at}
use Rattle.ssa_path.specs.Children.{child_at, elements, heads_order, rises}
use Rattle.ssa_path.specs.View.{element_view}
use Rattle.ssa_typed.specs.Differences.{AreDiffering, AreToldBoth}
use Rattle.ssa_typed.specs.InOrder.{IsInOrder}
use Rattle.ssa_typed.specs.Repeating.{ChildrenRepeat, TreeRepeats}
use Rattle.ssa_typed.specs.Points.{is_in_dict}
use Rattle.ssa_typed.specs.Rows.{below, is_tree}
use Rattle.ssa_typed.specs.Same.{AreLeft}
use Rattle.ssa_typed.specs.declared.compare.PartsBelow.{PartsBelow}
use Rattle.ssa_typed.specs.declared.compare.Scope.{Scope}
use Rattle.ssa_typed.specs.declared.node.Node.{Node}
use Rattle.ssa_typed.proofs.Building.{Child}
use Rattle.ssa_typed.proofs.Differing.{AreComparing, past-both, past-none}
use Rattle.ssa_typed.proofs.DifferingLeft.{past-all}
use Rattle.ssa_typed.proofs.Left.{left-ordered}
use Rattle.ssa_typed.proofs.Lookups.{tree-child}
use Rattle.ssa_typed.proofs.Pairs.{element-beside, same-length}
use Rattle.ssa_typed.proofs.References.{child-read, standing-order}
use Rattle.ssa_typed.proofs.Repeating.{repeat-all}

-- an element compares as equal with itself
tied : (e f : Element) → e ≡ f → element_cmp e f ≡ Equal
tied e f h = ap (element_cmp e) (sym h) ∙ tied_itself element_cmp_total e

-- where the heads have one element they tie
heads-tied : (c b : Child) (cs ds : List Child) → element_view c.0 ≡ element_view b.0 → heads_order (c ∷ cs) (b ∷ ds) ≡ Some Equal
heads-tied c b cs ds same = ap (λ o. Some o) (tied (element_view c.0) (element_view b.0) same)

module _ (scope : Scope) (n m : Node) (cs ds : List Child) (own : cs ≡ below n) (other : ds ≡ below m) (alike : elements (below n) ≡ elements (below m))
    (rise : rises (elements (below n)) ≡ true) where
  same : elements cs ≡ elements ds
  same = ap elements own ∙ alike ∙ ap elements (sym other)

  own_rise : rises (elements cs) ≡ true
  own_rise = ap (λ l. rises (elements l)) own ∙ rise

  others_rise : rises (elements ds) ≡ true
  others_rise = ap rises (sym same) ∙ own_rise

  own_order : IsInOrder (below n) cs
  own_order = standing-order (below n) cs cs (sym own) refl own_rise

  others_order : IsInOrder (below m) ds
  others_order = standing-order (below m) ds ds (sym other) refl others_rise

  left : AreLeft (below n) (below m) cs ds
  left = left-ordered (below n) (below m) cs ds own_order others_order

  -- all that is told of the children up to a place
  abbrev pub IsComparedTo : ℕ → PartsBelow → Type 0
  IsComparedTo i told = AreComparing scope (is_in_dict m) cs ds (drop i cs) (drop i ds) told

  -- there are as many children on both sides
  pub alike-length : length cs ≡ length ds
  alike-length = same-length cs ds same

  -- before the first child nothing is told
  pub alike-none : (told : PartsBelow) → told.added.items ≡ [] → told.modified.items ≡ [] → told.removed.items ≡ [] → told.new_places ≡ 0 → IsComparedTo 0 told
  alike-none told added_none modified_none removed_none new_none =
      past-none scope (is_in_dict m) cs ds told added_none modified_none removed_none new_none own_rise others_rise

  module _ (i : ℕ) (c b : Child) (lt : i < length cs) (is : c ≡ get_or cs i c) (other_is : b ≡ get_or ds i b) where
    other_lt : i < length ds
    other_lt = let long = alike-length in omega arith

    read : slice_get cs i ≡ Some c
    read = slice_get_read cs (length cs) i c refl lt is

    other_read : slice_get ds i ≡ Some b
    other_read = slice_get_read ds (length ds) i b refl other_lt other_is

    heads : heads_order (drop i cs) (drop i ds) ≡ Some Equal
    heads =
        subst₂ (λ xs ys. heads_order xs ys ≡ Some Equal) (sym (left-at cs i c lt is)) (sym (left-at ds i b other_lt other_is))
        (heads-tied c b (drop (i + 1) cs) (drop (i + 1) ds) (element-beside cs ds i c b lt other_lt is other_is same))

    -- the next child is that of its element
    pub alike-own : child_at (element_view c.0) (below n) ≡ Some c.1
    alike-own = child-read (below n) cs i c read own_order

    -- so is the one beside it
    pub alike-other : child_at (element_view b.0) (below m) ≡ Some b.1
    alike-other = child-read (below m) ds i b other_read others_order

    -- both are passed, with all that is told of them
    pub alike-more : (old new : PartsBelow) → is_tree n ≡ true → is_tree m ≡ true → AreToldBoth scope c b.1 old new
        → (new.repeats ≡ true → (old.repeats ≡ true) × TreeRepeats c.1 b.1) → IsComparedTo i old → IsComparedTo (i + 1) new
    alike-more old new before after told repeats h =
        past-both scope (is_in_dict m) cs ds i i old h c b new heads read other_read (tree-child n (element_view c.0) c.1 before alike-own)
        (tree-child m (element_view b.0) b.1 after alike-other) told repeats

  module _ (i : ℕ) (done : length cs ≤ i) (told : PartsBelow) (h : IsComparedTo i told) where
    none_own : drop i cs ≡ []
    none_own = drop_all i cs done

    none_other : drop i ds ≡ []
    none_other = let long = alike-length in drop_all i ds (omega arith)

    -- behind the last child all that differs is told
    pub alike-all : is_tree m ≡ true → AreDiffering scope n m told
    alike-all after = past-all scope (is_in_dict m) cs ds n m _ _ told refl after left none_own none_other h

    -- where the flag still stands, all that is below the first node stays
    pub alike-repeats : told.repeats ≡ true → ChildrenRepeat (below n) (below m)
    alike-repeats repeats = repeat-all cs ds n m _ _ left none_own none_other (h.repeats_so_far repeats)
