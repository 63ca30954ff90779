-- Two leaves beside one another, below which nothing stands.
use Rattle.std.proofs.Common.{◌≡◌, inl, inr, List, [], ◌∷◌, true, false, Some, Vec, Global, refl, sym, ap, subst, ◌∙◌, rules}
use Rattle.ssa_model.specs.definitions.Path.{Element, Path}
use Rattle.ssa_model.specs.definitions.Body.{is_other_leaf}
use Rattle.ssa_path.specs.Children.{child_at}
use Rattle.ssa_path.specs.Combine.{IsGrown}
use Rattle.ssa_path.specs.declared.element.Elem.{Elem}
use Rattle.ssa_path.specs.declared.trie.Trie.{Trie}
use Rattle.ssa_path.specs.declared.trie.Trie.TheOpen.{Trie-F}
use Rattle.ssa_path.specs.declared.trie.Trie.TheViews.{roll-Trie}
use Rattle.ssa_path.specs.View.{element_view}
use Rattle.ssa_typed.specs.Differences.{Difference, Added, Modified, Removed, differs, differs_at, differs_below, differs_here, AreToldBoth, IsDiffering, IsToldBoth}
use Rattle.ssa_typed.specs.NewPlaces.{new_below, new_places}
use Rattle.ssa_typed.specs.Points.{content_in, is_in_dict}
use Rattle.ssa_typed.specs.Rows.{below, leaf_content}
use Rattle.ssa_typed.specs.Same.{AreSame}
use Rattle.ssa_typed.specs.declared.compare.PartsBelow.{PartsBelow}
use Rattle.ssa_typed.specs.declared.compare.Scope.{Scope}
use Rattle.ssa_typed.specs.declared.node.Leaf.{Leaf}
use Rattle.ssa_typed.specs.declared.node.Node.{Leaf as LeafOf, the_lemmas}
use Rattle.ssa_typed.proofs.Copying.{tree-Leaf}
use Rattle.ssa_typed.proofs.Differing.{difference-made, tells-nothing}
use Rattle.ssa_typed.proofs.NewPlaces.{count-same, new-level}
use Rattle.ssa_typed.proofs.OverNodes.{own-Leaf}
use Rattle.ssa_typed.proofs.SameTrees.{same-node}

below-Leaf : (l : Leaf) → below (LeafOf l) ≡ []
below-Leaf l = search (rules, the_lemmas)

module _ (l k : Leaf) where
  -- leaves of the same contents are one tree
  pub leaf-one : leaf_content k ≡ leaf_content l → AreSame (LeafOf l) (LeafOf k)
  leaf-one same =
      same-node (LeafOf l) (LeafOf k) (tree-Leaf l) (tree-Leaf k) (own-Leaf k ∙ same ∙ sym (own-Leaf l))
      (λ e p i. content_in (child_at e ((below-Leaf k ∙ sym (below-Leaf l)) i)) p)

  leaf-here : differs_here Modified (LeafOf l) (LeafOf k) ≡ is_other_leaf (Some (leaf_content l)) (Some (leaf_content k))
  leaf-here = λ i. is_other_leaf (Some (own-Leaf l i)) (Some (own-Leaf k i))

  leaf-below : (what : Difference) (e : Element) (p : Path) → differs_below what (LeafOf l) (LeafOf k) e p ≡ false
  leaf-below what e p =
      (λ i. differs what (is_in_dict (LeafOf k)) e (child_at e (below-Leaf l i)) (child_at e (below-Leaf k i)) p)
      ∙ tells-nothing what (is_in_dict (LeafOf k)) e p

  -- a leaf has no new place where another stands
  leaf-new : new_places (LeafOf l) (LeafOf k) ≡ 0
  leaf-new = new-level (LeafOf l) (tree-Leaf l) (LeafOf k) ∙ ap (new_below (below (LeafOf l))) (below-Leaf k)

  leaf-untold : (what : Difference) (f : Elem) (told : List (Elem × Trie)) → differs_here what (LeafOf l) (LeafOf k) ≡ false
      → IsToldBoth what (f, LeafOf l) (LeafOf k) told told
  leaf-untold what f told here = inr (nothing, refl)
    where
      nothing : (p : Path) → differs_at what (LeafOf l) (LeafOf k) p ≡ false
      nothing [] = here
      nothing (e ∷ p) = leaf-below what e p

  module _ (scope : Scope) (f : Elem) (old : PartsBelow) where
    -- where the one is no other leaf of the other's sort, nothing is told of them
    pub leaf-passed : is_other_leaf (Some (leaf_content l)) (Some (leaf_content k)) ≡ false
        → AreToldBoth scope (f, LeafOf l) (LeafOf k) old (record old { repeats = false })
    leaf-passed none = record {
      added_told = leaf-untold Added f old.added.items refl;
      modified_told = leaf-untold Modified f old.modified.items (leaf-here ∙ none);
      removed_told = leaf-untold (Removed scope) f old.removed.items refl;
      new_counted = count-same old.new_places (new_places (LeafOf l) (LeafOf k)) leaf-new;
    }

    -- where it is, the place is modified, and nothing below it
    pub leaf-modified : (none new : Vec (Elem × Trie) Global) → is_other_leaf (Some (leaf_content l)) (Some (leaf_content k)) ≡ true → none.items ≡ []
        → IsGrown (element_view f) (roll-Trie (record { here = true; below = none })) old.modified.items new.items
        → AreToldBoth scope (f, LeafOf l) (LeafOf k) old (record old { modified = new; repeats = false })
    leaf-modified none new other is_none grown = record {
      added_told = leaf-untold Added f old.added.items refl;
      modified_told = inl (
        roll-Trie here,
        difference-made Modified (LeafOf l) (LeafOf k) here (sym (leaf-here ∙ other)) none-below,
        grown,
      );
      removed_told = leaf-untold (Removed scope) f old.removed.items refl;
      new_counted = count-same old.new_places (new_places (LeafOf l) (LeafOf k)) leaf-new;
    }
      where
        here : Trie-F Trie
        here = record { here = true; below = none }

        none-below : IsDiffering Modified (LeafOf l) (LeafOf k) none.items
        none-below = subst (IsDiffering Modified (LeafOf l) (LeafOf k)) (sym is_none)
            (record { paths_are = λ e p. sym (leaf-below Modified e p); risen = refl; tries = refl })
