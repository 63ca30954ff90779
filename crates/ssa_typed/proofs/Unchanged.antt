-- Trees of which nothing is told.
use Rattle.std.proofs.Common.{◌≡◌, inr, List, [], ◌∷◌, Bool, true, false, not, ◌&&◌, Option, Some, None, refl, sym, ap, ◌∙◌}
use Rattle.std.specs.Prelude.{is_some}
use Rattle.ssa_model.specs.definitions.Path.{Element, Path}
use Rattle.ssa_model.specs.definitions.PathMap.{empty, get, has, paths as set_paths}
use Rattle.ssa_model.specs.definitions.Body.{Body, Content, leaf, atom, record_branch, dict_branch, list_branch, is_other_leaf, is_point, points}
use Rattle.ssa_model.proofs.PathMaps.{has-paths, has-points, has-set_of, same_sets}
use Rattle.ssa_model.proofs.SameValues.{same_json-itself}
use Rattle.ssa_model.proofs.Scalars.{same_scalar-itself}
use Rattle.ssa_path.specs.Children.{child_at}
use Rattle.ssa_path.specs.declared.element.Elem.{Elem}
use Rattle.ssa_path.specs.declared.trie.Trie.{Trie}
use Rattle.ssa_path.specs.Trie.{is_one_of}
use Rattle.ssa_path.proofs.Orders.{none_first}
use Rattle.ssa_typed.specs.Differences.{Difference, Added, Modified, Removed, differs, differs_at, differs_here, AreToldBoth, AreUnchanged, IsDiffering, IsUntold}
use Rattle.ssa_typed.specs.NewPlaces.{new_places}
use Rattle.ssa_typed.specs.Points.{content_in, point_in}
use Rattle.ssa_typed.specs.Rows.{rows, below, content_at, is_tree}
use Rattle.ssa_typed.specs.Same.{AreSame}
use Rattle.ssa_typed.specs.declared.compare.PartsBelow.{PartsBelow}
use Rattle.ssa_typed.specs.declared.compare.Scope.{Scope}
use Rattle.ssa_typed.specs.declared.compare.Scope.TheVariants.{Whole, Part}
use Rattle.ssa_typed.specs.declared.node.Node.{Node}
use Rattle.ssa_typed.proofs.Differing.{difference_of}
use Rattle.ssa_typed.proofs.Lookups.{content-level, content-root}
use Rattle.ssa_typed.proofs.NewPlaces.{count-same, unchanged-none}
use Rattle.ssa_model.proofs.Basics.{and-false as and_false}

-- ---- the same contents

-- contents are untold as those are that they are
pub untold-by : (o q x y : Option Content) → o ≡ x → q ≡ y → IsUntold x y → IsUntold o q
untold-by o q x y is other_is h = (ap is_some is ∙ h.0 ∙ sym (ap is_some other_is), (λ i. is_other_leaf (is i) (other_is i)) ∙ h.1)

other-itself : (o : Option Content) → is_other_leaf o o ≡ false
other-itself None = refl
other-itself (Some (leaf s)) = ap not (same_scalar-itself s)
other-itself (Some (atom v)) = ap not (same_json-itself v)
other-itself (Some record_branch) = refl
other-itself (Some dict_branch) = refl
other-itself (Some (list_branch es)) = refl

-- of trees that are one nothing is told
pub same-unchanged : (n m : Node) → AreSame n m → AreUnchanged n m
same-unchanged n m h p =
    (ap is_some (sym (h p)), ap (is_other_leaf (content_at (rows n) p)) (h p) ∙ other-itself (content_at (rows n) p))

-- ---- nothing is told

no-point : (in_dict : Bool) (e : Element) (c : Option Node) (p : Path) → is_some (content_in c p) ≡ false → point_in in_dict e c p ≡ false
no-point in_dict e c [] none = none_first (is_some (content_in c [])) _ none
no-point in_dict e c (f ∷ p) none = none_first (is_some (content_in c (f ∷ p))) _ none

both-or-neither : (a b : Bool) → a ≡ b → (a && not b) ≡ false
both-or-neither true true h = refl
both-or-neither true false h = h
both-or-neither false b h = refl

no-new-point : (in_dict : Bool) (e : Element) (c : Option Node) (p : Path) (there : Bool) → is_some (content_in c p) ≡ there
    → (point_in in_dict e c p && not there) ≡ false
no-new-point in_dict e c p true is = and_false (point_in in_dict e c p)
no-new-point in_dict e c p false is = ap (λ b. b && true) (no-point in_dict e c p is)

-- where the same is known of both contents at a path, nothing is told there
pub untold : (what : Difference) (in_dict : Bool) (e : Element) (c d : Option Node) (p : Path) → IsUntold (content_in c p) (content_in d p)
    → differs what in_dict e c d p ≡ false
untold Added in_dict e c d p h = no-new-point in_dict e d p (is_some (content_in c p)) (sym h.0)
untold Modified in_dict e c d p h = h.1
untold (Removed Whole) in_dict e c d p h = both-or-neither (is_some (content_in c p)) (is_some (content_in d p)) h.0
untold (Removed Part) in_dict e c d p h = refl

module _ (n m : Node) (before : is_tree n ≡ true) (after : is_tree m ≡ true) (h : AreUnchanged n m) where
  -- of unchanged trees nothing is told at the root
  pub nothing-here : (what : Difference) → false ≡ differs_here what n m
  nothing-here Added = refl
  nothing-here Modified = sym ((λ i. is_other_leaf (sym (content-root n) i) (sym (content-root m) i)) ∙ (h []).1)
  nothing-here (Removed scope) = refl

  -- below unchanged trees nothing differs
  pub nothing-below : (what : Difference) (ts : List (Elem × Trie)) → ts ≡ [] → IsDiffering what n m ts
  nothing-below what [] none = record {
    paths_are = λ e p. sym (untold what _ e (child_at e (below n)) (child_at e (below m)) p
        (untold-by _ _ (content_at (rows n) (e ∷ p)) (content_at (rows m) (e ∷ p)) (sym (content-level n e p before)) (sym (content-level m e p after))
        (h (e ∷ p))));
    risen = refl;
    tries = refl;
  }
  nothing-below what (t ∷ ts) none = cc

  -- nothing is told at any path
  pub nothing-told : (what : Difference) (p : Path) → differs_at what n m p ≡ false
  nothing-told what [] = sym (nothing-here what)
  nothing-told what (e ∷ p) = sym ((nothing-below what [] refl).paths_are e p)

  -- so nothing comes of a child that is unchanged
  pub nothing-grown : (scope : Scope) (f : Elem) (told : PartsBelow) → AreToldBoth scope (f, n) m told told
  nothing-grown scope f told = record {
    added_told = inr (nothing-told Added, refl);
    modified_told = inr (nothing-told Modified, refl);
    removed_told = inr (nothing-told (Removed scope), refl);
    new_counted = count-same told.new_places (new_places n m) (unchanged-none n m h);
  }

-- ---- a body beside itself

neither-way : (a b : Bool) → ((a && b) && not a) ≡ false
neither-way true b = and_false b
neither-way false b = refl

none-differs : (what : Difference) (b : Body) (q : Path) → has (difference_of what b b) q ≡ false
none-differs Added b q =
    has-set_of (set_paths (points b)) (λ p. not (has b p)) q
    ∙ ap (λ t. t && not (has b q)) (sym (has-paths (points b) q) ∙ has-points b q) ∙ neither-way (has b q) (is_point b q)
none-differs Modified b q =
    has-set_of (set_paths b) (λ p. is_other_leaf (get b p) (get b p)) q
    ∙ ap (λ t. is_one_of (set_paths b) q && t) (other-itself (get b q)) ∙ and_false _
none-differs (Removed Part) b q = refl
none-differs (Removed Whole) b q =
    has-set_of (set_paths b) (λ p. not (has b p)) q ∙ ap (λ t. t && not (has b q)) (sym (has-paths b q))
    ∙ both-or-neither (has b q) (has b q) refl

-- a body differs in nothing from itself
pub no-difference : (what : Difference) (b : Body) → empty ≡ difference_of what b b
no-difference what b = same_sets empty (difference_of what b b) (λ q. sym (none-differs what b q))
