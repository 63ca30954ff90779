-- What stands below a path of a tree, and the points of the body that the tree stands for.
use Rattle.std.proofs.Common.{◌≡◌, List, [], ◌∷◌, ◌++◌, Bool, true, false, not, ◌&&◌, ◌||◌, cond, Option, Some, None, refl, sym, ap, ◌∙◌}
use Rattle.std.specs.Prelude.{is_some}
use Rattle.std.specs.List.{list_any}
use Rattle.ssa_model.specs.definitions.Path.{Element, Path, same_element, is_item, parent, under}
use Rattle.ssa_model.specs.definitions.PathMap.{from_entries, has, paths}
use Rattle.ssa_model.specs.definitions.Body.{is_leaf, is_dict, strictly_under, points}
use Rattle.ssa_model.proofs.Lists.{any-from_entries, keys}
use Rattle.ssa_model.proofs.PathMaps.{has-points}
use Rattle.ssa_path.specs.Children.{child_at, elements}
use Rattle.ssa_path.specs.declared.element.Elem.{Elem}
use Rattle.ssa_path.specs.View.{element_view}
use Rattle.ssa_path.proofs.Orders.{both_second, or_assoc}
use Rattle.ssa_typed.specs.Points.{stands_below, stands_in, is_point_of}
use Rattle.ssa_typed.specs.Rows.{Row, rows, rows_below, under_element, below, body_of, are_apart, is_tree}
use Rattle.ssa_typed.specs.declared.node.Node.{Node}
use Rattle.ssa_typed.proofs.Levels.{level-below}
use Rattle.ssa_typed.proofs.Lookups.{child_at-rest}
use Rattle.ssa_typed.proofs.Looks.{get-body}
use Rattle.ssa_model.proofs.Tables.{element-itself as same_element-itself}
use Rattle.ssa_model.proofs.Fitting.{same_element-true}
use Rattle.ssa_model.proofs.Basics.{and-false as and_false, or-false as or_false, spread as and_or}

-- ---- the body's side

stands-any : (rs : List Row) (p : Path) → list_any (strictly_under p) (keys rs) ≡ stands_below rs p
stands-any [] p = refl
stands-any (r ∷ rs) p = ap (λ b. strictly_under p r.0 || b) (stands-any rs p)

-- something stands below a path of rows where their body has a path strictly under it
pub stands-body : (rs : List Row) (p : Path) → list_any (strictly_under p) (paths (from_entries rs)) ≡ stands_below rs p
stands-body rs p = any-from_entries (strictly_under p) rs ∙ stands-any rs p

-- THE BRIDGE of the points
pub points-body : (n : Node) (q : Path) → has (points (body_of n)) q ≡ is_point_of (rows n) q
points-body n [] = has-points (body_of n) [] ∙ and_false _
points-body n (e ∷ p) =
    has-points (body_of n) (e ∷ p)
    ∙ (λ i. is_some (get-body n (e ∷ p) i) && (is_leaf (get-body n (e ∷ p) i)
    || (is_item (e ∷ p) || (is_dict (get-body n (parent (e ∷ p)) i) || not (stands-body (rows n) (e ∷ p) i)))))

-- ---- level by level

stands-append : (rs ss : List Row) (p : Path) → stands_below (rs ++ ss) p ≡ (stands_below rs p || stands_below ss p)
stands-append [] ss p = refl
stands-append (r ∷ rs) ss p = ap (λ b. strictly_under p r.0 || b) (stands-append rs ss p) ∙ or_assoc (strictly_under p r.0) _ _

-- a path is strictly under another where their first elements are one and the rests are so
pub one_level : (e s : Element) (p q : Path) → strictly_under (e ∷ p) (s ∷ q) ≡ (same_element e s && strictly_under p q)
one_level e s p q =
    elim (same_element e s) as (λ b. same_element e s ≡ b → ((b && under p q) && not (same_element s e && under q p)) ≡ (b && strictly_under p q)) [
      | true ↦ λ h. ap (λ b. under p q && not (b && under q p)) (ap (λ x. same_element s x) (same_element-true e s h) ∙ same_element-itself s)
      | false ↦ λ h. refl
    ] refl

stands-under : (e s : Element) (rs : List Row) (p : Path) → stands_below (under_element s rs) (e ∷ p) ≡ (same_element e s && stands_below rs p)
stands-under e s [] p = sym (and_false _)
stands-under e s (r ∷ rs) p = (λ i. one_level e s p r.0 i || stands-under e s rs p i) ∙ and_or (same_element e s) _ _

into-first : (b : Bool) (c : Node) (rest : Option Node) (p : Path) → (b ≡ true → rest ≡ None)
    → ((b && stands_below (rows c) p) || stands_in rest p) ≡ stands_in (cond b (Some c) rest) p
into-first true c rest p h = ap (λ x. stands_below (rows c) p || stands_in x p) (h refl) ∙ or_false _
into-first false c rest p h = refl

stands-children : (cs : List (Elem × Node)) (e : Element) (p : Path) → are_apart (elements cs) ≡ true
    → stands_below (rows_below cs) (e ∷ p) ≡ stands_in (child_at e cs) p
stands-children [] e p apart = refl
stands-children (c ∷ cs) e p apart =
    stands-append (under_element (element_view c.0) (rows c.1)) (rows_below cs) (e ∷ p)
    ∙ (λ i. stands-under e (element_view c.0) (rows c.1) p i
    || stands-children cs e p (both_second (not (list_any (same_element (element_view c.0)) (elements cs))) _ apart) i)
    ∙ into-first (same_element e (element_view c.0)) c.1 (child_at e cs) p (λ h. child_at-rest e c cs h apart)

-- something stands below a path into a tree where it does below the rest in the first element's child
pub stands-level : (n : Node) (e : Element) (p : Path) → is_tree n ≡ true → stands_below (rows n) (e ∷ p) ≡ stands_in (child_at e (below n)) p
stands-level n e p h = ap (λ rs. stands_below rs (e ∷ p)) (level-below n).rows_are ∙ stands-children (below n) e p ((level-below n).apart h)
