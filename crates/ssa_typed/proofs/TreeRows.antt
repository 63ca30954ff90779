-- Each row of a tree is what its path finds.
use Rattle.std.proofs.Common.{◌≡◌, List, [], ◌∷◌, ◌++◌, ◌⊎◌, inl, inr, Bool, true, false, cond, Some, refl, sym, ap, subst, ◌∙◌}
use Rattle.std.specs.List.{AllByRecursion}
use Rattle.ssa_model.specs.definitions.Path.{Element, Path, same_element, same_path}
use Rattle.ssa_model.specs.definitions.Body.{Content}
use Rattle.ssa_model.proofs.PathMaps.{same_path-true}
use Rattle.ssa_path.specs.Children.{child_at, elements}
use Rattle.ssa_path.specs.declared.element.Elem.{Elem}
use Rattle.ssa_path.specs.View.{element_view}
use Rattle.ssa_path.proofs.Orders.{both_second}
use Rattle.ssa_typed.specs.Rows.{Row, rows, rows_below, under_element, below, own_content, content_at, is_tree, are_apart}
use Rattle.ssa_typed.specs.Points.{content_in}
use Rattle.ssa_typed.specs.declared.node.Node.{Node}
use Rattle.ssa_model.proofs.Faults.{cons≢nil}
use Rattle.ssa_typed.proofs.Laws.{none≢some}
use Rattle.ssa_typed.proofs.Levels.{level-below}
use Rattle.ssa_typed.proofs.Lookups.{child_at-rest, content-root, content-level, tree-child}
use Rattle.ssa_model.proofs.Tables.{element-itself as same_element-itself}
use Rattle.ssa_model.proofs.Basics.{some-same}

-- ---- one of the rows

-- the row is one of these
abbrev pub IsRow : Row → List Row → Type 0
IsRow r [] = ⊥
IsRow r (x ∷ xs) = (r ≡ x) ⊎ IsRow r xs

-- a row of the first list is one of both
pub row-left : (r : Row) (xs ys : List Row) → IsRow r xs → IsRow r (xs ++ ys)
row-left r [] ys h = absurd h
row-left r (x ∷ xs) ys (inl e) = inl e
row-left r (x ∷ xs) ys (inr h) = inr (row-left r xs ys h)

-- a row of the second list is one of both
pub row-right : (r : Row) (xs ys : List Row) → IsRow r ys → IsRow r (xs ++ ys)
row-right r [] ys h = h
row-right r (x ∷ xs) ys h = inr (row-right r xs ys h)

-- a row of both lists is one of the first or one of the second
pub row-split : (r : Row) (xs ys : List Row) → IsRow r (xs ++ ys) → IsRow r xs ⊎ IsRow r ys
row-split r [] ys h = inr h
row-split r (x ∷ xs) ys (inl e) = inl (inl e)
row-split r (x ∷ xs) ys (inr h) = elim (row-split r xs ys h) [ inl l ↦ inl (inr l) | inr k ↦ inr k ]

-- ---- what holds of all rows

module _ (P : Row → Type 0) where
  -- what holds of each row of two lists holds of each of both
  pub all-append : (xs ys : List Row) → AllByRecursion P xs → AllByRecursion P ys → AllByRecursion P (xs ++ ys)
  all-append [] ys g h = h
  all-append (x ∷ xs) ys g h = (g.0, all-append xs ys g.1 h)

  -- what holds of each row holds of one of them
  pub each-row : (rs : List Row) (r : Row) → AllByRecursion P rs → IsRow r rs → P r
  each-row [] r all one = absurd one
  each-row (x ∷ xs) r all (inl e) = subst P (sym e) all.0
  each-row (x ∷ xs) r all (inr one) = each-row xs r all.1 one

-- ---- what a path finds

row-if : (b : Bool) (r : Row) (rs : List Row) (p : Path) (c : Content) → same_path p r.0 ≡ b → (content_at rs p ≡ Some c → IsRow (p, c) rs)
    → cond b (Some r.1) (content_at rs p) ≡ Some c → IsRow (p, c) (r ∷ rs)
row-if true r rs p c same later e = inl (λ i. (same_path-true p r.0 same i, sym (some-same r.1 c e) i))
row-if false r rs p c same later e = inr (later e)

-- what a path finds is one of the rows
pub row-of : (rs : List Row) (p : Path) (c : Content) → content_at rs p ≡ Some c → IsRow (p, c) rs
row-of [] p c e = absurd (none≢some e)
row-of (r ∷ rs) p c e = row-if (same_path p r.0) r rs p c refl (row-of rs p c) e

-- ---- rows below an element

abbrev first_or : Element → Path → Element
first_or d [] = d
first_or d (e ∷ p) = e

abbrev rest : Path → Path
rest [] = []
rest (e ∷ p) = p

root-under : (e : Element) (c : Content) (rs : List Row) → IsRow ([], c) (under_element e rs) → ⊥
root-under e c [] h = h
root-under e c (r ∷ rs) (inl s) = cons≢nil (sym (ap (λ (x : Row). x.0) s))
root-under e c (r ∷ rs) (inr h) = root-under e c rs h

root-below : (c : Content) (cs : List (Elem × Node)) → IsRow ([], c) (rows_below cs) → ⊥
root-below c [] h = h
root-below c (x ∷ cs) h = elim (row-split ([], c) (under_element (element_view x.0) (rows x.1)) (rows_below cs) h)
    [ inl l ↦ root-under (element_view x.0) c (rows x.1) l | inr r ↦ root-below c cs r ]

row-under : (e f : Element) (p : Path) (c : Content) (rs : List Row) → IsRow (e ∷ p, c) (under_element f rs) → (e ≡ f) × IsRow (p, c) rs
row-under e f p c [] h = absurd h
row-under e f p c (r ∷ rs) (inl s) = (ap (λ (x : Row). first_or e x.0) s, inl (λ i. (rest (s i).0, (s i).1)))
row-under e f p c (r ∷ rs) (inr h) = let later = row-under e f p c rs h in (later.0, inr later.1)

record IsInChild (e : Element) (p : Path) (c : Content) (cs : List (Elem × Node)) : Type 0 where
  child : Node
  found : child_at e cs ≡ Some child
  row : IsRow (p, c) (rows child)

row-first : (x : Elem × Node) (cs : List (Elem × Node)) (e : Element) (p : Path) (c : Content) → (e ≡ element_view x.0) × IsRow (p, c) (rows x.1)
    → IsInChild e p c (x ∷ cs)
row-first x cs e p c (is, row) = record {
  child = x.1;
  found = ap (λ b. cond b (Some x.1) (child_at e cs)) (ap (same_element e) (sym is) ∙ same_element-itself e);
  row = row;
}

row-later : (x : Elem × Node) (cs : List (Elem × Node)) (e : Element) (p : Path) (c : Content) → are_apart (elements (x ∷ cs)) ≡ true → IsInChild e p c cs
    → IsInChild e p c (x ∷ cs)
row-later x cs e p c apart h = record {
  child = h.child;
  found =
      ap (λ b. cond b (Some x.1) (child_at e cs))
      (elim (same_element e (element_view x.0)) as (λ b. same_element e (element_view x.0) ≡ b
      → b ≡ false) [ true ↦ λ s. absurd (none≢some (sym (child_at-rest e x cs s apart) ∙ h.found)) | false ↦ λ s. refl ] refl)
      ∙ h.found;
  row = h.row;
}

row-child : (cs : List (Elem × Node)) (e : Element) (p : Path) (c : Content) → are_apart (elements cs) ≡ true → IsRow (e ∷ p, c) (rows_below cs)
    → IsInChild e p c cs
row-child [] e p c apart h = absurd h
row-child (x ∷ cs) e p c apart h =
    elim (row-split (e ∷ p, c) (under_element (element_view x.0) (rows x.1)) (rows_below cs) h) [
      | inl l ↦ row-first x cs e p c (row-under e (element_view x.0) p c (rows x.1) l)
      | inr r ↦ row-later x cs e p c apart (row-child cs e p c (both_second _ _ apart) r)
    ]

-- ---- rows of a tree

row-at : (p : Path) (c : Content) (n : Node) → is_tree n ≡ true → IsRow (p, c) (([], own_content n) ∷ rows_below (below n)) → content_at (rows n) p ≡ Some c
row-at [] c n h (inl s) = content-root n ∙ ap (λ (x : Row). Some x.1) (sym s)
row-at [] c n h (inr r) = absurd (root-below c (below n) r)
row-at (e ∷ p) c n h (inl s) = absurd (cons≢nil (ap (λ (x : Row). x.0) s))
row-at (e ∷ p) c n h (inr r) =
    let d = row-child (below n) e p c ((level-below n).apart h) r in
    content-level n e p h ∙ ap (λ x. content_in x p) d.found
    ∙ row-at p c d.child (tree-child n e d.child h d.found) (subst (IsRow (p, c)) (level-below d.child).rows_are d.row)

-- at the path of a row of a tree stands the row's content
pub row-found : (p : Path) (c : Content) (n : Node) → is_tree n ≡ true → IsRow (p, c) (rows n) → content_at (rows n) p ≡ Some c
row-found p c n h r = row-at p c n h (subst (IsRow (p, c)) (level-below n).rows_are r)
