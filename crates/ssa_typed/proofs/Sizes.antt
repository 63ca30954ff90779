-- How many places a tree has: as many as its body has paths, since its rows have each path once.
use Rattle.std.proofs.Common.{◌≡◌, ℕ, zero, suc, ◌+◌, ◌-◌, ◌^◌, ◌<◌, ◌≤◌, List, [], ◌∷◌, ◌++◌, length, get_or, take, Bool, true, false, not, ◌&&◌, cond, Some, None, refl, ap, ◌∙◌, min, arith, rules, length-append}
use Rattle.std.specs.Prelude.{is_some}
use Rattle.std.specs.List.{list_any}
use Rattle.std.specs.FinMap.Entries.{length-put}
use Rattle.ssa_model.specs.definitions.Path.{Element, Path, path_cmp, path_cmp_total, same_element}
use Rattle.ssa_model.specs.definitions.PathMap.{from_entries, has, size}
use Rattle.ssa_model.proofs.PathMaps.{get-from_entries}
use Rattle.ssa_path.proofs.Lists.{taken-at}
use Rattle.ssa_path.specs.Children.{elements, child_at}
use Rattle.ssa_path.specs.declared.element.Elem.{Elem}
use Rattle.ssa_path.specs.View.{element_view}
use Rattle.ssa_path.proofs.Orders.{both_first, both_second}
use Rattle.ssa_typed.specs.Rows.{Row, rows, rows_below, under_element, below, content_at, body_of, are_apart, is_tree, are_trees}
use Rattle.ssa_typed.specs.Points.{content_in}
use Rattle.ssa_typed.specs.declared.node.Leaf.{Leaf}
use Rattle.ssa_typed.specs.declared.node.Node.{Node, Leaf as LeafNode, the_lemmas}
use Rattle.ssa_typed.proofs.Levels.{level-below}
use Rattle.ssa_typed.proofs.Lookups.{or_else, content_at-append, content_at-under, content-below, child_at-none, or_none}
use Rattle.ssa_model.proofs.Tables.{element-itself as same_element-itself}
use Rattle.ssa_model.proofs.Basics.{not_true, both-true as both}

-- ---- counting the rows

-- rows under an element are as many as without it
pub length-under : (e : Element) (rs : List Row) → length (under_element e rs) ≡ length rs
length-under e [] = refl
length-under e (r ∷ rs) = ap suc (length-under e rs)

-- children have the rows of the first and those of the others
pub length-first : (c : Elem × Node) (cs : List (Elem × Node)) → length (rows_below (c ∷ cs)) ≡ length (rows c.1) + length (rows_below cs)
length-first c cs = length-append (under_element (element_view c.0) (rows c.1)) (rows_below cs)
    ∙ ap (λ n. n + length (rows_below cs)) (length-under (element_view c.0) (rows c.1))

-- a node has one row more than all its children
pub length-level : (n : Node) → length (rows n) ≡ suc (length (rows_below (below n)))
length-level n = ap length (level-below n).rows_are

-- a leaf has one row
pub length-leaf : (n : Node) (l : Leaf) → n ≡ LeafNode l → length (rows n) ≡ 1
length-leaf n l is = ap (λ m. length (rows m)) is ∙ search (rules, the_lemmas)

length-push : (cs : List (Elem × Node)) (c : Elem × Node) → length (rows_below (cs ++ c ∷ [])) ≡ length (rows_below cs) + length (rows c.1)
length-push [] c = let first = length-first c [] in omega arith
length-push (d ∷ cs) c =
    let rest = length-push cs c in
    let whole = length-first d (cs ++ c ∷ []) in
    let front = length-first d cs in
    omega arith

-- all places of the first children are counted, and each other child itself, as far as 64 bits go
abbrev pub IsCount : List (Elem × Node) → ℕ → ℕ → Type 0
IsCount cs i count = count ≡ min (length (rows_below (take i cs)) + (length cs - i)) (2 ^ 64 - 1)

module _ (cs : List (Elem × Node)) (i : ℕ) (c : Elem × Node) (count : ℕ) (lt : i < length cs) (is : c ≡ get_or cs i c) (h : IsCount cs i count) where
  longer : length (rows_below (take (i + 1) cs)) ≡ length (rows_below (take i cs)) + length (rows c.1)
  longer = ap (λ l. length (rows_below l)) (taken-at cs i c lt is) ∙ length-push (take i cs) c

  -- a leaf is counted already
  pub count-leaf : length (rows c.1) ≡ 1 → IsCount cs (i + 1) count
  count-leaf one = let long = longer in omega arith

  -- of another child the places below it are counted too
  pub count-more : (more sum : ℕ) → more ≡ min (length (rows_below (below c.1))) (2 ^ 64 - 1) → sum ≡ min (count + more) (2 ^ 64 - 1) → IsCount cs (i + 1) sum
  count-more more sum e s =
      let long = longer in
      let level = length-level c.1 in
      omega arith

-- ---- each path once

-- no two rows have one path
abbrev pub are_rows_apart : List Row → Bool
are_rows_apart [] = true
are_rows_apart (r ∷ rs) = not (is_some (content_at rs r.0)) && are_rows_apart rs

apart-first : (s : Element) (rs ys : List Row) → are_rows_apart rs ≡ true → ((p : Path) → content_at ys (s ∷ p) ≡ None) → are_rows_apart ys ≡ true
    → are_rows_apart (under_element s rs ++ ys) ≡ true
apart-first s [] ys h none rest = rest
apart-first s (r ∷ rs) ys h none rest =
    let there : content_at (under_element s rs ++ ys) (s ∷ r.0) ≡ content_at rs r.0 =
    content_at-append (under_element s rs) ys (s ∷ r.0) ∙ (λ i. or_else (content_at-under s s rs r.0 i) (none r.0 i)) ∙ or_none _
    ∙ ap (λ b. cond b (content_at rs r.0) None) (same_element-itself s) in
    both _ _ (ap (λ o. not (is_some o)) there ∙ both_first _ (are_rows_apart rs) h)
    (apart-first s rs ys (both_second (not (is_some (content_at rs r.0))) _ h) none rest)

root-under : (s : Element) (rs : List Row) → content_at (under_element s rs) [] ≡ None
root-under s [] = refl
root-under s (r ∷ rs) = root-under s rs

root-below : (cs : List (Elem × Node)) → content_at (rows_below cs) [] ≡ None
root-below [] = refl
root-below (c ∷ cs) = content_at-append (under_element (element_view c.0) (rows c.1)) (rows_below cs) []
    ∙ (λ i. or_else (root-under (element_view c.0) (rows c.1) i) (root-below cs i))

-- trees with less rows than the bound
apart-below : (k : ℕ) (cs : List (Elem × Node)) → length (rows_below cs) < k → are_apart (elements cs) ≡ true → are_trees cs ≡ true
    → are_rows_apart (rows_below cs) ≡ true
apart-below zero cs lt apart trees = absurd (omega arith)
apart-below (suc k) [] lt apart trees = refl
apart-below (suc k) (c ∷ cs) lt apart trees =
    let s = element_view c.0 in
    let longer = length-first c cs in
    let level = level-below c.1 in
    let long = length-level c.1 in
    let tree : is_tree c.1 ≡ true = both_first _ (are_trees cs) trees in
    let others : list_any (same_element s) (elements cs) ≡ false = not_true _ (both_first _ (are_apart (elements cs)) apart) in
    let rest : are_apart (elements cs) ≡ true = both_second (not (list_any (same_element s) (elements cs))) _ apart in
    let own : are_rows_apart (rows_below (below c.1)) ≡ true = apart-below k (below c.1) (omega arith) (level.apart tree) (level.trees tree) in
    let first : are_rows_apart (rows c.1) ≡ true = ap are_rows_apart level.rows_are ∙ both _ _ (ap (λ o. not (is_some o)) (root-below (below c.1))) own in
    apart-first s (rows c.1) (rows_below cs) first (λ p. content-below cs s p rest ∙ ap (λ x. content_in x p) (child_at-none s cs others))
    (apart-below k cs (omega arith) rest (both_second (is_tree c.1) _ trees))

-- the rows of a tree have each path once
pub apart-tree : (n : Node) → is_tree n ≡ true → are_rows_apart (rows n) ≡ true
apart-tree n tree =
    let level = level-below n in
    ap are_rows_apart level.rows_are
    ∙ both _ _ (ap (λ o. not (is_some o)) (root-below (below n)))
    (apart-below (suc (length (rows_below (below n)))) (below n) (omega arith) (level.apart tree) (level.trees tree))

size-apart : (rs : List Row) → are_rows_apart rs ≡ true → size (from_entries rs) ≡ length rs
size-apart [] h = refl
size-apart (r ∷ rs) h =
    let rest = from_entries rs in
    let absent : has rest r.0 ≡ false = ap is_some (get-from_entries rs r.0) ∙ not_true _ (both_first _ (are_rows_apart rs) h) in
    length-put path_cmp path_cmp_total r.0 r.1 rest.entries rest.in_order
    ∙ ap (λ b. cond b (size rest) (size rest + 1)) absent
    ∙ ap (λ n. n + 1) (size-apart rs (both_second (not (is_some (content_at rs r.0))) _ h))
    ∙ more (length rs)
  where
    more : (n : ℕ) → n + 1 ≡ suc n
    more n = omega arith

-- THE BRIDGE: as many paths as rows
pub size-body : (n : Node) → is_tree n ≡ true → size (body_of n) ≡ length (rows n)
size-body n tree = size-apart (rows n) (apart-tree n tree)

-- ---- a tree is larger than what is below it

-- a child has no more rows than all children
pub larger-children : (e : Element) (cs : List (Elem × Node)) (c : Node) → child_at e cs ≡ Some c → length (rows c) ≤ length (rows_below cs)
larger-children e [] c h = cc
larger-children e (x ∷ cs) c h =
    let long = length-first x cs in
    elim (same_element e (element_view x.0)) as (λ b. cond b (Some x.1) (child_at e cs) ≡ Some c → length (rows c) ≤ length (rows_below (x ∷ cs))) [
      | true ↦ λ k. let same : x.1 ≡ c = cc in let sizes : length (rows x.1) ≡ length (rows c) = ap (λ m. length (rows m)) same in omega arith
      | false ↦ λ k. let rest = larger-children e cs c k in omega arith
    ] h

-- a child has fewer rows than the node above it
pub smaller : (n : Node) (e : Element) (c : Node) → child_at e (below n) ≡ Some c → length (rows c) < length (rows n)
smaller n e c h =
    let long = length-level n in
    let part = larger-children e (below n) c h in
    omega arith
