-- Trees that are one, level by level.
use Rattle.std.proofs.Common.{◌≡◌, List, [], ◌∷◌, true, false, cond, Some, refl, sym, ap, ◌∙◌}
use Rattle.ssa_model.specs.definitions.Path.{Element, Path, same_element}
use Rattle.ssa_model.proofs.PathMaps.{same_map}
use Rattle.ssa_path.specs.Children.{child_at, elements}
use Rattle.ssa_path.specs.View.{element_view}
use Rattle.ssa_typed.specs.Points.{content_in}
use Rattle.ssa_typed.specs.Rows.{body_of, below, own_content, is_tree}
use Rattle.ssa_typed.specs.Same.{AreSame}
use Rattle.ssa_typed.specs.declared.node.Node.{Node}
use Rattle.ssa_typed.proofs.Building.{Child}
use Rattle.ssa_typed.proofs.Lookups.{content-level, content-root}
use Rattle.ssa_typed.proofs.Looks.{get-body}
use Rattle.ssa_typed.proofs.Pairs.{Each, same-head, same-tail}

-- under the same elements the same stands in each child
same-in : (cs ds : List Child) (e : Element) (p : Path) → elements cs ≡ elements ds → Each AreSame cs ds
    → content_in (child_at e ds) p ≡ content_in (child_at e cs) p
same-in [] [] e p same h = refl
same-in [] (d ∷ ds) e p same h = absurd h
same-in (c ∷ cs) [] e p same h = absurd h
same-in (c ∷ cs) (d ∷ ds) e p same h =
    let f = element_view c.0 in
    let g = element_view d.0 in
    let head = same-head f g (elements cs) (elements ds) same in
    let later = same-in cs ds e p (same-tail f g (elements cs) (elements ds) same) h.1 in
    ap (λ x. content_in (cond (same_element e x) (Some d.1) (child_at e ds)) p) (sym head)
    ∙ elim (same_element e f) as (λ b. content_in (cond b (Some d.1) (child_at e ds)) p ≡ content_in (cond b (Some c.1) (child_at e cs)) p)
    [ true ↦ h.0 p | false ↦ later ]

-- where the same stands at both places themselves and below each element, the trees are one
pub same-node : (n m : Node) → is_tree n ≡ true → is_tree m ≡ true → own_content m ≡ own_content n
    → ((e : Element) (p : Path) → content_in (child_at e (below m)) p ≡ content_in (child_at e (below n)) p) → AreSame n m
same-node n m own_tree other_tree own same [] = content-root m ∙ ap (λ c. Some c) own ∙ sym (content-root n)
same-node n m own_tree other_tree own same (e ∷ p) = content-level m e p other_tree ∙ same e p ∙ sym (content-level n e p own_tree)

-- where the same stands at both places themselves and in each child, under the same elements, the trees are one
pub same-level : (n m : Node) → is_tree n ≡ true → is_tree m ≡ true → own_content m ≡ own_content n → elements (below n) ≡ elements (below m)
    → Each AreSame (below n) (below m) → AreSame n m
same-level n m own_tree other_tree own same each =
    same-node n m own_tree other_tree own (λ e p. same-in (below n) (below m) e p same each)

-- trees that are one are of one body
pub same-body : (n m : Node) → AreSame n m → body_of m ≡ body_of n
same-body n m h = same_map (body_of m) (body_of n) (λ p. get-body m p ∙ h p ∙ sym (get-body n p))
