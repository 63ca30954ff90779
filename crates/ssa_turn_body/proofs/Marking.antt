-- The marks of a tree, level by level.
use Rattle.std.proofs.Common.{◌≡◌, List, [], ◌∷◌, map, true, false, cond, Some, option_map, refl, ap, ◌∙◌}
use Rattle.ssa_model.specs.definitions.Body.{Content, list_branch}
use Rattle.ssa_model.specs.definitions.Path.{Element, Path, same_element}
use Rattle.ssa_path.specs.Children.{child_at, elements}
use Rattle.ssa_path.specs.View.{element_view}
use Rattle.ssa_path.proofs.Levels.{elements-map}
use Rattle.ssa_typed.specs.Rows.{below, below_of, own_content, content_of}
use Rattle.ssa_typed.specs.declared.node.Node.{Node}
use Rattle.ssa_typed.specs.declared.node.Node.TheOpen.{Node-F}
use Rattle.ssa_typed.specs.declared.node.Node.TheViews.{out-Node}
use Rattle.ssa_typed.specs.declared.node.Node.TheFolds.{fold_out-Node, map-Node}
use Rattle.ssa_turn_body.specs.Marks.{Child, Marks, marks, marks_in, marks_step, kids, names}

-- what a place with this content and these children tells
abbrev pub told : Content → List Child → Marks
told c cs [] = Some (c, elements cs)
told c cs (e ∷ p) = marks_in (option_map marks (child_at e cs)) p

child_at-map : (e : Element) (cs : List Child) → child_at e (map (λ c. (c.0, marks c.1)) cs) ≡ option_map marks (child_at e cs)
child_at-map e [] = refl
child_at-map e (c ∷ cs) =
    elim (same_element e (element_view c.0)) as (λ b. cond b (Some (marks c.1)) (child_at e (map (λ c. (c.0, marks c.1)) cs))
    ≡ option_map marks (cond b (Some c.1) (child_at e cs))) [
      | true ↦ refl
      | false ↦ child_at-map e cs
    ]

told-step : (x : Node-F Node) (p : Path) → marks_step (map-Node Node Marks marks x) p ≡ told (content_of x) (below_of x) p
told-step (Node-F.Leaf l) [] = refl
told-step (Node-F.Leaf l) (e ∷ p) = refl
told-step (Node-F.Branch v) [] = ap (λ es. Some (content_of {A = Node} (Node-F.Branch v), es)) (elements-map marks v.items)
told-step (Node-F.Branch v) (e ∷ p) = ap (λ o. marks_in o p) (child_at-map e v.items)
told-step (Node-F.Dict v) [] = ap (λ es. Some (content_of {A = Node} (Node-F.Dict v), es)) (elements-map marks v.items)
told-step (Node-F.Dict v) (e ∷ p) = ap (λ o. marks_in o p) (child_at-map e v.items)
told-step (Node-F.List v) [] = ap (λ es. Some (list_branch es, es)) (elements-map marks v.items)
told-step (Node-F.List v) (e ∷ p) = ap (λ o. marks_in o p) (child_at-map e v.items)

-- a tree tells what its content and its children tell
pub marks-level : (n : Node) (p : Path) → marks n p ≡ told (own_content n) (below n) p
marks-level n p = ap (λ (f : Marks). f p) (fold_out-Node Marks marks_step n) ∙ told-step (out-Node n) p

-- children as they are seen have their elements
pub names-kids : (cs : List Child) → names (kids cs) ≡ elements cs
names-kids [] = refl
names-kids (c ∷ cs) = ap (λ es. element_view c.0 ∷ es) (names-kids cs)
