use Rattle.std.proofs.Common.{[], ◌∷◌, ◌++◌, ap, ap₂, ◌∙◌}
use Rattle.ssa_model.specs.definitions.Path.{Path, field}
use Rattle.ssa_model.specs.definitions.PathMap.{PathSet, insert}
use Rattle.ssa_path.specs.View.{path_view}
use Rattle.ssa_path.specs.declared.element.Elem.TheVariants.{Field}
use Rattle.ssa_merge.proofs.ownable.never_owned.Goals as goal

pub returns : goal.returns
returns c =
    let root = ap path_view c.new.ensures.items in
    let first = c.in_ok-insert.ensures.ok ∙ ap₂ (λ (p : Path) (s : PathSet). insert p tt s) (c.new-2.ensures ∙ root) c.new-never.ensures in
    let name = c.in_ok-from_str.field-0 in
    let elements = ap path_view c.in_ok-push.ensures.items ∙ ap (λ es. path_view (es ++ Field name ∷ [])) c.new-elements.ensures.items in
    c.in_ok-insert-2.ensures.ok ∙ ap₂ (λ (p : Path) (s : PathSet). insert p tt s) (c.new-3.ensures ∙ elements
    ∙ ap (λ n. field n ∷ []) c.in_ok-from_str.ensures.ok) first
