use Rattle.std.proofs.Common.{◌∙◌, ap, sym}
use Rattle.std.specs.List.{list_any}
use Rattle.ssa_model.specs.definitions.Path.{under}
use Rattle.ssa_model.specs.definitions.PathMap.{has_at_or_below}
use Rattle.ssa_path.specs.Trie.{paths}
use Rattle.ssa_path.proofs.Sets.{below-listed}
use Rattle.ssa_path.proofs.field_set.FieldSet.has_at_or_below.Goals as goal

pub returns-in-Some : goal.returns-in-Some
returns-in-Some c =
    let place = c.in-Some.ensures.some in
    c.has_paths.ensures ∙ sym place.alike ∙ ap (λ p. list_any (under p) (paths c.self.inside.root)) c.elements.ensures
    ∙ sym (below-listed (paths c.self.inside.root) c.args.path.now) ∙ ap (λ s. has_at_or_below s c.args.path.now) c.self.view_is

pub returns-in-None : goal.returns-in-None
returns-in-None c =
    let none = c.in-None.ensures.none in
    sym none.1 ∙ ap (λ p. list_any (under p) (paths c.self.inside.root)) c.elements.ensures
    ∙ sym (below-listed (paths c.self.inside.root) c.args.path.now) ∙ ap (λ s. has_at_or_below s c.args.path.now) c.self.view_is
