use Rattle.std.proofs.Common.{◌∙◌, ap, sym}
use Rattle.ssa_model.specs.definitions.PathMap.{has}
use Rattle.ssa_path.specs.Trie.{is_one_of, paths}
use Rattle.ssa_path.proofs.Levels.{one-level-root}
use Rattle.ssa_path.proofs.field_set.FieldSet.has.Goals as goal
use Rattle.ssa_model.proofs.Lists.{has-listed}

pub returns-in-Some : goal.returns-in-Some
returns-in-Some c =
    let place = c.in-Some.ensures.some in
    sym (one-level-root c.in-Some.place.now) ∙ sym place.same ∙ ap (is_one_of (paths c.self.inside.root)) c.elements.ensures
    ∙ sym (has-listed (paths c.self.inside.root) c.args.path.now) ∙ ap (λ s. has s c.args.path.now) c.self.view_is

pub returns-in-None : goal.returns-in-None
returns-in-None c =
    let none = c.in-None.ensures.none in
    sym none.0 ∙ ap (is_one_of (paths c.self.inside.root)) c.elements.ensures
    ∙ sym (has-listed (paths c.self.inside.root) c.args.path.now) ∙ ap (λ s. has s c.args.path.now) c.self.view_is
