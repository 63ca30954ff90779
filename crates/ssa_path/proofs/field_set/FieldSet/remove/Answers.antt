use Rattle.std.proofs.Common.{not, ap, sym, ◌&&◌, ◌∙◌}
use Rattle.ssa_model.specs.definitions.Path.{same_path}
use Rattle.ssa_model.specs.definitions.PathMap.{has, set_of, paths as set_paths}
use Rattle.ssa_path.specs.Trie.{is_one_of, paths}
use Rattle.ssa_model.proofs.Lists.{has-listed}
use Rattle.ssa_path.proofs.Sets.{listed-tested}
use Rattle.ssa_path.proofs.field_set.FieldSet.remove.Goals as goal

pub returns-clause-set : goal.returns-clause-set
returns-clause-set c =
    let old = c.self.inside.root in
    listed-tested old c.remove.new.self (λ q. not (same_path q c.args.path.now))
    (λ q. c.remove.ensures.removed.paths_are q ∙ ap (λ p. is_one_of (paths old) q && not (same_path q p)) c.elements.ensures)
    ∙ ap (λ s. set_of (set_paths s) (λ q. not (same_path q c.args.path.now))) c.self.view_is

pub returns-clause-had : goal.returns-clause-had
returns-clause-had c =
    let old = c.self.inside.root in
    c.remove.ensures.had ∙ ap (is_one_of (paths old)) c.elements.ensures
    ∙ sym (has-listed (paths old) c.args.path.now) ∙ ap (λ s. has s c.args.path.now) c.self.view_is
