use Rattle.std.proofs.Common.{◌||◌, ap, ◌∙◌}
use Rattle.std.proofs.lemmas.Result.{on_ok_weaker}
use Rattle.ssa_model.specs.definitions.Path.{same_path}
use Rattle.ssa_model.specs.definitions.PathMap.{insert}
use Rattle.ssa_path.specs.Trie.{is_one_of, paths}
use Rattle.ssa_path.proofs.Sets.{listed-insert}
use Rattle.ssa_path.proofs.field_set.FieldSet.insert.Goals as goal

pub returns-clause-ok : goal.returns-clause-ok
returns-clause-ok c =
    let old = c.self.inside.root in
    on_ok_weaker c.insert.result
    (λ h. listed-insert old c.insert.new.self c.args.path.now (λ q. h.paths_are q ∙ ap (λ y. same_path q y || is_one_of (paths old) q) c.elements.ensures)
    ∙ ap (λ s. insert c.args.path.now tt s) c.self.view_is) c.insert.ensures.ok
