use Rattle.std.proofs.Common.{◌∙◌, ap, sym, not}
use Rattle.ssa_model.specs.definitions.PathMap.{is_empty}
use Rattle.ssa_path.specs.Trie.{paths}
use Rattle.ssa_path.proofs.Sets.{empty-listed}
use Rattle.ssa_path.proofs.field_set.FieldSet.is_empty.Goals as goal

pub returns : goal.returns
returns c = ap not c.has_paths.ensures ∙ sym (empty-listed (paths c.self.inside.root)) ∙ ap is_empty c.self.view_is
