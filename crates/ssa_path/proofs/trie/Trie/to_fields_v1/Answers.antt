use Rattle.std.proofs.Common.{refl, sym, ◌∙◌}
use Rattle.ssa_model.specs.definitions.PathMap.{listed}
use Rattle.ssa_json.proofs.Views.{view-Object}
use Rattle.ssa_path.specs.Trie.{paths}
use Rattle.ssa_path.proofs.FieldsSays.{json-of-set}
use Rattle.ssa_path.proofs.trie.Trie.to_fields_v1.Goals as goal

pub returns : goal.returns
returns c =
    view-Object c.in_ok-members.members ∙ c.in_ok-members.ensures.json
    ∙ sym (json-of-set c.args.self.now (listed (paths c.args.self.now)) c.requires refl)
