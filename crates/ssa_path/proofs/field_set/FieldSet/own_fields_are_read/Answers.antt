use Rattle.ssa_path.proofs.FieldsBack.{set-back}
use Rattle.ssa_path.proofs.field_set.FieldSet.own_fields_are_read.Goals as goal

pub returns : goal.returns
returns c = set-back c.root.result.now c.args.self.now c.root.ensures.trie c.root.ensures.same c.place_is_read.ensures
