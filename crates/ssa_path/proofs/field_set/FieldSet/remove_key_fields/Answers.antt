use Rattle.std.proofs.Common.{◌∙◌, not, ap}
use Rattle.ssa_model.specs.definitions.Path.{is_key_field}
use Rattle.ssa_model.specs.definitions.PathMap.{set_of, paths as set_paths}
use Rattle.ssa_path.proofs.KeyFields.{root-left}
use Rattle.ssa_path.proofs.Sets.{listed-tested}
use Rattle.ssa_path.proofs.field_set.FieldSet.remove_key_fields.Goals as goal

pub returns : goal.returns
returns c =
    let own = c.self.inside.root in
    let left = c.take_out_key_fields.new.own in
    listed-tested own left (λ p. not (is_key_field p)) (root-left own left c.take_out_key_fields.ensures)
    ∙ ap (λ s. set_of (set_paths s) (λ p. not (is_key_field p))) c.self.view_is
