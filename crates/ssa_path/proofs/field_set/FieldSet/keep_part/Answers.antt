use Rattle.std.proofs.Common.{ap, ◌∙◌}
use Rattle.ssa_model.specs.definitions.Parts.{is_path_of}
use Rattle.ssa_model.specs.definitions.PathMap.{set_of, paths as set_paths}
use Rattle.ssa_path.specs.Subresources.{part_view}
use Rattle.ssa_path.proofs.Sets.{listed-tested}
use Rattle.ssa_path.proofs.field_set.FieldSet.keep_part.Goals as goal

pub returns : goal.returns
returns c =
    let test = is_path_of (part_view c.args.part) in
    listed-tested c.self.inside.root c.keep_paths.new.root test c.keep_paths.ensures.paths_are ∙ ap (λ s. set_of (set_paths s) test) c.self.view_is
