use Rattle.std.proofs.Common.{ap, not, ◌∙◌}
use Rattle.ssa_model.specs.definitions.Parts.{is_path_of}
use Rattle.ssa_model.specs.definitions.PathMap.{set_of, paths as set_paths}
use Rattle.ssa_path.specs.Subresources.{part_view}
use Rattle.ssa_path.proofs.InPart.{none-outside}
use Rattle.ssa_path.proofs.field_set.FieldSet.outside.Goals as goal

pub returns-then-has_all : goal.returns-then-has_all
returns-then-has_all c =
    let s = part_view c.args.part in
    c.new.ensures ∙ none-outside s c.self.inside.root (c.has_all.ensures c.if-has_all.true)
    ∙ ap (λ t. set_of (set_paths t) (λ p. not (is_path_of s p))) c.self.view_is
