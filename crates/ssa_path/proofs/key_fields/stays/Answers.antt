use Rattle.std.proofs.Common.{◌&&◌, not, ap, sym, ◌∙◌}
use Rattle.ssa_model.specs.definitions.Path.{key, names_key}
use Rattle.ssa_path.specs.Keys.{members_view}
use Rattle.ssa_path.specs.View.{element_view}
use Rattle.ssa_path.proofs.Levels.{one-level-root}
use Rattle.ssa_path.proofs.key_fields.stays.Goals as goal

pub returns-else-child : goal.returns-else-child
returns-else-child c =
    let named = not (names_key (key (members_view c.args.keys.now)) (element_view c.args.child.now.0)) in
    c.if-child.false ∙ ap (λ b. b && named) (sym (one-level-root c.args.child.now.1 ∙ c.if-child.false))
