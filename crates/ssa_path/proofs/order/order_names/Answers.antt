use Rattle.std.proofs.Common.{sym, ◌∙◌}
use Rattle.ssa_members.specs.Texts.{text_bytes}
use Rattle.ssa_path.proofs.Escapes.{same-told}
use Rattle.ssa_path.proofs.order.order_names.Goals as goal

pub returns-then-is_same : goal.returns-then-is_same
returns-then-is_same c = same-told (text_bytes c.args.name.now) (text_bytes c.args.other.now) (sym c.is_same.ensures ∙ c.if-is_same.true)
