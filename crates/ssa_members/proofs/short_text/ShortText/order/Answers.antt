use Rattle.std.proofs.Common.{sym, ◌∙◌}
use Rattle.ssa_members.specs.ShortTexts.{short_bytes}
use Rattle.ssa_members.proofs.Eights.{tied-told}
use Rattle.ssa_members.proofs.short_text.ShortText.order.Goals as goal

pub returns-then-is_same : goal.returns-then-is_same
returns-then-is_same c = tied-told (short_bytes c.args.self.now) (short_bytes c.args.other.now) (sym c.is_same.ensures ∙ c.if-is_same.true)
