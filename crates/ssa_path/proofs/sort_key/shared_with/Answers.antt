use Rattle.std.proofs.Common.{sym}
use Rattle.ssa_path.specs.View.{element_view}
use Rattle.ssa_path.proofs.LeadingTexts.{shares}
use Rattle.ssa_path.proofs.sort_key.shared_with.Goals as goal

pub returns : goal.returns
returns c =
    shares (element_view c.args.first.now) (element_view c.args.element.now) c.args.start.now c.in_ok-text.text.now c.alike_bytes.result
    (sym c.in_ok-text.ensures) c.alike_bytes.ensures.bytes c.alike_bytes.ensures.alike
