use Rattle.ssa_json.proofs.MomentTexts.{moment-is-utf8}
use Rattle.ssa_json.proofs.moment.Moment.to_text.Goals as goal

pub unreachable-requires : goal.unreachable-requires
unreachable-requires c = c.in_default.ensures.cases.0 (moment-is-utf8 c.self.inside.bytes c.self.invariant)
