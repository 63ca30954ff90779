use Rattle.std.proofs.Common.{sym, subst}
use Rattle.ssa_typed.specs.Alike.{AreAlike}
use Rattle.ssa_typed.specs.Rows.{body_of}
use Rattle.ssa_typed.proofs.OverNodes.{alike-bodies}
use Rattle.ssa_turn_body.proofs.BodiesBetween.{between-fits, between-leads, between-record, between-room}
use Rattle.ssa_turn_body.proofs.between.steps_between.Goals as goal

pub steps_below-requires-clause-alike : goal.steps_below-requires-clause-alike
steps_below-requires-clause-alike c = alike-bodies _ _ (subst (λ b. AreAlike b (body_of c.take_root-root.result)) (sym c.root.ensures.seen)
    (subst (AreAlike c.args.from.now) (sym c.take_root-root.ensures.seen) c.requires.alike))

pub returns-clause-fits : goal.returns-clause-fits
returns-clause-fits c =
    between-fits c.root.result.now c.take_root-root.result c.new-path.result.items c.new-steps.result.items (record { steps = c.steps_below.new.steps })
    c.root.ensures.tree c.take_root-root.ensures.tree c.new-path.ensures.items c.new-steps.ensures.items
    c.in_ok-steps_below.ensures.led c.args.from.now c.root.ensures.seen

pub returns-clause-leads : goal.returns-clause-leads
returns-clause-leads c =
    between-leads c.root.result.now c.take_root-root.result c.new-path.result.items c.new-steps.result.items (record { steps = c.steps_below.new.steps })
    c.root.ensures.tree c.take_root-root.ensures.tree c.new-path.ensures.items c.new-steps.ensures.items
    c.in_ok-steps_below.ensures.led c.args.from.now c.args.to c.root.ensures.seen c.take_root-root.ensures.seen

pub returns-clause-record : goal.returns-clause-record
returns-clause-record c =
    between-record c.root.result.now c.take_root-root.result c.new-path.result.items c.new-steps.result.items
    (record { steps = c.steps_below.new.steps }) c.root.ensures.tree c.take_root-root.ensures.tree c.new-path.ensures.items c.new-steps.ensures.items
    c.in_ok-steps_below.ensures.led c.args.from.now c.args.to c.root.ensures.seen c.take_root-root.ensures.seen

pub returns-clause-room : goal.returns-clause-room
returns-clause-room c =
    between-room c.root.result.now c.take_root-root.result c.new-path.result.items c.new-steps.result.items
    (record { steps = c.steps_below.new.steps }) c.root.ensures.tree c.take_root-root.ensures.tree c.new-path.ensures.items c.new-steps.ensures.items
    c.in_ok-steps_below.ensures.led c.args.from.now c.args.to c.root.ensures.seen c.take_root-root.ensures.seen
