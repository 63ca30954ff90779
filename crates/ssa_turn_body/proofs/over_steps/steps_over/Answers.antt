use Rattle.std.proofs.Common.{[], Some, refl, sym, ap, subst}
use Rattle.ssa_path.specs.Listing.{way_view}
use Rattle.ssa_path.proofs.Levels.{trie-parts}
use Rattle.ssa_typed.specs.Alike.{AreAlike}
use Rattle.ssa_typed.specs.Applied.{applied}
use Rattle.ssa_typed.specs.Rows.{body_of}
use Rattle.ssa_typed.proofs.OverNodes.{alike-bodies}
use Rattle.ssa_turn_body.specs.Applying.{MayPart, gone_below}
use Rattle.ssa_turn_body.proofs.AppliedBodies.{applied-tree, may-part}
use Rattle.ssa_turn_body.proofs.BodiesBetween.{between-fits, between-leads, between-record, between-room}
use Rattle.ssa_turn_body.proofs.over_steps.steps_over.Goals as goal

pub over-requires-clause-alike : goal.over-requires-clause-alike
over-requires-clause-alike c = alike-bodies _ _ (subst (λ b. AreAlike b (body_of c.take_root-root.result)) (sym c.root.ensures.seen)
    (subst (AreAlike c.args.live.now) (sym c.take_root-root.ensures.seen) c.requires.alike))

pub over-requires-clause-rise : goal.over-requires-clause-rise
over-requires-clause-rise c = (trie-parts c.root-lost.result.now c.deref.result.now c.deref.ensures.value c.root-lost.ensures.trie).0

pub over-requires-clause-tries : goal.over-requires-clause-tries
over-requires-clause-tries c = (trie-parts c.root-lost.result.now c.deref.result.now c.deref.ensures.value c.root-lost.ensures.trie).1

pub over-requires-clause-may : goal.over-requires-clause-may
over-requires-clause-may c =
    subst (λ ts. MayPart (gone_below ts) c.root.result.now (Some c.take_root-root.result)) (sym c.deref.ensures.value)
    (may-part c.args.live.now c.args.config c.args.gone.now c.root.result.now c.take_root-root.result c.root-lost.result.now c.root.ensures.seen
    c.take_root-root.ensures.seen c.root-lost.ensures.same c.requires.gone c.requires.order)

pub returns-clause-fits : goal.returns-clause-fits
returns-clause-fits c =
    let a = c.args in
    let to = applied-tree a.live.now a.config a.gone.now c.root.result.now c.take_root-root.result c.root-lost.result.now c.root.ensures.seen
    c.take_root-root.ensures.seen c.root-lost.ensures.same c.requires.gone (way_view c.new-way.result.items) c.deref.result.now c.new-steps.result.items
    c.over.new.steps.items (ap way_view c.new-way.ensures.items) c.deref.ensures.value c.in_ok-over.ensures.applied in
    between-fits c.root.result.now to.0 [] c.new-steps.result.items (record { steps = c.over.new.steps }) c.root.ensures.tree to.1 refl
    c.new-steps.ensures.items to.3 a.live.now c.root.ensures.seen

pub returns-clause-leads : goal.returns-clause-leads
returns-clause-leads c =
    let a = c.args in
    let to = applied-tree a.live.now a.config a.gone.now c.root.result.now c.take_root-root.result c.root-lost.result.now c.root.ensures.seen
    c.take_root-root.ensures.seen c.root-lost.ensures.same c.requires.gone (way_view c.new-way.result.items) c.deref.result.now c.new-steps.result.items
    c.over.new.steps.items (ap way_view c.new-way.ensures.items) c.deref.ensures.value c.in_ok-over.ensures.applied in
    between-leads c.root.result.now to.0 [] c.new-steps.result.items (record { steps = c.over.new.steps }) c.root.ensures.tree to.1 refl
    c.new-steps.ensures.items to.3 a.live.now (applied a.live.now a.config a.gone.now) c.root.ensures.seen to.2

pub returns-clause-record : goal.returns-clause-record
returns-clause-record c =
    let a = c.args in
    let to = applied-tree a.live.now a.config a.gone.now c.root.result.now c.take_root-root.result c.root-lost.result.now c.root.ensures.seen
    c.take_root-root.ensures.seen c.root-lost.ensures.same c.requires.gone (way_view c.new-way.result.items) c.deref.result.now c.new-steps.result.items
    c.over.new.steps.items (ap way_view c.new-way.ensures.items) c.deref.ensures.value c.in_ok-over.ensures.applied in
    between-record c.root.result.now to.0 [] c.new-steps.result.items (record { steps = c.over.new.steps }) c.root.ensures.tree to.1 refl
    c.new-steps.ensures.items to.3 a.live.now (applied a.live.now a.config a.gone.now) c.root.ensures.seen to.2

pub returns-clause-room : goal.returns-clause-room
returns-clause-room c =
    let a = c.args in
    let to = applied-tree a.live.now a.config a.gone.now c.root.result.now c.take_root-root.result c.root-lost.result.now c.root.ensures.seen
    c.take_root-root.ensures.seen c.root-lost.ensures.same c.requires.gone (way_view c.new-way.result.items) c.deref.result.now c.new-steps.result.items
    c.over.new.steps.items (ap way_view c.new-way.ensures.items) c.deref.ensures.value c.in_ok-over.ensures.applied in
    between-room c.root.result.now to.0 [] c.new-steps.result.items (record { steps = c.over.new.steps }) c.root.ensures.tree to.1 refl
    c.new-steps.ensures.items to.3 a.live.now (applied a.live.now a.config a.gone.now) c.root.ensures.seen to.2
