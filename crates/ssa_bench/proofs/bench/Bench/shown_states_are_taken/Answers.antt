use Rattle.std.proofs.Common.{subst}
use Rattle.ssa_model.specs.definitions.History as model
use Rattle.ssa_bench.specs.ReadBack.{AllTakenBack}
use Rattle.ssa_bench.proofs.ReadBack.{IsShown, all-taken}
use Rattle.ssa_bench.proofs.bench.Bench.shown_states_are_taken.Goals as goal

pub returns : goal.returns
returns c =
    let b = c.self.inside in
    let n : model.Bench = record { schema = b.schema; identity = b.identity; depth = b.depth; timeline = b.timeline } in
    let shown : IsShown n = record { accepted = c.kind-kind.ensures.accepted; named = c.parts_are_named.ensures; valid = c.self.invariant.states } in
    subst AllTakenBack c.self.view_is (all-taken n shown c.own_entries_are_read.ensures)
