use Rattle.std.proofs.Common.{subst}
use Rattle.ssa_model.specs.definitions.BenchFile.{IsValidBench}
use Rattle.ssa_json.specs.Readings.{readings}
use Rattle.ssa_bench.proofs.ValidBench.{all-steps}
use Rattle.ssa_bench.proofs.bench.Bench.is_valid.Goals as goal

pub returns : goal.returns
returns c =
    let b = c.self.inside in
    let history = c.self.invariant in
    let back = c.own_entries_are_read.ensures in
    let valid : IsValidBench readings (record { schema = b.schema; identity = b.identity; depth = b.depth; timeline = b.timeline }) = record {
      read = c.kind-kind.ensures.read;
      accepted = c.kind-kind.ensures.accepted;
      named = c.parts_are_named.ensures;
      states = history.states;
      first = back.first;
      steps = all-steps b.timeline.later history.names c.own_moments_are_read.ensures back.later;
      order = history.order;
      place = c.place_is_within.ensures;
      deep = (c.number-depth.ensures.least, c.number-depth.ensures.most);
      few = history.few;
    } in
    subst (IsValidBench readings) c.self.view_is valid
