use Rattle.std.proofs.Common.{sym, subst}
use Rattle.ssa_model.specs.definitions.Valid.{IsValidState}
use Rattle.ssa_model.proofs.ValidTimelines.{present_valid}
use Rattle.ssa_bench.proofs.bench.Bench.show.Goals as goal

pub object_of_state-requires : goal.object_of_state-requires
object_of_state-requires c =
    let b = c.self.inside in
    let now = subst (IsValidState b.schema.kind) (sym c.present-now.ensures) (present_valid b.schema.kind b.timeline c.self.invariant.states) in
    now.fits
