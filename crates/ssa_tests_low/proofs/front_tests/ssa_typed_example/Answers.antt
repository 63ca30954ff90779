use Rattle.ssa_typed.proofs.OneSort.{bodies_alike}
use Rattle.ssa_tests_low.proofs.front_tests.ssa_typed_example.Goals as goal

pub over-requires : goal.over-requires
over-requires g c = bodies_alike c.in_ok-schema.schema.kind c.in_ok-live.live c.in_ok-config.config c.in_ok-live.ensures.fits c.in_ok-config.ensures.fits
