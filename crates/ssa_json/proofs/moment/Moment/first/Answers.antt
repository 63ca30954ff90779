use Rattle.std.proofs.Common.{refl}
use Rattle.ssa_json.specs.Moment.{is_moment, parts_of, two_at, digit_of}
use Rattle.ssa_json.proofs.moment.Moment.first.Goals as goal

pub invariant_of-result : goal.invariant_of-result
unfolding is_moment parts_of two_at digit_of
invariant_of-result c = refl
