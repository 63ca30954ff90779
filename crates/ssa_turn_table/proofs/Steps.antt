-- The steps of a set that is turned are those of the way back.
use Rattle.std.proofs.Common.{◌≡◌, ap, sym, ◌∙◌}
use Rattle.ssa_model.specs.definitions.PathMap.{PathSet}
use Rattle.ssa_turn_set.specs.Turn.{SetSteps, IsLed, set_back, set_between, set_target}

-- a record that leads from the turned set to the set before is the one turned back
pub steps-back : (d e : SetSteps) (s r : PathSet) → IsLed d s (set_target d s) → IsLed e r s → r ≡ set_target d s → e ≡ set_back d
steps-back d e s r led back value = back.between ∙ ap (λ (x : PathSet). set_between x s) value ∙ sym (ap set_back led.between)
