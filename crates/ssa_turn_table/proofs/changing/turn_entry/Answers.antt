use Rattle.std.proofs.Common.{ap, sym, ◌∙◌}
use Rattle.std.specs.Prelude.{option_map}
use Rattle.ssa_merge.specs.Managers.{key_view}
use Rattle.ssa_turn_table.proofs.Steps.{steps-back}
use Rattle.ssa_turn_table.proofs.changing.turn_entry.Goals as goal

pub returns-in-Some-clause-change : goal.returns-in-Some-clause-change
returns-in-Some-clause-change c =
    let steps = steps-back _ _ _ _ c.requires.fits c.turn_field_set.ensures.back c.turn_field_set.ensures.value in
    let moment = sym (ap (option_map (λ m. c.args.entry.now.at)) c.in-Some.is) in
    λ i. record { manager = key_view c.args.change.now.key; gain = (steps i).gain; lose = (steps i).lose; moment = moment i }

pub returns-in-None-clause-change : goal.returns-in-None-clause-change
returns-in-None-clause-change c =
    let steps = steps-back _ _ _ _ c.requires.fits c.turn_field_set.ensures.back c.turn_field_set.ensures.value in
    let moment = c.in-None.is ∙ sym (ap (option_map (λ m. c.args.entry.now.at)) c.in-None.is) in
    λ i. record { manager = key_view c.args.change.now.key; gain = (steps i).gain; lose = (steps i).lose; moment = moment i }
