use Rattle.ssa_model.specs.definitions.PathMap.{empty}
use Rattle.ssa_merge.specs.declared.change.NewBody.TheVariants.{Whole}
use Rattle.ssa_turn_state.proofs.OneKind.{after_alike, after_of_one_class}
use Rattle.ssa_turn_state.proofs.making.whole_steps.Goals as goal

pub steps_between-requires : goal.steps_between-requires
steps_between-requires c = record { alike = after_alike c.args.from.now (Whole c.args.to) empty c.requires }

pub returns-clause-told : goal.returns-clause-told
returns-clause-told c = c.steps_between.ensures.record (after_of_one_class c.args.from.now (Whole c.args.to) empty c.requires)

pub returns-clause-room : goal.returns-clause-room
returns-clause-room c = c.steps_between.ensures.room (after_of_one_class c.args.from.now (Whole c.args.to) empty c.requires)
