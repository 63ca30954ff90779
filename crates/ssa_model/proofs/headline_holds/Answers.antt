use Rattle.ssa_model.proofs.GoingOn.{run_goes_on}
use Rattle.ssa_model.proofs.Headline.{runs_go_on, run_is_in_effect, run_keeps_history, undo_restores_all, redo_restores_all, refusals_change_nothing, conflicts_list_clashes}
use Rattle.ssa_model.proofs.ToldAnswers.{answers_are_told}
use Rattle.ssa_model.proofs.headline_holds.Goals as goal

pub returns : goal.returns
returns c = record {
  runs = runs_go_on;
  effect = run_is_in_effect;
  history = run_keeps_history;
  any = run_goes_on;
  undo = undo_restores_all;
  redo = redo_restores_all;
  refusals = refusals_change_nothing;
  conflicts = conflicts_list_clashes;
  told = answers_are_told;
}
