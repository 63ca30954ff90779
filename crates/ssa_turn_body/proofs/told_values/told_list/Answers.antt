use Rattle.std.proofs.Common.{ap, map, ◌∙◌, take_all}
use Rattle.ssa_json.specs.View.{items_of}
use Rattle.ssa_json.proofs.Listed.{items-made}
use Rattle.ssa_json.proofs.Views.{view-List}
use Rattle.ssa_model.specs.definitions.Json.{list}
use Rattle.ssa_turn_body.specs.ToldValues.{entry_json}
use Rattle.ssa_turn_body.proofs.told_values.told_list.Goals as goal

pub returns : goal.returns
returns c =
    let l = c.loop-entry in
    view-List l.values
    ∙ ap (λ vs. list (items_of vs)) (l.invariant ∙ ap (map entry_json) (take_all l.entry-index c.args.told.now c.loop-entry-test.false))
    ∙ ap list (items-made entry_json c.args.told.now)
