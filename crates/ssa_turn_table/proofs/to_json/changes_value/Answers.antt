use Rattle.std.proofs.Common.{ap, map, ◌∙◌}
use Rattle.std.proofs.lemmas.List.{take_all}
use Rattle.ssa_model.specs.definitions.Json.{list}
use Rattle.ssa_model.specs.definitions.RecordText.{change_json}
use Rattle.ssa_json.specs.View.{items_of}
use Rattle.ssa_json.proofs.Listed.{items-made}
use Rattle.ssa_json.proofs.Views.{view-List}
use Rattle.ssa_turn_table.specs.Tables.{changes_view}
use Rattle.ssa_turn_table.proofs.RecordMembers.{room-at}
use Rattle.ssa_turn_table.proofs.to_json.changes_value.Goals as goal

pub returns : goal.returns
returns c =
    let f = change_json in
    let xs = c.args.changed.now in
    view-List c.loop-change.values ∙ ap (λ vs. list (items_of vs)) (c.loop-change.invariant
    ∙ ap (λ ys. map f (changes_view ys)) (take_all c.loop-change.change-index xs c.loop-change-test.false))
    ∙ ap list (items-made f (changes_view xs))

pub change_value-requires : goal.change_value-requires
change_value-requires c =
    room-at c.requires.0 c.args.changed.now c.loop-change.change-index c.change-item.result c.loop-change-test.true c.change-item.is c.requires.1
