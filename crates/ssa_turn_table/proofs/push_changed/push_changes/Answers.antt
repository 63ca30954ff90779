use Rattle.std.proofs.Common.{◌++◌, ap, subst, ◌∙◌}
use Rattle.ssa_model.specs.definitions.Json.{compact, list}
use Rattle.ssa_model.specs.definitions.RecordText.{change_json}
use Rattle.ssa_json.specs.Writable.{IsOfProgram}
use Rattle.ssa_json.proofs.ItemTexts.{all-of-program, item-written, items_json-map, list-written, more-of-program}
use Rattle.ssa_turn_table.specs.Tables.{change_view}
use Rattle.ssa_turn_table.proofs.ChangeTexts.{changed_value}
use Rattle.ssa_turn_table.proofs.RecordMembers.{room-at}
use Rattle.ssa_turn_table.proofs.push_changed.push_changes.Goals as goal

pub push_change-requires : goal.push_change-requires
push_change-requires c =
    room-at c.requires.0 c.args.changed.now c.loop-change.change-index c.change-item.result c.loop-change-test.true c.change-item.is c.requires.1

pub loop-change-preserved : goal.loop-change-preserved
loop-change-preserved c =
    let changed = c.args.changed.now in
    let l = c.loop-change in
    let change = c.change-item in
    record {
      text = item-written changed_value _ l.text.items c.push_comma.new.text.items c.push_change.new.text.items l.is_later changed l.change-index change.result
          c.loop-change-test.true change.is l.invariant.text c.in_ok-push_comma.ensures c.in_ok-push_change.ensures.text;
      of_program = more-of-program changed_value changed l.change-index change.result c.loop-change-test.true change.is l.invariant.of_program
          c.in_ok-push_change.ensures.of_program;
    }

pub returns-clause-text : goal.returns-clause-text
returns-clause-text c =
    let changed = c.args.changed.now in
    let l = c.loop-change in
    list-written changed_value _ l.text.items c.push-2.new.self.items l.is_later changed l.change-index c.loop-change-test.false l.invariant.text
    c.in_ok-push-2.ensures.items
    ∙ ap (λ vs. c.args.text.now.items ++ compact (list vs)) (items_json-map change_json change_view changed)

pub returns-clause-of_program : goal.returns-clause-of_program
returns-clause-of_program c =
    let changed = c.args.changed.now in
    subst (λ vs. IsOfProgram (list vs)) (items_json-map change_json change_view changed)
    (all-of-program changed_value changed c.loop-change.change-index c.loop-change-test.false c.loop-change.invariant.of_program)
