use Rattle.ssa_json.proofs.ItemTexts.{all-of-program, item-written, list-written, more-of-program}
use Rattle.ssa_turn_body.specs.ToldValues.{entry_json}
use Rattle.ssa_turn_body.proofs.told_texts.push_told_list.Goals as goal

pub loop-entry-preserved : goal.loop-entry-preserved
loop-entry-preserved c =
    let told = c.args.told.now in
    let l = c.loop-entry in
    let entry = c.entry-item in
    record {
      text = item-written entry_json _ l.text.items c.push_comma.new.text.items c.push_told.new.text.items l.is_later told l.entry-index entry.result
          c.loop-entry-test.true entry.is l.invariant.text c.in_ok-push_comma.ensures c.in_ok-push_told.ensures.text;
      of_program = more-of-program entry_json told l.entry-index entry.result c.loop-entry-test.true entry.is l.invariant.of_program
          c.in_ok-push_told.ensures.of_program;
    }

pub returns-clause-text : goal.returns-clause-text
returns-clause-text c =
    let l = c.loop-entry in
    list-written entry_json _ l.text.items c.push-2.new.self.items l.is_later c.args.told.now l.entry-index c.loop-entry-test.false l.invariant.text
    c.in_ok-push-2.ensures.items

pub returns-clause-of_program : goal.returns-clause-of_program
returns-clause-of_program c =
    all-of-program entry_json c.args.told.now c.loop-entry.entry-index c.loop-entry-test.false c.loop-entry.invariant.of_program
