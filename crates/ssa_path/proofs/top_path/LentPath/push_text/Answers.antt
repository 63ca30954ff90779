use Rattle.std.proofs.lemmas.Result.{on_ok_weaker}
use Rattle.ssa_json.proofs.ItemTexts.{more-of-program}
use Rattle.ssa_path.specs.TopPaths.{last_view}
use Rattle.ssa_path.proofs.PathTexts.{element-written, own_text, path-of-program, path-written}
use Rattle.ssa_path.proofs.top_path.LentPath.push_text.Goals as goal

pub loop-element-preserved : goal.loop-element-preserved
loop-element-preserved c =
    let place = c.args.self.now.place.now in
    let l = c.loop-element in
    let element = c.element-item in
    record {
      text = element-written _ l.text.items c.push_comma.new.text.items c.push_element.new.text.items l.is_later place l.element-index element.result
          (last_view c.args.self.now.last) c.loop-element-test.true element.is l.invariant.text c.in_ok-push_comma.ensures c.in_ok-push_element.ensures.text;
      of_program = more-of-program own_text place l.element-index element.result c.loop-element-test.true element.is l.invariant.of_program
          c.in_ok-push_element.ensures.of_program;
    }

pub returns-clause-text : goal.returns-clause-text
returns-clause-text c =
    let l = c.loop-element in
    on_ok_weaker c.push_last.result
    (path-written _ l.text.items c.push_last.new.text.items l.is_later c.args.self.now.place.now l.element-index (last_view c.args.self.now.last)
    c.loop-element-test.false l.invariant.text) c.push_last.ensures.text

pub returns-clause-of_program : goal.returns-clause-of_program
returns-clause-of_program c =
    let l = c.loop-element in
    on_ok_weaker c.push_last.result
    (path-of-program c.args.self.now.place.now l.element-index (last_view c.args.self.now.last) c.loop-element-test.false l.invariant.of_program)
    c.push_last.ensures.of_program
