use Rattle.std.proofs.Common.{◌++◌, ap, subst, ◌∙◌}
use Rattle.std.specs.Borrow.{Bor}
use Rattle.ssa_model.specs.definitions.Json.{compact, list}
use Rattle.ssa_json.specs.Writable.{IsOfProgram}
use Rattle.ssa_json.proofs.ItemTexts.{all-of-program, item-written, items_json-map, list-written, more-of-program}
use Rattle.ssa_path.specs.TopPaths.{text_of}
use Rattle.ssa_path.specs.View.{element_view}
use Rattle.ssa_path.specs.declared.element.Elem.{Elem}
use Rattle.ssa_path.proofs.PathTexts.{lent_text}
use Rattle.ssa_path.proofs.path_text.push_way.Goals as goal

pub loop-element-preserved : goal.loop-element-preserved
loop-element-preserved c =
    let way = c.args.way.now in
    let l = c.loop-element in
    let element = c.element-item in
    record {
      text = item-written lent_text _ l.text.items c.push_comma.new.text.items c.push_element.new.text.items l.is_later way l.element-index element.result
          c.loop-element-test.true element.is l.invariant.text c.in_ok-push_comma.ensures c.in_ok-push_element.ensures.text;
      of_program = more-of-program lent_text way l.element-index element.result c.loop-element-test.true element.is l.invariant.of_program
          c.in_ok-push_element.ensures.of_program;
    }

pub returns-clause-text : goal.returns-clause-text
returns-clause-text c =
    let way = c.args.way.now in
    let l = c.loop-element in
    list-written lent_text _ l.text.items c.push-2.new.self.items l.is_later way l.element-index c.loop-element-test.false l.invariant.text
    c.in_ok-push-2.ensures.items
    ∙ ap (λ vs. c.args.text.now.items ++ compact (list vs)) (items_json-map text_of (λ (e : Bor Elem). element_view e.now) way)

pub returns-clause-of_program : goal.returns-clause-of_program
returns-clause-of_program c =
    let way = c.args.way.now in
    subst (λ vs. IsOfProgram (list vs)) (items_json-map text_of (λ (e : Bor Elem). element_view e.now) way)
    (all-of-program lent_text way c.loop-element.element-index c.loop-element-test.false c.loop-element.invariant.of_program)
