use Rattle.std.proofs.Common.{IsUtf8, ap, subst, sym, ◌∙◌, true≢false}
use Rattle.ssa_model.specs.definitions.ElementTexts.{element_of}
use Rattle.ssa_json.specs.Reading.{json_reading}
use Rattle.ssa_path.specs.View.{element_view}
use Rattle.ssa_path.proofs.ElementTexts.{element_text-is-utf8}
use Rattle.ssa_path.proofs.element.Elem.name.Goals as goal

pub unreachable-requires : goal.unreachable-requires
unreachable-requires c =
    let e = element_view c.args.self.now in
    let text = c.in_ok-text.ensures.text in
    let utf8 : IsUtf8 c.in_ok-text.text.items = subst IsUtf8 (sym text)
    (element_text-is-utf8 e c.in_ok-text.ensures.of_program.texts (ap (element_of json_reading) (sym text) ∙ c.in_ok-text.ensures.is_read)) in
    true≢false (sym (c.in-Err.ensures.succeeds utf8))
