use Rattle.std.proofs.Common.{◌++◌, ap, ◌∙◌}
use Rattle.ssa_model.specs.definitions.Json.{compact, list}
use Rattle.ssa_model.specs.definitions.Replies.{clash_json}
use Rattle.ssa_merge.specs.Managers.{clash_view}
use Rattle.ssa_json.proofs.ItemTexts.{item-written, list-written, items_json-map}
use Rattle.ssa_answers.proofs.fault_text.push_clashes.Goals as goal

pub loop-clash-preserved : goal.loop-clash-preserved
loop-clash-preserved c =
    item-written (λ x. clash_json (clash_view x)) _ c.loop-clash.text.items c.push_comma.new.text.items c.push_clash.new.text.items c.loop-clash.is_later
    c.args.clashes.now c.loop-clash.clash-index _
    c.loop-clash-test.true c.clash-item.is c.loop-clash.invariant c.in_ok-push_comma.ensures c.in_ok-push_clash.ensures

pub returns : goal.returns
returns c =
    let cs = c.args.clashes.now in
    list-written (λ x. clash_json (clash_view x)) _ c.loop-clash.text.items c.push-2.new.self.items c.loop-clash.is_later cs c.loop-clash.clash-index
    c.loop-clash-test.false c.loop-clash.invariant c.in_ok-push-2.ensures.items
    ∙ ap (λ vs. c.args.text.now.items ++ compact (list vs)) (items_json-map clash_json clash_view cs)
