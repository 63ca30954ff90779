use Rattle.std.proofs.Common.{◌++◌, ap, ◌∙◌}
use Rattle.ssa_model.specs.definitions.Json.{compact, list}
use Rattle.ssa_model.specs.definitions.Replies.{label_json}
use Rattle.ssa_turn.specs.Histories.{label_view}
use Rattle.ssa_model.proofs.ItemTexts.{list-written, items_json-map}
use Rattle.ssa_session.proofs.log_text.push_labels.Goals as goal

pub returns : goal.returns
returns c =
    let ls = c.args.labels.now in
    list-written (λ l. label_json (label_view l.now)) _ c.loop-label.text.items c.push-2.new.self.items c.loop-label.is_later ls c.loop-label.label-index
    c.loop-label-test.false c.loop-label.invariant c.in_ok-push-2.ensures.items
    ∙ ap (λ vs. c.args.text.now.items ++ compact (list vs)) (items_json-map label_json (λ l. label_view l.now) ls)
