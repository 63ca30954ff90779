use Rattle.std.proofs.Common.{◌++◌, ap, ◌∙◌}
use Rattle.ssa_model.specs.definitions.Json.{compact, list}
use Rattle.ssa_model.specs.definitions.Replies.{key_json}
use Rattle.ssa_merge.specs.Managers.{key_view}
use Rattle.ssa_model.proofs.ItemTexts.{list-written, items_json-map}
use Rattle.ssa_session.proofs.reply_text.push_managers.Goals as goal

pub returns : goal.returns
returns c =
    let ks = c.args.managers.now in
    list-written (λ k. key_json (key_view k.now)) _ c.loop-manager.text.items c.push-2.new.self.items c.loop-manager.is_later ks c.loop-manager.manager-index
    c.loop-manager-test.false c.loop-manager.invariant c.in_ok-push-2.ensures.items
    ∙ ap (λ vs. c.args.text.now.items ++ compact (list vs)) (items_json-map key_json (λ k. key_view k.now) ks)
