use Rattle.std.proofs.lemmas.Result.{on_ok_weaker}
use Rattle.ssa_model.specs.definitions.Json.{scalar_text}
use Rattle.ssa_json.specs.View.{scalar_view}
use Rattle.ssa_path.proofs.NestedTexts.{parts-written}
use Rattle.ssa_path.proofs.nested_text.push_nested_member.Goals as goal

pub returns-clause-text : goal.returns-clause-text
returns-clause-text c =
    on_ok_weaker c.push_nested_scalar.result
    (parts-written c.args.text.now.items c.push_comma.new.text.items c.push_nested.new.text.items c.push.new.self.items _ c.args.name.now
    (scalar_text (scalar_view c.args.scalar.now)) c.args.is_later c.in_ok-push_comma.ensures c.in_ok-push_nested.ensures c.in_ok-push.ensures.items)
    c.push_nested_scalar.ensures.text
