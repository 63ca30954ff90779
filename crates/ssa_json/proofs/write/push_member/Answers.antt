use Rattle.std.proofs.lemmas.Result.{on_ok_weaker}
use Rattle.ssa_json.specs.View.{view}
use Rattle.ssa_json.proofs.MemberTexts.{member-of}
use Rattle.ssa_json.proofs.write.push_member.Goals as goal

pub returns-clause-text : goal.returns-clause-text
returns-clause-text c =
    on_ok_weaker c.write_value.result (member-of c.args.text.now.items c.args.is_later c.args.name.now (view c.args.value.now) c.in_ok-push_name.ensures.text) c.write_value.ensures.text

pub returns-clause-utf8 : goal.returns-clause-utf8
returns-clause-utf8 c = on_ok_weaker c.write_value.result (λ _. c.in_ok-push_name.ensures.utf8) c.write_value.ensures.text
