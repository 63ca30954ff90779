use Rattle.std.proofs.Common.{◌≡◌, IsUtf8, rules, subst, sym, true≢false}
use Rattle.ssa_model.specs.definitions.Path.{element_text, key}
use Rattle.ssa_path.specs.Keys.{members_view}
use Rattle.ssa_path.proofs.ElementTexts.{key-text-is-utf8}
use Rattle.ssa_path.proofs.element_text.key_name.Goals as goal

pub unreachable-requires : goal.unreachable-requires
unreachable-requires c =
    let text : c.push_members.new.text.items ≡ element_text (key (members_view c.args.members.now)) = search rules in
    let utf8 : IsUtf8 c.push_members.new.text.items = subst IsUtf8 (sym text) (key-text-is-utf8 c.args.members.now c.in_ok-push_members.ensures.narrow) in
    true≢false (sym (c.in-Err.ensures.succeeds utf8))
