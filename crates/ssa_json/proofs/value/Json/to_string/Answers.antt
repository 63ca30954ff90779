use Rattle.std.proofs.Common.{IsUtf8, sym, subst, true≢false}
use Rattle.ssa_json.specs.View.{view}
use Rattle.ssa_json.proofs.ReadingBack.{IsUtf8-compact}
use Rattle.ssa_json.proofs.value.Json.to_string.Goals as goal

pub unreachable-requires : goal.unreachable-requires
unreachable-requires c =
    let made = c.in_ok-to_text.ensures in
    let utf8 = IsUtf8-compact (view c.args.self.now) made.of_program.narrow made.of_program.texts in
    true≢false (sym (c.in-Err.ensures.succeeds (subst IsUtf8 (sym made.text) utf8)))
