use Rattle.std.proofs.Common.{sym, ◌∙◌}
use Rattle.ssa_members.specs.Texts.{text_bytes}
use Rattle.ssa_model.specs.definitions.Json.{quoted}
use Rattle.ssa_path.proofs.Parts.{text_cmp}
use Rattle.ssa_path.proofs.Escapes.{differ-at, same-told}
use Rattle.ssa_path.proofs.order.order_texts.Goals as goal

pub returns-then-bytes-others : goal.returns-then-bytes-others
returns-then-bytes-others c =
    c.order_bytes.ensures
    ∙ sym (differ-at c.as_bytes-bytes.result.now c.as_bytes-others.result.now 0 c.if-bytes-gt0.true c.if-others-gt0.true c.if-bytes-others.true)
    ∙ (λ i. text_cmp (quoted (c.as_bytes-bytes.ensures.value i)) (quoted (c.as_bytes-others.ensures.value i)))

pub returns-then-is_same : goal.returns-then-is_same
returns-then-is_same c = same-told (text_bytes c.args.text.now) (text_bytes c.args.other.now) (sym c.is_same.ensures ∙ c.if-is_same.true)
