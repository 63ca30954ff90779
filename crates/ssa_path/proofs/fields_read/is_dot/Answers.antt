use Rattle.std.proofs.Common.{sym, ◌∙◌}
use Rattle.std.proofs.lemmas.Map.Text.{is_eq-slice_cmp}
use Rattle.ssa_model.specs.definitions.Json.{same_text}
use Rattle.ssa_path.proofs.fields_read.is_dot.Goals as goal

pub returns : goal.returns
returns c =
    c.eq.ensures ∙ sym (is_eq-slice_cmp c.as_bytes.result.now c.as_slice.result.now)
    ∙ (λ i. same_text (c.as_bytes.ensures.value i) (c.as_slice.ensures i))
