use Rattle.std.proofs.Common.{sym, ◌∙◌}
use Rattle.ssa_model.specs.definitions.Json.{same_text}
use Rattle.std.proofs.lemmas.Map.Text.{is_eq-slice_cmp}
use Rattle.ssa_path.proofs.element_read.has_text.Goals as goal

pub returns-clause-same : goal.returns-clause-same
returns-clause-same c =
    c.eq.ensures ∙ sym (is_eq-slice_cmp c.as_slice.result.now c.as_bytes.result.now)
    ∙ (λ i. same_text ((c.as_slice.ensures.value ∙ c.in_ok-own.ensures.text) i) (c.as_bytes.ensures.value i))
