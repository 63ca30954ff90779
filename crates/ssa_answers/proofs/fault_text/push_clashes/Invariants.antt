use Rattle.std.proofs.Common.{◌≡◌, ◌∷◌, ◌++◌, false}
use Rattle.ssa_model.specs.definitions.Replies.{clash_json}
use Rattle.ssa_merge.specs.Managers.{clash_view}
use Rattle.ssa_json.proofs.ItemTexts.{rest_text}
use Rattle.ssa_answers.proofs.fault_text.push_clashes.Given as goal

-- with what is left, the text is whole
abbrev pub invariant-loop-clash : goal.invariant-loop-clash
invariant-loop-clash l =
    l.text.items ++ rest_text (λ c. clash_json (clash_view c)) l.is_later l.clashes l.clash-index
    ≡ l.fn.text.items ++ 91 ∷ rest_text (λ c. clash_json (clash_view c)) false l.clashes 0
