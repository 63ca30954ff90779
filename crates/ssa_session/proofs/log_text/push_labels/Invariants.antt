use Rattle.std.proofs.Common.{◌≡◌, ◌∷◌, ◌++◌, false}
use Rattle.ssa_model.specs.definitions.Replies.{label_json}
use Rattle.ssa_turn.specs.Histories.{label_view}
use Rattle.ssa_model.proofs.ItemTexts.{rest_text}
use Rattle.ssa_session.proofs.log_text.push_labels.Given as goal

-- with what is left, the text is whole
abbrev pub invariant-loop-label : goal.invariant-loop-label
invariant-loop-label l =
    l.text.items ++ rest_text (λ k. label_json (label_view k.now)) l.is_later l.labels l.label-index
    ≡ l.fn.text.items ++ 91 ∷ rest_text (λ k. label_json (label_view k.now)) false l.labels 0
