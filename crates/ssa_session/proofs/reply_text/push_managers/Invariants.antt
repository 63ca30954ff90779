use Rattle.std.proofs.Common.{◌≡◌, ◌∷◌, ◌++◌, false}
use Rattle.ssa_model.specs.definitions.Replies.{key_json}
use Rattle.ssa_merge.specs.Managers.{key_view}
use Rattle.ssa_model.proofs.ItemTexts.{rest_text}
use Rattle.ssa_session.proofs.reply_text.push_managers.Given as goal

-- with what is left, the text is whole
abbrev pub invariant-loop-manager : goal.invariant-loop-manager
invariant-loop-manager l =
    l.text.items ++ rest_text (λ k. key_json (key_view k.now)) l.is_later l.managers l.manager-index
    ≡ l.fn.text.items ++ 91 ∷ rest_text (λ k. key_json (key_view k.now)) false l.managers 0
