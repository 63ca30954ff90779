use Rattle.std.proofs.Common.{◌≡◌, false, cond, ap, sym, ◌∙◌}
use Rattle.ssa_model.proofs.Fitting.{same_element-true}
use Rattle.ssa_path.specs.Trie.{is_filled}
use Rattle.ssa_path.specs.View.{element_view}
use Rattle.ssa_turn_set.specs.Spare.{fits, is_nothing}
use Rattle.ssa_turn_set.proofs.lose.keep_bare.Goals as goal

pub returns-clause-spare : goal.returns-clause-spare
returns-clause-spare c e tie none =
    let bare : is_filled c.args.child.now.1 ≡ false = sym c.has_paths.ensures ∙ c.if-has_paths.false in
    let same : element_view c.replace-element.result ≡ e = ap element_view c.replace-element.ensures.value ∙ sym (same_element-true e _ tie) in
    ap (λ b. cond b (is_nothing c.empty_element.result) (fits e c.empty_element.result)) bare
    ∙ ap (λ f. fits f c.empty_element.result) (sym same) ∙ c.empty_element.ensures
