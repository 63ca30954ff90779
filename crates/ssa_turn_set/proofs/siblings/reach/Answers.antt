use Rattle.std.proofs.Common.{◌≡◌, ◌-◌, suc, false, ap, sym, ◌∙◌, take, arith, subst}
use Rattle.std.specs.Ordering.{is_lt}
use Rattle.ssa_model.specs.definitions.Path.{element_cmp}
use Rattle.ssa_path.specs.declared.element.Elem.{Elem}
use Rattle.ssa_path.specs.declared.trie.Trie.{Trie}
use Rattle.ssa_path.specs.Children.{child_at}
use Rattle.ssa_path.specs.View.{element_view}
use Rattle.ssa_turn_set.proofs.Reaching.{not_before, reaches}
use Rattle.ssa_turn_set.proofs.siblings.reach.Goals as goal

pub returns-else-eq-clause-enough : goal.returns-else-eq-clause-enough
returns-else-eq-clause-enough c =
    let e = element_view c.args.element.now in
    let cs = c.args.children.now in
    let w = c.loop-width.width in
    let d = c.index-children-width.result in
    let test = c.loop-width-test.true in
    let some = c.loop-width.invariant.1 in
    let next : suc (w - 1) ≡ w = omega arith in
    let at : c.order.result ≡ element_cmp (element_view d.0) e =
    c.order.ensures ∙ ap (λ (x : Elem × Trie). element_cmp (element_view x.0) e) (sym c.index-children-width.is) in
    let later : is_lt (element_cmp (element_view d.0) e) ≡ false = ap is_lt (sym at) ∙ not_before c.order.result (sym c.eq.ensures ∙ c.if-eq.false) in
    subst (λ n. child_at e (take n cs) ≡ child_at e cs) next (reaches e cs (w - 1) d c.requires (omega arith) c.index-children-width.is later)
