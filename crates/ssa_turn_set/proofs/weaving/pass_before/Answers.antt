use Rattle.std.proofs.Common.{◌≡◌, ◌++◌, ◌∷◌, [], ap, sym, ◌∙◌, length, reverse, arith, true≢false}
use Rattle.std.proofs.lemmas.List.{length-append, length-reverse}
use Rattle.ssa_path.specs.Children.{elements, rises}
use Rattle.ssa_path.specs.View.{element_view}
use Rattle.ssa_turn_set.specs.Weaving.{starts_before}
use Rattle.ssa_turn_set.proofs.Coming.{pass-more, passed-items}
use Rattle.ssa_turn_set.proofs.weaving.pass_before.Goals as goal

pub unreachable-requires : goal.unreachable-requires
unreachable-requires c =
    let e = element_view c.args.element.now in
    let started = ap (λ l. starts_before e (reverse l)) (sym c.deref.ensures.value) ∙ sym c.is_before.ensures ∙ c.loop-left-test.true in
    true≢false (sym started ∙ ap (λ l. starts_before e (reverse l)) c.in_default.ensures.none)

pub loop-left-preserved : goal.loop-left-preserved
loop-left-preserved c =
    let e = element_view c.args.element.now in
    let inv = c.loop-left.invariant in
    let next : reverse c.loop-left.left.items ≡ c.in-Some.child ∷ reverse c.next.new.left.items = c.in-Some.ensures.items in
    let started = ap (starts_before e) (sym next) ∙ ap (λ l. starts_before e (reverse l)) (sym c.deref.ensures.value) ∙ sym c.is_before.ensures
    ∙ c.loop-left-test.true in
    let rise = ap (λ l. rises (elements (c.loop-left.passed.items ++ l))) (sym next) ∙ ap (λ l. rises (elements l)) inv.0 ∙ c.requires.rise in
    let fits = inv.2 in
    let long = ap length next in
    let a = length-reverse c.loop-left.left.items in
    let b = length-reverse c.next.new.left.items in
    let pushed = simp length-append at (ap length c.push_within.ensures.items) in
    let capacity = c.push_within.ensures.capacity in
    let capacity_before = inv.3 in (
      passed-items _ c.loop-left.passed.items c.push_within.new.items.items c.in-Some.child (reverse c.loop-left.left.items) (reverse c.next.new.left.items)
          c.push_within.ensures.items next inv.0,
      ap (λ l. rises (elements l ++ e ∷ [])) c.push_within.ensures.items
          ∙ pass-more e c.loop-left.passed.items c.in-Some.child (reverse c.next.new.left.items) rise started,
      omega arith,
      omega arith,
      c.next.ensures.capacity ∙ inv.4,
    )
