use Rattle.std.proofs.Common.{◌<◌, length, get_or, arith, ap, sym, map, ◌∙◌, ◌++◌, ◌∷◌, []}
use Rattle.std.proofs.lemmas.List.{map-append}
use Rattle.ssa_path.specs.View.{element_view}
use Rattle.ssa_turn_body.specs.Marks.{Child}
use Rattle.ssa_turn_body.proofs.Missing.{missing-place, missing-element, present-place, present-element, get-again}
use Rattle.ssa_turn_body.proofs.found.missing.Goals as goal
use Rattle.ssa_turn_body.proofs.Descending.{first-child}

pub loop-i-preserved-then-is_some : goal.loop-i-preserved-then-is_some
loop-i-preserved-then-is_some c =
    let cs = c.args.children.now in
    let fs = c.args.found.now in
    let i = c.loop-i.i in
    let some = sym c.is_some.ensures ∙ c.if-is_some.true in
    let inv = c.loop-i.invariant in
    let within : i < length cs = omega (arith, c.requires, c.loop-i-test.true) in
    let child = get_or cs i (first-child cs i within) in
    record {
      places = inv.places ∙ sym (present-place fs i c.loop-i-test.true some);
      named = inv.named ∙ sym (present-element fs cs i child c.loop-i-test.true c.requires (get-again cs i child (first-child cs i within) within) some);
    }

pub loop-i-preserved : goal.loop-i-preserved
loop-i-preserved c =
    let cs = c.args.children.now in
    let fs = c.args.found.now in
    let i = c.loop-i.i in
    let child = c.index-children-i.result in
    let none = sym c.is_some.ensures ∙ c.if-is_some.false in
    let inv = c.loop-i.invariant in
    record {
      places = c.in_ok-push-2.ensures.items ∙ ap (λ xs. xs ++ i ∷ []) inv.places
          ∙ sym (missing-place fs cs i child c.loop-i-test.true c.requires c.index-children-i.is none);
      named =
          ap (λ xs. map element_view xs) c.in_ok-push.ensures.items ∙ map-append element_view c.loop-i.elements.items (c.in_ok-element.element ∷ [])
          ∙ (λ t. inv.named t ++ (c.in_ok-element.ensures ∙ ap (λ (d : Child). element_view d.0) (sym c.index-children-i.is)) t ∷ [])
          ∙ sym (missing-element fs cs i child c.loop-i-test.true c.requires c.index-children-i.is none);
    }
