use Rattle.std.proofs.Common.{not, ◌&&◌, sym, ap, ◌∙◌}
use Rattle.std.proofs.Math.Bool.{and-false, and-true}
use Rattle.ssa_model.specs.definitions.PathMap.{is_empty, minus}
use Rattle.ssa_record.proofs.FittingEntries.{union-empty}
use Rattle.ssa_record.proofs.fitting_changes.leaves_some.Goals as goal

pub returns-then-not-is_empty : goal.returns-then-not-is_empty
returns-then-not-is_empty c =
    let left = minus c.args.set.now c.args.change.now.lose in
    let gain = c.args.change.now.gain in
    let some = sym c.is_empty.ensures ∙ c.if-not-is_empty.true in
    sym (ap not (union-empty left gain ∙ ap (λ b. is_empty left && b) some ∙ and-false (is_empty left)))

pub returns : goal.returns
returns c =
    let left = minus c.args.set.now c.args.change.now.lose in
    let gain = c.args.change.now.gain in
    let none = sym c.is_empty.ensures ∙ c.if-not-is_empty.false in
    ap not
    (c.is_empty-2.ensures ∙ ap is_empty c.in_ok-left.ensures ∙ sym (union-empty left gain ∙ ap (λ b. is_empty left && b) none ∙ and-true (is_empty left)))
