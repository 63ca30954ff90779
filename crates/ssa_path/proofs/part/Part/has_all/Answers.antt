use Rattle.std.proofs.Common.{◌≡◌, [], true, sym, ap, ◌∙◌, arith, drop, true≢false}
use Rattle.std.proofs.lemmas.List.{drop_all}
use Rattle.ssa_path.specs.Subresources.{are_in_part, part_view}
use Rattle.ssa_path.proofs.InPart.{all-of}
use Rattle.ssa_path.proofs.part.Part.has_all.Goals as goal
use Rattle.ssa_path.proofs.part.Part.has_all.Goals.{else-root-via-then-root+else-not-has_root, else-root-via-else-root}

pub returns : goal.returns
returns c =
    let s = part_view c.args.self in
    let items = c.deref-child-items.result.now in
    let at_end : drop c.loop-child.child-index items ≡ [] = drop_all c.loop-child.child-index items (omega arith) in
    λ _. all-of s c.args.root.now
    (elim c.else-root.branch [
      | else-root-via-then-root+else-not-has_root w ↦ λ _. sym w.has_root.ensures ∙ w.if-not-has_root.false
      | else-root-via-else-root w ↦ λ here. absurd (true≢false (sym here ∙ w.if-root.false))
    ])
    (ap (are_in_part s) (sym c.deref-child-items.ensures.value) ∙ sym c.loop-child.invariant ∙ ap (are_in_part s) at_end)
