use Rattle.std.proofs.Common.{◌≡◌, take}
use Rattle.ssa_path.specs.Subresources.{in_part, other_part, part_view}
use Rattle.ssa_typed.specs.Copies.{kept_below}
use Rattle.ssa_typed.proofs.in_part.copies_outside.Given as goal

-- those before that are not of the part are copied
abbrev pub invariant-loop-element : goal.invariant-loop-element
invariant-loop-element l = kept_below l.copies.items ≡ kept_below (in_part (other_part (part_view l.part)) (take l.element-index l.children))
