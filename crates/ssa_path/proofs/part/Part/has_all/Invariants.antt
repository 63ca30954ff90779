use Rattle.std.proofs.Common.{◌≡◌, drop}
use Rattle.ssa_path.specs.Subresources.{are_in_part, part_view}
use Rattle.ssa_path.proofs.part.Part.has_all.Given as goal

-- those before are of the part
abbrev pub invariant-loop-child : goal.invariant-loop-child
invariant-loop-child l = are_in_part (part_view l.self) (drop l.child-index l.child-items) ≡ are_in_part (part_view l.self) l.child-items
