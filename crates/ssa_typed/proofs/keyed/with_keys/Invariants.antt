use Rattle.std.proofs.Common.{◌≡◌, map, take}
use Rattle.ssa_path.specs.View.{element_view}
use Rattle.ssa_typed.specs.Keyed.{behind_key, keyed_view}
use Rattle.ssa_typed.proofs.keyed.with_keys.Given as goal

-- the children so far, behind their numbers
abbrev pub invariant-loop-child : goal.invariant-loop-child
invariant-loop-child l = map keyed_view l.keyed.items ≡ map (behind_key (element_view l.first) l.skip) (take l.child-index l.children)
