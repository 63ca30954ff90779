use Rattle.std.proofs.Common.{◌≡◌, drop}
use Rattle.ssa_json.specs.View.{members_view}
use Rattle.ssa_told.specs.Shapes.{shapes_of}
use Rattle.ssa_told.specs.Telling.{are_named}
use Rattle.ssa_told.proofs.member_names.have_names_of.Given as goal

-- what is left decides
abbrev pub invariant-loop-name : goal.invariant-loop-name
invariant-loop-name l = are_named (shapes_of l.shape) (members_view l.members.entries) ≡ are_named (shapes_of l.shape) (members_view (drop l.name-index l.name-items))
