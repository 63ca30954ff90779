use Rattle.std.proofs.Common.{◌≡◌, map, drop}
use Rattle.ssa_model.specs.definitions.Objects.{without}
use Rattle.ssa_json.specs.View.{members_view}
use Rattle.ssa_object.proofs.body_value.remove_members.Given as goal

-- the names that are left take out the rest
abbrev pub invariant-loop-name : goal.invariant-loop-name
invariant-loop-name l =
    without (map (λ n. n.now) (drop l.name-index l.names)) (members_view l.members.entries) ≡ without (map (λ n. n.now) l.names) (members_view l.fn.members.entries)
