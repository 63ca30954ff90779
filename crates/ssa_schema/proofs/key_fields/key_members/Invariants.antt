use Rattle.std.proofs.Common.{◌≡◌, ◌++◌, drop}
use Rattle.ssa_model.specs.definitions.Kind.{key_scalars}
use Rattle.ssa_path.specs.Keys as keys
use Rattle.ssa_json.specs.View.{members_view}
use Rattle.ssa_schema.specs.Kinds.{names_view}
use Rattle.ssa_schema.proofs.key_fields.key_members.Given as goal

-- the scalars so far, and those of the names that are left
abbrev pub invariant-loop-name : goal.invariant-loop-name
invariant-loop-name l =
    keys.members_view l.found.items ++ key_scalars (names_view (drop l.name-index l.names)) (members_view l.members.entries)
    ≡ key_scalars (names_view l.names) (members_view l.members.entries)
