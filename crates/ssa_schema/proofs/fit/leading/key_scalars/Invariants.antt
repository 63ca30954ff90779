use Rattle.std.proofs.Common.{◌≡◌, ◌++◌, drop}
use Rattle.std.specs.Prelude.{option_map}
use Rattle.ssa_json.specs.View.{members_view}
use Rattle.ssa_schema.specs.Kinds.{names_view}
use Rattle.ssa_schema.specs.Repeats.{scalars_view, key_row}
use Rattle.ssa_schema.proofs.fit.leading.key_scalars.Given as goal

-- with those of the names that are left
abbrev pub invariant-loop-name : goal.invariant-loop-name
invariant-loop-name l =
    option_map (λ r. scalars_view l.scalars.items ++ r) (key_row (names_view (drop l.name-index l.names)) (members_view l.members.entries))
    ≡ key_row (names_view l.names) (members_view l.members.entries)
