use Rattle.std.proofs.Common.{◌≡◌, drop}
use Rattle.ssa_model.specs.definitions.Path.{Path}
use Rattle.ssa_model.specs.definitions.Kind.{key_faults}
use Rattle.ssa_json.specs.View.{members_view}
use Rattle.ssa_schema.specs.Kinds.{fields_view, names_view}
use Rattle.ssa_schema.specs.Refusals.{first_of}
use Rattle.ssa_schema.proofs.fit.item_keys.keys_misfit.Given as goal

-- what is left decides
abbrev pub invariant-loop-name : goal.invariant-loop-name
invariant-loop-name l =
    (p : Path) → first_of (key_faults (names_view l.keys) (fields_view l.fields.entries) (members_view l.members.entries) p)
    ≡ first_of (key_faults (names_view (drop l.name-index l.keys)) (fields_view l.fields.entries) (members_view l.members.entries) p)
