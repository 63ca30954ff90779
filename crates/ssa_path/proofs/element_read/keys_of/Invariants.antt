use Rattle.std.proofs.Common.{◌≡◌}
use Rattle.std.specs.Vec.Iter.{into_iter_items}
use Rattle.ssa_model.specs.definitions.ElementTexts.{key_of}
use Rattle.ssa_json.specs.View.{members_view as json_members}
use Rattle.ssa_path.specs.Keys.{members_view}
use Rattle.ssa_path.proofs.Readings.{with_keys}
use Rattle.ssa_path.proofs.element_read.keys_of.Given as goal

-- the members so far are scalars
abbrev pub invariant-loop-name : goal.invariant-loop-name
invariant-loop-name l = key_of (json_members l.fn.members.entries) ≡ with_keys (members_view l.found.items) (key_of (json_members (into_iter_items l.name-iterator)))
