use Rattle.std.proofs.Common.{◌≡◌, drop}
use Rattle.ssa_model.specs.definitions.Path.{field, key, names_key}
use Rattle.ssa_path.specs.Keys.{members_view}
use Rattle.ssa_record.proofs.item_spot.have_name.Given as goal

-- what is left decides
abbrev pub invariant-loop-member : goal.invariant-loop-member
invariant-loop-member l = names_key (key (members_view (drop l.member-index l.keys))) (field l.name) ≡ names_key (key (members_view l.keys)) (field l.name)
