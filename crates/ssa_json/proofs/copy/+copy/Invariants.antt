use Rattle.std.proofs.Common.{◌≡◌, take, map}
use Rattle.ssa_json.specs.View.{view}
use Rattle.ssa_json.proofs.Converting.{named}
use Rattle.ssa_json.proofs.copy.+copy.Given as goal

-- the items so far are copied
abbrev pub invariant-copied_items-loop-item : goal.invariant-copied_items-loop-item
invariant-copied_items-loop-item l = map view l.found.items ≡ map view (take l.item-index l.item-items)

-- so are the members
abbrev pub invariant-copied_members-loop-name : goal.invariant-copied_members-loop-name
invariant-copied_members-loop-name l = map named l.found.items ≡ map named (take l.name-index l.name-items)
