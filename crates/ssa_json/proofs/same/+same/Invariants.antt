use Rattle.std.proofs.Common.{◌≡◌, drop}
use Rattle.ssa_model.specs.definitions.Json.{same_items, same_members}
use Rattle.ssa_json.specs.View.{items_view, members_view}
use Rattle.ssa_json.proofs.same.+same.Given as goal

-- what is left decides
abbrev pub invariant-same_items-loop-item : goal.invariant-same_items-loop-item
invariant-same_items-loop-item l =
    same_items (items_view l.item-items) (items_view l.others.items) ≡ same_items (items_view (drop l.item-index l.item-items)) (items_view l.rest.rest.now)

abbrev pub invariant-same_members-loop-name : goal.invariant-same_members-loop-name
invariant-same_members-loop-name l =
    same_members (members_view l.name-items) (members_view l.others.entries) ≡ same_members (members_view (drop l.name-index l.name-items)) (members_view l.rest.rest.now)
