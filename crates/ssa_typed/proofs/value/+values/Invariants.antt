use Rattle.std.proofs.Common.{◌≡◌, take}
use Rattle.ssa_json.specs.View.{items_view, members_view}
use Rattle.ssa_typed.specs.Values.{items_of, members_of, values_of}
use Rattle.ssa_typed.proofs.value.+values.Given as goal

-- the values of the children so far
abbrev pub invariant-members_of-loop-element : goal.invariant-members_of-loop-element
invariant-members_of-loop-element l = members_view l.members.entries ≡ members_of (values_of (take l.element-index l.children))

abbrev pub invariant-items_of-loop-child : goal.invariant-items_of-loop-child
invariant-items_of-loop-child l = items_view l.items.items ≡ items_of (values_of (take l.child-index l.children))
