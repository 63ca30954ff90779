use Rattle.std.proofs.Common.{◌≡◌, List, ◌++◌, map}
use Rattle.std.specs.Vec.Iter.{into_iter_items}
use Rattle.serde_json.specs.View.{items_view as data_items, members_view as data_members}
use Rattle.serde_json.proofs.Views.{Entry}
use Rattle.ssa_json.specs.Reading.{items_value, members_value}
use Rattle.ssa_json.specs.View.{view}
use Rattle.ssa_json.proofs.Converting.{with_items, with_members, named}
use Rattle.ssa_json.proofs.Ordered.{names}
use Rattle.ssa_json.proofs.read.+convert.Given as goal

-- the items so far are converted
abbrev pub invariant-converted_items-loop-item : goal.invariant-converted_items-loop-item
invariant-converted_items-loop-item l =
    items_value (data_items l.fn.items.items) ≡ with_items (map view l.found.items) (items_value (data_items (into_iter_items l.item-iterator)))

-- the members so far are converted, under the same names
abbrev pub invariant-converted_members-loop-name : goal.invariant-converted_members-loop-name
invariant-converted_members-loop-name l = record {
  done : List Entry;
  split : l.fn.members.entries ≡ done ++ l.name-iterator;
  names : names l.found.entries ≡ names done;
  converted : members_value (data_members l.fn.members.entries) ≡ with_members (map named l.found.entries) (members_value (data_members l.name-iterator));
}
