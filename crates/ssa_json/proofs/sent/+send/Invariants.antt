use Rattle.std.proofs.Common.{◌≡◌, drop, take, true}
use Rattle.serde.specs.Event.{Log}
use Rattle.serde_json.specs.Events.{SendsItems, SendsMembers}
use Rattle.ssa_json.specs.Written.{items_data, members_data, items_narrow, members_narrow}
use Rattle.ssa_json.specs.Writable.{items_have_utf8, items_have_rising_names, members_have_utf8, members_rise}
use Rattle.ssa_json.specs.View.{items_view, members_view}
use Rattle.ssa_json.proofs.sent.+send.Given as goal

-- whatever ends the items well from here ends them well from the start; the items so far are of the program
abbrev pub invariant-send_items-loop-item : goal.invariant-send_items-loop-item
invariant-send_items-loop-item g l =
    let done = items_view (take l.item-index l.item-items) in
    record {
      sends : (end : Log) → SendsItems (items_data (items_view (drop l.item-index l.item-items))) (g.S.Serializer.written l.out) end
          → SendsItems (items_data (items_view l.item-items)) (g.S.Serializer.written l.initial.out) end;
      narrow : items_narrow done ≡ true;
      texts : items_have_utf8 done ≡ true;
      names : items_have_rising_names done ≡ true;
    }

-- so with the members
abbrev pub invariant-send_members-loop-key : goal.invariant-send_members-loop-key
invariant-send_members-loop-key g l =
    let done = members_view (take l.key-index l.key-items) in
    record {
      sends : (end : Log) → SendsMembers (members_data (members_view (drop l.key-index l.key-items))) (g.S.Serializer.written l.out) end
          → SendsMembers (members_data (members_view l.key-items)) (g.S.Serializer.written l.initial.out) end;
      narrow : members_narrow done ≡ true;
      texts : members_have_utf8 done ≡ true;
      names : members_rise done ≡ true;
    }
