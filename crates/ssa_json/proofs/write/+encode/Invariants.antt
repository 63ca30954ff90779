use Rattle.std.proofs.Common.{◌≡◌, ◌++◌, drop, take, false, true}
use Rattle.ssa_model.specs.definitions.Json.{compact_items, compact_members}
use Rattle.ssa_json.specs.Written.{items_narrow, members_narrow}
use Rattle.ssa_json.specs.Writable.{items_have_utf8, items_have_rising_names, members_have_utf8, members_rise}
use Rattle.ssa_json.specs.View.{items_view, members_view}
use Rattle.ssa_json.proofs.write.+encode.Given as goal

-- with the items that are left, the text is whole; the items so far are of the program
abbrev pub invariant-write_items-loop-item : goal.invariant-write_items-loop-item
invariant-write_items-loop-item l =
    let done = items_view (take l.item-index l.item-items) in
    record {
      text : l.text.items ++ compact_items l.is_later (items_view (drop l.item-index l.item-items))
          ≡ l.initial.text.items ++ compact_items false (items_view l.item-items);
      narrow : items_narrow done ≡ true;
      texts : items_have_utf8 done ≡ true;
      names : items_have_rising_names done ≡ true;
    }

-- so with the members
abbrev pub invariant-write_members-loop-key : goal.invariant-write_members-loop-key
invariant-write_members-loop-key l =
    let done = members_view (take l.key-index l.key-items) in
    record {
      text : l.text.items ++ compact_members l.is_later (members_view (drop l.key-index l.key-items))
          ≡ l.initial.text.items ++ compact_members false (members_view l.key-items);
      narrow : members_narrow done ≡ true;
      texts : members_have_utf8 done ≡ true;
      names : members_rise done ≡ true;
    }
