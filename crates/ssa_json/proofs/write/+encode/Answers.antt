use Rattle.std.proofs.Common.{◌≡◌, [], ◌∷◌, ◌++◌, ◌+◌, take, drop, string_bytes, string_cmp, sym, ap, ◌∙◌, subst, arith}
use Rattle.std.proofs.lemmas.List.{take_more, drop_more, take-append-drop}
use Rattle.std.specs.List.Sorted.{IsStrictlySortedBy}
use Rattle.std.specs.Map.{keys_of}
use Rattle.ssa_members.proofs.Lent.{lent-within-deepest}
use Rattle.ssa_model.specs.definitions.Json.{quoted, compact_items, compact_members}
use Rattle.ssa_json.specs.View.{view, items_view, members_view}
use Rattle.ssa_json.proofs.Printing.{items_narrow-push, members_narrow-push, item-written, member-written}
use Rattle.ssa_json.proofs.OfProgram.{items_have_utf8-push, items_have_rising_names-push, members_have_utf8-push, members_rise-push}
use Rattle.ssa_json.proofs.value.Json.TheLaws.{the_size}
use Rattle.ssa_json.proofs.write.+encode.Goals as goal

pub write_items-loop-item-preserved : goal.write_items-loop-item-preserved
write_items-loop-item-preserved t c =
    let l = c.loop-item in
    let xs = c.deref-item-items.result.now in
    let x = c.item-item.result in
    let left = drop (l.item-index + 1) xs in
    let here : drop l.item-index xs ≡ x ∷ left = drop_more xs l.item-index x (omega arith) ∙ ap (λ y. y ∷ left) (sym c.item-item.is) in
    let more : take (l.item-index + 1) xs ≡ take l.item-index xs ++ x ∷ [] = take_more xs l.item-index x (omega arith)
    ∙ ap (λ y. take l.item-index xs ++ y ∷ []) (sym c.item-item.is) in
    let written = c.in_ok-write_value.ensures in
    record {
      text =
          item-written l.text.items l.is_later (view x) (items_view left) c.in_ok-push_comma.ensures written.text
          ∙ ap (λ ys. l.text.items ++ compact_items l.is_later (items_view ys)) (sym here) ∙ l.invariant.text;
      narrow = rw more (items_narrow-push (take l.item-index xs) x l.invariant.narrow written.narrow);
      texts = rw more (items_have_utf8-push (take l.item-index xs) x l.invariant.texts written.texts);
      names = rw more (items_have_rising_names-push (take l.item-index xs) x l.invariant.names written.names);
    }

pub write_members-loop-key-preserved : goal.write_members-loop-key-preserved
write_members-loop-key-preserved t c =
    let l = c.loop-key in
    let es = c.entries-key-items.result.now in
    let e = c.loop-key-item.result in
    let done = take l.key-index es in
    let left = drop (l.key-index + 1) es in
    let here : drop l.key-index es ≡ e ∷ left = drop_more es l.key-index e (omega arith) ∙ ap (λ y. y ∷ left) (sym c.loop-key-item.is) in
    let more : take (l.key-index + 1) es ≡ done ++ e ∷ [] = take_more es l.key-index e (omega arith) ∙ ap (λ y. done ++ y ∷ []) (sym c.loop-key-item.is) in
    let all : c.args.members.now.entries ≡ done ++ e ∷ left = sym c.entries-key-items.ensures.all ∙ sym (take-append-drop l.key-index es) ∙ ap (λ es. done ++ es) here in
    let sorted = subst (λ es. IsStrictlySortedBy string_cmp (keys_of es)) all c.entries-key-items.ensures.ordered in
    let written = c.in_ok-write_value.ensures in
    record {
      text =
          member-written l.text.items l.is_later (string_bytes e.0) (view e.1) (members_view left) c.in_ok-push_comma.ensures
          (c.in_ok-push_string.ensures ∙ ap (λ n. c.push_comma.new.text.items ++ quoted n) c.as_str.ensures.value) c.in_ok-push.ensures.items written.text
          ∙ ap (λ ys. l.text.items ++ compact_members l.is_later (members_view ys)) (sym here) ∙ l.invariant.text;
      narrow = rw more (members_narrow-push done e l.invariant.narrow written.narrow);
      texts = rw more (members_have_utf8-push done e l.invariant.texts written.texts);
      names = rw more (members_rise-push done e left sorted l.invariant.names written.names);
    }

pub write_members-write_value-requires : goal.write_members-write_value-requires
write_members-write_value-requires t c =
    let deep = lent-within-deepest the_size c.args.members.now.entries c.entries-key-items.result.now c.loop-key.key-index c.loop-key-item.result
    c.entries-key-items.ensures.all (omega arith) c.loop-key-item.is in
    (omega (arith, deep), tt)
