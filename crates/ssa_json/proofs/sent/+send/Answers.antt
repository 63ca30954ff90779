use Rattle.std.proofs.Common.{◌≡◌, [], ◌∷◌, ◌++◌, ◌+◌, length, take, drop, Some, string_bytes, string_cmp, sym, ap, ◌∙◌, subst, arith, rules}
use Rattle.std.proofs.lemmas.List.{take_more, drop_more, drop_all, take-append-drop}
use Rattle.std.proofs.lemmas.Result.{on_ok_weaker}
use Rattle.std.specs.List.Sorted.{IsStrictlySortedBy}
use Rattle.std.specs.Map.{keys_of}
use Rattle.serde.specs.Event.{Logs, seq_begins, map_begins, field_key}
use Rattle.serde.specs.declared.name.Case.TheVariants.{AsIs}
use Rattle.serde_json.specs.Events.{SendsItems, SendsMembers}
use Rattle.ssa_members.proofs.Lent.{lent-within-deepest}
use Rattle.ssa_json.specs.Written.{items_data, members_data}
use Rattle.ssa_json.specs.View.{view, items_view, members_view}
use Rattle.ssa_json.proofs.Printing.{items_narrow-push, members_narrow-push}
use Rattle.ssa_json.proofs.OfProgram.{items_have_utf8-push, items_have_rising_names-push, members_have_utf8-push, members_rise-push}
use Rattle.ssa_json.proofs.SentItems.{items_len-data, members_len-data}
use Rattle.ssa_json.proofs.value.Json.TheLaws.{the_size}
use Rattle.ssa_json.proofs.sent.+send.Goals as goal

pub send_items-loop-item-preserved : goal.send_items-loop-item-preserved
send_items-loop-item-preserved g t c =
    let l = c.loop-item in
    let xs = c.deref-item-items.result.now in
    let x = c.item-item.result in
    let left = drop (l.item-index + 1) xs in
    let here : drop l.item-index xs ≡ x ∷ left = drop_more xs l.item-index x (omega arith) ∙ ap (λ y. y ∷ left) (sym c.item-item.is) in
    let more : take (l.item-index + 1) xs ≡ take l.item-index xs ++ x ∷ [] = take_more xs l.item-index x (omega arith)
    ∙ ap (λ y. take l.item-index xs ++ y ∷ []) (sym c.item-item.is) in
    let sent = c.in_ok-send.ensures in
    record {
      sends = λ end rest. l.invariant.sends end (subst (λ ys. SendsItems (items_data (items_view ys)) (g.S.Serializer.written l.out) end) (sym here)
          (g.S.Serializer.written c.send.new.out, sent.sends, rest));
      narrow = rw more (items_narrow-push (take l.item-index xs) x l.invariant.narrow sent.narrow);
      texts = rw more (items_have_utf8-push (take l.item-index xs) x l.invariant.texts sent.texts);
      names = rw more (items_have_rising_names-push (take l.item-index xs) x l.invariant.names sent.names);
    }

pub send_items-returns-clause-sends : goal.send_items-returns-clause-sends
send_items-returns-clause-sends g t c =
    let xs = c.deref-item-items.result.now in
    let first = g.S.Serializer.written c.begin_seq.new.self in
    let end = g.S.Serializer.written c.end_seq.new.self in
    let len : c.len.result ≡ length c.args.items.now.items = search rules in
    let begun = subst (λ n. Logs (g.S.Serializer.written c.args.out.now) first (seq_begins (Some n))) (len ∙ sym (items_len-data c.args.items.now.items))
    c.in_ok-begin_seq.ensures in
    let none : drop c.loop-item.item-index xs ≡ [] = drop_all c.loop-item.item-index xs (omega arith) in
    on_ok_weaker c.end_seq.result (λ e. (
      first,
      begun,
      subst (λ ys. SendsItems (items_data (items_view ys)) first end) c.deref-item-items.ensures.value
          (c.loop-item.invariant.sends end (subst (λ ys. SendsItems (items_data (items_view ys)) (g.S.Serializer.written c.loop-item.out) end) (sym none) e)),
    )) c.end_seq.ensures

pub send_members-send-requires : goal.send_members-send-requires
send_members-send-requires g t c κs within =
    let deep = lent-within-deepest the_size c.args.members.now.entries c.entries-key-items.result.now c.loop-key.key-index c.loop-key-item.result
    c.entries-key-items.ensures.all (omega arith) c.loop-key-item.is in
    (omega (arith, deep), within)

pub send_members-loop-key-preserved : goal.send_members-loop-key-preserved
send_members-loop-key-preserved g t c =
    let l = c.loop-key in
    let es = c.entries-key-items.result.now in
    let e = c.loop-key-item.result in
    let done = take l.key-index es in
    let left = drop (l.key-index + 1) es in
    let here : drop l.key-index es ≡ e ∷ left = drop_more es l.key-index e (omega arith) ∙ ap (λ y. y ∷ left) (sym c.loop-key-item.is) in
    let more : take (l.key-index + 1) es ≡ done ++ e ∷ [] = take_more es l.key-index e (omega arith) ∙ ap (λ y. done ++ y ∷ []) (sym c.loop-key-item.is) in
    let all : c.args.members.now.entries ≡ done ++ e ∷ left = sym c.entries-key-items.ensures.all ∙ sym (take-append-drop l.key-index es) ∙ ap (λ es. done ++ es) here in
    let sorted = subst (λ es. IsStrictlySortedBy string_cmp (keys_of es)) all c.entries-key-items.ensures.ordered in
    let sent = c.in_ok-send.ensures in
    let named = g.S.Serializer.written c.key.new.self in
    let key = subst (λ k. Logs (g.S.Serializer.written l.out) named (field_key k AsIs)) c.as_str.ensures.value c.in_ok-key.ensures in
    record {
      sends = λ end rest. l.invariant.sends end (subst (λ ys. SendsMembers (members_data (members_view ys)) (g.S.Serializer.written l.out) end) (sym here)
          (named, g.S.Serializer.written c.send.new.out, key, sent.sends, rest));
      narrow = rw more (members_narrow-push done e l.invariant.narrow sent.narrow);
      texts = rw more (members_have_utf8-push done e l.invariant.texts sent.texts);
      names = rw more (members_rise-push done e left sorted l.invariant.names sent.names);
    }

pub send_members-returns-clause-sends : goal.send_members-returns-clause-sends
send_members-returns-clause-sends g t c =
    let es = c.entries-key-items.result.now in
    let first = g.S.Serializer.written c.begin_map.new.self in
    let end = g.S.Serializer.written c.end_map.new.self in
    let len : c.len.result ≡ length c.args.members.now.entries = search rules in
    let begun = subst (λ n. Logs (g.S.Serializer.written c.args.out.now) first (map_begins (Some n))) (len ∙ sym (members_len-data c.args.members.now.entries))
    c.in_ok-begin_map.ensures in
    let none : drop c.loop-key.key-index es ≡ [] = drop_all c.loop-key.key-index es (omega arith) in
    on_ok_weaker c.end_map.result (λ e. (
      first,
      begun,
      subst (λ ys. SendsMembers (members_data (members_view ys)) first end) c.entries-key-items.ensures.all
          (c.loop-key.invariant.sends end (subst (λ ys. SendsMembers (members_data (members_view ys)) (g.S.Serializer.written c.loop-key.out) end) (sym none) e)),
    )) c.end_map.ensures
