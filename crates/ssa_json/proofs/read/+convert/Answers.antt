use Rattle.std.proofs.Common.{◌≡◌, [], ◌∷◌, ◌++◌, map, Ok, string_bytes, string_cmp, sym, ap, ◌∙◌, subst, arith, append_assoc}
use Rattle.std.proofs.lemmas.List.{map-append, nil_from_length}
use Rattle.std.proofs.lemmas.Result.{err_from_is_err_and}
use Rattle.std.specs.List.Sorted.{IsStrictlySortedBy}
use Rattle.std.specs.Map.{keys_of}
use Rattle.std.specs.Vec.Iter.{into_iter_items}
use Rattle.serde_json.specs.View.{view as data_view, items_view as data_items, members_view as data_members}
use Rattle.serde_json.proofs.Views.{Entry}
use Rattle.ssa_json.specs.Reading.{items_value, members_value}
use Rattle.ssa_json.specs.View.{view}
use Rattle.ssa_json.proofs.Converting.{with_items, with_members, with_items-none, with_members-none, items-step, members-step, items-fault, members-fault, items_after-none, members_after-none, Found, named, views_push, named_push}
use Rattle.ssa_json.proofs.Ordered.{names, inserted-last}
use Rattle.ssa_json.proofs.read.+convert.Goals as goal

pub converted_items-loop-item-init : goal.converted_items-loop-item-init
converted_items-loop-item-init t c =
    rw (c.in_ok-found.ensures.items, c.into_iter-item-iterator.ensures.into_iter_gives.0) (with_items-none (items_value (data_items c.args.items.items)))

pub converted_items-returns-in_err-converted : goal.converted_items-returns-in_err-converted
converted_items-returns-in_err-converted t c =
    let l = c.loop-item in
    let p = err_from_is_err_and c.from_residual-in_err-converted.result c.from_residual-in_err-converted.ensures.1 in
    let so_far = l.invariant ∙ ap (λ ys. with_items (map view l.found.items) (items_value (data_items ys))) c.in-Some.ensures.steps.0 in
    rw (p.1, p.2) (items-fault c.in_err-converted.field-0.0 (map view l.found.items) (data_view c.in-Some.item) (data_items (into_iter_items c.next.new.self))
    _ so_far c.in_err-converted.ensures)

pub converted_items-loop-item-preserved : goal.converted_items-loop-item-preserved
converted_items-loop-item-preserved t c =
    let l = c.loop-item in
    let x = c.in-Some.item in
    let left = into_iter_items c.next.new.self in
    let j = c.in_ok-converted.field-0 in
    l.invariant ∙ ap (λ ys. with_items (map view l.found.items) (items_value (data_items ys))) c.in-Some.ensures.steps.0
    ∙ items-step (map view l.found.items) (view j) (data_view x) (data_items left) c.in_ok-converted.ensures
    ∙ ap (λ front. with_items front (items_value (data_items left))) (views_push l.found.items j c.push.new.self.items c.in_ok-push.ensures.items)

pub converted_items-returns : goal.converted_items-returns
converted_items-returns t c =
    let l = c.loop-item in
    let none : into_iter_items l.item-iterator ≡ [] = nil_from_length (into_iter_items l.item-iterator)
    (omega (arith, c.in-None.ensures.steps.0, l.item-iterator.rest.ok)) in
    l.invariant ∙ ap (λ ys. with_items (map view l.found.items) (items_value (data_items ys))) none ∙ ap Ok (items_after-none (map view l.found.items))

pub converted_members-loop-name-init : goal.converted_members-loop-name-init
converted_members-loop-name-init t c =
    let same : c.args.members.entries ≡ c.into_iter-name-iterator.result = sym c.into_iter-name-iterator.ensures.into_iter_gives.0 in
    record {
      done = [];
      split = same;
      names = ap names c.new-found.ensures.empty;
      converted = rw c.new-found.ensures.empty (with_members-none (members_value (data_members c.args.members.entries))
          ∙ ap (λ es. with_members [] (members_value (data_members es))) same);
    }

pub converted_members-returns-in_err-converted : goal.converted_members-returns-in_err-converted
converted_members-returns-in_err-converted t c =
    let l = c.loop-name in
    let p = err_from_is_err_and c.from_residual-in_err-converted.result c.from_residual-in_err-converted.ensures.1 in
    let so_far = l.invariant.converted ∙ ap (λ es. with_members (map named l.found.entries) (members_value (data_members es))) c.in-Some.ensures.steps in
    rw (p.1, p.2) (members-fault c.in_err-converted.field-0.0 (map named l.found.entries) (string_bytes c.in-Some.name) (data_view c.in-Some.member)
    (data_members c.next.new.self) _ so_far c.in_err-converted.ensures)

pub converted_members-loop-name-preserved : goal.converted_members-loop-name-preserved
converted_members-loop-name-preserved t c =
    let l = c.loop-name in
    let done = l.invariant.done in
    let e : Entry = (c.in-Some.name, c.in-Some.member) in
    let left = c.next.new.self in
    let step : l.name-iterator ≡ e ∷ left = c.in-Some.ensures.steps in
    let all : c.args.members.entries ≡ done ++ e ∷ left = l.invariant.split ∙ ap (λ es. done ++ es) step in
    let j = c.in_ok-converted.field-0 in
    let k = c.in_ok-key.key in
    let same : string_bytes k ≡ string_bytes e.0 = c.in_ok-key.ensures.ok in
    let sorted : IsStrictlySortedBy string_cmp (keys_of c.args.members.entries) = c.into_iter-name-iterator.ensures.into_iter_gives.5 in
    let last = c.in_ok-insert.ensures.entries ∙ inserted-last done e left l.found.entries k j
    (subst (λ es. IsStrictlySortedBy string_cmp (keys_of es)) all sorted) l.invariant.names same in
    record {
      done = done ++ e ∷ [];
      split = all ∙ sym (append_assoc done (e ∷ []) left);
      names =
          ap names last ∙ map-append (λ (f : Found). string_bytes f.0) l.found.entries ((k, j) ∷ [])
          ∙ rw (l.invariant.names, same) (sym (map-append (λ (m : Entry). string_bytes m.0) done (e ∷ [])));
      converted =
          l.invariant.converted ∙ ap (λ es. with_members (map named l.found.entries) (members_value (data_members es))) step
          ∙ members-step (map named l.found.entries) (view j) (string_bytes e.0) (data_view e.1) (data_members left) c.in_ok-converted.ensures
          ∙ ap (λ bs. with_members (map named l.found.entries ++ (bs, view j) ∷ []) (members_value (data_members left))) (sym same)
          ∙ ap (λ front. with_members front (members_value (data_members left))) (named_push l.found.entries k j c.insert.new.self.entries last);
    }

pub converted_members-returns : goal.converted_members-returns
converted_members-returns t c =
    let l = c.loop-name in
    l.invariant.converted ∙ ap (λ es. with_members (map named l.found.entries) (members_value (data_members es))) c.in-None.ensures.steps.0
    ∙ ap Ok (members_after-none l.found.entries)
