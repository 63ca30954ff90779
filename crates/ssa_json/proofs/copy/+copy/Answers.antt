use Rattle.std.proofs.Common.{◌≡◌, [], ◌∷◌, ◌++◌, ◌+◌, arith, map, string_bytes, sym, take, ap, ap₂, ◌∙◌, subst}
use Rattle.std.proofs.lemmas.List.{map-append, take_all, take_more}
use Rattle.ssa_members.proofs.Lent.{lent-within-deepest}
use Rattle.ssa_members.specs.Members.{IsRising}
use Rattle.ssa_model.specs.definitions.Json.{no_members}
use Rattle.ssa_json.specs.View.{members_view}
use Rattle.ssa_json.proofs.Converting.{named, members_after, members_after-none, same_names}
use Rattle.ssa_json.proofs.Ordered.{rising-by-names}
use Rattle.ssa_json.proofs.value.Json.TheLaws.{the_size}
use Rattle.ssa_json.proofs.copy.+copy.Goals as goal

pub copied_members-copied-requires : goal.copied_members-copied-requires
copied_members-copied-requires t c =
    let deep = lent-within-deepest the_size c.args.members.now.entries c.entries-name-items.result.now c.loop-name.name-index c.loop-name-item.result
    c.entries-name-items.ensures.all (omega arith) c.loop-name-item.is in
    (omega (arith, deep), tt)

pub copied_members-loop-name-preserved : goal.copied_members-loop-name-preserved
copied_members-loop-name-preserved t c =
    let l = c.loop-name in
    let es = c.entries-name-items.result.now in
    let e = c.loop-name-item.result in
    let done = take l.name-index es in
    let more : take (l.name-index + 1) es ≡ done ++ e ∷ [] = take_more es l.name-index e (omega arith) ∙ ap (λ y. done ++ y ∷ []) (sym c.loop-name-item.is) in
    let j = c.in_ok-copied.field-0 in
    let key : string_bytes c.in_ok-key.key ≡ string_bytes e.0 = c.in_ok-key.ensures in
    ap (map named) c.in_ok-push.ensures.items ∙ map-append named l.found.items ((c.in_ok-key.key, j) ∷ [])
    ∙ ap₂ (λ a b. a ++ b ∷ []) l.invariant (λ i. (key i, c.in_ok-copied.ensures i))
    ∙ sym (map-append named done (e ∷ [])) ∙ ap (map named) (sym more)

pub copied_members-of_rising-requires : goal.copied_members-of_rising-requires
copied_members-of_rising-requires t c =
    let es = c.entries-name-items.result.now in
    let same : map named c.loop-name.found.items ≡ map named es = c.loop-name.invariant ∙ ap (map named) (take_all c.loop-name.name-index es (omega arith)) in
    rising-by-names c.loop-name.found.items es (same_names c.loop-name.found.items es same) (subst IsRising (sym c.entries-name-items.ensures.all) c.entries-name-items.ensures.ordered)

pub copied_members-returns : goal.copied_members-returns
copied_members-returns t c =
    let l = c.loop-name in
    let es = c.entries-name-items.result.now in
    let same : map named l.found.items ≡ map named es = l.invariant ∙ ap (map named) (take_all l.name-index es (omega arith)) in
    ap members_view c.of_rising.ensures ∙ sym (members_after-none l.found.items) ∙ ap (λ ns. members_after ns no_members) same ∙ members_after-none es
    ∙ ap members_view c.entries-name-items.ensures.all
