use Rattle.std.proofs.Common.{ap, sym, subst, ◌∙◌, length}
use Rattle.ssa_turn_body.specs.Found.{filled}
use Rattle.ssa_turn_body.specs.Orders.{AreWithin, AreDistinct}
use Rattle.ssa_turn_body.proofs.Matching.{wanted-within, wanted-distinct}
use Rattle.ssa_turn_body.proofs.Rising.{reordering-made, reordering-none}
use Rattle.ssa_turn_body.proofs.found.reordering.Goals as goal

pub exchanges_between-requires-clause-within : goal.exchanges_between-requires-clause-within
exchanges_between-requires-clause-within c =
    let fs = c.args.found.now in
    let back = c.args.back.now in
    let is = c.deref-2.ensures.value ∙ c.in_ok-wanted.ensures ∙ ap (filled 0 back) (c.deref.ensures.value ∙ c.in_ok-told.ensures) in
    subst (λ ks. AreWithin (length ks) ks) (sym is) (wanted-within (length back) fs back c.requires.turned c.requires.below)

pub exchanges_between-requires-clause-apart : goal.exchanges_between-requires-clause-apart
exchanges_between-requires-clause-apart c =
    let fs = c.args.found.now in
    let back = c.args.back.now in
    let is = c.deref-2.ensures.value ∙ c.in_ok-wanted.ensures ∙ ap (filled 0 back) (c.deref.ensures.value ∙ c.in_ok-told.ensures) in
    subst AreDistinct (sym is) (wanted-distinct (length back) fs back c.requires.turned c.requires.differ)

pub returns-then-are_rising : goal.returns-then-are_rising
returns-then-are_rising c = reordering-none c.args.found.now c.args.back.now c.new.result.items c.requires.turned
    (c.are_rising.ensures c.if-are_rising.true) c.new.ensures.items

pub returns : goal.returns
returns c =
    let is = c.deref-2.ensures.value ∙ c.in_ok-wanted.ensures
    ∙ ap (filled 0 c.args.back.now) (c.deref.ensures.value ∙ c.in_ok-told.ensures) in
    let given = c.in_ok-exchanges.ensures in
    reordering-made c.args.found.now c.args.back.now c.deref-2.result.now c.in_ok-exchanges.exchanges.items is given.range given.few given.none given.order
