use Rattle.std.proofs.Common.{◌≡◌, ℕ, List, ◌<◌, ◌++◌, ◌∷◌, [], length, get_or, set, ap, sym, subst, ◌∙◌, arith}
use Rattle.std.specs.List.{swap}
use Rattle.std.proofs.lemmas.Grind.{get_or_default_zero}
use Rattle.ssa_turn_body.proofs.Exchanging.{IsExchanging, exchanging-init, exchanging-step, exchanging-all}
use Rattle.ssa_turn_body.proofs.exchanges.exchanges_between.Goals as goal

-- what is read is what stands there
read : (xs : List ℕ) (i x : ℕ) → i < length xs → x ≡ get_or xs i x → x ≡ get_or xs i 0
read xs i x lt e = e ∙ get_or_default_zero xs i x lt

pub loop-i-init : goal.loop-i-init
loop-i-init c = subst (IsExchanging c.args.wanted.now 0 c.in_ok-order.order.items c.in_ok-places.places.items) (sym c.new-swaps.ensures.items)
    (exchanging-init c.args.wanted.now _ _ c.in_ok-order.ensures c.in_ok-places.ensures)

pub index_mut-requires : goal.index_mut-requires
index_mut-requires c =
    let inv = c.loop-i.invariant in
    let here_is = read c.loop-i.order.items c.loop-i.i c.index-here.result.now (omega (arith, inv.long, c.loop-i-test.true)) c.index-here.ensures in
    let within = inv.within c.loop-i.i c.loop-i-test.true in
    omega (arith, here_is, within, inv.places_long, c.loop-i.places.ok.0)

pub loop-i-preserved : goal.loop-i-preserved
loop-i-preserved c =
    let inv = c.loop-i.invariant in
    let i = c.loop-i.i in
    let wanted = c.args.wanted.now in
    let w = get_or wanted i 0 in
    let next = c.requires.within i c.loop-i-test.true in
    let here_is = read c.loop-i.order.items i c.index-here.result.now (omega (arith, inv.long, c.loop-i-test.true)) c.index-here.ensures in
    let place_is = read c.loop-i.places.items w c.index-place.result.now (omega (arith, inv.places_long, next)) c.index-place.ensures in
    exchanging-step wanted i c.loop-i.order.items c.loop-i.places.items c.loop-i.swaps.items c.loop-i-test.true c.requires.within inv c.requires.apart
    (λ e. c.if-place-i.false (place_is ∙ e)) _ _ _
    (c.swap.ensures.items ∙ ap (swap c.loop-i.order.items i) place_is)
    (λ t. set (set c.loop-i.places.items (here_is t) (place_is t)) w i)
    (c.in_ok-push.ensures.items ∙ ap (λ p. c.loop-i.swaps.items ++ (i, p) ∷ []) place_is)

pub returns-clause-order : goal.returns-clause-order
returns-clause-order c = exchanging-all c.args.wanted.now c.loop-i.i c.loop-i.order.items c.loop-i.places.items c.loop-i.swaps.items c.loop-i-test.false
    c.loop-i.invariant

pub returns-clause-none : goal.returns-clause-none
returns-clause-none c = c.loop-i.invariant.idle
