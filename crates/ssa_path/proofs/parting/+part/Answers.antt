use Rattle.std.proofs.Common.{◌≡◌, ◌&&◌, not, ap, sym, ◌∙◌, drop, Some, None, Less, Equal, Greater, arith}
use Rattle.ssa_path.specs.Children.{heads_order}
use Rattle.ssa_path.specs.declared.trie.Trie.TheViews.{out-Trie}
use Rattle.ssa_path.proofs.Combining.{own-within, other-within}
use Rattle.ssa_path.proofs.Parted.{alone-place, both-left, left-grown, other-alone, own-alone, parting-all, parting-start}
use Rattle.ssa_path.proofs.parting.+part.Goals as goal
use Rattle.ssa_path.proofs.parting.+part.Goals.{part-then-own, part-else-own, part-then-other, part-else-other}

pub part-loop-order-init : goal.part-loop-order-init
part-loop-order-init t c =
    parting-start c.args.own.now c.args.other.now _ _ c.requires.own c.requires.other c.new-own_left.ensures.items c.new-other_left.ensures.items

pub part-overflow_add-i : goal.part-overflow_add-i
part-overflow_add-i t c =
    let cs = (out-Trie c.args.own.now).below.items in
    let ds = (out-Trie c.args.other.now).below.items in
    let heads : heads_order (drop c.loop-order.i cs) (drop c.loop-order.j ds) ≡ Some Less =
    rw (c.deref.ensures.value, c.deref-in-loop-order.ensures.value) at (sym c.order_at.ensures ∙ c.in-Some.is ∙ ap Some c.in-Less.is) in
    let within = own-within cs (drop c.loop-order.j ds) c.loop-order.i heads in
    let fits = c.deref.ensures.len in
    let few = (out-Trie c.args.own.now).below.ok.0 in
    let small = (out-Trie c.args.own.now).below.small in
    omega arith

pub part-loop-order-preserved-in-Less : goal.part-loop-order-preserved-in-Less
part-loop-order-preserved-in-Less t c =
    let cs = (out-Trie c.args.own.now).below.items in
    let ds = (out-Trie c.args.other.now).below.items in
    let heads : heads_order (drop c.loop-order.i cs) (drop c.loop-order.j ds) ≡ Some Less =
    rw (c.deref.ensures.value, c.deref-in-loop-order.ensures.value) at (sym c.order_at.ensures ∙ c.in-Some.is ∙ ap Some c.in-Less.is) in
    own-alone cs ds c.loop-order.i c.loop-order.j c.index.result.now _ _ _ heads c.index.ensures c.in_ok-push_alone-in-Less.ensures c.loop-order.invariant

pub part-overflow_add-j : goal.part-overflow_add-j
part-overflow_add-j t c =
    let cs = (out-Trie c.args.own.now).below.items in
    let ds = (out-Trie c.args.other.now).below.items in
    let heads : heads_order (drop c.loop-order.i cs) (drop c.loop-order.j ds) ≡ Some Greater =
    rw (c.deref.ensures.value, c.deref-in-loop-order.ensures.value) at (sym c.order_at.ensures ∙ c.in-Some.is ∙ ap Some c.in-Greater.is) in
    let within = other-within (drop c.loop-order.i cs) ds c.loop-order.j heads in
    let fits = c.deref-in-loop-order.ensures.len in
    let few = (out-Trie c.args.other.now).below.ok.0 in
    let small = (out-Trie c.args.other.now).below.small in
    omega arith

pub part-loop-order-preserved-in-Greater : goal.part-loop-order-preserved-in-Greater
part-loop-order-preserved-in-Greater t c =
    let cs = (out-Trie c.args.own.now).below.items in
    let ds = (out-Trie c.args.other.now).below.items in
    let heads : heads_order (drop c.loop-order.i cs) (drop c.loop-order.j ds) ≡ Some Greater =
    rw (c.deref.ensures.value, c.deref-in-loop-order.ensures.value) at (sym c.order_at.ensures ∙ c.in-Some.is ∙ ap Some c.in-Greater.is) in
    other-alone cs ds c.loop-order.i c.loop-order.j c.index-in-Greater.result.now _ _ _ heads c.index-in-Greater.ensures
    c.in_ok-push_alone-in-Greater.ensures c.loop-order.invariant

pub part-loop-order-preserved : goal.part-loop-order-preserved
part-loop-order-preserved t c =
    let cs = (out-Trie c.args.own.now).below.items in
    let ds = (out-Trie c.args.other.now).below.items in
    let heads : heads_order (drop c.loop-order.i cs) (drop c.loop-order.j ds) ≡ Some Equal =
    rw (c.deref.ensures.value, c.deref-in-loop-order.ensures.value) at (sym c.order_at.ensures ∙ c.in-Some.is ∙ ap Some c.in-Equal.is) in
    both-left cs ds c.loop-order.i c.loop-order.j c.index-in-Equal.result.now c.index-in-Equal-2.result.now _ _ _ _ heads c.index-in-Equal.ensures
    c.index-in-Equal-2.ensures c.in_ok-push_parted-in-Equal.ensures.own c.in_ok-push_parted-in-Equal.ensures.other c.loop-order.invariant

pub part-returns-clause-own : goal.part-returns-clause-own
part-returns-clause-own t c =
    let cs = (out-Trie c.args.own.now).below.items in
    let ds = (out-Trie c.args.other.now).below.items in
    let none : heads_order (drop c.loop-order.i cs) (drop c.loop-order.j ds) ≡ None =
    rw (c.deref.ensures.value, c.deref-in-loop-order.ensures.value) at (sym c.order_at.ensures ∙ c.in_default.is) in
    let here : c.if-own.result ≡ ((out-Trie c.args.own.now).here && not (out-Trie c.args.other.now).here) = elim c.if-own.branch [
      | part-then-own w ↦ w.result-is ∙ ap (λ b. b && not (out-Trie c.args.other.now).here) (sym w.if-own.true)
      | part-else-own w ↦ w.result-is ∙ w.if-own.false ∙ ap (λ b. b && not (out-Trie c.args.other.now).here) (sym w.if-own.false)
    ] in
    alone-place _ c.args.own.now c.args.other.now here (parting-all cs ds _ _ _ _ none c.loop-order.invariant).0

pub part-returns-clause-other : goal.part-returns-clause-other
part-returns-clause-other t c =
    let cs = (out-Trie c.args.own.now).below.items in
    let ds = (out-Trie c.args.other.now).below.items in
    let none : heads_order (drop c.loop-order.i cs) (drop c.loop-order.j ds) ≡ None =
    rw (c.deref.ensures.value, c.deref-in-loop-order.ensures.value) at (sym c.order_at.ensures ∙ c.in_default.is) in
    let here : c.if-other.result ≡ ((out-Trie c.args.other.now).here && not (out-Trie c.args.own.now).here) = elim c.if-other.branch [
      | part-then-other w ↦ w.result-is ∙ ap (λ b. b && not (out-Trie c.args.own.now).here) (sym w.if-other.true)
      | part-else-other w ↦ w.result-is ∙ w.if-other.false ∙ ap (λ b. b && not (out-Trie c.args.own.now).here) (sym w.if-other.false)
    ] in
    alone-place _ c.args.other.now c.args.own.now here (parting-all cs ds _ _ _ _ none c.loop-order.invariant).1

pub push_parted-returns-clause-own : goal.push_parted-returns-clause-own
push_parted-returns-clause-own t c =
    left-grown c.args.own.now c.args.other.now c.in_ok-parted.parted.own _ _ c.in_ok-parted.ensures.own c.in_ok-push_left.ensures

pub push_parted-returns-clause-other : goal.push_parted-returns-clause-other
push_parted-returns-clause-other t c =
    left-grown c.args.other.now c.args.own.now c.in_ok-parted.parted.other _ _ c.in_ok-parted.ensures.other c.in_ok-push_left-2.ensures
