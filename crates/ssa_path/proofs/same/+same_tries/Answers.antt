use Rattle.std.proofs.Common.{◌∙◌, ◌+◌, sym, refl, subst, drop, arith}
use Rattle.ssa_path.specs.declared.trie.Trie.TheViews.{out-Trie}
use Rattle.ssa_path.proofs.Comparing.{IsComparing, comparing-none, comparing-at, comparing-more, element-differs, other-level, other-width, own-ends, own-longer, paths-differ, same-level}
use Rattle.ssa_path.proofs.same.+same_tries.Goals as goal
use Rattle.ssa_path.proofs.same.+same_tries.Goals.{then-not-is_same-via-then-not-is_same, then-not-is_same-via-else-not-is_same+then-not-same_tries}

pub returns-then-own-other : goal.returns-then-own-other
returns-then-own-other t c = sym (other-level c.args.own.now c.args.other.now c.if-own-other.true)

pub returns-then-len : goal.returns-then-len
returns-then-len t c =
    sym (other-width c.args.own.now c.args.other.now c.requires.own c.requires.other c.if-own-other.false
    (λ same. c.if-len.true
    (c.len.ensures ∙ (out-Trie c.args.own.now).below.ok.0 ∙ same ∙ sym (out-Trie c.args.other.now).below.ok.0 ∙ sym c.len-2.ensures)))

pub loop-child-init : goal.loop-child-init
loop-child-init t c =
    let other = c.iter-rest.ensures.rest ∙ c.deref.ensures.value in
    subst (IsComparing _ _ _) (sym other) (comparing-none c.args.own.now c.args.other.now c.deref-child-items.result.now _ c.deref-child-items.ensures.value
    refl c.requires.own c.requires.other)

pub returns-in_default : goal.returns-in_default
returns-in_default t c =
    let all = c.deref-child-items.result.now in
    let others = (out-Trie c.args.other.now).below.items in
    sym
    (same-level c.args.own.now c.args.other.now all others c.deref-child-items.ensures.value refl c.if-own-other.false
    ∙ own-longer all others c.loop-child.rest.rest.now c.loop-child.child-index c.child-item.result (omega arith) c.child-item.is
    (c.in_default.ensures.steps).0 c.loop-child.invariant)

pub returns-then-not-is_same : goal.returns-then-not-is_same
returns-then-not-is_same t c =
    let all = c.deref-child-items.result.now in
    let others = (out-Trie c.args.other.now).below.items in
    let i = c.loop-child.child-index in
    let child = c.child-item.result in
    let heads = comparing-at all others i child c.in-Some.other_child.now c.next.new.self.rest.now c.loop-child.rest.rest.now (omega arith) c.child-item.is
    c.in-Some.ensures.steps c.loop-child.invariant in
    let level = same-level c.args.own.now c.args.other.now all others c.deref-child-items.ensures.value refl c.if-own-other.false in
    elim c.then-not-is_same.branch [
      | then-not-is_same-via-then-not-is_same w ↦ sym (level
          ∙ element-differs all others child c.in-Some.other_child.now (drop (i + 1) all) c.next.new.self.rest.now (sym c.is_same.ensures
          ∙ w.if-not-is_same.true) heads)
      | then-not-is_same-via-else-not-is_same+then-not-same_tries w ↦ sym (level
          ∙ paths-differ all others child c.in-Some.other_child.now (drop (i + 1) all) c.next.new.self.rest.now (sym w.same_tries.ensures
          ∙ w.if-not-same_tries.true) heads)
    ]

pub loop-child-preserved : goal.loop-child-preserved
loop-child-preserved t c =
    let all = c.deref-child-items.result.now in
    let others = (out-Trie c.args.other.now).below.items in
    let i = c.loop-child.child-index in
    let child = c.child-item.result in
    let heads = comparing-at all others i child c.in-Some.other_child.now c.next.new.self.rest.now c.loop-child.rest.rest.now (omega arith) c.child-item.is
    c.in-Some.ensures.steps c.loop-child.invariant in
    comparing-more all others child c.in-Some.other_child.now (drop (i + 1) all) c.next.new.self.rest.now (sym c.is_same.ensures
    ∙ c.if-not-is_same.false) (sym c.same_tries.ensures ∙ c.if-not-same_tries.false) heads

pub returns : goal.returns
returns t c =
    let all = c.deref-child-items.result.now in
    let others = (out-Trie c.args.other.now).below.items in
    own-ends _ c.next-2.result (λ x. x.now) c.is_none.result all others c.loop-child.rest.rest.now c.next-2.new.self.rest.now c.loop-child.child-index
    c.next-2.ensures.steps c.is_none.ensures c.loop-child-test.false c.loop-child.invariant
    ∙ sym (same-level c.args.own.now c.args.other.now all others c.deref-child-items.ensures.value refl c.if-own-other.false)
