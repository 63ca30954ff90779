use Rattle.std.proofs.Common.{◌≤◌, ◌<◌, ◌⊎◌, inl, inr, ◌∙◌, ap, sym, length, arith}
use Rattle.std.proofs.lemmas.List.{length-map}
use Rattle.std.specs.Ordering.{is_ne, nat_cmp}
use Rattle.ssa_path.specs.Keys.{members_view}
use Rattle.ssa_path.proofs.Members.{decided-none, decided-more, decided-here, decided-all, length-members}
use Rattle.ssa_path.proofs.order.order_keys.Goals as goal
use Rattle.ssa_path.proofs.order.order_keys.Goals.{then-loop-i-test+else-i-others, else-loop-i-test}

pub loop-i-init : goal.loop-i-init
loop-i-init c = decided-none (members_view c.args.keys.now) (members_view c.args.others.now)

pub returns-then-is_ne : goal.returns-then-is_ne
returns-then-is_ne c =
    let own : c.loop-i.i < length (members_view c.args.keys.now) = simp length-map c.loop-i-test.true in
    let others : c.loop-i.i < length (members_view c.args.others.now) = simp length-map c.if-i-others.true in
    c.order_members-order.ensures
    ∙ sym (decided-here (members_view c.args.keys.now) (members_view c.args.others.now) c.loop-i.i own others (ap is_ne (sym c.order_members-order.ensures)
    ∙ sym c.is_ne.ensures ∙ c.if-is_ne.true) c.loop-i.invariant)

pub loop-i-preserved : goal.loop-i-preserved
loop-i-preserved c =
    let own : c.loop-i.i < length (members_view c.args.keys.now) = simp length-map c.loop-i-test.true in
    let others : c.loop-i.i < length (members_view c.args.others.now) = simp length-map c.if-i-others.true in
    decided-more (members_view c.args.keys.now) (members_view c.args.others.now) c.loop-i.i own others (ap is_ne (sym c.order_members-order.ensures)
    ∙ sym c.is_ne.ensures ∙ c.if-is_ne.false) c.loop-i.invariant

pub returns : goal.returns
returns c =
    let own = length-members c.args.keys.now in
    let others = length-members c.args.others.now in
    let past : (length (members_view c.args.keys.now) ≤ c.loop-i.i)
    ⊎ (length (members_view c.args.others.now) ≤ c.loop-i.i) =
    elim c.loop-i-test.branch [
      | then-loop-i-test+else-i-others w ↦ inr (let h = w.if-i-others.false in omega arith)
      | else-loop-i-test w ↦ inl (let h =
          w.loop-i-test.false in omega arith)
    ] in
    c.cmp.ensures ∙ (λ j. nat_cmp (sym others j) (sym own j))
    ∙ sym (decided-all (members_view c.args.keys.now) (members_view c.args.others.now) c.loop-i.i past c.loop-i.invariant)
