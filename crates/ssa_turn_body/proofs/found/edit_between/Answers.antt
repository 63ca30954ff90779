use Rattle.std.proofs.Common.{◌≤◌, ap, sym, subst, ◌∙◌, length, arith, vec_capacity}
use Rattle.ssa_path.specs.Children.{elements}
use Rattle.ssa_turn_body.specs.Edits.{told_unless}
use Rattle.ssa_turn_body.specs.Found.{somes, AreBelow, AreMissing, IsReordering, IsTurnedRound}
use Rattle.ssa_turn_body.specs.Orders.{is_none}
use Rattle.ssa_turn_body.specs.Woven.{room_for}
use Rattle.ssa_turn_body.proofs.EditParts.{edit-parts}
use Rattle.ssa_turn_body.proofs.Matching.{found-below, found-differ, found-length}
use Rattle.ssa_turn_body.proofs.found.edit_between.Goals as goal

pub turned_round-requires-clause-below : goal.turned_round-requires-clause-below
turned_round-requires-clause-below c = found-below c.args.own.now c.args.others.now c.args.found.now c.requires.found

pub turned_round-requires-clause-differ : goal.turned_round-requires-clause-differ
turned_round-requires-clause-differ c = found-differ c.args.own.now c.args.others.now c.args.found.now c.requires.apart c.requires.found

pub missing-requires-2 : goal.missing-requires-2
missing-requires-2 c = found-length c.args.own.now c.args.others.now c.args.found.now c.requires.found

pub reordering-requires-clause-turned : goal.reordering-requires-clause-turned
reordering-requires-clause-turned c =
    let is = c.deref-2.ensures.value in
    let long = ap length is ∙ c.in_ok-back.ensures.long in
    subst (λ n. IsTurnedRound n c.args.found.now c.deref-2.result.now) (sym long)
    (subst (IsTurnedRound (length c.args.own.now) c.args.found.now) (sym is) c.in_ok-back.ensures)

pub reordering-requires-clause-below : goal.reordering-requires-clause-below
reordering-requires-clause-below c =
    let long = ap length c.deref-2.ensures.value ∙ c.in_ok-back.ensures.long in
    subst (λ n. AreBelow n (somes c.args.found.now)) (sym long) (found-below c.args.own.now c.args.others.now c.args.found.now c.requires.found)

pub reordering-requires-clause-differ : goal.reordering-requires-clause-differ
reordering-requires-clause-differ c = found-differ c.args.own.now c.args.others.now c.args.found.now c.requires.apart c.requires.found

pub returns : goal.returns
returns c =
    let fs = c.args.found.now in
    let back = c.in_ok-back.back.items in
    let before : IsReordering fs back c.in_ok-before.before.items =
    subst (λ bs. IsReordering fs bs c.in_ok-before.before.items) c.deref-2.ensures.value c.in_ok-before.ensures in
    edit-parts c.args.own.now c.args.others.now fs back _ c.requires.found (record {
      turned = c.in_ok-back.ensures;
      gone = subst (λ xs. AreMissing xs c.args.own.now c.in_ok-gone.gone) c.deref.ensures.value c.in_ok-gone.ensures;
      come = c.in_ok-come.ensures;
      before = before;
      after = c.new.ensures.items;
      order_before = c.in_ok-order.ensures.before ∙ ap (λ xs. told_unless (is_none xs) (elements c.args.own.now)) c.deref-3.ensures.value;
      order_after = c.in_ok-order.ensures.after ∙ ap (λ xs. told_unless (is_none xs) (elements c.args.others.now)) c.deref-3.ensures.value;
      held = c.new-2.ensures.items;
      out_empty = c.in_ok-out.ensures.items;
      out_room = omega (arith, c.len.ensures, c.in_ok-out.ensures.capacity, c.in_ok-gone.gone.places.ok.0);
      room_empty = c.in_ok-room.ensures.items;
      room =
          subst (λ n. n ≤ vec_capacity c.in_ok-room.room)
          (c.room_needed-count.ensures ∙ (λ t. room_for (c.deref-4.ensures.value t) (c.deref-5.ensures.value t) (length c.args.others.now)))
          c.in_ok-room.ensures.capacity;
    })
