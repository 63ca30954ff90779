use Rattle.std.proofs.Common.{Vec, Global, ◌≡◌, ◌+◌, length, reverse, sym, ap, subst, ◌∙◌, vec_capacity, ◌≤◌}
use Rattle.std.specs.List.Sorted.{SwapsInRange}
use Rattle.ssa_path.specs.View.{path_view}
use Rattle.ssa_path.specs.declared.element.Elem.{Elem}
use Rattle.ssa_turn_body.specs.Edits.{staying, named_in}
use Rattle.ssa_turn_body.specs.declared.children.Placed.{Placed}
use Rattle.ssa_turn_body.specs.Orders.{reordered}
use Rattle.ssa_turn_body.specs.Woven.{room_for, ArePlaces, left, taken, woven}
use Rattle.ssa_turn_body.proofs.Edits.{middle-long}
use Rattle.ssa_turn_body.proofs.Ordering.{length-reordered}
use Rattle.ssa_turn_body.proofs.children.ChildrenEdit.turn.Goals as goal

pub weave-requires-clause-gone : goal.weave-requires-clause-gone
weave-requires-clause-gone c =
    let long : length c.reorder.new.items.items ≡ length c.args.children.now.items = ap length c.reorder.ensures
    ∙ length-reordered c.args.children.now.items c.deref.result.now in
    subst (ArePlaces 0 c.deref-2.result.now) (sym long) (subst (λ ps. ArePlaces 0 ps (length c.args.children.now.items)) (sym c.deref-2.ensures.value)
    c.requires.gone)

pub reorder-requires-2 : goal.reorder-requires-2
reorder-requires-2 c =
    let s = c.args.self.now in
    let cs = c.args.children.now.items in
    let first : c.reorder.new.items.items ≡ reordered cs s.before.items = c.reorder.ensures ∙ ap (reordered cs) c.deref.ensures.value in
    let middle : c.weave.new.items.items ≡ woven s.come.places.items 0 s.held.items (staying s cs) =
    c.weave.ensures.items ∙ (λ i. woven (c.deref-3.ensures.value i) 0 s.held.items (left (c.deref-2.ensures.value i) 0 (first i))) in
    let long : length c.weave.new.items.items ≡ length s.held.items + length (staying s cs) = ap length middle
    ∙ middle-long s s.held.items cs c.requires.come c.requires.held in
    subst (λ n. SwapsInRange n c.deref-4.result.now) (sym long)
    (subst (SwapsInRange (length s.held.items + length (staying s cs))) (sym c.deref-4.ensures.value) c.requires.after)

pub returns : goal.returns
returns c =
    let s = c.args.self.now in
    let cs = c.args.children.now.items in
    let first : c.reorder.new.items.items ≡ reordered cs s.before.items = c.reorder.ensures ∙ ap (reordered cs) c.deref.ensures.value in
    let middle : c.weave.new.items.items ≡ woven s.come.places.items 0 s.held.items (staying s cs) =
    c.weave.ensures.items ∙ (λ i. woven (c.deref-3.ensures.value i) 0 s.held.items (left (c.deref-2.ensures.value i) 0 (first i))) in
    let room_after : room_for s.come.places.items s.gone.places.items (length c.reorder.new.items.items) ≤ vec_capacity c.weave.new.room =
    subst (λ ps. room_for s.come.places.items ps (length c.reorder.new.items.items) ≤ vec_capacity c.weave.new.room) c.deref-2.ensures.value
    (subst (λ qs. room_for qs c.deref-2.result.now (length c.reorder.new.items.items) ≤ vec_capacity c.weave.new.room) c.deref-3.ensures.value
    c.weave.ensures.room) in
    record {
      children = c.reorder-2.ensures ∙ (λ i. reordered (middle i) (c.deref-4.ensures.value i));
      held = c.weave.ensures.held ∙ (λ i. taken (c.deref-2.ensures.value i) 0 (first i));
      before = c.reverse.ensures.items ∙ ap (λ (x : Vec _ Global). reverse x.items) c.swap-2.ensures.x_after;
      gone = ap (λ (x : Placed). x.places.items) c.swap.ensures.x_after;
      gone_named = ap named_in c.swap.ensures.x_after;
      come = ap (λ (x : Placed). x.places.items) c.swap.ensures.y_after;
      come_named = ap named_in c.swap.ensures.y_after;
      after = c.reverse-2.ensures.items ∙ ap (λ (x : Vec _ Global). reverse x.items) c.swap-2.ensures.y_after;
      order_before = ap (λ (x : Vec Elem Global). path_view x.items) c.swap-3.ensures.x_after;
      order_after = ap (λ (x : Vec Elem Global). path_view x.items) c.swap-3.ensures.y_after;
      out_empty = c.weave.ensures.out_empty;
      out_room = c.weave.ensures.out_room;
      room_empty = c.weave.ensures.room_empty;
      room =
          subst (λ (x : Placed). room_for x.places.items c.swap.new.y.places.items (length cs) ≤ vec_capacity c.weave.new.room) (sym c.swap.ensures.x_after)
          (subst (λ (x : Placed). room_for s.come.places.items x.places.items (length cs) ≤ vec_capacity c.weave.new.room) (sym c.swap.ensures.y_after)
          (subst (λ n. room_for s.come.places.items s.gone.places.items n ≤ vec_capacity c.weave.new.room) (ap length first
          ∙ length-reordered cs s.before.items) room_after));
    }
