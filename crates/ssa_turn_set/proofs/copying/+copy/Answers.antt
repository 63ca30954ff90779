use Rattle.std.proofs.Common.{sym, ap, subst, ◌∙◌, arith}
use Rattle.std.proofs.lemmas.List.{take_all}
use Rattle.std.specs.List.{AllZip}
use Rattle.ssa_turn_set.specs.Copies.{ChildServes}
use Rattle.ssa_turn_set.specs.Room.{has_place, rooms_of, width}
use Rattle.ssa_turn_set.specs.declared.room.Room.TheViews.{out-Room}
use Rattle.ssa_turn_set.proofs.Rooms.{each-out}
use Rattle.ssa_turn_set.proofs.Serving.{each-pushed, lone-serves, room-serves}
use Rattle.ssa_turn_set.proofs.copying.+copy.Goals as goal

pub copy_each-loop-child-preserved : goal.copy_each-loop-child-preserved
copy_each-loop-child-preserved t c =
    each-pushed ChildServes c.args.rooms.now c.loop-child.child-index c.child-item.result (omega arith) c.child-item.is
    c.loop-child.below.items c.push.new.self.items (c.in_ok-spare.spare, c.in_ok-place.place) c.in_ok-push.ensures.items c.loop-child.invariant
    (c.in_ok-spare.ensures, c.in_ok-place.ensures)

pub copy_each-returns : goal.copy_each-returns
copy_each-returns t c =
    subst (λ l. AllZip ChildServes l c.loop-child.below.items) (take_all c.loop-child.child-index c.args.rooms.now c.loop-child-test.false) c.loop-child.invariant

pub copy_room-returns-in_ok-children-in-Lone : goal.copy_room-returns-in_ok-children-in-Lone
copy_room-returns-in_ok-children-in-Lone t c =
    lone-serves c.args.room.now _ _ _ c.in_ok-children-in-Lone.children _ c.in_ok-spare-in-Lone.spare c.in-Lone.is c.in_ok-children-in-Lone.ensures.items
    (c.in_ok-children-in-Lone.ensures.exact ∙ c.capacity.ensures) c.in_ok-spare-in-Lone.ensures

pub copy_room-returns-in_ok-children-in-Each : goal.copy_room-returns-in_ok-children-in-Each
copy_room-returns-in_ok-children-in-Each t c =
    let is = ap out-Room c.in-Each.is ∙ each-out _ _ in
    let below = c.in_ok-below-in-Each.below.items in
    room-serves c.args.room.now _ _ (each-out _ _) c.in_ok-children-in-Each.ensures.items
    (c.in_ok-children-in-Each.ensures.exact ∙ c.capacity-in-Each.ensures ∙ sym (ap width is)) (sym (ap has_place is))
    (subst (λ x. AllZip ChildServes (rooms_of x) below) (sym is)
    (subst (λ l. AllZip ChildServes l below) c.deref.ensures.value c.in_ok-below-in-Each.ensures))
