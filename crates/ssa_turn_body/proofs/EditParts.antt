-- The edit that leads from the children of one place to those of another.
use Rattle.std.proofs.Common.{◌≡◌, ℕ, ◌+◌, ◌≤◌, List, [], length, get_or, map, Option, None, sym, ap, subst, ◌∙◌, arith, vec_capacity}
use Rattle.std.specs.List.Sorted.{SwapsInRange}
use Rattle.std.proofs.lemmas.List.{length-map}
use Rattle.ssa_model.specs.definitions.Path.{Element, field}
use Rattle.ssa_path.specs.Children.{elements}
use Rattle.ssa_turn_body.specs.Between.{IsEditBetween}
use Rattle.ssa_path.specs.View.{path_view}
use Rattle.ssa_turn_body.specs.Edits.{staying, told_unless}
use Rattle.ssa_turn_body.specs.Found.{fresh, somes, AreFound, AreMissing, IsReordering, IsTurnedRound}
use Rattle.ssa_turn_body.specs.Marks.{Child, Kids, Marks}
use Rattle.ssa_turn_body.specs.Orders.{reordered, is_none}
use Rattle.ssa_turn_body.specs.Woven.{ArePlaces, room_for, taken, left, woven}
use Rattle.ssa_turn_body.specs.declared.children.ChildrenEdit.{ChildrenEdit}
use Rattle.ssa_turn_body.proofs.Knowing.{known-back}
use Rattle.ssa_turn_body.proofs.OneOrder.{one-order}
use Rattle.ssa_turn_body.proofs.Matching.{places-nones, gone-fresh, stays-kept, remade-all}
use Rattle.ssa_turn_body.proofs.Missing.{length-elements}

abbrev Kid : Type 0
Kid = Element × Marks

no_kid : Kid
no_kid = (field [], λ p. None)

-- the parts of an edit make one
pub record AreParts (cs ds : List Child) (fs back : List (Option ℕ)) (s : ChildrenEdit) : Type 0 where
  -- the places of the first children are those of the second, turned round
  pub turned : IsTurnedRound (length cs) fs back
  -- those that go are the first children whose places are not told
  pub gone : AreMissing back cs s.gone
  -- those that come are the second children whose places are not told
  pub come : AreMissing fs ds s.come
  -- the exchanges bring what stays into the order of the second children
  pub before : IsReordering fs back s.before.items
  -- nothing is exchanged afterwards
  pub after : s.after.items ≡ []
  -- the order before is that of the first children, unless nothing is exchanged
  pub order_before : path_view s.order.before.items ≡ told_unless (is_none s.before.items) (elements cs)
  -- the order after is that of the second children, unless nothing is exchanged
  pub order_after : path_view s.order.after.items ≡ told_unless (is_none s.before.items) (elements ds)
  -- nothing is held yet
  pub held : s.held.items ≡ []
  -- the room for what goes is empty
  pub out_empty : s.out.items ≡ []
  -- the room for what goes is enough
  pub out_room : length s.gone.places.items ≤ vec_capacity s.out
  -- the room for the pass is empty
  pub room_empty : s.room.items ≡ []
  -- the room for the pass is enough
  pub room : room_for s.gone.places.items s.come.places.items (length ds) ≤ vec_capacity s.room

-- such parts make an edit that leads from the first children to the second
pub edit-parts : (cs ds : List Child) (fs back : List (Option ℕ)) (s : ChildrenEdit) → AreFound cs ds fs → AreParts cs ds fs back s → IsEditBetween cs ds fs s
edit-parts cs ds fs back s found h =
    let t = h.turned in
    let before = s.before.items in
    let long : length cs ≡ 0 + length back = let e = t.long in omega arith in
    let staying_is : (xs : Kids) → length xs ≡ length cs → staying s xs ≡ map (λ k. get_or xs k no_kid) (somes fs) =
    λ xs l. ap (λ ps. left ps 0 (reordered xs before)) h.gone.places ∙ stays-kept back fs before h.before.order no_kid xs (l ∙ sym t.long) t.count in
    record {
      back = back;
      back_known = λ apart. known-back cs ds fs back apart found t;
      gone_places = h.gone.places;
      gone_fresh = h.gone.named;
      going_fresh = λ xs l. ap (λ ps. taken ps 0 (reordered xs before)) h.gone.places ∙ gone-fresh back fs before h.before.order no_kid xs (l ∙ sym t.long);
      in_order = λ apart. one-order cs ds fs back before apart found t h.before.order h.before.none;
      before = subst (λ n. SwapsInRange n before) t.long h.before.range;
      gone = subst (λ ps. ArePlaces 0 ps (length cs)) (sym h.gone.places) (places-nones back 0 (length cs) long);
      gone_named =
          h.gone.named ∙ sym (gone-fresh back fs before h.before.order (field []) (elements cs) (length-elements cs ∙ sym t.long))
          ∙ ap (λ ps. taken ps 0 (reordered (elements cs) before)) (sym h.gone.places);
      come = h.come.places;
      come_named = h.come.named;
      few = subst (λ n. length before ≤ n) t.long h.before.few;
      after = h.after;
      order_before = h.order_before;
      order_after = h.order_after;
      stay = λ xs l. ap length (staying_is xs l) ∙ length-map (somes fs) (λ k. get_or xs k no_kid);
      whole = λ xs ls l led.
          (λ i. reordered (woven (h.come.places i) 0 (fresh fs ls) (left (h.gone.places i) 0 (reordered xs before))) (h.after i))
          ∙ remade-all back fs before h.before.order no_kid xs (l ∙ sym t.long) t.count ls led;
      held = h.held;
      out_empty = h.out_empty;
      out_room = h.out_room;
      room_empty = h.room_empty;
      room = h.room;
    }
