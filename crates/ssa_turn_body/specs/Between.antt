-- The changes that lead from one place to another.
use Rattle.std.specs.Prelude.{◌≡◌, ℕ, ◌≤◌, List, [], length, true, Option, vec_capacity}
use Rattle.std.specs.List.Sorted.{SwapsInRange}
use Rattle.ssa_model.specs.definitions.Record.{are_in_one_order}
use Rattle.ssa_path.specs.Children.{elements}
use Rattle.ssa_path.specs.View.{path_view}
use Rattle.ssa_typed.specs.Rows.{are_apart}
use Rattle.ssa_turn_body.specs.Edits.{going, staying, remade, named_in, told_unless}
use Rattle.ssa_turn_body.specs.Found.{AreKnown, AreLed, fresh, nones, somes}
use Rattle.ssa_turn_body.specs.Marks.{Child, Kids}
use Rattle.ssa_turn_body.specs.Orders.{is_none}
use Rattle.ssa_turn_body.specs.Woven.{ArePlaces, room_for}
use Rattle.ssa_turn_body.specs.declared.children.ChildrenEdit.{ChildrenEdit}

-- an edit of the first children, which holds nothing yet: with what comes it leaves the second, where what stays is as in the second.
-- `back` tells a place for just those of the first that are among the second.
pub record IsEditBetween (cs ds : List Child) (fs : List (Option ℕ)) (s : ChildrenEdit) : Type 0 where
  pub back : List (Option ℕ)
  pub before : SwapsInRange (length cs) s.before.items
  pub gone : ArePlaces 0 s.gone.places.items (length cs)
  pub gone_named : named_in s.gone ≡ going s (elements cs)
  pub come : s.come.places.items ≡ nones 0 fs
  pub come_named : named_in s.come ≡ fresh fs (elements ds)
  pub few : length s.before.items ≤ length cs
  pub after : s.after.items ≡ []
  pub order_before : path_view s.order.before.items ≡ told_unless (is_none s.before.items) (elements cs)
  pub order_after : path_view s.order.after.items ≡ told_unless (is_none s.before.items) (elements ds)
  pub back_known : are_apart (elements cs) ≡ true → AreKnown back (elements cs) (elements ds)
  pub gone_places : s.gone.places.items ≡ nones 0 back
  pub gone_fresh : named_in s.gone ≡ fresh back (elements cs)
  pub going_fresh : (xs : Kids) → length xs ≡ length cs → going s xs ≡ fresh back xs
  pub in_order : are_apart (elements cs) ≡ true → is_none s.before.items ≡ are_in_one_order (elements cs) (elements ds)
  pub stay : (xs : Kids) → length xs ≡ length cs → length (staying s xs) ≡ length (somes fs)
  pub whole : (xs ls : Kids) → length xs ≡ length cs → AreLed fs xs ls → remade s (fresh fs ls) xs ≡ ls
  pub held : s.held.items ≡ []
  pub out_empty : s.out.items ≡ []
  pub out_room : length s.gone.places.items ≤ vec_capacity s.out
  pub room_empty : s.room.items ≡ []
  pub room : room_for s.gone.places.items s.come.places.items (length ds) ≤ vec_capacity s.room
