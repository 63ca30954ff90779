-- What the changes of one place need and do.
use Rattle.std.specs.Prelude.{◌≡◌, ℕ, ◌+◌, ◌≤◌, List, [], Bool, true, false, ◌&&◌, Some, length, map, reverse, vec_capacity}
use Rattle.std.specs.List.Sorted.{SwapsInRange}
use Rattle.ssa_model.specs.definitions.Body.{Content, is_leaf}
use Rattle.ssa_model.specs.definitions.Path.{Element}
use Rattle.ssa_path.specs.View.{element_view, path_view}
use Rattle.ssa_typed.specs.Rows.{leaf_content, are_trees}
use Rattle.ssa_turn_body.specs.Marks.{Child, Kids, kids, names, Place, may_stand, with_order}
use Rattle.ssa_turn_body.specs.Orders.{reordered, is_none}
use Rattle.ssa_turn_body.specs.Woven.{ArePlaces, taken, left, woven, room_for}
use Rattle.ssa_turn_body.specs.declared.children.LeafSwap.{LeafSwap}
use Rattle.ssa_turn_body.specs.declared.children.Placed.{Placed}
use Rattle.ssa_turn_body.specs.declared.children.ChildrenEdit.{ChildrenEdit}

-- ---- a leaf

abbrev pub leaf_steps : LeafSwap → Content
leaf_steps s = leaf_content s.leaf

abbrev pub LeafFits : LeafSwap → Place → Type 0
LeafFits s v = is_leaf (Some v.0) ≡ true

-- both are exchanged; nothing stands below a leaf
pub record LeafGives (s : LeafSwap) (v : Place) (t : LeafSwap) (w : Place) : Type 0 where
  pub taken : v.0 ≡ leaf_content t.leaf
  pub put : w.0 ≡ leaf_content s.leaf
  pub none_before : v.1 ≡ []
  pub none_after : w.1 ≡ []

-- ---- children that go, come and move

-- of these children the ones that go
abbrev pub going : {X : Type 0} → ChildrenEdit → List X → List X
going s xs = taken s.gone.places.items 0 (reordered xs s.before.items)

-- and the ones that stay
abbrev pub staying : {X : Type 0} → ChildrenEdit → List X → List X
staying s xs = left s.gone.places.items 0 (reordered xs s.before.items)

-- those that stay with those that come, all in their order afterwards
abbrev pub remade : {X : Type 0} → ChildrenEdit → List X → List X → List X
remade s hs xs = reordered (woven s.come.places.items 0 hs (staying s xs)) s.after.items

-- the children after the edit
abbrev pub edited : ChildrenEdit → Kids → Kids
edited s ks = remade s (kids s.held.items) ks

-- no child is exchanged
abbrev pub keeps_places : ChildrenEdit → Bool
keeps_places s = is_none s.before.items && is_none s.after.items

-- no child goes, comes or is exchanged
abbrev pub is_idle : ChildrenEdit → Bool
is_idle s = keeps_places s && is_none s.gone.places.items && is_none s.come.places.items

-- an order of elements is told, or nothing
abbrev pub told_unless : Bool → List Element → List Element
told_unless true es = []
told_unless false es = es

-- the elements that are named
abbrev pub named_in : Placed → List Element
named_in x = map element_view x.elements.items

-- what an edit says, its room left out
pub record EditSteps : Type 0 where
  pub before : List (ℕ × ℕ)
  pub gone : List ℕ × List Element
  pub come : List ℕ × List Element
  pub after : List (ℕ × ℕ)
  pub order_before : List Element
  pub order_after : List Element
  pub held : Kids

abbrev pub edit_steps : ChildrenEdit → EditSteps
edit_steps s = record {
  before = s.before.items;
  gone = (s.gone.places.items, named_in s.gone);
  come = (s.come.places.items, named_in s.come);
  after = s.after.items;
  order_before = path_view s.order.before.items;
  order_after = path_view s.order.after.items;
  held = kids s.held.items;
}

-- the places and names are right, what stands afterwards may stand there, what comes is made of trees, and there is room
pub record EditFits (s : ChildrenEdit) (v : Place) : Type 0 where
  pub before : SwapsInRange (length v.1) s.before.items
  pub gone : ArePlaces 0 s.gone.places.items (length v.1)
  pub gone_named : named_in s.gone ≡ names (going s v.1)
  pub come : ArePlaces 0 s.come.places.items (length s.held.items + length (staying s v.1))
  pub come_named : named_in s.come ≡ names (kids s.held.items)
  pub held : length s.held.items ≡ length s.come.places.items
  pub after : SwapsInRange (length s.held.items + length (staying s v.1)) s.after.items
  pub order_before : path_view s.order.before.items ≡ told_unless (keeps_places s) (names v.1)
  pub order_after : path_view s.order.after.items ≡ told_unless (keeps_places s) (names (edited s v.1))
  pub stands : may_stand v.0 (names (edited s v.1)) ≡ true
  pub trees : are_trees s.held.items ≡ true
  pub out_empty : s.out.items ≡ []
  pub out_room : length s.gone.places.items ≤ vec_capacity s.out
  pub room_empty : s.room.items ≡ []
  pub room : room_for s.gone.places.items s.come.places.items (length s.held.items + length (staying s v.1)) ≤ vec_capacity s.room

-- what the edit leaves, of itself and of the place, which stood well
pub record EditGives (s : ChildrenEdit) (v : Place) (t : ChildrenEdit) (w : Place) : Type 0 where
  pub children : w.1 ≡ edited s v.1
  pub own : w.0 ≡ with_order v.0 (names w.1)
  pub stood : may_stand v.0 (names v.1) ≡ true
  pub order : with_order v.0 (names v.1) ≡ v.0
  pub held : kids t.held.items ≡ going s v.1
  pub trees : are_trees t.held.items ≡ true
  pub before : t.before.items ≡ reverse s.after.items
  pub gone : t.gone.places.items ≡ s.come.places.items
  pub gone_named : named_in t.gone ≡ names (kids s.held.items)
  pub come : t.come.places.items ≡ s.gone.places.items
  pub come_named : named_in t.come ≡ names (going s v.1)
  pub after : t.after.items ≡ reverse s.before.items
  pub order_before : path_view t.order.before.items ≡ path_view s.order.after.items
  pub order_after : path_view t.order.after.items ≡ path_view s.order.before.items
  pub out_empty : t.out.items ≡ []
  pub out_room : length s.held.items ≤ vec_capacity t.out
  pub room_empty : t.room.items ≡ []
  pub room : room_for t.gone.places.items t.come.places.items (length v.1) ≤ vec_capacity t.room

-- ---- the same, of the children themselves

pub record EditFitsIn (s : ChildrenEdit) (cs : List Child) : Type 0 where
  pub before : SwapsInRange (length cs) s.before.items
  pub gone : ArePlaces 0 s.gone.places.items (length cs)
  pub come : ArePlaces 0 s.come.places.items (length s.held.items + length (staying s cs))
  pub held : length s.held.items ≡ length s.come.places.items
  pub after : SwapsInRange (length s.held.items + length (staying s cs)) s.after.items
  pub out_empty : s.out.items ≡ []
  pub out_room : length s.gone.places.items ≤ vec_capacity s.out
  pub room_empty : s.room.items ≡ []
  pub room : room_for s.gone.places.items s.come.places.items (length s.held.items + length (staying s cs)) ≤ vec_capacity s.room

pub record EditGivesIn (s : ChildrenEdit) (cs : List Child) (t : ChildrenEdit) (ds : List Child) : Type 0 where
  pub children : ds ≡ remade s s.held.items cs
  pub held : t.held.items ≡ going s cs
  pub before : t.before.items ≡ reverse s.after.items
  pub gone : t.gone.places.items ≡ s.come.places.items
  pub gone_named : named_in t.gone ≡ named_in s.come
  pub come : t.come.places.items ≡ s.gone.places.items
  pub come_named : named_in t.come ≡ named_in s.gone
  pub after : t.after.items ≡ reverse s.before.items
  pub order_before : path_view t.order.before.items ≡ path_view s.order.after.items
  pub order_after : path_view t.order.after.items ≡ path_view s.order.before.items
  pub out_empty : t.out.items ≡ []
  pub out_room : length s.held.items ≤ vec_capacity t.out
  pub room_empty : t.room.items ≡ []
  pub room : room_for t.gone.places.items t.come.places.items (length cs) ≤ vec_capacity t.room
