-- What a copy of changes keeps.
use Rattle.std.specs.Prelude.{◌≡◌, [], vec_capacity}
use Rattle.ssa_path.specs.View.{path_view}
use Rattle.ssa_typed.specs.Copies.{kept_below}
use Rattle.ssa_turn_body.specs.Edits.{leaf_steps, named_in}
use Rattle.ssa_turn_body.specs.declared.change.PlaceChange.{PlaceChange}
use Rattle.ssa_turn_body.specs.declared.change.PlaceChange.TheVariants.{Leaf, Children}
use Rattle.ssa_turn_body.specs.declared.children.ChildrenEdit.{ChildrenEdit}
use Rattle.ssa_turn_body.specs.declared.steps.Step.{Step}

-- what the edit says and holds, and empty room that is as large
pub record EditIsCopied (s c : ChildrenEdit) : Type 0 where
  pub before : c.before.items ≡ s.before.items
  pub gone : c.gone.places.items ≡ s.gone.places.items
  pub gone_named : named_in c.gone ≡ named_in s.gone
  pub come : c.come.places.items ≡ s.come.places.items
  pub come_named : named_in c.come ≡ named_in s.come
  pub after : c.after.items ≡ s.after.items
  pub order_before : path_view c.order.before.items ≡ path_view s.order.before.items
  pub order_after : path_view c.order.after.items ≡ path_view s.order.after.items
  pub held : kept_below c.held.items ≡ kept_below s.held.items
  pub out_empty : c.out.items ≡ []
  pub out_room : vec_capacity c.out ≡ vec_capacity s.out
  pub room_empty : c.room.items ≡ []
  pub room : vec_capacity c.room ≡ vec_capacity s.room

abbrev pub ChangeIsCopied : PlaceChange → PlaceChange → Type 0
ChangeIsCopied (Leaf s) (Leaf c) = leaf_steps c ≡ leaf_steps s
ChangeIsCopied (Children s) (Children c) = EditIsCopied s.value c.value
ChangeIsCopied _ _ = ⊥

pub record StepIsCopied (s c : Step) : Type 0 where
  pub path : path_view c.path.items ≡ path_view s.path.items
  pub change : ChangeIsCopied s.change c.change
