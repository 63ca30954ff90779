-- The children of one place that go and those that come, where what stays keeps its order.
use Rattle.std.specs.Prelude.{◌≡◌, ℕ, ◌+◌, ◌≤◌, List, [], ◌∷◌, ◌++◌, length, Bool, true, false, ◌&&◌, Box, vec_capacity}
use Rattle.std.specs.Global.{Global}
use Rattle.ssa_model.specs.definitions.Path.{Element, Path}
use Rattle.ssa_path.specs.View.{element_view, path_view}
use Rattle.ssa_turn_body.specs.Edits.{named_in}
use Rattle.ssa_turn_body.specs.Led.{MayAdd}
use Rattle.ssa_turn_body.specs.Marks.{Child}
use Rattle.ssa_turn_body.specs.Orders.{is_none}
use Rattle.ssa_turn_body.specs.declared.change.PlaceChange.TheVariants.{Children}
use Rattle.ssa_turn_body.specs.declared.children.ChildrenEdit.{ChildrenEdit}
use Rattle.ssa_turn_body.specs.declared.children.Placed.{Placed}
use Rattle.ssa_turn_body.specs.declared.steps.Step.{Step}
use Rattle.ssa_turn_body.specs.declared.turnover.Turnover.{Turnover}

-- the places and the elements of some children
abbrev pub Named : Type 0
Named = List ℕ × List Element

abbrev pub named_at : Placed → Named
named_at x = (x.places.items, named_in x)

-- with one child more
abbrev pub with_named : ℕ → Element → Named → Named
with_named k e x = (x.0 ++ k ∷ [], x.1 ++ e ∷ [])

-- where what goes stood and how it is named, where what comes will stand and how it is named, and what comes
pub record Passing : Type 0 where
  pub gone : Named
  pub come : Named
  pub held : List Child

abbrev pub passing : Turnover → Passing
passing t = record { gone = named_at t.gone; come = named_at t.come; held = t.held.items }

abbrev pub none_passes : Passing
none_passes = record { gone = ([], []); come = ([], []); held = [] }

-- the child of this element goes, which stood at this place
abbrev pub with_gone : ℕ → Element → Passing → Passing
with_gone k e t = record { gone = with_named k e t.gone; come = t.come; held = t.held }

-- this child comes to this place
abbrev pub with_come : ℕ → Child → Passing → Passing
with_come k d t = record { gone = t.gone; come = with_named k (element_view d.0) t.come; held = t.held ++ d ∷ [] }

-- these come, one behind the other, to the places from this one on
abbrev pub with_all_come : ℕ → List Child → Passing → Passing
with_all_come k [] t = t
with_all_come k (d ∷ ds) t = with_all_come (k + 1) ds (with_come k d t)

-- nothing goes and nothing comes
abbrev pub is_still : Passing → Bool
is_still t = is_none t.gone.0 && is_none t.come.0

-- an edit by which these go and come, and nothing is exchanged, with room for so many children
pub record IsEditOf (t : Passing) (n : ℕ) (s : ChildrenEdit) : Type 0 where
  pub before : s.before.items ≡ []
  pub gone : named_at s.gone ≡ t.gone
  pub come : named_at s.come ≡ t.come
  pub after : s.after.items ≡ []
  pub order_before : path_view s.order.before.items ≡ []
  pub order_after : path_view s.order.after.items ≡ []
  pub held : s.held.items ≡ t.held
  pub out_empty : s.out.items ≡ []
  pub out_room : length t.gone.0 ≤ vec_capacity s.out
  pub room_empty : s.room.items ≡ []
  pub room : n ≤ vec_capacity s.room

-- such an edit of the path is put behind the other changes, unless nothing goes and nothing comes
abbrev pub MayTurnOver : Bool → Path → Passing → ℕ → List Step → List Step → Type 0
MayTurnOver true p t n old new = new ≡ old
MayTurnOver false p t n old new = (b : Box ChildrenEdit Global) × IsEditOf t n b.value × MayAdd false p (Children b) old new
