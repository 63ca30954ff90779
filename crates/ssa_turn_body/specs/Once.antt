-- Changes that say nothing of a path twice.
use Rattle.std.specs.Prelude.{◌≡◌, ◌≤◌, ℕ, ◌+◌, List, [], ◌∷◌, true, false, length}
use Rattle.ssa_model.specs.definitions.Facts.{one_if}
use Rattle.ssa_model.specs.definitions.Path.{Path, same_path, under}
use Rattle.ssa_path.specs.Children.{elements}
use Rattle.ssa_path.specs.View.{path_view}
use Rattle.ssa_typed.specs.Rows.{are_apart, are_trees}
use Rattle.ssa_turn_body.specs.Edits.{named_in}
use Rattle.ssa_turn_body.specs.declared.change.PlaceChange.{PlaceChange}
use Rattle.ssa_turn_body.specs.declared.change.PlaceChange.TheVariants.{Leaf, Children}
use Rattle.ssa_turn_body.specs.declared.children.ChildrenEdit.{ChildrenEdit}
use Rattle.ssa_turn_body.specs.declared.steps.Step.{Step}

-- how many of the changes are at a path
abbrev pub changes_at : Path → List Step → ℕ
changes_at q [] = 0
changes_at q (s ∷ ss) = one_if (same_path q (path_view s.path.items)) + changes_at q ss

-- each child that goes is named once, and each that comes, which is a tree with a place to come to
pub record NamesOnce (s : ChildrenEdit) : Type 0 where
  pub gone : are_apart (named_in s.gone) ≡ true
  pub come : are_apart (elements s.held.items) ≡ true
  pub trees : are_trees s.held.items ≡ true
  pub held : length s.held.items ≡ length s.come.places.items

abbrev pub ChangeNamesOnce : PlaceChange → Type 0
ChangeNamesOnce (Leaf s) = Unit {0}
ChangeNamesOnce (Children s) = NamesOnce s.value

abbrev pub AllNameOnce : List Step → Type 0
AllNameOnce [] = Unit {0}
AllNameOnce (s ∷ ss) = ChangeNamesOnce s.change × AllNameOnce ss

-- no two changes are at one place, and each names a child once
pub record AreOnce (ss : List Step) : Type 0 where
  pub places : (q : Path) → changes_at q ss ≤ 1
  pub names : AllNameOnce ss

-- the second changes are the first with others behind them: at the path and below, at each place at most one, and each names a child once
pub record AreOnceMore (p : Path) (old new : List Step) : Type 0 where
  pub places : (q : Path) → changes_at q new ≤ changes_at q old + 1
  pub others : (q : Path) → under p q ≡ false → changes_at q new ≡ changes_at q old
  pub names : AllNameOnce old → AllNameOnce new
