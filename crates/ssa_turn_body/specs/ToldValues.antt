-- What changes tell, each as a value beside its path.
use Rattle.std.specs.Prelude.{ℕ, List, [], ◌∷◌, map, Option}
use Rattle.ssa_model.specs.definitions.Json.{Json, list, item, no_items}
use Rattle.ssa_model.specs.definitions.Path.{Element, Path}
use Rattle.ssa_model.specs.definitions.RecordText.{place_items}
use Rattle.ssa_model.specs.definitions.Replies.{path_json}
use Rattle.ssa_path.specs.TopPaths.{lent_path}
use Rattle.ssa_path.specs.View.{element_view, path_view}
use Rattle.ssa_path.specs.declared.top_path.LentPath.{LentPath}
use Rattle.ssa_typed.specs.Values.{leaf_value, value_of}
use Rattle.ssa_typed.specs.declared.node.Node.{Node}
use Rattle.ssa_turn_body.specs.Marks.{Child}
use Rattle.ssa_turn_body.specs.Records.{place_after}
use Rattle.ssa_turn_body.specs.declared.change.PlaceChange.{PlaceChange}
use Rattle.ssa_turn_body.specs.declared.change.PlaceChange.TheVariants.{Leaf, Children}
use Rattle.ssa_turn_body.specs.declared.told_paths.Told.{Told}
use Rattle.ssa_turn_body.specs.declared.told_paths.Told.TheVariants.{Cut, Order, Put}

-- what is told of a path, as a value
abbrev pub told_json : Path → Told → Json
told_json p Cut = path_json p
told_json p (Told.Leaf l) = list (item (path_json p) (item (leaf_value l.now) no_items))
told_json p (Order es) = list (item (path_json p) (item (path_json (path_view es.now)) no_items))
told_json p (Put c) = list (item (path_json p) (item (value_of c.node.now) (place_items c.place)))

abbrev pub entry_json : LentPath × Told → Json
entry_json e = told_json (lent_path e.0) e.1

-- what is told, as values beside the paths
abbrev pub told_view : List (LentPath × Told) → List (Path × Json)
told_view = map (λ e. (lent_path e.0, entry_json e))

-- each of what is told as a value
abbrev pub as_values : {X : Type 0} → (Path × X → Json) → List (Path × X) → List (Path × Json)
as_values f = map (λ e. (e.0, f e))

-- the path of what is told alone
abbrev pub path_alone : {X : Type 0} → Path × X → Json
path_alone e = path_json e.0

-- elements alone
abbrev pub singles : List Element → List (Path × Unit {0})
singles es = map (λ e. (e ∷ [], tt)) es

-- ---- children that come, each with its place afterwards

abbrev pub Coming : Type 0
Coming = Node × Option ℕ

abbrev pub coming_at : List Element → ℕ → Child → Path × Coming
coming_at order k h = (element_view h.0 ∷ [], (h.1, place_after order (element_view h.0) k))

abbrev pub comes_of : List Element → List ℕ → List Child → List (Path × Coming)
comes_of order [] hs = []
comes_of order (k ∷ ks) [] = []
comes_of order (k ∷ ks) (h ∷ hs) = coming_at order k h ∷ comes_of order ks hs

abbrev pub comes_in : PlaceChange → List (Path × Coming)
comes_in (Leaf s) = []
comes_in (Children s) = comes_of (path_view s.value.order.after.items) s.value.come.places.items s.value.held.items

abbrev pub coming_json : Path × Coming → Json
coming_json e = list (item (path_json e.0) (item (value_of e.1.0) (place_items e.1.1)))
