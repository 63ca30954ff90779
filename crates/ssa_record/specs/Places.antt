-- What a record tells of a body, found by whole paths.
use Rattle.std.specs.Prelude.{◌≡◌, ℕ, List, [], ◌∷◌, ◌++◌, map, filter, true, not, Option, Some, None}
use Rattle.std.specs.Borrow.{Bor}
use Rattle.std.specs.List.{position_from}
use Rattle.ssa_model.specs.definitions.Json.{Json}
use Rattle.ssa_model.specs.definitions.Path.{Element, Path, same_element}
use Rattle.ssa_model.specs.definitions.PathMap.{PathMap, PathSet, get, has, from_entries, listed}
use Rattle.ssa_model.specs.definitions.Kind.{is_among}
use Rattle.ssa_model.specs.definitions.Fitting.{are_distinct}
use Rattle.ssa_json.specs.View.{view}
use Rattle.ssa_json.specs.declared.value.Json as program
use Rattle.ssa_path.specs.Trie as tries
use Rattle.ssa_path.specs.TopPaths.{lent_path}
use Rattle.ssa_path.specs.View.{path_view}
use Rattle.ssa_path.specs.declared.element.Elem.{Elem}
use Rattle.ssa_path.specs.declared.top_path.LentPath.{LentPath}
use Rattle.ssa_path.specs.declared.trie.Trie.{Trie}
use Rattle.ssa_told.specs.Told.{BodyTold}
use Rattle.ssa_record.specs.declared.places.ToldPlaces.{ToldPlaces}
use Rattle.ssa_told.specs.declared.told.ToldPut.{ToldPut}

-- what is told by whole paths, and the paths of which anything is told
pub record ToldMaps : Type 0 where
  pub cut : PathSet
  pub leaves : PathMap Json
  pub order : PathMap (List Element)
  pub put : PathMap (Json × Option ℕ)
  pub touched : PathSet

-- the paths of some entries
abbrev pub told_paths : {X : Type 0} → List (Path × X) → List Path
told_paths es = map (λ e. e.0) es

-- what some lists tell, the first at each path
abbrev pub maps_told : BodyTold → ToldMaps
maps_told t = record {
  cut = listed t.cut;
  leaves = from_entries t.leaves;
  order = from_entries t.order;
  put = from_entries t.put;
  touched = listed (t.cut ++ (told_paths t.leaves ++ (told_paths t.order ++ told_paths t.put)));
}

-- ---- as the program holds it

abbrev pub cut_view : List (LentPath × Unit {0}) → List (Path × Unit {0})
cut_view = map (λ e. (lent_path e.0, tt))

abbrev pub leaves_view : List (LentPath × Bor program.Json) → List (Path × Json)
leaves_view = map (λ e. (lent_path e.0, view e.1.now))

abbrev pub order_view : List (LentPath × Bor (List Elem)) → List (Path × List Element)
order_view = map (λ e. (lent_path e.0, path_view e.1.now))

abbrev pub put_view : List (LentPath × Bor ToldPut) → List (Path × (Json × Option ℕ))
put_view = map (λ e. (lent_path e.0, (view e.1.now.value, e.1.now.place)))

abbrev pub maps_of : ToldPlaces → ToldMaps
maps_of t = record {
  cut = from_entries (cut_view t.cut.entries.items);
  leaves = from_entries (leaves_view t.leaves.entries.items);
  order = from_entries (order_view t.order.entries.items);
  put = from_entries (put_view t.put.entries.items);
  touched = t.touched;
}

-- ---- places

-- the trie has the paths, from the place on, of which anything is told
abbrev pub IsTouchedBelow : ToldMaps → Path → Trie → Type 0
IsTouchedBelow m p t = (tries.is_trie t ≡ true) × ((r : Path) → tries.is_one_of (tries.paths t) r ≡ has m.touched (p ++ r))

-- what is told of a place is touched
pub record AllTouched (m : ToldMaps) : Type 0 where
  pub cut : (p : Path) → has m.cut p ≡ true → has m.touched p ≡ true
  pub leaves : (p : Path) → has m.leaves p ≡ true → has m.touched p ≡ true
  pub order : (p : Path) → has m.order p ≡ true → has m.touched p ≡ true
  pub put : (p : Path) → has m.put p ≡ true → has m.touched p ≡ true

-- ---- the items of a list

-- the items that are not cut
abbrev pub items_left : ToldMaps → Path → List Element → List Element
items_left m p es = filter (λ e. not (has m.cut (p ++ e ∷ []))) es

-- the last items are those that stay, in their order, with those that are put, each at its place
pub record IsRefilled (m : ToldMaps) (p : Path) (es fs : List Element) : Type 0 where
  pub once : are_distinct fs ≡ true
  pub stay : filter (λ e. not (has m.put (p ++ e ∷ []))) fs ≡ items_left m p es
  pub put : (e : Element) → has m.put (p ++ e ∷ []) ≡ true → is_among e fs ≡ true
  pub places : (e : Element) (x : Json × Option ℕ) → get m.put (p ++ e ∷ []) ≡ Some x → x.1 ≡ position_from (same_element e) 0 fs

-- there is an order, and it is this one
abbrev pub IsOrderOf : Option (List Elem) → List Element → Type 0
IsOrderOf None fs = ⊥
IsOrderOf (Some es) fs = path_view es ≡ fs
