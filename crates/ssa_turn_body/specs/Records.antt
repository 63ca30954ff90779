-- What changes say: the record of the body that they fit and of the one that they lead to.
use Rattle.std.specs.Prelude.{ℕ, List, [], ◌∷◌, ◌++◌, map, Bool, false, ◌&&◌, Option, Some, None, if◌then◌else◌}
use Rattle.std.specs.List.{position_from}
use Rattle.ssa_model.specs.definitions.Body.{Content}
use Rattle.ssa_model.specs.definitions.Path.{Element, Path, same_element, is_item_element}
use Rattle.ssa_model.specs.definitions.PathMap.{from_entries}
use Rattle.ssa_model.specs.definitions.Record.{BodyRecord, Part}
use Rattle.ssa_path.specs.View.{element_view, path_view}
use Rattle.ssa_typed.specs.Rows.{body_of, leaf_content}
use Rattle.ssa_turn_body.specs.Edits.{named_in}
use Rattle.ssa_turn_body.specs.Marks.{Child}
use Rattle.ssa_turn_body.specs.Orders.{is_none}
use Rattle.ssa_turn_body.specs.declared.change.PlaceChange.{PlaceChange}
use Rattle.ssa_turn_body.specs.declared.change.PlaceChange.TheVariants.{Leaf, Children}
use Rattle.ssa_turn_body.specs.declared.steps.BodySteps.{BodySteps}
use Rattle.ssa_turn_body.specs.declared.steps.Step.{Step}

-- ---- one change, by the paths from its place on

-- the leaf that is put
abbrev pub leaves_in : PlaceChange → List (Path × Content)
leaves_in (Leaf s) = ([], leaf_content s.leaf) ∷ []
leaves_in (Children s) = []

-- the children that go
abbrev pub cuts_in : PlaceChange → List (Path × Unit {0})
cuts_in (Leaf s) = []
cuts_in (Children s) = map (λ e. (e ∷ [], tt)) (named_in s.value.gone)

-- the items of a list, and not none
abbrev pub are_some_items : List Element → Bool
are_some_items [] = false
are_some_items (e ∷ es) = is_item_element e

abbrev pub told_order : List Element → List Element → List (Path × List Element)
told_order before after = if are_some_items before && are_some_items after then ([], after) ∷ [] else []

-- the items in their order afterwards, where they are exchanged
abbrev pub orders_in : PlaceChange → List (Path × List Element)
orders_in (Leaf s) = []
orders_in (Children s) = told_order (path_view s.value.order.before.items) (path_view s.value.order.after.items)

-- where an item that comes stands afterwards: as it came in, or in the order that is told
abbrev pub place_after : List Element → Element → ℕ → Option ℕ
place_after order e k = if is_item_element e then (if is_none order then Some k else position_from (same_element e) 0 order) else None

abbrev pub parts_of : List Element → List ℕ → List Child → List (Path × Part)
parts_of order [] hs = []
parts_of order (k ∷ ks) [] = []
parts_of order (k ∷ ks) (h ∷ hs) =
    (element_view h.0 ∷ [], record { below = body_of h.1; place = place_after order (element_view h.0) k }) ∷ parts_of order ks hs

-- the children that come
abbrev pub parts_in : PlaceChange → List (Path × Part)
parts_in (Leaf s) = []
parts_in (Children s) = parts_of (path_view s.value.order.after.items) s.value.come.places.items s.value.held.items

-- ---- changes at many places, by whole paths

abbrev pub at_place : {X : Type 0} → Path → List (Path × X) → List (Path × X)
at_place p es = map (λ e. (p ++ e.0, e.1)) es

abbrev pub told_by : {X : Type 0} → (PlaceChange → List (Path × X)) → List Step → List (Path × X)
told_by f [] = []
told_by f (s ∷ ss) = at_place (path_view s.path.items) (f s.change) ++ told_by f ss

abbrev pub body_told : BodySteps → BodyRecord
body_told s = record {
  cut = from_entries (told_by cuts_in s.steps.items);
  leaves = from_entries (told_by leaves_in s.steps.items);
  order = from_entries (told_by orders_in s.steps.items);
  put = from_entries (told_by parts_in s.steps.items);
}
