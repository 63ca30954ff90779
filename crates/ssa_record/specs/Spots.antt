-- Where in a body a record tells something: at and below one place, at which the schema has a kind.
use Rattle.std.specs.Prelude.{◌≡◌, ◌<◌, List, [], ◌∷◌, ◌++◌, length, true, false, Option, Some, None, IfSome}
use Rattle.ssa_model.specs.definitions.Json.{Text}
use Rattle.ssa_model.specs.definitions.Path.{key, Path, is_key_field, is_root, names_key, under}
use Rattle.ssa_model.specs.definitions.PathMap.{has}
use Rattle.ssa_model.specs.definitions.Kind.{Kind, items_of}
use Rattle.ssa_model.specs.definitions.Body.{Body}
use Rattle.ssa_model.specs.definitions.Fitting.{of_kind, item_of, place_at, place_below, IsBodyOf}
use Rattle.ssa_model.specs.definitions.Record.{BodyRecord}
use Rattle.ssa_model.specs.definitions.Takes.{BodyTakes}
use Rattle.ssa_model.specs.definitions.Valid.{IsValidBody}
use Rattle.ssa_path.specs.Children.{child_at}
use Rattle.ssa_path.specs.Keys.{members_view}
use Rattle.ssa_path.specs.View.{element_view}
use Rattle.ssa_path.specs.declared.element.Elem.{Elem}
use Rattle.ssa_path.specs.declared.trie.Trie.{Trie}
use Rattle.ssa_path.specs.declared.trie.Trie.TheViews.{out-Trie}
use Rattle.ssa_schema.specs.Kinds.{fields_view, kind_view}
use Rattle.ssa_typed.specs.Rows.{below, is_tree, rows}
use Rattle.ssa_turn_body.specs.At.{HasTreeAt}
use Rattle.ssa_turn_body.specs.Records.{body_told}
use Rattle.ssa_turn_body.specs.Rooms.{HasBodyRoom}
use Rattle.ssa_turn_body.specs.declared.steps.BodySteps.{BodySteps}
use Rattle.ssa_record.specs.LedBodies.{IsSaid}
use Rattle.ssa_record.specs.Places.{maps_told, IsTouchedBelow, ToldMaps}
use Rattle.ssa_told.specs.Told.{told_of}
use Rattle.ssa_record.specs.declared.spot.Item.{Item}
use Rattle.ssa_record.specs.declared.spot.Spot.{Spot}

-- Changes that lead the body to a valid one, with room for each turn of them, or none. Where what is told is the record of the body and a valid one, they
-- say it.
pub record AreSteps (m : ToldMaps) (kind : Kind) (v : Body) (o : Option BodySteps) : Type 0 where
  pub taken : IfSome o (λ s. (w : Body) × BodyTakes kind (body_told s) v w × IsValidBody kind w)
  pub room : IfSome o (λ s. HasBodyRoom s v)
  pub whole : (d : BodyRecord) (w : Body) → BodyTakes kind d v w → IsValidBody kind w → m ≡ maps_told (told_of kind d) → IsSaid o d

-- ---- one place

-- all that the record tells is at and below the path, and it neither cuts nor puts the path itself
pub record IsWithin (p : Path) (d : BodyRecord) : Type 0 where
  pub cut : (q : Path) → has d.cut q ≡ true → under p q ≡ true
  pub leaves : (q : Path) → has d.leaves q ≡ true → under p q ≡ true
  pub order : (q : Path) → has d.order q ≡ true → under p q ≡ true
  pub put : (q : Path) → has d.put q ≡ true → under p q ≡ true
  pub uncut : has d.cut p ≡ false
  pub unput : has d.put p ≡ false

-- The tree is what the body has at the path, where the schema has the kind and no item has a key field. All that is touched is at and below it, and it is
-- neither cut nor put.
pub record IsSpot (m : ToldMaps) (kind : Kind) (v : Body) (p : Path) (s : Spot) : Type 0 where
  pub tree : is_tree s.node.now ≡ true
  pub has_tree : HasTreeAt v p s.node.now
  pub place : place_at (of_kind kind) p ≡ Some (of_kind (kind_view s.kind.now))
  pub free : is_key_field p ≡ false
  pub touched : IsTouchedBelow m p s.touched.now
  pub within : (q : Path) → has m.touched q ≡ true → under p q ≡ true
  pub uncut : is_root p ≡ false → has m.cut p ≡ false
  pub unput : is_root p ≡ false → has m.put p ≡ false

-- ---- further down

-- the place isn't touched, and has one child
pub record IsOnlyChild (t : Trie) (c : Elem × Trie) : Type 0 where
  pub untouched : (out-Trie t).here ≡ false
  pub one : (out-Trie t).below.items ≡ c ∷ []

-- the child of the element, with all that is touched at and below the place
pub record IsSpotBelow (m : ToldMaps) (p : Path) (s : Spot) (e : Elem) (r : Spot) : Type 0 where
  pub touched : IsOnlyChild s.touched.now (e, r.touched.now)
  pub node : child_at (element_view e) (below s.node.now) ≡ Some r.node.now
  pub place : place_below (of_kind (kind_view s.kind.now)) (element_view e) ≡ Some (of_kind (kind_view r.kind.now))
  pub uncut : has m.cut (p ++ element_view e ∷ []) ≡ false
  pub unput : has m.put (p ++ element_view e ∷ []) ≡ false

-- the item of the element in a map list of such fields, with all that is touched at and below the list
pub record IsItemBelow (s : Spot) (e : Elem) (i : Item) : Type 0 where
  pub touched : IsOnlyChild s.touched.now (e, i.touched.now)
  pub node : child_at (element_view e) (below s.node.now) ≡ Some i.node.now
  pub names : List Text
  pub kind : kind_view s.kind.now ≡ items_of names (fields_view i.fields.now.entries)
  pub keys : element_view e ≡ key (members_view i.keys.now)

-- the field of the element in an item at a path, with all that is touched below the item
pub record IsFieldBelow (m : ToldMaps) (p : Path) (i : Item) (e : Elem) (r : Spot) : Type 0 where
  pub touched : IsOnlyChild i.touched.now (e, r.touched.now)
  pub node : child_at (element_view e) (below i.node.now) ≡ Some r.node.now
  pub place : (ns : List Text) → place_below (item_of ns (fields_view i.fields.now.entries)) (element_view e) ≡ Some (of_kind (kind_view r.kind.now))
  pub free : names_key (key (members_view i.keys.now)) (element_view e) ≡ false
  pub uncut : has m.cut (p ++ element_view e ∷ []) ≡ false
  pub unput : has m.put (p ++ element_view e ∷ []) ≡ false

-- where there is a spot at the first path, there is one at the second
abbrev pub LeadsDown : ToldMaps → Path → Spot → Path → Spot → Type 0
LeadsDown m p s q r = (kind : Kind) (v : Body) → IsBodyOf kind v → IsSpot m kind v p s → IsSpot m kind v q r

pub record IsLower (m : ToldMaps) (p : Path) (s : Spot) (q : Path) (r : Spot) : Type 0 where
  pub tree : is_tree r.node.now ≡ true
  pub fewer : length (rows r.node.now) < length (rows s.node.now)
  pub leads : LeadsDown m p s q r

-- the path leads to a lower place, or is as it was
abbrev pub IsDown : ToldMaps → Path → Spot → Path → Option Spot → Type 0
IsDown m p s q None = q ≡ p
IsDown m p s q (Some r) = IsLower m p s q r
