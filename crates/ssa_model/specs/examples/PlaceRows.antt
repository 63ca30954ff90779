-- Worked examples: a record that changes one field of an item changes the body there alone.
use Rattle.std.specs.Prelude.{◌≡◌, [], ◌∷◌, ◌++◌, codes, true}
use Rattle.ssa_model.specs.definitions.Json.{Json, text, no_items, item}
use Rattle.ssa_model.specs.definitions.Path.{key, Path}
use Rattle.ssa_model.specs.definitions.PathMap.{has, below}
use Rattle.ssa_model.specs.definitions.Body.{Body, flat}
use Rattle.ssa_model.specs.definitions.Objects.{body_value}
use Rattle.ssa_model.specs.definitions.Record.{body_record}
use Rattle.ssa_model.specs.definitions.Takes.{BodyTakes}
use Rattle.ssa_model.specs.laws.RecordPlaces.{replaced, TellsBelow}
use Rattle.ssa_model.specs.examples.Sample.{sample_kind, port}
use Rattle.ssa_model.specs.examples.Rows.{abc, with_ports}
use Rattle.ssa_model.specs.examples.FittingRows.{ports_path}

abbrev pub other_b : Json
other_b = with_ports (item (port (codes "a") 1) (item (port (codes "b") 4) (item (port (codes "c") 3) no_items)))

abbrev pub before : Body
before = flat sample_kind (body_value (with_ports abc))

abbrev pub after : Body
after = flat sample_kind (body_value other_b)

-- the item of which a field changes
abbrev pub b_path : Path
b_path = ports_path ++ key ((codes "name", text (codes "b")) ∷ []) ∷ []

-- the body after is the body before with another item, and with another list
abbrev pub ItemReplaced : Type 0
ItemReplaced = (replaced before b_path (below after b_path) ≡ after) × (replaced before ports_path (below after ports_path) ≡ after)

-- with the part of another path it is not
abbrev pub OtherPartKept : Type 0
OtherPartKept = let other = ports_path ++ key ((codes "name", text (codes "a")) ∷ []) ∷ [] in replaced before other (below after other) ≡ before

-- the two bodies and their record meet what the laws ask
pub record IsPlaceMet : Type 0 where
  pub takes : BodyTakes sample_kind (body_record before after) before after
  pub tells : TellsBelow b_path (body_record before after)
  pub there : has before b_path ≡ true
