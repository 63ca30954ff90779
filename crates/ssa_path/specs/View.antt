-- What elements of the program are.
use Rattle.std.specs.Prelude.{List, map}
use Rattle.ssa_members.specs.Texts.{text_bytes}
use Rattle.ssa_model.specs.definitions.Path as model
use Rattle.ssa_json.specs.View.{scalar_view}
use Rattle.ssa_path.specs.declared.element.Elem.{Elem}
use Rattle.ssa_path.specs.declared.element.Elem.TheVariants.{Field, Key, Value}

abbrev pub element_view : Elem → model.Element
element_view (Field name) = model.field (text_bytes name)
element_view (Key keys) = model.key keys
element_view (Value scalar) = model.value (scalar_view scalar)

abbrev pub path_view : List Elem → model.Path
path_view = map element_view
