-- The elements whose own texts are read.
use Rattle.std.specs.Prelude.{◌≡◌, ◌≢◌, true, Ok}
use Rattle.ssa_model.specs.definitions.Json.{Text, Json, scalar, object, text}
use Rattle.ssa_model.specs.definitions.Path.{Element, field, key, value, key_members, element_text}
use Rattle.ssa_model.specs.definitions.FieldsV1.{is_element}
use Rattle.ssa_model.specs.definitions.ElementTexts.{element_of}
use Rattle.ssa_json.specs.Reading.{json_reading}
use Rattle.ssa_json.specs.Written.{is_narrow}
use Rattle.ssa_json.specs.Writable.{has_utf8}
use Rattle.ssa_path.specs.declared.element_fault.ElemFault.{ElemFault}
use Rattle.ssa_path.specs.declared.element_fault.ElemFault.TheVariants.{OutOfMemory}

-- the element's name, key fields or value, as JSON
abbrev pub element_json : Element → Json
element_json (field n) = scalar (text n)
element_json (key ks) = object (key_members ks)
element_json (value s) = scalar s

-- what each element of the program has: key fields whose names rise, whole numbers of 64 bits, texts of UTF-8
pub record IsElementOfProgram (e : Element) : Type 0 where
  pub lawful : is_element e ≡ true
  pub narrow : is_narrow (element_json e) ≡ true
  pub texts : has_utf8 (element_json e) ≡ true

abbrev pub OwnTextsAreRead : Type 0
OwnTextsAreRead = (e : Element) → IsElementOfProgram e → element_of json_reading (element_text e) ≡ Ok e

-- the text is the element's own
abbrev pub IsOwnText : Text → Element → Type 0
IsOwnText t e = IsElementOfProgram e × (element_text e ≡ t)

-- it is the own text of no element of the program; where memory ran out, nothing is said
abbrev pub IsOwnTextOfNone : ElemFault → Text → Type 0
IsOwnTextOfNone OutOfMemory t = Unit {0}
IsOwnTextOfNone _ t = (e : Element) → IsElementOfProgram e → element_text e ≢ t
