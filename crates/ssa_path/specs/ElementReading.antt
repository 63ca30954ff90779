-- What reading an element's text answers.
use Rattle.std.specs.Prelude.{◌≡◌, Option, Some, None, Result, Ok, Err}
use Rattle.ssa_model.specs.definitions.Json.{Text, Scalar, Json, scalar}
use Rattle.ssa_model.specs.definitions.ElementTexts.{element_of, bad_element, index_element, not_canonical}
use Rattle.ssa_json.specs.Reading.{json_reading}
use Rattle.ssa_path.specs.View.{element_view}
use Rattle.ssa_path.specs.declared.element.Elem.{Elem}
use Rattle.ssa_path.specs.declared.element_fault.ElemFault.{ElemFault}
use Rattle.ssa_path.specs.declared.element_fault.ElemFault.TheVariants.{BadElement, IndexElement, NotCanonical, OutOfMemory}

-- The element whose own text this is, or why there is none; where memory ran out, nothing is said.
abbrev pub ReadsElement : Result Elem ElemFault → Text → Type 0
ReadsElement (Ok e) t = element_of json_reading t ≡ Ok (element_view e)
ReadsElement (Err BadElement) t = element_of json_reading t ≡ Err bad_element
ReadsElement (Err IndexElement) t = element_of json_reading t ≡ Err index_element
ReadsElement (Err NotCanonical) t = element_of json_reading t ≡ Err not_canonical
ReadsElement (Err OutOfMemory) t = Unit {0}

-- the scalar, where the value is one
abbrev pub as_scalar : Json → Option Scalar
as_scalar (scalar s) = Some s
as_scalar _ = None
