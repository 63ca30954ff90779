-- What reading a path from its elements' texts answers.
use Rattle.std.specs.Prelude.{◌≡◌, List, [], Option, Some, None, Result, Ok, Err, Vec}
use Rattle.std.specs.Global.{Global}
use Rattle.ssa_model.specs.definitions.Json.{Text, Json, list, Items}
use Rattle.ssa_model.specs.definitions.Values.{texts_of}
use Rattle.ssa_model.specs.definitions.Path as model
use Rattle.ssa_model.specs.definitions.ElementTexts.{ElementFault, bad_element, index_element, not_canonical, path_of}
use Rattle.ssa_json.specs.Reading.{json_reading}
use Rattle.ssa_path.specs.View.{path_view}
use Rattle.ssa_path.specs.declared.element.Elem.{Elem}
use Rattle.ssa_path.specs.declared.element_fault.ElemFault.{ElemFault}
use Rattle.ssa_path.specs.declared.element_fault.ElemFault.TheVariants.{BadElement, IndexElement, NotCanonical, OutOfMemory}

-- the items of a list
abbrev pub as_list : Json → Option Items
as_list (list vs) = Some vs
as_list _ = None

abbrev pub texts_or_none : Option (List Text) → List Text
texts_or_none o = elim o [ None ↦ [] | Some ts ↦ ts ]

-- the texts, where all items are texts
abbrev pub given_texts : Items → List Text
given_texts vs = texts_or_none (texts_of vs)

-- The path is the one of these texts, or the fault is the first one's; where memory ran out, nothing is said.
abbrev pub IsPathRead : Result model.Path ElemFault → Result model.Path ElementFault → Type 0
IsPathRead (Ok p) r = r ≡ Ok p
IsPathRead (Err BadElement) r = r ≡ Err bad_element
IsPathRead (Err IndexElement) r = r ≡ Err index_element
IsPathRead (Err NotCanonical) r = r ≡ Err not_canonical
IsPathRead (Err OutOfMemory) r = Unit {0}

abbrev pub ReadsPath : Result model.Path ElemFault → Items → Type 0
ReadsPath result vs = IsPathRead result (path_of json_reading (given_texts vs))

-- the elements of a path
abbrev pub ReadsElements : Result (Vec Elem Global) ElemFault → Items → Type 0
ReadsElements (Ok es) vs = ReadsPath (Ok (path_view es.items)) vs
ReadsElements (Err f) vs = ReadsPath (Err f) vs
