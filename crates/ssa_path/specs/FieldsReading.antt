-- What reading FieldsV1 answers.
use Rattle.std.specs.Prelude.{◌≡◌, List, [], ◌∷◌, Option, Some, None, Result, Ok, Err, true, if◌then◌else◌}
use Rattle.ssa_model.specs.definitions.Json.{Text, Json, same_json}
use Rattle.ssa_model.specs.definitions.ElementTexts.{ElementFault, bad_element, index_element, not_canonical, element_of}
use Rattle.ssa_model.specs.definitions.FieldsV1.{dot_alone, IsCanonical, fields_faults, is_nothing_inside, said_paths}
use Rattle.ssa_model.specs.definitions.Path.{Path}
use Rattle.ssa_json.specs.Reading.{json_reading}
use Rattle.ssa_path.specs.FieldsWriting.{paths_json, IsWrittenBelow}
use Rattle.ssa_path.specs.OwnText.{IsOwnText}
use Rattle.ssa_path.specs.Trie.{is_filled, is_trie, paths}
use Rattle.ssa_path.specs.View.{element_view}
use Rattle.ssa_path.specs.declared.element.Elem.{Elem}
use Rattle.ssa_path.specs.declared.element_fault.ElemFault.{ElemFault}
use Rattle.ssa_path.specs.declared.element_fault.ElemFault.TheVariants.{BadElement, IndexElement, NotCanonical, OutOfMemory}
use Rattle.ssa_path.specs.declared.trie.Trie.{Trie}

abbrev pub first_fault : List ElementFault → Option ElementFault
first_fault [] = None
first_fault (f ∷ fs) = Some f

-- this is the first of the faults; where memory ran out, nothing is said
abbrev pub IsFirst : ElemFault → List ElementFault → Type 0
IsFirst BadElement fs = first_fault fs ≡ Some bad_element
IsFirst IndexElement fs = first_fault fs ≡ Some index_element
IsFirst NotCanonical fs = first_fault fs ≡ Some not_canonical
IsFirst OutOfMemory fs = Unit {0}

-- there is no fault, or this is the first
abbrev pub TellsFirst : {A : Type 0} → Result A ElemFault → List ElementFault → Type 0
TellsFirst (Ok s) fs = fs ≡ []
TellsFirst (Err f) fs = IsFirst f fs

abbrev pub ReadsFields : {A : Type 0} → Result A ElemFault → Json → Type 0
ReadsFields r v = TellsFirst r (fields_faults json_reading v)

-- ---- during the walk

-- the faults of a value under an element
abbrev pub below_faults : Json → List ElementFault
below_faults v = if same_json v dot_alone then not_canonical ∷ [] else fields_faults json_reading v

-- the faults of a member that isn't `.`
abbrev pub child_faults : Text → Json → List ElementFault
child_faults n v = elim (element_of json_reading n) [ Err f ↦ f ∷ [] | Ok e ↦ below_faults v ]

-- the paths that a value under an element says, from the element on
abbrev pub said_below : Json → List Path
said_below v = if is_nothing_inside v then [] ∷ [] else said_paths json_reading v

-- the value is the one writing of the place's paths, and says these
pub record IsPlaceOf (v : Json) (t : Trie) : Type 0 where
  pub trie : is_trie t ≡ true
  pub json : v ≡ paths_json (paths t)
  pub canonical : IsCanonical v
  pub said : paths t ≡ said_paths json_reading v

-- so it is of a place under an element
pub record IsPlaceBelow (v : Json) (t : Trie) : Type 0 where
  pub trie : is_trie t ≡ true
  pub filled : is_filled t ≡ true
  pub written : IsWrittenBelow (paths t) v
  pub said : paths t ≡ said_below v

-- the member is the one writing of the child
pub record IsChildOf (n : Text) (v : Json) (c : Elem × Trie) : Type 0 where
  pub name : IsOwnText n (element_view c.0)
  pub place : IsPlaceBelow v c.1
