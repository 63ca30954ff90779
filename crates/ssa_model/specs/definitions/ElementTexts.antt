-- Reading an element's text, and a path's.
use Rattle.std.specs.Prelude.{List, [], ◌∷◌, Bool, true, false, Option, Some, None, option_map, Result, Ok, Err, if◌then◌else◌, ◌==◌, codes}
use Rattle.ssa_model.specs.definitions.Json.{Text, Scalar, Json, scalar, list, object, Members, no_members, member, same_text}
use Rattle.ssa_model.specs.definitions.Path.{Element, field, key, value, Path, element_text}
use Rattle.ssa_model.specs.definitions.Readings.{ReadFault}

pub data ElementFault : Type 0 where
  bad_element : ElementFault
  index_element : ElementFault
  not_canonical : ElementFault

-- what follows the beginning, where the text has it
abbrev pub after_beginning : Text → Text → Option Text
after_beginning [] t = Some t
after_beginning (b ∷ bs) [] = None
after_beginning (b ∷ bs) (c ∷ cs) = if b == c then after_beginning bs cs else None

abbrev pub add_key : Text → Json → Option (List (Text × Scalar)) → Option (List (Text × Scalar))
add_key n (scalar s) ks = option_map (λ ks. (n, s) ∷ ks) ks
add_key n (list vs) ks = None
add_key n (object ms) ks = None

-- the members, where all are scalars
abbrev pub key_of : Members → Option (List (Text × Scalar))
key_of no_members = Some []
key_of (member n v ms) = add_key n v (key_of ms)

abbrev pub value_element : Result Json ReadFault → Option Element
value_element (Ok (scalar s)) = Some (value s)
value_element _ = None

abbrev pub key_element : Result Json ReadFault → Option Element
key_element (Ok (object (member n v ms))) = option_map key (key_of (member n v ms))
key_element _ = None

-- the element that a text writes, in its own spelling or another
abbrev pub spelled_element : (Text → Result Json ReadFault) → Text → Option Element
spelled_element reading t =
    elim (after_beginning (codes "f:") t) [
      | Some n ↦ Some (field n)
      | None ↦ (elim (after_beginning (codes "v:") t) [
        | Some u ↦ value_element (reading u)
        | None ↦ (elim (after_beginning (codes "k:") t) [ Some u ↦ key_element (reading u) | None ↦ None ])
      ])
    ]

abbrev pub is_index : Text → Bool
is_index t = elim (after_beginning (codes "i:") t) [ Some u ↦ true | None ↦ false ]

-- the element whose own text this is, or the fault
abbrev pub element_of : (Text → Result Json ReadFault) → Text → Result Element ElementFault
element_of reading t =
    if is_index t then Err index_element
    else elim (spelled_element reading t) [ None ↦ Err bad_element | Some e ↦ (if same_text (element_text e) t then Ok e else Err not_canonical) ]

abbrev pub next_element : Element → Result Path ElementFault → Result Path ElementFault
next_element e (Ok p) = Ok (e ∷ p)
next_element e (Err f) = Err f

-- the path, or the first element's fault
abbrev pub path_of : (Text → Result Json ReadFault) → List Text → Result Path ElementFault
path_of reading [] = Ok []
path_of reading (t ∷ ts) = elim (element_of reading t) [ Ok e ↦ next_element e (path_of reading ts) | Err f ↦ Err f ]
