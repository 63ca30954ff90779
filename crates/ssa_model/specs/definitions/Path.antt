-- Elements and paths of fields, in the order of the elements' texts.
use Rattle.std.specs.Prelude.{List, [], ◌∷◌, ◌++◌, Bool, true, false, ◌&&◌, codes, Option, Some, None, if◌then◌else◌}
use Rattle.std.specs.declared.cmp.Ordering.{Ordering}
use Rattle.std.specs.Ordering.{eq_by_cmp, nat_cmp, on}
use Rattle.std.specs.List.{list_any}
use Rattle.std.specs.Cmp.{IsTotalOrder, on_total}
use Rattle.std.specs.Cmp.Lexicographic.{slice_cmp, lists_total, nat_list_cmp_total}
use Rattle.ssa_model.specs.definitions.Json.{Text, Scalar, scalar, object, Members, no_members, member, same_text, compact, scalar_text}

pub data Element : Type 0 where
  field : Text → Element
  key : List (Text × Scalar) → Element
  value : Scalar → Element

abbrev pub key_members : List (Text × Scalar) → Members
key_members [] = no_members
key_members (k ∷ ks) = member k.0 (scalar k.1) (key_members ks)

abbrev pub element_text : Element → Text
element_text (field n) = codes "f:" ++ n
element_text (key ks) = codes "k:" ++ compact (object (key_members ks))
element_text (value s) = codes "v:" ++ scalar_text s

abbrev pub Path : Type 0
Path = List Element

abbrev pub element_cmp : Element → Element → Ordering
element_cmp = on element_text (slice_cmp nat_cmp)

abbrev pub path_cmp : Path → Path → Ordering
path_cmp = slice_cmp element_cmp

pub path_cmp_total : IsTotalOrder path_cmp
path_cmp_total = lists_total (on_total element_text nat_list_cmp_total)

abbrev pub same_element : Element → Element → Bool
same_element = eq_by_cmp element_cmp

abbrev pub same_path : Path → Path → Bool
same_path = eq_by_cmp path_cmp

-- p is under g: g is a beginning of p, or equal to it
abbrev pub under : Path → Path → Bool
under [] p = true
under (e ∷ g) [] = false
under (e ∷ g) (f ∷ p) = same_element e f && under g p

abbrev pub is_root : Path → Bool
is_root [] = true
is_root (e ∷ p) = false

abbrev pub parent : Path → Path
parent [] = []
parent (e ∷ []) = []
parent (e ∷ f ∷ p) = e ∷ parent (f ∷ p)

-- what follows p in q
abbrev pub rest_of : Path → Path → Option Path
rest_of [] q = Some q
rest_of (e ∷ p) [] = None
rest_of (e ∷ p) (f ∷ q) = if same_element e f then rest_of p q else None

abbrev pub last_element : Path → Option Element
last_element [] = None
last_element (e ∷ []) = Some e
last_element (e ∷ f ∷ p) = last_element (f ∷ p)

abbrev pub is_item_element : Element → Bool
is_item_element (field n) = false
is_item_element (key ks) = true
is_item_element (value s) = true

-- the place is an item of a list
abbrev pub is_item : Path → Bool
is_item [] = false
is_item (e ∷ []) = is_item_element e
is_item (e ∷ f ∷ p) = is_item (f ∷ p)

abbrev pub names_key : Element → Element → Bool
names_key (key ks) (field n) = list_any (λ k. same_text n k.0) ks
names_key _ _ = false

-- the place is a key field of an item
abbrev pub is_key_field : Path → Bool
is_key_field [] = false
is_key_field (e ∷ []) = false
is_key_field (e ∷ f ∷ []) = names_key e f
is_key_field (e ∷ f ∷ g ∷ p) = is_key_field (f ∷ g ∷ p)
