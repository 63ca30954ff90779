-- The faults of a list's items, one item after another.
use Rattle.std.proofs.Common.{◌≡◌, ℕ, ◌+◌, ◌<◌, length, get_or, drop, List, [], ◌∷◌, ◌++◌, Bool, true, false, not, refl, sym, ap, ◌∙◌, rules}
use Rattle.std.specs.Prelude.{Option, None, Some, option_map, if◌then◌else◌}
use Rattle.ssa_members.specs.Members.{Members as Entries}
use Rattle.ssa_model.specs.definitions.Json.{Text, Json, scalar, list, object, Scalar, Items, item, Members}
use Rattle.ssa_model.specs.definitions.Path.{Path, Element, value}
use Rattle.ssa_model.specs.definitions.Kind.{FaultAt, ScalarKind, Fields, is_of, is_among, wrong_type, duplicate_item, item_key, fault_unless, or_else, key_faults, field_faults, value_faults, item_faults, fault_at}
use Rattle.ssa_json.specs.declared.value.Json as json
use Rattle.ssa_json.specs.View.{view, items_view, members_view, as_object}
use Rattle.ssa_json.proofs.Views.{view-Object}
use Rattle.ssa_schema.specs.Refusals.{first_of}
use Rattle.ssa_schema.specs.Finds.{Finds, scalar_of, keyed_faults, found_at}
use Rattle.ssa_schema.specs.declared.fit.found.Found.{Found}
use Rattle.ssa_schema.proofs.Finding.{item_split}
use Rattle.ssa_model.proofs.Basics.{some≢none, some-same as some_is}

-- ---- sets

one_scalar : (k : ScalarKind) (earlier : List Element) (s u : Scalar) (b : Bool) (rest : Items) (p : Path) → (if b then Some s else None) ≡ Some u
    → or_else (fault_unless b wrong_type p) (fault_unless (not (is_among (value s) earlier)) duplicate_item (p ++ value s ∷ []))
    ++ value_faults k (value s ∷ earlier) rest p
    ≡ fault_unless (not (is_among (value u) earlier)) duplicate_item (p ++ value u ∷ []) ++ value_faults k (value u ∷ earlier) rest p
one_scalar k earlier s u true rest p e = ap (λ x. fault_unless (not (is_among (value x) earlier)) duplicate_item (p ++ value x ∷ [])
    ++ value_faults k (value x ∷ earlier) rest p) (some_is s u e)
one_scalar k earlier s u false rest p e = absurd (some≢none u (sym e))

value_split : (k : ScalarKind) (earlier : List Element) (v : Json) (s : Scalar) (rest : Items) (p : Path) → scalar_of k v ≡ Some s
    → value_faults k earlier (item v rest) p ≡ fault_unless (not (is_among (value s) earlier)) duplicate_item (p ++ value s ∷ [])
    ++ value_faults k (value s ∷ earlier) rest p
value_split k earlier (scalar u) s rest p e = one_scalar k earlier u s (is_of k u) rest p e
value_split k earlier (list vs) s rest p e = absurd (some≢none s (sym e))
value_split k earlier (object ms) s rest p e = absurd (some≢none s (sym e))

-- an item that is there already
pub value_twice : (k : ScalarKind) (earlier : List Element) (v : Json) (s : Scalar) (rest : Items) (p : Path) → scalar_of k v ≡ Some s
    → false ≡ not (is_among (value s) earlier)
    → first_of (value_faults k earlier (item v rest) p) ≡ Some (fault_at duplicate_item (p ++ value s ∷ []))
value_twice k earlier v s rest p is known =
    ap first_of (value_split k earlier v s rest p is) ∙ ap (λ b. first_of
    (fault_unless b duplicate_item (p ++ value s ∷ []) ++ value_faults k (value s ∷ earlier) rest p)) (sym known)

-- after an item that is not, those left decide
pub value_next : (k : ScalarKind) (earlier : List Element) (v : Json) (s : Scalar) (rest : Items) (p : Path) → scalar_of k v ≡ Some s
    → true ≡ not (is_among (value s) earlier)
    → value_faults k earlier (item v rest) p ≡ value_faults k (value s ∷ earlier) rest p
value_next k earlier v s rest p is new =
    value_split k earlier v s rest p is ∙ ap (λ b. fault_unless b duplicate_item (p ++ value s ∷ []) ++ value_faults k (value s ∷ earlier) rest p) (sym new)

-- ---- map lists

-- an item that is no object
pub item_wrong : (names : List Text) (fs : Fields) (earlier : List Element) (v : Json) (rest : Items) (p : Path) → None ≡ as_object v
    → first_of (item_faults names fs earlier (item v rest) p) ≡ Some (fault_at wrong_type p)
item_wrong names fs earlier (scalar s) rest p e = refl
item_wrong names fs earlier (list vs) rest p e = refl
item_wrong names fs earlier (object ms) rest p e = absurd (some≢none ms (sym e))

-- a value that is no object has no members
pub no_object : (x : json.Json) → ((m : Entries json.Json) → x ≡ json.Object m → ⊥) → None ≡ as_object (view x)
no_object x other = search (rules, json.the_lemmas)

-- the item at an index, and those after it
pub object_split : (names : List Text) (fs : Fields) (earlier : List Element) (xs : List json.Json) (i : ℕ) (x : json.Json)
    (m : Entries json.Json) (p : Path) → i < length xs → x ≡ get_or xs i x → x ≡ json.Object m
    → item_faults names fs earlier (items_view (drop i xs)) p
    ≡ item_faults names fs earlier (item (object (members_view m.entries)) (items_view (drop (i + 1) xs))) p
object_split names fs earlier xs i x m p within is here =
    ap (λ es. item_faults names fs earlier (items_view es) p) (item_split xs i x within is)
    ∙ ap (λ v. item_faults names fs earlier (item v (items_view (drop (i + 1) xs))) p) (ap view here ∙ view-Object m)

keys_first : (xs ys rest : List FaultAt) (f : FaultAt) → Some f ≡ first_of xs → Some f ≡ first_of (or_else xs ys ++ rest)
keys_first [] ys rest f e = absurd (some≢none f e)
keys_first (x ∷ xs) ys rest f e = e

pub keys_right : (xs ys : List FaultAt) → None ≡ first_of xs → or_else xs ys ≡ ys
keys_right [] ys e = refl
keys_right (x ∷ xs) ys e = absurd (some≢none x (sym e))

-- an item with a wrong key
pub item_key_wrong : (names : List Text) (fs : Fields) (earlier : List Element) (ms : Members) (rest : Items) (p : Path) (f : FaultAt)
    → Some f ≡ first_of (key_faults names fs ms p)
    → Some f ≡ first_of (item_faults names fs earlier (item (object ms) rest) p)
item_key_wrong names fs earlier ms rest p f e = keys_first (key_faults names fs ms p) _ _ f e

keyed : (is_known : Bool) (names : List Text) (fs : Fields) (ms : Members) (p : Path)
    → (if is_known then fault_at duplicate_item (p ++ item_key names ms ∷ []) ∷ [] else field_faults fs ms (p ++ item_key names ms ∷ []))
    ≡ keyed_faults (not is_known) names fs ms p
keyed true names fs ms p = refl
keyed false names fs ms p = refl

-- an item with right keys: its own faults, and then those of the items left
pub keyed_split : (names : List Text) (fs : Fields) (earlier : List Element) (ms : Members) (rest : Items) (p : Path) (is_new : Bool)
    → None ≡ first_of (key_faults names fs ms p) → is_new ≡ not (is_among (item_key names ms) earlier)
    → item_faults names fs earlier (item (object ms) rest) p ≡ keyed_faults is_new names fs ms p ++ item_faults names fs (item_key names ms ∷ earlier) rest p
keyed_split names fs earlier ms rest p is_new right test =
    ap (λ xs. xs ++ item_faults names fs (item_key names ms ∷ earlier) rest p)
    (keys_right (key_faults names fs ms p) _ right ∙ keyed (is_among (item_key names ms) earlier) names fs ms p
    ∙ ap (λ b. keyed_faults b names fs ms p) (sym test))

-- an item that keeps the walk going has keys that none before has
pub kept-new : (is_new : Bool) (found : Option Found) (names : List Text) (fs : Fields) (ms : Members) → found ≡ None
    → Finds found (keyed_faults is_new names fs ms) → is_new ≡ true
kept-new true found names fs ms none h = refl
kept-new false found names fs ms none h = absurd (some≢none _ (sym (h []) ∙ ap (option_map (found_at [])) none))
