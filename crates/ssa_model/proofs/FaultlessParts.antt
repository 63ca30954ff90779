-- Values without faults, part by part.
use Rattle.std.proofs.Common.{◌≡◌, List, [], ◌∷◌, ◌++◌, Bool, true, false, not, ◌&&◌, ◌||◌, refl, sym, ap, ◌∙◌, true≢false}
use Rattle.std.specs.Prelude.{Option, None, Some, if◌then◌else◌}
use Rattle.std.specs.Cmp.{first_so, second_so}
use Rattle.std.specs.List.{list_any}
use Rattle.ssa_model.specs.definitions.Json.{Text, Scalar, Json, scalar, list, object, Items, no_items, item, Members, member}
use Rattle.ssa_model.specs.definitions.Path.{Element, field, value, Path, same_element}
use Rattle.ssa_model.specs.definitions.Kind.{ScalarKind, Kind, Fields, FaultAt, faults, field_faults, entry_faults, value_faults, item_faults, key_faults, item_key, kind_of, or_else, fault_unless, is_of, is_among, unknown_field, duplicate_item, wrong_type, fault_at}
use Rattle.ssa_model.specs.definitions.Body.{value_order, key_order}
use Rattle.ssa_model.specs.definitions.Fitting.{are_distinct}
use Rattle.ssa_model.specs.laws.Faultless.{Fits, FieldsFit, KeysFit, EntriesFit, MemberFits, ItemFits, ValuesFit, ItemsFit}
use Rattle.ssa_model.proofs.Faults.{cons≢nil, nil_first, nil_second, unless-true}
use Rattle.ssa_model.proofs.Fitting.{same_element-true}
use Rattle.ssa_model.proofs.Tables.{element-itself}
use Rattle.ssa_model.proofs.Basics.{or_true, not_true as no, both-true}

-- ---- members

member_test : Text → Json → Path → Option Kind → List FaultAt
member_test n v p None = fault_at unknown_field (p ++ field n ∷ []) ∷ []
member_test n v p (Some k) = faults k v (p ++ field n ∷ [])

member_test-is : (n : Text) (v : Json) (p : Path) (o : Option Kind)
    → ◌≡◌ {A = List FaultAt} (elim o [ None ↦ fault_at unknown_field (p ++ field n ∷ []) ∷ [] | Some k ↦ faults k v (p ++ field n ∷ []) ]) (member_test n v p o)
unfolding member_test
member_test-is n v p None = refl
member_test-is n v p (Some k) = refl

member-now : (fs : Fields) (n : Text) (v : Json) (ms : Members) (p : Path) → field_faults fs (member n v ms) p ≡ []
    → member_test n v p (kind_of n fs) ++ field_faults fs ms p ≡ []
member-now fs n v ms p e = ap (λ xs. xs ++ field_faults fs ms p) (sym (member_test-is n v p (kind_of n fs))) ∙ e

member-known : (fs : Fields) (n : Text) (v : Json) (p : Path) (o : Option Kind) → kind_of n fs ≡ o
    → member_test n v p o ≡ [] → MemberFits fs n v
unfolding member_test
member-known fs n v p None is e = absurd (cons≢nil e)
member-known fs n v p (Some k) is e = (k, (is, (p ++ field n ∷ [], e)))

-- where members have no fault under the fields, the first has a field and fits it
pub member-first : (fs : Fields) (n : Text) (v : Json) (ms : Members) → FieldsFit fs (member n v ms) → MemberFits fs n v
member-first fs n v ms h = member-known fs n v h.0 (kind_of n fs) refl (nil_first _ (field_faults fs ms h.0) (member-now fs n v ms h.0 h.1))

-- and the members behind the first have no fault
pub member-rest : (fs : Fields) (n : Text) (v : Json) (ms : Members) → FieldsFit fs (member n v ms) → FieldsFit fs ms
member-rest fs n v ms h = (h.0, nil_second (member_test n v h.0 (kind_of n fs)) (field_faults fs ms h.0) (member-now fs n v ms h.0 h.1))

nil-both : {X : Type 0} (xs ys : List X) → xs ≡ [] → ys ≡ [] → xs ++ ys ≡ []
nil-both xs ys e f = λ i. e i ++ f i

-- the other members fit, and this one before any that do
pub member-join : (fs : Fields) (n : Text) (v : Json) (ms : Members) (p : Path) → field_faults fs (member n v ms) p ≡ []
    → (field_faults fs ms p ≡ []) × ((ns : Members) → field_faults fs ns p ≡ [] → field_faults fs (member n v ns) p ≡ [])
member-join fs n v ms p e =
    let now = member-now fs n v ms p e in (
      nil_second (member_test n v p (kind_of n fs)) _ now,
      λ ns f. ap (λ xs. xs ++ field_faults fs ns p) (member_test-is n v p (kind_of n fs))
          ∙ nil-both (member_test n v p (kind_of n fs)) _ (nil_first (member_test n v p (kind_of n fs)) _ now) f,
    )

-- where entries have no fault, the value of the first has none
pub entry-first : (k : Kind) (n : Text) (v : Json) (ms : Members) → EntriesFit k (member n v ms) → Fits k v
entry-first k n v ms h = (h.0 ++ field n ∷ [], nil_first _ (entry_faults k ms h.0) h.1)

-- and the entries behind the first have none
pub entry-rest : (k : Kind) (n : Text) (v : Json) (ms : Members) → EntriesFit k (member n v ms) → EntriesFit k ms
entry-rest k n v ms h = (h.0, nil_second (faults k v (h.0 ++ field n ∷ [])) (entry_faults k ms h.0) h.1)

-- ---- items of sets

or-first : {X : Type 0} (xs ys : List X) → or_else xs ys ≡ [] → xs ≡ []
or-first [] ys e = refl
or-first (x ∷ xs) ys e = absurd (cons≢nil e)

-- the items of a set have no fault behind some earlier ones
abbrev pub ValuesFitAfter : ScalarKind → Items → Type 0
ValuesFitAfter k vs = (earlier : List Element) × ((p : Path) × (value_faults k earlier vs p ≡ []))

value_test : ScalarKind → List Element → Scalar → Path → List FaultAt
value_test k earlier s p = or_else (fault_unless (is_of k s) wrong_type p) (fault_unless (not (is_among (value s) earlier)) duplicate_item (p ++ value s ∷ []))

-- a scalar among the items is of their kind
pub value-is_of : (k : ScalarKind) (s : Scalar) (vs : Items) → ValuesFitAfter k (item (scalar s) vs) → is_of k s ≡ true
unfolding value_test
value-is_of k s vs h = unless-true (is_of k s) wrong_type h.1.0
    (or-first (fault_unless (is_of k s) wrong_type h.1.0) _ (nil_first (value_test k h.0 s h.1.0) _ h.1.1))

-- and then those behind the first have none
pub value-rest : (k : ScalarKind) (v : Json) (vs : Items) → ValuesFitAfter k (item v vs) → ValuesFitAfter k vs
unfolding value_test
value-rest k (scalar s) vs h = (value s ∷ h.0, (h.1.0, nil_second (value_test k h.0 s h.1.0) _ h.1.1))
value-rest k (list ws) vs h = absurd (cons≢nil h.1.1)
value-rest k (object ms) vs h = absurd (cons≢nil h.1.1)

-- ---- items of map lists

-- the items of a map list have no fault behind some earlier ones
abbrev pub ItemsFitAfter : List Text → Fields → Items → Type 0
ItemsFitAfter ns fs vs = (earlier : List Element) × ((p : Path) × (item_faults ns fs earlier vs p ≡ []))

or-second : {X : Type 0} (xs ys : List X) → or_else xs ys ≡ [] → ys ≡ []
or-second [] ys e = e
or-second (x ∷ xs) ys e = absurd (cons≢nil e)

new-item : (b : Bool) (f : FaultAt) (fs : List FaultAt) → (if b then f ∷ [] else fs) ≡ [] → (b ≡ false) × (fs ≡ [])
new-item true f fs e = absurd (cons≢nil e)
new-item false f fs e = (refl, e)

item_test : List Text → Fields → List Element → Members → Path → List FaultAt
item_test ns fs earlier ms p =
    or_else (key_faults ns fs ms p) (if is_among (item_key ns ms) earlier then fault_at duplicate_item (p ++ item_key ns ms ∷ [])
    ∷ [] else field_faults fs ms (p ++ item_key ns ms ∷ []))

item-now : (ns : List Text) (fs : Fields) (earlier : List Element) (ms : Members) (vs : Items) (p : Path)
    → item_faults ns fs earlier (item (object ms) vs) p ≡ [] → item_test ns fs earlier ms p ≡ []
unfolding item_test
item-now ns fs earlier ms vs p e = nil_first (item_test ns fs earlier ms p) (item_faults ns fs (item_key ns ms ∷ earlier) vs p) e

item-new : (ns : List Text) (fs : Fields) (earlier : List Element) (ms : Members) (p : Path) → item_test ns fs earlier ms p ≡ []
    → (is_among (item_key ns ms) earlier ≡ false) × (field_faults fs ms (p ++ item_key ns ms ∷ []) ≡ [])
unfolding item_test
item-new ns fs earlier ms p e = new-item (is_among (item_key ns ms) earlier) _ (field_faults fs ms (p ++ item_key ns ms ∷ []))
    (or-second (key_faults ns fs ms p) _ e)

item-keys : (ns : List Text) (fs : Fields) (earlier : List Element) (ms : Members) (p : Path) → item_test ns fs earlier ms p ≡ [] → key_faults ns fs ms p ≡ []
unfolding item_test
item-keys ns fs earlier ms p e = or-first (key_faults ns fs ms p) _ e

-- an item that is an object has its key fields, and its fields fit
pub item-parts : (ns : List Text) (fs : Fields) (ms : Members) (vs : Items) → ItemsFitAfter ns fs (item (object ms) vs) → KeysFit ns fs ms × FieldsFit fs ms
item-parts ns fs ms vs h =
    let now = item-now ns fs h.0 ms vs h.1.0 h.1.1 in
    ((h.1.0, item-keys ns fs h.0 ms h.1.0 now), (h.1.0 ++ item_key ns ms ∷ [], (item-new ns fs h.0 ms h.1.0 now).1))

-- and then the first is an object that has its key fields and fits
pub item-first : (ns : List Text) (fs : Fields) (v : Json) (vs : Items) → ItemsFitAfter ns fs (item v vs) → ItemFits ns fs v
item-first ns fs (scalar s) vs h = absurd (cons≢nil h.1.1)
item-first ns fs (list ws) vs h = absurd (cons≢nil h.1.1)
item-first ns fs (object ms) vs h =
    (ms, (refl, item-parts ns fs ms vs h))

-- and those behind the first have no fault behind some earlier ones
pub item-rest : (ns : List Text) (fs : Fields) (v : Json) (vs : Items) → ItemsFitAfter ns fs (item v vs) → ItemsFitAfter ns fs vs
unfolding item_test
item-rest ns fs (scalar s) vs h = absurd (cons≢nil h.1.1)
item-rest ns fs (list ws) vs h = absurd (cons≢nil h.1.1)
item-rest ns fs (object ms) vs h = (item_key ns ms ∷ h.0, (h.1.0, nil_second (item_test ns fs h.0 ms h.1.0) _ h.1.1))

-- ---- no item stands twice

-- each differs from those before it and from the earlier ones
are_new : List Element → List Element → Bool
are_new earlier [] = true
are_new earlier (e ∷ es) = not (is_among e earlier) && are_new (e ∷ earlier) es

values-new : (k : ScalarKind) (earlier : List Element) (vs : Items) (p : Path) → value_faults k earlier vs p ≡ [] → are_new earlier (value_order vs) ≡ true
unfolding are_new value_test
values-new k earlier no_items p e = refl
values-new k earlier (item (scalar s) vs) p e =
    both-true _ _ (unless-true (not (is_among (value s) earlier)) duplicate_item (p ++ value s ∷ [])
    (or-second (fault_unless (is_of k s) wrong_type p) _ (nil_first (value_test k earlier s p) _ e)))
    (values-new k (value s ∷ earlier) vs p (nil_second (value_test k earlier s p) _ e))
values-new k earlier (item (list ws) vs) p e = absurd (cons≢nil e)
values-new k earlier (item (object ms) vs) p e = absurd (cons≢nil e)

items-new : (ns : List Text) (fs : Fields) (earlier : List Element) (vs : Items) (p : Path) → item_faults ns fs earlier vs p ≡ []
    → are_new earlier (key_order ns vs) ≡ true
unfolding are_new item_test
items-new ns fs earlier no_items p e = refl
items-new ns fs earlier (item (scalar s) vs) p e = absurd (cons≢nil e)
items-new ns fs earlier (item (list ws) vs) p e = absurd (cons≢nil e)
items-new ns fs earlier (item (object ms) vs) p e =
    both-true _ _ (ap not (item-new ns fs earlier ms p (item-now ns fs earlier ms vs p e)).0)
    (items-new ns fs (item_key ns ms ∷ earlier) vs p (nil_second (item_test ns fs earlier ms p) _ e))

not-both : (a b : Bool) → (a ≡ true → b ≡ true) → b ≡ false → a ≡ false
not-both true b h e = absurd (true≢false (sym (h refl) ∙ e))
not-both false b h e = refl

-- what is new after e differs from e
new-differs : (e : Element) (earlier es : List Element) → is_among e earlier ≡ true → are_new earlier es ≡ true → list_any (same_element e) es ≡ false
unfolding are_new
new-differs e earlier [] among h = refl
new-differs e earlier (f ∷ es) among h =
    let other : same_element e f ≡ false = not-both (same_element e f) (is_among f earlier) (λ t. ap (λ x. is_among x earlier) (sym (same_element-true e f t))
    ∙ among) (no _ (first_so _ _ h)) in
    let rest : list_any (same_element e) es ≡ false = new-differs e (f ∷ earlier) es (or_true (same_element e f) _ among) (second_so _ _ h) in
    (λ i. other i || rest i)

new-distinct : (earlier es : List Element) → are_new earlier es ≡ true → are_distinct es ≡ true
unfolding are_new
new-distinct earlier [] h = refl
new-distinct earlier (e ∷ es) h =
    both-true _ _ (ap not (new-differs e (e ∷ earlier) es (ap (λ b. b || is_among e earlier) (element-itself e)) (second_so _ _ h)))
    (new-distinct (e ∷ earlier) es (second_so _ _ h))

-- no item of a set without faults stands twice
pub values-distinct : (k : ScalarKind) (vs : Items) → ValuesFit k vs → are_distinct (value_order vs) ≡ true
values-distinct k vs h = new-distinct [] (value_order vs) (values-new k [] vs h.0 h.1)

-- no two items of a map list without faults have one key
pub items-distinct : (ns : List Text) (fs : Fields) (vs : Items) → ItemsFit ns fs vs → are_distinct (key_order ns vs) ≡ true
items-distinct ns fs vs h = new-distinct [] (key_order ns vs) (items-new ns fs [] vs h.0 h.1)
