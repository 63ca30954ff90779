-- The items that have keys: their keys are equal where their elements are.
use Rattle.std.proofs.Common.{◌≡◌, ℕ, ◌+◌, ◌<◌, length, get_or, drop, arith, List, [], ◌∷◌, map, Bool, true, false, not, ◌||◌, Option, Some, None, refl, sym, ap, ap₂, ◌∙◌, subst, true≢false}
use Rattle.std.specs.Prelude.{⊤, ◌==◌, is_some, option_map, if◌then◌else◌}
use Rattle.std.proofs.lemmas.Bool.Decides.{nat_tests}
use Rattle.std.specs.List.{list_any}
use Rattle.std.specs.Ordering.{is_eq, eq_by_cmp}
use Rattle.std.specs.Cmp.{Equal-is, tied_itself, both_ways}
use Rattle.ssa_members.specs.Members.{Members as Entries}
use Rattle.ssa_model.specs.definitions.Json.{Text, Scalar, Json, scalar, list, object, Items, no_items, item, Members, member_of}
use Rattle.ssa_model.specs.definitions.Path.{Element, value, key, Path, same_element}
use Rattle.ssa_model.specs.definitions.Kind.{ScalarKind, Fields, kind_of, FaultAt, item_key, key_scalars, cons_scalar, key_field_fault, key_faults, is_among}
use Rattle.ssa_model.proofs.Faults.{nil_first, nil_second}
use Rattle.ssa_model.proofs.FaultlessKeys.{key-field}
use Rattle.ssa_json.specs.View.{view, items_view, members_view}
use Rattle.ssa_json.specs.declared.value.Json as json
use Rattle.ssa_json.proofs.Views.{view-Object}
use Rattle.ssa_schema.specs.Finds.{scalar_of, scalar_in}
use Rattle.ssa_schema.specs.Refusals.{first_of}
use Rattle.ssa_schema.specs.Repeats.{Row, scalar_cmp, row_cmp, same_row, repeat_from, is_other, value_rows, leading_values, cons_row, key_row, item_rows, leading_keys}
use Rattle.ssa_schema.proofs.Finding.{item_split}
use Rattle.ssa_schema.proofs.Rows.{row_cmp_total, row-exact}
use Rattle.ssa_model.proofs.Fitting.{same_element-true}
use Rattle.ssa_model.proofs.Tables.{element-itself as same_element-itself}
use Rattle.ssa_model.proofs.Basics.{then_none}

-- ---- the first that repeats, among what stands for others

abbrev Each : {A : Type 0} → (A → Type 0) → List A → Type 0
Each P [] = ⊤
Each P (x ∷ xs) = P x × Each P xs

module _ {A B : Type 0} (f : A → B) (same : A → A → Bool) (alike : B → B → Bool) (P : A → Type 0)
    (agree : (a b : A) → P a → P b → alike (f a) (f b) ≡ same a b) where
  any-alike : (a : A) (bs : List A) → P a → Each P bs → list_any (alike (f a)) (map f bs) ≡ list_any (same a) bs
  any-alike a [] here all = refl
  any-alike a (b ∷ bs) here all = ap₂ (λ s t. s || t) (agree a b here all.0) (any-alike a bs here all.1)

  repeat-alike : (k : ℕ) (before xs : List A) → Each P before → Each P xs → repeat_from alike k (map f before) (map f xs) ≡ repeat_from same k before xs
  repeat-alike k before [] front all = refl
  repeat-alike k before (x ∷ xs) front all =
      ap₂ (λ b (o : Option ℕ). if b then Some k else o) (any-alike x before all.0 front) (repeat-alike (k + 1) (x ∷ before) xs (all.0, front) all.1)

-- ---- items of a set

abbrev scalars : ScalarKind → Items → List Scalar
scalars k no_items = []
scalars k (item v vs) = elim (scalar_of k v) [ None ↦ [] | Some s ↦ s ∷ scalars k vs ]

abbrev single : Scalar → Row
single s = s ∷ []

rows-single : (k : ScalarKind) (vs : Items) → value_rows k vs ≡ map single (scalars k vs)
rows-single k no_items = refl
rows-single k (item v vs) = elim (scalar_of k v) as
    (λ (o : Option Scalar). elim o [ None ↦ [] | Some s ↦ single s ∷ value_rows k vs ] ≡ map single (elim o [ None ↦ [] | Some s ↦ s ∷ scalars k vs ])) [
      | None ↦ refl
      | Some s ↦ ap (λ rs. single s ∷ rs) (rows-single k vs)
    ]

values-scalars : (k : ScalarKind) (vs : Items) → leading_values k vs ≡ map value (scalars k vs)
values-scalars k no_items = refl
values-scalars k (item v vs) = elim (scalar_of k v) as
    (λ (o : Option Scalar). elim o [ None ↦ [] | Some s ↦ value s ∷ leading_values k vs ] ≡ map value (elim o [ None ↦ [] | Some s ↦ s ∷ scalars k vs ])) [
      | None ↦ refl
      | Some s ↦ ap (λ es. value s ∷ es) (values-scalars k vs)
    ]

abbrev same_value : Scalar → Scalar → Bool
same_value = eq_by_cmp scalar_cmp

each-any : {A : Type 0} (xs : List A) → Each (λ x. ⊤) xs
each-any [] = tt
each-any (x ∷ xs) = (tt, each-any xs)

row-single : (a b : Scalar) → same_row (single a) (single b) ≡ same_value a b
row-single a b = ap is_eq (then_none (scalar_cmp a b))

-- among the values of a set, the first scalar that repeats is the first element that does
pub values-repeat : (k : ScalarKind) (vs : Items) → repeat_from same_row 0 [] (value_rows k vs) ≡ repeat_from same_element 0 [] (leading_values k vs)
values-repeat k vs =
    let ss = scalars k vs in
    ap (repeat_from same_row 0 []) (rows-single k vs)
    ∙ repeat-alike single same_value same_row (λ s. ⊤) (λ a b p q. row-single a b) 0 [] ss tt (each-any ss)
    ∙ sym (repeat-alike value same_value same_element (λ s. ⊤) (λ a b p q. refl) 0 [] ss tt (each-any ss))
    ∙ ap (repeat_from same_element 0 []) (sym (values-scalars k vs))

-- ---- items of a map list

abbrev pairs : List Text → Row → List (Text × Scalar)
pairs [] r = []
pairs (n ∷ ns) [] = []
pairs (n ∷ ns) (s ∷ r) = (n, s) ∷ pairs ns r

-- a scalar for each name
abbrev Fits : List Text → Row → Type 0
Fits [] [] = ⊤
Fits (n ∷ ns) (s ∷ r) = Fits ns r
Fits _ _ = ⊥

first-scalar : (n : Text) (s t : Scalar) (ks ls : List (Text × Scalar)) → (n, s) ∷ ks ≡ (n, t) ∷ ls → s ≡ t
first-scalar n s t ks ls e = let one : ◌≡◌ {A = Text × Scalar} (n, s) (n, t) = cc in ap (λ (k : Text × Scalar). k.1) one

other-scalars : (n : Text) (s t : Scalar) (ks ls : List (Text × Scalar)) → (n, s) ∷ ks ≡ (n, t) ∷ ls → ks ≡ ls
other-scalars n s t ks ls e = cc

pairs-same : (ns : List Text) (r q : Row) → Fits ns r → Fits ns q → pairs ns r ≡ pairs ns q → r ≡ q
pairs-same [] [] [] f g e = refl
pairs-same [] [] (t ∷ q) f g e = absurd g
pairs-same [] (s ∷ r) q f g e = absurd f
pairs-same (n ∷ ns) [] q f g e = absurd f
pairs-same (n ∷ ns) (s ∷ r) [] f g e = absurd g
pairs-same (n ∷ ns) (s ∷ r) (t ∷ q) f g e = ap₂ (λ a b. a ∷ b) (first-scalar n s t (pairs ns r) (pairs ns q) e)
    (pairs-same ns r q f g (other-scalars n s t (pairs ns r) (pairs ns q) e))

abbrev row_key : List Text → Row → Element
row_key names r = key (pairs names r)

same-pairs : (ks ls : List (Text × Scalar)) → key ks ≡ key ls → ks ≡ ls
same-pairs ks ls e = cc

keys-agree : (names : List Text) (r q : Row) → Fits names r → Fits names q → same_element (row_key names r) (row_key names q) ≡ same_row r q
keys-agree names r q f g =
    both_ways _ _
    (λ e. ap (same_row r) (sym (pairs-same names r q f g (same-pairs _ _ (same_element-true (row_key names r) (row_key names q) e))))
    ∙ ap is_eq (tied_itself row_cmp_total r))
    (λ e. ap (λ x. same_element (row_key names r) (row_key names x)) (sym (row-exact r q ((Equal-is (row_cmp r q)).0 e)))
    ∙ same_element-itself (row_key names r))

-- a row of an object has a scalar for each name, and they are its key
record IsRow (names : List Text) (ms : Members) (r : Row) : Type 0 where
  fits : Fits names r
  own : key_scalars names ms ≡ pairs names r

some-row : (r q : Row) → ◌≡◌ {A = Option Row} (Some r) (Some q) → r ≡ q
some-row r q e = cc

no-row : (r : Row) → ◌≡◌ {A = Option Row} None (Some r) → ⊥
no-row r e = cc

scalar-there : (o : Option Json) (s : Scalar) → scalar_in o ≡ Some s → o ≡ Some (scalar s)
scalar-there None s e = cc
scalar-there (Some (scalar t)) s e = let is : t ≡ s = cc in ap (λ u. Some (scalar u)) is
scalar-there (Some (list vs)) s e = cc
scalar-there (Some (object ms)) s e = cc

is-row : (names : List Text) (ms : Members) (r : Row) → key_row names ms ≡ Some r → IsRow names ms r
is-row [] ms r e = subst (IsRow [] ms) (some-row [] r e) (record { fits = tt; own = refl })
is-row (n ∷ ns) ms r e =
    elim (scalar_in (member_of n ms)) as (λ o. scalar_in (member_of n ms) ≡ o → cons_row o (key_row ns ms) ≡ Some r → IsRow (n ∷ ns) ms r) [
      | None ↦ λ h k. absurd (no-row r k)
      | Some s ↦ λ h. elim (key_row ns ms) as (λ o. key_row ns ms ≡ o → cons_row (Some s) o ≡ Some r → IsRow (n ∷ ns) ms r) [
        | None ↦ λ g k. absurd (no-row r k)
        | Some q ↦ λ g k.
            let rest = is-row ns ms q g in
            subst (IsRow (n ∷ ns) ms) (some-row (s ∷ q) r k)
            (record {
              fits = rest.fits;
              own = ap (λ o. cons_scalar n o (key_scalars ns ms)) (scalar-there (member_of n ms) s h)
                  ∙ ap (λ ks. (n, s) ∷ ks) rest.own;
            })
      ] refl
    ] refl e

-- the elements of the items are those of their rows
record AreRows (names : List Text) (vs : Items) : Type 0 where
  fit : Each (Fits names) (item_rows names vs)
  own : leading_keys names vs ≡ map (row_key names) (item_rows names vs)

are-rows : (names : List Text) (vs : Items) → AreRows names vs
are-rows names no_items = record { fit = tt; own = refl }
are-rows names (item (scalar s) vs) = record { fit = tt; own = refl }
are-rows names (item (list ws) vs) = record { fit = tt; own = refl }
are-rows names (item (object ms) vs) =
    let rest = are-rows names vs in
    let rows = elim (key_row names ms) as (λ (o : Option Row). List Row) [ None ↦ [] | Some r ↦ r ∷ item_rows names vs ] in
    elim (key_row names ms) as (λ (o : Option Row). key_row names ms ≡ o → AreRows names (item (object ms) vs)) [
      | None ↦ λ h. record {
        fit = subst (λ (o : Option Row). Each (Fits names) (elim o [ None ↦ [] | Some r ↦ r ∷ item_rows names vs ])) (sym h) tt;
        own = (λ i. elim (option_map (λ (r : Row). item_key names ms) (h i)) [ None ↦ [] | Some e ↦ e ∷ leading_keys names vs ])
            ∙ (λ i. map (row_key names) (elim (sym h i) [ None ↦ [] | Some r ↦ r ∷ item_rows names vs ]));
      }
      | Some q ↦ λ h.
          let is = is-row names ms q h in
          record {
            fit = subst (λ (o : Option Row). Each (Fits names) (elim o [ None ↦ [] | Some r ↦ r ∷ item_rows names vs ])) (sym h) (is.fits, rest.fit);
            own = (λ i. elim (option_map (λ (r : Row). item_key names ms) (h i)) [ None ↦ [] | Some e ↦ e ∷ leading_keys names vs ])
                ∙ ap₂ (λ ks es. key ks ∷ es) is.own rest.own
                ∙ (λ i. map (row_key names) (elim (sym h i) [ None ↦ [] | Some r ↦ r ∷ item_rows names vs ]));
          }
    ] refl

-- among the items of a map list, the first keys that repeat are the first element that does
pub keys-repeat : (names : List Text) (vs : Items) → repeat_from same_row 0 [] (item_rows names vs) ≡ repeat_from same_element 0 [] (leading_keys names vs)
keys-repeat names vs =
    let rows = are-rows names vs in
    sym (repeat-alike (row_key names) same_row same_element (Fits names) (keys-agree names) 0 [] (item_rows names vs) tt rows.fit)
    ∙ ap (repeat_from same_element 0 []) (sym rows.own)

-- ---- one step of the walk

not-itself : (k : ℕ) → not (k == k) ≡ false
not-itself k = grind (arith, nat_tests)

not-below : (j k : ℕ) → k < j → not (j == k) ≡ true
not-below j k h = grind (arith, nat_tests)

other-later : (j k : ℕ) (before es : List Element) → k < j → is_other (repeat_from same_element j before es) k ≡ true
other-later j k before [] h = refl
other-later j k before (e ∷ es) h =
    elim (list_any (same_element e) before) as (λ b. is_other (if b then Some j else repeat_from same_element (j + 1) (e ∷ before) es) k ≡ true) [
      | true ↦ not-below j k h
      | false ↦ other-later (j + 1) k (e ∷ before) es (omega arith)
    ]

-- an element is new exactly where the first that repeats is not at its place
pub other-test : (k : ℕ) (e : Element) (before es : List Element) (found : Option ℕ) (is_new : Bool) → repeat_from same_element k before (e ∷ es) ≡ found
    → is_new ≡ is_other found k → is_new ≡ not (is_among e before)
other-test k e before es found is_new is test =
    elim (list_any (same_element e) before) as (λ b. (if b then Some k else repeat_from same_element (k + 1) (e ∷ before) es) ≡ found → is_new ≡ not b) [
      | true ↦ λ h. test ∙ ap (λ o. is_other o k) (sym h) ∙ not-itself k
      | false ↦ λ h. test ∙ ap (λ o. is_other o k) (sym h) ∙ other-later (k + 1) k (e ∷ before) es (omega arith)
    ] is

-- behind an element that is new, the first that repeats is the same
pub repeat-next : (k : ℕ) (e : Element) (before es : List Element) (found : Option ℕ) → repeat_from same_element k before (e ∷ es) ≡ found
    → true ≡ not (is_among e before) → repeat_from same_element (k + 1) (e ∷ before) es ≡ found
repeat-next k e before es found is new =
    elim (list_any (same_element e) before) as
    (λ b. (if b then Some k else repeat_from same_element (k + 1) (e ∷ before) es) ≡ found → true ≡ not b
    → repeat_from same_element (k + 1) (e ∷ before) es ≡ found) [
      | true ↦ λ h n. absurd (true≢false n)
      | false ↦ λ h n. h
    ] is new

-- ---- the item at an index, in front of those after it

-- from the place of a scalar on, the leading values are its own and those of the next places
pub lead-value : (k : ScalarKind) (xs : List json.Json) (i : ℕ) (x : json.Json) (s : Scalar) → i < length xs → x ≡ get_or xs i x → scalar_of k (view x) ≡ Some s
    → leading_values k (items_view (drop i xs)) ≡ value s ∷ leading_values k (items_view (drop (i + 1) xs))
lead-value k xs i x s within is e =
    ap (λ es. leading_values k (items_view es)) (item_split xs i x within is)
    ∙ ap (λ (o : Option Scalar). elim o [ None ↦ [] | Some t ↦ value t ∷ leading_values k (items_view (drop (i + 1) xs)) ]) e

no-faults : (xs : List FaultAt) → None ≡ first_of xs → xs ≡ []
no-faults [] e = refl
no-faults (x ∷ xs) e = absurd (true≢false (sym (ap is_some e)))

-- an item whose keys are right has a scalar under each key's name
abbrev RowThere : List Text → Members → Type 0
RowThere names ms = (r : Row) × (key_row names ms ≡ Some r)

row-there : (names : List Text) (fs : Fields) (ms : Members) (p : Path) → key_faults names fs ms p ≡ [] → RowThere names ms
row-there [] fs ms p e = ([], refl)
row-there (n ∷ ns) fs ms p e =
    let here = key-field (kind_of n fs) (member_of n ms) p (nil_first _ _ e) in
    let rest = row-there ns fs ms p (nil_second (key_field_fault (kind_of n fs) (member_of n ms) p) _ e) in
    (here.own ∷ rest.0, ap₂ cons_row (ap scalar_in here.is_own) rest.1)

-- where an object has its keys, the leading keys are its own and those of the items behind it
pub lead-first : (names : List Text) (fs : Fields) (ms : Members) (rest : Items) (p : Path) → None ≡ first_of (key_faults names fs ms p)
    → leading_keys names (item (object ms) rest) ≡ item_key names ms ∷ leading_keys names rest
lead-first names fs ms rest p right =
    ap (λ (o : Option Row). elim (option_map (λ (r : Row). item_key names ms) o) [ None ↦ [] | Some e ↦ e ∷ leading_keys names rest ])
    (row-there names fs ms p (no-faults _ right)).1

-- from the place of an object with its keys on, the leading keys are its own and those of the next places
pub lead-key : (names : List Text) (fs : Fields) (xs : List json.Json) (i : ℕ) (x : json.Json) (m : Entries json.Json) → i < length xs
    → x ≡ get_or xs i x → x ≡ json.Object m → None ≡ first_of (key_faults names fs (members_view m.entries) [])
    → leading_keys names (items_view (drop i xs)) ≡ item_key names (members_view m.entries) ∷ leading_keys names (items_view (drop (i + 1) xs))
lead-key names fs xs i x m within is here right =
    ap (λ es. leading_keys names (items_view es)) (item_split xs i x within is)
    ∙ ap (λ v. leading_keys names (item v (items_view (drop (i + 1) xs)))) (ap view here ∙ view-Object m)
    ∙ lead-first names fs (members_view m.entries) (items_view (drop (i + 1) xs)) [] right
