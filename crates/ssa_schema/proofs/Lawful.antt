-- The kinds of schemas without faults: objects with fields at the root, and key fields in each map list.
use Rattle.std.proofs.Common.{◌≡◌, ℕ, zero, suc, List, [], ◌∷◌, Bool, true, false, not, ◌&&◌, ◌||◌, refl, sym, ap, ◌∙◌, true≢false}
use Rattle.std.specs.Prelude.{Option, None, Some, Result, Ok, Err, option_and_then, is_some, codes, if◌then◌else◌}
use Rattle.std.specs.List.{list_any}
use Rattle.std.specs.declared.cmp.Ordering.{Ordering}
use Rattle.std.specs.declared.cmp.Ordering.TheVariants.{Less, Equal, Greater}
use Rattle.std.specs.Ordering.{is_lt, is_eq, nat_cmp}
use Rattle.std.specs.Cmp.Lexicographic.{slice_cmp}
use Rattle.std.proofs.lemmas.Cmp.{nat_list_cmp_total}
use Rattle.ssa_model.specs.definitions.Limits.{most_levels}
use Rattle.ssa_model.specs.definitions.Json.{Text, Json, scalar, list, object, Members, no_members, member, member_of, same_text, as_text}
use Rattle.ssa_model.specs.definitions.Kind as kinds
use Rattle.ssa_model.proofs.Faults.{cons≢nil, is_nil, nil_first, nil_second}
use Rattle.ssa_model.proofs.SchemaMembers.{behind, no-fault}
use Rattle.ssa_model.proofs.Tables.{same_text-true}
use Rattle.ssa_path.proofs.Orders.{both_first, both_second}
use Rattle.ssa_model.specs.definitions.Schema as model
use Rattle.ssa_model.specs.definitions.Lawful.{names_rise_after, are_key_names, is_keyed, are_keyed, is_record, is_root_kind}
use Rattle.ssa_model.proofs.Basics.{not_false, both-true as both, first_false, second_false}

-- ---- sorted names rise

-- the name is below the first of these, if there is one
is_below : Text → List Text → Bool
is_below n [] = true
is_below n (m ∷ ms) = is_lt (slice_cmp nat_cmp n m)

rise : List Text → Bool
rise [] = true
rise (n ∷ ns) = names_rise_after n ns

rises-of : (n : Text) (ns : List Text) → is_below n ns ≡ true → rise ns ≡ true → names_rise_after n ns ≡ true
unfolding is_below rise
rises-of n [] b r = refl
rises-of n (m ∷ ms) b r = both _ _ b r

below-of : (n : Text) (ns : List Text) → names_rise_after n ns ≡ true → is_below n ns ≡ true
unfolding is_below
below-of n [] h = refl
below-of n (m ∷ ms) h = both_first _ _ h

rest-rises : (n : Text) (ns : List Text) → names_rise_after n ns ≡ true → rise ns ≡ true
unfolding rise
rest-rises n [] h = refl
rest-rises n (m ∷ ms) h = both_second (is_lt (slice_cmp nat_cmp n m)) _ h

lower_of : (o : Ordering) → o ≡ Less → is_lt o ≡ true
lower_of o e = ap is_lt e

turned : (t u : Text) → slice_cmp nat_cmp t u ≡ Greater → is_lt (slice_cmp nat_cmp u t) ≡ true
turned t u e = ap is_lt (nat_list_cmp_total.antisymm u t ∙ ap Rattle.std.specs.Ordering.ordering_reverse e)

-- a text put among others, told by how it compares with the first of them
put : Text → Text → List Text → Ordering → List Text
put t u us Less = t ∷ u ∷ us
put t u us Equal = u ∷ us
put t u us Greater = u ∷ model.with_text t us

put-is : (t u : Text) (us : List Text) → model.with_text t (u ∷ us) ≡ put t u us (slice_cmp nat_cmp t u)
unfolding put
put-is t u us = by (slice_cmp nat_cmp t u)
  where
    by : (o : Ordering) → ◌≡◌ {A = List Text} (elim o [ Less ↦ t ∷ u ∷ us | Equal ↦ u ∷ us | Greater ↦ u ∷ model.with_text t us ]) (put t u us o)
    by Less = refl
    by Equal = refl
    by Greater = refl

below-put : (n t u : Text) (us : List Text) (o : Ordering) → is_lt (slice_cmp nat_cmp n t) ≡ true → is_lt (slice_cmp nat_cmp n u) ≡ true
    → is_below n (put t u us o) ≡ true
unfolding put is_below
below-put n t u us Less a b = a
below-put n t u us Equal a b = b
below-put n t u us Greater a b = b

below-with : (n t : Text) (us : List Text) → is_lt (slice_cmp nat_cmp n t) ≡ true → is_below n us ≡ true → is_below n (model.with_text t us) ≡ true
unfolding is_below
below-with n t [] a b = a
below-with n t (u ∷ us) a b = ap (is_below n) (put-is t u us) ∙ below-put n t u us (slice_cmp nat_cmp t u) a b

put-rises : (t u : Text) (us : List Text) (o : Ordering) → slice_cmp nat_cmp t u ≡ o → names_rise_after u us ≡ true
    → (rise us ≡ true → rise (model.with_text t us) ≡ true) → rise (put t u us o) ≡ true
unfolding put rise
put-rises t u us Less is h more = both _ _ (lower_of _ is) h
put-rises t u us Equal is h more = h
put-rises t u us Greater is h more = rises-of u (model.with_text t us) (below-with u t us (turned t u is) (below-of u us h)) (more (rest-rises u us h))

with-rises : (t : Text) (us : List Text) → rise us ≡ true → rise (model.with_text t us) ≡ true
unfolding rise
with-rises t [] h = refl
with-rises t (u ∷ us) h = ap rise (put-is t u us) ∙ put-rises t u us (slice_cmp nat_cmp t u) refl h (with-rises t us)

sorted-rises : (ts : List Text) → rise (model.sorted_texts ts) ≡ true
unfolding rise
sorted-rises [] = refl
sorted-rises (t ∷ ts) = with-rises t (model.sorted_texts ts) (sorted-rises ts)

put-some : (t u : Text) (us : List Text) (o : Ordering) → is_nil (put t u us o) ≡ false
unfolding put is_nil
put-some t u us Less = refl
put-some t u us Equal = refl
put-some t u us Greater = refl

with-some : (t : Text) (us : List Text) → is_nil (model.with_text t us) ≡ false
unfolding is_nil
with-some t [] = refl
with-some t (u ∷ us) = ap is_nil (put-is t u us) ∙ put-some t u us (slice_cmp nat_cmp t u)

keys-of : (ns : List Text) → is_nil ns ≡ false → rise ns ≡ true → are_key_names ns ≡ true
unfolding is_nil rise
keys-of [] some h = absurd (true≢false some)
keys-of (n ∷ ns) some h = h

-- some texts, sorted, are names of keys: they rise, and there is at least one
pub sorted-keys : (t : Text) (ts : List Text) → are_key_names (model.sorted_texts (t ∷ ts)) ≡ true
sorted-keys t ts = keys-of (model.sorted_texts (t ∷ ts)) (with-some t (model.sorted_texts ts)) (sorted-rises (t ∷ ts))

-- ---- which list type

eq_turned : (o : Ordering) → is_eq (Rattle.std.specs.Ordering.ordering_reverse o) ≡ is_eq o
eq_turned Less = refl
eq_turned Equal = refl
eq_turned Greater = refl

-- whether two texts are the same is told in either order
pub same_turned : (t u : Text) → same_text t u ≡ same_text u t
same_turned t u = ap is_eq (nat_list_cmp_total.antisymm t u) ∙ eq_turned (slice_cmp nat_cmp u t)

third : (a b c u : Text) → (same_text u a || (same_text u b || (same_text u c || false))) ≡ true → same_text a u ≡ false → same_text b u ≡ false
    → same_text c u ≡ true
third a b c u h not_a not_b =
    same_turned c u ∙ last (same_text u c) (sym (λ i. (same_turned u a ∙ not_a) i || ((same_turned u b ∙ not_b) i || (same_text u c || false))) ∙ h)
  where
    last : (x : Bool) → (x || false) ≡ true → x ≡ true
    last true e = refl
    last false e = e

-- the member is the text
is_it : Text → Option Json → Bool
is_it t o = elim (option_and_then as_text o) [ None ↦ false | Some u ↦ same_text t u ]

list_types : List Text
list_types = codes "atomic" ∷ codes "set" ∷ codes "map" ∷ []

map-type : (o : Option Json) → is_some o ≡ true → model.if_given (model.is_text_among list_types) o ≡ true → is_it (codes "atomic") o ≡ false
    → is_it (codes "set") o ≡ false → is_it (codes "map") o ≡ true
unfolding is_it list_types
map-type None some among a s = absurd (true≢false (sym some))
map-type (Some (scalar (Rattle.ssa_model.specs.definitions.Json.text u))) some among a s = third (codes "atomic") (codes "set") (codes "map") u among a s
map-type (Some (scalar (Rattle.ssa_model.specs.definitions.Json.whole z))) some among a s = absurd (true≢false (sym among))
map-type (Some (scalar (Rattle.ssa_model.specs.definitions.Json.truth b))) some among a s = absurd (true≢false (sym among))
map-type (Some (list vs)) some among a s = absurd (true≢false (sym among))
map-type (Some (object ms)) some among a s = absurd (true≢false (sym among))

-- ---- the keys of a map list

names_in : Option Json → List Text
names_in o = elim (option_and_then model.list_of_texts o) [ None ↦ [] | Some ts ↦ ts ]

lacks_keys : Option Json → Bool
lacks_keys o = elim o [ None ↦ true | Some v ↦ not (model.is_key_list v) ]

keys-in : (r : Option (List Text)) → (elim r [ None ↦ false | Some ts ↦ model.are_keys ts ]) ≡ true
    → are_key_names (model.sorted_texts (elim r [ None ↦ [] | Some ts ↦ ts ])) ≡ true
keys-in None h = absurd (true≢false (sym h))
keys-in (Some []) h = absurd (true≢false (sym h))
keys-in (Some (t ∷ ts)) h = sorted-keys t ts

keys-there : (o : Option Json) → lacks_keys o ≡ false → are_key_names (model.sorted_texts (names_in o)) ≡ true
unfolding lacks_keys names_in
keys-there None h = absurd (true≢false h)
keys-there (Some v) h = keys-in (model.list_of_texts v) (not_false (model.is_key_list v) h)

module _ (s : model.Standing) (ms : Members) (no_shape : model.has_wrong_shape s ms ≡ false) (no_keys : model.has_wrong_keys ms ≡ false) where
  list_type : Option Json
  list_type = member_of (codes "x-kubernetes-list-type") ms

  right-array : model.is_wrong_array ms ≡ false
  right-array = first_false _ _ (second_false (model.is_wrong_object ms) _ (second_false (model.is_wrong_scalar ms) _ no_shape))

  among-types : model.is_array_type ms ≡ true → model.if_given (model.is_text_among list_types) list_type ≡ true
  unfolding list_type list_types
  among-types array =
      not_false _ (second_false (model.has_member (codes "x-kubernetes-map-type") ms) _
      (second_false (model.has_member (codes "additionalProperties") ms) _ (second_false (model.has_member (codes "properties") ms) _
      (second_false (not (model.has_member (codes "items") ms)) _ (behind (model.is_array_type ms) _ array right-array)))))

  -- a list that is neither atomic nor a set
  is-map : model.is_array_type ms ≡ true → model.is_atomic ms ≡ false → model.list_type_is (codes "set") ms ≡ false → model.list_type_is (codes "map") ms ≡ true
  unfolding list_type is_it
  is-map array kept no_set =
      let types = behind (model.is_array_type ms) _ array (second_false
      (model.is_object_type ms && model.member_is (codes "x-kubernetes-map-type") (codes "atomic") ms) _ kept) in
      map-type list_type (not_false _ (first_false _ _ types)) (among-types array)
      (second_false (not (model.has_member (codes "x-kubernetes-list-type") ms)) _ types) no_set

  -- without faults of shape and of keys, an array that is neither atomic nor a set has keys whose names rise
  pub map-keys : model.is_array_type ms ≡ true → model.is_atomic ms ≡ false → model.list_type_is (codes "set") ms ≡ false
      → are_key_names (model.sorted_texts (model.key_names ms)) ≡ true
  unfolding lacks_keys names_in
  map-keys array kept no_set =
      keys-there (member_of (codes "x-kubernetes-list-map-keys") ms)
      (behind (model.list_type_is (codes "map") ms) _ (is-map array kept no_set)
      (second_false (model.has_member (codes "x-kubernetes-list-map-keys") ms && not (model.list_type_is (codes "map") ms)) _
      (behind (model.is_array_type ms) _ array no_keys)))

-- ---- one level of a schema

record IsClean (n : ℕ) (s : model.Standing) (ms : Members) : Type 0 where
  no_shape : model.has_wrong_shape s ms ≡ false
  no_keys : model.has_wrong_keys ms ≡ false
  properties : model.property_faults (model.schema_faults n (model.standing_inside s ms)) (model.property_members ms) ≡ []
  others : model.optional_faults (model.schema_faults n (model.standing_inside s ms)) (member_of (codes "additionalProperties") ms) ≡ []
  items : model.optional_faults (model.schema_faults n (model.standing_inside s ms)) (member_of (codes "items") ms) ≡ []

is-clean : (n : ℕ) (s : model.Standing) (ms : Members) → model.schema_faults (suc n) s (object ms) ≡ [] → IsClean n s ms
is-clean n s ms e =
    let read = model.schema_faults n (model.standing_inside s ms) in
    let typed = nil_second (model.fault_if (model.has_unknown_keyword ms) model.schema_keyword) _ e in
    let shaped = nil_second (model.fault_if (model.has_wrong_type ms) model.schema_shape) _ typed in
    let keyed = nil_second (model.fault_if (model.has_wrong_shape s ms) model.schema_shape) _ shaped in
    let inside = nil_second (model.fault_if (model.has_wrong_keys ms) model.schema_keys) _ keyed in
    let children = nil_first (model.child_faults read ms) (model.item_faults ms) inside in
    let later = nil_second (model.property_faults read (model.property_members ms)) _ children in
    record {
      no_shape = no-fault _ _ (nil_first (model.fault_if (model.has_wrong_shape s ms) model.schema_shape) _ shaped);
      no_keys = no-fault _ _ (nil_first (model.fault_if (model.has_wrong_keys ms) model.schema_keys) _ keyed);
      properties = nil_first (model.property_faults read (model.property_members ms)) _ children;
      others = nil_first (model.optional_faults read (member_of (codes "additionalProperties") ms)) _ later;
      items = nil_second (model.optional_faults read (member_of (codes "additionalProperties") ms)) _ later;
    }

-- ---- each map list has key fields

abbrev Keeps : (Json → List model.SchemaFault) → (Json → kinds.Kind) → Type 0
Keeps read kind = (v : Json) → read v ≡ [] → is_keyed (kind v) ≡ true

fields-keyed : (read : Json → List model.SchemaFault) (kind : Json → kinds.Kind) → Keeps read kind → (ps : Members) → model.property_faults read ps ≡ []
    → are_keyed (model.kind_fields kind ps) ≡ true
fields-keyed read kind keeps no_members e = refl
fields-keyed read kind keeps (member n v ps) e = both _ _ (keeps v (nil_first (read v) _ e)) (fields-keyed read kind keeps ps (nil_second (read v) _ e))

-- the properties of a schema
abbrev members_inside : Json → Members
members_inside v = elim v [ object is ↦ is | list vs ↦ no_members | scalar s ↦ no_members ]

items-keyed : (read : Json → List model.SchemaFault) (kind : Json → kinds.Kind) (o : Option Json)
    → ((v : Json) → read v ≡ [] → are_keyed (model.kind_fields kind (model.property_members (members_inside v))) ≡ true)
    → model.optional_faults read o ≡ [] → are_keyed (model.kind_fields kind
    (model.property_members (elim o [ None ↦ no_members | Some v ↦ members_inside v ]))) ≡ true
items-keyed read kind None h e = refl
items-keyed read kind (Some v) h e = h v e

others-keyed : (read : Json → List model.SchemaFault) (kind : Json → kinds.Kind) (o : Option Json) (fs : kinds.Fields) → Keeps read kind → are_keyed fs ≡ true
    → model.optional_faults read o ≡ []
    → is_keyed (elim o [ None ↦ kinds.record_of fs | Some v ↦ kinds.dict_of (kind v) ]) ≡ true
others-keyed read kind None fs keeps h e = h
others-keyed read kind (Some v) fs keeps h e = keeps v e

keyed-if : (b : Bool) (j k : kinds.Kind) → (b ≡ true → is_keyed j ≡ true) → (b ≡ false → is_keyed k ≡ true) → is_keyed (if b then j else k) ≡ true
keyed-if true j k h i = h refl
keyed-if false j k h i = i refl

object-keyed : (n m : ℕ) (s : model.Standing) (ms : Members) → IsClean n s ms
    → Keeps (model.schema_faults n (model.standing_inside s ms)) (model.kind_of_schema m)
    → ((v : Json) → model.schema_faults n (model.standing_inside s ms) v ≡ []
    → are_keyed (model.kind_fields (model.kind_of_schema m) (model.property_members (members_inside v))) ≡ true)
    → is_keyed (model.kind_of_schema (suc m) (object ms)) ≡ true
object-keyed n m s ms clean keeps inside =
    let read = model.schema_faults n (model.standing_inside s ms) in
    let kind = model.kind_of_schema m in
    keyed-if (model.is_atomic ms) (kinds.atomic_of (model.shape_of_schema (suc m) (object ms))) _ (λ atomic. refl) (λ kept.
    keyed-if (model.is_array_type ms) _ _ (λ array. keyed-if (model.list_type_is (codes "set") ms)
    (kinds.set_of (model.scalar_kind_of (model.item_members ms))) _ (λ is_set. refl)
    (λ no_set. both _ _ (map-keys s ms clean.no_shape clean.no_keys array kept no_set)
    (items-keyed read kind (member_of (codes "items") ms) inside clean.items)))
    (λ no_array. keyed-if (model.is_object_type ms) _ (kinds.scalar_kind (model.scalar_kind_of ms))
    (λ is_object. others-keyed read kind (member_of (codes "additionalProperties") ms) (model.kind_fields kind (model.property_members ms)) keeps
    (fields-keyed read kind keeps (model.property_members ms) clean.properties) clean.others)
    (λ is_scalar. refl)))

-- so many levels more
above : ℕ → ℕ → ℕ
above zero d = d
above (suc n) d = suc (above n d)

above-suc : (n d : ℕ) → above n (suc d) ≡ suc (above n d)
unfolding above
above-suc zero d = refl
above-suc (suc n) d = ap suc (above-suc n d)

above-none : (n : ℕ) → above n zero ≡ n
unfolding above
above-none zero = refl
above-none (suc n) = ap suc (above-none n)

-- Of a schema without faults at so many levels: its kind where more levels are left, and the kinds of its properties.
levels-keyed : (n d : ℕ) (s : model.Standing) (v : Json) → model.schema_faults n s v ≡ []
    → (is_keyed (model.kind_of_schema (above n d) v) ≡ true)
    × (are_keyed (model.kind_fields (model.kind_of_schema (above n d)) (model.property_members (members_inside v))) ≡ true)
unfolding above
levels-keyed zero d s v e = absurd (cons≢nil e)
levels-keyed (suc n) d s (scalar t) e = absurd (cons≢nil e)
levels-keyed (suc n) d s (list vs) e = absurd (cons≢nil e)
levels-keyed (suc n) d s (object ms) e =
    let clean = is-clean n s ms e in
    let inner = model.standing_inside s ms in (
      object-keyed n (above n d) s ms clean (λ v h. (levels-keyed n d inner v h).0) (λ v h. (levels-keyed n d inner v h).1),
      fields-keyed (model.schema_faults n inner) (model.kind_of_schema (suc (above n d)))
          (λ v h. ap (λ m. is_keyed (model.kind_of_schema m v)) (sym (above-suc n d))
          ∙ (levels-keyed n (suc d) inner v h).0) (model.property_members ms) clean.properties,
    )

-- ---- the root

put_field : kinds.Fields → Text → kinds.Kind → Text → kinds.Kind → Ordering → kinds.Fields
put_field fs n k m j Less = kinds.kind_field n k (kinds.kind_field m j fs)
put_field fs n k m j Equal = kinds.kind_field n k fs
put_field fs n k m j Greater = kinds.kind_field m j (model.with_field n k fs)

put_field-is : (fs : kinds.Fields) (n : Text) (k : kinds.Kind) (m : Text) (j : kinds.Kind)
    → model.with_field n k (kinds.kind_field m j fs) ≡ put_field fs n k m j (slice_cmp nat_cmp n m)
unfolding put_field
put_field-is fs n k m j = by (slice_cmp nat_cmp n m)
  where
    by : (o : Ordering) → ◌≡◌ {A = kinds.Fields} (elim o [
      | Less ↦ kinds.kind_field n k (kinds.kind_field m j fs)
      | Equal ↦ kinds.kind_field n k
          fs
      | Greater ↦ kinds.kind_field m j (model.with_field n k fs)
    ]) (put_field fs n k m j o)
    by Less = refl
    by Equal = refl
    by Greater = refl

put_field-keyed : (fs : kinds.Fields) (n : Text) (k : kinds.Kind) (m : Text) (j : kinds.Kind) (o : Ordering) → is_keyed k ≡ true → is_keyed j ≡ true
    → are_keyed fs ≡ true → are_keyed (model.with_field n k fs) ≡ true
    → are_keyed (put_field fs n k m j o) ≡ true
unfolding put_field
put_field-keyed fs n k m j Less own other rest more = both _ _ own (both _ _ other rest)
put_field-keyed fs n k m j Equal own other rest more = both _ _ own rest
put_field-keyed fs n k m j Greater own other rest more = both _ _ other more

with_field-keyed : (n : Text) (k : kinds.Kind) (fs : kinds.Fields) → is_keyed k ≡ true → are_keyed fs ≡ true → are_keyed (model.with_field n k fs) ≡ true
with_field-keyed n k kinds.no_fields own h = both _ _ own refl
with_field-keyed n k (kinds.kind_field m j fs) own h =
    let rest = both_second (is_keyed j) _ h in
    ap are_keyed (put_field-is fs n k m j) ∙ put_field-keyed fs n k m j (slice_cmp nat_cmp n m) own (both_first _ _ h) rest (with_field-keyed n k fs own rest)

with_metadata-root : (fs : kinds.Fields) (k : kinds.Kind) → are_keyed fs ≡ true → is_record k ≡ true → is_keyed k ≡ true
    → is_root_kind (model.with_metadata fs k) ≡ true
with_metadata-root fs (kinds.record_of gs) own r h = with_field-keyed (codes "metadata") (kinds.record_of fs) gs own h
with_metadata-root fs (kinds.scalar_kind k) own r h = absurd (true≢false (sym r))
with_metadata-root fs (kinds.atomic_of k) own r h = absurd (true≢false (sym r))
with_metadata-root fs (kinds.dict_of k) own r h = absurd (true≢false (sym r))
with_metadata-root fs (kinds.set_of k) own r h = absurd (true≢false (sym r))
with_metadata-root fs (kinds.items_of ns gs) own r h = absurd (true≢false (sym r))

-- what is an object is no list
one-type : (o : Option Json) → is_it (codes "object") o ≡ true → is_it (codes "array") o ≡ false
unfolding is_it
one-type None h = refl
one-type (Some (scalar (Rattle.ssa_model.specs.definitions.Json.text u))) h = ap (same_text (codes "array")) (sym (same_text-true (codes "object") u h))
one-type (Some (scalar (Rattle.ssa_model.specs.definitions.Json.whole z))) h = refl
one-type (Some (scalar (Rattle.ssa_model.specs.definitions.Json.truth b))) h = refl
one-type (Some (list vs)) h = refl
one-type (Some (object ms)) h = refl

no-other : (o : Option Json) (fs : kinds.Fields) (kind : Json → kinds.Kind) → is_some o ≡ false
    → ◌≡◌ {A = kinds.Kind} (elim o [ None ↦ kinds.record_of fs | Some v ↦ kinds.dict_of (kind v) ]) (kinds.record_of fs)
no-other None fs kind h = refl
no-other (Some v) fs kind h = absurd (true≢false h)

if-false : (b : Bool) (j k : kinds.Kind) → b ≡ false → (if b then j else k) ≡ k
if-false b j k e = ap (λ t. if t then j else k) e

if-true : (b : Bool) (j k : kinds.Kind) → b ≡ true → (if b then j else k) ≡ j
if-true b j k e = ap (λ t. if t then j else k) e

-- what a root without faults is: an object with the fields of its properties, of which none has a reserved name
pub root-is : (n : ℕ) (ms : Members) → model.schema_faults (suc n) model.at_root (object ms) ≡ []
    → (model.kind_of_schema (suc n) (object ms) ≡ kinds.record_of (model.kind_fields (model.kind_of_schema n) (model.property_members ms)))
    × (list_any (λ n. model.is_one_of_texts n model.reserved_names) (model.names (model.property_members ms)) ≡ false)
unfolding is_it
root-is n ms e =
    let clean = is-clean n model.at_root ms e in
    let right : model.is_wrong_root ms ≡ false = second_false (model.is_in_atomic model.at_root && model.has_marker ms) _
    (second_false (model.is_wrong_array ms) _ (second_false (model.is_wrong_object ms) _ (second_false (model.is_wrong_scalar ms) _ clean.no_shape))) in
    let is_object : model.is_object_type ms ≡ true = not_false _ (first_false _ _ right) in
    let later = second_false (not (model.is_object_type ms)) _ right in
    let last = second_false (model.has_member (codes "additionalProperties") ms) _ later in (
      if-false (model.is_atomic ms) _ _ (first_false _ _ last) ∙ if-false (model.is_array_type ms) _ _ (one-type (member_of (codes "type") ms) is_object)
          ∙ if-true (model.is_object_type ms) _ _ is_object
          ∙ no-other (member_of (codes "additionalProperties") ms) (model.kind_fields (model.kind_of_schema n) (model.property_members ms))
          (model.kind_of_schema n) (first_false _ _ later),
      second_false (model.is_atomic ms) _ last,
    )

-- the kind of a root schema without faults is a record
pub root-record : (n : ℕ) (v : Json) → model.schema_faults (suc n) model.at_root v ≡ [] → is_record (model.kind_of_schema (suc n) v) ≡ true
root-record n (scalar t) e = absurd (cons≢nil e)
root-record n (list vs) e = absurd (cons≢nil e)
root-record n (object ms) e = ap is_record (root-is n ms e).0

passes : (kinds.Kind → Bool) → Result kinds.Kind model.SchemaFault → Bool
passes test (Ok k) = test k
passes test (Err f) = false

is_refused : Result kinds.Kind model.SchemaFault → Bool
is_refused (Ok k) = false
is_refused (Err f) = true

-- a kind that is told passes a test that the one of a schema without faults passes
pub told-kind : (test : kinds.Kind → Bool) (fs : List model.SchemaFault) (j k : kinds.Kind) → (fs ≡ [] → test j ≡ true)
    → ◌≡◌ {A = Result kinds.Kind model.SchemaFault} (elim fs [ [] ↦ Ok j | f ∷ gs ↦ Err f ]) (Ok k) → test k ≡ true
unfolding passes is_refused
told-kind test [] j k h e = ap (passes test) (sym e) ∙ h refl
told-kind test (f ∷ fs) j k h e = absurd (true≢false (ap is_refused e))

-- the kind of a schema that is accepted
pub read-root : (v : Json) (k : kinds.Kind) → model.read_schema v ≡ Ok k → is_root_kind k ≡ true
read-root v k e =
    told-kind is_root_kind (model.schema_faults most_levels model.at_root v) _ k
    (λ none. with_metadata-root model.metadata_fields (model.kind_of_schema most_levels v) refl (root-record 31 v none)
    (ap (λ m. is_keyed (model.kind_of_schema m v)) (sym (above-none most_levels)) ∙ (levels-keyed most_levels zero model.at_root v none).0))
    e
