-- Members taken out of an object, and out of its metadata.
use Rattle.std.proofs.Common.{◌≡◌, List, [], ◌∷◌, Bool, true, false, ◌||◌, cond, Option, Some, None, Less, String, Global, string_bytes, string_cmp, nat_cmp, refl, sym, ap, ◌∙◌}
use Rattle.std.specs.Prelude.{if◌then◌else◌, codes, option_and_then, unwrap_or, OnOk, IfErr, Result, Ok, Err}
use Rattle.std.specs.Ordering.{is_eq}
use Rattle.std.specs.Cmp.Lexicographic.{slice_cmp, nat_list_cmp_total}
use Rattle.std.specs.List.{list_any, AllByRecursion}
use Rattle.std.specs.List.Sorted.{IsStrictlySortedBy}
use Rattle.std.specs.Map.{keys_of, lookup, remove_entry, set_value}
use Rattle.std.specs.BTreeMap.{is_at}
use Rattle.ssa_members.specs.Members.{Members as Entries}
use Rattle.ssa_model.specs.definitions.Json.{Text, Json, scalar, list, object, same_text, Members, no_members, member, member_of}
use Rattle.ssa_model.specs.definitions.Objects.{value_at, without, without_names, without_in_metadata, file_names, file_value}
use Rattle.ssa_json.specs.View.{view, members_view}
use Rattle.ssa_json.specs.declared.value.Json as values
use Rattle.ssa_model.proofs.Tables.{same_text-true}
use Rattle.ssa_model.proofs.Basics.{or-false, reversed as is_eq-reverse}

-- a name, and the value under it
abbrev Found : Type 0
Found = String Global × values.Json

-- the test by which a name is found
abbrev pub finds : Text → String Global → Bool
finds n = is_at (λ k. slice_cmp nat_cmp n (string_bytes k))

-- what is left out by one name is what is found by it
by_one_name : (k n : Text) → list_any (same_text k) (n ∷ []) ≡ is_eq (slice_cmp nat_cmp n k)
by_one_name k n = or-false (same_text k n) ∙ ap is_eq (nat_list_cmp_total.antisymm k n) ∙ is_eq-reverse (slice_cmp nat_cmp n k)

-- ---- names taken out

-- without no name all members stay
pub without-none : (ms : Members) → without [] ms ≡ ms
without-none no_members = refl
without-none (member k v ms) = ap (member k v) (without-none ms)

-- names that are left out one by one
pub without-first : (n : Text) (ns : List Text) (ms : Members) → without (n ∷ ns) ms ≡ without ns (without (n ∷ []) ms)
without-first n ns no_members = refl
without-first n ns (member k v ms) =
    elim (same_text k n) as (λ b. (if b || list_any (same_text k) ns then without (n ∷ ns) ms else member k v (without (n ∷ ns) ms))
    ≡ without ns (if b || false then without (n ∷ []) ms else member k v (without (n ∷ []) ms))) [
      | true ↦ without-first n ns ms
      | false ↦ ap (λ rest. if list_any (same_text k) ns then rest else member k v rest) (without-first n ns ms)
    ]

-- a name that is left out anyway
without-again : (n : Text) (ns : List Text) (ms : Members) → list_any (same_text n) ns ≡ true → without ns (without (n ∷ []) ms) ≡ without ns ms
without-again n ns no_members among = refl
without-again n ns (member k v ms) among =
    elim (same_text k n) as (λ b. same_text k n ≡ b → without ns (if b || false then without (n ∷ []) ms else member k v (without (n ∷ []) ms))
    ≡ without ns (member k v ms)) [
      | true ↦ λ is. without-again n ns ms among ∙ ap (λ b. if b then without ns ms else member k v (without ns ms))
          (sym (ap (λ t. list_any (same_text t) ns) (same_text-true k n is) ∙ among))
      | false ↦ λ _. ap (λ rest. if list_any (same_text k) ns then rest else member k v rest) (without-again n ns ms among)
    ] refl

-- ---- one name taken out of entries

found_none : (n : Text) (e : Found) (es : List Found) → is_eq (slice_cmp nat_cmp n (string_bytes e.0)) ≡ false → lookup (finds n) (e ∷ es) ≡ None
    → lookup (finds n) es ≡ None
found_none n e es other h = ap (λ b. cond b (Some e.1) (lookup (finds n) es)) (sym other) ∙ h

member_by : (n : Text) (e : Found) (es : List Found) (b : Bool) → is_eq (slice_cmp nat_cmp n (string_bytes e.0)) ≡ b
    → without (n ∷ []) (members_view (e ∷ es)) ≡ (if b then without (n ∷ []) (members_view es) else member (string_bytes e.0) (view e.1)
    (without (n ∷ []) (members_view es)))
member_by n e es b is =
    ap (λ t. if t then without (n ∷ []) (members_view es) else member (string_bytes e.0) (view e.1) (without (n ∷ []) (members_view es)))
    (by_one_name (string_bytes e.0) n ∙ is)

absent : (n : Text) (es : List Found) → lookup (finds n) es ≡ None → without (n ∷ []) (members_view es) ≡ members_view es
absent n [] none = refl
absent n (e ∷ es) none =
    elim (is_eq (slice_cmp nat_cmp n (string_bytes e.0))) as (λ b. is_eq (slice_cmp nat_cmp n (string_bytes e.0)) ≡ b
    → ◌≡◌ {A = Option values.Json} (cond b (Some e.1) (lookup (finds n) es)) None → without (n ∷ []) (members_view (e ∷ es)) ≡ members_view (e ∷ es)) [
      | true ↦ λ _ h. cc
      | false ↦ λ is h. member_by n e es false is ∙ ap (member (string_bytes e.0) (view e.1)) (absent n es h)
    ] refl none

-- a name behind one that is equal
absent_behind : (n : Text) (k : String Global) (es : List Found) → n ≡ string_bytes k → AllByRecursion (λ y. string_cmp k y ≡ Less) (keys_of es)
    → lookup (finds n) es ≡ None
absent_behind n k [] is h = refl
absent_behind n k (e ∷ es) is h =
    ap (λ o. cond (is_eq o) (Some e.1) (lookup (finds n) es)) (ap (λ t. slice_cmp nat_cmp t (string_bytes e.0)) is ∙ h.0) ∙ absent_behind n k es is h.1

-- a name that was taken out of names that rise is not there any more
gone : (n : Text) (es : List Found) → IsStrictlySortedBy string_cmp (keys_of es) → lookup (finds n) (remove_entry (finds n) es) ≡ None
unfolding IsStrictlySortedBy
gone n [] rises = refl
gone n (e ∷ es) rises =
    elim (is_eq (slice_cmp nat_cmp n (string_bytes e.0))) as (λ b. is_eq (slice_cmp nat_cmp n (string_bytes e.0)) ≡ b
    → lookup (finds n) (cond b es (e ∷ remove_entry (finds n) es)) ≡ None) [
      | true ↦ λ is. absent_behind n e.0 es (same_text-true n (string_bytes e.0) is) rises.0
      | false ↦ λ other. ap (λ b. cond b (Some e.1) (lookup (finds n) (remove_entry (finds n) es))) other ∙ gone n es rises.1
    ] refl

removed : (n : Text) (es : List Found) → lookup (finds n) (remove_entry (finds n) es) ≡ None
    → members_view (remove_entry (finds n) es) ≡ without (n ∷ []) (members_view es)
removed n [] none = refl
removed n (e ∷ es) none =
    elim (is_eq (slice_cmp nat_cmp n (string_bytes e.0))) as (λ b. is_eq (slice_cmp nat_cmp n (string_bytes e.0)) ≡ b
    → lookup (finds n) (cond b es (e ∷ remove_entry (finds n) es)) ≡ None
    → members_view (cond b es (e ∷ remove_entry (finds n) es)) ≡ without (n ∷ []) (members_view (e ∷ es))) [
      | true ↦ λ is h. sym (member_by n e es true is ∙ absent n es h)
      | false ↦ λ is h. ap (member (string_bytes e.0) (view e.1)) (removed n es (found_none n e (remove_entry (finds n) es) is h))
          ∙ sym (member_by n e es false is)
    ] refl none

-- an entry taken out under a name leaves its members without that name
pub without-removed : (n : Text) (old new : List Found) → new ≡ remove_entry (finds n) old → IsStrictlySortedBy string_cmp (keys_of old)
    → members_view new ≡ without (n ∷ []) (members_view old)
without-removed n old new is rises = ap members_view is ∙ removed n old (gone n old rises)

-- the value of one name
pub value_at-one : (n : Text) (ms : Members) → member_of n ms ≡ value_at (n ∷ []) (object ms)
value_at-one n ms = found (member_of n ms)
  where
    found : (o : Option Json) → o ≡ option_and_then (value_at []) o
    found None = refl
    found (Some v) = refl

-- ---- names taken out of the metadata

metadata_by : (ns : List Text) (e : Found) (b : Bool) → is_eq (slice_cmp nat_cmp (codes "metadata") (string_bytes e.0)) ≡ b
    → (if same_text (string_bytes e.0) (codes "metadata") then without_names ns (view e.1) else view e.1)
    ≡ (if b then without_names ns (view e.1) else view e.1)
metadata_by ns e b is =
    ap (λ t. if t then without_names ns (view e.1) else view e.1) (sym (or-false (same_text (string_bytes e.0) (codes "metadata")))
    ∙ by_one_name (string_bytes e.0) (codes "metadata") ∙ is)

-- without metadata all members stay
pub no_metadata : (ns : List Text) (es : List Found) → lookup (finds (codes "metadata")) es ≡ None → members_view es ≡ without_in_metadata ns (members_view es)
no_metadata ns [] none = refl
no_metadata ns (e ∷ es) none =
    let k = string_bytes e.0 in
    elim (is_eq (slice_cmp nat_cmp (codes "metadata") k)) as (λ b. is_eq (slice_cmp nat_cmp (codes "metadata") k) ≡ b
    → ◌≡◌ {A = Option values.Json} (cond b (Some e.1) (lookup (finds (codes "metadata")) es)) None
    → members_view (e ∷ es) ≡ without_in_metadata ns (members_view (e ∷ es))) [
      | true ↦ λ _ h. cc
      | false ↦ λ is h. λ i. member k (sym (metadata_by ns e false is) i) (no_metadata ns es h i)
    ] refl none

-- the metadata of an object, written back without some members
pub written : (ns : List Text) (es : List Found) (v w : values.Json) → IsStrictlySortedBy string_cmp (keys_of es)
    → lookup (finds (codes "metadata")) es ≡ Some v → view w ≡ without_names ns (view v)
    → members_view (set_value (finds (codes "metadata")) es w) ≡ without_in_metadata ns (members_view es)
unfolding IsStrictlySortedBy
written ns [] v w ordered found is = refl
written ns (e ∷ es) v w ordered found is =
    let k = string_bytes e.0 in
    elim (is_eq (slice_cmp nat_cmp (codes "metadata") k)) as (λ b. is_eq (slice_cmp nat_cmp (codes "metadata") k) ≡ b
    → ◌≡◌ {A = Option values.Json} (cond b (Some e.1) (lookup (finds (codes "metadata")) es)) (Some v)
    → members_view (cond b ((e.0, w) ∷ es) (e ∷ set_value (finds (codes "metadata")) es w)) ≡ without_in_metadata ns (members_view (e ∷ es))) [
      | true ↦ λ here h.
          let value = is ∙ ap (λ o. without_names ns (view (unwrap_or {T = values.Json} o e.1))) (sym h) ∙ sym (metadata_by ns e true here) in
          let rest = no_metadata ns es (absent_behind (codes "metadata") e.0 es (same_text-true (codes "metadata") k here) ordered.0) in
          λ i. member k (value i) (rest i)
      | false ↦ λ other h. λ i. member k (sym (metadata_by ns e false other) i) (written ns es v w ordered.1 h is i)
    ] refl found

module _ (t : String Global → Bool) where
  there_again : (es : List Found) (v w : values.Json) → lookup t es ≡ Some v → lookup t (set_value t es w) ≡ Some w
  there_again [] v w there = cc
  there_again (e ∷ es) v w there = by (t e.0) refl there (there_again es v w)
    where
      by : (b : Bool) → t e.0 ≡ b → ◌≡◌ {A = Option values.Json} (cond b (Some e.1) (lookup t es)) (Some v) → (lookup t es ≡ Some v → lookup t (set_value t es w) ≡ Some w)
          → lookup t (cond b ((e.0, w) ∷ es) (e ∷ set_value t es w)) ≡ Some w
      by true is there rest = ap (λ b. cond b (Some w) (lookup t es)) is
      by false is there rest = ap (λ b. cond b (Some e.1) (lookup t (set_value t es w))) is ∙ rest there

  last_stays : (es : List Found) (v w : values.Json) → set_value t (set_value t es v) w ≡ set_value t es w
  last_stays [] v w = refl
  last_stays (e ∷ es) v w = by (t e.0) refl (last_stays es v w)
    where
      by : (b : Bool) → t e.0 ≡ b → set_value t (set_value t es v) w ≡ set_value t es w
          → set_value t (cond b ((e.0, v) ∷ es) (e ∷ set_value t es v)) w ≡ cond b ((e.0, w) ∷ es) (e ∷ set_value t es w)
      by true is rest = ap (λ b. cond b ((e.0, w) ∷ es) ((e.0, v) ∷ set_value t es w)) is
      by false is rest = ap (λ b. cond b ((e.0, w) ∷ set_value t es v) (e ∷ set_value t (set_value t es v) w)) is ∙ ap (λ l. e ∷ l) rest

-- the metadata of an object, taken out for another value and written back without some members
pub written_back : (ns : List Text) (es without : List Found) (last : Entries values.Json) (v w other : values.Json) (r : Result values.Json values.Json)
    → IsStrictlySortedBy string_cmp (keys_of es) → lookup (finds (codes "metadata")) es ≡ Some v → view w ≡ without_names ns (view v)
    → without ≡ set_value (finds (codes "metadata")) es other → OnOk r (last.entries ≡ set_value (finds (codes "metadata")) without w)
    → IfErr r (λ u. (u ≡ w) × (lookup (finds (codes "metadata")) without ≡ None) × (last ≡ record { entries = without })) → members_view last.entries ≡ without_in_metadata ns (members_view es)
written_back ns es without last v w other (Ok u) rises there is first second absent =
    ap members_view (second ∙ ap (λ l. set_value (finds (codes "metadata")) l w) first ∙ last_stays (finds (codes "metadata")) es other w) ∙ written ns es v w rises there is
written_back ns es without last v w other (Err u) rises there is first second absent =
    let none = absent.1 in
    let some = ap (lookup (finds (codes "metadata"))) first ∙ there_again (finds (codes "metadata")) es v other there in
    let bad : ◌≡◌ {A = Option values.Json} None (Some other) = sym none ∙ some in cc

-- ---- the metadata is stripped once

names-again : (n : Text) (ns : List Text) (v : Json) → list_any (same_text n) ns ≡ true → without_names ns (without_names (n ∷ []) v) ≡ without_names ns v
names-again n ns (object ms) among = ap object (without-again n ns ms among)
names-again n ns (list vs) among = refl
names-again n ns (scalar s) among = refl

metadata-again : (n : Text) (ns : List Text) (ms : Members) → list_any (same_text n) ns ≡ true
    → without_in_metadata ns (without_in_metadata (n ∷ []) ms) ≡ without_in_metadata ns ms
metadata-again n ns no_members among = refl
metadata-again n ns (member k v ms) among =
    let value : (b : Bool) → (if b then without_names ns (if b then without_names (n ∷ []) v else v) else (if b then without_names (n ∷ []) v else v))
    ≡ (if b then without_names ns v else v) = λ b. elim b as (λ b. (if b then without_names ns
    (if b then without_names (n ∷ []) v else v) else (if b then without_names (n ∷ []) v else v)) ≡ (if b then without_names ns v else v))
    [ true ↦ names-again n ns v among | false ↦ refl ] in
    λ i. member k (value (same_text k (codes "metadata")) i) (metadata-again n ns ms among i)

metadata-later : (names ns : List Text) (ms : Members) → without names (without_in_metadata ns ms) ≡ without_in_metadata ns (without names ms)
metadata-later names ns no_members = refl
metadata-later names ns (member k v ms) =
    let w = if same_text k (codes "metadata") then without_names ns v else v in
    elim (list_any (same_text k) names) as (λ b. (if b then without names (without_in_metadata ns ms) else member k w
    (without names (without_in_metadata ns ms))) ≡ without_in_metadata ns (if b then without names ms else member k v (without names ms))) [
      | true ↦ metadata-later names ns ms
      | false ↦ ap (member k w) (metadata-later names ns ms)
    ]

-- the managers' entries are no part of the value
pub without_entries : (ms : Members) → file_value (object (without_in_metadata (codes "managedFields" ∷ []) ms)) ≡ file_value (object ms)
without_entries ms =
    let identity = codes "apiVersion" ∷ codes "kind" ∷ [] in
    ap (λ rest. object (without_in_metadata file_names rest)) (metadata-later identity (codes "managedFields" ∷ []) ms)
    ∙ ap object (metadata-again (codes "managedFields") file_names (without identity ms) refl)
