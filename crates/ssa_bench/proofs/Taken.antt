-- Taking the body of a command's object, test by test.
use Rattle.std.proofs.Common.{ℕ, List, [], ◌∷◌, Option, Some, None, ◌≡◌, Bool, true, false, not, ◌&&◌, refl, sym, ap, ◌∙◌, true≢false}
use Rattle.std.specs.Prelude.{if◌then◌else◌, Ok, Err, Result, is_some, unwrap_or, option_map, codes}
use Rattle.ssa_model.specs.definitions.Json.{Json, scalar, list, object, is_object}
use Rattle.ssa_model.specs.definitions.Schema.{Schema}
use Rattle.ssa_model.specs.definitions.History.{Bench}
use Rattle.ssa_model.specs.definitions.Body as bodies
use Rattle.ssa_model.specs.definitions.Kind as kinds
use Rattle.ssa_model.specs.definitions.Kind.{Kind, faults, wrong_type}
use Rattle.ssa_model.specs.definitions.Body.{flat}
use Rattle.ssa_model.specs.definitions.Objects as objects
use Rattle.ssa_model.specs.definitions.Objects.{identity_of, is_identity, is_some_object, same_identity, value_at, body_value, file_value}
use Rattle.ssa_model.specs.definitions.GivenEntries as entries
use Rattle.ssa_model.specs.definitions.Table.{Table}
use Rattle.ssa_model.specs.definitions.Operations.{State}
use Rattle.ssa_model.specs.definitions.Answers as model
use Rattle.ssa_model.specs.definitions.Answers.{body_fault, refused, identity_fault, managed_fields_given, has_identity, gives_managed_fields, names_itself, body_or_fault, command_body, bench_with, given_table, with_lone_state, with_table, file_state}
use Rattle.ssa_model.proofs.GivenBodies.{by_faults}
use Rattle.ssa_schema.specs.Finds.{Told, told, told_view}
use Rattle.ssa_schema.specs.Refusals.{first_of}
use Rattle.ssa_schema.specs.declared.body_fault.BodyFault.{BodyFault}
use Rattle.ssa_json.specs.Readings.{readings}
use Rattle.ssa_bench.specs.Benches.{table_or_fault}
use Rattle.ssa_answers.specs.Faults.{IsFault, IsGiven}
use Rattle.ssa_object.specs.Identities.{identity_in}
use Rattle.ssa_answers.specs.declared.fault.Fault.{Fault}
use Rattle.ssa_answers.specs.declared.fault.Fault.TheVariants.{Body, TooManyPaths, Identity, ManagedFieldsGiven, Entry, ManagerName, NoSubresource, NothingToUndo, NothingToRedo, Conflict, TooManyManagers, OutOfMemory}

-- ---- faults that are told

-- a fault of what is asked first is told of all
pub passed-on : {A B : Type 0} (f : Fault) (r : Result A model.Fault) (s : Result B model.Fault) → ((g : model.Fault) → r ≡ Err g → s ≡ Err g)
    → IsGiven (Err f) r → IsGiven (Err f) s
passed-on (Body b) r s go h = (h.0, go h.0 h.1, h.2)
passed-on TooManyPaths r s go h = (h.0, go h.0 h.1, h.2)
passed-on Identity r s go h = (h.0, go h.0 h.1, h.2)
passed-on ManagedFieldsGiven r s go h = (h.0, go h.0 h.1, h.2)
passed-on (Entry f) r s go h = (h.0, go h.0 h.1, h.2)
passed-on ManagerName r s go h = (h.0, go h.0 h.1, h.2)
passed-on NoSubresource r s go h = (h.0, go h.0 h.1, h.2)
passed-on NothingToUndo r s go h = (h.0, go h.0 h.1, h.2)
passed-on NothingToRedo r s go h = (h.0, go h.0 h.1, h.2)
passed-on (Conflict cs) r s go h = (h.0, go h.0 h.1, h.2)
passed-on TooManyManagers r s go h = (h.0, go h.0 h.1, h.2)
passed-on OutOfMemory r s go h = tt

-- ---- the body of a value

first-told : (kind : Kind) (v : Json) (f : BodyFault) (fs : List kinds.FaultAt) → ◌≡◌ {A = Option Told} (Some (told_view f)) (option_map told (first_of fs))
    → (g : model.Fault) × (by_faults kind v fs ≡ Err g) × IsFault (Body f) g
first-told kind v f [] h = absurd (true≢false (ap is_some h))
first-told kind v f (m ∷ ms) h = (body_fault m.fault m.path, refl, (m, refl, ap (λ o. unwrap_or {T = Told} o (told_view f)) h))

-- where the first of a value's faults under its kind is told, the body is refused by it
pub body_or_fault-first : (kind : Kind) (v : Json) (f : BodyFault)
    → ◌≡◌ {A = Option Told} (Some (told_view f)) (option_map told (first_of (faults kind v []))) → IsGiven (Err (Body f)) (body_or_fault kind v)
body_or_fault-first kind v f h = first-told kind v f (faults kind v []) h

-- ---- a command's object

abbrev tested : Bench → Json → Bool → Bool → Result bodies.Body model.Fault
tested bench v identity managed = if not identity then Err identity_fault else (if managed then Err managed_fields_given else body_or_fault bench.schema.kind
    (body_value v))

-- the tests in their order, once the value is an object
pub command_body-tested : (bench : Bench) (v : Json) → is_object v ≡ true
    → command_body bench v ≡ tested bench v (has_identity bench v) (gives_managed_fields v)
command_body-tested bench (object ms) h = refl
command_body-tested bench (list vs) h = absurd (true≢false (sym h))
command_body-tested bench (scalar s) h = absurd (true≢false (sym h))

-- an object with the bench's identity and without managers gives what its body's value gives under the kind
pub command_body-taken : (bench : Bench) (v : Json) → is_object v ≡ true → has_identity bench v ≡ true → gives_managed_fields v ≡ false
    → command_body bench v ≡ body_or_fault bench.schema.kind (body_value v)
command_body-taken bench v o i m = command_body-tested bench v o ∙ (λ k. tested bench v (i k) (m k))

-- three tests in another grouping
pub regrouped : (a b c : Bool) → (a && b) ≡ true → c ≡ true → (a && (b && c)) ≡ true
regrouped true b c h e = λ i. h i && e i
regrouped false b c h e = h

apart : (a b c : Bool) → c ≡ false → (a && (b && c)) ≡ false
apart true true c e = e
apart true false c e = refl
apart false b c e = refl

-- an object of another identity than the bench's is refused
pub command_body-other : (bench : Bench) (v : Json) → is_object v ≡ true → same_identity (identity_of v) bench.identity ≡ false
    → command_body bench v ≡ Err identity_fault
command_body-other bench v o other = command_body-tested bench v o
    ∙ ap (λ b. tested bench v b (gives_managed_fields v)) (apart (is_some_object (value_at (codes "metadata" ∷ []) v)) (is_identity (identity_of v)) _ other)

-- a value that is no object is refused as of the wrong type, at the root
pub command_body-no_object : (bench : Bench) (v : Json) → is_object v ≡ false → command_body bench v ≡ Err (body_fault wrong_type [])
command_body-no_object bench (object ms) h = absurd (true≢false h)
command_body-no_object bench (list vs) h = refl
command_body-no_object bench (scalar s) h = refl

-- ---- a new bench

abbrev and_body : bodies.Body → Result Table model.Fault → Result State model.Fault
and_body body r = elim r [ Ok table ↦ Ok (record { body = body; table = table }) | Err f ↦ Err f ]

with_table-or_fault : (body : bodies.Body) (r : Result Table entries.EntryFault) → with_table body r ≡ and_body body (table_or_fault r)
with_table-or_fault body (Ok table) = refl
with_table-or_fault body (Err f) = refl

abbrev and_table : Json → Result bodies.Body model.Fault → Result State model.Fault
and_table v r = elim r [ Ok body ↦ with_table body (given_table readings body v) | Err f ↦ Err f ]

-- the state of an object file is its body with the table that it gives, or the fault of that table
pub file_state-body : (kind : Kind) (v : Json) (body : bodies.Body) (r : Result Table model.Fault) → body_or_fault kind (file_value v) ≡ Ok body
    → table_or_fault (given_table readings body v) ≡ r
    → file_state readings kind v ≡ and_body body r
file_state-body kind v body r e h = ap (and_table v) e ∙ with_table-or_fault body (given_table readings body v) ∙ ap (and_body body) h

abbrev made : ℕ → Schema → Json → Bool → Result State model.Fault → Result Bench model.Fault
made depth schema v identity r = if not identity then Err identity_fault else with_lone_state depth schema (identity_of v) r

bench-tested : (depth : ℕ) (schema : Schema) (v : Json) → is_object v ≡ true
    → bench_with readings depth schema v ≡ made depth schema v (names_itself v) (file_state readings schema.kind v)
bench-tested depth schema (object ms) h = refl
bench-tested depth schema (list vs) h = absurd (true≢false (sym h))
bench-tested depth schema (scalar s) h = absurd (true≢false (sym h))

-- a new bench of a value that is no object is refused as of the wrong type, at the root
pub bench-no_object : (depth : ℕ) (schema : Schema) (v : Json) → is_object v ≡ false → bench_with readings depth schema v ≡ Err (body_fault wrong_type [])
bench-no_object depth schema (object ms) h = absurd (true≢false h)
bench-no_object depth schema (list vs) h = refl
bench-no_object depth schema (scalar s) h = refl

abbrev shown_identity : Json → Bool → Option objects.Identity
shown_identity v b = if b then Some (identity_of v) else None

named : (v : Json) (b : Bool) (i : objects.Identity) → ◌≡◌ {A = Option objects.Identity} (Some i) (shown_identity v b) → (b ≡ true) × (i ≡ identity_of v)
named v true i h = (refl, ap (λ o. unwrap_or {T = objects.Identity} o i) h)
named v false i h = absurd (true≢false (ap is_some h))

unnamed : (v : Json) (b : Bool) → ◌≡◌ {A = Option objects.Identity} None (shown_identity v b) → b ≡ false
unnamed v true h = absurd (true≢false (ap is_some (sym h)))
unnamed v false h = refl

-- the identity that was found is the object's
pub identity-found : (v : Json) (i : objects.Identity) → ◌≡◌ {A = Option objects.Identity} (Some i) (identity_in v) → i ≡ identity_of v
identity-found v i h = (named v (names_itself v) i h).1

-- a new bench of an object without an identity is refused for that
pub bench-nameless : (depth : ℕ) (schema : Schema) (v : Json) → is_object v ≡ true → ◌≡◌ {A = Option objects.Identity} None (identity_in v)
    → bench_with readings depth schema v ≡ Err identity_fault
bench-nameless depth schema v o h = bench-tested depth schema v o ∙ ap (λ b. made depth schema v b (file_state readings schema.kind v)) (unnamed v (names_itself v) h)

-- a new bench of an object with an identity has the one state of its file, or is refused by the fault of that state
pub bench-state : (depth : ℕ) (schema : Schema) (v : Json) (i : objects.Identity) (r : Result State model.Fault) → is_object v ≡ true
    → ◌≡◌ {A = Option objects.Identity} (Some i) (identity_in v)
    → file_state readings schema.kind v ≡ r → bench_with readings depth schema v ≡ with_lone_state depth schema i r
bench-state depth schema v i r o h e =
    let found = named v (names_itself v) i h in
    bench-tested depth schema v o ∙ (λ k. made depth schema v (found.0 k) (e k)) ∙ (λ k. with_lone_state depth schema (sym found.1 k) r)
