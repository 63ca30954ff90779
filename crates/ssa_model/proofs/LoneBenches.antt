-- The bench that an object file makes has the schema that it was read by, and the file's state.
use Rattle.std.proofs.Common.{◌≡◌, ℕ, Bool, true, false, not, refl, ap, subst}
use Rattle.std.proofs.lemmas.Option.{same_Some}
use Rattle.std.specs.Prelude.{if◌then◌else◌, Result, Ok, Err}
use Rattle.std.specs.Result.{result_ok}
use Rattle.ssa_model.specs.definitions.Json.{Json, scalar, list, object}
use Rattle.ssa_model.specs.definitions.Readings.{Readings}
use Rattle.ssa_model.specs.definitions.Schema.{Schema}
use Rattle.ssa_model.specs.definitions.Objects.{Identity, identity_of}
use Rattle.ssa_model.specs.definitions.Operations.{State}
use Rattle.ssa_model.specs.definitions.History.{Bench}
use Rattle.ssa_model.specs.definitions.Answers.{Fault, identity_fault, names_itself, lone_state, lone_bench, with_lone_state, file_state, bench_with}

-- the bench has the schema, and the state is there and is the bench's only one
pub record IsLoneOf (depth : ℕ) (schema : Schema) (state : Result State Fault) (lone : Bench) : Type 0 where
  -- the schema is the bench's
  pub schema_is : schema ≡ lone.schema
  -- the depth is the bench's
  pub depth_is : depth ≡ lone.depth
  -- the state is there, and is the bench's first
  pub state_is : state ≡ Ok lone.timeline.first
  -- the bench has no other state
  pub alone : lone.timeline ≡ lone_state lone.timeline.first

of_state : (depth : ℕ) (schema : Schema) (identity : Identity) (r : Result State Fault) (lone : Bench)
    → with_lone_state depth schema identity r ≡ Ok lone → IsLoneOf depth schema r lone
of_state depth schema identity (Ok state) lone is =
    let same = same_Some (lone_bench depth schema identity state) lone (ap result_ok is) in
    record {
      schema_is = ap (λ (b : Bench). b.schema) same;
      depth_is = ap (λ (b : Bench). b.depth) same;
      state_is = ap (λ (b : Bench). Ok b.timeline.first) same;
      alone = subst (λ (b : Bench). b.timeline ≡ lone_state b.timeline.first) same refl;
    }
of_state depth schema identity (Err f) lone is = absurd cc

-- what makes a bench is an object that names itself, and then its state
pub lone-parts : (readings : Readings) (depth : ℕ) (schema : Schema) (v : Json) (lone : Bench)
    → bench_with readings depth schema v ≡ Ok lone → IsLoneOf depth schema (file_state readings schema.kind v) lone
lone-parts readings depth schema (object ms) lone is = by (not (names_itself (object ms))) is
  where
    state : Result State Fault
    state = file_state readings schema.kind (object ms)

    by : (b : Bool) → (if b then Err identity_fault else with_lone_state depth schema (identity_of (object ms)) state) ≡ Ok lone → IsLoneOf depth schema state lone
    by true is = absurd cc
    by false is = of_state depth schema (identity_of (object ms)) state lone is
lone-parts readings depth schema (list vs) lone is = absurd cc
lone-parts readings depth schema (scalar s) lone is = absurd cc
