-- The values of the file of records of a valid bench are shallow.
use Rattle.std.proofs.Common.{◌≤◌, ℕ, List, [], ◌∷◌, ◌++◌, ap, arith}
use Rattle.std.proofs.lemmas.List.Elements.{All-nil, All-cons, All-head, All-tail, All-take, All-drop, All-append, All-push}
use Rattle.std.specs.List.{All}
use Rattle.ssa_model.specs.definitions.Json.{depth}
use Rattle.ssa_model.specs.definitions.Objects.{Identity}
use Rattle.ssa_model.specs.definitions.Entries.{version_in}
use Rattle.ssa_model.specs.definitions.Operations.{State}
use Rattle.ssa_model.specs.definitions.History.{Label, Step, Bench, present, past_len, future_len}
use Rattle.ssa_model.specs.definitions.Readings.{Readings}
use Rattle.ssa_model.specs.definitions.BenchText.{Format, states, records, parts, depths, whole_object}
use Rattle.ssa_model.specs.definitions.Valid.{IsValidState, MakesValid}
use Rattle.ssa_model.specs.definitions.BenchFile.{IsValidBench}
use Rattle.ssa_model.specs.definitions.RecordedBench.{record_head, record_line, past_lines, future_lines, past_steps, future_steps}
use Rattle.ssa_model.specs.laws.BenchDepths.{IsShallow, RecordedBenchIsShallow}
use Rattle.ssa_model.proofs.BenchDepths.{schema_is_shallow, label-depth, object-shallow}
use Rattle.ssa_model.proofs.RecordDepths.{record-depth}
use Rattle.ssa_model.proofs.SchemaLevels.{read-levels}
use Rattle.ssa_model.proofs.ShownObjects.{identity-parts}
use Rattle.ssa_model.proofs.ValidTimelines.{present_valid}

module _ (readings : Readings) (bench : Bench) (valid : IsValidBench readings bench) where
  abbrev IsOwn : State → Type 0
  IsOwn = IsValidState bench.schema.kind

  abbrev AreOwn : List Step → Type 0
  AreOwn = All (MakesValid bench.schema.kind)

  version-flat : depth (version_in bench.identity.version) ≤ 0
  version-flat =
      let same = ap (λ (i : Identity). depth (version_in i.version)) (identity-parts bench.identity valid.named).is in
      omega arith

  line-shallow : (label : Label) (v w : State) → IsOwn v → IsOwn w → IsShallow (record_line bench label v w)
  line-shallow label v w a b =
      let few = read-levels bench.schema.source bench.schema.kind valid.read in
      let command = label-depth label in
      let own = record-depth (version_in bench.identity.version) bench.schema.kind v w version-flat valid.accepted.lawful a b in
      omega arith

  past-shallow : (v : State) (ss : List Step) → IsOwn v → AreOwn ss → All IsShallow (past_lines bench v ss)
  past-shallow v [] a all = All-nil IsShallow
  past-shallow v (s ∷ ss) a all =
      let own = All-head (MakesValid bench.schema.kind) s ss all in
      All-push IsShallow (past_lines bench s.state ss) (record_line bench s.label s.state v)
      (past-shallow s.state ss own (All-tail (MakesValid bench.schema.kind) s ss all)) (line-shallow s.label s.state v own a)

  future-shallow : (v : State) (ss : List Step) → IsOwn v → AreOwn ss → All IsShallow (future_lines bench v ss)
  future-shallow v [] a all = All-nil IsShallow
  future-shallow v (s ∷ ss) a all =
      let own = All-head (MakesValid bench.schema.kind) s ss all in
      All-cons IsShallow (record_line bench s.label v s.state) (future_lines bench s.state ss) (line-shallow s.label v s.state a own)
      (future-shallow s.state ss own (All-tail (MakesValid bench.schema.kind) s ss all))

head-shallow : (f : Format) (depth past future : ℕ) → IsShallow (record_head f depth past future)
head-shallow states depth past future = omega arith
head-shallow records depth past future = omega arith
head-shallow parts depth past future = omega arith
head-shallow depths depth past future = omega arith

-- all values of a valid bench's file of records are shallow, where no object of its schema names a member twice
pub recorded_bench_is_shallow : RecordedBenchIsShallow
recorded_bench_is_shallow readings f bench valid apart =
    let t = bench.timeline in
    let now = present t in
    let now_valid = present_valid bench.schema.kind t valid.states in
    let back = past_lines bench t.first (past_steps t) in
    let on = future_lines bench now (future_steps t) in
    let object = object-shallow readings bench valid now now_valid in
    All-cons IsShallow (record_head f bench.depth (past_len t) (future_len t)) (bench.schema.source ∷ whole_object bench now ∷ back ++ on)
    (head-shallow f bench.depth (past_len t) (future_len t))
    (All-cons IsShallow bench.schema.source (whole_object bench now ∷ back ++ on) (schema_is_shallow bench.schema.source bench.schema.kind apart valid.read)
    (All-cons IsShallow (whole_object bench now) (back ++ on) (omega arith)
    (All-append IsShallow back on
    (past-shallow readings bench valid t.first (past_steps t) valid.states.first (All-take (MakesValid bench.schema.kind) t.place t.later valid.states.later))
    (future-shallow readings bench valid now (future_steps t) now_valid (All-drop (MakesValid bench.schema.kind) t.place t.later valid.states.later)))))
