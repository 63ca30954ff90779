-- How deep the values of a bench file, and of one of records, nest: no deeper than a reader of JSON goes.
use Rattle.std.specs.Prelude.{◌≡◌, ◌≤◌, ◌<◌, ℕ, zero, suc, ◌∷◌, true, map, Ok, codes}
use Rattle.std.specs.List.{All}
use Rattle.ssa_model.specs.definitions.Limits.{most_depth}
use Rattle.ssa_model.specs.definitions.Json.{Text, Json, list, object, no_items, item, Members, no_members, member, depth}
use Rattle.ssa_model.specs.definitions.MemberNames.{has_distinct_names}
use Rattle.ssa_model.specs.definitions.Kind.{Kind}
use Rattle.ssa_model.specs.definitions.Schema.{read_schema}
use Rattle.ssa_model.specs.definitions.Objects.{members_of_value}
use Rattle.ssa_model.specs.definitions.Readings.{Readings}
use Rattle.ssa_model.specs.definitions.History.{Bench}
use Rattle.ssa_model.specs.definitions.BenchText.{Format, head_json, first_json, step_json, bench_values}
use Rattle.ssa_model.specs.definitions.BenchFile.{IsValidBench}
use Rattle.ssa_model.specs.definitions.RecordedBench.{recorded_values}
use Rattle.ssa_model.specs.examples.FileRows.{readings_of, filed}

abbrev pub IsShallow : Json → Type 0
IsShallow v = depth v ≤ most_depth

-- the head and the states of a valid bench
abbrev pub StateValuesAreShallow : Type 0
StateValuesAreShallow = (readings : Readings) (bench : Bench) → IsValidBench readings bench
    → All IsShallow (head_json bench.timeline ∷ first_json bench ∷ map (step_json bench) bench.timeline.later)

-- a schema that is read, where no object of it names a member twice
abbrev pub SchemaIsShallow : Type 0
SchemaIsShallow = (v : Json) (kind : Kind) → has_distinct_names v ≡ true → read_schema v ≡ Ok kind → IsShallow v

-- all values of a valid bench with such a schema
abbrev pub DistinctBenchIsShallow : Type 0
DistinctBenchIsShallow = (readings : Readings) (bench : Bench) → IsValidBench readings bench → has_distinct_names bench.schema.source ≡ true
    → All IsShallow (bench_values bench)

-- all values of a file of records of such a bench
abbrev pub RecordedBenchIsShallow : Type 0
RecordedBenchIsShallow =
    (readings : Readings) (f : Format) (bench : Bench) → IsValidBench readings bench → has_distinct_names bench.schema.source ≡ true
    → All IsShallow (recorded_values f bench)

-- ---- where a name stands twice

-- a list, with so many inside it, each in the one before
abbrev pub nested : ℕ → Json
nested zero = list no_items
nested (suc n) = list (item (nested n) no_items)

-- the members, and one more behind them
abbrev pub with_last : Text → Json → Members → Members
with_last n v no_members = member n v no_members
with_last n v (member m w ms) = member m w (with_last n v ms)

-- the sample's bench with a second `type` in its schema, which is no text
abbrev pub twice_typed : Bench
twice_typed = record {
  schema = record { source = object (with_last (codes "type") (nested most_depth) (members_of_value filed.schema.source)); kind = filed.schema.kind };
  identity = filed.identity;
  depth = filed.depth;
  timeline = filed.timeline;
}

-- The tests of a schema look at the first of two members of one name alone, so the schema of a valid bench can nest deeper.
abbrev pub SecondTypeIsDeep : Type 0
SecondTypeIsDeep = IsValidBench (readings_of (bench_values filed)) twice_typed × (most_depth < depth twice_typed.schema.source)
