-- What is saved is the file of the bench.
use Rattle.std.proofs.Common.{◌≡◌, ◌≤◌, List, [], ◌∷◌, ◌++◌, length, true, refl}
use Rattle.std.specs.List.{All}
use Rattle.std.proofs.lemmas.List.Elements.{All-head, All-tail, All-nil, All-cons}
use Rattle.ssa_model.specs.definitions.Limits.{most_bench_bytes}
use Rattle.ssa_model.specs.definitions.Json.{Json}
use Rattle.ssa_model.specs.definitions.History.{Bench, future_len, past_len, present}
use Rattle.ssa_model.specs.definitions.BenchText.{depths, whole_object}
use Rattle.ssa_model.specs.definitions.Formats.{IsFile}
use Rattle.ssa_model.specs.definitions.MemberNames.{has_rising_names}
use Rattle.ssa_model.specs.definitions.BenchFile.{IsSpelled, IsValidBench}
use Rattle.ssa_model.specs.definitions.RecordedBench.{HasReadHistory, future_lines, future_steps, past_lines, past_steps, record_head, recorded_text, recorded_values}
use Rattle.ssa_model.specs.laws.BenchDepths.{IsShallow}
use Rattle.ssa_json.specs.Readings.{readings}
use Rattle.ssa_json.specs.Writable.{CompactIsRead, IsOfProgram}

-- shallow values of the program are read from their texts
all-spelled : (vs : List Json) → CompactIsRead → All IsOfProgram vs → All IsShallow vs → All (IsSpelled readings) vs
all-spelled [] read made shallow = All-nil (IsSpelled readings)
all-spelled (v ∷ vs) read made shallow =
    All-cons (IsSpelled readings) v vs
    (read v (record { of_program = All-head IsOfProgram v vs made; shallow = All-head IsShallow v vs shallow }))
    (all-spelled vs read (All-tail IsOfProgram v vs made) (All-tail IsShallow v vs shallow))

-- the text of a valid bench whose values the program makes is its file
pub is-file : (bench : Bench) → CompactIsRead → All IsShallow (recorded_values depths bench) → IsValidBench readings bench → HasReadHistory readings bench.timeline
    → All IsOfProgram (recorded_values depths bench) → length (recorded_text depths bench) ≤ most_bench_bytes
    → IsFile readings depths (recorded_text depths bench) bench
is-file bench read shallow valid paths made fits = record {
  valid = valid;
  paths = paths;
  tells = record { depth = refl; first = refl; later = λ k d h. (refl, refl) };
  text = refl;
  fits = fits;
  spelled = all-spelled (recorded_values depths bench) read made shallow;
}

-- the names in the schema's value rise
pub source-names : (bench : Bench) → All IsOfProgram (recorded_values depths bench) → has_rising_names bench.schema.source ≡ true
source-names bench made =
    let t = bench.timeline in
    let head = record_head depths bench.depth (past_len t) (future_len t) in
    let rest = whole_object bench (present t) ∷ past_lines bench t.first (past_steps t) ++ future_lines bench (present t) (future_steps t) in
    (All-head IsOfProgram bench.schema.source rest (All-tail IsOfProgram head (bench.schema.source ∷ rest) made)).names
