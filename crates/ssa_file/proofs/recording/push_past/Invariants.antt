use Rattle.std.proofs.Common.{◌≡◌, ◌≤◌, ◌-◌, ◌++◌, flat_map, length}
use Rattle.std.specs.List.{All}
use Rattle.ssa_model.specs.definitions.BenchText.{line}
use Rattle.ssa_model.specs.definitions.Limits.{most_bench_bytes}
use Rattle.ssa_json.specs.Writable.{IsOfProgram}
use Rattle.ssa_file.specs.Recording.{bench_with, past_values}
use Rattle.ssa_file.proofs.RecordingFacts.{past_left}
use Rattle.ssa_file.proofs.recording.push_past.Given as goal

-- the lines so far and those that are left are all of them
abbrev pub invariant-loop-done : goal.invariant-loop-done
invariant-loop-done l = record {
  made : l.text.items ++ flat_map line (past_left l.schema l.identity l.history (l.past - l.done))
      ≡ l.fn.text.items ++ flat_map line (past_values (bench_with l.schema l.identity l.history));
  fits : length l.text.items ≤ most_bench_bytes;
  of_program : All IsOfProgram (past_left l.schema l.identity l.history (l.past - l.done))
      → All IsOfProgram (past_values (bench_with l.schema l.identity l.history));
}
