use Rattle.std.proofs.Common.{◌≡◌, ◌≤◌, ◌++◌, flat_map, length}
use Rattle.std.specs.List.{All}
use Rattle.ssa_model.specs.definitions.BenchText.{line}
use Rattle.ssa_model.specs.definitions.Limits.{most_bench_bytes}
use Rattle.ssa_json.specs.Writable.{IsOfProgram}
use Rattle.ssa_file.specs.Recording.{bench_with, future_values}
use Rattle.ssa_file.proofs.RecordingFacts.{future_left}
use Rattle.ssa_file.proofs.recording.push_future.Given as goal

-- the lines so far and those that are left are all of them
abbrev pub invariant-loop-n : goal.invariant-loop-n
invariant-loop-n l = record {
  behind : l.past ≤ l.n;
  made : l.text.items ++ flat_map line (future_left l.schema l.identity l.history l.n)
      ≡ l.fn.text.items ++ flat_map line (future_values (bench_with l.schema l.identity l.history));
  fits : length l.text.items ≤ most_bench_bytes;
  of_program : All IsOfProgram (future_left l.schema l.identity l.history l.n) → All IsOfProgram (future_values (bench_with l.schema l.identity l.history));
}
