use Rattle.std.proofs.Common.{ℕ, ◌+◌, ◌-◌, ◌<◌, ◌≤◌, length}
use Rattle.std.specs.Prelude.{slice_index}
use Rattle.ssa_schema.proofs.fit.distinct_tags.rise.Given as goal

-- each number so far is below the next
abbrev pub invariant-numbers : goal.invariant-numbers
invariant-numbers l = record {
  begun : 1 ≤ l.i;
  rising : (k : ℕ) → k + 1 < l.i → k + 1 < length l.numbers → slice_index l.numbers k < slice_index l.numbers (k + 1);
}

abbrev pub decreases-numbers : goal.decreases-numbers
decreases-numbers l = length l.numbers - l.i
