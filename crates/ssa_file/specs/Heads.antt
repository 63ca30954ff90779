-- What the first line of a bench file says.
use Rattle.std.specs.Prelude.{◌<◌, ◌≤◌, ◌+◌, ◌&&◌, ℕ, Option, nat_le, option_and_then}
use Rattle.ssa_model.specs.definitions.BenchText.{Format}
use Rattle.ssa_model.specs.definitions.Json.{Json}
use Rattle.ssa_model.specs.definitions.Limits.{most_past}
use Rattle.ssa_model.specs.definitions.BenchOfStates as states
use Rattle.ssa_model.specs.definitions.BenchOfStates.{given_if}
use Rattle.ssa_model.specs.definitions.BenchOfRecords as records
use Rattle.ssa_model.specs.definitions.BenchOfFile as formats
use Rattle.ssa_file.specs.Recording.{format_view}
use Rattle.ssa_file.specs.declared.head.StatePlace.{StatePlace}
use Rattle.ssa_file.specs.declared.head.RecordCounts.{RecordCounts}
use Rattle.ssa_file.specs.declared.head.FileHead.{FileHead}
use Rattle.ssa_file.specs.declared.head.FileHead.TheVariants.{States, Records}

abbrev pub place_view : StatePlace → states.Head
place_view p = record { place = p.place; states = p.states }

abbrev pub counts_view : RecordCounts → records.Counts
counts_view c = record { format = format_view c.format; depth = c.depth; past = c.past; future = c.future }

abbrev pub head_view : FileHead → formats.FileHead
head_view (States p) = formats.of_states (place_view p)
head_view (Records c) = formats.of_records (counts_view c)

-- how many commands the bench keeps of whose file it is
abbrev pub head_depth : FileHead → ℕ
head_depth (States p) = most_past
head_depth (Records c) = c.depth

-- the depth that a first line of the format says, where a bench may be so deep
abbrev pub depth_within : Format → Json → Option ℕ
depth_within f v = option_and_then (λ n. given_if (nat_le 1 n && nat_le n most_past) n) (records.depth_in f v)

-- the numbers tell of no more commands than the bench keeps, and the place is that of a state
abbrev pub IsFew : FileHead → Type 0
IsFew (States p) = (p.place < p.states) × (p.states ≤ most_past + 1)
IsFew (Records c) = c.past + c.future ≤ c.depth
