use Rattle.std.proofs.Common.{drop}
use Rattle.ssa_path.proofs.FieldsReadings.{IsReading}
use Rattle.ssa_path.proofs.fields_read.+read.Given as goal

abbrev pub invariant-read_members-loop-name : goal.invariant-read_members-loop-name
invariant-read_members-loop-name l = IsReading l.members.entries l.here l.below.items (drop l.name-index l.name-items)
