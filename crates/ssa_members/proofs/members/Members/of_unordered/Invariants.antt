use Rattle.std.proofs.Common.{◌≡◌, ◌++◌}
use Rattle.ssa_members.proofs.members.Members.of_unordered.Given as goal

-- the entries so far are taken over
abbrev pub invariant-loop-entry : goal.invariant-loop-entry
invariant-loop-entry g l = l.initial.entry-iterator ≡ l.initial.entries.items ++ l.entries.items ++ l.entry-iterator
