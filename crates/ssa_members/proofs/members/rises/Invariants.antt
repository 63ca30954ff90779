use Rattle.std.proofs.Common.{◌≡◌, ℕ, ◌+◌, ◌-◌, ◌<◌, ◌≤◌, length, get_or, string_cmp}
use Rattle.std.specs.declared.cmp.Ordering.TheVariants.{Less}
use Rattle.ssa_members.specs.Members.{Name}
use Rattle.ssa_members.proofs.members.rises.Given as goal

-- each name so far is below the next
abbrev pub invariant-pairs : goal.invariant-pairs
invariant-pairs g l = record {
  begun : 1 ≤ l.i;
  rising : (k : ℕ) (e : Name × g.row.V.Denot) → k + 1 < l.i → k + 1 < length l.pairs → string_cmp (get_or l.pairs k e).0 (get_or l.pairs (k + 1) e).0 ≡ Less;
}

abbrev pub decreases-pairs : goal.decreases-pairs
decreases-pairs g l = length l.pairs - l.i
