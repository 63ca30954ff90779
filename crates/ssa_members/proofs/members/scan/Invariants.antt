use Rattle.std.proofs.Common.{◌≡◌, drop}
use Rattle.std.specs.BTreeMap.{is_at}
use Rattle.std.specs.Map.{lookup}
use Rattle.ssa_members.specs.Members.{text_cmp}
use Rattle.ssa_members.proofs.members.scan.Given as goal

-- the name is none of those before
abbrev pub invariant-loop-i : goal.invariant-loop-i
invariant-loop-i g l = lookup (is_at (text_cmp l.name)) (drop l.i l.entries) ≡ lookup (is_at (text_cmp l.name)) l.entries
