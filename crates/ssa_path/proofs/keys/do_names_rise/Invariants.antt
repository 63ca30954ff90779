use Rattle.std.proofs.Common.{◌≡◌, drop}
use Rattle.ssa_path.specs.Keys.{members_view, names_rise_after}
use Rattle.ssa_path.proofs.keys.do_names_rise.Given as goal

abbrev pub invariant-loop-member : goal.invariant-loop-member
invariant-loop-member l = names_rise_after l.first (members_view l.members) ≡ names_rise_after l.last (members_view (drop l.member-index l.members))
