use Rattle.std.proofs.Common.{◌≡◌, ◌<◌, ◌-◌, ◌^◌}
use Rattle.ssa_path.specs.SortKeys.{key_from, sort_key}
use Rattle.ssa_path.proofs.sort_key.sort_key.Given as goal

-- with the bytes that are left, the number is the whole one
abbrev pub invariant-loop-i : goal.invariant-loop-i
invariant-loop-i l = record { is : key_from (8 - l.i) l.key l.rest ≡ sort_key l.skip l.text; small : l.key < 256 ^ l.i }
