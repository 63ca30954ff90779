use Rattle.std.proofs.Common.{◌≡◌, drop, map}
use Rattle.std.specs.List.{list_any}
use Rattle.ssa_schema.specs.Repeats.{row_view, same_row}
use Rattle.ssa_schema.proofs.fit.repeated.is_one_of.Given as goal

-- what is left decides
abbrev pub invariant-loop-other : goal.invariant-loop-other
invariant-loop-other l =
    list_any (same_row (row_view l.key)) (map row_view (drop l.other-index l.keys)) ≡ list_any (same_row (row_view l.key)) (map row_view l.keys)
