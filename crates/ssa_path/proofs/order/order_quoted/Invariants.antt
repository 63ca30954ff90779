use Rattle.std.proofs.Common.{◌≡◌, ◌-◌, length, drop}
use Rattle.ssa_model.specs.definitions.Json.{quoted}
use Rattle.ssa_path.proofs.Parts.{text_cmp}
use Rattle.ssa_path.proofs.Escapes.{quoted_end}
use Rattle.ssa_path.proofs.order.order_quoted.Given as goal

abbrev pub invariant-loop-i : goal.invariant-loop-i
invariant-loop-i l = text_cmp (quoted l.text) (quoted l.other) ≡ text_cmp (quoted_end (drop l.i l.text)) (quoted_end (drop l.i l.other))

abbrev pub decreases-loop-i : goal.decreases-loop-i
decreases-loop-i l = length l.text - l.i
