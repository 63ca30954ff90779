use Rattle.std.proofs.Common.{◌≡◌, ◌-◌, ◌^◌, min, length, arith}
use Rattle.ssa_typed.specs.Rows.{below, rows_below}
use Rattle.ssa_typed.proofs.Sizes.{length-level}
use Rattle.ssa_typed.proofs.node.Node.size.Goals as goal

pub returns : goal.returns
returns c =
    let level = length-level c.args.self.now in
    let under : c.places_below.result ≡ min (length (rows_below (below c.args.self.now))) (2 ^ 64 - 1) = c.places_below.ensures in
    let sum = c.saturating_add.ensures in
    omega arith
