use Rattle.std.proofs.Common.{◌<◌, length, arith}
use Rattle.ssa_turn_body.proofs.ValuesInOrder.{few-in-order}
use Rattle.ssa_turn_body.proofs.told_values.in_path_order.Goals as goal

pub returns-then-len-lt2 : goal.returns-then-len-lt2
returns-then-len-lt2 c =
    let told = c.args.told.items in
    let few : length told < 2 = omega (arith, c.len.ensures, c.if-len-lt2.true, c.args.told.ok.0) in
    few-in-order told few
