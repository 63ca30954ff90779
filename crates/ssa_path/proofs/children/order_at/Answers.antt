use Rattle.std.proofs.Common.{sym, drop, arith, length-drop}
use Rattle.std.proofs.lemmas.List.{drop_all}
use Rattle.ssa_path.proofs.Combining.{heads-own, heads-other}
use Rattle.ssa_path.proofs.children.order_at.Goals as goal

pub returns-else-j-others : goal.returns-else-j-others
returns-else-j-others g c =
    let cs = c.args.own.now in
    let ds = c.args.others.now in
    sym (heads-own (drop c.args.i cs) (drop c.args.j ds) (drop_all c.args.j ds (omega arith)) (simp length-drop (omega arith)))

pub returns-then-j-others-2 : goal.returns-then-j-others-2
returns-then-j-others-2 g c =
    let cs = c.args.own.now in
    let ds = c.args.others.now in
    sym (heads-other (drop c.args.i cs) (drop c.args.j ds) (drop_all c.args.i cs (omega arith)) (simp length-drop (omega arith)))
