use Rattle.std.proofs.Common.{◌∙◌, ap, drop, sym, Some, arith, length-drop}
use Rattle.std.proofs.lemmas.List.{drop_all}
use Rattle.ssa_path.specs.Children.{heads_order}
use Rattle.ssa_path.proofs.Combining.{heads-own, heads-other}
use Rattle.ssa_typed.specs.Ordered.{lent_children}
use Rattle.ssa_typed.proofs.References.{left-read}
use Rattle.ssa_typed.proofs.compare.order_at.Goals as goal

pub returns-then-j-len : goal.returns-then-j-len
returns-then-j-len c =
    let own = left-read (lent_children c.args.own.now) c.args.i c.at.result.now c.at.ensures.read in
    let other = left-read (lent_children c.args.others.now) c.args.j c.at-then-j-len.result.now c.at-then-j-len.ensures.read in
    ap Some c.order.ensures ∙ sym (λ k. heads_order (own k) (other k))

pub returns-else-j-len : goal.returns-else-j-len
returns-else-j-len c =
    let cs = lent_children c.args.own.now in
    let ds = lent_children c.args.others.now in
    sym (heads-own (drop c.args.i cs) (drop c.args.j ds) (drop_all c.args.j ds (omega arith)) (simp length-drop (omega arith)))

pub returns-then-j-len-2 : goal.returns-then-j-len-2
returns-then-j-len-2 c =
    let cs = lent_children c.args.own.now in
    let ds = lent_children c.args.others.now in
    sym (heads-other (drop c.args.i cs) (drop c.args.j ds) (drop_all c.args.i cs (omega arith)) (simp length-drop (omega arith)))
