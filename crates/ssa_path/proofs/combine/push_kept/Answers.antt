use Rattle.std.proofs.Common.{subst, sym}
use Rattle.ssa_path.specs.Combine.{IsKept}
use Rattle.ssa_path.proofs.combine.push_kept.Goals as goal

pub returns-in_ok-push_copy : goal.returns-in_ok-push_copy
returns-in_ok-push_copy c =
    subst (λ b. IsKept b c.args.child.now c.args.children.now.items c.push_copy.new.copies.items) (sym c.if-kept.true) c.in_ok-push_copy.ensures
