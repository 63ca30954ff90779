use Rattle.std.proofs.Common.{take_all, sym, ap, arith, ◌∙◌}
use Rattle.ssa_path.proofs.OwnTexts.{are_narrow, are_narrow-more}
use Rattle.ssa_path.proofs.fields_back.numbers_fit.Goals as goal

pub loop-member-preserved : goal.loop-member-preserved
loop-member-preserved c =
    let l = c.loop-member in
    are_narrow-more c.args.members.now l.member-index c.member-item.result c.loop-member-test.true c.member-item.is l.invariant c.number_fits.ensures

pub returns : goal.returns
returns c =
    let l = c.loop-member in
    ap are_narrow (sym (take_all l.member-index c.args.members.now (omega arith))) ∙ l.invariant
