use Rattle.std.proofs.Common.{List, sym, subst}
use Rattle.std.specs.Prelude.{box_value, map, reverse}
use Rattle.ssa_reverse.specs.Journals.{FitsValue, leads}
use Rattle.ssa_reverse.specs.Timeline.{AllFit}
use Rattle.ssa_reverse.proofs.Forgetting.{fit-without-oldest}
use Rattle.ssa_reverse.proofs.journal.Journal.forget.Goals as goal

pub returns-clause-whole : goal.returns-clause-whole
returns-clause-whole g c = λ v whole. record {
  back = subst (λ xs. AllFit (FitsValue g.T.Reversible) (leads g.T.Reversible) (reverse (map box_value xs)) v) (sym c.remove-oldest.ensures.items)
      (fit-without-oldest (FitsValue g.T.Reversible) (leads g.T.Reversible) box_value c.args.self.now.past.items v whole.back);
  forward = whole.forward;
}
