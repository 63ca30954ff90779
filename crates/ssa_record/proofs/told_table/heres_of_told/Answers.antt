use Rattle.std.proofs.Common.{List, map, ◌++◌, ap, sym, subst, ◌∙◌}
use Rattle.std.specs.Vec.Iter.{into_iter_items}
use Rattle.ssa_told.specs.Told.{told_here}
use Rattle.ssa_record.proofs.ToldTables.{made-more}
use Rattle.ssa_turn_table.proofs.Taking.{keys-push}
use Rattle.ssa_turn_table.specs.Going.{AllKeysAgree}
use Rattle.ssa_turn_table.specs.declared.delta.Here.{Here}
use Rattle.ssa_turn_table.specs.Tables.{here_view, heres_view}
use Rattle.ssa_record.proofs.told_table.heres_of_told.Goals as goal

pub loop-one-preserved : goal.loop-one-preserved
loop-one-preserved c =
    let here = c.loop-one.here.items in
    let one = c.in_ok-here_of_told.field-0 in
    let made = c.in_ok-push.ensures.items in
    let before = c.loop-one.invariant in
    let steps = c.in-Some.ensures.steps in
    record {
      told =
          made-more here_view told_here here c.push.new.self.items one c.in-Some.one (into_iter_items c.next.new.self) _
          (ap (λ xs. heres_view here ++ map told_here xs) (sym steps.0) ∙ before.told) c.in_ok-here_of_told.ensures.here made;
      keys = subst AllKeysAgree (sym {A = List Here} made) (keys-push here one before.keys c.in_ok-here_of_told.ensures.keys);
    }
