use Rattle.std.proofs.Common.{◌<◌, ◌++◌, length, map, vec_len, sym, ◌∙◌, subst, arith}
use Rattle.ssa_merge.specs.Managers.{table_view}
use Rattle.ssa_turn_table.specs.Going.{AllKeysAgree}
use Rattle.ssa_turn_table.specs.Tables.{keys_view, heres_view}
use Rattle.ssa_turn_table.proofs.Inserting.{IsInserting, inserting_ends, first-of, none-left, here_step, listed_step, agree_step}
use Rattle.ssa_turn_table.proofs.coming.insert_here.Goals as goal

pub insert-requires : goal.insert-requires
insert-requires c =
    let here = c.loop-here.here.items in
    let lt : 0 < length here = omega arith in
    let front = first-of here c.remove-place.result lt c.remove-place.ensures.value in
    let told = c.loop-here.invariant.told in
    let step = here_step told.1.comes told.0 c.loop-here.entries.items here c.remove-place.result front (c.loop-here.invariant.coming told.0 told.1) in
    let fewer = step.fewer in
    let most = told.2 in
    let few : length c.loop-here.entries.items < 64 = omega arith in
    (omega arith, (step.within, few))

pub loop-here-preserved : goal.loop-here-preserved
loop-here-preserved c =
    let here = c.loop-here.here.items in
    let lt : 0 < length here = omega arith in
    let h = c.remove-place.result in
    let front = first-of here h lt c.remove-place.ensures.value in
    record {
      coming = λ u told.
          subst (λ (t : Type 0). t) (λ j. IsInserting told.comes u (table_view (sym c.insert.ensures.items j))
          (heres_view (sym c.remove-place.ensures.items j)))
          (here_step told.comes u c.loop-here.entries.items here h front (c.loop-here.invariant.coming u told)).more;
      told = c.loop-here.invariant.told;
      listed =
          (λ j. keys_view (c.push_within.ensures.items j) ++ map (λ g. g.1.manager) (heres_view (c.remove-place.ensures.items j)))
          ∙ listed_step c.loop-here.out.items here h front c.loop-here.invariant.keys
          ∙ c.loop-here.invariant.listed;
      keys = subst AllKeysAgree (sym c.remove-place.ensures.items) (agree_step here h front c.loop-here.invariant.keys);
      room = omega arith;
      left = c.remove-place.ensures.capacity ∙ c.loop-here.invariant.left;
    }

pub returns-clause-entries : goal.returns-clause-entries
returns-clause-entries c = λ u told.
    let none = none-left (vec_len c.loop-here.here) c.loop-here.here.items c.loop-here-test.ensures (omega (arith, c.loop-here.here.ok.0)) in
    inserting_ends told.comes u (table_view c.loop-here.entries.items)
    (subst (λ hs. IsInserting told.comes u (table_view c.loop-here.entries.items) (heres_view hs)) none (c.loop-here.invariant.coming u told))
