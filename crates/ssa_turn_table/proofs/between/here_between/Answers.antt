use Rattle.std.proofs.Common.{ap, sym, ◌∙◌, subst}
use Rattle.ssa_merge.specs.Managers.{table_view}
use Rattle.ssa_turn_table.specs.Going.{AllKeysAgree}
use Rattle.ssa_turn_table.proofs.Taking.{keys-push}
use Rattle.ssa_turn_table.proofs.Compared.{here-more, here-passed}
use Rattle.ssa_turn_table.proofs.between.here_between.Goals as goal
use Rattle.ssa_turn_table.proofs.between.here_between.Goals.{then-not-is_in_table+in_ok-here_at+in_ok-push, else-not-is_in_table}

pub loop-place-preserved : goal.loop-place-preserved
loop-place-preserved c =
    let t = table_view c.args.from.now in
    let es = c.args.to.now in
    let i = c.loop-place.place in
    let e = c.index-to-place.result in
    let hs = c.loop-place.here.items in
    let before = c.loop-place.invariant in
    elim c.if-not-is_in_table.branch [
      | then-not-is_in_table+in_ok-here_at+in_ok-push w ↦
          let made = ap (λ v. v.items) w.here-is ∙ w.in_ok-push.ensures.items in
          record {
            told =
                here-more t es i e hs _ _ c.loop-place-test.true c.index-to-place.is (sym c.is_in_table.ensures ∙ w.if-not-is_in_table.true)
                before.told w.in_ok-here_at.ensures.here made;
            keys = subst AllKeysAgree (sym made) (keys-push hs _ before.keys w.in_ok-here_at.ensures.keys);
          }
      | else-not-is_in_table w ↦
          let made = ap (λ v. v.items) w.here-is in
          record {
            told =
                here-passed t es i e hs _ c.loop-place-test.true c.index-to-place.is (sym c.is_in_table.ensures ∙ w.if-not-is_in_table.false)
                before.told made;
            keys = subst AllKeysAgree (sym made) before.keys;
          }
    ]
