use Rattle.std.proofs.Common.{◌∙◌, ◌++◌, ◌∷◌, [], sym, ap, arith}
use Rattle.std.proofs.lemmas.List.{map-append}
use Rattle.ssa_reverse.specs.Journals.{past_of, future_of}
use Rattle.ssa_turn.specs.Histories.{label_view, lent_labels}
use Rattle.ssa_turn.proofs.InARow.{from-place}
use Rattle.ssa_turn.proofs.timeline.labels_between.Goals as goal

pub loop-place-preserved : goal.loop-place-preserved
loop-place-preserved c =
    let journal = c.args.journal.now in
    let one = c.in-Some.entry.1 in
    record {
      found = ap lent_labels c.in_ok-push-in-Some.ensures.items
          ∙ map-append (λ l. label_view l.now) c.loop-place.found.items (one ∷ [])
          ∙ ap (λ ls. ls ++ label_view one.now ∷ []) c.loop-place.invariant.found
          ∙ sym (from-place (λ r. label_view r.1) (past_of journal ++ future_of journal) c.args.from c.loop-place.place (
            c.in-Some.entry.0.now,
            one.now,
          ) c.loop-place.invariant.order c.in-Some.ensures.value);
      order = omega (arith, c.loop-place.invariant.order);
    }
