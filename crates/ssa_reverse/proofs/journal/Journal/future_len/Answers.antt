use Rattle.std.proofs.Common.{rules, ◌≡◌, ◌∙◌, sym, box_value, length}
use Rattle.std.proofs.lemmas.List.{length-map, length-reverse}
use Rattle.ssa_reverse.specs.Journals.{entries_of, future_of, leads}
use Rattle.ssa_reverse.proofs.journal.Journal.future_len.Goals as goal
use Rattle.ssa_reverse.specs.Timeline.{steps-length}

pub returns-clause-records : goal.returns-clause-records
returns-clause-records g c =
    let journal = c.args.self.now in
    let counted : c.len.result ≡ length journal.future.items = search rules in
    counted ∙ sym (length-map journal.future.items box_value) ∙ sym (length-reverse (entries_of journal.future.items))

pub returns-clause-steps : goal.returns-clause-steps
returns-clause-steps g c = λ v.
    returns-clause-records g c ∙ sym (steps-length (leads g.T.Reversible) (future_of c.args.self.now) v)
