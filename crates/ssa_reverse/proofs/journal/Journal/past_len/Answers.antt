use Rattle.std.proofs.Common.{rules, ◌≡◌, ◌∙◌, sym, box_value, length, reverse}
use Rattle.std.proofs.lemmas.List.{length-map, length-reverse}
use Rattle.ssa_reverse.specs.Journals.{leads, past_of}
use Rattle.ssa_reverse.proofs.journal.Journal.past_len.Goals as goal
use Rattle.ssa_reverse.specs.Timeline.{steps-length}

pub returns-clause-records : goal.returns-clause-records
returns-clause-records g c =
    let journal = c.args.self.now in
    let counted : c.len.result ≡ length journal.past.items = search rules in
    counted ∙ sym (length-map journal.past.items box_value)

pub returns-clause-steps : goal.returns-clause-steps
returns-clause-steps g c = λ v.
    let past = past_of c.args.self.now in
    returns-clause-records g c ∙ sym (length-reverse past) ∙ sym (steps-length (leads g.T.Reversible) (reverse past) v)
