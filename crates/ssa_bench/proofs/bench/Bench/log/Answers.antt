use Rattle.std.proofs.Common.{sym, ap, ◌∙◌, take, drop}
use Rattle.std.proofs.lemmas.List.{take-map, drop-map}
use Rattle.ssa_model.specs.definitions.Answers.{logged, labels_of}
use Rattle.ssa_bench.proofs.bench.Bench.log.Goals as goal

pub returns : goal.returns
returns c =
    let t = c.self.inside.timeline in
    let past = take-map (λ s. s.label) t.place t.later ∙ sym c.in_ok-log.ensures.past in
    let future = drop-map (λ s. s.label) t.place t.later ∙ sym c.in_ok-log.ensures.future in
    sym (ap (λ b. (logged (take b.timeline.place (labels_of b)) (drop b.timeline.place (labels_of b)), c.args.self.now)) c.self.view_is)
    ∙ (λ i. (logged (past i) (future i), c.args.self.now))
