use Rattle.std.proofs.Common.{◌≡◌, ℕ, ◌+◌, ◌-◌, ◌++◌, ◌∙◌, map, take, drop, sym, ap, arith}
use Rattle.std.proofs.lemmas.List.{take-map, drop-map, length-append, length-drop, take_all}
use Rattle.ssa_merge.specs.States.{state_view}
use Rattle.ssa_model.specs.definitions.Carry.{carry}
use Rattle.ssa_reverse.specs.Journals.{past_of, future_of}
use Rattle.ssa_turn.specs.Histories.{label_view}
use Rattle.ssa_turn_state.specs.States.{state_steps}
use Rattle.ssa_turn.proofs.InARow.{all-labels}
use Rattle.ssa_turn.proofs.timeline.Timeline.log.Goals as goal

from_nothing : (n : ℕ) → n - 0 ≡ n
from_nothing n = omega arith

pub returns-clause-past : goal.returns-clause-past
returns-clause-past c =
    let journal = c.self.inside.journal in
    let v = state_view c.self.inside.live.state in
    let labels = all-labels (λ d s. carry (state_steps d) s) (past_of journal) (future_of journal) v in
    let all = past_of journal ++ future_of journal in
    c.in_ok-past.ensures
    ∙ ap (λ n. map (λ r. label_view r.1) (take n all)) (from_nothing c.past_len-place.result)
    ∙ sym (take-map (λ r. label_view r.1) c.past_len-place.result all)
    ∙ (λ i. take (c.past_len-place.ensures.steps v i) (sym labels i))
    ∙ ap (λ t. take t.place (map (λ s. s.label) t.later)) c.self.view_is
    ∙ take-map (λ s. s.label) c.args.self.now.place c.args.self.now.later

pub returns-clause-future : goal.returns-clause-future
returns-clause-future c =
    let journal = c.self.inside.journal in
    let v = state_view c.self.inside.live.state in
    let labels = all-labels (λ d s. carry (state_steps d) s) (past_of journal) (future_of journal) v in
    let all = past_of journal ++ future_of journal in
    let place = c.past_len-place.result in
    let many = length-append (past_of journal) (future_of journal) in
    let past = c.past_len-place.ensures.records in
    let future = c.future_len.ensures.records in
    let left = length-drop place all in
    c.in_ok-future.ensures
    ∙ ap (map (λ r. label_view r.1)) (take_all (place + c.future_len.result - place) (drop place all) (omega (arith, many, past, future, left)))
    ∙ sym (drop-map (λ r. label_view r.1) place all)
    ∙ (λ i. drop (c.past_len-place.ensures.steps v i) (sym labels i))
    ∙ ap (λ t. drop t.place (map (λ s. s.label) t.later)) c.self.view_is
    ∙ drop-map (λ s. s.label) c.args.self.now.place c.args.self.now.later
