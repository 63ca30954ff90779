-- A record of the history is the one of the journal at its number.
use Rattle.std.proofs.Common.{◌++◌, ◌∙◌, ◌<◌, map, length, slice_get, option_map, Option, Some, None, IfSome, sym, ap, subst}
use Rattle.std.proofs.lemmas.Option.{slice_get-map}
use Rattle.ssa_merge.specs.States.{state_view}
use Rattle.ssa_model.specs.definitions.History as model
use Rattle.ssa_model.specs.definitions.HistoryRecords.{kept_from, kept_to}
use Rattle.ssa_model.specs.definitions.Record.{record_of}
use Rattle.ssa_reverse.specs.Journals.{future_of, past_of}
use Rattle.ssa_turn.specs.Histories.{label_view, timeline_view}
use Rattle.ssa_turn_state.specs.States.{HasStateRoom, IsTaken, state_steps}
use Rattle.ssa_turn.proofs.InARow.{all-labels}
use Rattle.ssa_turn.proofs.KeptRecords.{led_to, record-between, record-is, records-many}
use Rattle.ssa_turn.proofs.timeline.Timeline.entry.Goals as goal

if-some : {A : Type 0} (o : Option A) (P Q : A → Type 0) → ((a : A) → P a → Q a) → IfSome o P → IfSome o Q
if-some None P Q f h = tt
if-some (Some a) P Q f h = f a h

pub returns-clause-within : goal.returns-clause-within
returns-clause-within c =
    let many = records-many c.self.inside ∙ ap (λ t. length t.later) c.self.view_is in
    (λ some. subst (λ n. c.args.n < n) many (c.entry.ensures.within.0 some), λ lt. c.entry.ensures.within.1 (subst (λ n. c.args.n < n) (sym many) lt))

pub returns-clause-steps : goal.returns-clause-steps
returns-clause-steps c =
    if-some c.entry.result _ _
    (λ e at.
    record-is c.self.inside c.self.invariant c.args.n (e.0.now, e.1.now) at ∙ ap (λ t. record_of (kept_from t c.args.n) (kept_to t c.args.n)) c.self.view_is)
    c.entry.ensures.value

pub returns-clause-taken : goal.returns-clause-taken
returns-clause-taken c =
    if-some c.entry.result _ _
    (λ e at.
    let led = record-between c.self.inside c.self.invariant c.args.n (e.0.now, e.1.now) at in
    let here : IsTaken (state_steps e.0.now) (kept_from (timeline_view c.self.inside) c.args.n) (kept_to (timeline_view c.self.inside) c.args.n) =
    subst (IsTaken (state_steps e.0.now) (kept_from (timeline_view c.self.inside) c.args.n)) led.to led.fits.0 in
    subst (λ (t : model.Timeline). IsTaken (state_steps e.0.now) (kept_from t c.args.n) (kept_to t c.args.n)) c.self.view_is here)
    c.entry.ensures.value

pub returns-clause-room : goal.returns-clause-room
returns-clause-room c =
    if-some c.entry.result _ _
    (λ e at.
    subst (λ (t : model.Timeline). HasStateRoom e.0.now (kept_from t c.args.n)) c.self.view_is
    (record-between c.self.inside c.self.invariant c.args.n (e.0.now, e.1.now) at).fits.1)
    c.entry.ensures.value

pub returns-clause-command : goal.returns-clause-command
returns-clause-command c =
    let journal = c.self.inside.journal in
    let labels = all-labels led_to (past_of journal) (future_of journal) (state_view c.self.inside.live.state) in
    if-some c.entry.result _ _
    (λ e at.
    ap (λ t. slice_get (map (λ s. s.label) t.later) c.args.n) (sym c.self.view_is)
    ∙ ap (λ ls. slice_get ls c.args.n) labels
    ∙ slice_get-map (λ r. label_view r.1) (past_of journal ++ future_of journal) c.args.n
    ∙ ap (option_map (λ r. label_view r.1)) at)
    c.entry.ensures.value
