-- Histories whose states are all valid.
use Rattle.std.proofs.Common.{ℕ, List, [], ◌∷◌, take}
use Rattle.std.specs.List.{All}
use Rattle.std.proofs.lemmas.List.Elements.{All-head, All-tail, All-take, All-push, All-nil}
use Rattle.ssa_model.specs.definitions.Kind.{Kind}
use Rattle.ssa_model.specs.definitions.Operations.{State}
use Rattle.ssa_model.specs.definitions.History.{Label, Step, Timeline, last_state, moved_to, present, appended}
use Rattle.ssa_model.specs.definitions.HistoryRecords.{state_at}
use Rattle.ssa_model.specs.definitions.Answers.{lone_state}
use Rattle.ssa_model.specs.definitions.Valid.{IsValidState, MakesValid, AllValid}

last_valid : (kind : Kind) (s : State) (ts : List Step) → IsValidState kind s → All (MakesValid kind) ts → IsValidState kind (last_state s ts)
last_valid kind s [] h all = h
last_valid kind s (t ∷ ts) h all = last_valid kind t.state ts (All-head (MakesValid kind) t ts all) (All-tail (MakesValid kind) t ts all)

-- where all states of a history are valid, so is the present one
pub present_valid : (kind : Kind) (t : Timeline) → AllValid kind t → IsValidState kind (present t)
present_valid kind t h = last_valid kind t.first (take t.place t.later) h.first (All-take (MakesValid kind) t.place t.later h.later)

-- each state of a valid history is valid
pub state-valid : (kind : Kind) (t : Timeline) (n : ℕ) → AllValid kind t → IsValidState kind (state_at t n)
state-valid kind t n h = present_valid kind (moved_to t n) (record { first = h.first; later = h.later })

-- and so are all with a valid state behind the present one
pub appended_valid : (kind : Kind) (t : Timeline) (label : Label) (s : State) → AllValid kind t → IsValidState kind s → AllValid kind (appended t label s)
appended_valid kind t label s h valid = record {
  first = h.first;
  later = All-push (MakesValid kind) (take t.place t.later) (record { label = label; state = s }) (All-take (MakesValid kind) t.place t.later h.later) valid;
}

-- the history of one valid state has valid states alone
pub lone_valid : (kind : Kind) (s : State) → IsValidState kind s → AllValid kind (lone_state s)
lone_valid kind s h = record { first = h; later = All-nil (MakesValid kind) }
