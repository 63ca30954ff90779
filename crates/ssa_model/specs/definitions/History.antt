-- The history of a bench: all its states in a row, and a place among them.
use Rattle.std.specs.Prelude.{ℕ, ◌+◌, ◌-◌, List, [], ◌∷◌, ◌++◌, Bool, ◌&&◌, if◌then◌else◌, length, take, nat_le, nat_lt}
use Rattle.std.specs.List.{list_all}
use Rattle.ssa_model.specs.definitions.Json.{Text}
use Rattle.ssa_model.specs.definitions.Limits.{most_name_bytes}
use Rattle.ssa_model.specs.definitions.Schema.{Schema}
use Rattle.ssa_model.specs.definitions.Objects.{Identity}
use Rattle.ssa_model.specs.definitions.Parts.{Actor}
use Rattle.ssa_model.specs.definitions.Operations.{State}

pub data Label : Type 0 where
  -- who, force, moment
  applied : Actor → Bool → Text → Label
  -- who, moment
  updated : Actor → Text → Label
  stripped : Label

-- a state after the first, and the command that made it
pub record Step : Type 0 where
  pub label : Label
  pub state : State

-- All states in a row; `place` counts those before the present one.
pub record Timeline : Type 0 where
  pub first : State
  pub later : List Step
  pub place : ℕ

pub record Bench : Type 0 where
  pub schema : Schema
  pub identity : Identity
  -- how many commands it keeps to be undone
  pub depth : ℕ
  pub timeline : Timeline

abbrev pub last_state : State → List Step → State
last_state s [] = s
last_state s (t ∷ ts) = last_state t.state ts

abbrev pub present : Timeline → State
present t = last_state t.first (take t.place t.later)

abbrev pub past_len : Timeline → ℕ
past_len t = t.place

abbrev pub future_len : Timeline → ℕ
future_len t = length t.later - t.place

-- what came after the place is cut off, and the new state is the present one
abbrev pub appended : Timeline → Label → State → Timeline
appended t label s = record { first = t.first; later = take t.place t.later ++ record { label = label; state = s } ∷ []; place = t.place + 1 }

-- a new state before all others, which was the first of them, and the place goes there
abbrev pub preceded : Timeline → Label → State → Timeline
preceded t label s = record { first = s; later = record { label = label; state = t.first } ∷ t.later; place = 0 }

abbrev pub moved_to : Timeline → ℕ → Timeline
moved_to t n = record { first = t.first; later = t.later; place = n }

-- without the oldest state, where there is a later one
abbrev pub forgotten : Timeline → Timeline
forgotten t = elim t.later [ [] ↦ t | s ∷ ss ↦ record { first = s.state; later = ss; place = t.place - 1 } ]

-- without the oldest state where more than so many stand before the place
abbrev pub held : ℕ → Timeline → Timeline
held depth t = if nat_lt depth t.place then forgotten t else t

-- the bench with another timeline
abbrev pub with_timeline : Bench → Timeline → Bench
with_timeline bench t = record { schema = bench.schema; identity = bench.identity; depth = bench.depth; timeline = t }

-- the bench with a new state, and without the oldest one where its past is longer than its depth
abbrev pub advanced : Bench → Label → State → Bench
advanced bench label s = with_timeline bench (held bench.depth (appended bench.timeline label s))

abbrev pub is_name_byte : ℕ → Bool
is_name_byte b = nat_le 32 b && nat_le b 126

-- 1 to 128 printable ASCII bytes
abbrev pub is_manager_name : Text → Bool
is_manager_name n = nat_le 1 (length n) && (nat_le (length n) most_name_bytes && list_all is_name_byte n)
