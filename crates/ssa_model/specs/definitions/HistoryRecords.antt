-- The records of a history: for each command one, which leads back over the command where it stands before the place, and forward where it does not.
use Rattle.std.specs.Prelude.{ℕ, ◌+◌, length, take, nat_lt, Option, Some, None, if◌then◌else◌}
use Rattle.ssa_model.specs.definitions.Facts.{facts, record_size}
use Rattle.ssa_model.specs.definitions.History.{Timeline, last_state}
use Rattle.ssa_model.specs.definitions.Operations.{State}
use Rattle.ssa_model.specs.definitions.Record.{record_of}

-- the state after the first n commands
abbrev pub state_at : Timeline → ℕ → State
state_at t n = last_state t.first (take n t.later)

-- where the n-th record leads from
abbrev pub kept_from : Timeline → ℕ → State
kept_from t n = state_at t (if nat_lt n t.place then n + 1 else n)

-- and where it leads to
abbrev pub kept_to : Timeline → ℕ → State
kept_to t n = state_at t (if nat_lt n t.place then n else n + 1)

-- how much the n-th record holds, if there is one
abbrev pub kept_size : Timeline → ℕ → Option ℕ
kept_size t n = if nat_lt n (length t.later) then Some (record_size (record_of (kept_from t n) (kept_to t n))) else None

-- in how many facts the states differ that it leads between
abbrev pub kept_facts : Timeline → ℕ → ℕ
kept_facts t n = facts (kept_from t n) (kept_to t n)
