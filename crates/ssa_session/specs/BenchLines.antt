-- What a bench answers to a line, for the commands that are there.
use Rattle.std.specs.Prelude.{ℕ, List}
use Rattle.ssa_model.specs.definitions.History as model
use Rattle.ssa_model.specs.definitions.Session.{line_answer}
use Rattle.ssa_json.specs.Readings.{readings}

-- the reply's text
abbrev pub line_reply : model.Bench → List ℕ → List ℕ
line_reply bench line = (line_answer readings bench line).0

-- the bench after the line
abbrev pub bench_after : model.Bench → List ℕ → model.Bench
bench_after bench line = (line_answer readings bench line).1
