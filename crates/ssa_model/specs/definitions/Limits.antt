-- The limits of the workbench, each under its name.
use Rattle.std.specs.Prelude.{ℕ}

-- places of a body: 20,000 paths, and the root
abbrev pub most_places : ℕ
most_places = 20001

-- managers of an object
abbrev pub most_managers : ℕ
most_managers = 64

-- commands that can be undone
abbrev pub most_past : ℕ
most_past = 1000

-- bytes of a manager's name
abbrev pub most_name_bytes : ℕ
most_name_bytes = 128

-- levels of a schema
abbrev pub most_levels : ℕ
most_levels = 32

-- how deep the lists and objects of a JSON text nest
abbrev pub most_depth : ℕ
most_depth = 127

-- bytes of a session's line, without its line feed
abbrev pub most_line_bytes : ℕ
most_line_bytes = 1048576

-- bytes of a schema file, and of an object file
abbrev pub most_input_bytes : ℕ
most_input_bytes = 1048576

-- bytes of a bench file
abbrev pub most_bench_bytes : ℕ
most_bench_bytes = 67108864
