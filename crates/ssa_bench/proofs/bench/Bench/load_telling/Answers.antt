use Rattle.ssa_model.specs.definitions.BenchOfStates.{schema_in}
use Rattle.ssa_model.specs.definitions.BenchOfFile.{file_head}
use Rattle.ssa_model.specs.laws.LineByLine.{shown_in}
use Rattle.ssa_json.specs.Readings.{readings}
use Rattle.ssa_file.specs.Heads.{head_view}
use Rattle.ssa_bench.specs.Loading.{Loads}
use Rattle.ssa_bench.proofs.LoadedParts.{fault-handed}
use Rattle.ssa_bench.proofs.LoadedBench.{behind_head, behind_schema, behind_shown, loaded, part-refused, reached-none, reached-part, rest-refused}
use Rattle.ssa_bench.proofs.bench.Bench.load_telling.Goals as goal

pub returns-in_err-head-clause-loaded : goal.returns-in_err-head-clause-loaded
returns-in_err-head-clause-loaded g c =
    let fault = c.in_err-head.field-0.0 in
    let a = g.R.Source.remaining c.args.reader.now in
    fault-handed c.from_residual.result fault (Loads a (g.R.Source.remaining c.read_head.new.reader)) c.from_residual.ensures.1
    (part-refused file_head behind_head a a _ _ c.read_head.new.room fault c.files_are_read.ensures c.files_are_taken.ensures.taken (reached-none a)
    c.in_err-head.ensures.read)

pub returns-in_err-schema-clause-loaded : goal.returns-in_err-schema-clause-loaded
returns-in_err-schema-clause-loaded g c =
    let fault = c.in_err-schema.field-0.0 in
    let a = g.R.Source.remaining c.args.reader.now in
    let head = head_view c.in_ok-head.head in
    let one = reached-part file_head behind_head a a _ _ c.read_head.new.room head (reached-none a) c.in_ok-head.ensures.read in
    fault-handed c.from_residual-in_err-schema.result fault (Loads a (g.R.Source.remaining c.read_schema.new.reader)) c.from_residual-in_err-schema.ensures.1
    (part-refused schema_in (behind_schema head) a _ _ _ c.read_schema.new.room fault c.files_are_read.ensures c.files_are_taken.ensures.taken one
    c.in_err-schema.ensures.read)

pub returns-in_err-bench-clause-loaded : goal.returns-in_err-bench-clause-loaded
returns-in_err-bench-clause-loaded g c =
    let fault = c.in_err-bench.field-0.0 in
    let a = g.R.Source.remaining c.args.reader.now in
    let head = head_view c.in_ok-head.head in
    let schema = c.in_ok-schema.schema in
    let one = reached-part file_head behind_head a a _ _ c.read_head.new.room head (reached-none a) c.in_ok-head.ensures.read in
    let two = reached-part schema_in (behind_schema head) a _ _ _ c.read_schema.new.room schema one c.in_ok-schema.ensures.read in
    fault-handed c.from_residual-in_err-bench.result fault (Loads a (g.R.Source.remaining c.read_shown.new.reader)) c.from_residual-in_err-bench.ensures.1
    (part-refused (shown_in readings head schema) (behind_shown head) a _ _ _ c.read_shown.new.room fault c.files_are_read.ensures
    c.files_are_taken.ensures.taken two c.in_err-bench.ensures.read)

pub returns-in_err-read_rest-clause-loaded : goal.returns-in_err-read_rest-clause-loaded
returns-in_err-read_rest-clause-loaded g c =
    let fault = c.in_err-read_rest.field-0.0 in
    let a = g.R.Source.remaining c.args.reader.now in
    let head = head_view c.in_ok-head.head in
    let schema = c.in_ok-schema.schema in
    let one = reached-part file_head behind_head a a _ _ c.read_head.new.room head (reached-none a) c.in_ok-head.ensures.read in
    let two = reached-part schema_in (behind_schema head) a _ _ _ c.read_schema.new.room schema one c.in_ok-schema.ensures.read in
    let three = reached-part (shown_in readings head schema) (behind_shown head) a _ _ _ c.read_shown.new.room c.in_ok-bench.bench two
    c.in_ok-bench.ensures.read in
    fault-handed c.from_residual-in_err-read_rest.result fault (Loads a (g.R.Source.remaining c.read_rest.new.reader))
    c.from_residual-in_err-read_rest.ensures.1
    (rest-refused (behind_shown head c.in_ok-bench.bench) a _ _ c.read_shown.new.room fault c.files_are_read.ensures c.files_are_taken.ensures.taken three
    c.in_err-read_rest.ensures.read)

pub returns-clause-loaded : goal.returns-clause-loaded
returns-clause-loaded g c =
    let a = g.R.Source.remaining c.args.reader.now in
    let head = head_view c.in_ok-head.head in
    let schema = c.in_ok-schema.schema in
    let one = reached-part file_head behind_head a a _ _ c.read_head.new.room head (reached-none a) c.in_ok-head.ensures.read in
    let two = reached-part schema_in (behind_schema head) a _ _ _ c.read_schema.new.room schema one c.in_ok-schema.ensures.read in
    let three = reached-part (shown_in readings head schema) (behind_shown head) a _ _ _ c.read_shown.new.room c.in_ok-bench.bench two
    c.in_ok-bench.ensures.read in
    loaded (behind_shown head c.in_ok-bench.bench) c.read_rest.new.bench a _ _ c.read_shown.new.room c.files_are_read.ensures c.files_are_taken.ensures.file
    c.is_valid.ensures c.paths_are_read.ensures three c.in_ok-read_rest.ensures.read
