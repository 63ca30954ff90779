use Rattle.std.proofs.Common.{◌≡◌, ◌≤◌, ◌+◌, ap, arith}
use Rattle.ssa_model.specs.definitions.Answers.{lone_state}
use Rattle.ssa_model.specs.definitions.History.{Bench, past_len}
use Rattle.ssa_model.specs.laws.LineByLine.{later_from}
use Rattle.ssa_json.specs.Readings.{readings}
use Rattle.ssa_file.specs.Heads.{place_view}
use Rattle.ssa_bench.specs.Loading.{ReadsOn}
use Rattle.ssa_bench.proofs.LoadedParts.{fault-handed}
use Rattle.ssa_bench.proofs.LoadedBench.{steps-end-refused, steps-read, steps-refused}
use Rattle.ssa_bench.proofs.load.read_later.Goals as goal

pub returns-in_err-read_steps-clause-read : goal.returns-in_err-read_steps-clause-read
returns-in_err-read_steps-clause-read g c =
    let fault = c.in_err-read_steps.field-0.0 in
    let place = c.args.place.now in
    let first = c.args.bench.now in
    let last = c.read_steps.new.bench in
    let a = g.R.Source.remaining c.args.reader.now in
    let b = g.R.Source.remaining c.read_steps.new.reader in
    fault-handed c.from_residual.result fault (ReadsOn (later_from readings (place_view place) first) a b c.args.room.now last) c.from_residual.ensures.1
    (steps-refused place first last a b b c.args.room.now c.read_steps.new.room fault c.in_err-read_steps.ensures.read)

pub returns-in_err-read_end-clause-read : goal.returns-in_err-read_end-clause-read
returns-in_err-read_end-clause-read g c =
    let fault = c.in_err-read_end.field-0.0 in
    let place = c.args.place.now in
    let first = c.args.bench.now in
    let last = c.read_steps.new.bench in
    let a = g.R.Source.remaining c.args.reader.now in
    let d = g.R.Source.remaining c.read_end.new.reader in
    fault-handed c.from_residual-in_err-read_end.result fault (ReadsOn (later_from readings (place_view place) first) a d c.args.room.now last)
    c.from_residual-in_err-read_end.ensures.1
    (steps-end-refused place first last a _ d c.args.room.now c.read_steps.new.room fault c.in_ok-read_steps.ensures.read c.in_err-read_end.ensures.read)

pub read_steps-requires : goal.read_steps-requires
read_steps-requires g c =
    let none = ap (λ (t : _). past_len t) c.requires.lone in
    let few = c.requires.few in
    let within = c.requires.within in
    omega (arith, none, few, within)

pub go_to-requires : goal.go_to-requires
go_to-requires g c =
    let none = ap (λ (t : _). past_len t) c.requires.lone in
    let many = c.in_ok-read_steps.ensures.many in
    let behind = c.in_ok-read_steps.ensures.within in
    let within = c.requires.within in
    omega (arith, none, many, behind, within)

pub returns-clause-read : goal.returns-clause-read
returns-clause-read g c =
    steps-read c.args.place.now c.args.bench.now c.read_steps.new.bench (g.R.Source.remaining c.args.reader.now) _ _ c.args.room.now c.read_steps.new.room
    c.go_to.new.self c.go_to.ensures c.in_ok-read_steps.ensures.read c.in_ok-read_end.ensures.read
