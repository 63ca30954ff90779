use Rattle.std.proofs.Common.{Option, Ok, subst}
use Rattle.ssa_lines.specs.Loading.{ReadsValue}
use Rattle.ssa_lines.specs.declared.loading.FileLine.{FileLine}
use Rattle.ssa_bench.specs.Loading.{ReadsLine}
use Rattle.ssa_bench.proofs.LoadedParts.{line-found, line-missing, line-fault, fault-handed}
use Rattle.ssa_bench.proofs.load.next_line.Goals as goal

pub returns-in_err-line-clause-read : goal.returns-in_err-line-clause-read
returns-in_err-line-clause-read g c =
    let fault = c.in_err-line.field-0.0 in
    let told = ReadsLine (g.R.Source.remaining c.args.reader.now) (g.R.Source.remaining c.read_value.new.reader) c.args.room.now c.read_value.new.room in
    fault-handed c.from_residual.result fault told c.from_residual.ensures.1 (line-fault _ _ _ _ fault c.in_err-line.ensures.read)

pub returns-in-Some-clause-read : goal.returns-in-Some-clause-read
returns-in-Some-clause-read g c =
    let told : Option FileLine → _ = λ o. ReadsValue (g.R.Source.remaining c.args.reader.now) (g.R.Source.remaining c.read_value.new.reader) c.args.room.now
    c.read_value.new.room (Ok o) in
    line-found _ _ _ _ c.in-Some.line (subst told c.in-Some.is c.in_ok-line.ensures.read)

pub returns-in-None-clause-read : goal.returns-in-None-clause-read
returns-in-None-clause-read g c =
    let told : Option FileLine → _ = λ o. ReadsValue (g.R.Source.remaining c.args.reader.now) (g.R.Source.remaining c.read_value.new.reader) c.args.room.now
    c.read_value.new.room (Ok o) in
    line-missing _ _ _ _ (subst told c.in-None.is c.in_ok-line.ensures.read)
