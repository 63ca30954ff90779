use Rattle.ssa_json.specs.View.{view}
use Rattle.ssa_bench.specs.Loading.{ReadsHead}
use Rattle.ssa_bench.proofs.LoadedParts.{fault-handed}
use Rattle.ssa_bench.proofs.LoadedHeads.{head-no-io, head-read, head-unread}
use Rattle.ssa_bench.proofs.load.read_head.Goals as goal

pub returns-in_err-line-clause-read : goal.returns-in_err-line-clause-read
returns-in_err-line-clause-read g c =
    let fault = c.in_err-line.field-0.0 in
    let told = ReadsHead (g.R.Source.remaining c.args.reader.now) (g.R.Source.remaining c.next_line.new.reader) c.args.room.now c.next_line.new.room in
    fault-handed c.from_residual.result fault told c.from_residual.ensures.1 (head-unread _ _ _ _ fault c.in_err-line.ensures.read)

pub returns-clause-read : goal.returns-clause-read
returns-clause-read g c = head-read _ _ _ _ c.in_ok-line.line c.head_of.result c.in_ok-line.ensures.read c.head_of.ensures.taken

pub returns-clause-failed : goal.returns-clause-failed
returns-clause-failed g c = λ e. absurd (head-no-io c.head_of.result (view c.in_ok-line.line.value) c.head_of.ensures.taken e)
