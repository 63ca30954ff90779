use Rattle.std.proofs.Common.{◌≡◌, [], Some, true, string_bytes, subst}
use Rattle.ssa_model.specs.definitions.Json.{Text}
use Rattle.ssa_disk.specs.Files.{IsAsBut}
use Rattle.ssa_program.specs.Done.{BreaksOff, RunsToEnd}
use Rattle.ssa_program.proofs.Calls.{session_done, session_stopped}
use Rattle.ssa_program.proofs.holding.hold_session.Goals as goal

pub returns-clause-done : goal.returns-clause-done
returns-clause-done g c =
    let draft = c.in_ok-draft.draft in
    let left = g.R.Source.remaining c.args.reader.now in
    let left_after = g.R.Source.remaining c.hold_locked-ended.new.reader in
    let written = g.W.Sink.contents c.args.writer.now in
    let written_after = g.W.Sink.contents c.hold_locked-ended.new.writer in
    let last = g.D.Disk.view c.hold_locked-ended.new.disk in
    let new = g.D.Disk.view c.end.new.disk in
    session_done (g.D.Disk.tells ≡ true) (RunsToEnd left left_after written written_after)
    (BreaksOff (g.R.Source.has_failed c.hold_locked-ended.new.reader ≡ true) (g.W.Sink.has_failed c.hold_locked-ended.new.writer ≡ true) left left_after written written_after)
    (c.hold_locked-ended.new.writer ≡ c.args.writer.now)
    c.args.name.now (string_bytes draft.name) (string_bytes draft.place.name) c.hold_locked-ended.new.draft.is_placed
    (g.D.Disk.view c.args.disk.now) (g.D.Disk.view c.lock_bench.new.disk) last new
    c.in_ok-draft.ensures.own c.in_ok-draft.ensures.place c.in_ok-draft.ensures.others c.end.ensures.placed
    (subst (λ (n : Text). IsAsBut n last new) (λ i. string_bytes (c.hold_locked-ended.ensures.own i)) c.end.ensures.others)
    (g.D.Made.Sink.contents draft.made ≡ Some []) c.in_ok-draft.ensures.empty c.hold_locked-ended.result c.hold_locked-ended.ensures.done

pub returns-clause-stopped : goal.returns-clause-stopped
returns-clause-stopped g c =
    let draft = c.in_ok-draft.draft in
    let left = g.R.Source.remaining c.args.reader.now in
    let left_after = g.R.Source.remaining c.hold_locked-ended.new.reader in
    let written = g.W.Sink.contents c.args.writer.now in
    let written_after = g.W.Sink.contents c.hold_locked-ended.new.writer in
    let last = g.D.Disk.view c.hold_locked-ended.new.disk in
    let new = g.D.Disk.view c.end.new.disk in
    session_stopped (g.D.Disk.tells ≡ true) (RunsToEnd left left_after written written_after)
    (BreaksOff (g.R.Source.has_failed c.hold_locked-ended.new.reader ≡ true) (g.W.Sink.has_failed c.hold_locked-ended.new.writer ≡ true) left left_after written written_after)
    (c.hold_locked-ended.new.writer ≡ c.args.writer.now)
    c.args.name.now (string_bytes draft.name) (string_bytes draft.place.name) c.hold_locked-ended.new.draft.is_placed
    (g.D.Disk.view c.args.disk.now) (g.D.Disk.view c.lock_bench.new.disk) last new
    c.in_ok-draft.ensures.own c.in_ok-draft.ensures.place c.in_ok-draft.ensures.others c.end.ensures.placed
    (subst (λ (n : Text). IsAsBut n last new) (λ i. string_bytes (c.hold_locked-ended.ensures.own i)) c.end.ensures.others)
    c.hold_locked-ended.result c.hold_locked-ended.ensures.stopped
