use Rattle.std.proofs.Common.{◌≡◌, [], Some, true, string_bytes, subst}
use Rattle.ssa_model.specs.definitions.Json.{Text}
use Rattle.ssa_answers.specs.Asked.{asked_view}
use Rattle.ssa_disk.specs.Files.{IsAsBut}
use Rattle.ssa_program.specs.Outcome.{IsAnswered}
use Rattle.ssa_program.proofs.Calls.{change_done, change_stopped}
use Rattle.ssa_program.proofs.changing.move_bench.Goals as goal

pub returns-clause-done : goal.returns-clause-done
returns-clause-done g c =
    let draft = c.in_ok-draft.draft in
    let last = g.D.Disk.view c.move_locked-ended.new.disk in
    let new = g.D.Disk.view c.end.new.disk in
    change_done g.W.Sink.contents g.W.Sink.has_failed c.args.writer.now c.move_locked-ended.new.writer (g.D.Disk.tells ≡ true) c.args.name.now
    (string_bytes draft.name) (string_bytes draft.place.name) c.move_locked-ended.new.draft.is_placed
    (g.D.Disk.view c.args.disk.now) (g.D.Disk.view c.lock_bench.new.disk) last new
    c.in_ok-draft.ensures.own c.in_ok-draft.ensures.place c.in_ok-draft.ensures.others c.end.ensures.placed
    (subst (λ (n : Text). IsAsBut n last new) (λ i. string_bytes (c.move_locked-ended.ensures.own i)) c.end.ensures.others)
    (g.D.Made.Sink.contents draft.made ≡ Some []) (λ files. IsAnswered files c.args.name.now (asked_view c.args.asked))
    c.in_ok-draft.ensures.empty c.move_locked-ended.result c.move_locked-ended.ensures.done

pub returns-clause-stopped : goal.returns-clause-stopped
returns-clause-stopped g c =
    let draft = c.in_ok-draft.draft in
    let last = g.D.Disk.view c.move_locked-ended.new.disk in
    let new = g.D.Disk.view c.end.new.disk in
    change_stopped g.W.Sink.contents g.W.Sink.has_failed c.args.writer.now c.move_locked-ended.new.writer (g.D.Disk.tells ≡ true) c.args.name.now
    (string_bytes draft.name) (string_bytes draft.place.name) c.move_locked-ended.new.draft.is_placed
    (g.D.Disk.view c.args.disk.now) (g.D.Disk.view c.lock_bench.new.disk) last new
    c.in_ok-draft.ensures.own c.in_ok-draft.ensures.place c.in_ok-draft.ensures.others c.end.ensures.placed
    (subst (λ (n : Text). IsAsBut n last new) (λ i. string_bytes (c.move_locked-ended.ensures.own i)) c.end.ensures.others)
    (g.D.Made.Sink.contents draft.made ≡ Some []) (λ files. IsAnswered files c.args.name.now (asked_view c.args.asked))
    c.in_ok-draft.ensures.empty c.move_locked-ended.result c.move_locked-ended.ensures.stopped
