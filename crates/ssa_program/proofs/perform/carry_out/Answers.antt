use Rattle.std.proofs.Common.{◌≡◌, true, sym, subst}
use Rattle.std.specs.Result.{IfErr, IfOk}
use Rattle.ssa_words.specs.declared.call.Call.{Call}
use Rattle.ssa_program.specs.Done.{Changes, ChangeStops, IsDone, IsNamedBy, IsStopped}
use Rattle.ssa_program.specs.Outcome.{IsChanged}
use Rattle.ssa_program.proofs.perform.carry_out.Goals as goal

pub returns-in-Init-clause-done : goal.returns-in-Init-clause-done
returns-in-Init-clause-done g c =
    subst (λ (k : Call). IfOk c.init.result (λ s. g.D.Disk.tells ≡ true → IsDone (g.D.Disk.view c.args.disk.now) (g.D.Disk.view c.init.new.disk)
    g.W.Sink.contents g.W.Sink.has_failed c.args.writer.now c.init.new.writer
    (g.R.Source.remaining c.args.reader.now) (g.R.Source.remaining c.args.reader.now) (g.R.Source.has_failed c.args.reader.now ≡ true) k s))
    (sym c.in-Init.is) c.init.ensures.done

pub returns-in-Apply-clause-done : goal.returns-in-Apply-clause-done
returns-in-Apply-clause-done g c =
    let old = g.D.Disk.view c.args.disk.now in
    let new = g.D.Disk.view c.change_bench.new.disk in
    let left = g.R.Source.remaining c.args.reader.now in
    subst (λ (k : Call). IfOk c.change_bench.result (λ s. g.D.Disk.tells ≡ true → IsDone old new
    g.W.Sink.contents g.W.Sink.has_failed c.args.writer.now c.change_bench.new.writer left left (g.R.Source.has_failed c.args.reader.now ≡ true) k s))
    (sym c.in-Apply.is)
    (subst (λ (k : Call). IfOk c.change_bench.result (λ s. g.D.Disk.tells ≡ true → Changes old new
    g.W.Sink.contents g.W.Sink.has_failed c.args.writer.now c.change_bench.new.writer
    c.in-Apply.bench.now (λ files. IsChanged files c.in-Apply.bench.now c.in-Apply.file.now k) s))
    c.in-Apply.is c.change_bench.ensures.done)

pub returns-in-Update-clause-done : goal.returns-in-Update-clause-done
returns-in-Update-clause-done g c =
    let old = g.D.Disk.view c.args.disk.now in
    let new = g.D.Disk.view c.change_bench-in-Update.new.disk in
    let left = g.R.Source.remaining c.args.reader.now in
    subst (λ (k : Call). IfOk c.change_bench-in-Update.result (λ s. g.D.Disk.tells ≡ true → IsDone old new
    g.W.Sink.contents g.W.Sink.has_failed c.args.writer.now c.change_bench-in-Update.new.writer left left (g.R.Source.has_failed c.args.reader.now ≡ true) k s))
    (sym c.in-Update.is)
    (subst (λ (k : Call). IfOk c.change_bench-in-Update.result (λ s. g.D.Disk.tells ≡ true → Changes old new
    g.W.Sink.contents g.W.Sink.has_failed c.args.writer.now c.change_bench-in-Update.new.writer
    c.in-Update.bench.now (λ files. IsChanged files c.in-Update.bench.now c.in-Update.file.now k) s))
    c.in-Update.is c.change_bench-in-Update.ensures.done)

pub returns-in-Apply-clause-stopped : goal.returns-in-Apply-clause-stopped
returns-in-Apply-clause-stopped g c =
    let old = g.D.Disk.view c.args.disk.now in
    let new = g.D.Disk.view c.change_bench.new.disk in
    let left = g.R.Source.remaining c.args.reader.now in
    subst (λ (k : Call). IfErr c.change_bench.result (λ t. g.D.Disk.tells ≡ true → IsStopped old new
    g.W.Sink.contents g.W.Sink.has_failed c.args.writer.now c.change_bench.new.writer left left (g.R.Source.has_failed c.args.reader.now ≡ true) k t))
    (sym c.in-Apply.is)
    (subst (λ (k : Call). IfErr c.change_bench.result (λ t. g.D.Disk.tells ≡ true → ChangeStops old new
    g.W.Sink.contents g.W.Sink.has_failed c.args.writer.now c.change_bench.new.writer
    c.in-Apply.bench.now (λ files. IsChanged files c.in-Apply.bench.now c.in-Apply.file.now k) t))
    c.in-Apply.is c.change_bench.ensures.stopped)

pub returns-in-Update-clause-stopped : goal.returns-in-Update-clause-stopped
returns-in-Update-clause-stopped g c =
    let old = g.D.Disk.view c.args.disk.now in
    let new = g.D.Disk.view c.change_bench-in-Update.new.disk in
    let left = g.R.Source.remaining c.args.reader.now in
    subst (λ (k : Call). IfErr c.change_bench-in-Update.result (λ t. g.D.Disk.tells ≡ true → IsStopped old new
    g.W.Sink.contents g.W.Sink.has_failed c.args.writer.now c.change_bench-in-Update.new.writer left left (g.R.Source.has_failed c.args.reader.now ≡ true) k t))
    (sym c.in-Update.is)
    (subst (λ (k : Call). IfErr c.change_bench-in-Update.result (λ t. g.D.Disk.tells ≡ true → ChangeStops old new
    g.W.Sink.contents g.W.Sink.has_failed c.args.writer.now c.change_bench-in-Update.new.writer
    c.in-Update.bench.now (λ files. IsChanged files c.in-Update.bench.now c.in-Update.file.now k) t))
    c.in-Update.is c.change_bench-in-Update.ensures.stopped)

pub returns-in-Init-clause-named : goal.returns-in-Init-clause-named
returns-in-Init-clause-named g c = subst (λ (k : Call). IfErr c.init.result (IsNamedBy k)) (sym c.in-Init.is) c.init.ensures.named

pub returns-in-Apply-clause-named : goal.returns-in-Apply-clause-named
returns-in-Apply-clause-named g c = subst (λ (k : Call). IfErr c.change_bench.result (IsNamedBy k)) (sym c.in-Apply.is) c.change_bench.ensures.named

pub returns-in-Update-clause-named : goal.returns-in-Update-clause-named
returns-in-Update-clause-named g c = subst (λ (k : Call). IfErr c.change_bench-in-Update.result (IsNamedBy k)) (sym c.in-Update.is) c.change_bench-in-Update.ensures.named
