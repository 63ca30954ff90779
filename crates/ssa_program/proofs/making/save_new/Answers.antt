use Rattle.std.proofs.Common.{◌++◌, ◌∷◌, [], ℕ, List, codes, string_bytes, refl, sym, subst}
use Rattle.std.specs.Io.KnownBytes.{Appends}
use Rattle.ssa_model.specs.definitions.BenchText.{depths}
use Rattle.ssa_model.specs.definitions.Lines.{line_feed}
use Rattle.ssa_model.specs.definitions.RecordedBench.{recorded_text}
use Rattle.ssa_disk.specs.Files.{Files}
use Rattle.ssa_program.specs.Kept.{IsPut}
use Rattle.ssa_program.specs.Telling.{IsCut}
use Rattle.ssa_program.proofs.Kept.{put_after}
use Rattle.ssa_program.proofs.making.save_new.Goals as goal

pub returns-in-Ok-clause-done : goal.returns-in-Ok-clause-done
returns-in-Ok-clause-done g c = λ told.
    let draft = c.in_ok-draft.draft in
    let put : IsPut (recorded_text depths c.args.bench.now) (string_bytes draft.name) (string_bytes draft.place.name)
    (g.D.Disk.view c.take_draft.new.disk) (g.D.Disk.view c.put_draft-saved.new.disk) = c.in_ok-saved.ensures.saved told (c.in_ok-draft.ensures.empty told) in
    let stays = c.end.ensures.placed c.in_ok-saved.ensures.placed in (
      refl,
      (
        subst (λ (t : List ℕ). Appends (g.W.Sink.contents c.args.writer.now) (g.W.Sink.contents c.write_reply.new.writer) (t ++ line_feed ∷ []))
            c.in_ok-reply.ensures c.in-Ok.ensures.ok,
        put_after (recorded_text depths c.args.bench.now) (string_bytes draft.name) (string_bytes c.args.place.name ++ codes ".new")
            (string_bytes draft.place.name) (string_bytes c.args.place.name)
            (g.D.Disk.view c.args.disk.now) (g.D.Disk.view c.take_draft.new.disk) (g.D.Disk.view c.end.new.disk)
            c.in_ok-draft.ensures.own (λ i. string_bytes (c.in_ok-draft.ensures.place i).name) c.in_ok-draft.ensures.others
            (subst (λ (f : Files). IsPut (recorded_text depths c.args.bench.now) (string_bytes draft.name) (string_bytes draft.place.name)
            (g.D.Disk.view c.take_draft.new.disk) f) (sym stays) put),
      ),
    )

pub returns-in-Err-clause-stopped : goal.returns-in-Err-clause-stopped
returns-in-Err-clause-stopped g c = λ told.
    let draft = c.in_ok-draft.draft in
    let put : IsPut (recorded_text depths c.args.bench.now) (string_bytes draft.name) (string_bytes draft.place.name)
    (g.D.Disk.view c.take_draft.new.disk) (g.D.Disk.view c.put_draft-saved.new.disk) = c.in_ok-saved.ensures.saved told (c.in_ok-draft.ensures.empty told) in
    let stays = c.end.ensures.placed c.in_ok-saved.ensures.placed
    in (
      refl,
      (
        subst (λ (t : List ℕ). IsCut g.W.Sink.contents g.W.Sink.has_failed c.args.writer.now c.write_reply.new.writer (t ++ line_feed ∷ []))
            c.in_ok-reply.ensures (record { failed = c.in-Err.ensures.failed; part = c.in-Err.ensures.err }),
        put_after (recorded_text depths c.args.bench.now) (string_bytes draft.name) (string_bytes c.args.place.name ++ codes ".new")
            (string_bytes draft.place.name) (string_bytes c.args.place.name)
            (g.D.Disk.view c.args.disk.now) (g.D.Disk.view c.take_draft.new.disk) (g.D.Disk.view c.end.new.disk)
            c.in_ok-draft.ensures.own (λ i. string_bytes (c.in_ok-draft.ensures.place i).name) c.in_ok-draft.ensures.others
            (subst (λ (f : Files). IsPut (recorded_text depths c.args.bench.now) (string_bytes draft.name) (string_bytes draft.place.name)
            (g.D.Disk.view c.take_draft.new.disk) f) (sym stays) put),
      ),
    )
