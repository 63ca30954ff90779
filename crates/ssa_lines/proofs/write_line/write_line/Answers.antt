use Rattle.std.proofs.lemmas.Result.{err_from_is_err_and}
use Rattle.std.proofs.KnownBytes.{Appends-trans, Appends-kept}
use Rattle.ssa_json.specs.Parts.{AppendsPart-whole, AppendsPart-after, OnErr-always}
use Rattle.ssa_lines.proofs.write_line.write_line.Goals as goal

pub returns-in_err-write_all-2-clause-err : goal.returns-in_err-write_all-2-clause-err
returns-in_err-write_all-2-clause-err g c =
    let p = err_from_is_err_and c.from_residual-in_err-write_all-2.result c.from_residual-in_err-write_all-2.ensures.1 in
    rw p.1 (AppendsPart-after _ _ _ _ _ c.in_ok-write_all.ensures.ok c.in_err-write_all-2.ensures.err)

pub returns-clause-err : goal.returns-clause-err
returns-clause-err g c =
    OnErr-always c.flush.result _ (AppendsPart-whole _ _ _ (Appends-kept _ _ _ _
    (Appends-trans _ _ _ _ _ c.in_ok-write_all.ensures.ok c.in_ok-write_all-2.ensures.ok) c.flush.ensures.bytes))
