use Rattle.std.proofs.Common.{List, ℕ, [], ◌∷◌, ◌++◌, ap, ◌∙◌, subst}
use Rattle.std.proofs.lemmas.Result.{err_from_is_err_and, on_ok_weaker, on_err_weaker}
use Rattle.std.proofs.KnownBytes.{Appends-trans}
use Rattle.std.specs.Io.KnownBytes.{Appends}
use Rattle.std.specs.Prelude.{codes}
use Rattle.ssa_model.specs.definitions.Lines.{line_feed}
use Rattle.ssa_json.specs.Devices.{AppendsPart}
use Rattle.ssa_json.specs.Parts.{AppendsPart-after}
use Rattle.ssa_lines.proofs.Lines.{AppendsPart-before}
use Rattle.ssa_lines.proofs.fault_line.write_name.Goals as goal

-- the line from behind its number on, with this name
abbrev named : List ℕ → List ℕ
named n = (codes ",\"name\":\"" ++ n) ++ (codes "\"}" ++ line_feed ∷ [])

pub returns-in_err-write_both-clause-err : goal.returns-in_err-write_both-clause-err
returns-in_err-write_both-clause-err g c =
    let p = err_from_is_err_and c.from_residual.result c.from_residual.ensures.1 in
    rw p.1 (subst (AppendsPart _ _) (ap named (c.as_bytes.ensures.value ∙ c.name.ensures))
    (AppendsPart-before _ _ _ (codes "\"}" ++ line_feed ∷ []) c.in_err-write_both.ensures.err))

pub returns-clause-ok : goal.returns-clause-ok
returns-clause-ok g c =
    on_ok_weaker c.write_line.result
    (λ writes. subst (Appends _ _) (ap named (c.as_bytes.ensures.value ∙ c.name.ensures)) (Appends-trans _ _ _ _ _ c.in_ok-write_both.ensures.ok writes))
    c.write_line.ensures.ok

pub returns-clause-err : goal.returns-clause-err
returns-clause-err g c =
    on_err_weaker c.write_line.result
    (λ part. subst (AppendsPart _ _) (ap named (c.as_bytes.ensures.value ∙ c.name.ensures)) (AppendsPart-after _ _ _ _ _ c.in_ok-write_both.ensures.ok part))
    c.write_line.ensures.err
