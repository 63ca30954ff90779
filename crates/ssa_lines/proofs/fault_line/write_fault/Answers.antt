use Rattle.std.proofs.Common.{◌++◌, ap, ◌∙◌, subst}
use Rattle.std.proofs.lemmas.Result.{err_from_is_err_and, on_ok_weaker, on_err_weaker}
use Rattle.std.proofs.KnownBytes.{Appends-trans}
use Rattle.std.specs.Io.KnownBytes.{Appends}
use Rattle.std.specs.Prelude.{codes}
use Rattle.ssa_json.specs.Parts.{AppendsPart-after}
use Rattle.ssa_json.specs.Devices.{AppendsPart}
use Rattle.ssa_json.specs.FaultCodes.{code_view}
use Rattle.ssa_lines.specs.FaultTexts.{name_end}
use Rattle.ssa_lines.proofs.FaultTexts.{code-line}
use Rattle.ssa_lines.proofs.Lines.{AppendsPart-before}
use Rattle.ssa_lines.proofs.fault_line.write_fault.Goals as goal

pub returns-in_err-write_both-clause-err : goal.returns-in_err-write_both-clause-err
returns-in_err-write_both-clause-err g c =
    let k = code_view c.args.code in
    let p = err_from_is_err_and c.from_residual.result c.from_residual.ensures.1 in
    let whole = ap (λ n. (codes "{\"fault\":" ++ n) ++ name_end k) (c.as_bytes.ensures.value ∙ c.number.ensures) ∙ code-line k in
    rw p.1 (subst (AppendsPart _ _) whole (AppendsPart-before _ _ _ (name_end k) c.in_err-write_both.ensures.err))

pub returns-clause-ok : goal.returns-clause-ok
returns-clause-ok g c =
    let k = code_view c.args.code in
    let whole = ap (λ n. (codes "{\"fault\":" ++ n) ++ name_end k) (c.as_bytes.ensures.value ∙ c.number.ensures) ∙ code-line k in
    on_ok_weaker c.write_name.result (λ writes. subst (Appends _ _) whole (Appends-trans _ _ _ _ _ c.in_ok-write_both.ensures.ok writes))
    c.write_name.ensures.ok

pub returns-clause-err : goal.returns-clause-err
returns-clause-err g c =
    let k = code_view c.args.code in
    let whole = ap (λ n. (codes "{\"fault\":" ++ n) ++ name_end k) (c.as_bytes.ensures.value ∙ c.number.ensures) ∙ code-line k in
    on_err_weaker c.write_name.result (λ part. subst (AppendsPart _ _) whole (AppendsPart-after _ _ _ _ _ c.in_ok-write_both.ensures.ok part))
    c.write_name.ensures.err
