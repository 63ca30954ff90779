use Rattle.std.proofs.lemmas.Result.{on_ok_weaker, on_err_weaker}
use Rattle.std.proofs.KnownBytes.{Appends-trans}
use Rattle.ssa_json.specs.Parts.{AppendsPart-after}
use Rattle.ssa_lines.proofs.fault_line.write_both.Goals as goal

pub returns-clause-ok : goal.returns-clause-ok
returns-clause-ok g c = on_ok_weaker c.write_all-2.result (λ writes. Appends-trans _ _ _ _ _ c.in_ok-write_all.ensures.ok writes) c.write_all-2.ensures.ok

pub returns-clause-err : goal.returns-clause-err
returns-clause-err g c = on_err_weaker c.write_all-2.result (λ part. AppendsPart-after _ _ _ _ _ c.in_ok-write_all.ensures.ok part) c.write_all-2.ensures.err
