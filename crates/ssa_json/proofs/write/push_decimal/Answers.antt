use Rattle.std.proofs.Common.{◌≡◌, ◌++◌, ◌∙◌, subst, arith, rules}
use Rattle.std.specs.Prelude.{OnOk}
use Rattle.ssa_json.proofs.Printing.{decimal-is}
use Rattle.ssa_json.proofs.write.push_decimal.Goals as goal

pub returns : goal.returns
returns c =
    let digits = c.as_bytes.ensures.value ∙ c.format.ensures.text ∙ decimal-is c.args.count (omega arith) in
    subst (λ t. OnOk c.extend_from_slice.result (c.extend_from_slice.new.self.items ≡ c.args.text.now.items ++ t)) digits (search rules)
