use Rattle.std.proofs.Common.{◌≡◌, ◌++◌, ◌∙◌, subst, rules}
use Rattle.std.specs.Prelude.{OnOk}
use Rattle.ssa_json.proofs.Printing.{written-is}
use Rattle.ssa_json.proofs.write.push_whole.Goals as goal

pub returns-clause-text : goal.returns-clause-text
returns-clause-text c =
    let digits = c.as_bytes.ensures.value ∙ c.format.ensures.text ∙ written-is c.args.number c.ranges.number in
    subst (λ t. OnOk c.extend_from_slice.result (c.extend_from_slice.new.self.items ≡ c.args.text.now.items ++ t)) digits (search rules)
