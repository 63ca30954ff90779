use Rattle.std.proofs.Common.{◌≡◌, ◌++◌, refl, ◌∙◌}
use Rattle.std.specs.Ordering.{nat_cmp}
use Rattle.std.proofs.lemmas.Iterator.{YieldsList-from_slice}
use Rattle.std.proofs.lemmas.Iterator.Consumers.{YieldsList-from_chain, YieldsList-at}
use Rattle.std.proofs.lemmas.Iterator.Search.{cmp_from_yields_List}
use Rattle.ssa_json.proofs.Printing.{written-is}
use Rattle.ssa_path.proofs.Parts.{text_cmp}
use Rattle.ssa_path.proofs.order.order_numbers.Goals as goal

pub returns : goal.returns
returns c =
    cmp_from_yields_List (λ x y. y ≡ x) _ nat_cmp _ c.cmp.ensures.ran
    (YieldsList-from_chain (YieldsList-from_slice c.as_bytes-text.result.now cc) (YieldsList-from_slice c.args.end.now cc) (cc) (cc))
    (λ it e. YieldsList-at e (YieldsList-from_chain (YieldsList-from_slice c.as_bytes-other_text.result.now cc)
    (YieldsList-from_slice c.args.other_end.now cc) (cc) (cc))) (λ x y. refl)
    ∙ (λ i. text_cmp ((c.as_bytes-text.ensures.value ∙ c.format.ensures.text ∙ written-is c.args.number c.ranges.number) i ++ c.args.end.now)
    ((c.as_bytes-other_text.ensures.value ∙ c.format-2.ensures.text ∙ written-is c.args.other c.ranges.other) i ++ c.args.other_end.now))
