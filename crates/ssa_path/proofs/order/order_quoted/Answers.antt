use Rattle.std.proofs.Common.{◌≤◌, ◌⊎◌, ⊎_elim, inl, inr, length, sym, ◌∙◌, arith}
use Rattle.std.proofs.lemmas.Bool.{cases_lt}
use Rattle.ssa_path.proofs.Parts.{text_cmp}
use Rattle.ssa_path.proofs.Escapes.{differ-at, looked, marks-at, past-alike, same-at}
use Rattle.ssa_path.specs.Order.{mark}
use Rattle.ssa_path.proofs.order.order_quoted.Goals as goal

pub loop-i-init : goal.loop-i-init
loop-i-init c = past-alike c.args.text.now c.args.other.now c.past_four-i.result c.past_four-i.ensures

pub loop-i-preserved : goal.loop-i-preserved
loop-i-preserved c = c.loop-i.invariant ∙ same-at c.args.text.now c.args.other.now c.loop-i.i (omega arith) (omega arith) c.if-text-i.false

pub returns-then-text-i : goal.returns-then-text-i
returns-then-text-i c =
    c.order_bytes.ensures ∙ sym (c.loop-i.invariant ∙ differ-at c.args.text.now c.args.other.now c.loop-i.i (omega arith) (omega arith) c.if-text-i.true)

pub returns : goal.returns
returns c =
    let past : (length c.args.text.now ≤ c.loop-i.i) ⊎ (length c.args.other.now ≤ c.loop-i.i) =
    ⊎_elim (λ e. inl (omega arith)) (λ e. inr (omega arith)) (cases_lt (length c.args.text.now) (length c.args.other.now)) in
    let own = c.copied.ensures ∙ looked c.args.text.now c.loop-i.i c.get.result c.get.ensures.lookup.0 c.get.ensures.lookup.1 in
    let others = c.copied-2.ensures ∙ looked c.args.other.now c.loop-i.i c.get-2.result c.get-2.ensures.lookup.0 c.get-2.ensures.lookup.1 in
    c.order_marks.ensures ∙ (λ i. text_cmp (mark (own i)) (mark (others i)))
    ∙ sym (c.loop-i.invariant ∙ marks-at c.args.text.now c.args.other.now c.loop-i.i past)
