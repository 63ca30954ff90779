use Rattle.std.proofs.Common.{◌≡◌, ◌≢◌, ◌==◌, ◌<◌, ◌≤◌, ◌+◌, ℕ, zero, suc, List, length, slice_index, take, true, arith, ap, subst, ◌∙◌}
use Rattle.memchr.specs.Find.{Nowhere, Passes, is_byte}
use Rattle.ssa_model.proofs.LinesFacts.{HasNoLineFeed-take_more}
use Rattle.ssa_model.proofs.TakenOfWritten.{nat-itself}
use Rattle.ssa_model.specs.definitions.Lines.{line_feed, HasNoLineFeed}
use Rattle.ssa_lines.proofs.line.line_len.Goals as goal

-- as many first bytes as are no line feed have none
none-before : (xs : List ℕ) (i : ℕ) → i ≤ length xs → Nowhere (Passes (is_byte line_feed) xs) 0 i → HasNoLineFeed (take i xs)
none-before xs zero within none = tt
none-before xs (suc i) within none =
    let before = none-before xs i (omega arith) (λ k low high. none k low (omega arith)) in
    let other : slice_index xs i ≢ line_feed = λ same. none i (omega arith) (omega arith) (ap (λ x. x == line_feed) same ∙ nat-itself line_feed) in
    let next : i + 1 ≡ suc i = omega arith in
    subst (λ n. HasNoLineFeed (take n xs)) next (HasNoLineFeed-take_more xs i (omega arith) before other)

pub returns-in-Some-clause-before : goal.returns-in-Some-clause-before
returns-in-Some-clause-before c =
    let first = c.in-Some.ensures in
    none-before c.args.bytes.now c.in-Some.place (omega (arith, first.0.high)) first.0.before

pub returns-in-None-clause-before : goal.returns-in-None-clause-before
returns-in-None-clause-before c = none-before c.args.bytes.now (length c.args.bytes.now) (omega arith) c.in-None.ensures
