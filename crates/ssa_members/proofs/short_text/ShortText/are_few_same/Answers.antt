use Rattle.std.proofs.Common.{◌≡◌, length, sym, ◌∙◌, arith, rules}
use Rattle.ssa_members.proofs.Eights.{same-by_first}
use Rattle.ssa_members.proofs.short_text.ShortText.are_few_same.Goals as goal

pub returns-then-are_eight_same : goal.returns-then-are_eight_same
returns-then-are_eight_same c =
    let own = c.args.self.now in
    let others = c.args.other.now in
    let own_room : length own.bytes ≡ 22 = search rules in
    let others_room : length others.bytes ≡ 22 = search rules in
    same-by_first own.bytes others.bytes own.len others.len c.requires.lengths (omega arith) (omega arith) (omega arith)
    (sym c.are_eight_same.ensures ∙ c.if-are_eight_same.true)
