use Rattle.std.proofs.Common.{◌≡◌, ◌-◌, ◌≤◌, length, sym, ◌∙◌, le-leb, arith, rules}
use Rattle.ssa_members.proofs.Eights.{apart-by, same-by_two, told-by_third}
use Rattle.ssa_members.proofs.short_text.ShortText.are_many_same.Goals as goal

pub returns-then-not-are_eight_same : goal.returns-then-not-are_eight_same
returns-then-not-are_eight_same c =
    let own = c.args.self.now in
    let others = c.args.other.now in
    apart-by own.bytes others.bytes own.len others.len c.requires.lengths 0 c.requires.many (sym c.are_eight_same.ensures ∙ c.if-not-are_eight_same.true)

pub returns-then-not-are_eight_same-2 : goal.returns-then-not-are_eight_same-2
returns-then-not-are_eight_same-2 c =
    let own = c.args.self.now in
    let others = c.args.other.now in
    apart-by own.bytes others.bytes own.len others.len c.requires.lengths (own.len - 8) (omega arith)
    (sym c.are_eight_same-2.ensures ∙ c.if-not-are_eight_same-2.true)

pub returns-then-len-le16 : goal.returns-then-len-le16
returns-then-len-le16 c =
    let own = c.args.self.now in
    let others = c.args.other.now in
    let own_room : length own.bytes ≡ 22 = search rules in
    let others_room : length others.bytes ≡ 22 = search rules in
    le-leb own.len 16 c.if-len-le16.true
    ∙ same-by_two own.bytes others.bytes own.len others.len c.requires.lengths (omega arith) (omega arith) c.if-len-le16.true
    (sym c.are_eight_same.ensures ∙ c.if-not-are_eight_same.false) (sym c.are_eight_same-2.ensures ∙ c.if-not-are_eight_same-2.false)

pub returns-else-len-le16 : goal.returns-else-len-le16
returns-else-len-le16 c =
    let own = c.args.self.now in
    let others = c.args.other.now in
    let own_room : length own.bytes ≡ 22 = search rules in
    let others_room : length others.bytes ≡ 22 = search rules in
    let within : own.len ≤ 22 = search rules in
    c.are_eight_same-else-len-le16.ensures
    ∙ told-by_third own.bytes others.bytes own.len others.len c.requires.lengths (omega arith) (omega arith) (omega arith) (omega arith)
    (sym c.are_eight_same.ensures ∙ c.if-not-are_eight_same.false) (sym c.are_eight_same-2.ensures ∙ c.if-not-are_eight_same-2.false)
