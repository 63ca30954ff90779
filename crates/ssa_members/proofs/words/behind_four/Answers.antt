use Rattle.std.proofs.Common.{◌-◌, ◌≤◌, length, drop, ap, ◌∙◌, arith}
use Rattle.std.proofs.lemmas.List.{length-drop, take_all}
use Rattle.std.specs.Int.{to_le_bytes, w32}
use Rattle.ssa_members.proofs.Shifted.{moved-down}
use Rattle.ssa_members.proofs.words.behind_four.Goals as goal

pub returns : goal.returns
returns c =
    let text = c.args.text.now in
    let short : length (drop 4 text) ≤ 4 = omega (arith, length-drop 4 text) in
    moved-down 4 text 4 (length text - 4) c.from-last.result c.requires.many c.requires.many (omega arith)
    (ap (to_le_bytes w32) c.from-last.ensures ∙ c.four_at.ensures)
    ∙ take_all 4 (drop 4 text) short
