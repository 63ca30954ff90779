use Rattle.std.proofs.Common.{length, take, refl, ap, ◌∙◌}
use Rattle.std.specs.Int.{to_le_bytes, w64}
use Rattle.ssa_members.proofs.Shifted.{text-of_three}
use Rattle.ssa_members.proofs.words.many_held.Goals as goal

pub returns : goal.returns
returns c =
    let text = c.args.text.now in
    ap (take (length text)) c.put_down.ensures
    ∙ text-of_three text (to_le_bytes w64 c.eight_from.result) (to_le_bytes w64 c.eight_from-2.result) (to_le_bytes w64 c.eight_from-3.result)
    c.requires.many c.requires.within refl refl c.eight_from.ensures c.eight_from-2.ensures c.eight_from-3.ensures
