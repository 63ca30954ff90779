use Rattle.std.proofs.lemmas.Nat.{from_le_bytes-to_le_bytes_4}
use Rattle.std.specs.Int.{w32}
use Rattle.ssa_members.proofs.Eights.{told-by_words}
use Rattle.ssa_members.proofs.words.are_four_same.Goals as goal

pub returns : goal.returns
returns c =
    told-by_words w32 _ _ _ _ c.four_at.ensures c.four_at-2.ensures
    (from_le_bytes-to_le_bytes_4 _ c.four_at.type_inv) (from_le_bytes-to_le_bytes_4 _ c.four_at-2.type_inv)
