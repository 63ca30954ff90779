use Rattle.std.proofs.lemmas.Nat.{from_le_bytes-to_le_bytes_8}
use Rattle.std.specs.Int.{w64}
use Rattle.ssa_members.proofs.Eights.{told-by_words}
use Rattle.ssa_members.proofs.words.are_eight_same.Goals as goal

pub returns : goal.returns
returns c =
    told-by_words w64 _ _ _ _ c.eight_at.ensures c.eight_at-2.ensures
    (from_le_bytes-to_le_bytes_8 _ c.eight_at.type_inv) (from_le_bytes-to_le_bytes_8 _ c.eight_at-2.type_inv)
