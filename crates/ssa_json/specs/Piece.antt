-- What a piece of a reader's bytes shows.
use Rattle.std.specs.Prelude.{◌≤◌, ℕ, List, take, drop}
use Rattle.ssa_json.specs.declared.piece.Piece.TheInside.{Inside}

abbrev pub shown : Inside → List ℕ
shown p = drop p.start (take p.end p.bytes)

pub record IsWithin (p : Inside) : Type 0 where
  pub ordered : p.start ≤ p.end
  pub in_bounds : p.end ≤ 8192
