-- What the text of a moment is.
use Rattle.std.proofs.Common.{◌≡◌, ℕ, List, length, true, ◌&&◌, eqb-true}
use Rattle.std.specs.Prelude.{◌==◌}
use Rattle.std.proofs.lemmas.Bool.{and_parts}
use Rattle.ssa_json.specs.Moment.{is_moment, has_marks, exists, parts_of}

-- the text of a moment has 20 bytes
pub moment_length : (text : List ℕ) → is_moment text ≡ true → length text ≡ 20
unfolding is_moment
moment_length text h =
    let front = and_parts ((length text == 20) && has_marks text) (exists (parts_of text)) h in
    eqb-true (length text) 20 (and_parts (length text == 20) (has_marks text) front.0).0
