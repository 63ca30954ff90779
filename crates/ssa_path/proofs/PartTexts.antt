-- The text of the member that tells a part.
use Rattle.std.proofs.Common.{◌≡◌, [], ◌∷◌, ◌++◌, true, refl, ap, ◌∙◌, append_assoc}
use Rattle.std.specs.Prelude.{codes}
use Rattle.ssa_model.specs.definitions.Entries.{part_members, text_json}
use Rattle.ssa_model.specs.definitions.Json.{Text, Members, no_members, object, compact_members}
use Rattle.ssa_model.specs.definitions.MemberNames.{is_below}
use Rattle.ssa_model.specs.definitions.Parts.{Subresource, main, status}
use Rattle.ssa_model.proofs.Ascii.{ascii-is-utf8}
use Rattle.ssa_json.specs.Writable.{IsOfProgram}
use Rattle.ssa_json.proofs.OfProgram.{member-of-program, text-of-program}
use Rattle.ssa_path.specs.PartMembers.{part_text, part-before}

-- what is written behind it is written with the member behind what stood before it
pub part-written : (s : Subresource) (before : Text) {after whole : Text} (ms : Members) → after ≡ before ++ part_text s
    → whole ≡ after ++ compact_members true ms → whole ≡ before ++ compact_members true (part_members s ms)
part-written s before ms is rest =
    rest ∙ ap (λ t. t ++ compact_members true ms) is ∙ append_assoc before (part_text s) (compact_members true ms)
    ∙ ap (λ t. before ++ t) (part-before s ms)

-- a program writes the member before members of its own
pub part-of-program : (s : Subresource) (ms : Members) → is_below (codes "subresource") ms ≡ true
    → IsOfProgram (object ms) → IsOfProgram (object (part_members s ms))
part-of-program main ms above rest = rest
part-of-program status ms above rest =
    member-of-program (codes "subresource") (text_json (codes "status")) ms (ascii-is-utf8 (codes "subresource") refl) above
    (text-of-program (codes "status") (ascii-is-utf8 (codes "status") refl)) rest
