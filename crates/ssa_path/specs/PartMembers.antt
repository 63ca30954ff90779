-- The member that tells a part.
use Rattle.std.specs.Prelude.{◌≡◌, ◌∷◌, ◌++◌, List, [], ℕ, Option, Some, None, codes, true, if◌then◌else◌}
use Rattle.std.proofs.Common.{refl}
use Rattle.ssa_model.specs.definitions.Commands.{is_subresource}
use Rattle.ssa_model.specs.definitions.Entries.{part_members, text_json}
use Rattle.ssa_model.specs.definitions.Json.{Json, Members, compact_members, no_members}
use Rattle.ssa_model.specs.definitions.Objects.{with_member}
use Rattle.ssa_model.specs.definitions.Parts.{Subresource, main, status}

-- the members with that of the part, if it has one
abbrev pub with_part : Subresource → Members → Members
with_part main ms = ms
with_part status ms = with_member (codes "subresource") (text_json (codes "status")) ms

-- its text behind other members
abbrev pub part_text : Subresource → List ℕ
part_text main = []
part_text status = codes ",\"subresource\":\"status\""

-- the part of which the value is the name
abbrev pub told_part : Json → Option Subresource
told_part v = if is_subresource v then Some status else None

-- the part that members tell in this member of theirs
abbrev pub part_in : Option Json → Option Subresource
part_in None = Some main
part_in (Some v) = told_part v

-- ---- its text

-- before other members it is that of the member, where the part is that of a subresource
pub part-before : (s : Subresource) (ms : Members) → part_text s ++ compact_members true ms ≡ compact_members true (part_members s ms)
part-before main ms = refl
part-before status ms = refl

-- what closes an object is written behind it
pub part-closed : (s : Subresource) → part_text s ++ 125 ∷ [] ≡ compact_members true (part_members s no_members)
part-closed s = part-before s no_members
