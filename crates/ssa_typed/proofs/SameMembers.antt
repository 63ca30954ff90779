-- Members whose names rise, told by what they have under each name.
use Rattle.std.proofs.Common.{◌≡◌, List, [], ◌∷◌, true, cond, refl, sym, ap, ◌∙◌, nat_cmp}
use Rattle.std.specs.Cmp.Lexicographic.{slice_cmp, nat_list_cmp_total}
use Rattle.std.specs.FinMap.{slice_cmp-IsAntisymmetric, nat_cmp-IsAntisymmetric}
use Rattle.std.specs.FinMap.Entries.{find, is_sorted, same_entries}
use Rattle.ssa_model.proofs.Tests.{held}
use Rattle.ssa_model.specs.definitions.Json.{Text, Json, Members, no_members, member, member_of, same_text}

-- a value under its name
abbrev pub Named : Type 0
Named = Text × Json

-- texts in the order of their bytes
abbrev pub text_cmp : Text → Text → Rattle.std.specs.declared.cmp.Ordering.Ordering
text_cmp = slice_cmp nat_cmp

-- the members as a list
abbrev pub named : Members → List Named
named no_members = []
named (member n v ms) = (n, v) ∷ named ms

members_from : List Named → Members
members_from [] = no_members
members_from (e ∷ es) = member e.0 e.1 (members_from es)

from-named : (ms : Members) → members_from (named ms) ≡ ms
unfolding members_from
from-named no_members = refl
from-named (member n v ms) = ap (member n v) (from-named ms)

find-named : (n : Text) (ms : Members) → find text_cmp n (named ms) ≡ member_of n ms
find-named n no_members = refl
find-named n (member m v ms) = ap (cond (same_text n m) (Rattle.std.specs.Prelude.Some v)) (find-named n ms)

-- members whose names rise, and that have the same under each name, are the same
pub same-members : (ms ns : Members) → is_sorted text_cmp (named ms) ≡ true → is_sorted text_cmp (named ns) ≡ true
    → ((n : Text) → member_of n ms ≡ member_of n ns) → ms ≡ ns
same-members ms ns own other alike =
    sym (from-named ms)
    ∙ ap members_from (same_entries text_cmp nat_list_cmp_total (slice_cmp-IsAntisymmetric nat_cmp-IsAntisymmetric) (named ms) (named ns) (held _ own)
    (held _ other) (λ n. find-named n ms ∙ alike n ∙ sym (find-named n ns)))
    ∙ from-named ns
