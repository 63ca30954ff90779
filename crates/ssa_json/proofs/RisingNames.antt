-- Members whose names rise go in one after another.
use Rattle.std.proofs.Common.{◌≡◌, Less, Greater, nat_cmp, true, refl, ap, ◌∙◌}
use Rattle.std.proofs.lemmas.Cmp.{nat_list_cmp_total}
use Rattle.std.specs.Prelude.{⊤}
use Rattle.std.specs.Cmp.Lexicographic.{slice_cmp}
use Rattle.std.specs.Ordering.{ordering_reverse}
use Rattle.serde_json.specs.Data.{Data, Members, no_members, member, put}
use Rattle.ssa_model.specs.definitions.Json as model
use Rattle.ssa_model.specs.definitions.Json.{Text}
use Rattle.ssa_json.specs.Writable.{is_below}
use Rattle.ssa_model.proofs.Basics.{lower as less}

-- the members, and then the others
abbrev pub followed_by : Members → Members → Members
followed_by no_members ms = ms
followed_by (member k d more) ms = member k d (followed_by more ms)

-- each name is below the text
abbrev pub AreBelow : Members → Text → Type 0
AreBelow no_members k = ⊤
AreBelow (member l d ms) k = (slice_cmp nat_cmp l k ≡ Less) × AreBelow ms k

-- members that no others follow are as they are
pub followed_by-none : (ms : Members) → followed_by ms no_members ≡ ms
followed_by-none no_members = refl
followed_by-none (member k d ms) = ap (member k d) (followed_by-none ms)

-- a member whose name is above the others' is put last
pub put-above : (k : Text) (d : Data) (found : Members) → AreBelow found k → put k d found ≡ followed_by found (member k d no_members)
put-above k d no_members h = refl
put-above k d (member l e found) h =
    let above : slice_cmp nat_cmp k l ≡ Greater = nat_list_cmp_total.antisymm k l ∙ ap ordering_reverse h.0 in
    rw above (ap (member l e) (put-above k d found h.1))

-- of three lists of members, one behind another, any two may be put together first
pub followed_by-assoc : (a b c : Members) → followed_by (followed_by a b) c ≡ followed_by a (followed_by b c)
followed_by-assoc no_members b c = refl
followed_by-assoc (member k d a) b c = ap (member k d) (followed_by-assoc a b c)

-- the next name is above those found and the last of them
AreBelow-next : (found : Members) (k l : Text) (d : Data) → AreBelow found k → slice_cmp nat_cmp k l ≡ Less
    → AreBelow (followed_by found (member k d no_members)) l
AreBelow-next no_members k l d h less = (less, tt)
AreBelow-next (member m e found) k l d h less = (nat_list_cmp_total.trans m k l h.0 less, AreBelow-next found k l d h.1 less)

-- the names found are below the first of the members
abbrev pub AreBefore : Members → model.Members → Type 0
AreBefore found model.no_members = ⊤
AreBefore found (model.member k v ms) = AreBelow found k

-- with the next member put last, those found are before the ones that are left
pub AreBefore-next : (found : Members) (k : Text) (d : Data) (ms : model.Members) → AreBelow found k → is_below k ms ≡ true
    → AreBefore (followed_by found (member k d no_members)) ms
AreBefore-next found k d model.no_members h below = tt
AreBefore-next found k d (model.member l v ms) h below = AreBelow-next found k l d h (less (slice_cmp nat_cmp k l) below)
