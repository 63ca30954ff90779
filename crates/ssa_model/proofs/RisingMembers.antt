-- Where the names of each object rise by their bytes, no object names a member twice.
use Rattle.std.proofs.Common.{◌≡◌, true, false, ◌&&◌, refl, sym, ap, ◌∙◌, true≢false}
use Rattle.std.specs.Prelude.{Some, if◌then◌else◌}
use Rattle.std.specs.Ordering.{is_lt}
use Rattle.std.specs.Cmp.{first_so, second_so, tied_itself}
use Rattle.std.specs.Cmp.Lexicographic.{nat_list_cmp_total}
use Rattle.ssa_model.specs.definitions.Json.{Text, scalar, list, object, Items, no_items, item, Members, no_members, member, member_of, same_text}
use Rattle.ssa_model.specs.definitions.Objects.{is_missing}
use Rattle.ssa_model.specs.definitions.MemberNames.{items_have_distinct_names, are_distinct_members, is_below, has_rising_names, items_have_rising_names, members_rise}
use Rattle.ssa_model.specs.laws.MemberNames.{RisingIsDistinct}
use Rattle.ssa_model.proofs.RisingNames.{before}
use Rattle.ssa_model.proofs.Tables.{same_text-true}
use Rattle.ssa_model.proofs.OneWriting.{below-on}

below-apart : (n m : Text) → before n m ≡ true → same_text n m ≡ false
below-apart n m up =
    elim (same_text n m) as (λ t. same_text n m ≡ t → t ≡ false) [
      | true ↦ λ t. absurd (true≢false (sym up ∙ ap (λ x. before x m) (same_text-true n m t) ∙ ap is_lt (tied_itself nat_list_cmp_total m)))
      | false ↦ λ t. refl
    ] refl

-- a name below the first of rising names is none of them
pub missing-below : (n : Text) (ms : Members) → is_below n ms ≡ true → members_rise ms ≡ true → is_missing (member_of n ms) ≡ true
missing-below n no_members up rise = refl
missing-below n (member m v ms) up rise =
    let behind = second_so (is_below m ms) (has_rising_names v && members_rise ms) rise in
    let rest = missing-below n ms (below-on n m ms up (first_so (is_below m ms) _ rise)) (second_so (has_rising_names v) (members_rise ms) behind) in
    ap (λ b. is_missing (if b then Some v else member_of n ms)) (below-apart n m up) ∙ rest

mutual
  -- where the names of each object rise, no object names a member twice
  pub rising_is_distinct : RisingIsDistinct
  rising_is_distinct (scalar s) rise = refl
  rising_is_distinct (list vs) rise = items-distinct vs rise
  rising_is_distinct (object ms) rise = members-distinct ms rise

  items-distinct : (vs : Items) → items_have_rising_names vs ≡ true → items_have_distinct_names vs ≡ true
  items-distinct no_items rise = refl
  items-distinct (item v vs) rise =
      let first = rising_is_distinct v (first_so (has_rising_names v) _ rise) in
      let rest = items-distinct vs (second_so (has_rising_names v) _ rise) in
      λ i. first i && rest i

  members-distinct : (ms : Members) → members_rise ms ≡ true → are_distinct_members ms ≡ true
  members-distinct no_members rise = refl
  members-distinct (member n v ms) rise =
      let up = first_so (is_below n ms) (has_rising_names v && members_rise ms) rise in
      let behind = second_so (is_below n ms) (has_rising_names v && members_rise ms) rise in
      let rises = second_so (has_rising_names v) (members_rise ms) behind in
      let missing = missing-below n ms up rises in
      let value = rising_is_distinct v (first_so (has_rising_names v) _ behind) in
      let rest = members-distinct ms rises in
      λ i. missing i && (value i && rest i)
