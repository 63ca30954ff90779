-- Members put among others, and taken away again.
use Rattle.std.proofs.Common.{◌≡◌, List, Bool, true, false, not, ◌&&◌, Some, None, Ordering, Less, Equal, Greater, refl, sym, ap, ◌∙◌}
use Rattle.std.proofs.lemmas.Option.{same_Some, none-some}
use Rattle.std.specs.Prelude.{if◌then◌else◌, codes}
use Rattle.std.specs.List.{list_any}
use Rattle.std.specs.Ordering.{is_eq, is_lt, nat_cmp, ordering_reverse}
use Rattle.std.specs.Cmp.{first_so, second_so, tied_itself}
use Rattle.std.specs.Cmp.Lexicographic.{slice_cmp, nat_list_cmp_total}
use Rattle.ssa_model.specs.definitions.Json.{Text, Json, object, Members, no_members, member, member_of, same_text}
use Rattle.ssa_model.specs.definitions.Objects.{with_member, without, without_names, without_in_metadata}
use Rattle.ssa_model.proofs.RisingNames.{before}
use Rattle.ssa_model.proofs.Tables.{same_text-true}
use Rattle.ssa_model.proofs.Basics.{not_true as no, lower, yes_no}

abbrev order : Text → Text → Ordering
order = slice_cmp nat_cmp

-- the name `metadata`
abbrev pub metadata : Text
metadata = codes "metadata"

-- two names, neither of which is before the other, are one
pub order-same : (n m : Text) → order n m ≡ Equal → n ≡ m
order-same n m e = same_text-true n m (ap is_eq e)

-- a name behind another is not that one
pub greater-other : (n m : Text) → order n m ≡ Greater → same_text m n ≡ false
greater-other n m e = ap is_eq (nat_list_cmp_total.antisymm m n ∙ ap ordering_reverse e)

-- ---- members whose names rise

-- the name is before the names of all members
abbrev pub are_above : Text → Members → Bool
are_above n no_members = true
are_above n (member m v ms) = before n m && are_above n ms

-- the names of the members rise
abbrev pub rise : Members → Bool
rise no_members = true
rise (member n v ms) = are_above n ms && rise ms

-- a name before another that is before all members' names is before them too
pub above-on : (n l : Text) (ms : Members) → order n l ≡ Less → are_above l ms ≡ true → are_above n ms ≡ true
above-on n l no_members h rest = refl
above-on n l (member m v ms) h rest =
    let up = ap is_lt (nat_list_cmp_total.trans n l m h (lower _ (first_so (before l m) _ rest))) in
    λ i. up i && above-on n l ms h (second_so (before l m) _ rest) i

-- no member has a name that is before all members' names
pub above-none : (n : Text) (ms : Members) → are_above n ms ≡ true → member_of n ms ≡ None
above-none n no_members h = refl
above-none n (member m v ms) h =
    ap (λ o. if is_eq o then Some v else member_of n ms) (lower (order n m) (first_so (before n m) _ h)) ∙ above-none n ms (second_so (before n m) _ h)

-- ---- looking up

-- under the name of a member that is put there stands this member
pub put-found : (n : Text) (v : Json) (ms : Members) → member_of n (with_member n v ms) ≡ Some v
put-found n v no_members = ap (λ o. if is_eq o then Some v else None) (tied_itself nat_list_cmp_total n)
put-found n v (member m w ms) =
    elim (order n m) as (λ o. order n m ≡ o → member_of n (elim o
    [ Less ↦ member n v (member m w ms) | Equal ↦ member n v ms | Greater ↦ member m w (with_member n v ms) ]) ≡ Some v) [
      | Less ↦ λ o. ap (λ o. if is_eq o then Some v else member_of n (member m w ms)) (tied_itself nat_list_cmp_total n)
      | Equal ↦ λ o. ap (λ o. if is_eq o then Some v else member_of n ms) (tied_itself nat_list_cmp_total n)
      | Greater ↦ λ o. ap (λ o. if is_eq o then Some w else member_of n (with_member n v ms)) o ∙ put-found n v ms
    ] refl

-- under another name stands what stood there
pub put-other : (q n : Text) (v : Json) (ms : Members) → same_text q n ≡ false → member_of q (with_member n v ms) ≡ member_of q ms
put-other q n v no_members h = ap (λ s. if s then Some v else None) h
put-other q n v (member m w ms) h =
    elim (order n m) as (λ o. order n m ≡ o → member_of q (elim o
    [ Less ↦ member n v (member m w ms) | Equal ↦ member n v ms | Greater ↦ member m w (with_member n v ms) ]) ≡ member_of q (member m w ms)) [
      | Less ↦ λ o. ap (λ s. if s then Some v else member_of q (member m w ms)) h
      | Equal ↦ λ o. ap (λ s. if s then Some v else member_of q ms) h
          ∙ sym (ap (λ s. if s then Some w else member_of q ms) (ap (same_text q) (sym (order-same n m o)) ∙ h))
      | Greater ↦ λ o. ap (λ r. if same_text q m then Some w else r) (put-other q n v ms h)
    ] refl

-- what stands at its name is put there again
pub put-again : (n : Text) (v : Json) (ms : Members) → rise ms ≡ true → member_of n ms ≡ Some v → with_member n v ms ≡ ms
put-again n v no_members r h = absurd (none-some v h)
put-again n v (member m w ms) r h =
    elim (order n m) as (λ o. order n m ≡ o → elim o [ Less ↦ member n v (member m w ms) | Equal ↦ member n v ms | Greater ↦ member m w (with_member n v ms) ]
    ≡ member m w ms) [
      | Less ↦ λ o.
          absurd (none-some v (sym (ap (λ s. if is_eq s then Some w else member_of n ms) o
          ∙ above-none n ms (above-on n m ms o (first_so (are_above m ms) _ r))) ∙ h))
      | Equal ↦ λ o.
          let value = same_Some v w (sym h ∙ ap (λ s. if is_eq s then Some w else member_of n ms) o) in
          λ i. member (order-same n m o i) (value i) ms
      | Greater ↦ λ o. ap (member m w) (put-again n v ms (second_so (are_above m ms) _ r) (sym (ap (λ s. if is_eq s then Some w else member_of n ms) o) ∙ h))
    ] refl

-- of two members put under one name the later one is left
pub put-twice : (n : Text) (v w : Json) (ms : Members) → with_member n v (with_member n w ms) ≡ with_member n v ms
put-twice n v w no_members = ap (λ o. elim o [
  | Less ↦ member n v (member n w no_members)
  | Equal ↦ member n v no_members
  | Greater ↦ member n w
      (member n v no_members)
]) (tied_itself nat_list_cmp_total n)
put-twice n v w (member m u ms) =
    elim (order n m) as (λ o. order n m ≡ o → with_member n v
    (elim o [ Less ↦ member n w (member m u ms) | Equal ↦ member n w ms | Greater ↦ member m u (with_member n w ms) ])
    ≡ elim o [ Less ↦ member n v (member m u ms) | Equal ↦ member n v ms | Greater ↦ member m u (with_member n v ms) ]) [
      | Less ↦ λ o. ap (λ o. elim o [
        | Less ↦ member n v (member n w (member m u ms))
        | Equal ↦ member n v (member m u ms)
        | Greater ↦ member n w
            (with_member n v (member m u ms))
      ]) (tied_itself nat_list_cmp_total n)
      | Equal ↦ λ o. ap (λ o. elim o [ Less ↦ member n v (member n w ms) | Equal ↦ member n v ms | Greater ↦ member n w (with_member n v ms) ])
          (tied_itself nat_list_cmp_total n)
      | Greater ↦ λ o.
          ap (λ o. elim o [
            | Less ↦ member n v (member m u (with_member n w ms))
            | Equal ↦ member n v (with_member n w ms)
            | Greater ↦ member m u
                (with_member n v (with_member n w ms))
          ]) o
          ∙ ap (member m u) (put-twice n v w ms)
    ] refl

-- ---- names go on rising

above-put : (q n : Text) (v : Json) (ms : Members) → before q n ≡ true → are_above q ms ≡ true → are_above q (with_member n v ms) ≡ true
above-put q n v no_members first h = λ i. first i && true
above-put q n v (member m w ms) first h =
    elim (order n m) as (λ o. are_above q (elim o [ Less ↦ member n v (member m w ms) | Equal ↦ member n v ms | Greater ↦ member m w (with_member n v ms) ])
    ≡ true) [
      | Less ↦ (λ i. first i && h i)
      | Equal ↦ (λ i. first i && second_so (before q m) _ h i)
      | Greater ↦ (λ i. first_so (before q m) _ h i && above-put q n v ms first (second_so (before q m) _ h) i)
    ]

-- names that rise go on rising with a member put among them
pub rise-put : (n : Text) (v : Json) (ms : Members) → rise ms ≡ true → rise (with_member n v ms) ≡ true
rise-put n v no_members r = refl
rise-put n v (member m w ms) r =
    let above = first_so (are_above m ms) _ r in
    let rest = second_so (are_above m ms) _ r in
    elim (order n m) as (λ o. order n m ≡ o → rise (elim o [
      | Less ↦ member n v (member m w ms)
      | Equal ↦ member n v ms
      | Greater ↦ member m w
          (with_member n v ms)
    ]) ≡ true) [
      | Less ↦ λ o. (λ i. (is_lt (o i) && above-on n m ms o above i) && r i)
      | Equal ↦ λ o. (λ i. are_above (order-same n m o i) ms && rest i) ∙ (λ i. above i && true)
      | Greater ↦ λ o.
          let up : before m n ≡ true = ap is_lt (nat_list_cmp_total.antisymm m n ∙ ap ordering_reverse o) in
          λ i. above-put m n v ms up above i && rise-put n v ms rest i
    ] refl

put-below : (n : Text) (v : Json) (ms : Members) → are_above n ms ≡ true → with_member n v ms ≡ member n v ms
put-below n v no_members h = refl
put-below n v (member m w ms) h =
    ap (λ o. elim o [ Less ↦ member n v (member m w ms) | Equal ↦ member n v ms | Greater ↦ member m w (with_member n v ms) ])
    (lower (order n m) (first_so (before n m) _ h))

-- ---- taking away by names

-- a member put under a name that is taken away is taken away again
pub without-put : (names : List Text) (n : Text) (v : Json) (ms : Members) → list_any (same_text n) names ≡ true
    → without names (with_member n v ms) ≡ without names ms
without-put names n v no_members h = ap (λ t. if t then no_members else member n v no_members) h
without-put names n v (member m w ms) h =
    elim (order n m) as (λ o. order n m ≡ o → without names (elim o
    [ Less ↦ member n v (member m w ms) | Equal ↦ member n v ms | Greater ↦ member m w (with_member n v ms) ]) ≡ without names (member m w ms)) [
      | Less ↦ λ o. ap (λ t. if t then without names (member m w ms) else member n v (without names (member m w ms))) h
      | Equal ↦ λ o.
          ap (λ t. if t then without names ms else member n v (without names ms)) h
          ∙ sym (ap (λ t. if t then without names ms else member m w (without names ms)) (ap (λ x. list_any (same_text x) names) (sym (order-same n m o)) ∙ h))
      | Greater ↦ λ o. ap (λ r. if list_any (same_text m) names then r else member m w r) (without-put names n v ms h)
    ] refl

above-without : (names : List Text) (n : Text) (ms : Members) → are_above n ms ≡ true → are_above n (without names ms) ≡ true
above-without names n no_members h = refl
above-without names n (member m v ms) h =
    let rest = above-without names n ms (second_so (before n m) _ h) in
    elim (list_any (same_text m) names) as (λ t. are_above n (if t then without names ms else member m v (without names ms)) ≡ true)
    [ true ↦ rest | false ↦ (λ i. first_so (before n m) _ h i && rest i) ]

-- a member of another name stays where others are taken away
pub without-keeps : (names : List Text) (n : Text) (v : Json) (ms : Members) → rise ms ≡ true → list_any (same_text n) names ≡ false
    → without names (with_member n v ms) ≡ with_member n v (without names ms)
without-keeps names n v no_members r other = ap (λ t. if t then no_members else member n v no_members) other
without-keeps names n v (member m w ms) r other =
    let above = first_so (are_above m ms) _ r in
    let rest = second_so (are_above m ms) _ r in
    elim (order n m) as (λ o. order n m ≡ o → without names (elim o
    [ Less ↦ member n v (member m w ms) | Equal ↦ member n v ms | Greater ↦ member m w (with_member n v ms) ])
    ≡ with_member n v (if list_any (same_text m) names then without names ms else member m w (without names ms))) [
      | Less ↦ λ o.
          let all : are_above n (member m w ms) ≡ true = λ i. is_lt (o i) && above-on n m ms o above i in
          ap (λ t. if t then without names (member m w ms) else member n v (without names (member m w ms))) other
          ∙ sym (put-below n v (without names (member m w ms)) (above-without names n (member m w ms) all))
      | Equal ↦ λ o.
          let same : list_any (same_text m) names ≡ false = ap (λ x. list_any (same_text x) names) (sym (order-same n m o)) ∙ other in
          ap (λ t. if t then without names ms else member n v (without names ms)) other
          ∙ sym (ap (λ t. with_member n v (if t then without names ms else member m w (without names ms))) same
          ∙ ap (λ o. elim o [
            | Less ↦ member n v (member m w (without names ms))
            | Equal ↦ member n v (without names ms)
            | Greater ↦ member m w
                (with_member n v (without names ms))
          ]) o)
      | Greater ↦ λ o.
          elim (list_any (same_text m) names) as (λ t. (if t then without names (with_member n v ms) else member m w (without names (with_member n v ms)))
          ≡ with_member n v (if t then without names ms else member m w (without names ms))) [
            | true ↦ without-keeps names n v ms rest other
            | false ↦
                ap (member m w) (without-keeps names n v ms rest other)
                ∙ sym (ap (λ o. elim o [
                  | Less ↦ member n v (member m w (without names ms))
                  | Equal ↦ member n v (without names ms)
                  | Greater ↦ member m w
                      (with_member n v (without names ms))
                ]) o)
          ]
    ] refl

-- no member has one of the names
abbrev pub have_none : List Text → Members → Bool
have_none names no_members = true
have_none names (member n v ms) = not (list_any (same_text n) names) && have_none names ms

-- and then nothing is taken away by these names
pub without-none : (names : List Text) (ms : Members) → have_none names ms ≡ true → without names ms ≡ ms
without-none names no_members h = refl
without-none names (member n v ms) h =
    let other = no (list_any (same_text n) names) (first_so (not (list_any (same_text n) names)) _ h) in
    ap (λ t. if t then without names ms else member n v (without names ms)) other
    ∙ ap (member n v) (without-none names ms (second_so (not (list_any (same_text n) names)) _ h))

-- and no member has one where a member of none of them is put there
pub none-put : (names : List Text) (n : Text) (v : Json) (ms : Members) → have_none names ms ≡ true → list_any (same_text n) names ≡ false
    → have_none names (with_member n v ms) ≡ true
none-put names n v no_members h other = ap (λ t. not t && true) other
none-put names n v (member m w ms) h other =
    elim (order n m) as (λ o. have_none names (elim o [
      | Less ↦ member n v (member m w ms)
      | Equal ↦ member n v ms
      | Greater ↦ member m w (with_member n v ms)
    ]) ≡ true) [
      | Less ↦ (λ i. not (other i) && h i)
      | Equal ↦ (λ i. not (other i) && second_so (not (list_any (same_text m) names)) _ h i)
      | Greater ↦ (λ i. first_so (not (list_any (same_text m) names)) _ h i
          && none-put names n v ms (second_so (not (list_any (same_text m) names)) _ h) other i)
    ]

-- and under each of these names there is no member
pub none-of : (names : List Text) (n : Text) (ms : Members) → have_none names ms ≡ true → list_any (same_text n) names ≡ true → member_of n ms ≡ None
none-of names n no_members h among = refl
none-of names n (member m v ms) h among =
    elim (same_text n m) as (λ s. same_text n m ≡ s → (if s then Some v else member_of n ms) ≡ None) [
      | true ↦ λ s.
          yes_no (list_any (same_text m) names) (ap (λ x. list_any (same_text x) names) (sym (same_text-true n m s)) ∙ among)
          (no (list_any (same_text m) names) (first_so (not (list_any (same_text m) names)) _ h))
      | false ↦ λ s. none-of names n ms (second_so (not (list_any (same_text m) names)) _ h) among
    ] refl

-- ---- in metadata

above-stays : (names : List Text) (ms : Members) → are_above metadata ms ≡ true → without_in_metadata names ms ≡ ms
above-stays names no_members h = refl
above-stays names (member m v ms) h =
    let other : same_text m metadata ≡ false = ap is_eq (nat_list_cmp_total.antisymm m metadata
    ∙ ap ordering_reverse (lower (order metadata m) (first_so (before metadata m) _ h))) in
    (λ i. member m (if other i then without_names names v else v) (above-stays names ms (second_so (before metadata m) _ h) i))

-- what is taken away in metadata that was put there
pub in-metadata : (names : List Text) (x ms : Members) → rise ms ≡ true
    → without_in_metadata names (with_member metadata (object x) ms) ≡ with_member metadata (object (without names x)) ms
in-metadata names x no_members r = refl
in-metadata names x (member m w ms) r =
    elim (order metadata m) as (λ o. order metadata m ≡ o → without_in_metadata names
    (elim o [
      | Less ↦ member metadata (object x) (member m w ms)
      | Equal ↦ member metadata (object x) ms
      | Greater ↦ member m w
          (with_member metadata (object x) ms)
    ])
    ≡ elim o [
      | Less ↦ member metadata (object (without names x)) (member m w ms)
      | Equal ↦ member metadata (object (without names x)) ms
      | Greater ↦ member m
          w (with_member metadata (object (without names x)) ms)
    ]) [
      | Less ↦ λ o.
          ap (member metadata (object (without names x)))
          (above-stays names (member m w ms) (λ i. is_lt (o i) && above-on metadata m ms o (first_so (are_above m ms) _ r) i))
      | Equal ↦ λ o.
          ap (member metadata (object (without names x)))
          (above-stays names ms (ap (λ y. are_above y ms) (order-same metadata m o) ∙ first_so (are_above m ms) _ r))
      | Greater ↦ λ o. λ i. member m (if greater-other metadata m o i then without_names names w else w)
          (in-metadata names x ms (second_so (are_above m ms) _ r) i)
    ] refl
