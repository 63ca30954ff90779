-- Values read straight from tokens, beside the data that the tokens spell.
use Rattle.std.proofs.Common.{◌≡◌, List, [], ◌∷◌, ◌++◌, true, Option, Some, None, Less, Equal, Greater, refl, ap}
use Rattle.std.specs.Ordering.{match_ordering}
use Rattle.std.specs.Ordering.{nat_cmp}
use Rattle.std.specs.Cmp.Lexicographic.{slice_cmp}
use Rattle.std.specs.FinMap.{slice_cmp-IsAntisymmetric, nat_cmp-IsAntisymmetric}
use Rattle.json.specs.Token.{Token}
use Rattle.json.specs.Json.{parse_map}
use Rattle.serde_json.specs.Data.{Items, no_items, item, member, put}
use Rattle.ssa_json.specs.Written.{data_of, items_data, members_data, is_narrow, members_narrow}
use Rattle.ssa_json.specs.View.{view, items_view}
use Rattle.ssa_json.specs.declared.value.Json.{Json}
use Rattle.ssa_model.specs.definitions.Json as model
use Rattle.ssa_model.specs.definitions.Json.{Text}
use Rattle.ssa_model.specs.definitions.Objects.{with_member}
use Rattle.std.proofs.Common.{ℤ, pos, negsuc, ◌^◌, ltb-true, arith}
use Rattle.std.proofs.lemmas.Bool.{and_parts, and_from}
use Rattle.std.specs.Fmt.{signed_decimal}
use Rattle.serde_json.specs.Find.{of_integer}
use Rattle.serde_json.specs.Read.{number_of}
use Rattle.serde_json.proofs.Numbers.{number_of-decimal, number_of-negative}
use Rattle.ssa_json.specs.Written.{is_narrow_whole}

-- these items in front of others
abbrev pub before : List Json → Items → Items
before [] rest = rest
before (v ∷ vs) rest = item (data_of (view v)) (before vs rest)

-- values in front of no items are the items
pub before-none : (vs : List Json) → before vs no_items ≡ items_data (items_view vs)
before-none [] = refl
before-none (v ∷ vs) = ap (item (data_of (view v))) (before-none vs)

before-push : (vs : List Json) (v : Json) (rest : Items) → before vs (item (data_of (view v)) rest) ≡ before (vs ++ v ∷ []) rest
before-push [] v rest = refl
before-push (w ∷ vs) v rest = ap (item (data_of (view w))) (before-push vs v rest)

-- one value more stands last in front of the others
pub one_more : (vs : List Json) (v : Json) (r : Option (Items × List Token))
    → parse_map (before vs) (parse_map (item (data_of (view v))) r) ≡ parse_map (before (vs ++ v ∷ [])) r
one_more vs v None = refl
one_more vs v (Some p) = ap (λ ds. Some (ds, p.1)) (before-push vs v p.0)

-- a member that is put among others, as data
pub put-data : (k : Text) (v : model.Json) (ms : model.Members) → members_data (with_member k v ms) ≡ put k (data_of v) (members_data ms)
put-data k v model.no_members = refl
put-data k v (model.member l w ms) =
    elim (slice_cmp nat_cmp k l) as (λ o. slice_cmp nat_cmp k l ≡ o
    → members_data (elim o [
      | Less ↦ model.member k v (model.member l w ms)
      | Equal ↦ model.member k v ms
      | Greater ↦ model.member l w (with_member k v ms)
    ])
    ≡ match_ordering o (member k (data_of v) (member l (data_of w) (members_data ms))) (member l (data_of v) (members_data ms))
    (member l (data_of w) (put k (data_of v) (members_data ms)))) [
      | Less ↦ λ o. refl
      | Equal ↦ λ o. ap (λ n. member n (data_of v) (members_data ms)) (slice_cmp-IsAntisymmetric nat_cmp-IsAntisymmetric k l o)
      | Greater ↦ λ o. ap (member l (data_of w)) (put-data k v ms)
    ] refl

-- with one member more of numbers of 64 bits put in, the numbers of all members have 64 bits
pub put-narrow : (k : Text) (v : model.Json) (ms : model.Members) → members_narrow ms ≡ true → is_narrow v ≡ true
    → members_narrow (with_member k v ms) ≡ true
put-narrow k v model.no_members others own = and_from (is_narrow v) _ own others
put-narrow k v (model.member l w ms) others own =
    let parts = and_parts (is_narrow w) (members_narrow ms) others in
    elim (slice_cmp nat_cmp k l) as (λ o. members_narrow (elim o [
      | Less ↦ model.member k v (model.member l w ms)
      | Equal ↦ model.member k v ms
      | Greater ↦ model.member l w (with_member k v ms)
    ]) ≡ true) [
      | Less ↦ and_from (is_narrow v) _ own others
      | Equal ↦ and_from (is_narrow v) _ own parts.1
      | Greater ↦ and_from (is_narrow w) _ parts.0 (put-narrow k v ms parts.1 own)
    ]

-- the decimal text of a whole number of 64 bits with sign is that number
pub number_is : (z : ℤ) → is_narrow_whole z ≡ true → number_of (signed_decimal z) ≡ Some (of_integer z)
number_is (pos n) narrow = number_of-decimal n (let small = ltb-true n (2 ^ 63) narrow in omega arith)
number_is (negsuc n) narrow = number_of-negative n (ltb-true n (2 ^ 63) narrow)
