-- Pairs of an object that are read from tokens, one after the other.
use Rattle.std.proofs.Common.{◌≡◌, ℕ, ◌-◌, ◌<◌, ◌≤◌, List, [], ◌∷◌, ◌++◌, length, true, Some, string_bytes, sym, ap, subst, ◌∙◌, arith}
use Rattle.json.specs.Token.{Token}
use Rattle.json.specs.Json as json
use Rattle.json.specs.Json.{Parse, read_key, members}
use Rattle.json.proofs.Grammar.{read_key-shorter}
use Rattle.serde_json.specs.Read.{of_json, of_members, converted}
use Rattle.ssa_model.specs.definitions.Json as model
use Rattle.ssa_model.specs.definitions.Json.{Text, Members}
use Rattle.ssa_model.specs.definitions.Objects.{with_member}
use Rattle.ssa_json.specs.PutInTurn.{put_in_turn}
use Rattle.ssa_json.specs.View.{view}
use Rattle.ssa_json.specs.Written.{data_of, members_data, is_narrow, members_narrow}
use Rattle.ssa_json.proofs.Converting.{Found}
use Rattle.ssa_json.proofs.MembersMade.{put-append}
use Rattle.ssa_json.proofs.StraightData.{put-data, put-narrow}
use Rattle.ssa_json.proofs.TokensRead.{member_read}

-- what is read from the first tokens is what these pairs put in, and then what is read from the rest
abbrev pub LeaveRest : Parse json.Json → List Token → List Token → List Found → Type 0
LeaveRest p first rest pairs = (found : Members) → (most : ℕ) → length first ≤ most → (left : ℕ) × (length rest ≤ left)
    × (converted (λ ms. of_members ms (members_data found)) (members p most first)
    ≡ converted (λ ms. of_members ms (members_data (put_in_turn pairs found))) (members p left rest))

-- with these pairs put in, the numbers of all members have 64 bits
abbrev pub StayNarrow : List Found → Type 0
StayNarrow pairs = (found : Members) → members_narrow found ≡ true → members_narrow (put_in_turn pairs found) ≡ true

-- one pair more, with this value under this name, behind others
module _ (k : Text) (v : model.Json) (pair : Found) (old : List Found) (named : string_bytes pair.0 ≡ k) (seen : view pair.1 ≡ v) where
  puts : (ms : Members) → put_in_turn (old ++ pair ∷ []) ms ≡ with_member k v (put_in_turn old ms)
  puts ms = put-append old (pair ∷ []) ms ∙ λ i. with_member (named i) (seen i) (put_in_turn old ms)

  -- where the next pair is read as that value under that name, the pairs with it leave the rest behind it
  pub pair-read : (p : Parse json.Json) (first ts s r : List Token) → read_key ts ≡ Some (Some k, s)
      → converted of_json (p s) ≡ Some (data_of v, r) → length r < length s → LeaveRest p first ts old → LeaveRest p first r (old ++ pair ∷ [])
  pair-read p first ts s r key read less leave = λ found most enough.
      let before = leave found most enough in
      let n = before.0 in
      let fits = before.1 in
      let shorter = read_key-shorter ts (Some k) s key in
      let ms = put_in_turn old found in
      let spelled = ap members_data (puts found) ∙ put-data k v ms in (
        n - 1,
        omega arith,
        before.2 ∙ member_read p (members_data ms) n k ts s r (data_of v) (omega arith) key read
            ∙ ap (λ more. converted (λ ms. of_members ms more) (members p (n - 1) r)) (sym spelled),
      )

  -- with a value more whose numbers have 64 bits, all have
  pub pair-narrow : is_narrow v ≡ true → StayNarrow old → StayNarrow (old ++ pair ∷ [])
  pair-narrow narrow stay = λ found h.
      subst (λ ms. members_narrow ms ≡ true) (sym (puts found)) (put-narrow k v (put_in_turn old found) (stay found h) narrow)
