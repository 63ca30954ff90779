-- A member put into a map.
use Rattle.std.proofs.Common.{◌≡◌, List, [], ◌∷◌, Less, Equal, Greater, String, Global, string_bytes, string_cmp, nat_cmp, refl, sym, ap}
use Rattle.std.specs.Ordering.{match_ordering}
use Rattle.std.specs.Cmp.Lexicographic.{slice_cmp}
use Rattle.std.specs.FinMap.{slice_cmp-IsAntisymmetric, nat_cmp-IsAntisymmetric}
use Rattle.std.specs.BTreeMap.{insert_entry}
use Rattle.ssa_model.specs.definitions.Json.{member}
use Rattle.ssa_model.specs.definitions.Objects.{with_member}
use Rattle.ssa_json.specs.View.{view, members_view}
use Rattle.ssa_json.specs.declared.value.Json.{Json}
use Rattle.ssa_json.proofs.Converting.{Found}

-- the members that the map stands for
pub inserted : (k : String Global) (v : Json) (es : List Found)
    → members_view (insert_entry string_cmp es k v) ≡ with_member (string_bytes k) (view v) (members_view es)
inserted k v [] = refl
inserted k v (e ∷ es) =
    let n = string_bytes k in
    let m = string_bytes e.0 in
    elim (slice_cmp nat_cmp n m) as (λ o. slice_cmp nat_cmp n m ≡ o
    → members_view (match_ordering o ((k, v) ∷ e ∷ es) ((e.0, v) ∷ es) (e ∷ insert_entry string_cmp es k v))
    ≡ elim o [
      | Less ↦ member n (view v) (member m (view e.1) (members_view es))
      | Equal ↦ member n (view v) (members_view es)
      | Greater ↦ member m (view e.1)
          (with_member n (view v) (members_view es))
    ]) [
      | Less ↦ λ h. refl
      | Equal ↦ λ h. ap (λ t. member t (view v) (members_view es)) (sym (slice_cmp-IsAntisymmetric nat_cmp-IsAntisymmetric n m h))
      | Greater ↦ λ h. ap (member m (view e.1)) (inserted k v es)
    ] refl
