-- Pairs whose names rise are what they leave when they are put in one after another.
use Rattle.std.proofs.Common.{◌≡◌, List, [], ◌∷◌, Bool, true, false, cond, Option, Some, None, refl, sym, ap, ◌∙◌, string_cmp}
use Rattle.std.proofs.lemmas.Cmp.{eq_by_cmp_equiv}
use Rattle.std.proofs.lemmas.Map.{lookup-none}
use Rattle.std.proofs.lemmas.Map.Entries.{none_past_head}
use Rattle.std.proofs.lemmas.Map.Keys.{IsDistinct-from_sorted, sorted_tail}
use Rattle.std.specs.BTreeMap.{is_at}
use Rattle.std.specs.Map.{keys_of, lookup, update_all}
use Rattle.std.specs.Option.{option_or}
use Rattle.std.specs.Ordering.{eq_by_cmp, is_eq}
use Rattle.ssa_members.specs.Members.{Name, IsMadeOf, IsRising}
use Rattle.ssa_members.proofs.Rising.{name_total}

-- with none behind it, it is itself
pub option_or-none : {X : Type 0} (o : Option X) → option_or o None ≡ o
option_or-none None = refl
option_or-none (Some x) = refl

module _ {X : Type 0} where
  -- the pair with the name, before what f has under it
  rising-leave : (q : Name) (ps : List (Name × X)) (f : Name → Option X) → IsRising ps
      → update_all (eq_by_cmp string_cmp) f ps q ≡ option_or (lookup (is_at (string_cmp q)) ps) (f q)
  rising-leave q [] f rise = refl
  rising-leave q (p ∷ ps) f rise =
      rising-leave q ps (λ k. cond (eq_by_cmp string_cmp p.0 k) (Some p.1) (f k)) (sorted_tail string_cmp p.0 (keys_of ps) rise)
      ∙ ap (λ b. option_or (lookup (is_at (string_cmp q)) ps) (cond b (Some p.1) (f q))) ((eq_by_cmp_equiv name_total).symm p.0 q)
      ∙ by (is_eq (string_cmp q p.0)) refl
    where
      by : (b : Bool) → is_eq (string_cmp q p.0) ≡ b
          → option_or (lookup (is_at (string_cmp q)) ps) (cond b (Some p.1) (f q)) ≡ option_or (cond b (Some p.1) (lookup (is_at (string_cmp q)) ps)) (f q)
      by true same =
          ap (λ o. option_or o (Some p.1)) (lookup-none (is_at (string_cmp q)) ps
          (none_past_head (eq_by_cmp_equiv name_total) q p ps (IsDistinct-from_sorted string_cmp (keys_of (p ∷ ps)) rise) same))
      by false other = refl

  pub made-rising : (ps : List (Name × X)) → IsRising ps → IsMadeOf ps (record { entries = ps })
  made-rising ps rise = record { found = λ q. sym (rising-leave q ps (λ _. None) rise ∙ option_or-none _); rising = rise }
