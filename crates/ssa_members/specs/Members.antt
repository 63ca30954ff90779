-- Values under names, in the order of the names' bytes.
use denote.RattleType.{RattleType}
use Rattle.std.specs.Prelude.{◌≡◌, ℕ, ◌<◌, ◌≤◌, List, length, String, Option, None, Result, MatchResult, string_bytes, string_cmp}
use Rattle.std.specs.Cmp.Lexicographic.{slice_cmp}
use Rattle.std.specs.Coded.{Coded, code_by, coded_list, coded×}
use Rattle.std.specs.List.{slice_index_or}
use Rattle.std.specs.List.Sorted.{IsStrictlySortedBy}
use Rattle.std.specs.Map.{keys_of, lookup, update_all}
use Rattle.std.specs.BTreeMap.{is_at}
use Rattle.std.specs.Ordering.{eq_by_cmp, nat_cmp}
use Rattle.std.specs.declared.alloc.Global.{Global}
use Rattle.std.specs.declared.cmp.Ordering.{Ordering}
use Rattle.std.specs.declared.cmp.Ordering.TheVariants.{Less, Equal, Greater}
use Rattle.ssa_members.specs.contracts.name.Name as name

abbrev pub Name : Type 0
Name = String Global

-- the names with their values, in the names' order
pub record Members (X : Type 0) : Type 0 where
  pub entries : List (Name × X)

abbrev pub name_row : RattleType
name_row = name.the_row

abbrev pub members_code : {X : Type 0} → Coded X → Coded (Members X)
members_code x = code_by _ (coded_list (coded× name_row.coded x)) (λ m. m.entries) (λ es. record { entries = es }) (λ m i. m)

-- how these bytes compare with a name's
abbrev pub text_cmp : List ℕ → Name → Ordering
text_cmp bs k = slice_cmp nat_cmp bs (string_bytes k)

module _ {X : Type 0} where
  -- the names rise
  abbrev pub IsRising : List (Name × X) → Type 0
  IsRising es = IsStrictlySortedBy string_cmp (keys_of es)

  -- the value under the name of these bytes
  abbrev pub get : Members X → List ℕ → Option X
  get m bs = lookup (is_at (text_cmp bs)) m.entries

  -- the name at this place has these bytes
  pub record IsNameAt (bs : List ℕ) (es : List (Name × X)) (i : ℕ) : Type 0 where
    pub within : i < length es
    pub same : (e : Name × X) → text_cmp bs (slice_index_or es i e).0 ≡ Equal

  -- the names before this place are below these bytes, and those behind it above them
  pub record IsGapFor (bs : List ℕ) (es : List (Name × X)) (i : ℕ) : Type 0 where
    pub within : i ≤ length es
    pub below : (j : ℕ) (e : Name × X) → j < i → text_cmp bs (slice_index_or es j e).0 ≡ Greater
    pub above : (j : ℕ) (e : Name × X) → i ≤ j → j < length es → text_cmp bs (slice_index_or es j e).0 ≡ Less

  -- what a search for a name answers
  abbrev pub IsPlaceOf : List ℕ → List (Name × X) → Result ℕ ℕ → Type 0
  IsPlaceOf bs es r = MatchResult r (IsNameAt bs es) (IsGapFor bs es)

  -- each name has the last value that one of the pairs gives it, and the names rise
  pub record IsMadeOf (ps : List (Name × X)) (m : Members X) : Type 0 where
    pub found : (q : Name) → lookup (is_at (string_cmp q)) m.entries ≡ update_all (eq_by_cmp string_cmp) (λ _. None) ps q
    pub rising : IsRising m.entries
