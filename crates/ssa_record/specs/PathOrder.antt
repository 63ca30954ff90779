-- Values under paths that are lent, in path order.
use Rattle.std.specs.Prelude.{◌≡◌, ℕ, ◌<◌, List, [], ◌∷◌, map, length, Bool, Option, Some, None, if◌then◌else◌, Result}
use Rattle.std.specs.BTreeMap.{insert_entry}
use Rattle.std.specs.FinMap.Entries.{is_sorted}
use Rattle.std.specs.List.{slice_index_or}
use Rattle.std.specs.Ordering.{on}
use Rattle.std.specs.Result.{MatchResult}
use Rattle.ssa_model.specs.definitions.Path.{Path, path_cmp, same_path}
use Rattle.ssa_path.specs.TopPaths.{lent_path}
use Rattle.ssa_path.specs.declared.top_path.LentPath.{LentPath}

-- the paths rise
abbrev pub lent_rise : {V : Type 0} → List (LentPath × V) → Bool
lent_rise es = is_sorted path_cmp (map (λ e. (lent_path e.0, tt {0})) es)

-- the values in path order, the first of each path
abbrev pub by_lent_path : {V : Type 0} → List (LentPath × V) → List (LentPath × V)
by_lent_path [] = []
by_lent_path (e ∷ es) = insert_entry (on lent_path path_cmp) (by_lent_path es) e.0 e.1

-- the first value of a path
abbrev pub value_at : {V : Type 0} → Path → List (LentPath × V) → Option V
value_at p [] = None
value_at p (e ∷ es) = if same_path p (lent_path e.0) then Some e.1 else value_at p es

-- the value at this place is that of the path
pub record IsValueAt {V : Type 0} (p : Path) (es : List (LentPath × V)) (i : ℕ) : Type 0 where
  pub within : i < length es
  pub is : (e : LentPath × V) → value_at p es ≡ Some (slice_index_or es i e).1

-- what a search for the value of the path answers
abbrev pub IsPathSearch : {V : Type 0} → Path → List (LentPath × V) → Result ℕ ℕ → Type 0
IsPathSearch p es r = MatchResult r (IsValueAt p es) (λ i. value_at p es ≡ None)
