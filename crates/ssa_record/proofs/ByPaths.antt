-- Entries under lent paths, put into a map one after the other, and found there by their paths.
use Rattle.std.proofs.Common.{◌≡◌, List, [], ◌∷◌, ◌++◌, map, cond, true, false, Option, Some, None, Less, Equal, Greater, refl, sym, ap, ◌∙◌, append_assoc, append-nil}
use Rattle.std.specs.Borrow.{Bor}
use Rattle.std.specs.BTreeMap.{insert_entry}
use Rattle.std.specs.Option.{option_copied}
use Rattle.std.specs.FinMap.Entries.{find, put, by_order}
use Rattle.std.specs.Ordering.{match_ordering, on}
use Rattle.std.specs.Prelude.{is_some, option_map}
use Rattle.ssa_model.specs.definitions.Path.{Path, path_cmp, same_path}
use Rattle.ssa_model.specs.definitions.PathMap.{PathMap, from_entries, get}
use Rattle.ssa_model.proofs.PathMaps.{get-from_entries, same_map}
use Rattle.ssa_path.specs.TopPaths.{lent_path}
use Rattle.ssa_path.specs.declared.top_path.LentPath.{LentPath}
use Rattle.ssa_record.specs.PathOrder.{by_lent_path, value_at}

module _ {V : Type 0} where
  -- of these entries the first are left, and those behind them are in the map
  pub record AreSorted (all rest sorted : List (LentPath × V)) : Type 0 where
    -- the entries that are in the map already
    pub taken : List (LentPath × V)
    -- those that are left and those in the map are all
    pub whole : all ≡ rest ++ taken
    -- the map is made of those taken
    pub done : sorted ≡ by_lent_path taken

  -- at first none is taken
  pub sorted-none : (es sorted : List (LentPath × V)) → sorted ≡ [] → AreSorted es es sorted
  sorted-none es sorted none = record { taken = []; whole = sym (append-nil es); done = none }

  -- one more is taken off the end
  pub sorted-more : (all old new sorted sorted2 : List (LentPath × V)) (p : LentPath) (v : V) → AreSorted all old sorted → old ≡ new ++ (p, v) ∷ []
      → sorted2 ≡ insert_entry (on lent_path path_cmp) sorted p v → AreSorted all new sorted2
  sorted-more all old new sorted sorted2 p v h is put_in = record {
    taken = (p, v) ∷ h.taken;
    whole = h.whole ∙ ap (λ l. l ++ h.taken) is ∙ append_assoc new ((p, v) ∷ []) h.taken;
    done = put_in ∙ ap (λ l. insert_entry (on lent_path path_cmp) l p v) h.done;
  }

  -- at last all are
  pub sorted-all : (all rest sorted : List (LentPath × V)) → AreSorted all rest sorted → rest ≡ [] → sorted ≡ by_lent_path all
  sorted-all all rest sorted h none = h.done ∙ ap by_lent_path (sym (h.whole ∙ ap (λ l. l ++ h.taken) none))

module _ {V X : Type 0} (f : V → X) where
  -- the entries by their paths, each value as a function shows it
  abbrev pub shown : List (LentPath × V) → List (Path × X)
  shown = map (λ e. (lent_path e.0, f e.1))

  -- an entry more in the map is an entry more among the paths
  entry-put : (p : LentPath) (v : V) (es : List (LentPath × V))
      → shown (insert_entry (on lent_path path_cmp) es p v) ≡ put path_cmp (lent_path p) (f v) (shown es)
  entry-put p v [] = refl
  entry-put p v (e ∷ es) =
      let own : Path × X = (lent_path p, f v) in
      let here : Path × X = (lent_path e.0, f e.1) in
      let rest = insert_entry (on lent_path path_cmp) es p v in
      elim (path_cmp (lent_path p) (lent_path e.0)) as (λ o. shown (match_ordering o ((p, v) ∷ e ∷ es) ((e.0, v) ∷ es) (e ∷ rest))
      ≡ by_order o (own ∷ here ∷ shown es) ((lent_path e.0, f v) ∷ shown es) (here ∷ put path_cmp (lent_path p) (f v) (shown es))) [
        | Less ↦ refl
        | Equal ↦ refl
        | Greater ↦ ap (λ l. here ∷ l) (entry-put p v es)
      ]

  -- the values in path order are the entries of a map
  pub shown-sorted : (es : List (LentPath × V)) → shown (by_lent_path es) ≡ (from_entries (shown es)).entries
  shown-sorted [] = refl
  shown-sorted (e ∷ es) = entry-put e.0 e.1 (by_lent_path es) ∙ ap (put path_cmp (lent_path e.0) (f e.1)) (shown-sorted es)

  -- the entries of a map make that map
  entries-again : (m : PathMap X) → from_entries m.entries ≡ m
  entries-again m = same_map _ _ (λ q. get-from_entries m.entries q)

  -- a map of entries tells what the entries tell
  pub told-by_map : (es sorted : List (LentPath × V)) → sorted ≡ by_lent_path es → from_entries (shown sorted) ≡ from_entries (shown es)
  told-by_map es sorted is = ap (λ l. from_entries (shown l)) is ∙ ap from_entries (shown-sorted es) ∙ entries-again (from_entries (shown es))

  find-shown : (p : Path) (es : List (LentPath × V)) → option_map f (value_at p es) ≡ find path_cmp p (shown es)
  find-shown p [] = refl
  find-shown p (e ∷ es) =
      elim (same_path p (lent_path e.0)) as (λ t. option_map f (cond t (Some e.1) (value_at p es)) ≡ cond t (Some (f e.1)) (find path_cmp p (shown es))) [
        | true ↦ refl
        | false ↦ find-shown p es
      ]

  -- the value of a path is what the map of the values has there
  pub value-shown : (p : Path) (es : List (LentPath × V)) → option_map f (value_at p es) ≡ get (from_entries (shown es)) p
  value-shown p es = find-shown p es ∙ sym (get-from_entries (shown es) p)

-- ---- what is lent of an option

-- what is lent is there where it was
pub copied-some : {A : Type 0} (o : Option (Bor A)) → is_some o ≡ is_some (option_copied o)
copied-some None = refl
copied-some (Some x) = refl

-- what is shown by a function is there where it was
pub mapped-some : {A B : Type 0} (f : A → B) (o : Option A) → is_some o ≡ is_some (option_map f o)
mapped-some f None = refl
mapped-some f (Some x) = refl
