-- Finite maps and sets of whole paths, told apart by what they answer. They compute, as std's opaque `FinMap` does not.
--     map_of ps f       the map with f's answer at each of the paths ps where f has one
--     set_of ps test       those of the paths ps that pass the test
use Rattle.std.specs.Prelude.{◌≡◌, ℕ, List, [], ◌∷◌, ◌++◌, map, length, Bool, true, false, cond, not, T, Option, Some, None, option_map, is_some, filter_map}
use mathlib.Core.HLevel.{Σ_prop_path}
use lib.Dec.{T_prop}
use Rattle.std.specs.FinMap.Entries.{find, put, is_sorted, is_sorted-put}
use Rattle.std.specs.List.{list_any}
use Rattle.std.specs.Cmp.Lexicographic.{pointwise}
use Rattle.ssa_model.specs.definitions.Path.{Path, path_cmp, path_cmp_total, same_path, under, rest_of}

pub record PathMap (X : Type 0) : Type 0 where
  pub entries : List (Path × X)
  pub in_order : T (is_sorted path_cmp entries)

abbrev pub PathSet : Type 0
PathSet = PathMap (Unit {0})

module _ {X : Type 0} where
  abbrev pub empty : PathMap X
  empty = record { entries = []; in_order = tt }

  abbrev pub insert : Path → X → PathMap X → PathMap X
  insert p x m = record { entries = put path_cmp p x m.entries; in_order = is_sorted-put path_cmp path_cmp_total p x m.entries m.in_order }

  -- the first value at each path of the list
  abbrev pub from_entries : List (Path × X) → PathMap X
  from_entries [] = empty
  from_entries (e ∷ es) = insert e.0 e.1 (from_entries es)

  abbrev pub get : PathMap X → Path → Option X
  get m p = find path_cmp p m.entries

  abbrev pub has : PathMap X → Path → Bool
  has m p = is_some (get m p)

  abbrev pub paths : PathMap X → List Path
  paths m = map (λ e. e.0) m.entries

  abbrev pub size : PathMap X → ℕ
  size m = length m.entries

  -- a path of the map is under p
  abbrev pub has_at_or_below : PathMap X → Path → Bool
  has_at_or_below m p = list_any (under p) (paths m)

  -- p is under a path of the map
  abbrev pub has_at_or_above : PathMap X → Path → Bool
  has_at_or_above m p = list_any (λ g. under g p) (paths m)

  abbrev pub map_of : List Path → (Path → Option X) → PathMap X
  map_of ps f = from_entries (filter_map (λ p. option_map (λ x. (p, x)) (f p)) ps)

  -- what the map has at p and below, each at what follows p
  abbrev pub below : PathMap X → Path → PathMap X
  below m p = map_of (filter_map (rest_of p) (paths m)) (λ q. get m (p ++ q))

pub same_entries_map : {X : Type 0} (m n : PathMap X) → m.entries ≡ n.entries → m ≡ n
same_entries_map {X} m n e =
    let pairs : ◌≡◌ {A = (es : List (Path × X)) × T (is_sorted path_cmp es)} (m.entries, m.in_order) (n.entries, n.in_order) = Σ_prop_path (λ es. T_prop _) e in
    λ i. record { entries = (pairs i).0; in_order = (pairs i).1 }

abbrev pub set_of : List Path → (Path → Bool) → PathSet
set_of ps test = map_of ps (λ p. cond (test p) (Some tt) None)

abbrev pub union : PathSet → PathSet → PathSet
union s t = set_of (paths s ++ paths t) (λ p. true)

abbrev pub minus : PathSet → PathSet → PathSet
minus s t = set_of (paths s) (λ p. not (has t p))

abbrev pub is_empty : PathSet → Bool
is_empty s = elim s.entries [ [] ↦ true | e ∷ es ↦ false ]

abbrev pub same_set : PathSet → PathSet → Bool
same_set s t = pointwise same_path (paths s) (paths t)

abbrev pub marked : List Path → List (Path × Unit {0})
marked ps = map (λ p. (p, tt)) ps

-- the set of these paths
abbrev pub listed : List Path → PathSet
listed ps = from_entries (marked ps)
