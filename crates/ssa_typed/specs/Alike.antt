-- Bodies one of which may be put over the other.
use Rattle.std.specs.Prelude.{◌≡◌, Bool, true, false, not, ◌&&◌, Option, None, Some}
use Rattle.ssa_model.specs.definitions.Fitting.{IsBodyOf}
use Rattle.ssa_model.specs.definitions.Kind.{Kind}
use Rattle.ssa_model.specs.definitions.Path.{Path}
use Rattle.ssa_model.specs.definitions.PathMap.{get}
use Rattle.ssa_model.specs.definitions.Body.{Content, leaf, atom, record_branch, dict_branch, list_branch, Body, is_leaf}

-- both have the same sort of content, or one has none: a leaf or an atomic value, a record, a Dict or a list
abbrev pub are_alike : Option Content → Option Content → Bool
are_alike None d = true
are_alike (Some c) None = true
are_alike (Some (leaf s)) (Some d) = is_leaf (Some d)
are_alike (Some (atom v)) (Some d) = is_leaf (Some d)
are_alike (Some record_branch) (Some record_branch) = true
are_alike (Some dict_branch) (Some dict_branch) = true
are_alike (Some (list_branch es)) (Some (list_branch fs)) = true
are_alike _ _ = false

abbrev pub AreAlike : Body → Body → Type 0
AreAlike live config = (p : Path) → are_alike (get live p) (get config p) ≡ true

-- two bodies of one kind are so
abbrev pub BodiesAreAlike : Type 0
BodiesAreAlike = (kind : Kind) (b c : Body) → IsBodyOf kind b → IsBodyOf kind c → AreAlike b c

-- both are records, both Dicts or both lists
abbrev pub are_branches_alike : Content → Content → Bool
are_branches_alike c d = not (is_leaf (Some d)) && are_alike (Some c) (Some d)
