-- Whether a record is told where the body has something, and tells no more than a body has.
use Rattle.std.specs.Prelude.{Bool, ◌&&◌, length, nat_le}
use Rattle.std.specs.List.{list_all}
use Rattle.ssa_model.specs.definitions.Body.{Body}
use Rattle.ssa_model.specs.definitions.Limits.{most_places}
use Rattle.ssa_model.specs.definitions.Path.{Path, parent}
use Rattle.ssa_model.specs.definitions.PathMap.{has}
use Rattle.ssa_told.specs.Told.{BodyTold}

-- the body has the path's parent
abbrev pub stands : Body → Path → Bool
stands v p = has v (parent p)

-- and so it has of each path of which something is told
abbrev pub stand : Body → BodyTold → Bool
stand v t =
    list_all (stands v) t.cut && (list_all (λ e. stands v e.0) t.leaves && (list_all (λ e. stands v e.0) t.order && list_all (λ e. stands v e.0) t.put))

-- no list has more paths than a body may have places
abbrev pub are_few : BodyTold → Bool
are_few t = nat_le (length t.cut) most_places && (nat_le (length t.leaves) most_places
    && (nat_le (length t.order) most_places && nat_le (length t.put) most_places))
