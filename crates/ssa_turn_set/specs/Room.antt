-- Room for a set of paths that is put into another, place by place, as the other stands without it.
use Rattle.std.specs.declared.alloc.Global.{Global}
use Rattle.std.specs.Prelude.{◌≡◌, Vec, ℕ, zero, suc, ◌+◌, List, [], ◌∷◌, length, map, Bool, true, false, not, ◌&&◌, if◌then◌else◌, nat_le, vec_capacity, Option, Some, None}
use Rattle.ssa_model.specs.definitions.FieldsV1.{heads, tails}
use Rattle.ssa_model.specs.definitions.Path.{Element, Path}
use Rattle.ssa_path.specs.declared.element.Elem.{Elem}
use Rattle.ssa_path.specs.declared.trie.Trie.{Trie}
use Rattle.ssa_path.specs.declared.trie.Trie.TheOpen.{Trie-F}
use Rattle.ssa_path.specs.declared.trie.Trie.TheFolds.{fold-Trie}
use Rattle.ssa_path.specs.declared.trie.Trie.TheViews.{out-Trie}
use Rattle.ssa_path.specs.Children.{child_at}
use Rattle.ssa_path.specs.View.{element_view}
use Rattle.std.specs.List.{filter}
use Rattle.ssa_path.specs.Trie.{has_some, is_one_of, paths}
use Rattle.ssa_turn_set.specs.declared.room.Room.{Room}
use Rattle.ssa_turn_set.specs.declared.room.Room.TheOpen.{Room-F}
use Rattle.ssa_turn_set.specs.declared.room.Room.TheVariants as room
use Rattle.ssa_turn_set.specs.declared.room.Room.TheViews.{out-Room}
use Rattle.ssa_turn_set.specs.declared.spare.Spare.{Spare}
use Rattle.ssa_turn_set.specs.declared.spare.Spare.TheVariants as spare
use Rattle.ssa_turn_set.specs.Spare.{fits, is_nothing}

-- ---- what a room has

-- the vector for the place's own children, where there is one
abbrev pub own_children : Room-F Room → List (Elem × Trie)
own_children Room-F.Nothing = []
own_children (Room-F.Lone n near v s) = v.items
own_children (Room-F.Each v rs) = v.items

-- how many children it can take
abbrev pub width : Room-F Room → ℕ
width Room-F.Nothing = 0
width (Room-F.Lone n near v s) = vec_capacity v
width (Room-F.Each v rs) = vec_capacity v

-- whether children of the place may come or go: above the place of a child that comes or goes alone none does
abbrev pub has_place : Room-F Room → Bool
has_place Room-F.Nothing = true
has_place (Room-F.Lone zero near v s) = true
has_place (Room-F.Lone (suc n) near v s) = false
has_place (Room-F.Each v rs) = true

-- the room of one child, below which nothing comes or goes
abbrev pub lone_room : Spare → Spare × Room
lone_room s = (s, room.Nothing)

abbrev pub lone_rooms : Spare → List (Spare × Room)
lone_rooms s = lone_room s ∷ []

-- the rooms of the children
abbrev pub rooms_of : Room-F Room → List (Spare × Room)
rooms_of Room-F.Nothing = []
rooms_of (Room-F.Lone zero near v s) = lone_rooms s
rooms_of (Room-F.Lone (suc n) near v s) = (spare.Nothing, room.Lone n near v s) ∷ []
rooms_of (Room-F.Each v rs) = rs.items

-- the room of a place where one child is concerned: that child's spare and its room, and this vector for the place's children
pub record IsRoomOfOne (v : Vec (Elem × Trie) Global) (s : Spare) (inner r : Room) : Type 0 where
  pub own : own_children (out-Room r) ≡ v.items
  pub place : has_place (out-Room r) ≡ true
  pub wide : width (out-Room r) ≡ vec_capacity v
  pub rooms : rooms_of (out-Room r) ≡ (s, inner) ∷ []

-- ---- the children of a place

-- what follows a child's element in the paths that begin with it
abbrev pub below_child : {A : Type 0} → Elem × A → List Path → List Path
below_child d ps = tails (element_view d.0) ps

-- 1 where there is no path
abbrev pub fresh : List Path → ℕ
fresh ps = if has_some ps then 0 else 1

-- the children with which none of the paths begins
abbrev pub freshes : {A : Type 0} → List (Elem × A) → List Path → ℕ
freshes [] ps = 0
freshes (d ∷ ds) ps = fresh (below_child d ps) + freshes ds ps

-- what is asked for only where a child comes or goes
abbrev pub if_any : ℕ → Bool → Bool
if_any zero b = true
if_any (suc n) b = b

-- the place's own vector is empty, and where some children come or go it is theirs, with room for so many in all
abbrev pub holds : ℕ → ℕ → Room → Bool
holds coming all r =
    not (has_some {A = Elem × Trie} (own_children (out-Room r))) && if_any coming (has_place (out-Room r) && nat_le all (width (out-Room r)))

-- ---- the places, where these are the paths without the set

abbrev pub Need : Type 0
Need = List Path → Room → Bool

-- where there is no path the spare is enough for the element, and else there is none
abbrev pub serves : Element → List Path → Spare → Bool
serves e ps s = if has_some ps then is_nothing s else fits e s

-- each room is enough for its child, and where the child comes its spare for the child's element
abbrev pub each_gains : List (Elem × Need) → List Path → List (Spare × Room) → Bool
each_gains [] ps [] = true
each_gains [] ps (r ∷ rs) = false
each_gains (d ∷ ds) ps [] = false
each_gains (d ∷ ds) ps (r ∷ rs) =
    let below = below_child d ps in
    (serves (element_view d.0) below r.0 && d.1 below r.1) && each_gains ds ps rs

abbrev pub gain_step : Trie-F Need → Need
gain_step x ps r =
    let coming = freshes x.below.items ps in
    holds coming (length (heads ps) + coming) r && each_gains x.below.items ps (rooms_of (out-Room r))

-- the room is enough for putting the set in
abbrev pub gain_room : Trie → Need
gain_room = fold-Trie Need gain_step

-- each room is enough for its child, and has no spare
abbrev pub each_loses : List (Elem × Need) → List Path → List (Spare × Room) → Bool
each_loses [] ps [] = true
each_loses [] ps (r ∷ rs) = false
each_loses (d ∷ ds) ps [] = false
each_loses (d ∷ ds) ps (r ∷ rs) = (is_nothing r.0 && d.1 (below_child d ps) r.1) && each_loses ds ps rs

abbrev pub lose_step : Trie-F Need → Need
lose_step x ps r = holds (freshes x.below.items ps) (length (heads ps)) r && each_loses x.below.items ps (rooms_of (out-Room r))

-- the room is enough for taking the set out
abbrev pub lose_room : Trie → Need
lose_room = fold-Trie Need lose_step

-- ---- of a list of children, and of one

abbrev pub gains : List (Elem × Trie) → List Path → List (Spare × Room) → Bool
gains ds = each_gains (map (λ d. (d.0, gain_room d.1)) ds)

abbrev pub loses : List (Elem × Trie) → List Path → List (Spare × Room) → Bool
loses ds = each_loses (map (λ d. (d.0, lose_room d.1)) ds)

abbrev pub gain_one : Elem × Trie → List Path → Spare × Room → Bool
gain_one d below r = serves (element_view d.0) below r.0 && gain_room d.1 below r.1

abbrev pub lose_one : Elem × Trie → List Path → Spare × Room → Bool
lose_one d below r = is_nothing r.0 && lose_room d.1 below r.1

-- ---- where a set loses some of its paths

-- the paths without those others
abbrev pub left : List Path → List Path → List Path
left ps qs = filter (λ p. not (is_one_of qs p)) ps

-- the children that go whole, where these are the paths that the set had and each child is lost
abbrev pub going : List (Elem × Trie) → List Path → ℕ
going [] ps = 0
going (d ∷ ds) ps = fresh (left (below_child d ps) (paths d.1)) + going ds ps

-- each room is enough for its child to be lost
abbrev pub losses : List (Elem × Trie) → List Path → List (Spare × Room) → Bool
losses [] ps [] = true
losses [] ps (r ∷ rs) = false
losses (d ∷ ds) ps [] = false
losses (d ∷ ds) ps (r ∷ rs) = lose_one d (left (below_child d ps) (paths d.1)) r && losses ds ps rs

-- 1 where the child stands there and nothing is left of it
abbrev pub gone_of : Option Trie → List Path → ℕ
gone_of None qs = 0
gone_of (Some c) qs = fresh (left (paths c) qs)

-- the lost children that stand there and go whole
abbrev pub leaving : List (Elem × Trie) → List (Elem × Trie) → ℕ
leaving [] cs = 0
leaving (d ∷ ds) cs = gone_of (child_at (element_view d.0) cs) (paths d.1) + leaving ds cs

-- whether nothing is left of a place that has the one paths and loses the others
abbrev pub goes : List Path → List Path → Bool
goes ps qs = not (has_some (left ps qs))

-- the children of a place
abbrev pub children : Trie → List (Elem × Trie)
children t = (out-Trie t).below.items

-- what counts only where there is no such child
abbrev pub unless_there : Option Trie → ℕ → ℕ
unless_there None n = n
unless_there (Some c) n = 0

-- 1 where the lost child stands there and goes whole, and is none of the others
abbrev pub leaves_beside : List (Elem × Trie) → Elem × Trie → List (Elem × Trie) → ℕ
leaves_beside gs d cs = unless_there (child_at (element_view d.0) gs) (gone_of (child_at (element_view d.0) cs) (paths d.1))

-- the lost children that stand there, go whole and are none of the others
abbrev pub leaving_beside : List (Elem × Trie) → List (Elem × Trie) → List (Elem × Trie) → ℕ
leaving_beside gs [] cs = 0
leaving_beside gs (d ∷ ds) cs = leaves_beside gs d cs + leaving_beside gs ds cs
