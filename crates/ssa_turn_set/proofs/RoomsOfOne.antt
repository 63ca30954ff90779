-- The room of a place where one child is concerned.
use Rattle.std.proofs.Common.{◌≡◌, ◌+◌, ◌<◌, ◌≤◌, List, [], ◌∷◌, length, true, refl, ◌∙◌, arith}
use Rattle.ssa_model.specs.definitions.FieldsV1.{heads, tails}
use Rattle.ssa_model.specs.definitions.Path.{Path}
use Rattle.ssa_model.proofs.Basics.{both-true as both}
use Rattle.ssa_path.specs.declared.element.Elem.{Elem}
use Rattle.ssa_path.specs.declared.trie.Trie.{Trie}
use Rattle.ssa_path.specs.Trie.{is_trie, paths, paths_below}
use Rattle.ssa_path.specs.View.{element_view}
use Rattle.ssa_turn_set.specs.declared.room.Room.{Room}
use Rattle.ssa_turn_set.specs.declared.room.Room.TheViews.{out-Room}
use Rattle.ssa_turn_set.specs.declared.spare.Spare.{Spare}
use Rattle.ssa_turn_set.specs.declared.spare.Spare.TheVariants.{Nothing}
use Rattle.ssa_turn_set.specs.Room.{children, freshes, gain_room, gains, going, has_place, left, lose_room, losses, own_children, rooms_of, serves, width}
use Rattle.ssa_turn_set.proofs.Left.{gain-left, loss-held}
use Rattle.ssa_turn_set.proofs.Losing.{gain-form, start-form}

-- for a set of one child to be taken out, the child's room and the place's own are enough
pub one-lost : (t s : Trie) (d : Elem × Trie) (inner r : Room) → is_trie t ≡ true → children t ≡ d ∷ []
    → rooms_of (out-Room r) ≡ (Nothing, inner) ∷ []
    → (own_children (out-Room inner) ≡ [] → own_children (out-Room r) ≡ [])
    → (0 < going (children t) (paths_below (children s)) → has_place (out-Room r) ≡ true)
    → (0 < going (children t) (paths_below (children s)) → length (heads (left (paths s) (paths t))) ≤ width (out-Room r))
    → lose_room d.1 (left (tails (element_view d.0) (paths_below (children s))) (paths d.1)) inner ≡ true
    → lose_room t (left (paths s) (paths t)) r ≡ true
one-lost t s d inner r trie all rooms own place fits enough =
    loss-held t s r _ refl trie (own (start-form d.1 _ inner enough).0) place fits
    ((λ j. losses (all j) (paths_below (children s)) (rooms j)) ∙ both _ _ (both _ _ refl enough) refl)

-- for a set of one child to be put in, the child's room, with its spare, and the place's own are enough
pub one-gained : (t : Trie) (ps : List Path) (d : Elem × Trie) (spare : Spare) (inner r : Room) → children t ≡ d ∷ []
    → rooms_of (out-Room r) ≡ (spare, inner) ∷ []
    → (own_children (out-Room inner) ≡ [] → own_children (out-Room r) ≡ [])
    → (0 < freshes (children t) ps → has_place (out-Room r) ≡ true)
    → (0 < freshes (children t) ps → length (heads ps) + freshes (children t) ps ≤ width (out-Room r))
    → serves (element_view d.0) (tails (element_view d.0) ps) spare ≡ true
    → gain_room d.1 (tails (element_view d.0) ps) inner ≡ true → gain_room t ps r ≡ true
one-gained t ps d spare inner r all rooms own place fits serve enough =
    gain-left t ps r _ (length (heads ps)) refl (own (gain-form d.1 _ inner enough)) (omega arith) place fits
    ((λ j. gains (all j) ps (rooms j)) ∙ both _ _ (both _ _ serve enough) refl)
