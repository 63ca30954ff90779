-- Room that is copied serves wherever the first does.
use Rattle.std.proofs.Common.{◌≡◌, ℕ, zero, suc, Vec, ◌<◌, ◌+◌, List, [], ◌∷◌, ◌++◌, length, get_or, take, true, not, ◌&&◌, refl, sym, ap, ◌∙◌, true≢false, subst}
use Rattle.std.proofs.lemmas.List.Elements.{AllZip-push}
use Rattle.std.specs.List.{AllZip}
use Rattle.std.specs.declared.alloc.Global.{Global}
use Rattle.std.specs.Prelude.{nat_le, vec_capacity}
use Rattle.ssa_model.specs.definitions.Path.{Element, Path, same_element}
use Rattle.ssa_path.specs.Trie.{has_some}
use Rattle.ssa_path.specs.View.{element_view}
use Rattle.ssa_path.specs.declared.element.Elem.{Elem}
use Rattle.ssa_path.specs.declared.trie.Trie.{Trie}
use Rattle.ssa_path.specs.declared.trie.Trie.TheViews.{out-Trie}
use Rattle.ssa_path.proofs.Lists.{taken-at}
use Rattle.ssa_path.proofs.Orders.{both_first, both_second}
use Rattle.ssa_turn_set.specs.Copies.{ChildServes, RoomServes, SpareServes}
use Rattle.ssa_turn_set.specs.Room.{below_child, gains, gain_one, has_place, holds, if_any, lone_rooms, loses, lose_one, own_children, rooms_of, serves, width}
use Rattle.ssa_turn_set.specs.Spare.{is_nothing}
use Rattle.ssa_turn_set.specs.declared.room.Room.{Room}
use Rattle.ssa_turn_set.specs.declared.room.Room.TheOpen.{Room-F}
use Rattle.ssa_turn_set.specs.declared.room.Room.TheVariants as room
use Rattle.ssa_turn_set.specs.declared.room.Room.TheViews.{out-Room}
use Rattle.ssa_turn_set.specs.declared.spare.Spare.{Spare}
use Rattle.ssa_turn_set.specs.declared.spare.Spare.TheVariants.{Kept, Nothing}
use Rattle.ssa_turn_set.proofs.Rooms.{gain_room-level, lone-out, lose_room-level}
use Rattle.ssa_model.proofs.Basics.{both-true as both}

-- ---- one more copy

-- one copy more of a list stands beside its original
pub each-pushed : {X : Type 0} (R : X → X → Type 0) (xs : List X) (i : ℕ) (x : X) → i < length xs → x ≡ get_or xs i x
    → (ys zs : List X) (y : X) → zs ≡ ys ++ y ∷ [] → AllZip R (take i xs) ys → R x y → AllZip R (take (i + 1) xs) zs
each-pushed R xs i x lt is ys zs y pushed each serve =
    subst (AllZip R (take (i + 1) xs)) (sym pushed)
    (subst (λ l. AllZip R l (ys ++ y ∷ [])) (sym (taken-at xs i x lt is)) (AllZip-push R (take i xs) ys x y each serve))

-- ---- the room for an element

-- a copy of the element serves where the element does
pub kept-serve : (x y : Elem) → element_view y ≡ element_view x → SpareServes (Kept x) (Kept y)
kept-serve x y same = record { nothing = λ h. h; fits = λ e h. ap (same_element e) same ∙ h }

-- ---- the room of a place

spare-serves : (e : Element) (ps : List Path) (s c : Spare) → SpareServes s c → serves e ps s ≡ true → serves e ps c ≡ true
spare-serves e [] s c serve h = serve.fits e h
spare-serves e (p ∷ ps) s c serve h = serve.nothing h

gains-serve : (ds : List (Elem × Trie)) (ps : List Path) (rs cs : List (Spare × Room)) → AllZip ChildServes rs cs
    → gains ds ps rs ≡ true → gains ds ps cs ≡ true
gains-serve [] ps [] [] z h = refl
gains-serve [] ps [] (c ∷ cs) z h = absurd z
gains-serve [] ps (r ∷ rs) cs z h = absurd (true≢false (sym h))
gains-serve (d ∷ ds) ps [] cs z h = absurd (true≢false (sym h))
gains-serve (d ∷ ds) ps (r ∷ rs) [] z h = absurd z
gains-serve (d ∷ ds) ps (r ∷ rs) (c ∷ cs) z h =
    let below = below_child d ps in
    let here = both_first (gain_one d below r) _ h in
    both _ _
    (both _ _ (spare-serves (element_view d.0) below r.0 c.0 z.0.0 (both_first _ _ here))
    (z.0.1.gain d.1 below (both_second (serves (element_view d.0) below r.0) _ here)))
    (gains-serve ds ps rs cs z.1 (both_second (gain_one d below r) _ h))

loses-serve : (ds : List (Elem × Trie)) (ps : List Path) (rs cs : List (Spare × Room)) → AllZip ChildServes rs cs
    → loses ds ps rs ≡ true → loses ds ps cs ≡ true
loses-serve [] ps [] [] z h = refl
loses-serve [] ps [] (c ∷ cs) z h = absurd z
loses-serve [] ps (r ∷ rs) cs z h = absurd (true≢false (sym h))
loses-serve (d ∷ ds) ps [] cs z h = absurd (true≢false (sym h))
loses-serve (d ∷ ds) ps (r ∷ rs) [] z h = absurd z
loses-serve (d ∷ ds) ps (r ∷ rs) (c ∷ cs) z h =
    let below = below_child d ps in
    let here = both_first (lose_one d below r) _ h in
    both _ _ (both _ _ (z.0.0.nothing (both_first _ _ here)) (z.0.1.lose d.1 below (both_second (is_nothing r.0) _ here)))
    (loses-serve ds ps rs cs z.1 (both_second (lose_one d below r) _ h))

module _ (r q : Room) (x : Room-F Room) (is : out-Room q ≡ x) (empty : own_children x ≡ []) (as_large : width x ≡ width (out-Room r)) (as_placed : has_place x ≡ has_place (out-Room r))
    (each : AllZip ChildServes (rooms_of (out-Room r)) (rooms_of x)) where
  own-serves : (f n : ℕ) → holds f n r ≡ true → holds f n q ≡ true
  own-serves f n h =
      ap (λ (y : Room-F Room). not (has_some {A = Elem × Trie} (own_children y)) && if_any f (has_place y && nat_le n (width y))) is
      ∙ both _ _ (ap (λ l. not (has_some l)) empty)
      ((λ i. if_any f (as_placed i && nat_le n (as_large i))) ∙ both_second (not (has_some {A = Elem × Trie} (own_children (out-Room r)))) _ h)

  -- room that is as large, at the place and for each child, serves wherever the first does
  pub room-serves : RoomServes r q
  room-serves = record {
    gain = λ t ps h.
        let parts = sym (gain_room-level t ps r) ∙ h in
        gain_room-level t ps q
        ∙ both _ _ (own-serves _ _ (both_first _ _ parts))
        (ap (λ (y : Room-F Room). gains (out-Trie t).below.items ps (rooms_of y)) is
        ∙ gains-serve (out-Trie t).below.items ps _ _ each (both_second (holds _ _ r) _ parts));
    lose = λ t ps h.
        let parts = sym (lose_room-level t ps r) ∙ h in
        lose_room-level t ps q
        ∙ both _ _ (own-serves _ _ (both_first _ _ parts))
        (ap (λ (y : Room-F Room). loses (out-Trie t).below.items ps (rooms_of y)) is
        ∙ loses-serve (out-Trie t).below.items ps _ _ each (both_second (holds _ _ r) _ parts));
  }

-- the room of one child, so many places down, serves where its element's does and as many children fit
pub lone-serves : (r : Room) (n near : ℕ) (v w : Vec (Elem × Trie) Global) (s c : Spare) → r ≡ room.Lone n near v s → w.items ≡ []
    → vec_capacity w ≡ vec_capacity v → SpareServes s c → RoomServes r (room.Lone n near w c)
lone-serves r zero near v w s c is empty as_large serve =
    let own = ap out-Room is ∙ lone-out 0 near v s in
    room-serves r (room.Lone 0 near w c) _ (lone-out 0 near w c) empty (as_large ∙ sym (ap width own)) (sym (ap has_place own))
    (subst (λ x. AllZip ChildServes (rooms_of x) (lone_rooms c)) (sym own) ((serve, record { gain = λ t ps h. h; lose = λ t ps h. h }), tt))
lone-serves r (suc n) near v w s c is empty as_large serve =
    let own = ap out-Room is ∙ lone-out (suc n) near v s in
    room-serves r (room.Lone (suc n) near w c) _ (lone-out (suc n) near w c) empty (as_large ∙ sym (ap width own)) (sym (ap has_place own))
    (subst (λ x. AllZip ChildServes (rooms_of x) ((Nothing, room.Lone n near w c) ∷ [])) (sym own)
    ((record { nothing = λ h. h; fits = λ e h. h }, lone-serves (room.Lone n near v s) n near v w s c refl empty as_large serve), tt))
