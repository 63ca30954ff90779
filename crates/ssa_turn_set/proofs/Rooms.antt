-- The rooms of a set that is put into another or taken out of it.
use Rattle.std.proofs.Common.{◌≡◌, ℕ, suc, ◌+◌, List, [], ◌∷◌, ◌++◌, length, map, true, ◌&&◌, refl, sym, ap, ◌∙◌, true≢false}
use Rattle.std.specs.declared.alloc.Global.{Global}
use Rattle.std.proofs.Common.{Vec}
use Rattle.ssa_model.specs.definitions.FieldsV1.{heads, tails}
use Rattle.ssa_model.specs.definitions.Path.{Element, Path}
use Rattle.ssa_path.specs.declared.element.Elem.{Elem}
use Rattle.ssa_path.specs.declared.trie.Trie.{Trie}
use Rattle.ssa_path.specs.declared.trie.Trie.TheViews.{out-Trie}
use Rattle.ssa_path.specs.declared.trie.Trie.TheFolds.{fold_out-Trie}
use Rattle.ssa_path.specs.View.{element_view}
use Rattle.ssa_path.proofs.Orders.{both_first, both_second}
use Rattle.ssa_turn_set.specs.declared.room.Room.{Room}
use Rattle.ssa_turn_set.specs.declared.room.Room.TheOpen.{Room-F}
use Rattle.ssa_turn_set.specs.declared.room.Room.TheVariants as room
use Rattle.ssa_turn_set.specs.declared.room.Room.TheViews.{out-Room, roll-Room, out-roll-Room}
use Rattle.ssa_turn_set.specs.declared.spare.Spare.{Spare}
use Rattle.ssa_turn_set.specs.Room.{fresh, freshes, holds, Need, gain_step, gain_room, lose_step, lose_room, gains, loses, gain_one, lose_one, rooms_of}
use Rattle.ssa_model.proofs.Basics.{both-true as both}

-- ---- the kinds of rooms

pub nothing-out : out-Room room.Nothing ≡ Room-F.Nothing
unfolding out-Room denote.Hole.Carrier.out
nothing-out = refl

pub lone-out : (n near : ℕ) (v : Vec (Elem × Trie) Global) (s : Spare) → out-Room (room.Lone n near v s) ≡ Room-F.Lone n near v s
unfolding out-Room denote.Hole.Carrier.out
lone-out n near v s = refl

-- the room for one child, told of how many places down it is
pub lone-at : (n m near : ℕ) (v : Vec (Elem × Trie) Global) (s : Spare) → n ≡ m
    → out-Room (room.Lone n near v s) ≡ Room-F.Lone m near v s
lone-at n m near v s e = lone-out n near v s ∙ (λ i. Room-F.Lone (e i) near v s)

pub each-out : (v : Vec (Elem × Trie) Global) (rs : Vec (Spare × Room) Global) → out-Room (room.Each v rs) ≡ Room-F.Each v rs
unfolding roll-Room denote.Hole.Carrier.roll
each-out v rs = out-roll-Room (Room-F.Each v rs)

-- ---- one level

freshes-map : {A B : Type 0} (f : A → B) (ds : List (Elem × A)) (ps : List Path) → freshes (map (λ d. (d.0, f d.1)) ds) ps ≡ freshes ds ps
freshes-map f [] ps = refl
freshes-map f (d ∷ ds) ps = ap (λ n. fresh (tails (element_view d.0) ps) + n) (freshes-map f ds ps)

-- room to take a set out of a place is the place's own room, and that of each child
pub lose_room-level : (t : Trie) (ps : List Path) (r : Room)
    → lose_room t ps r ≡ (holds (freshes (out-Trie t).below.items ps) (length (heads ps)) r && loses (out-Trie t).below.items ps (rooms_of (out-Room r)))
lose_room-level t ps r =
    (λ i. fold_out-Trie Need lose_step t i ps r)
    ∙ ap (λ n. holds n (length (heads ps)) r && loses (out-Trie t).below.items ps (rooms_of (out-Room r))) (freshes-map lose_room (out-Trie t).below.items ps)

-- room to put a set into a place is the place's own room, and that of each child
pub gain_room-level : (t : Trie) (ps : List Path) (r : Room)
    → gain_room t ps r ≡ (holds (freshes (out-Trie t).below.items ps) (length (heads ps) + freshes (out-Trie t).below.items ps) r
    && gains (out-Trie t).below.items ps (rooms_of (out-Room r)))
gain_room-level t ps r =
    (λ i. fold_out-Trie Need gain_step t i ps r)
    ∙ ap (λ n. holds n (length (heads ps) + n) r && gains (out-Trie t).below.items ps (rooms_of (out-Room r)))
    (freshes-map gain_room (out-Trie t).below.items ps)

-- ---- what matters of the paths

-- below each of the children the paths are alike
abbrev pub AreAlike : {A : Type 0} → List (Elem × A) → List Path → List Path → Type 0
AreAlike [] ps qs = Unit {0}
AreAlike (d ∷ ds) ps qs = (tails (element_view d.0) ps ≡ tails (element_view d.0) qs) × AreAlike ds ps qs

-- where the same paths are left behind each element, so they are behind each child's
pub all-alike : {A : Type 0} (ds : List (Elem × A)) (ps qs : List Path) → ((e : Element) → tails e ps ≡ tails e qs) → AreAlike ds ps qs
all-alike [] ps qs h = tt
all-alike (d ∷ ds) ps qs h = (h (element_view d.0), all-alike ds ps qs h)

-- as many children come to paths that are alike
pub freshes-alike : {A : Type 0} (ds : List (Elem × A)) (ps qs : List Path) → AreAlike ds ps qs → freshes ds ps ≡ freshes ds qs
freshes-alike [] ps qs h = refl
freshes-alike (d ∷ ds) ps qs h = λ i. fresh (h.0 i) + freshes-alike ds ps qs h.1 i

-- the same rooms are enough to take children out of paths that are alike
pub loses-alike : (ds : List (Elem × Trie)) (ps qs : List Path) (rs : List (Spare × Room)) → AreAlike ds ps qs → loses ds ps rs ≡ loses ds qs rs
loses-alike [] ps qs [] h = refl
loses-alike [] ps qs (r ∷ rs) h = refl
loses-alike (d ∷ ds) ps qs [] h = refl
loses-alike (d ∷ ds) ps qs (r ∷ rs) h = λ i. lose_one d (h.0 i) r && loses-alike ds ps qs rs h.1 i

-- the same rooms are enough to put children into paths that are alike
pub gains-alike : (ds : List (Elem × Trie)) (ps qs : List Path) (rs : List (Spare × Room)) → AreAlike ds ps qs → gains ds ps rs ≡ gains ds qs rs
gains-alike [] ps qs [] h = refl
gains-alike [] ps qs (r ∷ rs) h = refl
gains-alike (d ∷ ds) ps qs [] h = refl
gains-alike (d ∷ ds) ps qs (r ∷ rs) h = λ i. gain_one d (h.0 i) r && gains-alike ds ps qs rs h.1 i

-- ---- one more

-- one room more is enough to take one child more out
pub loses-more : (ds : List (Elem × Trie)) (d : Elem × Trie) (ps : List Path) (rs : List (Spare × Room)) (r : Spare × Room) → loses ds ps rs ≡ true
    → lose_one d (tails (element_view d.0) ps) r ≡ true → loses (ds ++ d ∷ []) ps (rs ++ r ∷ []) ≡ true
loses-more [] d ps [] r h k = both _ _ k refl
loses-more [] d ps (x ∷ rs) r h k = absurd (true≢false (sym h))
loses-more (c ∷ ds) d ps [] r h k = absurd (true≢false (sym h))
loses-more (c ∷ ds) d ps (x ∷ rs) r h k = both _ _ (both_first _ _ h) (loses-more ds d ps rs r (both_second _ _ h) k)

-- one room more is enough to put one child more in
pub gains-more : (ds : List (Elem × Trie)) (d : Elem × Trie) (ps : List Path) (rs : List (Spare × Room)) (r : Spare × Room) → gains ds ps rs ≡ true
    → gain_one d (tails (element_view d.0) ps) r ≡ true → gains (ds ++ d ∷ []) ps (rs ++ r ∷ []) ≡ true
gains-more [] d ps [] r h k = both _ _ k refl
gains-more [] d ps (x ∷ rs) r h k = absurd (true≢false (sym h))
gains-more (c ∷ ds) d ps [] r h k = absurd (true≢false (sym h))
gains-more (c ∷ ds) d ps (x ∷ rs) r h k = both _ _ (both_first _ _ h) (gains-more ds d ps rs r (both_second _ _ h) k)

-- ---- as many rooms as children

-- rooms that are enough to put children in are as many as the children
pub gains-some : (ds : List (Elem × Trie)) (ps : List Path) (rs : List (Spare × Room)) → gains ds ps rs ≡ true → length ds ≡ length rs
gains-some [] ps [] h = refl
gains-some [] ps (r ∷ rs) h = absurd (true≢false (sym h))
gains-some (d ∷ ds) ps [] h = absurd (true≢false (sym h))
gains-some (d ∷ ds) ps (r ∷ rs) h = ap suc (gains-some ds ps rs (both_second _ _ h))

-- rooms that are enough to take children out are as many as the children
pub loses-some : (ds : List (Elem × Trie)) (ps : List Path) (rs : List (Spare × Room)) → loses ds ps rs ≡ true → length ds ≡ length rs
loses-some [] ps [] h = refl
loses-some [] ps (r ∷ rs) h = absurd (true≢false (sym h))
loses-some (d ∷ ds) ps [] h = absurd (true≢false (sym h))
loses-some (d ∷ ds) ps (r ∷ rs) h = ap suc (loses-some ds ps rs (both_second _ _ h))
