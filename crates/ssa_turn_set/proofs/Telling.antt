-- How many children of a place go whole, from what is told of each.
use Rattle.std.proofs.Common.{◌≡◌, ℕ, ◌+◌, ◌<◌, ◌≤◌, List, [], ◌∷◌, ◌++◌, length, get_or, take, Bool, true, false, not, ◌&&◌, cond, Option, Some, None, refl, sym, ap, ◌∙◌, arith}
use Rattle.std.specs.Int.{from_bool}
use Rattle.ssa_model.specs.definitions.FieldsV1.{tails}
use Rattle.ssa_model.specs.definitions.Path.{Element, Path}
use Rattle.ssa_path.specs.declared.element.Elem.{Elem}
use Rattle.ssa_path.specs.declared.trie.Trie.{Trie}
use Rattle.ssa_path.specs.Children.{child_at, elements, rises}
use Rattle.ssa_path.specs.View.{element_view}
use Rattle.ssa_path.specs.Trie.{are_filled_tries, has_some, is_filled, is_trie, paths, paths_below}
use Rattle.ssa_path.proofs.Levels.{trie-parts}
use Rattle.ssa_path.proofs.Lists.{taken-at}
use Rattle.ssa_path.proofs.Orders.{both_second}
use Rattle.ssa_turn_set.specs.Room.{children, fresh, goes, gone_of, leaves_beside, leaving, leaving_beside, left, unless_there}
use Rattle.ssa_turn_set.proofs.Left.{all-children, left-behind, left-below, AllChildren, IsLeft}
use Rattle.ssa_turn_set.proofs.NewRooms.{found-child}
use Rattle.ssa_turn_set.proofs.Places.{fresh-filled}
use Rattle.ssa_turn_set.proofs.Shared.{shared, shared-comm, there}
use Rattle.ssa_turn_set.proofs.Staying.{gone-there, leaving-is, stale}
use Rattle.ssa_turn_set.proofs.Tails.{paths_of, tails-below}

-- ---- one child

once : (xs : List Path) → from_bool (not (has_some xs)) ≡ fresh xs
once [] = refl
once (p ∷ xs) = refl

-- 1 where it is told that nothing is left
pub goes-once : (b : Bool) (ps qs : List Path) → b ≡ goes ps qs → from_bool b ≡ fresh (left ps qs)
goes-once b ps qs told = ap from_bool told ∙ once (left ps qs)

-- where something is left it is told that not all goes
pub goes-not : (xs : List Path) → fresh xs ≡ 0 → false ≡ not (has_some xs)
goes-not [] some = absurd (omega arith)
goes-not (p ∷ xs) some = refl

whole-once : (xs : List Path) → cond (not (has_some xs)) 1 0 ≡ fresh xs
whole-once [] = refl
whole-once (p ∷ xs) = refl

whole-at : (o : Option Trie) (place : Trie) (b : Bool) (xs : List Path) → paths place ≡ paths_of o → ((c : Trie) → o ≡ Some c → is_filled c ≡ true)
    → b ≡ not (has_some xs) → cond (is_filled place && b) 1 0 ≡ there o (fresh xs)
whole-at None place b xs is filled told = λ i. cond (has_some (is i) && b) 1 0
whole-at (Some c) place b xs is filled told = (λ i. cond ((ap has_some is ∙ filled c refl) i && told i) 1 0) ∙ whole-once xs

-- a place that has some path is that of a child, which is told to go whole
pub whole-there : (e : Element) (cs : List (Elem × Trie)) (place : Trie) (b : Bool) (xs : List Path) → rises (elements cs) ≡ true → are_filled_tries cs ≡ true
    → paths place ≡ tails e (paths_below cs) → b ≡ not (has_some xs) → cond (is_filled place && b) 1 0 ≡ there (child_at e cs) (fresh xs)
whole-there e cs place b xs rise tries is told =
    whole-at (child_at e cs) place b xs (is ∙ tails-below e cs rise) (λ c at. both_second (is_trie c) _ (found-child e cs c tries at)) told

gone-at : (o : Option Trie) (place : Trie) (qs : List Path) → paths place ≡ paths_of o → there o (fresh (left (paths place) qs)) ≡ gone_of o qs
gone-at None place qs is = refl
gone-at (Some c) place qs is = ap (λ l. fresh (left l qs)) is

-- a place that has some path is that of a child, which is told to go whole with these paths
pub whole-gone : (e : Element) (cs : List (Elem × Trie)) (place : Trie) (b : Bool) (qs : List Path) → rises (elements cs) ≡ true → are_filled_tries cs ≡ true
    → paths place ≡ tails e (paths_below cs) → b ≡ goes (paths place) qs → cond (is_filled place && b) 1 0 ≡ gone_of (child_at e cs) qs
whole-gone e cs place b qs rise tries is told =
    whole-there e cs place b (left (paths place) qs) rise tries is told ∙ gone-at (child_at e cs) place qs (is ∙ tails-below e cs rise)

-- ---- those that are gained beside those that are not

split-one : (l g : Option Trie) (n : ℕ) → (l ≡ None → n ≡ 0) → there l n ≡ there g n + there l (unless_there g n)
split-one None None n none = refl
split-one None (Some d) n none = let zero = none refl in omega arith
split-one (Some c) None n none = omega arith
split-one (Some c) (Some d) n none = omega arith

split-shared : (h : Element → ℕ) (gs ls cs : List (Elem × Trie)) → AllChildren (λ e c. child_at e ls ≡ None → h e ≡ 0) cs
    → shared h cs ls ≡ shared h cs gs + shared (λ e. unless_there (child_at e gs) (h e)) cs ls
split-shared h gs ls [] k = refl
split-shared h gs ls (c ∷ cs) k =
    let e = element_view c.0 in
    let one = split-one (child_at e ls) (child_at e gs) (h e) k.0 in
    let rest = split-shared h gs ls cs k.1 in
    omega arith

unless-there : (g o : Option Trie) (n : ℕ) → unless_there g (there o n) ≡ there o (unless_there g n)
unless-there None o n = refl
unless-there (Some d) None n = refl
unless-there (Some d) (Some c) n = refl

beside-is : (gs ds cs : List (Elem × Trie)) (ps : List Path) → rises (elements cs) ≡ true → AllChildren (IsLeft (paths_below cs) ps) ds
    → leaving_beside gs ds cs ≡ shared (λ e. unless_there (child_at e gs) (stale ps e)) ds cs
beside-is gs [] cs ps rise k = refl
beside-is gs (d ∷ ds) cs ps rise k =
    let e = element_view d.0 in
    let one = ap (unless_there (child_at e gs)) (gone-there (child_at e cs) e ps d.1 cs refl rise k.0)
    ∙ unless-there (child_at e gs) (child_at e cs) (fresh (tails e ps)) in
    λ i. one i + beside-is gs ds cs ps rise k.1 i

left-whole : (ps : List Path) → left ps [] ≡ ps
left-whole [] = refl
left-whole (p ∷ ps) = ap (λ l. p ∷ l) (left-whole ps)

-- a child that is not among the lost does not go
child-stays : (own lost : Trie) (e : Element) (c : Trie) → is_trie own ≡ true → is_trie lost ≡ true → child_at e (children own) ≡ Some c
    → child_at e (children lost) ≡ None → stale (left (paths own) (paths lost)) e ≡ 0
child-stays own lost e c trie trie_lost at none =
    let parts = trie-parts own _ refl trie in
    let behind = left-behind own lost e (paths c) [] trie_lost (sym (tails-below e (children own) parts.0 ∙ ap paths_of at))
    (sym (tails-below e (children lost) (trie-parts lost _ refl trie_lost).0 ∙ ap paths_of none)) in
    ap fresh (behind ∙ left-whole (paths c)) ∙ fresh-filled (paths c) (both_second (is_trie c) _ (found-child e (children own) c parts.1 at))

-- those that go whole are the gained that do, and those beside them
pub leaving-split : (gained own lost : Trie) → is_trie gained ≡ true → is_trie own ≡ true → is_trie lost ≡ true
    → leaving (children lost) (children own)
    ≡ shared (stale (left (paths own) (paths lost))) (children gained) (children own) + leaving_beside (children gained) (children lost) (children own)
leaving-split gained own lost trie_gained trie trie_lost =
    let gs = children gained in
    let cs = children own in
    let ls = children lost in
    let new = left (paths own) (paths lost) in
    let beside : Element → ℕ = λ e. unless_there (child_at e gs) (stale new e) in
    let rise = (trie-parts own _ refl trie).0 in
    let rise_lost = (trie-parts lost _ refl trie_lost).0 in
    let each = left-below lost own trie_lost in
    let whole = leaving-is ls cs new rise each ∙ shared-comm (stale new) cs ls rise rise_lost in
    let split = split-shared (stale new) gs ls cs (all-children (λ e c. child_at e ls ≡ None → stale new e ≡ 0) cs rise (λ e c at none.
    child-stays own lost e c trie trie_lost at none)) in
    let first = shared-comm (stale new) gs cs (trie-parts gained _ refl trie_gained).0 rise in
    let second = beside-is gs ls cs new rise each ∙ shared-comm beside cs ls rise rise_lost in
    omega arith

-- those that go whole of the gained, and of the others, are all that do
pub all-told : (gained own lost : Trie) (n : ℕ) → is_trie gained ≡ true → is_trie own ≡ true → is_trie lost ≡ true
    → n ≡ shared (stale (left (paths own) (paths lost))) (children gained) (children own)
    → n + leaving_beside (children gained) (children lost) (children own) ≡ leaving (children lost) (children own)
all-told gained own lost n trie_gained trie trie_lost count =
    ap (λ m. m + leaving_beside (children gained) (children lost) (children own)) count ∙ sym (leaving-split gained own lost trie_gained trie trie_lost)

pub fresh-most : (ps : List Path) → fresh ps ≤ 1
fresh-most [] = omega arith
fresh-most (p ∷ ps) = omega arith

pub beside-most : (gs : List (Elem × Trie)) (d : Elem × Trie) (cs : List (Elem × Trie)) → leaves_beside gs d cs ≤ 1
beside-most gs d cs = by (child_at (element_view d.0) gs) (child_at (element_view d.0) cs)
  where
    by : (g o : Option Trie) → unless_there g (gone_of o (paths d.1)) ≤ 1
    by None None = omega arith
    by None (Some c) = fresh-most (left (paths c) (paths d.1))
    by (Some x) o = omega arith

beside-more : (gs ds : List (Elem × Trie)) (d : Elem × Trie) (cs : List (Elem × Trie))
    → leaving_beside gs (ds ++ d ∷ []) cs ≡ leaving_beside gs ds cs + leaves_beside gs d cs
beside-more gs [] d cs = let n = leaves_beside gs d cs in omega arith
beside-more gs (c ∷ ds) d cs = let rest = beside-more gs ds d cs in omega arith

-- one lost child more that goes whole and is not gained, or does not, counts as one more or as none
pub beside-one-more : (gs ds cs : List (Elem × Trie)) (i count one : ℕ) (d : Elem × Trie) → i < length ds → d ≡ get_or ds i d
    → count ≡ leaving_beside gs (take i ds) cs → one ≡ leaves_beside gs d cs → count + one ≡ leaving_beside gs (take (i + 1) ds) cs
beside-one-more gs ds cs i count one d lt is e f =
    (λ j. e j + f j) ∙ sym (ap (λ l. leaving_beside gs l cs) (taken-at ds i d lt is) ∙ beside-more gs (take i ds) d cs)
