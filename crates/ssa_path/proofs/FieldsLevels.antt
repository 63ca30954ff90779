-- The object that paths are written as, one level at a time.
use Rattle.std.proofs.Common.{◌≡◌, ℕ, zero, suc, ◌≤◌, List, [], ◌∷◌, ◌++◌, Bool, true, false, cond, refl, sym, ap, ◌∙◌, ◌&&◌, append-nil, arith}
use Rattle.std.specs.Prelude.{codes}
use Rattle.std.specs.List.{list_any}
use Rattle.ssa_model.specs.definitions.Json.{Json, object, Members, no_members, member}
use Rattle.ssa_model.specs.definitions.Path.{Element, Path, element_text, same_element, is_root}
use Rattle.ssa_model.specs.definitions.FieldsV1.{with_head, heads, tails, is_place_alone, nothing_written, field_members, written_paths, longest}
use Rattle.ssa_path.specs.Children.{elements, is_below, rises}
use Rattle.ssa_path.specs.View.{element_view}
use Rattle.ssa_path.specs.FieldsWriting.{paths_json, below_json}
use Rattle.ssa_path.specs.Trie.{are_filled_tries, has_some, here_path, is_filled, is_one_of, is_trie, paths, paths_after, paths_below}
use Rattle.ssa_path.specs.declared.element.Elem.{Elem}
use Rattle.ssa_path.specs.declared.trie.Trie.{Trie}
use Rattle.ssa_path.specs.declared.trie.Trie.TheViews.{out-Trie}
use Rattle.ssa_path.proofs.Levels.{one-below-root, paths-level, trie-parts}
use Rattle.ssa_path.proofs.Orders.{both_first, both_second, not_tied}
use Rattle.ssa_model.proofs.ShownNames.{turned as same_either_way}
use Rattle.ssa_model.proofs.Tables.{element-itself as same_element-itself}
use Rattle.ssa_model.proofs.WritingsBack.{longest-tail as longest-tails}

-- ---- as many levels as the longest path has are enough

no-heads : (ps : List Path) → longest ps ≤ 0 → heads ps ≡ []
no-heads [] h = refl
no-heads ([] ∷ ps) h = no-heads ps (omega arith)
no-heads ((e ∷ p) ∷ ps) h = absurd (omega arith)

same-fields : (w v : List Path → Json) (ps : List Path) (es : List Element) → ((e : Element) → w (tails e ps) ≡ v (tails e ps))
    → field_members w ps es ≡ field_members v ps es
same-fields w v ps [] h = refl
same-fields w v ps (e ∷ es) h = λ i. member (element_text e) (cond (is_place_alone (tails e ps)) nothing_written (h e i)) (same-fields w v ps es h i)

-- with the member `.` where the place itself is in the set
abbrev pub dotted : Bool → Members → Members
dotted true ms = member (codes ".") nothing_written ms
dotted false ms = ms

object-dotted : (b : Bool) (ms : Members) → cond b (object (member (codes ".") nothing_written ms)) (object ms) ≡ object (dotted b ms)
object-dotted true ms = refl
object-dotted false ms = refl

abbrev one_level : Bool → Members → Json
one_level b ms = cond b (object (member (codes ".") nothing_written ms)) (object ms)

enough-levels : (n m : ℕ) (ps : List Path) → longest ps ≤ n → longest ps ≤ m → written_paths n ps ≡ written_paths m ps
enough-levels zero zero ps g h = refl
enough-levels zero (suc m) ps g h = ap (λ es. one_level (list_any is_root ps) (field_members (written_paths m) ps es)) (sym (no-heads ps g))
enough-levels (suc n) zero ps g h = ap (λ es. one_level (list_any is_root ps) (field_members (written_paths n) ps es)) (no-heads ps h)
enough-levels (suc n) (suc m) ps g h =
    ap (one_level (list_any is_root ps))
    (same-fields (written_paths n) (written_paths m) ps (heads ps) (λ e. enough-levels n m (tails e ps) (longest-tails e ps n g) (longest-tails e ps m h)))

-- the object of paths: `.` where the root is one of them, and a member for each first element
pub level : (ps : List Path) → paths_json ps ≡ object (dotted (list_any is_root ps) (field_members paths_json ps (heads ps)))
level ps =
    let n = longest ps in
    enough-levels n (suc n) ps (omega arith) (omega arith)
    ∙ object-dotted (list_any is_root ps) (field_members (written_paths n) ps (heads ps))
    ∙ ap (λ ms. object (dotted (list_any is_root ps) ms))
    (same-fields (written_paths n) paths_json ps (heads ps) (λ e.
    let fits = longest-tails e ps n (omega arith) in
    enough-levels n (longest (tails e ps)) (tails e ps) fits (omega arith)))

-- ---- the first elements of a trie's paths

heads-block : (e : Element) (p : Path) (ps qs : List Path) → with_head e (heads qs) ≡ e ∷ heads qs → heads (paths_after e (p ∷ ps) ++ qs) ≡ e ∷ heads qs
heads-block e p [] qs h = h
heads-block e p (q ∷ ps) qs h =
    ap (with_head e) (heads-block e q ps qs h) ∙ ap (λ b. cond b (e ∷ heads qs) (e ∷ e ∷ heads qs)) (same_element-itself e)

heads-first : (e : Element) (ps qs : List Path) → has_some ps ≡ true → with_head e (heads qs) ≡ e ∷ heads qs → heads (paths_after e ps ++ qs) ≡ e ∷ heads qs
heads-first e [] qs some h = cc
heads-first e (p ∷ ps) qs some h = heads-block e p ps qs h

head-below : (e : Element) (es : List Element) → is_below e es ≡ true → with_head e es ≡ e ∷ es
head-below e [] h = refl
head-below e (f ∷ es) h = ap (λ b. cond b (f ∷ es) (e ∷ f ∷ es)) (not_tied _ (both_first _ _ h))

-- the first elements of the children's paths are the children's elements
pub heads-below : (cs : List (Elem × Trie)) → rises (elements cs) ≡ true → are_filled_tries cs ≡ true → heads (paths_below cs) ≡ elements cs
heads-below [] h k = refl
heads-below (c ∷ cs) h k =
    let e = element_view c.0 in
    let rest = heads-below cs (both_second _ _ h) (both_second (is_trie c.1 && is_filled c.1) _ k) in
    let filled : is_filled c.1 ≡ true = both_second (is_trie c.1) _ (both_first (is_trie c.1 && is_filled c.1) _ k) in
    heads-first e (paths c.1) (paths_below cs) filled (ap (with_head e) rest ∙ head-below e (elements cs) (both_first _ _ h) ∙ ap (λ es. e ∷ es) (sym rest))
    ∙ ap (λ es. e ∷ es) rest

-- the place itself brings no first element
pub heads-here : (b : Bool) (ps : List Path) → heads (here_path b ++ ps) ≡ heads ps
heads-here true ps = refl
heads-here false ps = refl

-- ---- what goes on from each of them

-- what goes on from an element in one list of paths, and behind it what does in another
pub tails-append : (e : Element) (ps qs : List Path) → tails e (ps ++ qs) ≡ tails e ps ++ tails e qs
tails-append e [] qs = refl
tails-append e ([] ∷ ps) qs = tails-append e ps qs
tails-append e ((f ∷ p) ∷ ps) qs =
    let rest = tails-append e ps qs in
    elim (same_element e f) as (λ b. cond b (p ∷ tails e (ps ++ qs)) (tails e (ps ++ qs)) ≡ cond b (p ∷ tails e ps) (tails e ps) ++ tails e qs)
    [ true ↦ ap (λ l. p ∷ l) rest | false ↦ rest ]

tails-same : (e : Element) (ps : List Path) → tails e (paths_after e ps) ≡ ps
tails-same e [] = refl
tails-same e (p ∷ ps) = ap (λ b. cond b (p ∷ tails e (paths_after e ps)) (tails e (paths_after e ps))) (same_element-itself e)
    ∙ ap (λ l. p ∷ l) (tails-same e ps)

tails-other : (e f : Element) (ps : List Path) → same_element e f ≡ false → tails e (paths_after f ps) ≡ []
tails-other e f [] h = refl
tails-other e f (p ∷ ps) h = ap (λ b. cond b (p ∷ tails e (paths_after f ps)) (tails e (paths_after f ps))) h ∙ tails-other e f ps h

tails-none : (e : Element) (cs : List (Elem × Trie)) → is_below e (elements cs) ≡ true → tails e (paths_below cs) ≡ []
tails-none e [] h = refl
tails-none e (c ∷ cs) h =
    tails-append e (paths_after (element_view c.0) (paths c.1)) (paths_below cs)
    ∙ (λ i. tails-other e (element_view c.0) (paths c.1) (not_tied _ (both_first _ _ h)) i ++ tails-none e cs (both_second _ _ h) i)

-- the place itself goes on from no element
pub tails-here : (e : Element) (b : Bool) (ps : List Path) → tails e (here_path b ++ ps) ≡ tails e ps
tails-here e true ps = refl
tails-here e false ps = refl

-- the children have what goes on from their elements
abbrev AreBelow : List Path → List (Elem × Trie) → Type 0
AreBelow ps [] = Unit {0}
AreBelow ps (c ∷ cs) = (tails (element_view c.0) ps ≡ paths c.1) × AreBelow ps cs

tails-skip : (e : Element) (qs ps : List Path) (cs : List (Elem × Trie)) → is_below e (elements cs) ≡ true → AreBelow ps cs
    → AreBelow (paths_after e qs ++ ps) cs
tails-skip e qs ps [] h k = tt
tails-skip e qs ps (c ∷ cs) h k =
    let f = element_view c.0 in
    let other = same_either_way e f ∙ not_tied _ (both_first _ _ h) in
    (tails-append f (paths_after e qs) ps ∙ ap (λ l. l ++ tails f ps) (tails-other f e qs other) ∙ k.0, tails-skip e qs ps cs (both_second _ _ h) k.1)

tails-below : (cs : List (Elem × Trie)) → rises (elements cs) ≡ true → AreBelow (paths_below cs) cs
tails-below [] h = tt
tails-below (c ∷ cs) h =
    let e = element_view c.0 in
    let own = tails-append e (paths_after e (paths c.1)) (paths_below cs) ∙ (λ i. tails-same e (paths c.1) i ++ tails-none e cs (both_first _ _ h) i)
    ∙ append-nil (paths c.1) in
    (own, tails-skip e (paths c.1) (paths_below cs) cs (both_first _ _ h) (tails-below cs (both_second _ _ h)))

tails-shown : (b : Bool) (ps : List Path) (cs : List (Elem × Trie)) → AreBelow ps cs → AreBelow (here_path b ++ ps) cs
tails-shown b ps [] h = tt
tails-shown b ps (c ∷ cs) h = (tails-here (element_view c.0) b ps ∙ h.0, tails-shown b ps cs h.1)

-- ---- a trie, one level at a time

-- a member for each child
abbrev pub child_members : List (Elem × Trie) → Members
child_members [] = no_members
child_members (c ∷ cs) = member (element_text (element_view c.0)) (below_json (paths c.1)) (child_members cs)

fields-are : (ps : List Path) (cs : List (Elem × Trie)) → AreBelow ps cs → field_members paths_json ps (elements cs) ≡ child_members cs
fields-are ps [] h = refl
fields-are ps (c ∷ cs) h = λ i. member (element_text (element_view c.0)) (below_json (h.0 i)) (fields-are ps cs h.1 i)

-- some path is a root where the root is one of the paths
pub any-root-is : (ps : List Path) → list_any is_root ps ≡ is_one_of ps []
any-root-is [] = refl
any-root-is ([] ∷ ps) = refl
any-root-is ((e ∷ p) ∷ ps) = any-root-is ps

root-shown : (b : Bool) (cs : List (Elem × Trie)) → list_any is_root (here_path b ++ paths_below cs) ≡ b
root-shown true cs = refl
root-shown false cs = any-root-is (paths_below cs) ∙ one-below-root cs

-- a place and its children are written as an object: `.` where the place is in the set, and a member for each child
pub level-shown : (b : Bool) (cs : List (Elem × Trie)) → rises (elements cs) ≡ true → are_filled_tries cs ≡ true
    → paths_json (here_path b ++ paths_below cs) ≡ object (dotted b (child_members cs))
level-shown b cs h k =
    let ps = here_path b ++ paths_below cs in
    level ps
    ∙ (λ i. object (dotted (root-shown b cs i) (field_members paths_json ps ((heads-here b (paths_below cs) ∙ heads-below cs h k) i))))
    ∙ ap (λ ms. object (dotted b ms)) (fields-are ps cs (tails-shown b (paths_below cs) cs (tails-below cs h)))

-- so is a trie
pub level-trie : (t : Trie) → is_trie t ≡ true → paths_json (paths t) ≡ object (dotted (out-Trie t).here (child_members (out-Trie t).below.items))
level-trie t h =
    let parts = trie-parts t _ refl h in
    ap paths_json (paths-level t) ∙ level-shown (out-Trie t).here (out-Trie t).below.items parts.0 parts.1
