-- The places of a live list that hold items of the configuration too, refilled with these in the configuration's order.
use Rattle.std.proofs.Common.{◌≡◌, ℕ, zero, suc, ◌+◌, ◌<◌, ◌≤◌, List, [], ◌∷◌, ◌++◌, length, get_or, drop, Bool, true, false, not, ◌&&◌, ◌||◌, cond, nat_eq, Option, Some, None, refl, sym, ap, subst, subst₂, ◌∙◌, append_assoc, append-nil, arith, true≢false}
use Rattle.std.proofs.lemmas.List.{drop_all, drop_more}
use Rattle.std.proofs.lemmas.List.Elements.{filter-append}
use Rattle.std.proofs.lemmas.Bool.Decides.{nat_tests}
use Rattle.std.specs.Prelude.{filter}
use Rattle.std.specs.List.{list_any}
use Rattle.ssa_model.specs.definitions.Body.{Content, joined, laid, over_content}
use Rattle.ssa_model.specs.definitions.Kind.{is_among}
use Rattle.ssa_model.specs.definitions.Path.{Element, Path, same_element}
use Rattle.ssa_model.proofs.Basics.{and-true, first_false, second_false, some-same, some≢none as some-none}
use Rattle.ssa_model.proofs.Fitting.{among-filter, among-joined, same_element-true}
use Rattle.ssa_model.proofs.Joining.{as-many, laid-moves, laid-stays}
use Rattle.ssa_model.proofs.Tables.{element-itself}
use Rattle.ssa_model.proofs.Tests.{by_test, same_tests}
use Rattle.ssa_path.specs.Children.{child_at, elements}
use Rattle.ssa_path.specs.View.{element_view}
use Rattle.ssa_path.proofs.Lists.{elements-append, left-at}
use Rattle.ssa_path.proofs.Orders.{both_first, both_second}
use Rattle.ssa_typed.specs.Copies.{kept}
use Rattle.ssa_typed.specs.MergedOrder.{AreTurns, is_new, is_old, places}
use Rattle.ssa_typed.specs.Over.{AreOver, IsOver}
use Rattle.ssa_typed.specs.Points.{content_in}
use Rattle.ssa_typed.specs.Rows.{are_apart, are_trees, content_at, is_tree, rows}
use Rattle.ssa_typed.specs.declared.node.Node.{Node}
use Rattle.ssa_typed.proofs.Building.{Child}
use Rattle.ssa_typed.proofs.Copying.{kept-rows, kept-tree}
use Rattle.ssa_typed.proofs.Fitting.{apart-distinct}
use Rattle.ssa_typed.proofs.InOneOrder.{stands-at}
use Rattle.ssa_typed.proofs.Lookups.{child_at-none}
use Rattle.ssa_typed.proofs.Overlaying.{child-at-index, new-elements, over-none}
use Rattle.ssa_typed.proofs.SortedOut.{before-apart, is_absent, new-place, place-at}

-- ---- each child over what both have of its element

-- a child stands for its element: the configuration's content over the live one
pub record IsOneOver (cs ds : List Child) (x : Child) : Type 0 where
  pub content : (q : Path) → content_at (rows x.1) q ≡ over_content (content_in (child_at (element_view x.0) cs) q)
      (content_in (child_at (element_view x.0) ds) q)
  pub tree : is_tree x.1 ≡ true

abbrev pub AllOver : List Child → List Child → List Child → Type 0
AllOver cs ds [] = Unit {0}
AllOver cs ds (x ∷ xs) = IsOneOver cs ds x × AllOver cs ds xs

pub all-append : (cs ds xs ys : List Child) → AllOver cs ds xs → AllOver cs ds ys → AllOver cs ds (xs ++ ys)
all-append cs ds [] ys h k = k
all-append cs ds (x ∷ xs) ys h k = (h.0, all-append cs ds xs ys h.1 k)

all-trees : (cs ds xs : List Child) → AllOver cs ds xs → are_trees xs ≡ true
all-trees cs ds [] h = refl
all-trees cs ds (x ∷ xs) h = λ i. h.0.tree i && all-trees cs ds xs h.1 i

module _ (cs ds : List Child) (e : Element) (q : Path) where
  abbrev both : Option Content
  both = over_content (content_in (child_at e cs) q) (content_in (child_at e ds) q)

  there : (xs : List Child) → AllOver cs ds xs → is_among e (elements xs) ≡ true → content_in (child_at e xs) q ≡ both
  there [] h among = absurd (true≢false (sym among))
  there (x ∷ xs) h among =
      elim (same_element e (element_view x.0)) as (λ b. same_element e (element_view x.0) ≡ b → (b || is_among e (elements xs)) ≡ true
      → content_in (cond b (Some x.1) (child_at e xs)) q ≡ both) [
        | true ↦ λ s k.
            h.0.content q
            ∙ ap (λ f. over_content (content_in (child_at f cs) q) (content_in (child_at f ds) q)) (sym (same_element-true e (element_view x.0) s))
        | false ↦ λ s k. there xs h.1 k
      ] refl among

  nowhere : (xs : List Child) → is_among e (elements xs) ≡ false → (is_among e (elements cs) || is_among e (elements ds)) ≡ false
      → content_in (child_at e xs) q ≡ both
  nowhere xs none neither =
      ap (λ o. content_in o q) (child_at-none e xs none)
      ∙ sym (λ i. over_content (content_in (child_at-none e cs (first_false (is_among e (elements cs)) (is_among e (elements ds)) neither) i) q)
      (content_in (child_at-none e ds (second_false (is_among e (elements cs)) (is_among e (elements ds)) neither) i) q))

-- children of the joined order, each over what both have of its element, are the configuration's over the live ones
pub all-over : (cs ds xs : List Child) → AllOver cs ds xs → elements xs ≡ joined (elements cs) (elements ds) → AreOver cs ds xs
all-over cs ds xs all order = record {
  elements_are = order;
  contents = λ e q.
      let known : is_among e (elements xs) ≡ (is_among e (elements cs) || is_among e (elements ds)) = ap (is_among e) order
      ∙ among-joined (elements cs) (elements ds) e in
      elim (is_among e (elements xs)) as (λ b. is_among e (elements xs) ≡ b → content_in (child_at e xs) q
      ≡ over_content (content_in (child_at e cs) q) (content_in (child_at e ds) q)) [
        | true ↦ λ is. there cs ds e q xs all is
        | false ↦ λ is. nowhere cs ds e q xs is (sym known ∙ is)
      ] refl;
  trees = all-trees cs ds xs all;
}

-- ---- one child over what both have

module _ (cs ds : List Child) where
  -- the configuration's over the live one
  pub one-over : (c : Node) (d x : Child) → child_at (element_view d.0) cs ≡ Some c → child_at (element_view d.0) ds ≡ Some d.1 → IsOver c d.1 x.1
      → element_view x.0 ≡ element_view d.0 → IsOneOver cs ds x
  one-over c d x own other over same = record {
    content = λ q. over.content q
        ∙ sym ((λ i. over_content (content_in (child_at (same i) cs) q) (content_in (child_at (same i) ds) q))
        ∙ (λ i. over_content (content_in (own i) q) (content_in (other i) q)));
    tree = over.tree;
  }

  -- a copy of the live one, where the configuration lacks it
  pub one-copied : (c x : Child) → child_at (element_view c.0) cs ≡ Some c.1 → child_at (element_view c.0) ds ≡ None → is_tree c.1 ≡ true
      → element_view x.0 ≡ element_view c.0 → kept x.1 ≡ kept c.1 → IsOneOver cs ds x
  one-copied c x own none tree same copy = record {
    content = λ q. ap (λ rs. content_at rs q) (kept-rows x.1 c.1 copy)
        ∙ sym ((λ i. over_content (content_in (child_at (same i) cs) q) (content_in (child_at (same i) ds) q))
        ∙ (λ i. over_content (content_in (own i) q) (content_in (none i) q)));
    tree = kept-tree x.1 c.1 copy ∙ tree;
  }

  -- the configuration's own
  one-new : (d : Child) → child_at (element_view d.0) cs ≡ None → child_at (element_view d.0) ds ≡ Some d.1 → is_tree d.1 ≡ true → IsOneOver cs ds d
  one-new d none own tree = record {
    content = λ q. sym ((λ i. over_content (content_in (none i) q) (content_in (own i) q)) ∙ over-none (content_at (rows d.1) q));
    tree = tree;
  }

-- ---- the configuration's children

-- each of these is the configuration's child of its element
abbrev pub AreOwn : List Child → List Child → Type 0
AreOwn ds [] = Unit {0}
AreOwn ds (x ∷ xs) = (child_at (element_view x.0) ds ≡ Some x.1) × AreOwn ds xs

-- behind others, the child of an element that none of them has is the first of it
pub found-behind : (pre ds : List Child) (d : Child) → is_among (element_view d.0) (elements pre) ≡ false
    → child_at (element_view d.0) (pre ++ d ∷ ds) ≡ Some d.1
found-behind [] ds d none = ap (λ b. cond b (Some d.1) (child_at (element_view d.0) ds)) (element-itself (element_view d.0))
found-behind (x ∷ pre) ds d none =
    ap (λ b. cond b (Some x.1) (child_at (element_view d.0) (pre ++ d ∷ ds))) (first_false (same_element (element_view d.0) (element_view x.0)) _ none)
    ∙ found-behind pre ds d (second_false (same_element (element_view d.0) (element_view x.0)) _ none)

own-behind : (pre ds all : List Child) → all ≡ pre ++ ds → are_apart (elements all) ≡ true → AreOwn all ds
own-behind pre [] all is apart = tt
own-behind pre (d ∷ ds) all is apart = (
  ap (child_at (element_view d.0)) is
      ∙ found-behind pre ds d (before-apart (elements pre) (element_view d.0) (elements ds) (ap are_apart (sym (elements-append pre (d ∷ ds)))
      ∙ ap (λ l. are_apart (elements l)) (sym is) ∙ apart)),
  own-behind (pre ++ d ∷ []) ds all (is ∙ sym (append_assoc pre (d ∷ []) ds)) apart,
)

all-own : (ds : List Child) → are_apart (elements ds) ≡ true → AreOwn ds ds
all-own ds apart = own-behind [] ds ds refl apart

is_new-absent : (cs : List Child) (d : Child) → is_new cs d ≡ true → child_at (element_view d.0) cs ≡ None
is_new-absent cs d h =
    elim (child_at (element_view d.0) cs) as (λ o. elim o [ None ↦ true | Some c ↦ false ] ≡ true → o ≡ None) [
      | None ↦ λ k. refl
      | Some c ↦ λ k. absurd (true≢false (sym k))
    ] h

new-ones : (cs ds xs : List Child) → AreOwn ds xs → are_trees xs ≡ true → AllOver cs ds (filter (is_new cs) xs)
new-ones cs ds [] own trees = tt
new-ones cs ds (x ∷ xs) own trees =
    let rest = new-ones cs ds xs own.1 (both_second (is_tree x.1) _ trees) in
    elim (is_new cs x) as (λ b. is_new cs x ≡ b → AllOver cs ds (cond b (x ∷ filter (is_new cs) xs) (filter (is_new cs) xs))) [
      | true ↦ λ is. (one-new cs ds x (is_new-absent cs x is) own.0 (both_first (is_tree x.1) _ trees), rest)
      | false ↦ λ is. rest
    ] refl

-- what the configuration alone has stands for itself
pub all-new : (cs ds : List Child) → are_apart (elements ds) ≡ true → are_trees ds ≡ true → AllOver cs ds (filter (is_new cs) ds)
all-new cs ds apart trees = new-ones cs ds ds (all-own ds apart) trees

-- ---- which live children the configuration has

old-among : (e : Element) (cs : List Child) → not (elim (child_at e cs) [ None ↦ true | Some c ↦ false ]) ≡ is_among e (elements cs)
old-among e [] = refl
old-among e (c ∷ cs) =
    elim (same_element e (element_view c.0)) as (λ b. not (elim (cond b (Some c.1) (child_at e cs)) [ None ↦ true | Some x ↦ false ])
    ≡ (b || is_among e (elements cs))) [ true ↦ refl | false ↦ old-among e cs ]

-- the elements of the configuration's children that the live ones have too
pub old-elements : (cs ds : List Child) → elements (filter (is_old cs) ds) ≡ filter (λ f. is_among f (elements cs)) (elements ds)
old-elements cs [] = refl
old-elements cs (d ∷ ds) =
    one (is_old cs d)
    ∙ (λ i. cond (old-among (element_view d.0) cs i) (element_view d.0 ∷ old-elements cs ds i) (old-elements cs ds i))
  where
    one : (b : Bool) → elements (cond b (d ∷ filter (is_old cs) ds) (filter (is_old cs) ds))
        ≡ cond b (element_view d.0 ∷ elements (filter (is_old cs) ds)) (elements (filter (is_old cs) ds))
    one true = refl
    one false = refl

one-place : (cs : List Child) (e f : Element) (i p : ℕ) → child_at e (places cs) ≡ Some i → child_at f (places cs) ≡ Some p
    → nat_eq i p ≡ same_element e f
one-place cs e f i p here found =
    let own = stands-at e cs i here in
    let other = stands-at f cs p found in
    same_tests (nat_eq i p) (same_element e f)
    (λ t.
    let same : i ≡ p = grind (arith, nat_tests) in
    let both : own.child ∷ drop (suc i) cs ≡ other.child ∷ drop (suc p) cs = sym own.here ∙ ap (λ k. drop k cs) same ∙ other.here in
    let one : own.child ≡ other.child = cc in
    ap (same_element e) (other.same ∙ ap (λ (x : Child). element_view x.0) (sym one) ∙ sym own.same) ∙ element-itself e)
    (λ t.
    let same : i ≡ p = some-same i p (sym here ∙ ap (λ g. child_at g (places cs)) (same_element-true e f t) ∙ found) in
    grind (arith, nat_tests))

-- a live place is refilled just where one of the configuration's children in turn has its element
turn-among : (cs ds : List Child) (ks : List ℕ) (xs : List Child) (i : ℕ) (e : Element) → child_at e (places cs) ≡ Some i → AreTurns cs ds ks xs
    → list_any (nat_eq i) ks ≡ is_among e (elements xs)
turn-among cs ds [] [] i e here h = refl
turn-among cs ds [] (x ∷ xs) i e here h = absurd h
turn-among cs ds (k ∷ ks) [] i e here h = absurd h
turn-among cs ds (k ∷ ks) (x ∷ xs) i e here h = λ j. one-place cs e (element_view x.0) i k here h.0 j || turn-among cs ds ks xs i e here h.2 j

-- a live place is refilled just where the configuration has its element
pub refilled-among : (cs ds : List Child) (ks : List ℕ) (xs : List Child) (i : ℕ) (c : Child) → are_apart (elements cs) ≡ true → i < length cs
    → c ≡ get_or cs i c → xs ≡ filter (is_old cs) ds → AreTurns cs ds ks xs → list_any (nat_eq i) ks ≡ is_among (element_view c.0) (elements ds)
refilled-among cs ds ks xs i c apart lt is own turns =
    let e = element_view c.0 in
    let here : child_at e (places cs) ≡ Some i = place-at e cs i c apart lt (ap (λ (x : Child). same_element e (element_view x.0)) (sym is) ∙ element-itself e) in
    let stands = stands-at e cs i here in
    turn-among cs ds ks xs i e here turns
    ∙ ap (λ l. is_among e (elements l)) own ∙ ap (is_among e) (old-elements cs ds)
    ∙ among-filter (λ f. is_among f (elements cs)) (elements ds) e
    ∙ ap (λ b. is_among e (elements ds) && b) (child-among e cs stands.child.1 stands.found) ∙ and-true (is_among e (elements ds))
  where
    child-among : (f : Element) (xs : List Child) (n : Node) → child_at f xs ≡ Some n → is_among f (elements xs) ≡ true
    child-among f xs n found = by_test (is_among f (elements xs)) (λ t. t) (λ t. absurd (some-none n (sym found ∙ child_at-none f xs t)))

-- where one is to come in turn, its place is told
first-turn : (cs ds : List Child) (ks : List ℕ) (n : ℕ) (d : Child) (later : List Child) → AreTurns cs ds (drop n ks) (d ∷ later) → n < length ks
first-turn cs ds [] zero d later h = absurd h
first-turn cs ds [] (suc n) d later h = absurd h
first-turn cs ds (k ∷ ks) zero d later h = omega arith
first-turn cs ds (k ∷ ks) (suc n) d later h = let rest = first-turn cs ds ks n d later h in omega arith

-- where there are as many with one more, there are as many
same-count : (m n : ℕ) → suc m ≡ suc n → m ≡ n
same-count m n e = omega arith

-- ---- the walk over the live places

-- Up to a live place, each was refilled or keeps its child: what was made so far, and those of the configuration that are to come.
pub record IsRefilling (cs ds left : List Child) (ks : List ℕ) (i next : ℕ) (xs : List Child) : Type 0 where
  pub made : AllOver cs ds xs
  pub order : elements xs ++ laid (λ e. is_among e (elements ds)) (elements (drop i cs)) (elements left ++ elements (filter (is_new cs) ds))
      ≡ joined (elements cs) (elements ds)
  pub many : length (filter (λ e. is_among e (elements ds)) (elements (drop i cs))) ≡ length left
  pub turns : AreTurns cs ds (drop next ks) left

-- at the first place
pub refilling-start : (cs ds left : List Child) (ks : List ℕ) → are_apart (elements cs) ≡ true → are_apart (elements ds) ≡ true
    → left ≡ filter (is_old cs) ds → AreTurns cs ds ks left → IsRefilling cs ds left ks 0 0 []
refilling-start cs ds left ks apart config is turns =
    let es = elements cs in
    let fs = elements ds in
    let own : elements left ≡ filter (λ f. is_among f es) fs = ap elements is ∙ old-elements cs ds in
    record {
      made = tt;
      order = (λ i. laid (λ e. is_among e fs) es (own i ++ new-elements cs ds i));
      many = as-many es fs (sym (apart-distinct es) ∙ apart) (sym (apart-distinct fs) ∙ config) ∙ ap length (sym own) ∙ long left;
      turns = turns;
    }
  where
    long : (xs : List Child) → length (elements xs) ≡ length xs
    long [] = refl
    long (x ∷ xs) = ap suc (long xs)

module _ (cs ds left : List Child) (ks : List ℕ) (i next : ℕ) (xs : List Child) (c : Child) (apart : are_apart (elements cs) ≡ true) (lt : i < length cs)
    (is : c ≡ get_or cs i c) (h : IsRefilling cs ds left ks i next xs) where
  abbrev fs : List Element
  fs = elements ds

  abbrev rest : List Element
  rest = elements (drop (i + 1) cs)

  abbrev news : List Element
  news = elements (filter (is_new cs) ds)

  abbrev moves : Element → Bool
  moves e = is_among e fs

  left-now : elements (drop i cs) ≡ element_view c.0 ∷ rest
  left-now = ap elements (left-at cs i c lt is)

  -- the live child's own place
  pub own-here : child_at (element_view c.0) cs ≡ Some c.1
  own-here = child-at-index cs i c lt is apart

  order-now : elements xs ++ laid moves (element_view c.0 ∷ rest) (elements left ++ news) ≡ joined (elements cs) fs
  order-now = ap (λ l. elements xs ++ laid moves l (elements left ++ news)) (sym left-now) ∙ h.order

  many-now : length (filter moves (element_view c.0 ∷ rest)) ≡ length left
  many-now = ap (λ l. length (filter moves l)) (sym left-now) ∙ h.many

  -- one child more is made
  pushed-order : (x : Child) (e : Element) (l : List Element) → element_view x.0 ≡ e → elements (xs ++ x ∷ []) ++ l ≡ elements xs ++ e ∷ l
  pushed-order x e l same =
      ap (λ k. k ++ l) (elements-append xs (x ∷ []) ∙ ap (λ f. elements xs ++ f ∷ []) same)
      ∙ append_assoc (elements xs) (e ∷ []) l

  -- the live child stays, where the configuration lacks it
  pub refilling-copied : (x : Child) (made : List Child) → is_among (element_view c.0) fs ≡ false → is_tree c.1 ≡ true
      → element_view x.0 ≡ element_view c.0 → kept x.1 ≡ kept c.1 → made ≡ xs ++ x ∷ [] → IsRefilling cs ds left ks (i + 1) next made
  refilling-copied x made off tree same copy pushed = subst (IsRefilling cs ds left ks (i + 1) next) (sym pushed) (record {
    made = all-append cs ds xs (x ∷ []) h.made (one-copied cs ds c x own-here (child_at-none (element_view c.0) ds off) tree same copy, tt);
    order =
        pushed-order x (element_view c.0) (laid moves rest (elements left ++ news)) same
        ∙ ap (λ l. elements xs ++ l) (sym (laid-stays moves (element_view c.0) rest (elements left ++ news) off)) ∙ order-now;
    many = sym (ap (λ b. length (cond b (element_view c.0 ∷ filter moves rest) (filter moves rest))) off) ∙ many-now;
    turns = h.turns;
  })

  -- where the place is refilled, some child is to come
  pub some-come : is_among (element_view c.0) fs ≡ true → 0 < length left
  some-come on =
      let more : suc (length (filter moves rest)) ≡ length left = sym (ap (λ b. length (cond b (element_view c.0 ∷ filter moves rest) (filter moves rest))) on)
      ∙ many-now in
      omega arith

  module _ (d : Child) (later : List Child) (comes : left ≡ d ∷ later) where
    turn-now : AreTurns cs ds (drop next ks) (d ∷ later)
    turn-now = subst (AreTurns cs ds (drop next ks)) comes h.turns

    pub turn-within : next < length ks
    turn-within = first-turn cs ds ks next d later turn-now

    turn-parts : (k : ℕ) → AreTurns cs ds (get_or ks next k ∷ drop (next + 1) ks) (d ∷ later)
    turn-parts k = subst (λ l. AreTurns cs ds l (d ∷ later)) (drop_more ks next k turn-within) turn-now

    -- it is the one of its element
    pub turn-own : child_at (element_view d.0) ds ≡ Some d.1
    turn-own = (turn-parts 0).1

    -- the live place of its element is the next in turn
    pub turn-place : (k : ℕ) → child_at (element_view d.0) (places cs) ≡ Some (get_or ks next k)
    turn-place k = (turn-parts k).0

    -- it comes, over the live child of its own element
    pub refilling-own : (b : Node) (x : Child) (made : List Child) → is_among (element_view c.0) fs ≡ true → child_at (element_view d.0) cs ≡ Some b
        → IsOver b d.1 x.1 → element_view x.0 ≡ element_view d.0 → made ≡ xs ++ x ∷ [] → IsRefilling cs ds later ks (i + 1) (next + 1) made
    refilling-own b x made on own over same pushed = subst (IsRefilling cs ds later ks (i + 1) (next + 1)) (sym pushed) (record {
      made = all-append cs ds xs (x ∷ []) h.made (one-over cs ds b d x own turn-own over same, tt);
      order =
          pushed-order x (element_view d.0) (laid moves rest (elements later ++ news)) same
          ∙ ap (λ l. elements xs ++ l) (sym (laid-moves moves (element_view c.0) rest (elements later ++ news) (element_view d.0) on))
          ∙ sym (ap (λ l. elements xs ++ laid moves (element_view c.0 ∷ rest) (elements l ++ news)) comes) ∙ order-now;
      many = same-count (length (filter moves rest)) (length later) (sym (ap (λ b. length (cond b (element_view c.0 ∷ filter moves rest) (filter moves rest))) on) ∙ many-now ∙ ap length comes);
      turns = (turn-parts 0).2;
    })

-- behind the last live place, what was made and what the configuration alone has are the configuration's children over the live ones
pub refilling-end : (cs ds left : List Child) (ks : List ℕ) (i next : ℕ) (xs new ys : List Child) → length cs ≤ i → are_apart (elements ds) ≡ true
    → are_trees ds ≡ true → IsRefilling cs ds left ks i next xs → new ≡ filter (is_new cs) ds → ys ≡ xs ++ new → AreOver cs ds ys
refilling-end cs ds left ks i next xs new ys done config trees h is all =
    let whole : ys ≡ xs ++ filter (is_new cs) ds = all ∙ ap (λ l. xs ++ l) is in
    let none : drop i cs ≡ [] = drop_all i cs done in
    let none_left : left ≡ [] = no-more left (sym h.many ∙ ap (λ l. length (filter (λ e. is_among e (elements ds)) (elements l))) none) in
    subst (AreOver cs ds) (sym whole) (all-over cs ds (xs ++ filter (is_new cs) ds) (all-append cs ds xs (filter (is_new cs) ds) h.made (all-new cs ds config trees))
    (elements-append xs (filter (is_new cs) ds)
    ∙ sym ((λ j. elements xs ++ laid (λ e. is_among e (elements ds)) (elements (none j)) (elements (none_left j) ++ elements (filter (is_new cs) ds)))) ∙ h.order))
  where
    no-more : (l : List Child) → length l ≡ 0 → l ≡ []
    no-more [] e = refl
    no-more (x ∷ l) e = absurd (omega arith)

-- ---- the configuration's children sorted out, those of both in turn

turns-push : (cs ds : List Child) (ks : List ℕ) (xs : List Child) (k : ℕ) (x : Child) → AreTurns cs ds ks xs
    → child_at (element_view x.0) (places cs) ≡ Some k → child_at (element_view x.0) ds ≡ Some x.1 → AreTurns cs ds (ks ++ k ∷ []) (xs ++ x ∷ [])
turns-push cs ds [] [] k x h at own = (at, own, tt)
turns-push cs ds [] (y ∷ xs) k x h at own = absurd h
turns-push cs ds (j ∷ ks) [] k x h at own = absurd h
turns-push cs ds (j ∷ ks) (y ∷ xs) k x h at own = (h.0, h.1, turns-push cs ds ks xs k x h.2 at own)

-- of the configuration's children some are sorted out: those of both with their live places in turn, and the new ones
pub record IsTurning (cs ds left : List Child) (ks : List ℕ) (own new : List Child) : Type 0 where
  -- those sorted out
  pub done : List Child
  -- they and what is left are all
  pub parted : done ++ left ≡ ds
  pub own_are : own ≡ filter (is_old cs) done
  pub new_are : new ≡ filter (is_new cs) done
  pub turns : AreTurns cs ds ks own

pub turning-start : (cs ds : List Child) → IsTurning cs ds ds [] [] []
turning-start cs ds = record { done = []; parted = refl; own_are = refl; new_are = refl; turns = tt }

pub turning-end : (cs ds left : List Child) (ks : List ℕ) (own new : List Child) → left ≡ [] → IsTurning cs ds left ks own new
    → (own ≡ filter (is_old cs) ds) × (new ≡ filter (is_new cs) ds) × AreTurns cs ds ks own
turning-end cs ds left ks own new none h =
    let all : h.done ≡ ds = sym (append-nil h.done) ∙ ap (λ l. h.done ++ l) (sym none) ∙ h.parted in
    (h.own_are ∙ ap (filter (is_old cs)) all, h.new_are ∙ ap (filter (is_new cs)) all, h.turns)

module _ (cs ds all left : List Child) (ks : List ℕ) (own new : List Child) (d : Child) (config : are_apart (elements ds) ≡ true) (is : all ≡ d ∷ left)
    (h : IsTurning cs ds all ks own new) where
  now : h.done ++ d ∷ left ≡ ds
  now = ap (λ l. h.done ++ l) (sym is) ∙ h.parted

  next : (h.done ++ d ∷ []) ++ left ≡ ds
  next = append_assoc h.done (d ∷ []) left ∙ now

  none : is_among (element_view d.0) (elements h.done) ≡ false
  none = before-apart (elements h.done) (element_view d.0) (elements left) (ap are_apart (sym (elements-append h.done (d ∷ left)))
      ∙ ap (λ l. are_apart (elements l)) now ∙ config)

  filtered : (test : Child → Bool) (b : Bool) → test d ≡ b → filter test (h.done ++ d ∷ []) ≡ filter test h.done ++ cond b (d ∷ []) []
  filtered test b e = filter-append test h.done (d ∷ []) ∙ ap (λ t. filter test h.done ++ cond t (d ∷ []) []) e

  absent : (o : Option Node) → is_absent o ≡ elim o [ None ↦ true | Some c ↦ false ]
  absent None = refl
  absent (Some c) = refl

  is-new : (o : Option ℕ) → child_at (element_view d.0) (places cs) ≡ o → is_new cs d ≡ is_absent o
  is-new o found = sym (absent (child_at (element_view d.0) cs)) ∙ sym (new-place (element_view d.0) cs) ∙ ap is_absent found

  -- a child that both have comes in turn
  pub turning-own : (k : ℕ) (more : List ℕ) (owns : List Child) → child_at (element_view d.0) (places cs) ≡ Some k
      → more ≡ cond (list_any (nat_eq k) ks) ks (ks ++ k ∷ []) → owns ≡ own ++ d ∷ [] → IsTurning cs ds left more owns new
  turning-own k more owns found put pushed =
      let fresh : list_any (nat_eq k) ks ≡ false = turn-among cs ds ks own k (element_view d.0) found h.turns
      ∙ ap (λ l. is_among (element_view d.0) (elements l)) h.own_are
      ∙ ap (is_among (element_view d.0)) (old-elements cs h.done) ∙ among-filter (λ f. is_among f (elements cs)) (elements h.done) (element_view d.0)
      ∙ ap (λ b. b && is_among (element_view d.0) (elements cs)) none in
      let grown : more ≡ ks ++ k ∷ [] = put ∙ ap (λ b. cond b ks (ks ++ k ∷ [])) fresh in
      let known = is-new (Some k) found in
      record {
        done = h.done ++ d ∷ [];
        parted = next;
        own_are = pushed ∙ ap (λ l. l ++ d ∷ []) h.own_are ∙ sym (filtered (is_old cs) true (ap not known));
        new_are = h.new_are ∙ sym (filtered (is_new cs) false known ∙ append-nil (filter (is_new cs) h.done));
        turns = subst₂ (AreTurns cs ds) (sym grown) (sym pushed)
            (turns-push cs ds ks own k d h.turns found (ap (child_at (element_view d.0)) (sym now) ∙ found-behind h.done left d none));
      }

  -- a child that the configuration alone has
  pub turning-new : (more : List Child) → child_at (element_view d.0) (places cs) ≡ None → more ≡ new ++ d ∷ [] → IsTurning cs ds left ks own more
  turning-new more absent_there pushed =
      let known = is-new None absent_there in
      record {
        done = h.done ++ d ∷ [];
        parted = next;
        own_are = h.own_are ∙ sym (filtered (is_old cs) false (ap not known) ∙ append-nil (filter (is_old cs) h.done));
        new_are = pushed ∙ ap (λ l. l ++ d ∷ []) h.new_are ∙ sym (filtered (is_new cs) true known);
        turns = h.turns;
      }
