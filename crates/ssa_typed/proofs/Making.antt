-- Tries of what a test tells of the children of two lists that rise, made by one walk over both lists.
use Rattle.std.proofs.Common.{◌≡◌, List, [], ◌∷◌, ◌++◌, Bool, true, false, ◌&&◌, ◌||◌, cond, Option, Some, None, Less, Equal, Greater, refl, sym, ap, subst, ◌∙◌, append_assoc, append-nil}
use Rattle.std.specs.Bool.{MatchBool}
use Rattle.std.specs.Ordering.{is_lt}
use Rattle.ssa_model.specs.definitions.Path.{Element, Path, element_cmp, same_element}
use Rattle.ssa_path.specs.Children.{child_at, elements, is_below, rises, heads_order}
use Rattle.ssa_path.specs.Combine.{IsGrown}
use Rattle.ssa_path.specs.declared.element.Elem.{Elem}
use Rattle.ssa_path.specs.declared.trie.Trie.{Trie}
use Rattle.ssa_path.specs.Trie.{is_one_of, paths, paths_below, is_trie, is_filled, are_filled_tries}
use Rattle.ssa_path.specs.View.{element_view}
use Rattle.ssa_path.proofs.Combining.{holds-first, own-first, other-first, tied-heads, gone}
use Rattle.ssa_path.proofs.Levels.{some-none}
use Rattle.ssa_path.proofs.Orders.{both_first, both_second}
use Rattle.ssa_path.proofs.Searching.{absent-below}
use Rattle.ssa_model.proofs.Fitting.{same_element-true}
use Rattle.ssa_model.proofs.Basics.{or-false as or_false, both-true as both}

-- values under their elements
abbrev pub Children : Type 0 → Type 0
Children A = List (Elem × A)

-- what is told of the child of an element in two lists, and of a path below it
abbrev pub Test : Type 0 → Type 0 → Type 0
Test A B = Element → Option A → Option B → Path → Bool

-- nothing is told where neither list has the element
abbrev pub TellsNothing : {A B : Type 0} → Test A B → Type 0
TellsNothing test = (e : Element) (p : Path) → test e None None p ≡ false

-- these tries hold all that the test tells of the children of both lists
pub record IsMade {A B : Type 0} (test : Test A B) (cs : Children A) (ds : Children B) (us : List (Elem × Trie)) : Type 0 where
  -- their paths are those that the test tells
  pub paths_are : (e : Element) (p : Path) → is_one_of (paths_below us) (e ∷ p) ≡ test e (child_at e cs) (child_at e ds) p
  -- their elements rise
  pub risen : rises (elements us) ≡ true
  -- each is a trie with some path
  pub tries : are_filled_tries us ≡ true
  -- what is below the elements of both lists is below theirs
  pub lower : (e : Element) → is_below e (elements cs) ≡ true → is_below e (elements ds) ≡ true → is_below e (elements us) ≡ true

-- of no children nothing is made
pub made-none : {A B : Type 0} (test : Test A B) → TellsNothing test → IsMade test [] [] []
made-none test none = record { paths_are = λ e p. sym (none e p); risen = refl; tries = refl; lower = λ e g h. refl }

-- ---- a trie put in front of others, where it has some path

record IsPut (f : Element) (t : Trie) (us new : List (Elem × Trie)) : Type 0 where
  paths_are : (e : Element) (p : Path) → is_one_of (paths_below new) (e ∷ p)
      ≡ ((same_element e f && is_one_of (paths t) p) || is_one_of (paths_below us) (e ∷ p))
  risen : is_below f (elements us) ≡ true → rises (elements us) ≡ true → rises (elements new) ≡ true
  tries : are_filled_tries us ≡ true → are_filled_tries new ≡ true
  lower : (e : Element) → is_lt (element_cmp e f) ≡ true → is_below e (elements us) ≡ true → is_below e (elements new) ≡ true

put-some : (f : Element) (t : Trie) (us : List (Elem × Trie)) (d : Elem) → element_view d ≡ f → is_trie t ≡ true → is_filled t ≡ true
    → IsPut f t us ((d, t) ∷ us)
put-some f t us d is trie filled = record {
  paths_are = λ e p. holds-first (d, t) us f e p is;
  risen = λ a b. both _ _ (ap (λ g. is_below g (elements us)) is ∙ a) b;
  tries = λ a. both _ _ (both _ _ trie filled) a;
  lower = λ e a b. both _ _ (ap (λ g. is_lt (element_cmp e g)) is ∙ a) b;
}

put-none : (f : Element) (t : Trie) (us : List (Elem × Trie)) → is_filled t ≡ false → IsPut f t us us
put-none f t us none = record {
  paths_are = λ e p. sym (ap (λ ps. (same_element e f && is_one_of ps p) || is_one_of (paths_below us) (e ∷ p)) (some-none (paths t) none)
      ∙ gone (same_element e f) _);
  risen = λ a b. b;
  tries = λ a. a;
  lower = λ e a b. b;
}

-- whatever stands behind what was made so far, the new trie is put in front of it
abbrev IsPutBetween : Element → Trie → List (Elem × Trie) → List (Elem × Trie) → List (Elem × Trie) → Type 0
IsPutBetween f t out new us = (vs : List (Elem × Trie)) × IsPut f t us vs × (new ++ us ≡ out ++ vs)

put-grown : (f : Element) (t : Trie) (out new : List (Elem × Trie)) (b : Bool) → is_trie t ≡ true → is_filled t ≡ b
    → MatchBool b ((d : Elem) × (element_view d ≡ f) × (new ≡ out ++ (d, t) ∷ [])) (new ≡ out)
    → (us : List (Elem × Trie)) → IsPutBetween f t out new us
put-grown f t out new true trie filled (d, is, items) us = (
  (d, t) ∷ us,
  put-some f t us d is trie filled,
  ap (λ l. l ++ us) items
      ∙ append_assoc out ((d, t) ∷ []) us,
)
put-grown f t out new false trie none items us = (us, put-none f t us none, ap (λ l. l ++ us) items)

-- ---- an element in front of what is left of both lists, and what they have there

-- an element stands in front of what is left, with what each list has there
pub record IsFront {A B : Type 0} (f : Element) (x : Option A) (y : Option B) (cs0 : Children A) (ds0 : Children B) (cs : Children A) (ds : Children B) : Type
    0 where
  -- the first list has this there, and all else behind it
  pub own : (e : Element) → child_at e cs0 ≡ cond (same_element e f) x (child_at e cs)
  -- so has the second list
  pub other : (e : Element) → child_at e ds0 ≡ cond (same_element e f) y (child_at e ds)
  -- the element is below what is left of the first list
  pub own_above : is_below f (elements cs) ≡ true
  -- it is below what is left of the second list
  pub other_above : is_below f (elements ds) ≡ true
  -- what is below both lists is below the element, and below what is left of them
  pub lower : (e : Element) → is_below e (elements cs0) ≡ true → is_below e (elements ds0) ≡ true → (is_lt (element_cmp e f) ≡ true)
      × (is_below e (elements cs) ≡ true) × (is_below e (elements ds) ≡ true)

skipped : {A : Type 0} (e f : Element) (cs : Children A) → is_below f (elements cs) ≡ true → child_at e cs ≡ cond (same_element e f) None (child_at e cs)
skipped e f cs h = elim (same_element e f) as (λ b. same_element e f ≡ b
    → child_at e cs ≡ cond b None (child_at e cs)) [ true ↦ λ s. absent-below e f cs s h | false ↦ λ s. refl ] refl

-- the head of the first list stands in front alone
pub front-own : {A B : Type 0} (c : Elem × A) (cs : Children A) (ds : Children B) → heads_order (c ∷ cs) ds ≡ Some Less → rises (elements (c ∷ cs)) ≡ true
    → rises (elements ds) ≡ true → IsFront (element_view c.0) (Some c.1) None (c ∷ cs) ds cs ds
front-own c cs ds order own_rise other_rise =
    let above = own-first c cs ds order other_rise in
    record {
      own = λ e. refl;
      other = λ e. skipped e (element_view c.0) ds above;
      own_above = both_first (is_below (element_view c.0) (elements cs)) _ own_rise;
      other_above = above;
      lower = λ e a b. (both_first (is_lt (element_cmp e (element_view c.0))) _ a, both_second (is_lt (element_cmp e (element_view c.0))) _ a, b);
    }

-- the head of the second list stands in front alone
pub front-other : {A B : Type 0} (cs : Children A) (d : Elem × B) (ds : Children B) → heads_order cs (d ∷ ds) ≡ Some Greater → rises (elements cs) ≡ true
    → rises (elements (d ∷ ds)) ≡ true → IsFront (element_view d.0) None (Some d.1) cs (d ∷ ds) cs ds
front-other cs d ds order own_rise other_rise =
    let above = other-first cs d ds order own_rise in
    record {
      own = λ e. skipped e (element_view d.0) cs above;
      other = λ e. refl;
      own_above = above;
      other_above = both_first (is_below (element_view d.0) (elements ds)) _ other_rise;
      lower = λ e a b. (both_first (is_lt (element_cmp e (element_view d.0))) _ b, a, both_second (is_lt (element_cmp e (element_view d.0))) _ b);
    }

-- the heads of both lists stand in front, under one element
pub front-both : {A B : Type 0} (c : Elem × A) (d : Elem × B) (cs : Children A) (ds : Children B) → heads_order (c ∷ cs) (d ∷ ds) ≡ Some Equal
    → rises (elements (c ∷ cs)) ≡ true → rises (elements (d ∷ ds)) ≡ true
    → IsFront (element_view c.0) (Some c.1) (Some d.1) (c ∷ cs) (d ∷ ds) cs ds
front-both c d cs ds order own_rise other_rise =
    let same = tied-heads c d cs ds order in
    record {
      own = λ e. refl;
      other = λ e. ap (λ g. cond (same_element e g) (Some d.1) (child_at e ds)) (sym same);
      own_above = both_first (is_below (element_view c.0) (elements cs)) _ own_rise;
      other_above = ap (λ g. is_below g (elements ds)) same ∙ both_first (is_below (element_view d.0) (elements ds)) _ other_rise;
      lower = λ e a b. (
        both_first (is_lt (element_cmp e (element_view c.0))) _ a,
        both_second (is_lt (element_cmp e (element_view c.0))) _ a,
        both_second (is_lt (element_cmp e (element_view d.0))) _ b,
      );
    }

-- ---- one element more

module _ {A B : Type 0} (test : Test A B) (none : TellsNothing test) where
  joined : (f : Element) (x : Option A) (y : Option B) (cs : Children A) (ds : Children B) → is_below f (elements cs) ≡ true → is_below f (elements ds) ≡ true
      → (e : Element) (p : Path)
      → ((same_element e f && test f x y p) || test e (child_at e cs) (child_at e ds) p)
      ≡ test e (cond (same_element e f) x (child_at e cs)) (cond (same_element e f) y (child_at e ds)) p
  joined f x y cs ds own other e p =
      elim (same_element e f) as (λ b. same_element e f ≡ b → ((b && test f x y p) || test e (child_at e cs) (child_at e ds) p)
      ≡ test e (cond b x (child_at e cs)) (cond b y (child_at e ds)) p) [
        | true ↦ λ h.
            (λ i. test f x y p || test e (absent-below e f cs h own i) (absent-below e f ds h other i) p)
            ∙ ap (λ b. test f x y p || b) (none e p) ∙ or_false _ ∙ ap (λ g. test g x y p) (sym (same_element-true e f h))
        | false ↦ λ h. refl
      ] refl

  made-front : (f : Element) (x : Option A) (y : Option B) (cs0 : Children A) (ds0 : Children B) (cs : Children A) (ds : Children B) (t : Trie)
      (us new : List (Elem × Trie)) → IsFront f x y cs0 ds0 cs ds → ((p : Path) → is_one_of (paths t) p ≡ test f x y p) → IsPut f t us new
      → IsMade test cs ds us → IsMade test cs0 ds0 new
  made-front f x y cs0 ds0 cs ds t us new front made put h = record {
    paths_are = λ e p.
        put.paths_are e p
        ∙ (λ i. (same_element e f && made p i) || h.paths_are e p i)
        ∙ joined f x y cs ds front.own_above front.other_above e p
        ∙ (λ i. test e (sym (front.own e) i) (sym (front.other e) i) p);
    risen = put.risen (h.lower f front.own_above front.other_above) h.risen;
    tries = put.tries h.tries;
    lower = λ e a b. let parts = front.lower e a b in put.lower e parts.0 (h.lower e parts.1 parts.2);
  }

  -- an element of which nothing is told
  made-skip : (f : Element) (x : Option A) (y : Option B) (cs0 : Children A) (ds0 : Children B) (cs : Children A) (ds : Children B) (us : List (Elem × Trie))
      → IsFront f x y cs0 ds0 cs ds → ((p : Path) → test f x y p ≡ false)
      → IsMade test cs ds us → IsMade test cs0 ds0 us
  made-skip f x y cs0 ds0 cs ds us front nothing h = record {
    paths_are = λ e p.
        h.paths_are e p
        ∙ sym (gone (same_element e f) (test e (child_at e cs) (child_at e ds) p))
        ∙ ap (λ b. (same_element e f && b) || test e (child_at e cs) (child_at e ds) p) (sym (nothing p))
        ∙ joined f x y cs ds front.own_above front.other_above e p
        ∙ (λ i. test e (sym (front.own e) i) (sym (front.other e) i) p);
    risen = h.risen;
    tries = h.tries;
    lower = λ e a b. let parts = front.lower e a b in h.lower e parts.1 parts.2;
  }

-- ---- a walk over both lists

-- whatever is made of what is left of both lists, behind what was made so far it is made of both lists
pub record IsMaking {A B : Type 0} (test : Test A B) (cs0 : Children A) (ds0 : Children B) (cs : Children A) (ds : Children B)
    (out : List (Elem × Trie)) : Type 0 where
  -- what is left of the first list rises
  pub own_rise : rises (elements cs) ≡ true
  -- what is left of the second list rises
  pub others_rise : rises (elements ds) ≡ true
  -- what is made of what is left, behind what is there, is made of both lists
  pub rest : (us : List (Elem × Trie)) → IsMade test cs ds us → IsMade test cs0 ds0 (out ++ us)

-- before the walk all is left and nothing is made
pub making-none : {A B : Type 0} (test : Test A B) (cs : Children A) (ds : Children B) → rises (elements cs) ≡ true → rises (elements ds) ≡ true
    → IsMaking test cs ds cs ds []
making-none test cs ds a b = record { own_rise = a; others_rise = b; rest = λ us h. h }

-- where nothing is left, what is there is made of both lists
pub making-all : {A B : Type 0} (test : Test A B) (cs0 : Children A) (ds0 : Children B) (cs : Children A) (ds : Children B) (out : List (Elem × Trie))
    → TellsNothing test → cs ≡ [] → ds ≡ [] → IsMaking test cs0 ds0 cs ds out → IsMade test cs0 ds0 out
making-all test cs0 ds0 cs ds out none e f h =
    let left : IsMade test cs ds [] = rw (e, f) (made-none test none) in
    subst (IsMade test cs0 ds0) (append-nil out) (h.rest [] left)

-- the element in front is passed, with the trie of what is told there
pub making-more : {A B : Type 0} (test : Test A B) (f : Element) (x : Option A) (y : Option B) (cs0 : Children A) (ds0 : Children B) (cs1 : Children A)
    (ds1 : Children B) (cs : Children A) (ds : Children B) (out new : List (Elem × Trie)) (t : Trie) → TellsNothing test → IsFront f x y cs1 ds1 cs ds
    → rises (elements cs) ≡ true → rises (elements ds) ≡ true → ((p : Path) → is_one_of (paths t) p ≡ test f x y p) → is_trie t ≡ true → IsGrown f t out new
    → IsMaking test cs0 ds0 cs1 ds1 out → IsMaking test cs0 ds0 cs ds new
making-more test f x y cs0 ds0 cs1 ds1 cs ds out new t none front own_rise others_rise made trie grown h = record {
  own_rise = own_rise;
  others_rise = others_rise;
  rest = λ us g.
      let put = put-grown f t out new (is_filled t) trie refl grown us in
      subst (IsMade test cs0 ds0) (sym put.2) (h.rest put.0 (made-front test none f x y cs1 ds1 cs ds t us put.0 front made put.1 g));
}

-- the element in front is passed, where nothing is told there
pub making-skip : {A B : Type 0} (test : Test A B) (f : Element) (x : Option A) (y : Option B) (cs0 : Children A) (ds0 : Children B) (cs1 : Children A)
    (ds1 : Children B) (cs : Children A) (ds : Children B) (out : List (Elem × Trie)) → TellsNothing test → IsFront f x y cs1 ds1 cs ds
    → rises (elements cs) ≡ true → rises (elements ds) ≡ true → ((p : Path) → test f x y p ≡ false) → IsMaking test cs0 ds0 cs1 ds1 out
    → IsMaking test cs0 ds0 cs ds out
making-skip test f x y cs0 ds0 cs1 ds1 cs ds out none front own_rise others_rise nothing h = record {
  own_rise = own_rise;
  others_rise = others_rise;
  rest = λ us g. h.rest us (made-skip test none f x y cs1 ds1 cs ds us front nothing g);
}
