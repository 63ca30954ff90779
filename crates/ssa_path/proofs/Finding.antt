-- Few children put together with many others, each with its counterpart, where nothing that the others have alone is kept.
use Rattle.std.proofs.Common.{◌≡◌, ℕ, ◌+◌, ◌<◌, [], ◌∷◌, ◌++◌, length, get_or, drop, Bool, true, false, ◌&&◌, ◌||◌, Some, None, refl, sym, ap, subst, ◌∙◌, append_assoc, append-nil}
use Rattle.std.specs.Bool.{MatchBool}
use Rattle.std.specs.Ordering.{is_lt}
use Rattle.ssa_model.specs.definitions.Path.{Element, Path, element_cmp, same_element, same_path}
use Rattle.ssa_path.specs.declared.combine.Combination.{Combination}
use Rattle.ssa_path.specs.declared.element.Elem.{Elem}
use Rattle.ssa_path.specs.declared.trie.Trie.{Trie}
use Rattle.ssa_path.specs.Children.{child_at, elements, is_below, rises}
use Rattle.ssa_path.specs.Combine.{concerns, is_concerned, keeps, IsCombination, IsCombined, IsKept, IsGrown}
use Rattle.ssa_path.specs.View.{element_view}
use Rattle.ssa_path.specs.Trie.{Shape, is_one_of, paths, is_trie, is_filled, has_some, are_filled_tries}
use Rattle.ssa_path.proofs.Combining.{Children, absent, concerns-more, drops-other, drops-own, gone, holds, holds-first, keeps-own, meets, nothing}
use Rattle.ssa_path.proofs.Levels.{any-child, below-more, found, same_path-reading, some-none}
use Rattle.ssa_path.proofs.Lists.{left-at}
use Rattle.ssa_path.proofs.Orders.{both_first, both_second}
use Rattle.ssa_model.proofs.Basics.{or-false as or_false, both-true as both}
use Rattle.ssa_model.proofs.Fitting.{same_element-true}

-- ---- what the others have of a child

-- where they have no child of the element, none of their paths concerns a path behind it
meets-none : (how : Combination) (e : Element) (ds : Children) (p : Path) → rises (elements ds) ≡ true → child_at e ds ≡ None → meets how ds e p ≡ false
meets-none how e ds p rise none = below-more (concerns how) (concerns-more how) e ds p rise ∙ ap (λ x. found (concerns how) x p) none

-- where they have one, its paths are those that concern it
meets-some : (how : Combination) (e : Element) (ds : Children) (d : Trie) (p : Path) → rises (elements ds) ≡ true → child_at e ds ≡ Some d
    → meets how ds e p ≡ is_concerned how (paths d) p
meets-some how e ds d p rise some = below-more (concerns how) (concerns-more how) e ds p rise ∙ ap (λ x. found (concerns how) x p) some

-- ---- one element more in front: s says whether the path begins with it, x and y what is there, v what is made of that; m is what the others hold

front-found : (how : Combination) (s x y a m u v : Bool) → keeps how false true ≡ false → v ≡ keeps how x y → (s ≡ true → (a ≡ false) × (m ≡ y))
    → u ≡ keeps how a m → ((s && v) || u) ≡ keeps how ((s && x) || a) m
front-found how false x y a m u v alone made at rest = rest
front-found how true x y a m u v alone made at rest =
    let none : a ≡ false = (at refl).0 in
    let here : m ≡ y = (at refl).1 in
    let empty : u ≡ false = rest ∙ ap (λ b. keeps how b m) none ∙ sym (drops-other how m alone) in
    ap (λ w. v || w) empty ∙ or_false v ∙ made ∙ (λ i. keeps how (sym (or_false x) i) (sym here i)) ∙ ap (λ b. keeps how (x || b) m) (sym none)

-- ---- steps, from the end of the own list to its front

-- what is combined of these children and of all the others, where whatever is below the children is below it
pub record IsFound (how : Combination) (cs ds us : Children) : Type 0 where
  pub made : IsCombined how cs ds us
  pub lower : (e : Element) → is_below e (elements cs) ≡ true → is_below e (elements us) ≡ true

-- of no children nothing is made, whatever the others have
found-none : (how : Combination) (ds : Children) → keeps how false true ≡ false → IsFound how [] ds []
found-none how ds alone = record {
  made = record { paths_are = λ e p. drops-other how (meets how ds e p) alone; risen = refl; tries = refl; lower = λ e g h. refl };
  lower = λ e h. refl;
}

-- what was made of the children behind, with one more in front
module _ (how : Combination) (alone : keeps how false true ≡ false) (c : Elem × Trie) (cs ds us : Children) (rise : rises (elements (c ∷ cs)) ≡ true)
    (h : IsFound how cs ds us) where
  abbrev Made : (Path → Bool) → Type 0
  Made v = (p : Path) → v p ≡ keeps how (is_one_of (paths c.1) p) (meets how ds (element_view c.0) p)

  fronted-found : (v : Path → Bool) → Made v → (e : Element) (p : Path)
      → ((same_element e (element_view c.0) && v p) || holds us e p) ≡ keeps how (holds (c ∷ cs) e p) (meets how ds e p)
  fronted-found v made e p =
      let f = element_view c.0 in
      front-found how (same_element e f) (is_one_of (paths c.1) p) (meets how ds f p) (holds cs e p) (meets how ds e p) (holds us e p) (v p) alone (made p)
      (λ s. (absent same_path same_path-reading.more e f cs p s (both_first _ _ rise), ap (λ g. meets how ds g p) (same_element-true e f s)))
      (h.made.paths_are e p)
      ∙ ap (λ b. keeps how b (meets how ds e p)) (sym (any-child same_path same_path-reading e c cs p))

  -- the child u is made of it
  found-kept : (u : Elem × Trie) → element_view u.0 ≡ element_view c.0 → Made (is_one_of (paths u.1)) → is_trie u.1 ≡ true → is_filled u.1 ≡ true
      → IsFound how (c ∷ cs) ds (u ∷ us)
  found-kept u is made trie filled =
      let below : (e : Element) → is_below e (elements (c ∷ cs)) ≡ true → is_below e (elements (u ∷ us)) ≡ true = λ e a.
      both _ _ (ap (λ g. is_lt (element_cmp e g)) is ∙ both_first _ _ a) (h.lower e (both_second _ _ a)) in
      record {
        made = record {
          paths_are = λ e p. holds-first u us (element_view c.0) e p is ∙ fronted-found (is_one_of (paths u.1)) made e p;
          risen = both _ _ (ap (λ g. is_below g (elements us)) is ∙ h.lower (element_view c.0) (both_first _ _ rise)) h.made.risen;
          tries = both _ _ (both _ _ trie filled) h.made.tries;
          lower = λ e a b. below e a;
        };
        lower = below;
      }

  -- nothing is made of it
  found-dropped : Made nothing → IsFound how (c ∷ cs) ds us
  found-dropped made = record {
    made = record {
      paths_are = λ e p. sym (gone (same_element e (element_view c.0)) (holds us e p)) ∙ fronted-found nothing made e p;
      risen = h.made.risen;
      tries = h.made.tries;
      lower = λ e a b. h.lower e (both_second _ _ a);
    };
    lower = λ e a. h.lower e (both_second _ _ a);
  }

-- ---- a walk over the own list

-- whatever is made of what is left of the own list, behind what was made so far it is made of the own list
pub record IsFinding (how : Combination) (cs0 ds cs out : Children) : Type 0 where
  -- what is left of the own list rises
  pub own_rise : rises (elements cs) ≡ true
  -- each of it is a trie with some path
  pub own_tries : are_filled_tries cs ≡ true
  -- what is made of what is left, behind what is there, is made of the own list
  pub rest : (us : Children) → IsFound how cs ds us → IsFound how cs0 ds (out ++ us)

-- where nothing is left, what is there is combined of both lists
pub finding-all : (how : Combination) (cs0 ds cs out : Children) → keeps how false true ≡ false → cs ≡ [] → IsFinding how cs0 ds cs out
    → IsCombined how cs0 ds out
finding-all how cs0 ds cs out alone e h =
    let left : IsFound how cs ds [] = rw e (found-none how ds alone) in
    (subst (IsFound how cs0 ds) (append-nil out) (h.rest [] left)).made

pushed-found : (how : Combination) (cs0 ds out us : Children) (u : Elem × Trie) → IsFound how cs0 ds (out ++ u ∷ us) → IsFound how cs0 ds ((out ++ u ∷ []) ++ us)
pushed-found how cs0 ds out us u h = subst (IsFound how cs0 ds) (sym (append_assoc out (u ∷ []) us)) h

-- the next child has no counterpart, and is copied where it is kept
module _ (how : Combination) (cs0 ds : Children) (c : Elem × Trie) (cs out new : Children) (alone : keeps how false true ≡ false)
    (rise : rises (elements ds) ≡ true) (h : IsFinding how cs0 ds (c ∷ cs) out) where
  rest-none : (kept : Bool) → child_at (element_view c.0) ds ≡ None → kept ≡ keeps how true false → IsKept kept c out new → (us : Children)
      → IsFound how cs ds us → IsFound how cs0 ds (new ++ us)
  rest-none true none is (u, copy, items) us g =
      let parts = both_first (is_trie c.1 && is_filled c.1) _ h.own_tries in
      let made : (p : Path) → is_one_of (paths u.1) p ≡ keeps how (is_one_of (paths c.1) p) (meets how ds (element_view c.0) p) = λ p.
      ap (λ (s : Shape). is_one_of s.0 p) copy.shape_is ∙ keeps-own how (is_one_of (paths c.1) p) (sym is)
      ∙ ap (keeps how (is_one_of (paths c.1) p)) (sym (meets-none how (element_view c.0) ds p rise none)) in
      rw items (pushed-found how cs0 ds out us u (h.rest (u ∷ us)
      (found-kept how alone c cs ds us h.own_rise g u copy.element made (ap (λ (s : Shape). s.1) copy.shape_is ∙ both_first (is_trie c.1) _ parts)
      (ap (λ (s : Shape). has_some s.0) copy.shape_is ∙ both_second (is_trie c.1) _ parts))))
  rest-none false none is items us g =
      rw items (h.rest us (found-dropped how alone c cs ds us h.own_rise g (λ p.
      drops-own how (is_one_of (paths c.1) p) (sym is)
      ∙ ap (keeps how (is_one_of (paths c.1) p)) (sym (meets-none how (element_view c.0) ds p rise none)))))

  rest-some : (d t : Trie) (filled : Bool) → is_filled t ≡ filled → child_at (element_view c.0) ds ≡ Some d → IsCombination how c.1 d t
      → MatchBool filled ((x : Elem) × (element_view x ≡ element_view c.0) × (new ≡ out ++ (x, t) ∷ [])) (new ≡ out) → (us : Children)
      → IsFound how cs ds us → IsFound how cs0 ds (new ++ us)
  rest-some d t true is some made (x, same, items) us g =
      rw items (pushed-found how cs0 ds out us (x, t) (h.rest ((x, t) ∷ us)
      (found-kept how alone c cs ds us h.own_rise g (x, t) same (λ p.
      made.paths_are p ∙ ap (keeps how (is_one_of (paths c.1) p)) (sym (meets-some how (element_view c.0) ds d p rise some))) made.trie is)))
  rest-some d t false is some made items us g =
      rw items (h.rest us (found-dropped how alone c cs ds us h.own_rise g (λ p.
      ap (λ ps. is_one_of ps p) (sym (some-none (paths t) is)) ∙ made.paths_are p
      ∙ ap (keeps how (is_one_of (paths c.1) p)) (sym (meets-some how (element_view c.0) ds d p rise some)))))

  finding-more : ((us : Children) → IsFound how cs ds us → IsFound how cs0 ds (new ++ us)) → IsFinding how cs0 ds cs new
  finding-more rest = record {
    own_rise = both_second _ _ h.own_rise;
    own_tries = both_second (is_trie c.1 && is_filled c.1) _ h.own_tries;
    rest = rest;
  }

-- the next child has no counterpart: it is passed, and copied where it is kept
pub finding-alone : (how : Combination) (cs0 ds : Children) (c : Elem × Trie) (cs out new : Children) (kept : Bool) → keeps how false true ≡ false
    → rises (elements ds) ≡ true → child_at (element_view c.0) ds ≡ None → kept ≡ keeps how true false → IsKept kept c out new
    → IsFinding how cs0 ds (c ∷ cs) out → IsFinding how cs0 ds cs new
finding-alone how cs0 ds c cs out new kept alone rise none kept_is made h =
    finding-more how cs0 ds c cs out new alone rise h (rest-none how cs0 ds c cs out new alone rise h kept none kept_is made)

-- the next child has a counterpart: it is passed, with the combination of the two where that has some path
pub finding-both : (how : Combination) (cs0 ds : Children) (c : Elem × Trie) (cs out new : Children) (d t : Trie) → keeps how false true ≡ false
    → rises (elements ds) ≡ true → child_at (element_view c.0) ds ≡ Some d → IsCombination how c.1 d t → IsGrown (element_view c.0) t out new
    → IsFinding how cs0 ds (c ∷ cs) out → IsFinding how cs0 ds cs new
finding-both how cs0 ds c cs out new d t alone rise some made grown h =
    finding-more how cs0 ds c cs out new alone rise h (rest-some how cs0 ds c cs out new alone rise h d t (is_filled t) refl some made grown)

-- ---- the same at a place in the own list

pub none-at : (how : Combination) (cs ds : Children) (i : ℕ) (c : Elem × Trie) (out new : Children) (kept : Bool) → keeps how false true ≡ false
    → rises (elements ds) ≡ true → i < length cs → c ≡ get_or cs i c → child_at (element_view c.0) ds ≡ None → kept ≡ keeps how true false
    → IsKept kept c out new → IsFinding how cs ds (drop i cs) out → IsFinding how cs ds (drop (i + 1) cs) new
none-at how cs ds i c out new kept alone rise lt is none kept_is made h =
    finding-alone how cs ds c (drop (i + 1) cs) out new kept alone rise none kept_is made (subst (λ l. IsFinding how cs ds l out) (left-at cs i c lt is) h)

pub some-at : (how : Combination) (cs ds : Children) (i : ℕ) (c : Elem × Trie) (out new : Children) (d t : Trie) → keeps how false true ≡ false
    → rises (elements ds) ≡ true → i < length cs → c ≡ get_or cs i c → child_at (element_view c.0) ds ≡ Some d → IsCombination how c.1 d t
    → IsGrown (element_view c.0) t out new → IsFinding how cs ds (drop i cs) out → IsFinding how cs ds (drop (i + 1) cs) new
some-at how cs ds i c out new d t alone rise lt is some made grown h =
    finding-both how cs ds c (drop (i + 1) cs) out new d t alone rise some made grown (subst (λ l. IsFinding how cs ds l out) (left-at cs i c lt is) h)
