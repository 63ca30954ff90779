-- The children of a place without key fields, which are taken out where they stand.
use Rattle.std.proofs.Common.{◌≡◌, ℕ, ◌+◌, ◌<◌, ◌≤◌, List, [], ◌∷◌, ◌++◌, length, get_or, set, drop, take, Bool, true, false, ◌&&◌, ◌||◌, not, refl, sym, ap, subst, ◌∙◌, append_assoc, append-nil, arith}
use Rattle.std.proofs.lemmas.List.{drop_all, drop-set-lt}
use Rattle.std.specs.Bool.{MatchBool}
use Rattle.std.specs.Ordering.{is_lt}
use Rattle.ssa_model.specs.definitions.Path.{Element, Path, field, key, value, element_cmp, is_key_field, names_key, same_element, same_path}
use Rattle.ssa_path.specs.Children.{elements, is_below, rises}
use Rattle.ssa_path.specs.Combine.{IsGrown}
use Rattle.ssa_path.specs.KeyFields.{keys_in, IsWithoutKeyFields}
use Rattle.ssa_path.specs.Keys.{Members}
use Rattle.ssa_path.specs.Trie.{kept, is_one_of, paths, paths_below, is_trie, is_filled, are_filled_tries}
use Rattle.ssa_path.specs.View.{element_view}
use Rattle.ssa_path.specs.declared.element.Elem.{Elem}
use Rattle.ssa_path.specs.declared.trie.Trie.{Trie}
use Rattle.ssa_path.specs.declared.trie.Trie.TheOpen.{Trie-F}
use Rattle.ssa_path.specs.declared.trie.Trie.TheViews.{out-Trie, roll-Trie}
use Rattle.ssa_path.proofs.Combining.{holds-first}
use Rattle.ssa_path.proofs.Levels.{same_path-reading, any-child, any-made, any-level, is_trie-made, one-level-root, one-made-root, some-none, trie-parts}
use Rattle.ssa_path.proofs.Lists.{left-at}
use Rattle.ssa_path.proofs.Orders.{both_first, both_second}
use Rattle.ssa_path.proofs.TakingOut.{AllKept, all-made, all-taken, grown-behind}
use Rattle.ssa_model.proofs.Fitting.{same_element-true}
use Rattle.ssa_model.proofs.Basics.{both-true as both}

abbrev Children : Type 0
Children = List (Elem × Trie)

-- ---- key fields, from the element above

names-keys : (e f : Element) → names_key (key (keys_in e)) f ≡ names_key e f
names-keys (field n) (field m) = refl
names-keys (field n) (key ks) = refl
names-keys (field n) (value s) = refl
names-keys (key ks) f = refl
names-keys (value s) (field m) = refl
names-keys (value s) (key ks) = refl
names-keys (value s) (value r) = refl

key_field-keys : (e f : Element) (p : Path) → is_key_field (key (keys_in e) ∷ f ∷ p) ≡ is_key_field (e ∷ f ∷ p)
key_field-keys e f [] = names-keys e f
key_field-keys e f (g ∷ p) = refl

names-none : (e : Element) → names_key (key []) e ≡ false
names-none (field n) = refl
names-none (key ks) = refl
names-none (value s) = refl

-- an item of no key fields has no key field below it
pub key_field-root : (e : Element) (p : Path) → is_key_field (key [] ∷ e ∷ p) ≡ is_key_field (e ∷ p)
key_field-root e [] = names-none e
key_field-root e (f ∷ p) = refl

-- what is left of the child of this element, below the item of these key fields
pub child-left : (ks : Members) (e : Element) (c t : Trie) (stays : Bool) → stays ≡ (is_one_of (paths c) [] && not (names_key (key ks) e))
    → IsWithoutKeyFields (keys_in e) c stays t
    → (p : Path) → is_one_of (paths t) p ≡ (is_one_of (paths c) p && not (is_key_field (key ks ∷ e ∷ p)))
child-left ks e c t stays is h [] = h.root ∙ is
child-left ks e c t stays is h (f ∷ p) = h.below f p ∙ ap (λ b. is_one_of (paths c) (f ∷ p) && not b) (key_field-keys e f p)

-- ---- one child more in front

-- those of the children's paths that pass the test
pub record IsLeft (test : Path → Bool) (cs us : Children) : Type 0 where
  -- their paths are those that pass
  pub paths_are : (e : Element) (p : Path) → is_one_of (paths_below us) (e ∷ p) ≡ (is_one_of (paths_below cs) (e ∷ p) && test (e ∷ p))
  -- their elements rise
  pub risen : rises (elements us) ≡ true
  -- each is a trie with some path
  pub tries : are_filled_tries us ≡ true
  -- what is below the children's elements is below theirs
  pub lower : (e : Element) → is_below e (elements cs) ≡ true → is_below e (elements us) ≡ true

left-none : (test : Path → Bool) → IsLeft test [] []
left-none test = record { paths_are = λ e p. refl; risen = refl; tries = refl; lower = λ e h. h }

-- s says whether the path begins with the child's element, x and a what the child and the others hold there
front : (s x a t u : Bool) → (s ≡ true → t ≡ u) → ((s && (x && t)) || (a && u)) ≡ (((s && x) || a) && u)
front false x a t u h = refl
front true true a t u h = ap (λ b. b || (a && u)) (h refl) ∙ more u
  where
    more : (b : Bool) → (b || (a && b)) ≡ b
    more true = refl
    more false = none a
      where
        none : (c : Bool) → (c && false) ≡ false
        none true = refl
        none false = refl
front true false a t u h = refl

module _ (test : Path → Bool) (c : Elem × Trie) (t : Trie) (cs us : Children) (made : (p : Path)
    → is_one_of (paths t) p ≡ (is_one_of (paths c.1) p && test (element_view c.0 ∷ p))) (h : IsLeft test cs us) where
  fronted : (e : Element) (p : Path) → ((same_element e (element_view c.0) && is_one_of (paths t) p) || is_one_of (paths_below us) (e ∷ p))
      ≡ (is_one_of (paths_below (c ∷ cs)) (e ∷ p) && test (e ∷ p))
  fronted e p =
      (λ i. (same_element e (element_view c.0) && made p i) || h.paths_are e p i)
      ∙ front (same_element e (element_view c.0)) (is_one_of (paths c.1) p) (is_one_of (paths_below cs) (e ∷ p)) _ _
      (λ s. ap (λ f. test (f ∷ p)) (sym (same_element-true e (element_view c.0) s)))
      ∙ ap (λ b. b && test (e ∷ p)) (sym (any-child same_path same_path-reading e c cs p))

  left-kept : (d : Elem) → rises (elements (c ∷ cs)) ≡ true → element_view d ≡ element_view c.0 → is_trie t ≡ true → is_filled t ≡ true
      → IsLeft test (c ∷ cs) ((d, t) ∷ us)
  left-kept d rise is trie filled = record {
    paths_are = λ e p. holds-first (d, t) us (element_view c.0) e p is ∙ fronted e p;
    risen = both _ _ (ap (λ g. is_below g (elements us)) is ∙ h.lower (element_view c.0) (both_first _ _ rise)) h.risen;
    tries = both _ _ (both _ _ trie filled) h.tries;
    lower = λ e a. both _ _ (ap (λ g. is_lt (element_cmp e g)) is ∙ both_first _ _ a) (h.lower e (both_second _ _ a));
  }

  left-dropped : is_filled t ≡ false → IsLeft test (c ∷ cs) us
  left-dropped none = record {
    paths_are = λ e p. sym (gone (same_element e (element_view c.0)) (is_one_of (paths_below us) (e ∷ p)))
        ∙ ap (λ ps. (same_element e (element_view c.0) && is_one_of ps p) || is_one_of (paths_below us) (e ∷ p)) (sym (some-none (paths t) none)) ∙ fronted e p;
    risen = h.risen;
    tries = h.tries;
    lower = λ e a. h.lower e (both_second _ _ a);
  }
    where
      gone : (s a : Bool) → ((s && false) || a) ≡ a
      gone true a = refl
      gone false a = refl

-- ---- one child after another

-- whatever is left of the rest of the children, behind what was left so far it is left of all
pub record IsLeaving (test : Path → Bool) (all cs out : Children) : Type 0 where
  -- the rest rises
  pub rise : rises (elements cs) ≡ true
  -- each of the rest is a trie with some path
  pub tries : are_filled_tries cs ≡ true
  -- what passes of the rest, behind what is there, is what passes of all
  pub rest : (us : Children) → IsLeft test cs us → IsLeft test all (out ++ us)

-- before the walk all children of the trie are left
leaving-none : (test : Path → Bool) (t : Trie) (cs : Children) → cs ≡ (out-Trie t).below.items → is_trie t ≡ true → IsLeaving test cs cs []
leaving-none test t cs is trie =
    let parts = trie-parts t cs is trie in
    record { rise = parts.0; tries = parts.1; rest = λ us h. h }

grown-cases : (filled : Bool) (test : Path → Bool) (all : Children) (c : Elem × Trie) (cs out new : Children) (t : Trie) → is_filled t ≡ filled
    → is_trie t ≡ true
    → ((p : Path) → is_one_of (paths t) p ≡ (is_one_of (paths c.1) p && test (element_view c.0 ∷ p)))
    → MatchBool filled ((d : Elem) × (element_view d ≡ element_view c.0) × (new ≡ out ++ (d, t) ∷ [])) (new ≡ out)
    → IsLeaving test all (c ∷ cs) out → (us : Children) → IsLeft test cs us → IsLeft test all (new ++ us)
grown-cases true test all c cs out new t is trie made (d, same, items) h us g =
    let longer = subst (IsLeft test all) (sym (append_assoc out ((d, t) ∷ []) us))
    (h.rest ((d, t) ∷ us) (left-kept test c t cs us made g d h.rise same trie is)) in
    rw items longer
grown-cases false test all c cs out new t is trie made items h us g = rw items (h.rest us (left-dropped test c t cs us made g is))

-- the next child is passed, with what passes of it where that is some path
leaving-more : (test : Path → Bool) (all cs : Children) (c : Elem × Trie) (out new : Children) (t : Trie) → is_trie t ≡ true
    → ((p : Path) → is_one_of (paths t) p ≡ (is_one_of (paths c.1) p && test (element_view c.0 ∷ p)))
    → IsGrown (element_view c.0) t out new → IsLeaving test all (c ∷ cs) out → IsLeaving test all cs new
leaving-more test all cs c out new t trie made grown h = record {
  rise = both_second _ _ h.rise;
  tries = both_second (is_trie c.1 && is_filled c.1) _ h.tries;
  rest = grown-cases (is_filled t) test all c cs out new t refl trie made grown h;
}

-- ---- the children where they stand

-- up to this place the children have come to what passes of them
pub record IsTakingKeys (test : Path → Bool) (cs now : Children) (i : ℕ) (any_bare : Bool) : Type 0 where
  -- what passes of those behind, behind what is kept so far, is what passes of all
  pub walk : IsLeaving test cs (drop i now) (kept (take i now))
  -- where none is told to have no path left, all are kept
  pub all_kept : AllKept any_bare (take i now)

pub keys-none : (test : Path → Bool) (t : Trie) (cs : Children) → cs ≡ (out-Trie t).below.items → is_trie t ≡ true → IsTakingKeys test cs cs 0 false
keys-none test t cs is trie = record { walk = leaving-none test t cs is trie; all_kept = λ none. refl }

-- the next child is a trie
pub keys-next : (test : Path → Bool) (cs now : Children) (i : ℕ) (any_bare : Bool) (c : Elem × Trie) → i < length now → c ≡ get_or now i c
    → IsTakingKeys test cs now i any_bare → is_trie c.1 ≡ true
keys-next test cs now i any_bare c lt is h =
    let walk = subst (λ l. IsLeaving test cs l (kept (take i now))) (left-at now i c lt is) h.walk in
    both_first (is_trie c.1) _ (both_first (is_trie c.1 && is_filled c.1) _ walk.tries)

-- the next child comes to what passes of it
pub keys-more : (test : Path → Bool) (cs now : Children) (i : ℕ) (any_bare bare : Bool) (c u : Elem × Trie) → i < length now → c ≡ get_or now i c
    → u.0 ≡ c.0 → is_trie u.1 ≡ true → ((p : Path) → is_one_of (paths u.1) p ≡ (is_one_of (paths c.1) p && test (element_view c.0 ∷ p)))
    → bare ≡ not (is_filled u.1) → IsTakingKeys test cs now i any_bare → IsTakingKeys test cs (set now i u) (i + 1) (any_bare || bare)
keys-more test cs now i any_bare bare c u lt is same trie made told h =
    let next = drop-set-lt (i + 1) now i u (omega arith) in
    let out = kept (take i now) in
    let new = kept (take (i + 1) (set now i u)) in
    record {
      walk = subst (λ l. IsLeaving test cs l new) (sym next)
          (leaving-more test cs (drop (i + 1) now) c out new u.1 trie made (grown-behind (is_filled u.1) now i c u refl lt same trie)
          (subst (λ l. IsLeaving test cs l out) (left-at now i c lt is) h.walk));
      all_kept = all-made now i u any_bare bare lt trie told h.all_kept;
    }

-- behind the last child, what is kept is what passes of all
pub keys-all : (test : Path → Bool) (cs now : Children) (i : ℕ) (any_bare : Bool) → length now ≤ i → IsTakingKeys test cs now i any_bare
    → IsLeft test cs (kept now) × AllKept any_bare now
keys-all test cs now i any_bare le h =
    let none = drop_all i now le in
    let all = all-taken now i none in
    let left : IsLeft test (drop i now) [] = subst (λ l. IsLeft test l []) (sym none) (left-none test) in (
      subst (λ l. IsLeft test cs (kept l)) all (subst (IsLeft test cs) (append-nil (kept (take i now))) (h.walk.rest [] left)),
      subst (AllKept any_bare) all h.all_kept,
    )

-- ---- a place over what is left below

-- a place that stays or goes, with what is left of its children, makes the trie without key fields
pub left-place : (ks : Members) (own : Trie) (x : Trie-F Trie) (cs : Children) → cs ≡ (out-Trie own).below.items
    → IsLeft (λ p. not (is_key_field (key ks ∷ p))) cs x.below.items → IsWithoutKeyFields ks own x.here (roll-Trie x)
left-place ks own x cs is h = record {
  root = one-made-root x;
  below = λ e p.
      any-made same_path same_path-reading x e p ∙ h.paths_are e p
      ∙ ap (λ b. b && not (is_key_field (key ks ∷ e ∷ p))) (ap (λ l. is_one_of (paths_below l) (e ∷ p)) is
      ∙ sym (any-level same_path same_path-reading own e p));
  trie = is_trie-made x h.risen h.tries;
}

-- the whole trie, which stands at no item
pub root-left : (own t : Trie) → IsWithoutKeyFields [] own (out-Trie own).here t → (p : Path)
    → is_one_of (paths t) p ≡ (is_one_of (paths own) p && not (is_key_field p))
root-left own t h [] = h.root ∙ sym (one-level-root own) ∙ and_true _
  where
    and_true : (b : Bool) → b ≡ (b && true)
    and_true true = refl
    and_true false = refl
root-left own t h (e ∷ p) = h.below e p ∙ ap (λ b. is_one_of (paths own) (e ∷ p) && not b) (key_field-root e p)
