-- What becomes of the children of a live place where a configuration's are put over it and some places go.
use Rattle.std.proofs.Common.{◌≡◌, ℕ, ◌+◌, List, [], ◌∷◌, ◌++◌, length, Bool, true, false, not, ◌&&◌, cond, Option, Some, None, refl, sym, ap, subst, ◌∙◌, arith, append_assoc, true≢false}
use Rattle.std.specs.Prelude.{is_some, slice_get}
use Rattle.std.proofs.lemmas.Option.{none-some, same_Some}
use Rattle.std.proofs.lemmas.List.{length-append}
use Rattle.ssa_model.specs.definitions.Body.{Content, over_content}
use Rattle.ssa_model.specs.definitions.Path.{Element, Path, same_element, under}
use Rattle.ssa_model.proofs.Basics.{both-true as both}
use Rattle.ssa_model.proofs.Fitting.{same_element-true}
use Rattle.ssa_model.proofs.Tables.{element-itself as same_element-itself}
use Rattle.ssa_path.specs.Children.{child_at, elements, IsChildAt}
use Rattle.ssa_path.specs.View.{element_view}
use Rattle.ssa_path.proofs.Orders.{both_first, both_second}
use Rattle.ssa_typed.specs.Points.{content_in}
use Rattle.ssa_typed.specs.Restricted.{part_at}
use Rattle.ssa_typed.specs.Rows.{are_apart, are_trees, content_at, is_tree, rows}
use Rattle.ssa_typed.specs.declared.node.Node.{Node}
use Rattle.ssa_typed.proofs.Looks.{get-body}
use Rattle.ssa_typed.proofs.Lookups.{child-tree, child_at-rest}
use Rattle.ssa_typed.proofs.Overlaying.{over-none}
use Rattle.ssa_typed.proofs.Reached.{part-whole}
use Rattle.ssa_typed.proofs.Restricting.{part-false, part-none, part-shift}
use Rattle.ssa_turn_body.specs.Applying.{Gone, IsApplied, behind, stays_of}
use Rattle.ssa_turn_body.specs.Found.{AreFound}
use Rattle.ssa_turn_body.specs.Marks.{Child}
use Rattle.ssa_turn_body.specs.Orders.{is_none}
use Rattle.ssa_turn_body.specs.Turnovers.{is_still}
use Rattle.ssa_turn_body.proofs.Fates.{Fate, Stays, Goes, Comes, after, before, comers, come_at, left_at, passed, stood_at}
use Rattle.ssa_turn_body.proofs.Knowing.{at-index}

-- what a tree has stays as it is where all its places stay
pub whole-part : (n : Node) → is_tree n ≡ true → (stays : Path → Bool) → ((p : Path) → is_some (content_at (rows n) p) ≡ true → stays p ≡ true)
    → (p : Path) → part_at stays p (content_at (rows n) p) ≡ content_at (rows n) p
whole-part n tree stays all p = part-whole n tree stays (λ q there. all q (sym (ap is_some (get-body n q)) ∙ there)) p (content_at (rows n) p) (get-body n p)

-- a child is what is to become of it: it stays as the configuration and the places that go ask, or goes with its place, or is the configuration's own
abbrev pub IsGood : Gone → List Child → List Child → Fate → Type 0
IsGood gone cs config (Stays c d) =
    (element_view d.0 ≡ element_view c.0) × IsApplied (behind (element_view c.0) gone) c.1 (child_at (element_view c.0) config) d.1
IsGood gone cs config (Goes c) = (child_at (element_view c.0) config ≡ None) × (gone (element_view c.0 ∷ []) ≡ true)
IsGood gone cs config (Comes d) = (child_at (element_view d.0) cs ≡ None) × (child_at (element_view d.0) config ≡ Some d.1) × (is_tree d.1 ≡ true)

abbrev pub AreGood : Gone → List Child → List Child → List Fate → Type 0
AreGood gone cs config [] = Unit {0}
AreGood gone cs config (f ∷ fs) = IsGood gone cs config f × AreGood gone cs config fs

-- one fate more
pub good-more : (gone : Gone) (cs config : List Child) (fs : List Fate) (f : Fate) → AreGood gone cs config fs → IsGood gone cs config f
    → AreGood gone cs config (fs ++ f ∷ [])
good-more gone cs config [] f h g = (g, tt)
good-more gone cs config (x ∷ fs) f h g = (h.0, good-more gone cs config fs f h.1 g)

middle-there : (pre : List Child) (c : Child) (rest : List Child) → slice_get (pre ++ c ∷ rest) (length pre) ≡ Some c
middle-there [] c rest = refl
middle-there (x ∷ pre) c rest = middle-there pre c rest

longer : (pre : List Child) (c : Child) (k : ℕ) → k ≡ length pre → k + 1 ≡ length (pre ++ c ∷ [])
longer pre c k e = let long = length-append pre (c ∷ []) in omega arith

rest-none : (s : Bool) (c : Node) (o : Option Node) → cond s (Some c) o ≡ None → o ≡ None
rest-none true c o k = absurd (none-some c (sym k))
rest-none false c o k = k

module _ (gone : Gone) (cs config : List Child) where
  -- the places at which what stays stood are those of the elements, and what comes stood nowhere
  pub fates-found : (pre : List Child) (fs : List Fate) (k : ℕ) → k ≡ length pre → cs ≡ pre ++ before fs → AreGood gone cs config fs
      → AreFound cs (after fs) (stood_at k fs)
  fates-found pre [] k e is h = tt
  fates-found pre (Stays c d ∷ fs) k e is h =
      let at : IsChildAt (element_view c.0) cs k =
      subst (λ j. IsChildAt (element_view c.0) cs j) (sym e)
      (subst (λ l. IsChildAt (element_view c.0) l (length pre)) (sym is)
      (at-index (pre ++ c ∷ before fs) (length pre) c (middle-there pre c (before fs)))) in (
        subst (λ x. IsChildAt x cs k) (sym h.0.0) at,
        fates-found (pre ++ c ∷ []) fs (k + 1) (longer pre c k e) (is ∙ sym (append_assoc pre (c ∷ []) (before fs))) h.1,
      )
  fates-found pre (Goes c ∷ fs) k e is h =
      fates-found (pre ++ c ∷ []) fs (k + 1) (longer pre c k e) (is ∙ sym (append_assoc pre (c ∷ []) (before fs))) h.1
  fates-found pre (Comes d ∷ fs) k e is h = (h.0.0, fates-found pre fs k e is h.1)

  -- what is neither among the children before nor among those that come is not among the children afterwards
  pub none-after : (e : Element) (fs : List Fate) → AreGood gone cs config fs → child_at e (before fs) ≡ None → child_at e (comers fs) ≡ None
      → child_at e (after fs) ≡ None
  none-after e [] h b m = refl
  none-after e (Stays c d ∷ fs) h b m =
      ap (λ f. cond (same_element e f) (Some d.1) (child_at e (after fs))) h.0.0
      ∙ elim (same_element e (element_view c.0)) as (λ s. cond s (Some c.1) (child_at e (before fs)) ≡ None
      → cond s (Some d.1) (child_at e (after fs)) ≡ None) [
        | true ↦ λ k. absurd (none-some c.1 (sym k))
        | false ↦ λ k. none-after e fs h.1 k m
      ] b
  none-after e (Goes c ∷ fs) h b m = none-after e fs h.1 (rest-none (same_element e (element_view c.0)) c.1 (child_at e (before fs)) b) m
  none-after e (Comes d ∷ fs) h b m =
      elim (same_element e (element_view d.0)) as (λ s. cond s (Some d.1) (child_at e (comers fs)) ≡ None
      → cond s (Some d.1) (child_at e (after fs)) ≡ None) [
        | true ↦ λ k. absurd (none-some d.1 (sym k))
        | false ↦ λ k. none-after e fs h.1 b k
      ] m

  -- a live child is not among those that come
  pub none-come : (e : Element) (c : Node) (fs : List Fate) → AreGood gone cs config fs → child_at e cs ≡ Some c → child_at e (comers fs) ≡ None
  none-come e c [] h there = refl
  none-come e c (Stays x d ∷ fs) h there = none-come e c fs h.1 there
  none-come e c (Goes x ∷ fs) h there = none-come e c fs h.1 there
  none-come e c (Comes d ∷ fs) h there =
      elim (same_element e (element_view d.0)) as (λ s. same_element e (element_view d.0) ≡ s → cond s (Some d.1) (child_at e (comers fs)) ≡ None) [
        | true ↦ λ s. absurd (none-some c (sym (ap (λ f. child_at f cs) (same_element-true e (element_view d.0) s) ∙ h.0.0) ∙ there))
        | false ↦ λ s. none-come e c fs h.1 there
      ] refl

  -- the children afterwards are trees
  pub after-trees : (fs : List Fate) → AreGood gone cs config fs → are_trees (after fs) ≡ true
  after-trees [] h = refl
  after-trees (Stays c d ∷ fs) h = both _ _ h.0.1.tree (after-trees fs h.1)
  after-trees (Goes c ∷ fs) h = after-trees fs h.1
  after-trees (Comes d ∷ fs) h = both _ _ h.0.2 (after-trees fs h.1)

  -- where nothing goes and nothing comes, the children afterwards have the elements of those before
  pub still-names : (fs : List Fate) → AreGood gone cs config fs → is_still (passed fs) ≡ true → elements (before fs) ≡ elements (after fs)
  still-names fs h still = by 0 0 fs h (both_first (is_none (left_at 0 fs)) _ still) (both_second (is_none (left_at 0 fs)) _ still)
    where
      by : (j k : ℕ) (fs : List Fate) → AreGood gone cs config fs → is_none (left_at j fs) ≡ true → is_none (come_at k fs) ≡ true
          → elements (before fs) ≡ elements (after fs)
      by j k [] h l m = refl
      by j k (Stays c d ∷ fs) h l m = λ i. sym h.0.0 i ∷ by (j + 1) (k + 1) fs h.1 l m i
      by j k (Goes c ∷ fs) h l m = absurd (true≢false (sym l))
      by j k (Comes d ∷ fs) h l m = absurd (true≢false (sym m))

  -- ---- the contents

  -- what is to be at a path below an element, where the live child of the element is this one
  abbrev wanted : Element → Option Node → Path → Option Content
  wanted e own p = part_at (stays_of gone) (e ∷ p) (over_content (content_in own p) (content_in (child_at e config) p))

  stays-wanted : (c d : Child) (p : Path) → IsGood gone cs config (Stays c d) → content_at (rows d.1) p ≡ wanted (element_view c.0) (Some c.1) p
  stays-wanted c d p g =
      g.1.content p
      ∙ sym (part-shift (stays_of gone) (stays_of (behind (element_view c.0) gone)) (element_view c.0) p _ (λ q. refl))

  module _ (whole : (p q : Path) → gone p ≡ true → under p q ≡ true → (e : Element) (r : Path) → q ≡ e ∷ r → is_some (content_in (child_at e cs) r) ≡ true
      → gone q ≡ true) where
    goes-wanted : (c : Child) (p : Path) → child_at (element_view c.0) cs ≡ Some c.1 → IsGood gone cs config (Goes c)
        → None ≡ wanted (element_view c.0) (Some c.1) p
    goes-wanted c p there g =
        let e = element_view c.0 in
        sym (ap (λ o. part_at (stays_of gone) (e ∷ p) (over_content (content_at (rows c.1) p) (content_in o p))) g.0
        ∙ by (content_at (rows c.1) p) refl)
      where
        by : (o : Option Content) → content_at (rows c.1) p ≡ o → part_at (stays_of gone) (element_view c.0 ∷ p) o ≡ None
        by None is = part-none (stays_of gone) (element_view c.0 ∷ p)
        by (Some x) is =
            let e = element_view c.0 in
            part-false (stays_of gone) (e ∷ p) (Some x)
            (ap not (whole (e ∷ []) (e ∷ p) g.1 (ap (λ b. b && true) (same_element-itself e)) e p refl
            (ap (λ o. is_some (content_in o p)) there ∙ ap is_some is)))

    live-wanted : (e : Element) (c : Node) (p : Path) (fs : List Fate) → are_apart (elements (before fs)) ≡ true → AreGood gone cs config fs
        → child_at e (before fs) ≡ Some c → child_at e cs ≡ Some c → content_in (child_at e (after fs)) p ≡ wanted e (Some c) p
    live-wanted e c p [] apart h b there = absurd (none-some c b)
    live-wanted e c p (Stays x d ∷ fs) apart h b there =
        ap (λ f. content_in (cond (same_element e f) (Some d.1) (child_at e (after fs))) p) h.0.0
        ∙ elim (same_element e (element_view x.0)) as (λ s. same_element e (element_view x.0) ≡ s → cond s (Some x.1) (child_at e (before fs)) ≡ Some c
        → content_in (cond s (Some d.1) (child_at e (after fs))) p ≡ wanted e (Some c) p) [
          | true ↦ λ s k.
              stays-wanted x d p h.0
              ∙ (λ i. wanted (sym (same_element-true e (element_view x.0) s) i) (Some (same_Some x.1 c k i)) p)
          | false ↦ λ s k. live-wanted e c p fs (both_second (not _) _ apart) h.1 k there
        ] refl b
    live-wanted e c p (Goes x ∷ fs) apart h b there =
        elim (same_element e (element_view x.0)) as (λ s. same_element e (element_view x.0) ≡ s → cond s (Some x.1) (child_at e (before fs)) ≡ Some c
        → content_in (child_at e (after fs)) p ≡ wanted e (Some c) p) [
          | true ↦ λ s k.
              let is = same_element-true e (element_view x.0) s in
              let same : x.1 ≡ c = same_Some x.1 c k in
              ap (λ o. content_in o p) (none-after e fs h.1 (child_at-rest e x (before fs) s apart) (none-come e c fs h.1 there))
              ∙ goes-wanted x p (ap (λ f. child_at f cs) (sym is) ∙ there ∙ ap (λ n. Some n) (sym same)) h.0
              ∙ (λ i. wanted (sym is i) (Some (same i)) p)
          | false ↦ λ s k. live-wanted e c p fs (both_second (not _) _ apart) h.1 k there
        ] refl b
    live-wanted e c p (Comes d ∷ fs) apart h b there =
        elim (same_element e (element_view d.0)) as (λ s. same_element e (element_view d.0) ≡ s
        → content_in (cond s (Some d.1) (child_at e (after fs))) p ≡ wanted e (Some c) p) [
          | true ↦ λ s. absurd (none-some c (sym (ap (λ f. child_at f cs) (same_element-true e (element_view d.0) s) ∙ h.0.0) ∙ there))
          | false ↦ λ s. live-wanted e c p fs apart h.1 b there
        ] refl

    come-found : (e : Element) (fs : List Fate) → AreGood gone cs config fs → child_at e (before fs) ≡ None → child_at e (after fs) ≡ child_at e (comers fs)
    come-found e [] h b = refl
    come-found e (Stays c d ∷ fs) h b =
        ap (λ f. cond (same_element e f) (Some d.1) (child_at e (after fs))) h.0.0
        ∙ elim (same_element e (element_view c.0)) as (λ s. cond s (Some c.1) (child_at e (before fs)) ≡ None
        → cond s (Some d.1) (child_at e (after fs)) ≡ child_at e (comers fs)) [
          | true ↦ λ k. absurd (none-some c.1 (sym k))
          | false ↦ λ k. come-found e fs h.1 k
        ] b
    come-found e (Goes c ∷ fs) h b = come-found e fs h.1 (rest-none (same_element e (element_view c.0)) c.1 (child_at e (before fs)) b)
    come-found e (Comes d ∷ fs) h b = ap (cond (same_element e (element_view d.0)) (Some d.1)) (come-found e fs h.1 b)

    module _ (trees : are_trees config ≡ true) (kept : (e : Element) (p : Path) → is_some (content_in (child_at e config) p) ≡ true
        → gone (e ∷ p) ≡ false) where
      alone-wanted : (e : Element) (o : Option Node) (p : Path) → child_at e config ≡ o → content_in o p ≡ wanted e None p
      alone-wanted e None p is = sym (ap (λ o. part_at (stays_of gone) (e ∷ p) (over_content None (content_in o p))) is ∙ part-none (stays_of gone) (e ∷ p))
      alone-wanted e (Some d) p is =
          let tree = child-tree e config d trees is in
          sym (ap (λ o. part_at (stays_of gone) (e ∷ p) (over_content None (content_in o p))) is
          ∙ ap (part_at (stays_of gone) (e ∷ p)) (over-none (content_at (rows d) p))
          ∙ part-shift (stays_of gone) (stays_of (behind e gone)) e p (content_at (rows d) p) (λ q. refl)
          ∙ whole-part d tree (stays_of (behind e gone)) (λ q there. ap not (kept e q (ap (λ o. is_some (content_in o q)) is ∙ there))) p)

      -- where each child has its fate, the children afterwards have the contents that are wanted
      pub fates-contents : (fs : List Fate) → before fs ≡ cs → are_apart (elements cs) ≡ true → AreGood gone cs config fs
          → ((e : Element) → child_at e cs ≡ None → child_at e (comers fs) ≡ child_at e config) → (e : Element) (p : Path)
          → content_in (child_at e (after fs)) p
          ≡ part_at (stays_of gone) (e ∷ p) (over_content (content_in (child_at e cs) p) (content_in (child_at e config) p))
      fates-contents fs is apart h complete e p = by (child_at e cs) refl
        where
          by : (o : Option Node) → child_at e cs ≡ o → content_in (child_at e (after fs)) p ≡ wanted e (child_at e cs) p
          by None none =
              ap (λ o. content_in o p) (come-found e fs h (ap (child_at e) is ∙ none) ∙ complete e none)
              ∙ alone-wanted e (child_at e config) p refl ∙ ap (λ o. wanted e o p) (sym none)
          by (Some c) there =
              live-wanted e c p fs (ap (λ l. are_apart (elements l)) is ∙ apart) h (ap (child_at e) is ∙ there) there
              ∙ ap (λ o. wanted e o p) (sym there)
