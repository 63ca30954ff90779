-- The walk over the fields or entries of a live place and of the configuration's, which rise, side by side.
use Rattle.std.proofs.Common.{◌≡◌, ℕ, ◌+◌, ◌≤◌, List, [], ◌∷◌, ◌++◌, length, Bool, true, false, not, ◌&&◌, cond, Some, None, Less, Equal, Greater, refl, sym, ap, subst, ◌∙◌, append_assoc, append-nil, arith, true≢false}
use Rattle.std.specs.Prelude.{filter}
use Rattle.std.proofs.lemmas.List.{length-append}
use Rattle.std.proofs.lemmas.Option.{none-some}
use Rattle.std.proofs.lemmas.List.Elements.{filter-append}
use Rattle.ssa_model.specs.definitions.Body.{Content, leaf, atom, record_branch, dict_branch, list_branch}
use Rattle.ssa_model.specs.definitions.Kind.{is_among}
use Rattle.ssa_model.specs.definitions.Path.{Element, Path, is_item_element, same_element}
use Rattle.ssa_model.proofs.Basics.{both-true as both}
use Rattle.ssa_model.proofs.Tables.{element-itself as same_element-itself}
use Rattle.ssa_path.specs.Children.{child_at, elements, heads_order, is_below, rises}
use Rattle.ssa_path.specs.View.{element_view}
use Rattle.ssa_path.proofs.Combining.{tied-heads}
use Rattle.ssa_path.proofs.Orders.{both_first, both_second}
use Rattle.ssa_typed.specs.MergedOrder.{is_new}
use Rattle.ssa_typed.specs.Over.{AreAlikeBelow, AreAlikeTrees}
use Rattle.ssa_typed.specs.Rows.{are_fields, are_trees, below, is_tree, own_content}
use Rattle.ssa_typed.specs.declared.node.Node.{Node}
use Rattle.ssa_typed.proofs.Lookups.{child-tree, tree-child}
use Rattle.ssa_typed.proofs.Making.{IsFront, front-both, front-other, front-own}
use Rattle.ssa_typed.proofs.Overlaying.{new-child, new-elements}
use Rattle.ssa_typed.proofs.Restricting.{filter-fields}
use Rattle.ssa_turn_body.specs.Applying.{Gone, IsApplying, IsApplyingBelow, IsMet, MayPart, MayPartBelow, behind, is_named}
use Rattle.ssa_turn_body.specs.Marks.{Child, may_stand}
use Rattle.ssa_turn_body.specs.Turnovers.{MayTurnOver, Passing, is_still, none_passes, with_come}
use Rattle.ssa_turn_body.specs.declared.steps.Step.{Step}
use Rattle.ssa_turn_body.proofs.BodyMarks.{own-stands}
use Rattle.ssa_turn_body.proofs.Coming.{absent-new, there-old}
use Rattle.ssa_turn_body.proofs.Fates.{Fate, Stays, Goes, Comes, after, after-append, before, before-append, comers, comers-append}
use Rattle.ssa_turn_body.proofs.GoodFates.{AreGood}
use Rattle.ssa_turn_body.proofs.Leaving.{may-child}
use Rattle.ssa_turn_body.proofs.Lower.{AreBefore, before-more, before-none, before-none-others, before-others, before-own, before-rises, before-rises-others, before-start}
use Rattle.ssa_turn_body.proofs.Passing.{IsPassing, next-there, one-longer, passing-comes, passing-goes, passing-place, passing-start, passing-stays}

-- what was met of both lists, and what is left of them
pub record IsBeside (p : Path) (gone : Gone) (live : Node) (config : List Child) (old : List Step) (i : ℕ) (own left : List Child) (count : ℕ)
    (t : Passing) (steps : List Step) : Type 0 where
  -- what becomes of the live children that were met
  pub fates : List Fate
  -- the configuration's children that were met
  pub met : List Child
  -- what was done
  pub passing : IsPassing p gone live config old fates count t steps
  -- the live children met and left are all
  pub whole : below live ≡ before fates ++ own
  -- so many live ones were met
  pub place : i ≡ length (before fates)
  -- so are the configuration's
  pub others : config ≡ met ++ left
  -- of those met the new ones come
  pub new : comers fates ≡ filter (is_new (below live)) met
  -- what is left rises
  pub own_rise : rises (elements own) ≡ true
  pub left_rise : rises (elements left) ≡ true
  -- so does what stands there so far
  pub rise : rises (elements (after fates)) ≡ true
  -- all that was met or made stands before what is left
  pub live_before : AreBefore (before fates) own left
  pub config_before : AreBefore met own left
  pub after_before : AreBefore (after fates) own left
  -- no more stand there than were met
  pub room : length (after fates) + length left ≤ length (before fates) + length config

-- at first all is left
pub beside-start : (p : Path) (gone : Gone) (live : Node) (config : List Child) (old : List Step) (t : Passing) → t ≡ none_passes
    → rises (elements (below live)) ≡ true → rises (elements config) ≡ true → IsBeside p gone live config old 0 (below live) config 0 t old
beside-start p gone live config old t none own_rise left_rise = record {
  fates = [];
  met = [];
  passing = passing-start p gone live config old t none;
  whole = refl;
  place = refl;
  others = refl;
  new = refl;
  own_rise = own_rise;
  left_rise = left_rise;
  rise = refl;
  live_before = before-start (below live) config;
  config_before = before-start (below live) config;
  after_before = before-start (below live) config;
  room = omega arith;
}

none-append : (e : Element) (xs ys : List Child) → child_at e xs ≡ None → child_at e ys ≡ None → child_at e (xs ++ ys) ≡ None
none-append e [] ys h k = k
none-append e (x ∷ xs) ys h k =
    elim (same_element e (element_view x.0)) as (λ b. cond b (Some x.1) (child_at e xs) ≡ None → cond b (Some x.1) (child_at e (xs ++ ys)) ≡ None) [
      | true ↦ λ g. g
      | false ↦ λ g. none-append e xs ys g k
    ] h

found-append : (e : Element) (c : Node) (xs ys : List Child) → child_at e xs ≡ None → child_at e ys ≡ Some c → child_at e (xs ++ ys) ≡ Some c
found-append e c [] ys h k = k
found-append e c (x ∷ xs) ys h k =
    elim (same_element e (element_view x.0)) as (λ b. cond b (Some x.1) (child_at e xs) ≡ None → cond b (Some x.1) (child_at e (xs ++ ys)) ≡ Some c) [
      | true ↦ λ g. absurd (none-some x.1 (sym g))
      | false ↦ λ g. found-append e c xs ys g k
    ] h

none-filter : (e : Element) (q : Child → Bool) (xs : List Child) → child_at e xs ≡ None → child_at e (filter q xs) ≡ None
none-filter e q [] h = refl
none-filter e q (x ∷ xs) h =
    elim (same_element e (element_view x.0)) as (λ b. same_element e (element_view x.0) ≡ b → cond b (Some x.1) (child_at e xs) ≡ None
    → child_at e (cond (q x) (x ∷ filter q xs) (filter q xs)) ≡ None) [
      | true ↦ λ s g. absurd (none-some x.1 (sym g))
      | false ↦ λ s g.
          elim (q x) as (λ b. child_at e (cond b (x ∷ filter q xs) (filter q xs)) ≡ None) [
            | true ↦ ap (λ b. cond b (Some x.1) (child_at e (filter q xs))) s ∙ none-filter e q xs g
            | false ↦ none-filter e q xs g
          ]
    ] refl h

module _ (p : Path) (gone : Gone) (live : Node) (config : List Child) (old : List Step) (i count : ℕ) (t : Passing) (steps : List Step)
    (tree : is_tree live ≡ true) (may : MayPartBelow gone live config) where
  abbrev cs : List Child
  cs = below live

  -- ---- a live child that the configuration lacks

  module _ (c : Child) (own left : List Child) (h : IsBeside p gone live config old i (c ∷ own) left count t steps)
      (order : heads_order (c ∷ own) left ≡ Some Less) where
    abbrev e : Element
    e = element_view c.0

    front : IsFront (element_view c.0) (Some c.1) None (c ∷ own) left own left
    front = front-own c own left order h.own_rise h.left_rise

    -- it is that of its element
    pub own-there : child_at (element_view c.0) (below live) ≡ Some c.1
    own-there = next-there p gone live config old h.fates count t steps h.passing tree c own h.whole

    -- the configuration has none of its element
    pub own-alone : child_at (element_view c.0) config ≡ None
    own-alone =
        ap (child_at e) h.others
        ∙ none-append e h.met left (before-none h.met c own left h.config_before)
        (front.other e ∙ ap (λ b. cond b None (child_at e left)) (same_element-itself e))

    -- it stays
    pub beside-stays : (u : Passing) (steps2 : List Step) → IsMet true i p gone c None t u steps steps2
        → IsBeside p gone live config old (i + 1) own left (count + 1) u steps2
    beside-stays u steps2 is =
        let one = passing-stays p gone live config old h.fates count t steps h.passing tree c own h.whole steps2
        (subst (λ o. IsApplying (p ++ e ∷ []) (behind e gone) c.1 o steps steps2) (sym own-alone) is.1) in
        let d : Child = (c.0, one.0) in
        let fs = h.fates ++ Stays c d ∷ [] in
        let live_is = before-append h.fates (Stays c d ∷ []) in
        let after_is = after-append h.fates (Stays c d ∷ []) in
        let long = ap length live_is ∙ length-append (before h.fates) (c ∷ []) in
        let long_after = ap length after_is ∙ length-append (after h.fates) (d ∷ []) in
        let room = h.room in
        record {
          fates = fs;
          met = h.met;
          passing = subst (λ v. IsPassing p gone live config old fs (count + 1) v steps2) (sym is.0) one.1;
          whole = h.whole ∙ sym (append_assoc (before h.fates) (c ∷ []) own) ∙ ap (λ l. l ++ own) (sym live_is);
          place = one-longer (before h.fates) _ c i h.place live_is;
          others = h.others;
          new = comers-append h.fates (Stays c d ∷ []) ∙ append-nil (comers h.fates) ∙ h.new;
          own_rise = both_second (is_below e (elements own)) _ h.own_rise;
          left_rise = h.left_rise;
          rise = ap (λ l. rises (elements l)) after_is ∙ before-rises (after h.fates) d c own left refl h.rise h.after_before;
          live_before = subst (λ l. AreBefore l own left) (sym live_is)
              (before-more (before h.fates) c own left (before-own (before h.fates) c own left h.live_before) front.own_above front.other_above);
          config_before = before-own h.met c own left h.config_before;
          after_before = subst (λ l. AreBefore l own left) (sym after_is)
              (before-more (after h.fates) d own left (before-own (after h.fates) c own left h.after_before) front.own_above front.other_above);
          room = omega arith;
        }

    -- it goes
    pub beside-goes : (u : Passing) (steps2 : List Step) → IsMet false i p gone c None t u steps steps2
        → IsBeside p gone live config old (i + 1) own left count u steps2
    beside-goes u steps2 is =
        let one = passing-goes p gone live config old h.fates count t steps h.passing tree c own h.whole i u h.place is.1 own-alone is.2 in
        let fs = h.fates ++ Goes c ∷ [] in
        let live_is = before-append h.fates (Goes c ∷ []) in
        let after_is = after-append h.fates (Goes c ∷ []) ∙ append-nil (after h.fates) in
        let long = ap length live_is ∙ length-append (before h.fates) (c ∷ []) in
        let long_after = ap length after_is in
        let room = h.room in
        record {
          fates = fs;
          met = h.met;
          passing = subst (λ xs. IsPassing p gone live config old fs count u xs) (sym is.3) one;
          whole = h.whole ∙ sym (append_assoc (before h.fates) (c ∷ []) own) ∙ ap (λ l. l ++ own) (sym live_is);
          place = one-longer (before h.fates) _ c i h.place live_is;
          others = h.others;
          new = comers-append h.fates (Goes c ∷ []) ∙ append-nil (comers h.fates) ∙ h.new;
          own_rise = both_second (is_below e (elements own)) _ h.own_rise;
          left_rise = h.left_rise;
          rise = ap (λ l. rises (elements l)) after_is ∙ h.rise;
          live_before = subst (λ l. AreBefore l own left) (sym live_is)
              (before-more (before h.fates) c own left (before-own (before h.fates) c own left h.live_before) front.own_above front.other_above);
          config_before = before-own h.met c own left h.config_before;
          after_before = subst (λ l. AreBefore l own left) (sym after_is) (before-own (after h.fates) c own left h.after_before);
          room = omega arith;
        }

  -- ---- a child that the configuration alone has

  -- it comes
  pub beside-comes : (d : Child) (own left : List Child) (u : Passing) → IsBeside p gone live config old i own (d ∷ left) count t steps
      → heads_order own (d ∷ left) ≡ Some Greater → are_trees config ≡ true → u ≡ with_come count d t
      → IsBeside p gone live config old i own left (count + 1) u steps
  beside-comes d own left u h order trees is =
      let e = element_view d.0 in
      let front = front-other own d left order h.own_rise h.left_rise in
      let unmet = before-none-others (before h.fates) own d left h.live_before in
      let absent : child_at e cs ≡ None = ap (child_at e) h.whole
      ∙ none-append e (before h.fates) own unmet (front.own e ∙ ap (λ b. cond b None (child_at e own)) (same_element-itself e)) in
      let first = before-none-others h.met own d left h.config_before in
      let there : child_at e config ≡ Some d.1 = ap (child_at e) h.others
      ∙ found-append e d.1 h.met (d ∷ left) first (ap (λ b. cond b (Some d.1) (child_at e left)) (same_element-itself e)) in
      let one = passing-comes p gone live config old h.fates count t steps h.passing d u is absent unmet
      (ap (child_at e) h.new ∙ none-filter e (is_new cs) h.met first) there (child-tree e config d.1 trees there) in
      let fs = h.fates ++ Comes d ∷ [] in
      let live_is = before-append h.fates (Comes d ∷ []) ∙ append-nil (before h.fates) in
      let after_is = after-append h.fates (Comes d ∷ []) in
      let long = ap length live_is in
      let long_after = ap length after_is ∙ length-append (after h.fates) (d ∷ []) in
      let room = h.room in
      record {
        fates = fs;
        met = h.met ++ d ∷ [];
        passing = one;
        whole = h.whole ∙ ap (λ l. l ++ own) (sym live_is);
        place = h.place ∙ ap length (sym live_is);
        others = h.others ∙ sym (append_assoc h.met (d ∷ []) left);
        new =
            comers-append h.fates (Comes d ∷ []) ∙ ap (λ l. l ++ d ∷ []) h.new
            ∙ ap (λ l. filter (is_new cs) h.met ++ l) (sym (ap (λ b. cond b (d ∷ []) []) (absent-new cs d absent)))
            ∙ sym (filter-append (is_new cs) h.met (d ∷ []));
        own_rise = h.own_rise;
        left_rise = both_second (is_below e (elements left)) _ h.left_rise;
        rise = ap (λ l. rises (elements l)) after_is ∙ before-rises-others (after h.fates) own d left h.rise h.after_before;
        live_before = subst (λ l. AreBefore l own left) (sym live_is) (before-others (before h.fates) own d left h.live_before);
        config_before = before-more h.met d own left (before-others h.met own d left h.config_before) front.own_above front.other_above;
        after_before = subst (λ l. AreBefore l own left) (sym after_is)
            (before-more (after h.fates) d own left (before-others (after h.fates) own d left h.after_before) front.own_above front.other_above);
        room = omega arith;
      }

  -- ---- a child that both have

  module _ (c d : Child) (own left : List Child) (h : IsBeside p gone live config old i (c ∷ own) (d ∷ left) count t steps)
      (order : heads_order (c ∷ own) (d ∷ left) ≡ Some Equal) where
    front-two : IsFront (element_view c.0) (Some c.1) (Some d.1) (c ∷ own) (d ∷ left) own left
    front-two = front-both c d own left order h.own_rise h.left_rise

    tied : element_view c.0 ≡ element_view d.0
    tied = tied-heads c d own left order

    -- the live child is that of its element
    pub both-there : child_at (element_view c.0) (below live) ≡ Some c.1
    both-there = next-there p gone live config old h.fates count t steps h.passing tree c own h.whole

    -- the configuration's is that of the same element
    pub both-other : child_at (element_view c.0) config ≡ Some d.1
    both-other =
        ap (child_at (element_view c.0)) h.others
        ∙ found-append (element_view c.0) d.1 h.met (d ∷ left) (before-none h.met c own (d ∷ left) h.config_before)
        (front-two.other (element_view c.0) ∙ ap (λ b. cond b (Some d.1) (child_at (element_view c.0) left)) (same_element-itself (element_view c.0)))

    -- it stays, with the configuration's over it
    pub beside-both : (steps2 : List Step) → IsApplying (p ++ element_view c.0 ∷ []) (behind (element_view c.0) gone) c.1 (Some d.1) steps steps2
        → IsBeside p gone live config old (i + 1) own left (count + 1) t steps2
    beside-both steps2 is =
        let e = element_view c.0 in
        let one = passing-stays p gone live config old h.fates count t steps h.passing tree c own h.whole steps2
        (subst (λ o. IsApplying (p ++ e ∷ []) (behind e gone) c.1 o steps steps2) (sym both-other) is) in
        let x : Child = (c.0, one.0) in
        let fs = h.fates ++ Stays c x ∷ [] in
        let live_is = before-append h.fates (Stays c x ∷ []) in
        let after_is = after-append h.fates (Stays c x ∷ []) in
        let long = ap length live_is ∙ length-append (before h.fates) (c ∷ []) in
        let long_after = ap length after_is ∙ length-append (after h.fates) (x ∷ []) in
        let room = h.room in
        record {
          fates = fs;
          met = h.met ++ d ∷ [];
          passing = one.1;
          whole = h.whole ∙ sym (append_assoc (before h.fates) (c ∷ []) own) ∙ ap (λ l. l ++ own) (sym live_is);
          place = one-longer (before h.fates) _ c i h.place live_is;
          others = h.others ∙ sym (append_assoc h.met (d ∷ []) left);
          new =
              comers-append h.fates (Stays c x ∷ []) ∙ append-nil (comers h.fates) ∙ h.new ∙ sym (append-nil (filter (is_new cs) h.met))
              ∙ ap (λ l. filter (is_new cs) h.met ++ l)
              (sym (ap (λ b. cond b (d ∷ []) []) (there-old cs d c.1 (ap (λ f. child_at f cs) (sym tied) ∙ both-there))))
              ∙ sym (filter-append (is_new cs) h.met (d ∷ []));
          own_rise = both_second (is_below e (elements own)) _ h.own_rise;
          left_rise = both_second (is_below (element_view d.0) (elements left)) _ h.left_rise;
          rise = ap (λ l. rises (elements l)) after_is ∙ before-rises (after h.fates) x c own (d ∷ left) refl h.rise h.after_before;
          live_before = subst (λ l. AreBefore l own left) (sym live_is)
              (before-more (before h.fates) c own left (both-rest (before h.fates) h.live_before) front-two.own_above front-two.other_above);
          config_before = before-more h.met d own left (both-rest h.met h.config_before) (ap (λ f. is_below f (elements own)) (sym tied)
              ∙ front-two.own_above)
              (ap (λ f. is_below f (elements left)) (sym tied) ∙ front-two.other_above);
          after_before = subst (λ l. AreBefore l own left) (sym after_is)
              (before-more (after h.fates) x own left (both-rest (after h.fates) h.after_before) front-two.own_above front-two.other_above);
          room = omega arith;
        }
      where
        both-rest : (xs : List Child) → AreBefore xs (c ∷ own) (d ∷ left) → AreBefore xs own left
        both-rest xs b = before-others xs own d left (before-own xs c own (d ∷ left) b)

-- ---- when nothing is left

-- fields or entries may stand at a place where they rise
pub named-stand : (o : Content) (es : List Element) → is_named o ≡ true → may_stand o es ≡ (rises es && are_fields es)
named-stand (leaf s) es h = absurd (true≢false (sym h))
named-stand (atom v) es h = absurd (true≢false (sym h))
named-stand record_branch es h = refl
named-stand dict_branch es h = refl
named-stand (list_branch os) es h = absurd (true≢false (sym h))

-- children of fields stay or come
fields-after : (gone : Gone) (live config : List Child) (fs : List Fate) → AreGood gone live config fs → are_fields (elements (before fs)) ≡ true
    → are_fields (elements (comers fs)) ≡ true → are_fields (elements (after fs)) ≡ true
fields-after gone live config [] g h k = refl
fields-after gone live config (Stays c d ∷ fs) g h k =
    ap (λ e. not (is_item_element e) && are_fields (elements (after fs))) g.0.0
    ∙ both _ _ (both_first (not (is_item_element (element_view c.0))) _ h)
    (fields-after gone live config fs g.1 (both_second (not (is_item_element (element_view c.0))) _ h) k)
fields-after gone live config (Goes c ∷ fs) g h k = fields-after gone live config fs g.1 (both_second (not (is_item_element (element_view c.0))) _ h) k
fields-after gone live config (Comes d ∷ fs) g h k =
    both _ _ (both_first (not (is_item_element (element_view d.0))) _ k)
    (fields-after gone live config fs g.1 h (both_second (not (is_item_element (element_view d.0))) _ k))

-- a place of fields or entries with the configuration's over them, without those that go
pub beside-all : (p : Path) (gone : Gone) (live : Node) (config : List Child) (old : List Step) (i : ℕ) (own left : List Child) (count : ℕ)
    (t : Passing) (steps new : List Step) → is_tree live ≡ true → is_named (own_content live) ≡ true → are_trees config ≡ true
    → may_stand (own_content live) (elements config) ≡ true → MayPartBelow gone live config → own ≡ [] → left ≡ []
    → IsBeside p gone live config old i own left count t steps → MayTurnOver (is_still t) p t count steps new → IsApplyingBelow p gone live config old new
beside-all p gone live config old i own left count t steps new tree named trees stand may no_own no_left h turned =
    let cs = below live in
    let o = own_content live in
    let whole : before h.fates ≡ cs = sym (append-nil (before h.fates)) ∙ ap (λ l. before h.fates ++ l) (sym no_own) ∙ sym h.whole in
    let comers_are : comers h.fates ≡ filter (is_new cs) config =
    h.new ∙ ap (filter (is_new cs)) (sym (append-nil h.met) ∙ ap (λ l. h.met ++ l) (sym no_left) ∙ sym h.others) in
    let own_fields = both_second (rises (elements cs)) _ (sym (named-stand o (elements cs) named) ∙ own-stands live (elements config) tree stand) in
    let config_fields = both_second (rises (elements config)) _ (sym (named-stand o (elements config) named) ∙ stand) in
    let come_fields = ap (λ l. are_fields (elements l)) comers_are ∙ ap are_fields (new-elements cs config)
    ∙ filter-fields (λ f. not (is_among f (elements cs))) (elements config) config_fields in
    let fields = fields-after gone cs config h.fates h.passing.good (ap (λ l. are_fields (elements l)) whole ∙ own_fields) come_fields in
    passing-place p gone live config old h.fates count t steps new tree whole h.passing
    (named-stand o (elements (after h.fates)) named ∙ both _ _ h.rise fields) turned may trees
    (λ e absent. ap (child_at e) comers_are ∙ new-child cs config e absent)
    (λ os is. absurd (true≢false (sym named ∙ ap is_named is)))

-- no more stand there than there are of both
pub beside-few : (p : Path) (gone : Gone) (live : Node) (config : List Child) (old : List Step) (i : ℕ) (own left : List Child) (count : ℕ) (t : Passing)
    (steps : List Step) → IsBeside p gone live config old i own left count t steps → count + length left ≤ i + length config
beside-few p gone live config old i own left count t steps h =
    let place = h.place in
    let counted = h.passing.counted in
    let room = h.room in
    omega arith

-- no more live children were met than there are
pub beside-within : (p : Path) (gone : Gone) (live : Node) (config : List Child) (old : List Step) (i : ℕ) (own left : List Child) (count : ℕ) (t : Passing)
    (steps : List Step) → IsBeside p gone live config old i own left count t steps → i ≤ length (below live)
beside-within p gone live config old i own left count t steps h =
    let place = h.place in
    let long = ap length h.whole ∙ length-append (before h.fates) own in
    omega arith

module _ (p : Path) (gone : Gone) (live : Node) (config : List Child) (old : List Step) (i count : ℕ) (t : Passing) (steps : List Step)
    (tree : is_tree live ≡ true) (may : MayPartBelow gone live config) where
  -- what goes below the next live child, which the configuration lacks
  pub own-may : (c : Child) (own left : List Child) → IsBeside p gone live config old i (c ∷ own) left count t steps → heads_order (c ∷ own) left ≡ Some Less
      → MayPart (behind (element_view c.0) gone) c.1 None
  own-may c own left h order =
      subst (λ o. MayPart (behind (element_view c.0) gone) c.1 o) (own-alone p gone live config old i count t steps tree may c own left h order)
      (may-child gone live config (element_view c.0) c.1 tree (own-there p gone live config old i count t steps tree may c own left h order) may)

  -- both next children are trees, alike, and what goes below them
  pub both-may : (c d : Child) (own left : List Child) → IsBeside p gone live config old i (c ∷ own) (d ∷ left) count t steps
      → heads_order (c ∷ own) (d ∷ left) ≡ Some Equal → are_trees config ≡ true → AreAlikeBelow (below live) config
      → (is_tree c.1 ≡ true) × (is_tree d.1 ≡ true) × AreAlikeTrees c.1 d.1 × MayPart (behind (element_view c.0) gone) c.1 (Some d.1)
  both-may c d own left h order trees alike =
      let e = element_view c.0 in
      let there = both-there p gone live config old i count t steps tree may c d own left h order in
      let other = both-other p gone live config old i count t steps tree may c d own left h order in (
        tree-child live e c.1 tree there,
        child-tree e config d.1 trees other,
        alike e c.1 d.1 there other,
        subst (λ o. MayPart (behind e gone) c.1 o) other (may-child gone live config e c.1 tree there may),
      )
