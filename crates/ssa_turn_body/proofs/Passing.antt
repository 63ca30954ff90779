-- The walk over the children of a live place where a configuration's are put over it and some places go: what was done so far, and what all of it makes.
use Rattle.std.proofs.Common.{◌≡◌, ℕ, ◌+◌, ◌<◌, ◌≤◌, ◌^◌, List, [], ◌∷◌, ◌++◌, length, Bool, true, false, not, ◌&&◌, Box, Some, None, Global, refl, sym, ap, subst, ◌∙◌, arith, append-nil, true≢false}
use Rattle.std.specs.Box.{with_value}
use Rattle.std.specs.Prelude.{filter, is_some, if◌then◌else◌}
use Rattle.std.proofs.lemmas.List.{length-append}
use Rattle.ssa_model.specs.definitions.Body.{Content, leaf, atom, record_branch, dict_branch, list_branch, joined, over_content}
use Rattle.ssa_model.specs.definitions.Path.{Element, Path, under}
use Rattle.ssa_path.specs.Children.{child_at, elements}
use Rattle.ssa_path.specs.View.{element_view}
use Rattle.ssa_typed.specs.Points.{content_in}
use Rattle.ssa_typed.specs.Restricted.{part_at}
use Rattle.ssa_typed.specs.Rows.{are_apart, are_trees, below, content_at, is_tree, own_content, rows}
use Rattle.ssa_typed.specs.declared.node.Node.{Node}
use Rattle.ssa_typed.proofs.Levels.{level-below}
use Rattle.ssa_typed.proofs.Lookups.{content-level}
use Rattle.ssa_turn_body.specs.Applying.{Gone, IsApplyingBelow, IsApplying, MayPartBelow, behind, stays_of}
use Rattle.ssa_turn_body.specs.Between.{IsEditBetween}
use Rattle.ssa_turn_body.specs.Edits.{is_idle, told_unless}
use Rattle.ssa_turn_body.specs.Found.{AreFound, IsReordering}
use Rattle.ssa_turn_body.specs.Led.{AreLeading, MayAdd}
use Rattle.ssa_turn_body.specs.Marks.{Child, Marks, kids, marks, may_stand, with_order}
use Rattle.ssa_turn_body.specs.Orders.{is_none}
use Rattle.ssa_turn_body.specs.Told.{from_place}
use Rattle.ssa_turn_body.specs.Turnovers.{IsEditOf, MayTurnOver, Named, Passing, is_still, none_passes, with_come, with_gone}
use Rattle.ssa_turn_body.specs.Woven.{room_for}
use Rattle.ssa_turn_body.specs.declared.change.PlaceChange.TheVariants.{Children}
use Rattle.ssa_turn_body.specs.declared.children.ChildrenEdit.{ChildrenEdit}
use Rattle.ssa_turn_body.specs.declared.steps.Step.{Step}
use Rattle.ssa_turn_body.proofs.Again.{marks-place}
use Rattle.ssa_turn_body.proofs.BodyMarks.{own-stands}
use Rattle.ssa_turn_body.proofs.Concluding.{finish, joins-final}
use Rattle.ssa_turn_body.proofs.EditParts.{edit-parts}
use Rattle.ssa_turn_body.proofs.Fates.{Fate, Stays, Goes, Comes, after, after-append, before, comers, comers-fresh, come-nones, fates-order, fates-turned, goers-fresh, left-nones, left_at, names-fresh, passed, passed-comes, passed-goes, passed-stays, stay_told, stood_at}
use Rattle.ssa_turn_body.proofs.Finishing.{alike-told, leading-from, leading-told, own-order, stand-apart}
use Rattle.ssa_turn_body.proofs.GoodFates.{AreGood, after-trees, fates-contents, fates-found, good-more, none-after, none-come, still-names}
use Rattle.ssa_turn_body.proofs.Missing.{length-elements}
use Rattle.ssa_turn_body.proofs.OnceOnly.{once-last}
use Rattle.ssa_turn_body.proofs.Recording.{leading-same, leading-then}
use Rattle.ssa_turn_body.proofs.Remaking.{few-below, remade}
use Rattle.ssa_turn_body.proofs.Walking.{AreAmong, led, led-start, middle-found, more-held, more-led, none-before}

-- ---- the edit

room-most : (ps qs : List ℕ) (n : ℕ) → room_for ps qs n ≤ n
room-most [] [] n = omega arith
room-most [] (q ∷ qs) n = omega arith
room-most (p ∷ ps) qs n = omega arith

module _ (fs : List Fate) (n : ℕ) (s : ChildrenEdit) (of : IsEditOf (passed fs) n s) (counted : n ≡ length (after fs)) where
  emptied : ChildrenEdit
  emptied = record s { held = s.out }

  -- the edit by which these go and come, with nothing held, leads from the children before to those afterwards
  passing-edit : AreFound (before fs) (after fs) (stood_at 0 fs) → IsEditBetween (before fs) (after fs) (stood_at 0 fs) emptied
  unfolding emptied
  passing-edit found =
      let enough = of.room in
      let most = room-most s.gone.places.items s.come.places.items (length (after fs)) in
      let goers_room = of.out_room in
      let long : length s.gone.places.items ≡ length (left_at 0 fs) = ap (λ (x : Named). length x.0) of.gone in
      edit-parts (before fs) (after fs) (stood_at 0 fs) (stay_told fs) emptied found (record {
        turned = fates-turned fs;
        gone = record {
          places = ap (λ (x : Named). x.0) of.gone ∙ left-nones 0 fs;
          named = ap (λ (x : Named). x.1) of.gone ∙ goers-fresh fs;
        };
        come = record {
          places = ap (λ (x : Named). x.0) of.come ∙ come-nones 0 0 fs;
          named = ap (λ (x : Named). x.1) of.come ∙ names-fresh 0 fs;
        };
        before = subst (IsReordering (stood_at 0 fs) (stay_told fs)) (sym of.before) (fates-order fs);
        after = of.after;
        order_before = of.order_before ∙ ap (λ xs. told_unless (is_none xs) (elements (before fs))) (sym of.before);
        order_after = of.order_after ∙ ap (λ xs. told_unless (is_none xs) (elements (after fs))) (sym of.before);
        held = of.out_empty;
        out_empty = of.out_empty;
        out_room = omega arith;
        room_empty = of.room_empty;
        room = omega arith;
      })

-- an edit by which something goes or comes is not idle
passing-busy : (fs : List Fate) (s : ChildrenEdit) (n : ℕ) → IsEditOf (passed fs) n s → is_still (passed fs) ≡ false
    → is_idle s ≡ false
passing-busy fs s n of passes =
    (λ i. is_none (of.before i) && is_none (of.after i) && is_none ((of.gone i).0) && is_none ((of.come i).0)) ∙ passes

-- with one behind them the children are one more
pub one-longer : (xs ys : List Child) (d : Child) (n : ℕ) → n ≡ length xs → ys ≡ xs ++ d ∷ [] → n + 1 ≡ length ys
one-longer xs ys d n e is =
    let long = ap length is ∙ length-append xs (d ∷ []) in
    omega arith

-- ---- what was done so far

-- the children that were met have these fates, and the changes so far lead them
pub record IsPassing (p : Path) (gone : Gone) (live : Node) (config : List Child) (old : List Step) (fs : List Fate) (count : ℕ) (t : Passing)
    (steps : List Step) : Type 0 where
  -- each is what is to become of the child
  pub good : AreGood gone (below live) config fs
  -- so many children stand there so far
  pub counted : count ≡ length (after fs)
  -- what goes and what comes so far
  pub told : t ≡ passed fs
  -- the changes lead the children so far
  pub leading : AreLeading p (led (own_content live) (below live) []) (led (own_content live) (below live) (after fs)) old steps
  -- they are at places below these children alone
  pub among : AreAmong p (after fs) old steps

module _ (p : Path) (gone : Gone) (live : Node) (config : List Child) (old : List Step) where
  abbrev So : List Fate → ℕ → Passing → List Step → Type 0
  So fs count t steps = IsPassing p gone live config old fs count t steps

  -- at first nothing was met
  pub passing-start : (t : Passing) → t ≡ none_passes → So [] 0 t old
  passing-start t none = record {
    good = tt;
    counted = refl;
    told = none;
    leading = leading-same p _ _ old old refl (λ q. refl);
    among = record { here = refl; others = λ e q n. refl };
  }

  module _ (fs : List Fate) (count : ℕ) (t : Passing) (steps : List Step) (h : So fs count t steps) where
    module _ (tree : is_tree live ≡ true) (c : Child) (rest : List Child) (whole : below live ≡ before fs ++ c ∷ rest) where
      apart : are_apart (elements (before fs ++ c ∷ rest)) ≡ true
      apart = ap (λ l. are_apart (elements l)) (sym whole) ∙ (level-below live).apart tree

      -- the next live child is that of its element
      pub next-there : child_at (element_view c.0) (below live) ≡ Some c.1
      next-there = ap (child_at (element_view c.0)) whole ∙ middle-found (before fs) c rest apart

      next-new : child_at (element_view c.0) (after fs) ≡ None
      next-new = none-after gone (below live) config (element_view c.0) fs h.good (none-before (before fs) c rest apart)
          (none-come gone (below live) config (element_view c.0) c.1 fs h.good next-there)

      -- the next live child stays
      pub passing-stays : (steps2 : List Step)
          → IsApplying (p ++ element_view c.0 ∷ []) (behind (element_view c.0) gone) c.1 (child_at (element_view c.0) config) steps steps2
          → (n : Node) × So (fs ++ Stays c (c.0, n) ∷ []) (count + 1) t steps2
      passing-stays steps2 child =
          let d : Child = (c.0, child.0) in
          let is = after-append fs (Stays c d ∷ []) in
          let more = more-led p (own_content live) (below live) old (after fs) d steps next-new h.leading h.among c.1 steps2 next-there child.2 in (
            child.0,
            record {
              good = good-more gone (below live) config fs (Stays c d) h.good (refl, child.1);
              counted = one-longer (after fs) _ d count h.counted is;
              told = h.told ∙ sym (passed-stays fs c d);
              leading = subst (λ l. AreLeading p (led (own_content live) (below live) []) (led (own_content live) (below live) l) old steps2)
                  (sym is) more.0;
              among = subst (λ l. AreAmong p l old steps2) (sym is) more.1;
            },
          )

      -- the next live child goes
      pub passing-goes : (k : ℕ) (u : Passing) → k ≡ length (before fs) → u ≡ with_gone k (element_view c.0) t → child_at (element_view c.0) config ≡ None
          → gone (element_view c.0 ∷ []) ≡ true → So (fs ++ Goes c ∷ []) count u steps
      passing-goes k u place is none goes =
          let same = after-append fs (Goes c ∷ []) ∙ append-nil (after fs) in
          record {
            good = good-more gone (below live) config fs (Goes c) h.good (none, goes);
            counted = h.counted ∙ ap length (sym same);
            told = is ∙ ap (with_gone k (element_view c.0)) h.told ∙ sym (passed-goes fs c k place);
            leading = subst (λ l. AreLeading p (led (own_content live) (below live) []) (led (own_content live) (below live) l) old steps) (sym same)
                h.leading;
            among = subst (λ l. AreAmong p l old steps) (sym same) h.among;
          }

    -- a child comes that the configuration alone has
    pub passing-comes : (d : Child) (u : Passing) → u ≡ with_come count d t → child_at (element_view d.0) (below live) ≡ None
        → child_at (element_view d.0) (before fs) ≡ None → child_at (element_view d.0) (comers fs) ≡ None → child_at (element_view d.0) config ≡ Some d.1
        → is_tree d.1 ≡ true → So (fs ++ Comes d ∷ []) (count + 1) u steps
    passing-comes d u is absent unmet first there tree =
        let same = after-append fs (Comes d ∷ []) in
        let new = none-after gone (below live) config (element_view d.0) fs h.good unmet first in
        let more = more-held p (own_content live) (below live) old (after fs) d steps new h.leading h.among absent in
        record {
          good = good-more gone (below live) config fs (Comes d) h.good (absent, there, tree);
          counted = one-longer (after fs) _ d count h.counted same;
          told = is ∙ ap (with_come count d) h.told ∙ sym (passed-comes fs d count h.counted);
          leading = subst (λ l. AreLeading p (led (own_content live) (below live) []) (led (own_content live) (below live) l) old steps) (sym same) more.0;
          among = subst (λ l. AreAmong p l old steps) (sym same) more.1;
        }

-- ---- what all of it makes

-- the content of the place: of a list, the order of what stays
own-part : (gone : Gone) (o : Content) (es fs xs : List Element) → gone [] ≡ false → may_stand o xs ≡ true → with_order o es ≡ o
    → ((os : List Element) → o ≡ list_branch os → xs ≡ filter (λ e. not (gone (e ∷ []))) (joined es fs))
    → Some (with_order o xs) ≡ part_at (stays_of gone) [] (over_content (Some o) (Some (with_order o fs)))
own-part gone (leaf s) es fs xs root stand order h = absurd (true≢false (sym stand))
own-part gone (atom v) es fs xs root stand order h = absurd (true≢false (sym stand))
own-part gone record_branch es fs xs root stand order h = ap (λ b. if◌then◌else◌ (not b) (Some record_branch) None) (sym root)
own-part gone dict_branch es fs xs root stand order h = ap (λ b. if◌then◌else◌ (not b) (Some dict_branch) None) (sym root)
own-part gone (list_branch os) es fs xs root stand order h =
    ap (λ l. Some (list_branch l)) (h os refl)
    ∙ ap (λ b. if◌then◌else◌ (not b) (Some (list_branch (filter (λ e. not (gone (e ∷ []))) (joined es fs)))) None) (sym root)
    ∙ ap (λ c. part_at (stays_of gone) [] (over_content (Some c) (Some (list_branch fs)))) order

-- with a place that goes all goes that a live child has below it
whole-below : (gone : Gone) (live : Node) (config : List Child) → is_tree live ≡ true → MayPartBelow gone live config → (p q : Path) → gone p ≡ true
    → under p q ≡ true → (e : Element) (r : Path) → q ≡ e ∷ r → is_some (content_in (child_at e (below live)) r) ≡ true → gone q ≡ true
whole-below gone live config tree may p q goes below_it e r is there =
    may.whole p q goes below_it (ap (λ x. is_some (content_at (rows live) x)) is ∙ ap is_some (content-level live e r tree) ∙ there)

module _ (p : Path) (gone : Gone) (live : Node) (config : List Child) (old : List Step) (fs : List Fate) (count : ℕ) (t : Passing) (steps new : List Step)
    (tree : is_tree live ≡ true) (whole : before fs ≡ below live) (h : IsPassing p gone live config old fs count t steps)
    (stand : may_stand (own_content live) (elements (after fs)) ≡ true) where
  abbrev o : Content
  o = own_content live

  abbrev cs : List Child
  cs = below live

  abbrev ds : List Child
  ds = after fs

  abbrev wanted : Marks
  wanted = from_place (with_order o (elements ds), kids ds)

  trees : are_trees ds ≡ true
  trees = after-trees gone cs config fs h.good

  found : AreFound cs ds (stood_at 0 fs)
  found = fates-found gone cs config [] fs 0 refl (sym whole) h.good

  still-led : is_still (passed fs) ≡ true → new ≡ steps → AreLeading p (led o cs []) wanted old new
  still-led still same =
      let names : elements cs ≡ elements ds = ap elements (sym whole) ∙ still-names gone cs config fs h.good still in
      leading-told p (led o cs []) (led o cs ds) wanted old new (alike-told o cs ds names (own-order live tree))
      (subst (λ xs. AreLeading p (led o cs []) (led o cs ds) old xs) (sym same) h.leading)

  module _ (b : Box ChildrenEdit Global) (of : IsEditOf (passed fs) count b.value) (added : MayAdd false p (Children b) steps new) where
    between : IsEditBetween cs ds (stood_at 0 fs) (emptied fs count b.value of h.counted)
    between = subst (λ l. IsEditBetween l ds (stood_at 0 fs) (emptied fs count b.value of h.counted)) whole
        (passing-edit fs count b.value of h.counted (subst (λ l. AreFound l ds (stood_at 0 fs)) (sym whole) found))

    edit-led : is_still (passed fs) ≡ false → AreLeading p (led o cs []) wanted old new
    unfolding emptied
    edit-led passes =
        let s = emptied fs count b.value of h.counted in
        let busy : is_idle s ≡ false = passing-busy fs b.value count of passes in
        let add : MayAdd (is_idle s) p (Children (with_value b (record s { held = b.value.held }))) steps new =
        subst (λ i. MayAdd i p (Children b) steps new) (sym busy) added in
        let last = finish o cs ds (stood_at 0 fs) s between b.value.held ((level-below live).apart tree) (stand-apart o (elements ds) stand) found
        (of.held ∙ comers-fresh 0 fs) trees (own-stands live (elements ds) tree stand) stand (own-order live tree) b p steps new add in
        leading-then p (led o cs []) (led o cs ds) wanted old steps new (joins-final o cs ds) h.leading last
        (once-last (is_idle s) p (Children b) old steps new h.among.here h.leading.once.places add last.once.places)

  led-all : MayTurnOver (is_still (passed fs)) p (passed fs) count steps new → AreLeading p (led o cs []) wanted old new × (length ds < 2 ^ 63)
  led-all turned = by (is_still (passed fs)) refl turned
    where
      by : (b : Bool) → is_still (passed fs) ≡ b → MayTurnOver b p (passed fs) count steps new
          → AreLeading p (led o cs []) wanted old new × (length ds < 2 ^ 63)
      by true still same =
          let few = few-below live in
          let names = ap elements (sym whole) ∙ still-names gone cs config fs h.good still in
          let long : length cs ≡ length ds = sym (length-elements cs) ∙ ap length names ∙ length-elements ds in
          (still-led still same, omega arith)
      by false passes turned =
          let held = turned.0.value.room.small in
          let room = turned.1.room in
          let counted = h.counted in
          (edit-led turned.0 turned.1 turned.2 passes, omega arith)

  -- the place that all of it makes, of which each child is what is to become of it
  pub passing-place : MayTurnOver (is_still t) p t count steps new → MayPartBelow gone live config → are_trees config ≡ true
      → ((e : Element) → child_at e cs ≡ None → child_at e (comers fs) ≡ child_at e config)
      → ((os : List Element) → o ≡ list_branch os → elements ds ≡ filter (λ e. not (gone (e ∷ []))) (joined (elements cs) (elements config)))
      → IsApplyingBelow p gone live config old new
  passing-place turned may config_trees complete order =
      let all = led-all (subst (λ u. MayTurnOver (is_still u) p u count steps new) h.told turned) in
      let made = remade live ds all.1 stand trees in
      let to = made.0 in (
        to,
        record {
          tree = made.1.tree;
          own = ap (λ x. Some x) made.1.own ∙ own-part gone o (elements cs) (elements config) (elements ds) may.root stand (own-order live tree) order;
          contents = λ e q.
              content-level to e q made.1.tree ∙ ap (λ l. content_in (child_at e l) q) made.1.below_is
              ∙ fates-contents gone cs config (whole-below gone live config tree may) config_trees may.kept fs whole ((level-below live).apart tree)
              h.good complete e q;
        },
        leading-from p (marks live) (led o cs []) (marks to) old new (led-start live)
            (leading-told p (led o cs []) wanted (marks to) old new
            (λ q. sym (marks-place to q ∙ (λ i. from_place (made.1.own i, kids (made.1.below_is i)) q))) all.0),
      )
