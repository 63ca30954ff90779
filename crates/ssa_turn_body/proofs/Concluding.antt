-- The edit of a place whose common children are led leads to the second children and says what is other there.
use Rattle.std.proofs.Common.{◌≡◌, ℕ, List, [], ◌∷◌, ◌++◌, Bool, true, false, not, ◌&&◌, ◌||◌, Box, Option, Some, None, option_map, Vec, Global, reverse, refl, sym, ap, subst, ◌∙◌}
use Rattle.std.specs.Cmp.Lexicographic.{pointwise}
use Rattle.std.specs.List.{list_any}
use Rattle.std.specs.Prelude.{is_some, if◌then◌else◌}
use Rattle.std.specs.Box.{with_value}
use Rattle.std.proofs.lemmas.Option.{none-some, same_Some}
use Rattle.ssa_model.specs.definitions.Body.{Content}
use Rattle.ssa_model.specs.definitions.Kind.{is_among}
use Rattle.ssa_model.specs.definitions.Path.{Element, Path, same_element, parent}
use Rattle.ssa_model.specs.definitions.Record.{are_in_one_order, common}
use Rattle.ssa_model.proofs.Tests.{pointwise-true, symmetric}
use Rattle.ssa_path.specs.Children.{child_at, elements}
use Rattle.ssa_path.specs.View.{path_view}
use Rattle.ssa_path.proofs.Orders.{both_first, both_second}
use Rattle.ssa_typed.specs.Rows.{are_apart, are_trees}
use Rattle.ssa_typed.specs.declared.node.Node.{Node}
use Rattle.ssa_turn_body.specs.Between.{IsEditBetween}
use Rattle.ssa_turn_body.specs.Changes.{ChangeFits, ChangeGives}
use Rattle.ssa_turn_body.specs.Edits.{EditGives, is_idle, told_unless}
use Rattle.ssa_turn_body.specs.Found.{AreFound, AreKnown, fresh}
use Rattle.ssa_turn_body.specs.Lean.{IsLean}
use Rattle.ssa_turn_body.specs.Led.{AreLeading, AreSaying, IsLed, MayAdd}
use Rattle.ssa_turn_body.specs.Marks.{Child, Kids, Marks, Place, kids, marks, marks_in, may_stand, names, with_order}
use Rattle.ssa_turn_body.specs.Once.{NamesOnce}
use Rattle.ssa_turn_body.specs.Orders.{is_none}
use Rattle.ssa_turn_body.specs.Said.{AreTold, contents}
use Rattle.ssa_turn_body.specs.Told.{content_told, from_place, named}
use Rattle.ssa_turn_body.specs.declared.change.PlaceChange.{PlaceChange}
use Rattle.ssa_turn_body.specs.declared.change.PlaceChange.TheVariants.{Leaf, Children}
use Rattle.ssa_turn_body.specs.declared.children.ChildrenEdit.{ChildrenEdit}
use Rattle.ssa_turn_body.specs.declared.steps.Step.{Step}
use Rattle.ssa_turn_body.proofs.Writables.{fit-writable}
use Rattle.ssa_turn_body.proofs.Again.{kids_from, named-kids}
use Rattle.ssa_turn_body.proofs.EditTold.{IsEdit, edit-step-told}
use Rattle.ssa_turn_body.proofs.Finishing.{led_kids, names-from, fresh-names, fresh-trees, long, held-kids, edit-fits, idle-told, put}
use Rattle.ssa_turn_body.proofs.Knowing.{known-found}
use Rattle.ssa_turn_body.proofs.Leading.{led-own, turned-own}
use Rattle.ssa_turn_body.proofs.LeanSteps.{between-lean}
use Rattle.ssa_turn_body.proofs.Marking.{names-kids}
use Rattle.ssa_turn_body.proofs.OnceOnly.{once-added}
use Rattle.ssa_turn_body.proofs.Recording.{leading-same}
use Rattle.ssa_turn_body.proofs.Saying.{Joins, joins-first, joins-second, joins-still-first, joins-still-second, still-root, still-there}
use Rattle.ssa_turn_body.proofs.Walking.{child-among, led, led_in, root-some}
use Rattle.ssa_model.proofs.Fitting.{same_element-true}
use Rattle.ssa_model.proofs.Basics.{not_true, first_false as neither_first, second_false as neither_second}

abbrev Found : Type 0
Found = List (Option ℕ)

-- ---- the children that are led so far

named-from : (g : Element → Marks) (es : List Element) (e : Element) → named (kids_from g es) e ≡ (if is_among e es then Some (g e) else None)
named-from g [] e = refl
named-from g (x ∷ es) e =
    elim (same_element e x) as (λ b. same_element e x ≡ b → (if b then Some (g x) else named (kids_from g es) e)
    ≡ (if b || is_among e es then Some (g e) else None)) [
      | true ↦ λ t. ap (λ y. Some (g y)) (sym (same_element-true e x t))
      | false ↦ λ t. named-from g es e
    ] refl

named-led : (o : Content) (cs ds : List Child) (e : Element) → named (led_kids o cs ds) e
    ≡ option_map (λ c q. led_in (Some c) (child_at e ds) q) (child_at e cs)
named-led o cs ds e =
    named-from (λ f q. led o cs ds (f ∷ q)) (elements cs) e
    ∙ (λ i. if◌then◌else◌ {A = Option Marks} (sym (child-among e cs) i) (Some (λ q. led_in (child_at e cs) (child_at e ds) q)) None)
    ∙ by (child_at e cs)
  where
    by : (a : Option Node) → (if◌then◌else◌ {A = Option Marks} (is_some a) (Some (λ q. led_in a (child_at e ds) q)) None)
        ≡ option_map (λ c q. led_in (Some c) (child_at e ds) q) a
    by None = refl
    by (Some c) = refl

led-place : (o : Content) (cs ds : List Child) → with_order o (elements cs) ≡ o → (q : Path)
    → from_place (with_order o (names (led_kids o cs ds)), led_kids o cs ds) q ≡ led o cs ds q
led-place o cs ds order [] =
    let is = names-from (λ e q. led o cs ds (e ∷ q)) (elements cs) in
    λ i. Some ((ap (with_order o) is ∙ order) i, is i)
led-place o cs ds order (e ∷ q) = ap (λ x. marks_in x q) (named-led o cs ds e) ∙ by (child_at e cs)
  where
    by : (a : Option Node) → marks_in (option_map (λ c r. led_in (Some c) (child_at e ds) r) a) q ≡ led_in a (child_at e ds) q
    by None = refl
    by (Some c) = refl

final-place : (o : Content) (ds : List Child) (q : Path) → from_place (with_order o (names (kids ds)), kids ds) q
    ≡ from_place (with_order o (elements ds), kids ds) q
final-place o ds q = ap (λ es. from_place (with_order o es, kids ds) q) (names-kids ds)

known-over : (fs : Found) (es es2 os os2 : List Element) → es ≡ es2 → os ≡ os2 → AreKnown fs es os → AreKnown fs es2 os2
known-over fs es es2 os os2 p q h = subst (λ z. AreKnown fs z os2) p (subst (λ z. AreKnown fs es z) q h)

-- what is not told differs where all do
any-fresh : (e : Element) (fs : Found) (es : List Element) → list_any (same_element e) es ≡ false → list_any (same_element e) (fresh fs es) ≡ false
any-fresh e [] es h = refl
any-fresh e (f ∷ fs) [] h = refl
any-fresh e (None ∷ fs) (x ∷ es) h =
    λ i. neither_first (same_element e x) (list_any (same_element e) es) h i || any-fresh e fs es (neither_second (same_element e x) _ h) i
any-fresh e (Some k ∷ fs) (x ∷ es) h = any-fresh e fs es (neither_second (same_element e x) (list_any (same_element e) es) h)

apart-fresh : (fs : Found) (es : List Element) → are_apart es ≡ true → are_apart (fresh fs es) ≡ true
apart-fresh [] es h = refl
apart-fresh (f ∷ fs) [] h = refl
apart-fresh (None ∷ fs) (e ∷ es) h =
    λ i. not (any-fresh e fs es (not_true _ (both_first (not (list_any (same_element e) es)) (are_apart es) h)) i)
    && apart-fresh fs es (both_second (not (list_any (same_element e) es)) (are_apart es) h) i
apart-fresh (Some k ∷ fs) (e ∷ es) h = apart-fresh fs es (both_second (not (list_any (same_element e) es)) (are_apart es) h)

-- ---- what is said before the edit, and by it

module _ (o : Content) (cs ds : List Child) where
  abbrev begun : Marks
  begun = led o cs []

  abbrev now : Marks
  now = led o cs ds

  abbrev final : Marks
  final = from_place (with_order o (elements ds), kids ds)

  module _ (e : Element) (c d : Node) (is_c : child_at e cs ≡ Some c) (is_d : child_at e ds ≡ Some d) where
    both-final : (r : Path) → now (e ∷ r) ≡ final (e ∷ r)
    both-final r = (λ i. led_in (is_c i) (is_d i) r) ∙ ap (λ x. marks_in x r) (ap (option_map marks) (sym is_d) ∙ named-kids ds e)

    root-now : is_some (contents now (e ∷ [])) ≡ true
    root-now = (λ i. is_some (content_told (led_in (is_c i) (is_d i) []))) ∙ root-some d

    joins-both : (q : Path) → Joins (contents begun) (contents now) (contents final) (e ∷ q)
    joins-both [] =
        joins-still-second (contents begun) (contents now) (contents final) (e ∷ [])
        (still-there (contents begun) (contents now) (contents final) (e ∷ [])
        (ap (λ a. is_some (content_told (led_in a None []))) is_c ∙ root-some c) root-now (ap (λ m. is_some (content_told m)) (sym (both-final [])) ∙ root-now))
        (ap content_told (both-final []))
    joins-both (g ∷ q) =
        joins-second (contents begun) (contents now) (contents final) (e ∷ g ∷ q)
        (record { above = ap content_told (both-final (parent (g ∷ q))); from = λ r. ap content_told (both-final (g ∷ (q ++ r))) })

  joins-alone : (e : Element) → ((r : Path) → begun (e ∷ r) ≡ now (e ∷ r)) → (q : Path) → Joins (contents begun) (contents now) (contents final) (e ∷ q)
  joins-alone e same [] = joins-first (contents begun) (contents now) (contents final) (e ∷ []) (record { above = refl; from = λ r. ap content_told (same r) })
  joins-alone e same (g ∷ q) =
      joins-first (contents begun) (contents now) (contents final) (e ∷ g ∷ q)
      (record { above = ap content_told (same (parent (g ∷ q))); from = λ r. ap content_told (same (g ∷ (q ++ r))) })

  joins-child : (e : Element) (a b : Option Node) → child_at e cs ≡ a → child_at e ds ≡ b → (q : Path)
      → Joins (contents begun) (contents now) (contents final) (e ∷ q)
  joins-child e (Some c) (Some d) is_a is_b q = joins-both e c d is_a is_b q
  joins-child e None b is_a is_b q = joins-alone e (λ r. (λ i. led_in (is_a i) None r) ∙ sym (λ i. led_in (is_a i) (child_at e ds) r)) q
  joins-child e (Some c) None is_a is_b q = joins-alone e (λ r. sym (λ i. led_in (child_at e cs) (is_b i) r)) q

  -- what is said while the common children are led, and by the edit behind it, is what is said in all
  pub joins-final : (q : Path) → Joins (contents (led o cs [])) (contents (led o cs ds)) (contents (from_place (with_order o (elements ds), kids ds))) q
  joins-final [] = joins-still-first (contents begun) (contents now) (contents final) [] (still-root (contents begun) (contents now) (contents final)) refl
  joins-final (e ∷ q) = joins-child e (child_at e cs) (child_at e ds) refl refl q

one-order-back : (es fs : List Element) → are_in_one_order fs es ≡ are_in_one_order es fs
one-order-back es fs = symmetric (pointwise same_element) (pointwise-true same_element same_element-true) (common fs es) (common es fs)

module _ (o : Content) (cs ds : List Child) (fs : Found) (s : ChildrenEdit) (between : IsEditBetween cs ds fs s) (h : Vec Child Global)
    (own_apart : are_apart (elements cs) ≡ true) (apart : are_apart (elements ds) ≡ true)
    (found : AreFound cs ds fs) (holds : h.items ≡ fresh fs ds) (trees : are_trees ds ≡ true) (own_stand : may_stand o (elements cs) ≡ true)
    (stand : may_stand o (elements ds) ≡ true) (order : with_order o (elements cs) ≡ o) (room : Box ChildrenEdit Global) where
  abbrev ks : Kids
  ks = led_kids o cs ds

  abbrev made : ChildrenEdit
  made = record s { held = h }

  abbrev boxed : Box ChildrenEdit Global
  boxed = with_value room made

  abbrev keeps : Bool
  keeps = is_none s.before.items

  names-ks : names ks ≡ elements cs
  names-ks = names-from (λ e q. led o cs ds (e ∷ q)) (elements cs)

  same-child : (e : Element) (f g : Marks) → named ks e ≡ Some f → named (kids ds) e ≡ Some g → (q : Path) → f q ≡ g q
  same-child e f g is_f is_g q = by (child_at e cs) (child_at e ds) (sym (named-led o cs ds e) ∙ is_f) (named-kids ds e ∙ is_g)
    where
      by : (a b : Option Node) → option_map (λ c r. led_in (Some c) b r) a ≡ Some f → option_map marks b ≡ Some g → f q ≡ g q
      by None b i j = absurd (none-some f i)
      by (Some c) None i j = absurd (none-some g j)
      by (Some c) (Some d) i j = ap (λ (m : Marks). m q) (sym (same_Some (marks d) f i) ∙ same_Some (marks d) g j)

  root-first : (e : Element) (f : Marks) → named ks e ≡ Some f → is_some (content_told (f [])) ≡ true
  root-first e f is_f = by (child_at e cs) (child_at e ds) (sym (named-led o cs ds e) ∙ is_f)
    where
      by : (a b : Option Node) → option_map (λ c r. led_in (Some c) b r) a ≡ Some f → is_some (content_told (f [])) ≡ true
      by None b i = absurd (none-some f i)
      by (Some c) None i = ap (λ (m : Marks). is_some (content_told (m []))) (sym (same_Some (marks c) f i)) ∙ root-some c
      by (Some c) (Some d) i = ap (λ (m : Marks). is_some (content_told (m []))) (sym (same_Some (marks d) f i)) ∙ root-some d

  root-second : (e : Element) (g : Marks) → named (kids ds) e ≡ Some g → is_some (content_told (g [])) ≡ true
  root-second e g is_g = by (child_at e ds) (named-kids ds e ∙ is_g)
    where
      by : (b : Option Node) → option_map marks b ≡ Some g → is_some (content_told (g [])) ≡ true
      by None j = absurd (none-some g j)
      by (Some d) j = ap (λ (m : Marks). is_some (content_told (m []))) (sym (same_Some (marks d) g j)) ∙ root-some d

  there : IsEdit o keeps ks (kids ds) made
  there = record {
    back = between.back;
    found = fs;
    stand_before = ap (may_stand o) names-ks ∙ own_stand;
    stand_after = ap (may_stand o) (names-kids ds) ∙ stand;
    in_order = between.in_order own_apart ∙ (λ i. are_in_one_order (sym names-ks i) (sym (names-kids ds) i));
    order_before = between.order_before ∙ ap (told_unless keeps) (sym names-ks);
    order_after = between.order_after ∙ ap (told_unless keeps) (sym (names-kids ds));
    gone = between.gone_fresh ∙ ap (fresh between.back) (sym names-ks);
    gone_known =
        known-over between.back (elements cs) (names ks) (elements ds) (names (kids ds)) (sym names-ks) (sym (names-kids ds)) (between.back_known own_apart);
    come = between.come;
    come_known = known-over fs (elements ds) (names (kids ds)) (elements cs) (names ks) (sym (names-kids ds)) (sym names-ks) (known-found cs ds fs found);
    held = held-kids o cs ds fs s between h own_apart apart found holds;
    trees = ap are_trees holds ∙ fresh-trees fs ds trees;
    same = same-child;
    root_before = root-first;
    root_after = root-second;
  }

  back-again : (t : ChildrenEdit) (y : Place) → EditGives made (o, ks) t y → IsEdit o keeps (kids ds) ks t
  unfolding there
  back-again t y g = record {
    back = fs;
    found = between.back;
    stand_before = there.stand_after;
    stand_after = there.stand_before;
    in_order = there.in_order ∙ sym (one-order-back (names ks) (names (kids ds)));
    order_before = g.order_before ∙ there.order_after;
    order_after = g.order_after ∙ there.order_before;
    gone = g.gone_named ∙ ap names there.held ∙ fresh-names fs ds ∙ ap (fresh fs) (sym (names-kids ds));
    gone_known = there.come_known;
    come = g.come ∙ between.gone_places;
    come_known = there.gone_known;
    held = g.held ∙ between.going_fresh ks (long o cs ds fs s between h own_apart apart found holds);
    trees = g.trees;
    same = λ e f k is_f is_k q. sym (same-child e k f is_k is_f q);
    root_before = root-second;
    root_after = root-first;
  }

  abbrev led_now : Marks
  led_now = led o cs ds

  abbrev wanted : Marks
  wanted = from_place (with_order o (elements ds), kids ds)

  told-there : (x : Step) → x.change ≡ Children boxed → AreTold (path_view x.path.items) (contents led_now) (contents wanted) (x ∷ [])
  told-there x is =
      subst (λ (m : Marks). AreTold (path_view x.path.items) (contents m) (contents wanted) (x ∷ [])) (λ i q. led-place o cs ds order q i)
      (subst (λ (m : Marks). AreTold (path_view x.path.items) (contents (from_place (with_order o (names ks), ks))) (contents m) (x ∷ []))
      (λ i q. final-place o ds q i)
      (edit-step-told o keeps ks (kids ds) boxed there x is))

  told-back : (x t : Step) (y : Place) → x.change ≡ Children boxed → t.path.items ≡ x.path.items → ChangeGives x.change (o, ks) t.change y
      → AreTold (path_view x.path.items) (contents wanted) (contents led_now) (t ∷ [])
  told-back x t y is path given = by t.change refl (subst (λ c. ChangeGives c (o, ks) t.change y) is given)
    where
      by : (c : PlaceChange) → t.change ≡ c → ChangeGives (Children boxed) (o, ks) c y
          → AreTold (path_view x.path.items) (contents wanted) (contents led_now) (t ∷ [])
      by (Leaf u) e g = absurd g
      by (Children u) e g =
          subst (λ ps. AreTold (path_view ps) (contents wanted) (contents led_now) (t ∷ [])) path
          (subst (λ (m : Marks). AreTold (path_view t.path.items) (contents wanted) (contents m) (t ∷ [])) (λ i q. led-place o cs ds order q i)
          (subst (λ (m : Marks). AreTold (path_view t.path.items) (contents m) (contents (from_place (with_order o (names ks), ks))) (t ∷ []))
          (λ i q. final-place o ds q i)
          (edit-step-told o keeps (kids ds) ks u (back-again u.value y g) t e)))

  -- it names each child that goes and each that comes once
  made-once : NamesOnce made
  made-once =
      let fits = edit-fits o cs ds fs s between h own_apart apart found holds trees stand in
      record {
        gone = ap are_apart between.gone_fresh ∙ apart-fresh between.back (elements cs) own_apart;
        come =
            ap are_apart (sym (names-kids h.items) ∙ ap names (held-kids o cs ds fs s between h own_apart apart found holds) ∙ fresh-names fs ds)
            ∙ apart-fresh fs (elements ds) apart;
        trees = fits.trees;
        held = fits.held;
      }

  -- the edit leads from the children that are led so far to the second ones
  pub finish : (p : Path) (old new : List Step) → MayAdd (is_idle s) p (Children boxed) old new
      → AreLeading p (led o cs ds) (from_place (with_order o (elements ds), kids ds)) old new
  finish p old new added = by (is_idle s) refl added
    where
      by : (b : Bool) → is_idle s ≡ b → MayAdd b p (Children boxed) old new
          → AreLeading p (led o cs ds) (from_place (with_order o (elements ds), kids ds)) old new
      by true e a = leading-same p led_now wanted old new a (idle-told o cs ds fs s between h own_apart apart found holds order e)
      by false e a = record {
        made = a.0 ∷ [];
        added = a.3;
        led = subst (λ r. IsLed r led_now wanted (a.0 ∷ [])) a.1
            (led-own a.0 led_now wanted o (elements cs) refl
            (subst (λ x. ChangeFits x (o, ks)) (sym a.2) (edit-fits o cs ds fs s between h own_apart apart found holds trees stand))
            (λ t y g q. put o cs ds fs s between h own_apart apart found holds room t y (subst (λ x. ChangeGives x (o, ks) t y) a.2 g) q));
        saying = subst (λ r. AreSaying r led_now wanted (a.0 ∷ [])) a.1 (record {
          told = told-there a.0 a.2;
          back =
              turned-own a.0 led_now o (elements cs) refl (λ ts. AreTold (path_view a.0.path.items) (contents wanted) (contents led_now) (reverse ts))
              (λ t y path g. told-back a.0 t y a.2 path g);
        });
        once = once-added p (Children boxed) old new made-once a;
        writable = (
          fit-writable a.0.change (o, ks) (subst (λ x. ChangeFits x (o, ks)) (sym a.2)
              (edit-fits o cs ds fs s between h own_apart apart found holds trees stand)),
          tt,
        );
        lean = (subst IsLean (sym a.2) (between-lean o cs ds fs s between h own_apart own_stand stand e), tt);
      }
