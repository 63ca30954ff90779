-- What the configuration alone has at a place comes behind the live children.
use Rattle.std.proofs.Common.{◌≡◌, ℕ, ◌+◌, List, [], ◌∷◌, ◌++◌, length, map, Bool, true, false, not, ◌&&◌, cond, Option, Some, None, refl, sym, ap, subst, ◌∙◌, append_assoc, append-nil, arith, true≢false}
use Rattle.std.specs.Prelude.{filter}
use Rattle.ssa_model.specs.definitions.Body.{list_branch, joined}
use Rattle.ssa_model.specs.definitions.Kind.{is_among}
use Rattle.ssa_model.specs.definitions.Path.{Element, Path, is_item_element}
use Rattle.ssa_model.specs.definitions.Record.{are_in_one_order}
use Rattle.ssa_model.proofs.Basics.{both-true as both}
use Rattle.ssa_model.proofs.Joining.{joined-in-order}
use Rattle.ssa_model.proofs.Fitting.{among-filter, distinct-joined}
use Rattle.std.proofs.lemmas.List.Elements.{filter-append}
use Rattle.ssa_path.specs.Children.{child_at, elements}
use Rattle.ssa_path.specs.View.{element_view}
use Rattle.ssa_path.proofs.Orders.{both_first, both_second}
use Rattle.ssa_typed.specs.MergedOrder.{is_new}
use Rattle.ssa_typed.specs.Rows.{are_apart, are_items, are_trees, below}
use Rattle.ssa_typed.specs.declared.node.Node.{Node}
use Rattle.ssa_typed.proofs.Fitting.{apart-distinct}
use Rattle.ssa_typed.proofs.Lookups.{child-tree}
use Rattle.ssa_typed.proofs.OverNodes.{all-joined, items-all}
use Rattle.ssa_typed.proofs.Overlaying.{elements-append, new-child, new-elements}
use Rattle.ssa_typed.proofs.Reached.{all-pass}
use Rattle.ssa_typed.proofs.Restricting.{filter-apart}
use Rattle.ssa_turn_body.specs.Applying.{Gone}
use Rattle.ssa_turn_body.specs.Marks.{Child, may_stand}
use Rattle.ssa_turn_body.specs.Turnovers.{Passing, with_all_come, with_come}
use Rattle.ssa_turn_body.specs.declared.steps.Step.{Step}
use Rattle.ssa_turn_body.proofs.Fates.{Fate, Comes, after, after-append, before, before-append, comers, comers-append}
use Rattle.ssa_turn_body.proofs.Passing.{IsPassing, passing-comes}
use Rattle.ssa_turn_body.proofs.Walking.{middle-found, none-before}

-- a child of which the live ones have none of its element
pub new-absent : (cs : List Child) (d : Child) → is_new cs d ≡ true → child_at (element_view d.0) cs ≡ None
new-absent cs d h = by (child_at (element_view d.0) cs) h
  where
    by : (o : Option Node) → elim o [ None ↦ true | Some c ↦ false ] ≡ true → o ≡ None
    by None h = refl
    by (Some c) h = absurd (true≢false (sym h))

-- where the live ones have none of its element, a child is new
pub absent-new : (cs : List Child) (d : Child) → child_at (element_view d.0) cs ≡ None → is_new cs d ≡ true
absent-new cs d h = ap (λ o. elim o [ None ↦ true | Some c ↦ false ]) h

-- where they have one, it is not
pub there-old : (cs : List Child) (d : Child) (c : Node) → child_at (element_view d.0) cs ≡ Some c → is_new cs d ≡ false
there-old cs d c h = ap (λ o. elim o [ None ↦ true | Some x ↦ false ]) h

AllNew : List Child → List Child → Type 0
AllNew cs [] = Unit {0}
AllNew cs (d ∷ ds) = (is_new cs d ≡ true) × AllNew cs ds

all-new : (cs ds : List Child) → AllNew cs (filter (is_new cs) ds)
unfolding AllNew
all-new cs [] = tt
all-new cs (d ∷ ds) =
    elim (is_new cs d) as (λ b. is_new cs d ≡ b → AllNew cs (cond b (d ∷ filter (is_new cs) ds) (filter (is_new cs) ds))) [
      | true ↦ λ h. (h, all-new cs ds)
      | false ↦ λ h. all-new cs ds
    ] refl

new-middle : (cs pre : List Child) (d : Child) (rest : List Child) → AllNew cs (pre ++ d ∷ rest) → is_new cs d ≡ true
unfolding AllNew
new-middle cs [] d rest h = h.0
new-middle cs (x ∷ pre) d rest h = new-middle cs pre d rest h.1

-- those that come, as fates
abbrev pub coming : List Child → List Fate
coming ds = map Comes ds

coming-before : (ds : List Child) → before (coming ds) ≡ []
coming-before [] = refl
coming-before (d ∷ ds) = coming-before ds

coming-after : (ds : List Child) → after (coming ds) ≡ ds
coming-after [] = refl
coming-after (d ∷ ds) = ap (λ xs. d ∷ xs) (coming-after ds)

coming-comers : (ds : List Child) → comers (coming ds) ≡ ds
coming-comers [] = refl
coming-comers (d ∷ ds) = ap (λ xs. d ∷ xs) (coming-comers ds)

-- where others come behind, the same children stood there before
pub before-coming : (fs : List Fate) (ds : List Child) → before (fs ++ coming ds) ≡ before fs
before-coming fs ds = before-append fs (coming ds) ∙ ap (λ l. before fs ++ l) (coming-before ds) ∙ append-nil (before fs)

-- afterwards they stand behind the others
pub after-coming : (fs : List Fate) (ds : List Child) → after (fs ++ coming ds) ≡ after fs ++ ds
after-coming fs ds = after-append fs (coming ds) ∙ ap (λ l. after fs ++ l) (coming-after ds)

-- they come behind the others that come
pub comers-coming : (fs : List Fate) (ds : List Child) → comers (fs ++ coming ds) ≡ comers fs ++ ds
comers-coming fs ds = comers-append fs (coming ds) ∙ ap (λ l. comers fs ++ l) (coming-comers ds)

-- what the configuration alone has are children apart
pub new-apart : (cs config : List Child) → are_apart (elements config) ≡ true → are_apart (elements (filter (is_new cs) config)) ≡ true
new-apart cs config apart = ap are_apart (new-elements cs config) ∙ filter-apart (λ f. not (is_among f (elements cs))) (elements config) apart

module _ (p : Path) (gone : Gone) (live : Node) (config : List Child) (old : List Step) (steps : List Step) (apart : are_apart (elements config) ≡ true)
    (trees : are_trees config ≡ true) where
  abbrev cs : List Child
  cs = below live

  -- what is left of the new children comes
  pub coming-all : (new : List Child) (fs : List Fate) (count : ℕ) (t : Passing) → IsPassing p gone live config old fs count t steps
      → comers fs ++ new ≡ filter (is_new cs) config → before fs ≡ cs
      → IsPassing p gone live config old (fs ++ coming new) (count + length new) (with_all_come count new t) steps
  coming-all [] fs count t h whole met =
      let same : count ≡ count + 0 = omega arith in
      subst (λ gs. IsPassing p gone live config old gs (count + 0) t steps) (sym (append-nil fs))
      (subst (λ n. IsPassing p gone live config old fs n t steps) same h)
  coming-all (d ∷ ds) fs count t h whole met =
      let e = element_view d.0 in
      let parted : are_apart (elements (comers fs ++ d ∷ ds)) ≡ true = ap (λ l. are_apart (elements l)) whole ∙ new-apart cs config apart in
      let absent = new-absent cs d (new-middle cs (comers fs) d ds (subst (AllNew cs) (sym whole) (all-new cs config))) in
      let there = sym (new-child cs config e absent) ∙ ap (child_at e) (sym whole) ∙ middle-found (comers fs) d ds parted in
      let one = passing-comes p gone live config old fs count t steps h d (with_come count d t) refl absent (ap (child_at e) met ∙ absent)
      (none-before (comers fs) d ds parted) there (child-tree e config d.1 trees there) in
      let rest = coming-all ds (fs ++ Comes d ∷ []) (count + 1) (with_come count d t) one
      (ap (λ l. l ++ ds) (comers-append fs (Comes d ∷ [])) ∙ append_assoc (comers fs) (d ∷ []) ds ∙ whole)
      (before-append fs (Comes d ∷ []) ∙ append-nil (before fs) ∙ met) in
      let count_is : (count + 1) + length ds ≡ count + length (d ∷ ds) = omega arith in
      subst (λ n. IsPassing p gone live config old (fs ++ coming (d ∷ ds)) n (with_all_come count (d ∷ ds) t) steps) count_is
      (subst (λ gs. IsPassing p gone live config old gs ((count + 1) + length ds) (with_all_come count (d ∷ ds) t) steps)
      (append_assoc fs (Comes d ∷ []) (coming ds)) rest)

-- ---- the order of a list

-- of the joined elements of two lists, of which those of both stand in one order, some stay: those of the first that do, and all that the second alone has
pub joined-left : (test : Element → Bool) (cs config xs : List Child) → are_in_one_order (elements cs) (elements config) ≡ true
    → elements xs ≡ filter test (elements cs)
    → ((e : Element) → is_among e (elements config) ≡ true → test e ≡ true)
    → elements (xs ++ filter (is_new cs) config) ≡ filter test (joined (elements cs) (elements config))
joined-left test cs config xs order own kept =
    let new = filter (λ f. not (is_among f (elements cs))) (elements config) in
    let stay : filter test new ≡ new = all-pass test new (λ e among. kept e (both_first (is_among e (elements config)) _
    (sym (among-filter (λ f. not (is_among f (elements cs))) (elements config) e) ∙ among))) in
    elements-append xs (filter (is_new cs) config)
    ∙ (λ i. own i ++ (new-elements cs config ∙ sym stay) i)
    ∙ sym (filter-append test (elements cs) new)
    ∙ ap (filter test) (sym (joined-in-order (elements cs) (elements config) order))

-- the joined elements of two lists may stand at one
pub joined-stand : (os es fs : List Element) → (are_apart es && are_items es) ≡ true → (are_apart fs && are_items fs) ≡ true
    → may_stand (list_branch os) (joined es fs) ≡ true
joined-stand os es fs h k =
    both _ _
    (apart-distinct (joined es fs) ∙ distinct-joined es fs (sym (apart-distinct es) ∙ both_first _ (are_items es) h)
    (sym (apart-distinct fs) ∙ both_first _ (are_items fs) k))
    (items-all (joined es fs) ∙ all-joined is_item_element es fs (sym (items-all es) ∙ both_second (are_apart es) _ h)
    (sym (items-all fs) ∙ both_second (are_apart fs) _ k))
