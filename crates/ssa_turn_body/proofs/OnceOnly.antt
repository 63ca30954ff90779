-- Changes say nothing twice: nothing, one more, one after the other, in a child, turned, copied.
use Rattle.std.proofs.Common.{◌≡◌, ◌+◌, ◌≤◌, List, [], ◌∷◌, ◌++◌, Bool, true, false, Option, Some, None, length, reverse, refl, sym, ap, subst, ◌∙◌, arith, append-nil}
use Rattle.std.proofs.lemmas.List.{length-map, reverse-append, reverse-reverse}
use Rattle.std.specs.List.{AllZip}
use Rattle.ssa_model.specs.definitions.Facts.{one_if}
use Rattle.ssa_model.specs.definitions.Path.{Element, Path, same_path}
use Rattle.ssa_model.proofs.PathMaps.{same_path-true}
use Rattle.ssa_path.specs.View.{path_view}
use Rattle.ssa_typed.specs.Nodes.{node_on}
use Rattle.ssa_typed.specs.Rows.{are_apart}
use Rattle.ssa_typed.specs.declared.node.Node.{Node}
use Rattle.ssa_typed.proofs.Copying.{kept-same}
use Rattle.ssa_turn_body.specs.Changes.{ChangeFits, ChangeGives}
use Rattle.ssa_turn_body.specs.Copies.{ChangeIsCopied, EditIsCopied, StepIsCopied}
use Rattle.ssa_turn_body.specs.Descent.{FitsIn, GivesIn}
use Rattle.ssa_turn_body.specs.Edits.{EditFits, EditGives}
use Rattle.ssa_turn_body.specs.Led.{MayAdd}
use Rattle.ssa_turn_body.specs.Marks.{Place, names, seen}
use Rattle.ssa_turn_body.specs.Once.{AllNameOnce, AreOnce, AreOnceMore, ChangeNamesOnce, NamesOnce, changes_at}
use Rattle.ssa_turn_body.specs.Steps.{StepsFit, StepsLead}
use Rattle.ssa_turn_body.specs.declared.change.PlaceChange.{PlaceChange}
use Rattle.ssa_turn_body.specs.declared.change.PlaceChange.TheVariants.{Leaf, Children}
use Rattle.ssa_turn_body.specs.declared.children.ChildrenEdit.{ChildrenEdit}
use Rattle.ssa_turn_body.specs.declared.steps.Step.{Step}
use Rattle.ssa_turn_body.proofs.Edits.{edit-back}
use Rattle.ssa_turn_body.proofs.Leading.{under-longer}
use Rattle.ssa_turn_body.proofs.Marking.{names-kids}
use Rattle.ssa_turn_body.proofs.Saying.{not-below}

-- ---- lists

-- the changes at a path of both lists
pub changes-append : (q : Path) (xs ys : List Step) → changes_at q (xs ++ ys) ≡ changes_at q xs + changes_at q ys
changes-append q [] ys = omega arith
changes-append q (x ∷ xs) ys = let rest = changes-append q xs ys in omega arith

-- in the other order there are as many changes at a path
pub changes-reverse : (q : Path) (xs : List Step) → changes_at q (reverse xs) ≡ changes_at q xs
changes-reverse q [] = refl
changes-reverse q (x ∷ xs) =
    let whole = ap (changes_at q) (reverse-append (x ∷ []) xs) ∙ changes-append q (reverse xs) (x ∷ []) in
    let rest = changes-reverse q xs in
    omega arith

names-append : (xs ys : List Step) → AllNameOnce xs → AllNameOnce ys → AllNameOnce (xs ++ ys)
names-append [] ys h g = g
names-append (x ∷ xs) ys h g = (h.0, names-append xs ys h.1 g)

names-reverse : (xs : List Step) → AllNameOnce xs → AllNameOnce (reverse xs)
names-reverse [] h = tt
names-reverse (x ∷ xs) h = subst AllNameOnce (sym (reverse-append (x ∷ []) xs)) (names-append (reverse xs) (x ∷ []) (names-reverse xs h.1) (h.0, tt))

-- ---- one more

one-at-most : (b : Bool) → one_if b ≤ 1
one-at-most true = omega arith
one-at-most false = omega arith

-- nothing more
pub once-same : (p : Path) (old new : List Step) → new ≡ old → AreOnceMore p old new
once-same p old new same = record {
  places = λ q. let e = ap (changes_at q) same in omega arith;
  others = λ q u. ap (changes_at q) same;
  names = λ h. subst AllNameOnce (sym same) h;
}

-- a change that is put behind the others is at its own place alone
pub added-others : (b : Bool) (p : Path) (x : PlaceChange) (old new : List Step) → MayAdd b p x old new → (q : Path) → same_path q p ≡ false
    → changes_at q new ≡ changes_at q old
added-others true p x old new added q other = ap (changes_at q) added
added-others false p x old new added q other =
    let s = added.0 in
    let whole = ap (changes_at q) added.3 ∙ changes-append q old (s ∷ []) in
    let none : one_if (same_path q (path_view s.path.items)) ≡ 0 = ap (λ r. one_if (same_path q r)) added.1 ∙ ap one_if other in
    omega arith

-- one change of the place more
pub once-added : (p : Path) (x : PlaceChange) (old new : List Step) → ChangeNamesOnce x → MayAdd false p x old new → AreOnceMore p old new
once-added p x old new once added = record {
  places = λ q.
      let whole = ap (changes_at q) added.3 ∙ changes-append q old (added.0 ∷ []) in
      let one = one-at-most (same_path q (path_view added.0.path.items)) in
      omega arith;
  others = λ q u. added-others false p x old new added q (ap (same_path q) (sym (append-nil p)) ∙ not-below p q [] u);
  names = λ h. subst AllNameOnce (sym added.3) (names-append old (added.0 ∷ []) h (subst ChangeNamesOnce (sym added.2) once, tt));
}

-- changes in a child
pub once-child : (p : Path) (e : Element) (old new : List Step) → AreOnceMore (p ++ e ∷ []) old new → AreOnceMore p old new
once-child p e old new h = record { places = h.places; others = λ q u. h.others q (under-longer p (e ∷ []) q u); names = h.names }

-- one after the other, where no place is changed by both
pub once-then : (p : Path) (xs ys zs : List Step) → AreOnceMore p xs ys → AreOnceMore p ys zs → ((q : Path) → changes_at q zs ≤ changes_at q xs + 1)
    → AreOnceMore p xs zs
once-then p xs ys zs g h places = record {
  places = places;
  others = λ q u. h.others q u ∙ g.others q u;
  names = λ n. h.names (g.names n);
}

-- a change of the place itself after changes elsewhere
pub once-last : (b : Bool) (p : Path) (x : PlaceChange) (xs ys zs : List Step) → changes_at p ys ≡ changes_at p xs
    → ((q : Path) → changes_at q ys ≤ changes_at q xs + 1) → MayAdd b p x ys zs → ((q : Path) → changes_at q zs ≤ changes_at q ys + 1)
    → (q : Path) → changes_at q zs ≤ changes_at q xs + 1
once-last b p x xs ys zs none first added second q =
    elim (same_path q p) as (λ t. same_path q p ≡ t → changes_at q zs ≤ changes_at q xs + 1) [
      | true ↦ λ t.
          let is = same_path-true q p t in
          let same : changes_at q ys ≡ changes_at q xs = (λ i. changes_at (is i) ys) ∙ none ∙ (λ i. changes_at (sym is i) xs) in
          let more = second q in
          omega arith
      | false ↦ λ t.
          let same = added-others b p x ys zs added q t in
          let more = first q in
          omega arith
    ] refl

-- behind none
pub once-all : (p : Path) (old new : List Step) → old ≡ [] → AreOnceMore p old new → AreOnce new
once-all p old new none h = record {
  places = λ q. let e = ap (changes_at q) none in let more = h.places q in omega arith;
  names = h.names (subst AllNameOnce (sym none) tt);
}

-- no changes say nothing twice
pub once-none : (ss : List Step) → ss ≡ [] → AreOnce ss
once-none ss none = subst AreOnce (sym none) (record { places = λ q. omega arith; names = tt })

-- ---- turned

edit-names : (s t : ChildrenEdit) (v w : Place) → NamesOnce s → EditFits s v → EditGives s v t w → NamesOnce t
edit-names s t v w once fits gives = record {
  gone = ap are_apart (gives.gone_named ∙ names-kids s.held.items) ∙ once.come;
  come = ap are_apart (sym (names-kids t.held.items) ∙ ap names gives.held ∙ sym fits.gone_named) ∙ once.gone;
  trees = gives.trees;
  held = (edit-back s t v w fits gives).held;
}

change-names : (x y : PlaceChange) (v w : Place) → ChangeNamesOnce x → ChangeFits x v → ChangeGives x v y w → ChangeNamesOnce y
change-names (Leaf s) (Leaf t) v w once fits gives = tt
change-names (Leaf s) (Children t) v w once fits gives = absurd gives
change-names (Children s) (Leaf t) v w once fits gives = absurd gives
change-names (Children s) (Children t) v w once fits gives = edit-names s.value t.value v w once fits gives

names-in : (x y : PlaceChange) (a b : Option Node) → ChangeNamesOnce x → FitsIn (λ n. ChangeFits x (seen n)) a
    → GivesIn (λ n m. ChangeGives x (seen n) y (seen m)) a b → ChangeNamesOnce y
names-in x y None b once fits gives = absurd fits
names-in x y (Some n) None once fits gives = absurd gives
names-in x y (Some n) (Some m) once fits gives = change-names x y (seen n) (seen m) once fits gives

names-left : (ss : List Step) (v : Node) (ts : List Step) (w : Node) → AllNameOnce ss → StepsFit ss v → StepsLead ss v ts w → AllNameOnce ts
names-left [] v [] w once fits leads = tt
names-left [] v (t ∷ ts) w once fits leads = absurd leads
names-left (s ∷ ss) v [] w once fits leads = absurd leads
names-left (s ∷ ss) v (t ∷ ts) w once fits leads = (
  names-in s.change t.change (node_on (path_view s.path.items) v) (node_on (path_view s.path.items) leads.0) once.0 fits.0 leads.1.change.inside,
  names-left ss leads.0 ts w once.1 (fits.1 t leads.0 leads.1) leads.2,
)

changes-left : (q : Path) (ss : List Step) (v : Node) (ts : List Step) (w : Node) → StepsLead ss v ts w → changes_at q ts ≡ changes_at q ss
changes-left q [] v [] w leads = refl
changes-left q [] v (t ∷ ts) w leads = absurd leads
changes-left q (s ∷ ss) v [] w leads = absurd leads
changes-left q (s ∷ ss) v (t ∷ ts) w leads =
    λ i. one_if (same_path q (path_view (leads.1.path i))) + changes-left q ss leads.0 ts w leads.2 i

-- what a turn leaves, the last first
pub once-turned : (ss : List Step) (v : Node) (ts : List Step) (w : Node) → AreOnce ss → StepsFit ss v → StepsLead ss v (reverse ts) w → AreOnce ts
once-turned ss v ts w once fits leads = record {
  places = λ q.
      let same = sym (changes-reverse q ts) ∙ changes-left q ss v (reverse ts) w leads in
      let more = once.places q in
      omega arith;
  names = subst AllNameOnce (reverse-reverse ts) (names-reverse (reverse ts) (names-left ss v (reverse ts) w once.names fits leads));
}

-- ---- copied

edit-names-copied : (s c : ChildrenEdit) → EditIsCopied s c → NamesOnce s → NamesOnce c
edit-names-copied s c copy once =
    let same = kept-same c.held.items s.held.items copy.held in
    record {
      gone = ap are_apart copy.gone_named ∙ once.gone;
      come = ap are_apart same.elements_same ∙ once.come;
      trees = same.trees_same ∙ once.trees;
      held = sym (length-map c.held.items _) ∙ ap length copy.held ∙ length-map s.held.items _ ∙ once.held ∙ ap length (sym copy.come);
    }

change-names-copied : (x y : PlaceChange) → ChangeIsCopied x y → ChangeNamesOnce x → ChangeNamesOnce y
change-names-copied (Leaf s) (Leaf c) copy once = tt
change-names-copied (Leaf s) (Children c) copy once = absurd copy
change-names-copied (Children s) (Leaf c) copy once = absurd copy
change-names-copied (Children s) (Children c) copy once = edit-names-copied s.value c.value copy once

changes-copied : (q : Path) (ss cs : List Step) → AllZip StepIsCopied ss cs → changes_at q cs ≡ changes_at q ss
changes-copied q [] [] z = refl
changes-copied q [] (c ∷ cs) z = absurd z
changes-copied q (s ∷ ss) [] z = absurd z
changes-copied q (s ∷ ss) (c ∷ cs) z = λ i. one_if (same_path q (z.0.path i)) + changes-copied q ss cs z.1 i

names-copied : (ss cs : List Step) → AllZip StepIsCopied ss cs → AllNameOnce ss → AllNameOnce cs
names-copied [] [] z once = tt
names-copied [] (c ∷ cs) z once = absurd z
names-copied (s ∷ ss) [] z once = absurd z
names-copied (s ∷ ss) (c ∷ cs) z once = (change-names-copied s.change c.change z.0.change once.0, names-copied ss cs z.1 once.1)

-- copies of changes that say nothing twice say nothing twice
pub once-copied : (ss cs : List Step) → AllZip StepIsCopied ss cs → AreOnce ss → AreOnce cs
once-copied ss cs z once = record {
  places = λ q. let same = changes-copied q ss cs z in let more = once.places q in omega arith;
  names = names-copied ss cs z once.names;
}
