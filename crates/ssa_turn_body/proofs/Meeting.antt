-- The walk over the live children of a place, along what is put over them: each stays and is led, or goes.
use Rattle.std.proofs.Common.{◌≡◌, ℕ, get_or, ◌+◌, ◌<◌, ◌≤◌, List, [], ◌∷◌, ◌++◌, length, drop, true, false, Some, refl, sym, ap, subst, ◌∙◌, append_assoc, arith}
use Rattle.std.proofs.lemmas.List.{length-append}
use Rattle.ssa_path.specs.Children.{child_at}
use Rattle.ssa_path.specs.View.{element_view}
use Rattle.ssa_path.proofs.Lists.{left-at}
use Rattle.ssa_typed.specs.Rows.{below, is_tree}
use Rattle.ssa_typed.specs.declared.node.Node.{Node}
use Rattle.ssa_typed.proofs.Lookups.{tree-child}
use Rattle.ssa_model.specs.definitions.Path.{Path}
use Rattle.ssa_turn_body.specs.Applying.{Gone, IsMet}
use Rattle.ssa_turn_body.specs.Marks.{Child}
use Rattle.ssa_turn_body.specs.Turnovers.{Passing, none_passes}
use Rattle.ssa_turn_body.specs.declared.steps.Step.{Step}
use Rattle.ssa_turn_body.proofs.Fates.{Fate, Stays, Goes, Comes, after, before, before-append, comers, comers-append}
use Rattle.ssa_turn_body.proofs.Passing.{IsPassing, next-there, one-longer, passing-goes, passing-start, passing-stays}

-- the children before this place were met: each stays and is led, or goes
pub record IsMeeting (p : Path) (gone : Gone) (live : Node) (config : List Child) (old : List Step) (i count : ℕ) (t : Passing) (steps : List Step) :
    Type 0 where
  -- what becomes of them
  pub fates : List Fate
  -- and what was done
  pub passing : IsPassing p gone live config old fates count t steps
  -- they and those from this place on are all
  pub whole : below live ≡ before fates ++ drop i (below live)
  -- there are so many
  pub place : i ≡ length (before fates)
  -- none comes
  pub none : comers fates ≡ []

-- at first none was met
pub meeting-start : (p : Path) (gone : Gone) (live : Node) (config : List Child) (old : List Step) (t : Passing) → t ≡ none_passes
    → IsMeeting p gone live config old 0 0 t old
meeting-start p gone live config old t none = record {
  fates = [];
  passing = passing-start p gone live config old t none;
  whole = refl;
  place = refl;
  none = refl;
}

-- no more stand afterwards than stood before and come
pub after-long : (fs : List Fate) → length (after fs) ≤ length (before fs) + length (comers fs)
after-long [] = omega arith
after-long (Stays c d ∷ fs) = let rest = after-long fs in omega arith
after-long (Goes c ∷ fs) = let rest = after-long fs in omega arith
after-long (Comes d ∷ fs) = let rest = after-long fs in omega arith

module _ (p : Path) (gone : Gone) (live : Node) (config : List Child) (old : List Step) (i count : ℕ) (t : Passing) (steps : List Step)
    (h : IsMeeting p gone live config old i count t steps) where
  -- no more stand there than were met
  pub meeting-count : count ≤ i
  meeting-count =
      let long = after-long h.fates in
      let counted = h.passing.counted in
      let none : length (comers h.fates) ≡ 0 = ap length h.none in
      let place = h.place in
      omega arith

  -- nor than there are live children
  pub meeting-few : count ≤ length (below live)
  meeting-few =
      let few = meeting-count in
      let place = h.place in
      let long = ap length h.whole ∙ length-append (before h.fates) (drop i (below live)) in
      omega arith

  module _ (tree : is_tree live ≡ true) (c : Child) (lt : i < length (below live)) (is : c ≡ get_or (below live) i c) where
    rest : List Child
    rest = drop (i + 1) (below live)

    split : below live ≡ before h.fates ++ c ∷ drop (i + 1) (below live)
    split = h.whole ∙ ap (λ l. before h.fates ++ l) (left-at (below live) i c lt is)

    -- the next child is a tree
    pub meeting-tree : is_tree c.1 ≡ true
    meeting-tree = tree-child live (element_view c.0) c.1 tree (next-there p gone live config old h.fates count t steps h.passing tree c _ split)

    -- the next child is that of its element
    pub meeting-there : child_at (element_view c.0) (below live) ≡ Some c.1
    meeting-there = next-there p gone live config old h.fates count t steps h.passing tree c _ split

    met-more : (f : Fate) → before (f ∷ []) ≡ c ∷ [] → below live ≡ before (h.fates ++ f ∷ []) ++ drop (i + 1) (below live)
    met-more f same =
        split ∙ sym (append_assoc (before h.fates) (c ∷ []) (drop (i + 1) (below live)))
        ∙ ap (λ l. l ++ drop (i + 1) (below live)) (sym (before-append h.fates (f ∷ []) ∙ ap (λ l. before h.fates ++ l) same))

    place-more : (f : Fate) → before (f ∷ []) ≡ c ∷ [] → i + 1 ≡ length (before (h.fates ++ f ∷ []))
    place-more f same = one-longer (before h.fates) _ c i h.place (before-append h.fates (f ∷ []) ∙ ap (λ l. before h.fates ++ l) same)

    none-more : (f : Fate) → comers (f ∷ []) ≡ [] → comers (h.fates ++ f ∷ []) ≡ []
    none-more f same = comers-append h.fates (f ∷ []) ∙ (λ j. h.none j ++ same j)

    -- it stays
    pub meeting-stays : (u : Passing) (steps2 : List Step) → IsMet true i p gone c (child_at (element_view c.0) config) t u steps steps2
        → IsMeeting p gone live config old (i + 1) (count + 1) u steps2
    meeting-stays u steps2 left =
        let more = passing-stays p gone live config old h.fates count t steps h.passing tree c _ split steps2 left.1 in
        record {
          fates = h.fates ++ Stays c (c.0, more.0) ∷ [];
          passing = subst (λ v. IsPassing p gone live config old (h.fates ++ Stays c (c.0, more.0) ∷ []) (count + 1) v steps2) (sym left.0) more.1;
          whole = met-more (Stays c (c.0, more.0)) refl;
          place = place-more (Stays c (c.0, more.0)) refl;
          none = none-more (Stays c (c.0, more.0)) refl;
        }

    -- it goes
    pub meeting-goes : (u : Passing) (steps2 : List Step) → IsMet false i p gone c (child_at (element_view c.0) config) t u steps steps2
        → IsMeeting p gone live config old (i + 1) count u steps2
    meeting-goes u steps2 left =
        let more = passing-goes p gone live config old h.fates count t steps h.passing tree c _ split i u h.place left.1 left.0 left.2 in
        record {
          fates = h.fates ++ Goes c ∷ [];
          passing = subst (λ xs. IsPassing p gone live config old (h.fates ++ Goes c ∷ []) count u xs) (sym left.3) more;
          whole = met-more (Goes c) refl;
          place = place-more (Goes c) refl;
          none = none-more (Goes c) refl;
        }
