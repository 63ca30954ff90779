-- What a live tree loses where a configuration is put over it and places are given up, level by level.
use Rattle.std.proofs.Common.{◌≡◌, ℕ, ◌+◌, ◌<◌, length, get_or, drop, List, [], ◌∷◌, Bool, true, false, not, ◌&&◌, ◌||◌, Option, Some, None, refl, sym, ap, subst, ◌∙◌, true≢false}
use Rattle.std.specs.Prelude.{is_some}
use Rattle.std.specs.List.{list_any}
use Rattle.ssa_model.specs.definitions.Path.{Element, Path, same_element, same_path, under}
use Rattle.ssa_model.specs.definitions.PathMap.{paths as set_paths}
use Rattle.ssa_model.proofs.Basics.{both-true as both, not_true, second_false, some≢none}
use Rattle.ssa_model.proofs.Pruned.{from_one}
use Rattle.ssa_model.proofs.Tables.{apart_by, element-itself as same_element-itself}
use Rattle.ssa_path.specs.Children.{child_at, elements, rises}
use Rattle.ssa_path.specs.Combine.{IsGrown}
use Rattle.ssa_path.specs.declared.element.Elem.{Elem}
use Rattle.ssa_path.specs.declared.trie.Trie.{Trie}
use Rattle.ssa_path.specs.Trie.{are_filled_tries, is_one_of, is_trie, paths, paths_below}
use Rattle.ssa_path.specs.View.{element_view}
use Rattle.ssa_path.proofs.Levels.{IsReading, any-below, any-level, found, one-below-root, same_path-reading, trie-parts, under-reading}
use Rattle.ssa_path.proofs.Lists.{left-at}
use Rattle.ssa_path.proofs.Orders.{both_first, both_second}
use Rattle.ssa_path.proofs.Searching.{child-found}
use Rattle.ssa_typed.specs.Cut.{goes, is_filled_in, paths_of, stays_by, AreUncut}
use Rattle.ssa_typed.specs.LostWith.{falls, tries_in, AreFallen, IsFallen, IsFree}
use Rattle.ssa_typed.specs.Lookup.{below_in, is_tree_in}
use Rattle.ssa_typed.specs.Points.{content_in, is_in_dict, point_in}
use Rattle.ssa_typed.specs.Rows.{below, content_at, is_tree, rows}
use Rattle.ssa_typed.specs.declared.node.Node.{Node}
use Rattle.ssa_typed.proofs.Cutting.{body-uncut, goes-below, one-below, point-at, point-left, reach, Staying}
use Rattle.ssa_typed.proofs.Leaving.{any-rests, rests}
use Rattle.ssa_typed.proofs.Looks.{get-body}
use Rattle.ssa_typed.proofs.Lookups.{content-level, content-root, tree-child}
use Rattle.ssa_typed.proofs.Making.{Test, IsMaking, front-own, making-all, making-more, making-none, making-skip}
use Rattle.ssa_typed.proofs.Restricting.{below_set}

-- ---- one level down

content-in : (config : Option Node) (e : Element) (p : Path) → is_tree_in config ≡ true
    → content_in config (e ∷ p) ≡ content_in (child_at e (below_in config)) p
content-in None e p h = refl
content-in (Some n) e p h = content-level n e p h

found-in : (R : Path → Path → Bool) (o : Option Trie) (p : Path) → found R o p ≡ list_any (R p) (paths_of o)
found-in R None p = refl
found-in R (Some t) p = refl

-- what is read of a trie behind an element is read of its children
pub level-in : (R : Path → Path → Bool) → IsReading R → (o : Option Trie) (e : Element) (p : Path)
    → list_any (R (e ∷ p)) (paths_of o) ≡ list_any (R (e ∷ p)) (paths_below (tries_in o))
level-in R r None e p = refl
level-in R r (Some t) e p = any-level R r t e p

-- a child of a tree is one, if there is a tree
pub tree-in : (config : Option Node) (e : Element) (y : Option Node) → is_tree_in config ≡ true → child_at e (below_in config) ≡ y → is_tree_in y ≡ true
tree-in config e None h is = refl
tree-in None e (Some c) h is = absurd (some≢none c (sym is))
tree-in (Some n) e (Some c) h is = tree-child n e c h is

-- what a trie has below it rises, and each is a trie with some path
pub parts-in : (o : Option Trie) (ts : List (Elem × Trie)) → ts ≡ tries_in o → is_filled_in o ≡ true
    → (rises (elements ts) ≡ true) × (are_filled_tries ts ≡ true)
parts-in None ts is h = rw is (refl, refl)
parts-in (Some t) ts is h = trie-parts t ts is (both_first (is_trie t) _ h)

-- ---- what is free

-- a child is free where its node is
pub free-child : (config : Option Node) (gs hs : List (Elem × Trie)) (e : Element) (t : Trie) (o : Option Trie) (y : Option Node) → is_tree_in config ≡ true
    → rises (elements gs) ≡ true → rises (elements hs) ≡ true → child_at e gs ≡ Some t → child_at e hs ≡ o → child_at e (below_in config) ≡ y
    → IsFree config (paths_below gs) (paths_below hs) → IsFree y (paths t) (paths_of o)
free-child config gs hs e t o y tree gone_rise held_rise goes_at held_at beside free g going =
    let facts = free (e ∷ g) (one-below e gs g gone_rise ∙ ap (λ x. is_one_of (paths_of x) g) goes_at ∙ going) in (
      ap is_some (sym (content-in config e g tree ∙ ap (λ x. content_in x g) beside)) ∙ facts.0,
      sym (any-below under under-reading e hs g held_rise ∙ found-in under (child_at e hs) g ∙ ap (λ x. list_any (under g) (paths_of x)) held_at) ∙ facts.1,
    )

-- below a place that is free all is
pub free-level : (y : Option Node) (g : Trie) (o : Option Trie) → IsFree y (paths g) (paths_of o)
    → IsFree y (paths_below (below_set g)) (paths_below (tries_in o))
free-level y g o free [] going = absurd (true≢false (sym going ∙ one-below-root (below_set g)))
free-level y g o free (e ∷ p) going =
    let facts = free (e ∷ p) (any-level same_path same_path-reading g e p ∙ going) in
    (facts.0, sym (level-in under under-reading o e p) ∙ facts.1)

-- where a node has no place, there is none
pub no-node : (y : Option Node) → is_some (content_in y []) ≡ false → y ≡ None
no-node None h = refl
no-node (Some n) h = absurd (true≢false (sym (ap is_some (content-root n)) ∙ h))

-- ---- the walk over the tries

-- what falls at the elements of the tries
abbrev pub falling : List Path → Node → Option Node → Test Trie Node
falling ps n config e part other p = is_some part && falls ps n config (e ∷ p)

-- whatever paths stay by themselves, the tries so far hold what falls at the elements of the tries before those that are left
abbrev pub IsFalling : Node → Option Node → List (Elem × Trie) → List (Elem × Trie) → List (Elem × Trie) → List (Elem × Trie) → Type 0
IsFalling n config gs hs left out =
    (ps : List Path) → AreUncut (is_in_dict n) (below n) (paths_below gs) (paths_below hs) ps → IsMaking (falling ps n config) gs [] left [] out

-- the trie of what falls at and below the child of an element
pub record IsPart (ps : List Path) (n : Node) (config : Option Node) (e : Element) (t : Trie) : Type 0 where
  -- its paths are those that fall
  pub paths_are : (p : Path) → is_one_of (paths t) p ≡ falls ps n config (e ∷ p)
  -- it is a trie
  pub trie : is_trie t ≡ true

module _ (n : Node) (config : Option Node) (gs hs : List (Elem × Trie)) (tree : is_tree n ≡ true) (config_tree : is_tree_in config ≡ true)
    (gone_rise : rises (elements gs) ≡ true) (held_rise : rises (elements hs) ≡ true) where
  abbrev Uncut : List Path → Type 0
  Uncut = AreUncut (is_in_dict n) (below n) (paths_below gs) (paths_below hs)

  abbrev IsNow : List (Elem × Trie) → List (Elem × Trie) → Type 0
  IsNow = IsFalling n config gs hs

  module _ (ps : List Path) (u : Uncut ps) (e : Element) (c : Node) (there : child_at e (below n) ≡ Some c) where
    member : (p : Path) → is_one_of ps (e ∷ p)
        ≡ stays_by (point_in (is_in_dict n) e (Some c) p) (goes (paths_of (child_at e gs)) p) (is_one_of (paths_of (child_at e hs)) p)
    member p = u e p ∙ (λ i. stays_by (point_in (is_in_dict n) e (there i) p) (goes-below e gs p gone_rise i) (one-below e hs p held_rise i))

    -- what falls at and below a child falls there of its node
    part-falls : (t w : Trie) (o : Option Trie) (y : Option Node) → child_at e gs ≡ Some t → child_at e hs ≡ o → child_at e (below_in config) ≡ y
        → IsFallen (point_in (is_in_dict n) e (Some c) []) c y (paths t) (paths_of o) w → IsPart ps n config e w
    part-falls t w o y goes_at held_at beside h = record {
      paths_are = λ p.
          h.paths_are (rests e ps) (λ q. any-rests same_path same_path-reading e ps q ∙ member q
          ∙ (λ i. stays_by (point-at (is_in_dict n) e c q i) (goes (paths_of (goes_at i)) q) (is_one_of (paths_of (held_at i)) q))) p
          ∙ (λ i. is_some (sym (content-level n e p tree ∙ ap (λ x. content_in x p) there) i)
          && not (is_some (sym (content-in config e p config_tree ∙ ap (λ x. content_in x p) beside) i) || any-rests under under-reading e ps p i));
      trie = h.trie;
    }

    -- nothing falls at and below a child of which nothing goes
    whole-stays : child_at e gs ≡ None → (p : Path) → is_some (content_at (rows c) p) ≡ true → list_any (under (e ∷ p)) ps ≡ true
    whole-stays none p place =
        let x = reach (is_in_dict n) e c p (ap is_some (get-body c p) ∙ place) in
        from_one (under (e ∷ p)) ps (e ∷ x.0)
        (member x.0 ∙ point-left (is_one_of (paths_of (child_at e hs)) x.0) x.1 (ap (λ o. goes (paths_of o) x.0) none))
        (both (same_element e e) (under p x.0) (same_element-itself e) x.2)

  nowhere-else : (ps : List Path) → Uncut ps → (e : Element) (p : Path) → child_at e gs ≡ None → falls ps n config (e ∷ p) ≡ false
  nowhere-else ps u e p none =
      elim (child_at e (below n)) as (λ o. child_at e (below n) ≡ o → falls ps n config (e ∷ p) ≡ false) [
        | None ↦ λ away. ap (λ o. is_some o && not (is_some (content_in config (e ∷ p)) || list_any (under (e ∷ p)) ps))
            (content-level n e p tree ∙ ap (λ o. content_in o p) away)
        | Some c ↦ λ there.
            apart_by (falls ps n config (e ∷ p)) (λ k.
            let place = sym (ap is_some (content-level n e p tree ∙ ap (λ o. content_in o p) there)) ∙ both_first (is_some (content_at (rows n) (e ∷ p))) _ k in
            let stays = not_true _ (both_second (is_some (content_at (rows n) (e ∷ p))) _ k) in
            true≢false (sym (whole-stays ps u e c there none p place) ∙ second_false (is_some (content_in config (e ∷ p))) _ stays))
      ] refl

  -- where no trie is left, all is there that falls below the node
  pub falling-all : (left out : List (Elem × Trie)) → left ≡ [] → IsNow left out → AreFallen n config (paths_below gs) (paths_below hs) out
  falling-all left out none h =
      let made = λ (ps : List Path) (u : Uncut ps). making-all (falling ps n config) gs [] left [] out (λ e p. refl) none refl (h ps u) in
      let some = set_paths (Staying n (paths_below gs) (paths_below hs)) in
      let by = made some (body-uncut n (paths_below gs) (paths_below hs) tree) in
      record {
        paths_are = λ ps u e p. (made ps u).paths_are e p
            ∙ elim (child_at e gs) as (λ o. child_at e gs ≡ o → (is_some o && falls ps n config (e ∷ p)) ≡ falls ps n config (e ∷ p)) [
              | None ↦ λ away. sym (nowhere-else ps u e p away)
              | Some t ↦ λ own. refl
            ] refl;
        risen = by.risen;
        tries = by.tries;
      }

  -- before the walk nothing is there
  pub falling-none : IsNow gs []
  falling-none ps u = making-none (falling ps n config) gs [] gone_rise refl

  module _ (i : ℕ) (part : Elem × Trie) (out : List (Elem × Trie)) (lt : i < length gs) (is : part ≡ get_or gs i part) (h : IsNow (drop i gs) out) where
    abbrev Rest : List (Elem × Trie)
    Rest = drop (i + 1) gs

    now : IsNow (part ∷ Rest) out
    now ps u = subst (λ l. IsMaking (falling ps n config) gs [] l [] out) (left-at gs i part lt is) (h ps u)

    -- the trie is that of its element
    pub own-trie : child_at (element_view part.0) gs ≡ Some part.1
    own-trie =
        child-found (element_view part.0) gs i part gone_rise lt
        (ap (λ (d : Elem × Trie). same_element (element_view part.0) (element_view d.0)) (sym is) ∙ same_element-itself (element_view part.0))
        ∙ ap (λ (d : Elem × Trie). Some d.1) (sym is)

    -- the next trie is passed, with what falls in the child of its element
    pub falling-more : (new : List (Elem × Trie)) (c : Node) (w : Trie) (o : Option Trie) (y : Option Node) → child_at (element_view part.0) (below n) ≡ Some c
        → child_at (element_view part.0) hs ≡ o → child_at (element_view part.0) (below_in config) ≡ y
        → IsFallen (point_in (is_in_dict n) (element_view part.0) (Some c) []) c y (paths part.1) (paths_of o) w
        → IsGrown (element_view part.0) w out new → IsNow Rest new
    falling-more new c w o y there held_at beside fallen grown ps u =
        let e = element_view part.0 in
        let g = now ps u in
        let told = part-falls ps u e c there part.1 w o y own-trie held_at beside fallen in
        making-more (falling ps n config) e (Some part.1) None gs [] (part ∷ Rest) [] Rest [] out new w (λ f p. refl)
        (front-own part Rest [] refl g.own_rise refl) (both_second _ _ g.own_rise) refl told.paths_are told.trie grown g

    -- the next trie is passed, where there is no child of its element
    pub falling-skip : child_at (element_view part.0) (below n) ≡ None → IsNow Rest out
    falling-skip away ps u =
        let e = element_view part.0 in
        let g = now ps u in
        making-skip (falling ps n config) e (Some part.1) None gs [] (part ∷ Rest) [] Rest [] out (λ f p. refl)
        (front-own part Rest [] refl g.own_rise refl) (both_second _ _ g.own_rise) refl
        (λ p. ap (λ o. is_some o && not (is_some (content_in config (e ∷ p)) || list_any (under (e ∷ p)) ps))
        (content-level n e p tree ∙ ap (λ o. content_in o p) away)) g
