-- Two lists of the same items, which stand in any order.
use Rattle.std.proofs.Common.{◌≡◌, ℕ, ◌+◌, ◌<◌, inl, inr, List, [], ◌∷◌, length, get_or, take, true, Option, Some, None, refl, sym, subst, ◌∙◌}
use Rattle.std.specs.List.{All}
use Rattle.std.proofs.lemmas.List.Elements.{All-push}
use Rattle.ssa_model.specs.definitions.Path.{Element}
use Rattle.ssa_model.proofs.Basics.{both-true as both, some≢none as some-none}
use Rattle.ssa_path.specs.Children.{child_at, elements}
use Rattle.ssa_path.specs.View.{element_view}
use Rattle.ssa_path.proofs.Lists.{taken-at}
use Rattle.ssa_path.proofs.Orders.{both_second}
use Rattle.ssa_typed.specs.Rows.{are_apart, are_trees, is_tree}
use Rattle.ssa_typed.specs.Same.{AreLeft, AreSame, IsLeft}
use Rattle.ssa_typed.specs.declared.node.Node.{Node}
use Rattle.ssa_typed.proofs.AsMany.{absent-too, among-found, of-found}
use Rattle.ssa_typed.proofs.Building.{Child}
use Rattle.ssa_typed.proofs.Lookups.{child-tree}
use Rattle.ssa_typed.proofs.OverNodes.{head-child, later-child}

-- under the element of a child stands the same tree among others
pub record IsSameAt (cs : List Child) (e : Element) (d : Node) : Type 0 where
  pub own : Node
  pub there : child_at e cs ≡ Some own
  pub same : AreSame own d

abbrev pub IsSameOf : List Child → Child → Type 0
IsSameOf cs d = IsSameAt cs (element_view d.0) d.1

-- one child more is the same
pub same-on : (cs ds : List Child) (i : ℕ) (d : Child) (own : Node) → i < length ds → d ≡ get_or ds i d → child_at (element_view d.0) cs ≡ Some own
    → AreSame own d.1 → All (IsSameOf cs) (take i ds) → All (IsSameOf cs) (take (i + 1) ds)
same-on cs ds i d own lt is there same h =
    subst (All (IsSameOf cs)) (sym (taken-at ds i d lt is))
    (All-push (IsSameOf cs) (take i ds) d h (record { own = own; there = there; same = same }))

-- where each of as many children stands among the others, none is left of either
pub none-left : (cs ds : List Child) → are_apart (elements ds) ≡ true → length ds ≡ length cs → All (IsSameOf cs) ds → AreLeft cs ds [] []
none-left cs ds apart long all = record { each = each; own_apart = refl; others_apart = refl }
  where
    same-in : (e : Element) (d : Node) → child_at e ds ≡ Some d → IsSameAt cs e d
    same-in = of-found (IsSameAt cs) ds all

    nowhere : (e : Element) → child_at e ds ≡ None → child_at e cs ≡ None
    nowhere = absent-too ds cs apart long (λ e d is. let h = same-in e d is in among-found e cs h.own h.there)

    each : (e : Element) → IsLeft (child_at e cs) (child_at e ds) None None
    each e =
        elim (child_at e ds) as (λ o. child_at e ds ≡ o → IsLeft (child_at e cs) (child_at e ds) None None) [
          | None ↦ λ h. inl (sym (nowhere e h), sym h)
          | Some d ↦ λ h.
              let one = same-in e d h in
              inr (record { own = one.own; other = d; own_is = one.there; other_is = h; same = one.same }, refl, refl)
        ] refl

-- children that are found as trees are trees
trees-all : (cs : List Child) → are_apart (elements cs) ≡ true → ((e : Element) (c : Node) → child_at e cs ≡ Some c → is_tree c ≡ true) → are_trees cs ≡ true
trees-all [] apart h = refl
trees-all (c ∷ cs) apart h =
    both _ _ (h (element_view c.0) c.1 (head-child c cs))
    (trees-all cs (both_second _ (are_apart (elements cs)) apart) (λ e d is. h e d (later-child c cs e d apart is)))

left-there : (c d own other : Option Node) (n : Node) → IsLeft c d own other → own ≡ Some n → c ≡ Some n
left-there c d own other n h is = elim h [
  | inl (same, other_same) ↦ sym same ∙ is
  | inr (pair, none, other_none) ↦ absurd (some-none n (sym is ∙ none))
]

other-there : (c d own other : Option Node) (n : Node) → IsLeft c d own other → other ≡ Some n → d ≡ Some n
other-there c d own other n h is = elim h [
  | inl (same, other_same) ↦ sym other_same ∙ is
  | inr (pair, none, other_none) ↦ absurd (some-none n (sym is ∙ other_none))
]

-- what is left of trees on both sides are trees
pub left-trees : (cs ds own others : List Child) → are_trees cs ≡ true → AreLeft cs ds own others → are_trees own ≡ true
left-trees cs ds own others trees h =
    trees-all own h.own_apart (λ e c is. child-tree e cs c trees (left-there (child_at e cs) (child_at e ds) (child_at e own) (child_at e others) c (h.each e) is))

pub other-left-trees : (cs ds own others : List Child) → are_trees ds ≡ true → AreLeft cs ds own others → are_trees others ≡ true
other-left-trees cs ds own others trees h =
    trees-all others h.others_apart (λ e c is. child-tree e ds c trees (other-there (child_at e cs) (child_at e ds) (child_at e own) (child_at e others) c (h.each e) is))
