-- Changes that lead what a tree tells at a path to something else and say what is other: one after the other, in a child, of a leaf.
use Rattle.std.proofs.Common.{◌≡◌, ◌+◌, ◌≤◌, List, [], ◌∷◌, ◌++◌, true, false, not, true≢false, Option, Some, None, reverse, refl, sym, ap, subst, ◌∙◌, append_assoc, append-nil}
use Rattle.std.proofs.lemmas.List.{reverse-append}
use Rattle.std.specs.Prelude.{is_some, if◌then◌else◌}
use Rattle.ssa_model.specs.definitions.Json.{same_scalar, same_json}
use Rattle.ssa_model.specs.definitions.Body.{Content, leaf, atom, record_branch, dict_branch, list_branch, is_leaf}
use Rattle.ssa_model.specs.definitions.Path.{Element, Path, under}
use Rattle.ssa_model.specs.definitions.Record.{new_order}
use Rattle.ssa_model.proofs.Scalars.{same_scalar-true}
use Rattle.ssa_model.proofs.SameValues.{same_json-true}
use Rattle.ssa_model.proofs.Tests.{symmetric}
use Rattle.ssa_json.specs.View.{scalar_view, view}
use Rattle.ssa_path.specs.View.{path_view}
use Rattle.ssa_typed.specs.Rows.{leaf_content}
use Rattle.ssa_typed.specs.declared.node.Leaf.{Leaf}
use Rattle.ssa_typed.specs.declared.node.Leaf.TheVariants.{Scalar, Atomic}
use Rattle.ssa_typed.specs.declared.node.Node.{Node}
use Rattle.ssa_typed.proofs.OverNodes.{leaf-there}
use Rattle.ssa_turn_body.specs.Changes.{ChangeFits, ChangeGives}
use Rattle.ssa_turn_body.specs.Led.{AreLeading, AreSaying, IsLed, MayAdd}
use Rattle.ssa_turn_body.specs.Lean.{IsLean}
use Rattle.ssa_turn_body.specs.Marks.{Marks, Place}
use Rattle.ssa_turn_body.specs.Once.{changes_at}
use Rattle.ssa_turn_body.specs.Said.{AreTold, between, contents, is_swapped}
use Rattle.ssa_turn_body.specs.Steps.{StepsLead}
use Rattle.ssa_turn_body.specs.Told.{content_told, from_place}
use Rattle.ssa_turn_body.specs.declared.change.PlaceChange.{PlaceChange}
use Rattle.ssa_turn_body.specs.declared.change.PlaceChange.TheVariants.{Leaf as LeafChange, Children as ChildrenChange}
use Rattle.ssa_turn_body.specs.declared.children.LeafSwap.{LeafSwap}
use Rattle.ssa_turn_body.specs.declared.steps.Step.{Step}
use Rattle.ssa_turn_body.proofs.Leading.{below-is, lead-both, led-own, led-same, led-then, turned-own}
use Rattle.ssa_turn_body.proofs.LeanSteps.{both-lean}
use Rattle.ssa_turn_body.proofs.OnceOnly.{once-added, once-same, once-then}
use Rattle.ssa_turn_body.proofs.Returning.{leads-tree}
use Rattle.ssa_turn_body.proofs.Writables.{both-writable}
use Rattle.ssa_turn_body.specs.Writable.{IsWritable}
use Rattle.ssa_turn_body.proofs.Saying.{Joins, root-said, said_in, says-inside, says-outside, told-child, told-none, told-then}
use Rattle.ssa_model.proofs.Basics.{not_false as not_not}

-- ---- nothing to do

saying-same : (p : Path) (M N : Marks) → ((q : Path) → M q ≡ N q) → AreSaying p M N []
saying-same p M N same = record {
  told = subst (λ (n : Marks). AreTold p (contents M) (contents n) []) (λ i q. same q i) (told-none p (contents M));
  back = λ v tree is ts w l. none v ts w l;
}
  where
    none : (v : Node) (ts : List Step) (w : Node) → StepsLead [] v ts w → AreTold p (contents N) (contents M) (reverse ts)
    none v [] w l = subst (λ (n : Marks). AreTold p (contents n) (contents M) []) (λ i q. same q i) (told-none p (contents M))
    none v (t ∷ ts) w l = absurd l

-- where both tell the same, no change more leads from the one to the other
pub leading-same : (p : Path) (M N : Marks) (xs ys : List Step) → ys ≡ xs → ((q : Path) → M q ≡ N q) → AreLeading p M N xs ys
leading-same p M N xs ys e same = record {
  made = [];
  added = e ∙ sym (append-nil xs);
  led = led-same p M N same;
  saying = saying-same p M N same;
  once = once-same p xs ys e;
  writable = tt;
  lean = tt;
}

-- ---- one after the other

saying-then : (p : Path) (M N O : Marks) (xs ys : List Step) → IsLed p M N xs → AreSaying p M N xs → AreSaying p N O ys
    → ((q : Path) → Joins (contents M) (contents N) (contents O) q) → AreSaying p M O (xs ++ ys)
saying-then p M N O xs ys led g h joins = record {
  told = told-then p (contents M) (contents N) (contents O) xs ys g.told h.told (λ q. (joins q).there);
  back = λ v tree is ts w l.
      let part = lead-both xs ys v ts w l in
      let first = led.lead v tree is part.front part.middle part.first in
      let second = h.back part.middle (leads-tree xs v part.front part.middle tree part.first) first.there part.back w part.second in
      subst (AreTold p (contents O) (contents M)) (sym (ap reverse part.whole ∙ reverse-append part.front part.back))
      (told-then p (contents O) (contents N) (contents M) (reverse part.back) (reverse part.front) second (g.back v tree is part.front part.middle part.first)
      (λ q. (joins q).back));
}

-- changes that lead to something, and others that lead on from there, lead there together
pub leading-then : (p : Path) (M N O : Marks) (xs ys zs : List Step) → ((q : Path) → Joins (contents M) (contents N) (contents O) q) → AreLeading p M N xs ys
    → AreLeading p N O ys zs → ((q : Path) → changes_at q zs ≤ changes_at q xs + 1) → AreLeading p M O xs zs
leading-then p M N O xs ys zs joins g h places = record {
  made = g.made ++ h.made;
  added = h.added ∙ ap (λ us. us ++ h.made) g.added ∙ append_assoc xs g.made h.made;
  led = led-then p M N O g.made h.made g.led h.led;
  saying = saying-then p M N O g.made h.made g.led g.saying h.saying joins;
  once = once-then p xs ys zs g.once h.once places;
  writable = both-writable g.made h.made g.writable h.writable;
  lean = both-lean g.made h.made g.lean h.lean;
}

-- ---- in a child

-- changes that say what is other in a child say what is other at its parent, where only this child differs
pub saying-child : (p : Path) (e : Element) (M M2 N N2 : Marks) (ss : List Step) → ((q : Path) → M (e ∷ q) ≡ N q) → ((q : Path) → M2 (e ∷ q) ≡ N2 q)
    → ((q : Path) → under (e ∷ []) q ≡ false → M2 q ≡ M q)
    → is_some (contents N []) ≡ true → is_some (contents N2 []) ≡ true → AreSaying (p ++ e ∷ []) N N2 ss → AreSaying p M M2 ss
saying-child p e M M2 N N2 ss own own2 others first second h = record {
  told =
      told-child p e (contents M) (contents M2) (contents N) (contents N2) ss (λ q. ap content_told (own q)) (λ q. ap content_told (own2 q))
      (λ q u. ap content_told (others q u)) first second h.told;
  back = λ v tree is ts w l.
      told-child p e (contents M2) (contents M) (contents N2) (contents N) (reverse ts) (λ q. ap content_told (own2 q)) (λ q. ap content_told (own q))
      (λ q u. sym (ap content_told (others q u))) second first
      (h.back v tree (below-is p e M N own v is) ts w l);
}

-- ---- another leaf

leaf-order : (l : Leaf) (b : Option Content) → new_order (Some (leaf_content l)) b ≡ None
leaf-order (Scalar s) b = refl
leaf-order (Atomic v) b = refl

leaf-said : (own : Leaf) (l : LeafSwap) → is_swapped (leaf_content own) (leaf_content l.leaf) ≡ true → (q : Path)
    → said_in (LeafChange l) q ≡ between (contents (from_place (leaf_content own, []))) (contents (from_place (leaf_content l.leaf, []))) q
leaf-said own l other [] =
    (λ i. record {
      cut = None;
      leaf = if sym other i then Some (leaf_content l.leaf) else None;
      order = sym (leaf-order own (Some (leaf_content l.leaf))) i;
      put = None;
    })
    ∙ sym (root-said (contents (from_place (leaf_content own, []))) (contents (from_place (leaf_content l.leaf, []))))
leaf-said own l other (e ∷ q) = refl

leaf-step-told : (s : Step) (own : Leaf) (l : LeafSwap) → s.change ≡ LeafChange l → is_swapped (leaf_content own) (leaf_content l.leaf) ≡ true
    → AreTold (path_view s.path.items) (contents (from_place (leaf_content own, []))) (contents (from_place (leaf_content l.leaf, []))) (s ∷ [])
leaf-step-told s own l is other = record {
  inside = λ q. says-inside s q ∙ ap (λ x. said_in x q) is ∙ leaf-said own l other q;
  outside = λ q u. says-outside s q u;
}

-- the leaf that is taken out is told on the way back
leaf-step-back : (s t : Step) (own to : Leaf) (y : Place) → s.change ≡ LeafChange (record { leaf = to }) → t.path.items ≡ s.path.items
    → is_swapped (leaf_content to) (leaf_content own) ≡ true
    → ChangeGives s.change (leaf_content own, []) t.change y → AreTold (path_view s.path.items) (contents (from_place (leaf_content to, [])))
    (contents (from_place (leaf_content own, []))) (t ∷ [])
leaf-step-back s t own to y is path other given = by t.change refl (subst (λ x. ChangeGives x (leaf_content own, []) t.change y) is given)
  where
    by : (x : PlaceChange) → t.change ≡ x → ChangeGives (LeafChange (record { leaf = to })) (leaf_content own, []) x y
        → AreTold (path_view s.path.items) (contents (from_place (leaf_content to, []))) (contents (from_place (leaf_content own, []))) (t ∷ [])
    by (LeafChange u) e g =
        subst (λ ps. AreTold (path_view ps) (contents (from_place (leaf_content to, []))) (contents (from_place (leaf_content own, []))) (t ∷ [])) path
        (subst (λ c. AreTold (path_view t.path.items) (contents (from_place (leaf_content to, []))) (contents (from_place (c, []))) (t ∷ [])) (sym g.taken)
        (leaf-step-told t to u e (ap (is_swapped (leaf_content to)) (sym g.taken) ∙ other)))
    by (ChildrenChange u) e g = absurd g

-- a change of a leaf that differs leads from the one leaf to the other, and says so
pub leading-leaf : (p : Path) (own to : Leaf) (old new : List Step) → is_swapped (leaf_content own) (leaf_content to) ≡ true
    → is_swapped (leaf_content to) (leaf_content own) ≡ true → MayAdd false p (LeafChange (record { leaf = to })) old new
    → AreLeading p (from_place (leaf_content own, [])) (from_place (leaf_content to, [])) old new
leading-leaf p own to old new other other_back h = record {
  made = h.0 ∷ [];
  added = h.3;
  led = subst (λ r. IsLed r (from_place (leaf_content own, [])) (from_place (leaf_content to, [])) (h.0 ∷ [])) h.1
      (led-own h.0 (from_place (leaf_content own, [])) (from_place (leaf_content to, [])) (leaf_content own) [] refl
      (subst (λ x. ChangeFits x (leaf_content own, [])) (sym h.2) (leaf-there own))
      (λ t y g q. put t y (subst (λ x. ChangeGives x (leaf_content own, []) t y) h.2 g) q));
  saying = subst (λ r. AreSaying r (from_place (leaf_content own, [])) (from_place (leaf_content to, [])) (h.0 ∷ [])) h.1 (record {
    told = leaf-step-told h.0 own (record { leaf = to }) h.2 other;
    back =
        turned-own h.0 (from_place (leaf_content own, [])) (leaf_content own) [] refl
        (λ ts. AreTold (path_view h.0.path.items) (contents (from_place (leaf_content to, []))) (contents (from_place (leaf_content own, []))) (reverse ts))
        (λ t y path g. leaf-step-back h.0 t own to y h.2 path other_back g);
  });
  once = once-added p (LeafChange (record { leaf = to })) old new tt h;
  writable = (subst IsWritable (sym h.2) tt, tt);
  lean = (subst IsLean (sym h.2) tt, tt);
}
  where
    put : (t : PlaceChange) (y : Place) → ChangeGives (LeafChange (record { leaf = to })) (leaf_content own, []) t y → (q : Path)
        → from_place y q ≡ from_place (leaf_content to, []) q
    put (LeafChange t) y g q = λ i. from_place (g.put i, g.none_after i) q
    put (ChildrenChange t) y g q = absurd g

-- ---- whether leaves differ

-- contents of leaves that do not differ are one
pub contents-same : (c d : Content) → is_leaf (Some c) ≡ true → is_leaf (Some d) ≡ true → is_swapped c d ≡ false → c ≡ d
contents-same (leaf a) (leaf b) lc ld h = ap leaf (same_scalar-true a b (not_not _ h))
contents-same (leaf a) (atom w) lc ld h = absurd (true≢false h)
contents-same (leaf a) record_branch lc ld h = absurd (true≢false (sym ld))
contents-same (leaf a) dict_branch lc ld h = absurd (true≢false (sym ld))
contents-same (leaf a) (list_branch fs) lc ld h = absurd (true≢false (sym ld))
contents-same (atom v) (leaf b) lc ld h = absurd (true≢false h)
contents-same (atom v) (atom w) lc ld h = ap atom (same_json-true v w (not_not _ h))
contents-same (atom v) record_branch lc ld h = absurd (true≢false (sym ld))
contents-same (atom v) dict_branch lc ld h = absurd (true≢false (sym ld))
contents-same (atom v) (list_branch fs) lc ld h = absurd (true≢false (sym ld))
contents-same record_branch d lc ld h = absurd (true≢false (sym lc))
contents-same dict_branch d lc ld h = absurd (true≢false (sym lc))
contents-same (list_branch es) d lc ld h = absurd (true≢false (sym lc))

-- leaves that are not told to differ have one content
pub leaves-same : (l m : Leaf) → is_swapped (leaf_content l) (leaf_content m) ≡ false → leaf_content l ≡ leaf_content m
leaves-same l m = contents-same (leaf_content l) (leaf_content m) (leaf-there l) (leaf-there m)

-- two leaves differ the same either way round
pub swapped-back : (l m : Leaf) → is_swapped (leaf_content m) (leaf_content l) ≡ is_swapped (leaf_content l) (leaf_content m)
swapped-back (Scalar s) (Scalar t) = ap not (symmetric same_scalar same_scalar-true (scalar_view t) (scalar_view s))
swapped-back (Scalar s) (Atomic v) = refl
swapped-back (Atomic v) (Scalar t) = refl
swapped-back (Atomic v) (Atomic w) = ap not (symmetric same_json same_json-true (view w) (view v))
