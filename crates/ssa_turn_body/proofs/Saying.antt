-- What changes say of a path: of some changes and then of others, at a place, and in a child.
use Rattle.std.proofs.Common.{◌≡◌, List, [], ◌∷◌, ◌++◌, Bool, true, false, ◌&&◌, cond, not, Option, Some, None, option_map, refl, sym, ap, ◌∙◌, true≢false, append_assoc, append-nil}
use Rattle.std.specs.Cmp.Lexicographic.{pointwise}
use Rattle.std.specs.FinMap.Entries.{find}
use Rattle.std.specs.List.{position_from}
use Rattle.std.specs.Option.{option_or}
use Rattle.std.specs.Prelude.{is_some, if◌then◌else◌}
use Rattle.ssa_model.specs.definitions.Body.{Content, leaf, atom, record_branch, dict_branch, list_branch, order_at}
use Rattle.ssa_model.specs.definitions.Path.{Element, Path, path_cmp, same_element, same_path, parent, last_element, under}
use Rattle.ssa_model.specs.definitions.Record.{common, new_order}
use Rattle.ssa_members.proofs.Made.{option_or-none as or-none}
use Rattle.ssa_model.proofs.PathMaps.{same_path-true}
use Rattle.ssa_model.proofs.Pruned.{under-append}
use Rattle.ssa_model.proofs.Scalars.{same_scalar-itself}
use Rattle.ssa_model.proofs.SameValues.{same_json-itself}
use Rattle.ssa_path.specs.View.{path_view}
use Rattle.ssa_turn_body.specs.Records.{at_place, cuts_in, leaves_in, orders_in, parts_in, told_by}
use Rattle.ssa_turn_body.specs.Said.{AreTold, Contents, Said, between, is_topmost, says, shown, silent, stands_in, swapped}
use Rattle.ssa_turn_body.specs.declared.change.PlaceChange.{PlaceChange}
use Rattle.ssa_turn_body.specs.declared.steps.Step.{Step}
use Rattle.ssa_turn_body.proofs.Leading.{under-further, under-longer}
use Rattle.ssa_model.proofs.Fitting.{same_element-true}
use Rattle.ssa_model.proofs.PartValues.{same-below}
use Rattle.ssa_model.proofs.Tables.{element-itself as same_element-itself}

-- ---- entries at a place

-- a path that is not under another is none that goes on from it
pub not-below : (p q r : Path) → under p q ≡ false → same_path q (p ++ r) ≡ false
not-below p q r u =
    elim (same_path q (p ++ r)) as (λ b. same_path q (p ++ r) ≡ b → b ≡ false) [
      | true ↦ λ t. absurd (true≢false (sym (under-append p r) ∙ ap (under p) (sym (same_path-true q (p ++ r) t)) ∙ u))
      | false ↦ λ t. refl
    ] refl

module _ {X : Type 0} where
  find-both : (xs ys : List (Path × X)) (q : Path) → find path_cmp q (xs ++ ys) ≡ option_or (find path_cmp q xs) (find path_cmp q ys)
  find-both [] ys q = refl
  find-both (e ∷ xs) ys q =
      elim (same_path q e.0) as (λ t. cond t (Some e.1) (find path_cmp q (xs ++ ys))
      ≡ option_or (cond t (Some e.1) (find path_cmp q xs)) (find path_cmp q ys)) [ true ↦ refl | false ↦ find-both xs ys q ]

  find-inside : (p r : Path) (es : List (Path × X)) → find path_cmp (p ++ r) (at_place p es) ≡ find path_cmp r es
  find-inside p r [] = refl
  find-inside p r (e ∷ es) = λ i. cond (same-below p r e.0 i) (Some e.1) (find-inside p r es i)

  find-outside : (p q : Path) (es : List (Path × X)) → under p q ≡ false → find path_cmp q (at_place p es) ≡ None
  find-outside p q [] u = refl
  find-outside p q (e ∷ es) u = λ i. cond (not-below p q e.0 u i) (Some e.1) (find-outside p q es u i)

  module _ (f : PlaceChange → List (Path × X)) where
    -- what two lists of changes tell is what the first tells and what the second tells behind it
    pub told-append : (ss ts : List Step) → told_by f (ss ++ ts) ≡ told_by f ss ++ told_by f ts
    told-append [] ts = refl
    told-append (s ∷ ss) ts =
        ap (λ es. at_place (path_view s.path.items) (f s.change) ++ es) (told-append ss ts)
        ∙ sym (append_assoc (at_place (path_view s.path.items) (f s.change)) (told_by f ss) (told_by f ts))

    find-told : (ss ts : List Step) (q : Path) → find path_cmp q (told_by f (ss ++ ts))
        ≡ option_or (find path_cmp q (told_by f ss)) (find path_cmp q (told_by f ts))
    find-told ss ts q = ap (find path_cmp q) (told-append ss ts) ∙ find-both (told_by f ss) (told_by f ts) q

    one-inside : (s : Step) (r : Path) → find path_cmp (path_view s.path.items ++ r) (told_by f (s ∷ [])) ≡ find path_cmp r (f s.change)
    one-inside s r =
        ap (find path_cmp (path_view s.path.items ++ r)) (append-nil (at_place (path_view s.path.items) (f s.change)))
        ∙ find-inside (path_view s.path.items) r (f s.change)

    one-outside : (s : Step) (q : Path) → under (path_view s.path.items) q ≡ false → find path_cmp q (told_by f (s ∷ [])) ≡ None
    one-outside s q u =
        ap (find path_cmp q) (append-nil (at_place (path_view s.path.items) (f s.change))) ∙ find-outside (path_view s.path.items) q (f s.change) u

-- ---- some changes, and then others

-- what the first says, and where it says nothing what the second says
abbrev pub or_said : Said → Said → Said
or_said x y = record { cut = option_or x.cut y.cut; leaf = option_or x.leaf y.leaf; order = option_or x.order y.order; put = option_or x.put y.put }

map-or : {A B : Type 0} (f : A → B) (a b : Option A) → option_map f (option_or a b) ≡ option_or (option_map f a) (option_map f b)
map-or f None b = refl
map-or f (Some x) b = refl

-- with nothing said behind it, it is what was said
pub or-silent : (x : Said) → or_said x silent ≡ x
or-silent x = λ i. record { cut = or-none x.cut i; leaf = or-none x.leaf i; order = or-none x.order i; put = or-none x.put i }

-- two lists of changes say of a path what the first says, and else what the second says
pub says-both : (ss ts : List Step) (q : Path) → says (ss ++ ts) q ≡ or_said (says ss q) (says ts q)
says-both ss ts q =
    let cut = find-told cuts_in ss ts q in
    let leaf = find-told leaves_in ss ts q in
    let order = find-told orders_in ss ts q in
    let put =
    ap (option_map shown) (find-told parts_in ss ts q) ∙ map-or shown (find path_cmp q (told_by parts_in ss)) (find path_cmp q (told_by parts_in ts)) in
    λ i. record { cut = cut i; leaf = leaf i; order = order i; put = put i }

-- what one change says of a path from its place on
abbrev pub said_in : PlaceChange → Path → Said
said_in x r = record {
  cut = find path_cmp r (cuts_in x);
  leaf = find path_cmp r (leaves_in x);
  order = find path_cmp r (orders_in x);
  put = option_map shown (find path_cmp r (parts_in x));
}

-- a change says at and below its place what it says from there on
pub says-inside : (s : Step) (r : Path) → says (s ∷ []) (path_view s.path.items ++ r) ≡ said_in s.change r
says-inside s r =
    λ i. record {
      cut = one-inside cuts_in s r i;
      leaf = one-inside leaves_in s r i;
      order = one-inside orders_in s r i;
      put = option_map shown
          (one-inside parts_in s r i);
    }

-- a change says nothing of a path elsewhere
pub says-outside : (s : Step) (q : Path) → under (path_view s.path.items) q ≡ false → says (s ∷ []) q ≡ silent
says-outside s q u =
    λ i. record {
      cut = one-outside cuts_in s q u i;
      leaf = one-outside leaves_in s q u i;
      order = one-outside orders_in s q u i;
      put = option_map shown
          (one-outside parts_in s q u i);
    }

-- ---- what two bodies say of a path of both

-- what two contents say: another leaf, another order, nothing cut and nothing put
abbrev pub content_said : Option Content → Option Content → Said
content_said a b = record { cut = None; leaf = swapped a b; order = new_order a b; put = None }

shut : (m n : Contents) (p : Path) → is_topmost n m p ≡ false → is_topmost m n p ≡ false → between m n p ≡ content_said (m p) (n p)
shut m n p a b = λ i. record {
  cut = if a i then Some tt else None;
  leaf = swapped (m p) (n p);
  order = new_order (m p) (n p);
  put = if b i then Some (λ q. n (p ++ q), stands_in n p) else None;
}

root-shut : (a b : Bool) → (a && (not b && b)) ≡ false
root-shut true true = refl
root-shut true false = refl
root-shut false b = refl

-- of the root two bodies say what its two contents say
pub root-said : (m n : Contents) → between m n [] ≡ content_said (m []) (n [])
root-said m n = shut m n [] (root-shut (is_some (m [])) (is_some (n []))) (root-shut (is_some (n [])) (is_some (m [])))

there-shut : (a b c : Bool) → b ≡ true → (a && (not b && c)) ≡ false
there-shut true true c e = refl
there-shut true false c e = absurd (true≢false (sym e))
there-shut false b c e = refl

-- of a path of both two bodies say what its two contents say
pub there-said : (m n : Contents) (p : Path) → is_some (m p) ≡ true → is_some (n p) ≡ true → between m n p ≡ content_said (m p) (n p)
there-said m n p a b =
    shut m n p (there-shut (is_some (m p)) (is_some (n p)) (is_some (n (parent p))) b) (there-shut (is_some (n p)) (is_some (m p)) (is_some (m (parent p))) a)

-- a content is no other leaf than itself
pub swap-itself : (a : Option Content) → swapped a a ≡ None
swap-itself None = refl
swap-itself (Some (leaf s)) = ap (λ b. if not b then Some (leaf s) else None) (same_scalar-itself s)
swap-itself (Some (atom v)) = ap (λ b. if not b then Some (atom v) else None) (same_json-itself v)
swap-itself (Some record_branch) = refl
swap-itself (Some dict_branch) = refl
swap-itself (Some (list_branch es)) = refl

-- a list has the same elements as itself
pub elements-themselves : (es : List Element) → pointwise same_element es es ≡ true
elements-themselves [] = refl
elements-themselves (e ∷ es) = λ i. same_element-itself e i && elements-themselves es i

-- a content has no other order than itself
pub order-itself : (a : Option Content) → new_order a a ≡ None
order-itself None = refl
order-itself (Some (leaf s)) = refl
order-itself (Some (atom v)) = refl
order-itself (Some record_branch) = refl
order-itself (Some dict_branch) = refl
order-itself (Some (list_branch es)) = ap (λ b. if not b then Some es else None) (elements-themselves (common es es))

-- a content and itself say nothing
pub content-itself : (a : Option Content) → content_said a a ≡ silent
content-itself a = λ i. record { cut = None; leaf = swap-itself a i; order = order-itself a i; put = None }

-- ---- what two bodies say where a third is as one of them

-- both have the same at the place above, and from the path on
pub record IsAround (m n : Contents) (p : Path) : Type 0 where
  -- both have the same at the place above
  pub above : m (parent p) ≡ n (parent p)
  -- both have the same from the path on
  pub from : (q : Path) → m (p ++ q) ≡ n (p ++ q)

around-back : (m n : Contents) (p : Path) → IsAround m n p → IsAround n m p
around-back m n p h = record { above = sym h.above; from = λ q. sym (h.from q) }

around-here : (m n : Contents) (p : Path) → IsAround m n p → m p ≡ n p
around-here m n p h = ap m (sym (append-nil p)) ∙ h.from [] ∙ ap n (append-nil p)

around-second : (m n o : Contents) (p : Path) → IsAround n o p → between m n p ≡ between m o p
around-second m n o p h =
    let here = around-here n o p h in
    λ i. record {
      cut = if is_some (m p) && (not (is_some (here i)) && is_some (h.above i)) then Some tt else None;
      leaf = swapped (m p) (here i);
      order = new_order (m p) (here i);
      put =
          if is_some (here i) && (not (is_some (m p)) && is_some (m (parent p)))
          then Some (λ q. h.from q i, elim (last_element p) [ None ↦ None | Some e ↦ position_from (same_element e) 0 (order_at (h.above i)) ]) else None;
    }

around-first : (m n o : Contents) (p : Path) → IsAround m n p → between m o p ≡ between n o p
around-first m n o p h =
    let here = around-here m n p h in
    λ i. record {
      cut = if is_some (here i) && (not (is_some (o p)) && is_some (o (parent p))) then Some tt else None;
      leaf = swapped (here i) (o p);
      order = new_order (here i) (o p);
      put = if is_some (o p) && (not (is_some (here i)) && is_some (h.above i)) then Some (λ q. o (p ++ q), stands_in o p) else None;
    }

same-shut : (a c : Bool) → (a && (not a && c)) ≡ false
same-shut true c = refl
same-shut false c = refl

-- a body and itself say nothing of any path
pub between-itself : (m : Contents) (p : Path) → between m m p ≡ silent
between-itself m p = shut m m p (same-shut (is_some (m p)) (is_some (m (parent p)))) (same-shut (is_some (m p)) (is_some (m (parent p)))) ∙ content-itself (m p)

-- where two bodies have the same around a path, they say nothing of it
pub around-silent : (m n : Contents) (p : Path) → IsAround m n p → between m n p ≡ silent
around-silent m n p h = around-first m n n p h ∙ between-itself n p

-- what the first and the second say, and then the second and the third, is what the first and the third say, and so the other way
pub record Joins (m n o : Contents) (p : Path) : Type 0 where
  -- there, both together say what the first and the third say
  pub there : or_said (between m n p) (between n o p) ≡ between m o p
  -- and so they do the other way
  pub back : or_said (between o n p) (between n m p) ≡ between o m p

-- where the first two are the same around a path, it joins
pub joins-first : (m n o : Contents) (p : Path) → IsAround m n p → Joins m n o p
joins-first m n o p h = record {
  there = ap (λ x. or_said x (between n o p)) (around-silent m n p h) ∙ sym (around-first m n o p h);
  back = ap (or_said (between o n p)) (around-silent n m p (around-back m n p h)) ∙ or-silent (between o n p) ∙ around-second o n m p (around-back m n p h);
}

-- where the last two are the same around a path, it joins
pub joins-second : (m n o : Contents) (p : Path) → IsAround n o p → Joins m n o p
joins-second m n o p h = record {
  there = ap (or_said (between m n p)) (around-silent n o p h) ∙ or-silent (between m n p) ∙ around-second m n o p h;
  back = ap (λ x. or_said x (between n m p)) (around-silent o n p (around-back n o p h)) ∙ sym (around-first o n m p (around-back n o p h));
}

-- a path of all three, or the root
pub record AreStill (m n o : Contents) (p : Path) : Type 0 where
  -- the first and the second say what their contents say
  pub first : between m n p ≡ content_said (m p) (n p)
  -- the second and the third say what their contents say
  pub second : between n o p ≡ content_said (n p) (o p)
  -- the first and the third say what their contents say
  pub whole : between m o p ≡ content_said (m p) (o p)
  -- the second and the first say what their contents say
  pub first_back : between n m p ≡ content_said (n p) (m p)
  -- the third and the second say what their contents say
  pub second_back : between o n p ≡ content_said (o p) (n p)
  -- the third and the first say what their contents say
  pub whole_back : between o m p ≡ content_said (o p) (m p)

-- the root is such a path
pub still-root : (m n o : Contents) → AreStill m n o []
still-root m n o = record {
  first = root-said m n;
  second = root-said n o;
  whole = root-said m o;
  first_back = root-said n m;
  second_back = root-said o n;
  whole_back = root-said o m;
}

-- a path that all three have is such a path
pub still-there : (m n o : Contents) (p : Path) → is_some (m p) ≡ true → is_some (n p) ≡ true → is_some (o p) ≡ true → AreStill m n o p
still-there m n o p a b c = record {
  first = there-said m n p a b;
  second = there-said n o p b c;
  whole = there-said m o p a c;
  first_back = there-said n m p b a;
  second_back = there-said o n p c b;
  whole_back = there-said o m p c a;
}

content-first : (a b c : Option Content) → a ≡ b → or_said (content_said a b) (content_said b c) ≡ content_said a c
content-first a b c e = ap (λ x. or_said (content_said a x) (content_said x c)) (sym e) ∙ ap (λ x. or_said x (content_said a c)) (content-itself a)

content-second : (a b c : Option Content) → b ≡ c → or_said (content_said a b) (content_said b c) ≡ content_said a c
content-second a b c e =
    ap (λ x. or_said (content_said a b) (content_said b x)) (sym e) ∙ ap (or_said (content_said a b)) (content-itself b) ∙ or-silent (content_said a b)
    ∙ ap (content_said a) e

-- where such a path has one content in the first two, it joins
pub joins-still-first : (m n o : Contents) (p : Path) → AreStill m n o p → m p ≡ n p → Joins m n o p
joins-still-first m n o p s e = record {
  there = (λ i. or_said (s.first i) (s.second i)) ∙ content-first (m p) (n p) (o p) e ∙ sym s.whole;
  back = (λ i. or_said (s.second_back i) (s.first_back i)) ∙ content-second (o p) (n p) (m p) (sym e) ∙ sym s.whole_back;
}

-- where such a path has one content in the last two, it joins
pub joins-still-second : (m n o : Contents) (p : Path) → AreStill m n o p → n p ≡ o p → Joins m n o p
joins-still-second m n o p s e = record {
  there = (λ i. or_said (s.first i) (s.second i)) ∙ content-second (m p) (n p) (o p) e ∙ sym s.whole;
  back = (λ i. or_said (s.second_back i) (s.first_back i)) ∙ content-first (o p) (n p) (m p) (sym e) ∙ sym s.whole_back;
}

-- ---- changes

-- no changes say that nothing is other
pub told-none : (p : Path) (m : Contents) → AreTold p m m []
told-none p m = record { inside = λ q. sym (between-itself m q); outside = λ q u. refl }

-- changes that say what is other, and others that go on from there, say together what is other in all
pub told-then : (p : Path) (m n o : Contents) (xs ys : List Step) → AreTold p m n xs → AreTold p n o ys
    → ((q : Path) → or_said (between m n q) (between n o q) ≡ between m o q) → AreTold p m o (xs ++ ys)
told-then p m n o xs ys g h joins = record {
  inside = λ q. says-both xs ys (p ++ q) ∙ (λ i. or_said (g.inside q i) (h.inside q i)) ∙ joins q;
  outside = λ q u. says-both xs ys q ∙ (λ i. or_said (g.outside q u i) (h.outside q u i));
}

-- ---- in a child

module _ (e : Element) (m m2 n n2 : Contents) (own : (q : Path) → m (e ∷ q) ≡ n q) (own2 : (q : Path) → m2 (e ∷ q) ≡ n2 q) (first : is_some (n []) ≡ true)
    (second : is_some (n2 []) ≡ true) where
  between-child : (q : Path) → between n n2 q ≡ between m m2 (e ∷ q)
  between-child [] =
      root-said n n2 ∙ (λ i. content_said (sym (own []) i) (sym (own2 []) i))
      ∙ sym (there-said m m2 (e ∷ []) (ap is_some (own []) ∙ first) (ap is_some (own2 []) ∙ second))
  between-child (f ∷ q) = λ i. record {
    cut = if is_some (sym (own (f ∷ q)) i) && (not (is_some (sym (own2 (f ∷ q)) i)) && is_some (sym (own2 (parent (f ∷ q))) i)) then Some tt else None;
    leaf = swapped (sym (own (f ∷ q)) i) (sym (own2 (f ∷ q)) i);
    order = new_order (sym (own (f ∷ q)) i) (sym (own2 (f ∷ q)) i);
    put =
        if is_some (sym (own2 (f ∷ q)) i) && (not (is_some (sym (own (f ∷ q)) i)) && is_some (sym (own (parent (f ∷ q))) i))
        then Some (
          λ r. sym (own2 ((f ∷ q) ++ r)) i,
          elim (last_element (f ∷ q)) [
            | None ↦ None
            | Some x ↦ position_from (same_element x) 0
                (order_at (sym (own2 (parent (f ∷ q))) i))
          ],
        ) else None;
  }

other-below : (e f : Element) (q : Path) → same_element e f ≡ false → under (e ∷ []) (f ∷ q) ≡ false
other-below e f q t = ap (λ b. b && true) t

-- where only one child differs, both have the same around each path below another
pub other-around : (m m2 : Contents) (e f : Element) (q : Path) → same_element e f ≡ false → ((r : Path) → under (e ∷ []) r ≡ false → m2 r ≡ m r)
    → IsAround m m2 (f ∷ q)
other-around m m2 e f [] t others = record { above = sym (others [] refl); from = λ r. sym (others (f ∷ r) (other-below e f r t)) }
other-around m m2 e f (g ∷ q) t others =
    record {
      above = sym (others (f ∷ parent (g ∷ q)) (other-below e f (parent (g ∷ q)) t));
      from = λ r. sym
          (others (f ∷ g ∷ (q ++ r)) (other-below e f (g ∷ (q ++ r)) t));
    }

-- changes that say what is other in a child say what is other at its parent, where only this child differs
pub told-child : (p : Path) (e : Element) (m m2 n n2 : Contents) (ss : List Step) → ((q : Path) → m (e ∷ q) ≡ n q) → ((q : Path) → m2 (e ∷ q) ≡ n2 q)
    → ((q : Path) → under (e ∷ []) q ≡ false → m2 q ≡ m q)
    → is_some (n []) ≡ true → is_some (n2 []) ≡ true → AreTold (p ++ e ∷ []) n n2 ss → AreTold p m m2 ss
told-child p e m m2 n n2 ss own own2 others first second h = record {
  inside = at;
  outside = λ q u. h.outside q (under-longer p (e ∷ []) q u);
}
  where
    at : (q : Path) → says ss (p ++ q) ≡ between m m2 q
    at [] = h.outside (p ++ []) (under-further p (e ∷ []) []) ∙ sym (root-said m m2 ∙ ap (content_said (m [])) (others [] refl) ∙ content-itself (m []))
    at (f ∷ q) =
        elim (same_element e f) as (λ b. same_element e f ≡ b → says ss (p ++ f ∷ q) ≡ between m m2 (f ∷ q)) [
          | true ↦ λ t.
              let is = same_element-true e f t in
              ap (λ x. says ss (p ++ x ∷ q)) (sym is) ∙ ap (says ss) (sym (append_assoc p (e ∷ []) q)) ∙ h.inside q
              ∙ between-child e m m2 n n2 own own2 first second q ∙ ap (λ x. between m m2 (x ∷ q)) is
          | false ↦ λ t.
              h.outside (p ++ f ∷ q) (under-further p (e ∷ []) (f ∷ q) ∙ other-below e f q t)
              ∙ sym (around-silent m m2 (f ∷ q) (other-around m m2 e f q t others))
        ] refl
