-- The part of a tree, and trees put together of one's part and of another's rest.
use Rattle.std.proofs.Common.{ℕ, ◌≡◌, ◌≤◌, ◌+◌, List, [], ◌∷◌, ◌++◌, length, Bool, true, false, not, ◌&&◌, ◌||◌, cond, Option, Some, None, refl, sym, ap, subst, subst₂, ◌∙◌, arith, true≢false}
use Rattle.std.proofs.lemmas.List.{nil_from_length}
use Rattle.std.proofs.lemmas.Option.{same_Some}
use Rattle.std.specs.Prelude.{option_map, option_to_list, if◌then◌else◌, codes}
use Rattle.std.specs.List.{list_any}
use Rattle.std.specs.Option.{MatchOption}
use Rattle.std.specs.Ordering.{is_lt}
use Rattle.ssa_model.specs.definitions.Body.{Content, leaf, atom, record_branch, dict_branch, list_branch, restricted_content}
use Rattle.ssa_model.specs.definitions.Parts.{Subresource, main, status, status_path, is_path_of, part_of, spliced}
use Rattle.ssa_model.specs.definitions.Valid.{IsRooted}
use Rattle.ssa_model.specs.definitions.Path.{Element, Path, element_cmp, field, is_root, same_element, under}
use Rattle.ssa_model.proofs.BodyParts.{get-spliced}
use Rattle.ssa_model.proofs.Basics.{both-true as both, not_true, some≢none as some-none}
use Rattle.ssa_model.proofs.Fitting.{same_element-true}
use Rattle.ssa_model.proofs.PathMaps.{get-restricted, same_map}
use Rattle.ssa_model.proofs.Tables.{element-itself}
use Rattle.ssa_model.proofs.Tests.{by_test, filter-all}
use Rattle.ssa_path.specs.Children.{child_at, elements, is_below, rises}
use Rattle.ssa_path.specs.Subresources.{in_part, other_part}
use Rattle.ssa_path.specs.View.{element_view}
use Rattle.ssa_path.proofs.InPart.{other-child, other-side, part-child, part-elements, part-rises, side}
use Rattle.ssa_path.proofs.Lists.{elements-append, length-elements}
use Rattle.ssa_path.proofs.Orders.{both_first, both_second}
use Rattle.ssa_path.proofs.Searching.{apart-before, below-middle}
use Rattle.ssa_typed.specs.Copies.{kept_below}
use Rattle.ssa_typed.specs.InPart.{AreSpliced, IsInPart, IsNew, IsPut, IsRecord, IsSpliced}
use Rattle.ssa_typed.specs.Points.{content_in}
use Rattle.ssa_typed.specs.Restricted.{part_at}
use Rattle.ssa_typed.specs.Rows.{are_fields, are_trees, body_of, content_at, is_tree, own_content, rows}
use Rattle.ssa_typed.specs.declared.node.Node.{Node, Branch}
use Rattle.ssa_typed.proofs.Building.{Child}
use Rattle.ssa_typed.proofs.Copying.{kept-same}
use Rattle.ssa_typed.proofs.Levels.{Children, own-Branch, rises-apart, tree-Branch}
use Rattle.ssa_typed.proofs.Lookups.{child_at-none, content-below, content-level, content-root}
use Rattle.ssa_typed.proofs.Looks.{get-body}
use Rattle.ssa_typed.proofs.OverNodes.{below-Branch}
use Rattle.ssa_typed.proofs.Restricting.{filter-fields}
use Rattle.ssa_typed.proofs.SortedOut.{is_absent, none-among}

-- ---- what a part keeps of a content

module _ (s : Subresource) where
  in_it : Path → Bool
  in_it q = is_root q || is_path_of s q

  -- below an element of the part all of a content stays
  content-stays : (e : Element) (p : Path) (c : Content) → is_path_of s (e ∷ []) ≡ true
      → restricted_content (λ q. is_root q || is_path_of s q) (e ∷ p) c ≡ c
  content-stays e p (leaf x) h = refl
  content-stays e p (atom v) h = refl
  content-stays e p record_branch h = refl
  content-stays e p dict_branch h = refl
  content-stays e p (list_branch es) h = ap list_branch (filter-all (λ x. is_path_of s (e ∷ p ++ x ∷ [])) (λ x. side s e (p ++ x ∷ []) ∙ h) es)

  part-stays : (e : Element) (p : Path) (o : Option Content) → is_path_of s (e ∷ []) ≡ true → part_at (λ q. is_root q || is_path_of s q) (e ∷ p) o ≡ o
  part-stays e p None h = ap (λ b. if b then None else None) (side s e p ∙ h)
  part-stays e p (Some c) h =
      ap (λ b. if b then Some (restricted_content (λ q. is_root q || is_path_of s q) (e ∷ p) c) else None) (side s e p ∙ h)
      ∙ ap (λ x. Some x) (content-stays e p c h)

  part-goes : (e : Element) (p : Path) (o : Option Content) → is_path_of s (e ∷ []) ≡ false → part_at (λ q. is_root q || is_path_of s q) (e ∷ p) o ≡ None
  part-goes e p o h = ap (λ b. if b then option_map (restricted_content (λ q. is_root q || is_path_of s q) (e ∷ p)) o else None) (side s e p ∙ h)

-- ---- the part of a record

trees-stay : (s : Subresource) (cs : List Child) → are_trees cs ≡ true → are_trees (in_part s cs) ≡ true
trees-stay s [] h = refl
trees-stay s (c ∷ cs) h =
    elim (is_path_of s (element_view c.0 ∷ [])) as (λ b. are_trees (cond b (c ∷ in_part s cs) (in_part s cs)) ≡ true) [
      | true ↦ both _ _ (both_first (is_tree c.1) _ h) (trees-stay s cs (both_second (is_tree c.1) _ h))
      | false ↦ trees-stay s cs (both_second (is_tree c.1) _ h)
    ]

-- what stands of a record's children
record Stand (cs : List Child) : Type 0 where
  risen : rises (elements cs) ≡ true
  fields : are_fields (elements cs) ≡ true
  trees : are_trees cs ≡ true

stand : (v : Children) → is_tree (Branch v) ≡ true → Stand v.items
stand v h =
    let all = sym (tree-Branch v) ∙ h in
    let named = both_first (rises (elements v.items) && are_fields (elements v.items)) (are_trees v.items) all in
    record {
      risen = both_first (rises (elements v.items)) _ named;
      fields = both_second (rises (elements v.items)) _ named;
      trees = both_second (rises (elements v.items) && are_fields (elements v.items)) _ all;
    }

pub branch-tree : (v : Children) → rises (elements v.items) ≡ true → are_fields (elements v.items) ≡ true → are_trees v.items ≡ true → is_tree (Branch v) ≡ true
branch-tree v r f t = tree-Branch v ∙ both _ _ (both _ _ r f) t

part-fields : (s : Subresource) (cs : List Child) → are_fields (elements cs) ≡ true → are_fields (elements (in_part s cs)) ≡ true
part-fields s cs h = ap are_fields (part-elements s cs) ∙ filter-fields (λ e. is_path_of s (e ∷ [])) (elements cs) h

-- the record of the children of a part is the record in the part
pub record-in-part : (s : Subresource) (v w : Children) → is_tree (Branch v) ≡ true → w.items ≡ in_part s v.items → IsInPart s (Branch v) (Branch w)
record-in-part s v w tree is = record { content = at; tree = made }
  where
    old : Stand v.items
    old = stand v tree

    made : is_tree (Branch w) ≡ true
    made = branch-tree w (ap (λ l. rises (elements l)) is ∙ part-rises s v.items old.risen) (ap (λ l. are_fields (elements l)) is ∙ part-fields s v.items old.fields)
        (ap are_trees is ∙ trees-stay s v.items old.trees)

    child_made : (e : Element) (p : Path) → content_at (rows (Branch w)) (e ∷ p) ≡ content_in (child_at e (in_part s v.items)) p
    child_made e p = content-level (Branch w) e p made ∙ ap (λ l. content_in (child_at e l) p) (below-Branch w ∙ is)

    child_old : (e : Element) (p : Path) → content_at (rows (Branch v)) (e ∷ p) ≡ content_in (child_at e v.items) p
    child_old e p = content-level (Branch v) e p tree ∙ ap (λ l. content_in (child_at e l) p) (below-Branch v)

    at : (p : Path) → content_at (rows (Branch w)) p ≡ part_at (λ q. is_root q || is_path_of s q) p (content_at (rows (Branch v)) p)
    at [] =
        content-root (Branch w) ∙ ap (λ c. Some c) (own-Branch w)
        ∙ sym (ap (part_at (λ q. is_root q || is_path_of s q) []) (content-root (Branch v) ∙ ap (λ c. Some c) (own-Branch v)))
    at (e ∷ p) =
        elim (is_path_of s (e ∷ [])) as (λ b. is_path_of s (e ∷ []) ≡ b
        → content_at (rows (Branch w)) (e ∷ p) ≡ part_at (λ q. is_root q || is_path_of s q) (e ∷ p) (content_at (rows (Branch v)) (e ∷ p))) [
          | true ↦ λ h.
              child_made e p ∙ ap (λ o. content_in o p) (part-child s e v.items h) ∙ sym (child_old e p) ∙ sym (part-stays s e p (content_at (rows (Branch v)) (e ∷ p)) h)
          | false ↦ λ h.
              child_made e p ∙ ap (λ o. content_in o p) (other-child s e v.items h) ∙ sym (part-goes s e p (content_at (rows (Branch v)) (e ∷ p)) h)
        ] refl

-- the body of the part is the part of the body
pub body-in-part : (s : Subresource) (n made : Node) → IsInPart s n made → body_of made ≡ part_of s (body_of n)
body-in-part s n made h =
    same_map (body_of made) (part_of s (body_of n)) (λ p.
    get-body made p ∙ h.content p ∙ ap (part_at (λ q. is_root q || is_path_of s q) p) (sym (get-body n p))
    ∙ sym (get-restricted (body_of n) (λ q. is_root q || is_path_of s q) p))

-- the root of a rooted body is a record
pub record-root : (n : Node) → is_tree n ≡ true → IsRooted (body_of n) → IsRecord n
record-root n tree rooted = record {
  tree = tree;
  record_is = same_Some (own_content n) record_branch (sym (content-root n) ∙ sym (get-body n []) ∙ rooted.root);
}

-- ---- one child more among others

-- among children with one more, an element's child is that one, where it is its element, or else the others'
put-child : (c : Child) (front back : List Child) (e : Element) → rises (elements (front ++ c ∷ back)) ≡ true
    → child_at e (front ++ c ∷ back) ≡ cond (same_element e (element_view c.0)) (Some c.1) (child_at e (front ++ back))
put-child c [] back e h = refl
put-child c (x ∷ front) back e h =
    let f = element_view x.0 in
    let g = element_view c.0 in
    let rest = put-child c front back e (both_second _ _ h) in
    elim (same_element e g) as (λ b. same_element e g ≡ b → cond (same_element e f) (Some x.1) (child_at e (front ++ c ∷ back))
    ≡ cond b (Some c.1) (cond (same_element e f) (Some x.1) (child_at e (front ++ back)))) [
      | true ↦ λ same.
          let low = below-middle f g (elements front) (elements back) (ap (is_below f) (sym (elements-append front (c ∷ back))) ∙ both_first _ _ h) in
          ap (λ b. cond b (Some x.1) (child_at e (front ++ c ∷ back))) (apart-before e f g same low)
          ∙ rest ∙ ap (λ b. cond b (Some c.1) (child_at e (front ++ back))) same
      | false ↦ λ other.
          ap (λ o. cond (same_element e f) (Some x.1) o) (rest ∙ ap (λ b. cond b (Some c.1) (child_at e (front ++ back))) other)
    ] refl

put-fields : (c : Child) (front back : List Child) → are_fields (elements (c ∷ [])) ≡ true → are_fields (elements (front ++ back)) ≡ true
    → are_fields (elements (front ++ c ∷ back)) ≡ true
put-fields c [] back own h = both _ _ (both_first _ _ own) h
put-fields c (x ∷ front) back own h = both _ _ (both_first _ _ h) (put-fields c front back own (both_second _ _ h))

put-trees : (c : Child) (front back : List Child) → are_trees (c ∷ []) ≡ true → are_trees (front ++ back) ≡ true → are_trees (front ++ c ∷ back) ≡ true
put-trees c [] back own h = both _ _ (both_first (is_tree c.1) _ own) h
put-trees c (x ∷ front) back own h = both _ _ (both_first (is_tree x.1) _ h) (put-trees c front back own (both_second (is_tree x.1) _ h))

-- ---- the fields of a part

abbrev status_element : Element
status_element = field (codes "status")

named : (x : Element) → is_path_of status (x ∷ []) ≡ true → same_element status_element x ≡ true
named x h = both_first (same_element status_element x) true h

-- behind a field `status` there is no other
none-more : (f : Element) (cs : List Child) → same_element status_element f ≡ true → is_below f (elements cs) ≡ true → in_part status cs ≡ []
none-more f [] same h = refl
none-more f (d ∷ cs) same h =
    let e = element_view d.0 in
    elim (is_path_of status (e ∷ [])) as (λ b. is_path_of status (e ∷ []) ≡ b → cond b (d ∷ in_part status cs) (in_part status cs) ≡ []) [
      | true ↦ λ t. absurd (true≢false (sym same ∙ apart-before status_element f e (named e t) (both_first _ _ h)))
      | false ↦ λ _. none-more f cs same (both_second (is_lt (element_cmp f e)) _ h)
    ] refl

-- of fields that rise at most one is of the part
pub one-status : (cs : List Child) → rises (elements cs) ≡ true → length (in_part status cs) ≤ 1
one-status [] h = omega arith
one-status (c ∷ cs) h =
    let e = element_view c.0 in
    elim (is_path_of status (e ∷ [])) as (λ b. is_path_of status (e ∷ []) ≡ b → length (cond b (c ∷ in_part status cs) (in_part status cs)) ≤ 1) [
      | true ↦ λ t. subst (λ l. length (c ∷ l) ≤ 1) (sym (none-more e cs (named e t) (both_first _ _ h))) (omega arith)
      | false ↦ λ _. one-status cs (both_second (is_below e (elements cs)) _ h)
    ] refl

-- how many there are with the last one and without it, told of other numbers that are these
pub counted : {A : Type 0} (o : Option A) {k l m n : ℕ} → k ≡ m → l ≡ n → MatchOption o ((k ≡ 0) × (l ≡ 0)) (λ _. l + 1 ≡ k)
    → MatchOption o ((m ≡ 0) × (n ≡ 0)) (λ _. n + 1 ≡ m)
counted o {k} {l} {m} {n} a b = subst₂ (λ x y. MatchOption o ((x ≡ 0) × (y ≡ 0)) (λ _. y + 1 ≡ x)) a b

-- the last of at most one is all
pub popped : (cs ds : List Child) (o : Option Child) → cs ≡ ds ++ option_to_list o → length cs ≤ 1
    → MatchOption o ((length cs ≡ 0) × (length ds ≡ 0)) (λ _. length ds + 1 ≡ length cs) → cs ≡ option_to_list o
popped cs ds None is few counts = nil_from_length cs counts.0
popped cs ds (Some c) is few counts = is ∙ ap (λ l. l ++ c ∷ []) (nil_from_length ds (omega (arith, few, counts)))

-- each of the children is of the part
abbrev pub AllIn : Subresource → List Child → Type 0
AllIn s cs = (e : Element) → is_path_of s (e ∷ []) ≡ false → child_at e cs ≡ None

pub part-all : (s : Subresource) (cs : List Child) → AllIn s (in_part s cs)
part-all s cs e h = other-child s e cs h

-- so are copies of them
pub copies-all : (s : Subresource) (cs ds : List Child) → kept_below ds ≡ kept_below cs → AllIn s cs → AllIn s ds
copies-all s cs ds same all e h =
    child_at-none e ds (ap (list_any (same_element e)) ((kept-same ds cs same).elements_same) ∙ none-among e cs (ap is_absent (all e h)))

-- ---- a record of two parts

module _ (t : Subresource) (base one made : List Child) (own : AllIn t base) (other : AllIn (other_part t) one) where
  -- the one child is of the other part
  one-there : (c : Child) → one ≡ c ∷ [] → is_path_of t (element_view c.0 ∷ []) ≡ false
  one-there c single =
      let e = element_view c.0 in
      by_test (is_path_of (other_part t) (e ∷ []))
      (λ y. not_true (is_path_of t (e ∷ [])) (sym (other-side t (e ∷ [])) ∙ y))
      (λ n. absurd (some-none c.1 (sym (ap (λ b. cond b (Some c.1) None) (element-itself e)) ∙ sym (ap (child_at e) single) ∙ other e n)))

  -- it is none of the base's
  pub one-new : (o : Option Child) → one ≡ option_to_list o → IsNew o base
  one-new None single = tt
  one-new (Some c) single = own (element_view c.0) (one-there c single)

  -- an element's child stands in the base or is the one
  pub either-child : (o : Option Child) → one ≡ option_to_list o → IsPut o base made → (e : Element)
      → child_at e made ≡ (if is_path_of t (e ∷ []) then child_at e base else child_at e one)
  either-child None single put e =
      ap (child_at e) put
      ∙ elim (is_path_of t (e ∷ [])) as (λ b. is_path_of t (e ∷ []) ≡ b → child_at e base ≡ (if b then child_at e base else child_at e one)) [
        | true ↦ λ _. refl
        | false ↦ λ f. own e f ∙ sym (ap (child_at e) single)
      ] refl
  either-child (Some c) single put e =
      let g = element_view c.0 in
      ap (child_at e) put.put ∙ put-child c put.front put.back e (ap (λ l. rises (elements l)) (sym put.put) ∙ put.risen)
      ∙ ap (λ l. cond (same_element e g) (Some c.1) (child_at e l)) (sym put.parts)
      ∙ elim (is_path_of t (e ∷ [])) as (λ b. is_path_of t (e ∷ []) ≡ b
      → cond (same_element e g) (Some c.1) (child_at e base) ≡ (if b then child_at e base else child_at e one)) [
        | true ↦ λ y.
            by_test (same_element e g)
            (λ same. absurd (true≢false (sym y ∙ ap (λ x. is_path_of t (x ∷ [])) (same_element-true e g same) ∙ one-there c single)))
            (λ not_same. ap (λ b. cond b (Some c.1) (child_at e base)) not_same)
        | false ↦ λ n. ap (cond (same_element e g) (Some c.1)) (own e n) ∙ sym (ap (child_at e) single)
      ] refl

  pub either-rises : (o : Option Child) → IsPut o base made → rises (elements base) ≡ true → rises (elements made) ≡ true
  either-rises None put h = ap (λ l. rises (elements l)) put ∙ h
  either-rises (Some c) put h = put.risen

  pub either-fields : (o : Option Child) → one ≡ option_to_list o → IsPut o base made → are_fields (elements base) ≡ true
      → are_fields (elements one) ≡ true → are_fields (elements made) ≡ true
  either-fields None single put h k = ap (λ l. are_fields (elements l)) put ∙ h
  either-fields (Some c) single put h k =
      ap (λ l. are_fields (elements l)) put.put
      ∙ put-fields c put.front put.back (sym (ap (λ l. are_fields (elements l)) single) ∙ k) (sym (ap (λ l. are_fields (elements l)) put.parts) ∙ h)

  pub either-trees : (o : Option Child) → one ≡ option_to_list o → IsPut o base made → are_trees base ≡ true → are_trees one ≡ true → are_trees made ≡ true
  either-trees None single put h k = ap are_trees put ∙ h
  either-trees (Some c) single put h k =
      ap are_trees put.put ∙ put-trees c put.front put.back (sym (ap are_trees single) ∙ k) (sym (ap are_trees put.parts) ∙ h)

-- ---- copies of the children of a part

module _ (s : Subresource) (cs ds : List Child) (same : kept_below ds ≡ kept_below (in_part s cs)) (rise : rises (elements cs) ≡ true) where
  pub copies-rise : rises (elements ds) ≡ true
  copies-rise = ap rises ((kept-same ds (in_part s cs) same).elements_same) ∙ part-rises s cs rise

  pub copies-fields : are_fields (elements cs) ≡ true → are_fields (elements ds) ≡ true
  copies-fields h = ap are_fields ((kept-same ds (in_part s cs) same).elements_same) ∙ part-fields s cs h

  pub copies-trees : are_trees cs ≡ true → are_trees ds ≡ true
  copies-trees h = (kept-same ds (in_part s cs) same).trees_same ∙ trees-stay s cs h

  -- the content of an element of the part is that of its copy
  pub copied-child : (e : Element) (p : Path) → is_path_of s (e ∷ []) ≡ true → content_in (child_at e ds) p ≡ content_in (child_at e cs) p
  copied-child e p h =
      sym (content-below ds e p (rises-apart (elements ds) copies-rise))
      ∙ ap (λ rs. content_at rs (e ∷ p)) ((kept-same ds (in_part s cs) same).rows_same)
      ∙ content-below (in_part s cs) e p (rises-apart (elements (in_part s cs)) (part-rises s cs rise))
      ∙ ap (λ o. content_in o p) (part-child s e cs h)

-- of `status` at most one is copied
pub copies-few : (live rest : List Child) → kept_below rest ≡ kept_below (in_part status live) → rises (elements live) ≡ true → length rest ≤ 1
copies-few live rest same rise =
    subst (λ n. n ≤ 1)
    (sym (sym (length-elements rest) ∙ ap length ((kept-same rest (in_part status live) same).elements_same) ∙ length-elements (in_part status live)))
    (one-status live rise)

-- ---- the children of two parts

module _ (object live rest made : List Child) (o : Option Child) (object_rise : rises (elements object) ≡ true) (live_rise : rises (elements live) ≡ true) where
  -- the object's children but `status`, and the live one's `status`, copied
  pub spliced-main : kept_below rest ≡ kept_below (in_part status live) → rest ≡ option_to_list o → IsPut o (in_part main object) made
      → AreSpliced main object live made
  spliced-main same single put =
      let base = in_part main object in
      let own = part-all main object in
      let other = copies-all status (in_part status live) rest same (part-all status live) in
      record {
        children = λ e p.
            ap (λ x. content_in x p) (either-child main base rest made own other o single put e)
            ∙ elim (under status_path (e ∷ [])) as (λ b. under status_path (e ∷ []) ≡ b
            → content_in (if not b then child_at e base else child_at e rest) p ≡ content_in (if not b then child_at e object else child_at e live) p) [
              | true ↦ λ y. copied-child status live rest same live_rise e p y
              | false ↦ λ n. ap (λ x. content_in x p) (part-child main e object (ap not n))
            ] refl;
        risen = either-rises main base rest made own other o put (part-rises main object object_rise);
        fields = λ f g. either-fields main base rest made own other o single put (part-fields main object f) (copies-fields status live rest same live_rise g);
        trees = λ f g. either-trees main base rest made own other o single put (trees-stay main object f) (copies-trees status live rest same live_rise g);
      }

  -- the live one's children but `status`, copied, and the object's `status`
  pub spliced-status : kept_below rest ≡ kept_below (in_part main live) → in_part status object ≡ option_to_list o → IsPut o rest made
      → AreSpliced status object live made
  spliced-status same single put =
      let one = in_part status object in
      let own = copies-all main (in_part main live) rest same (part-all main live) in
      let other = part-all status object in
      record {
        children = λ e p.
            ap (λ x. content_in x p) (either-child main rest one made own other o single put e)
            ∙ elim (under status_path (e ∷ [])) as (λ b. under status_path (e ∷ []) ≡ b
            → content_in (if not b then child_at e rest else child_at e one) p ≡ content_in (if b then child_at e object else child_at e live) p) [
              | true ↦ λ y. ap (λ x. content_in x p) (part-child status e object y)
              | false ↦ λ n. copied-child main live rest same live_rise e p (ap not n)
            ] refl;
        risen = either-rises main rest one made own other o put (copies-rise main live rest same live_rise);
        fields = λ f g. either-fields main rest one made own other o single put (copies-fields main live rest same live_rise g) (part-fields status object f);
        trees = λ f g. either-trees main rest one made own other o single put (copies-trees main live rest same live_rise g) (trees-stay status object f);
      }

-- ---- the trees

-- a record of such children is the one in the part, and the other outside it
pub record-spliced : (s : Subresource) (v w made : Children) → is_tree (Branch v) ≡ true → is_tree (Branch w) ≡ true → AreSpliced s v.items w.items made.items
    → IsSpliced s (Branch v) (Branch w) (Branch made)
record-spliced s v w made v_tree w_tree h = record { content = at; tree = tree }
  where
    tree : is_tree (Branch made) ≡ true
    tree =
        let vs = stand v v_tree in
        let ws = stand w w_tree in
        branch-tree made h.risen (h.fields vs.fields ws.fields) (h.trees vs.trees ws.trees)

    root : (u : Children) → content_at (rows (Branch u)) [] ≡ Some record_branch
    root u = content-root (Branch u) ∙ ap (λ c. Some c) (own-Branch u)

    child : (u : Children) (e : Element) (p : Path) → is_tree (Branch u) ≡ true → content_at (rows (Branch u)) (e ∷ p) ≡ content_in (child_at e u.items) p
    child u e p t = content-level (Branch u) e p t ∙ ap (λ l. content_in (child_at e l) p) (below-Branch u)

    at : (p : Path) → content_at (rows (Branch made)) p ≡ (if is_path_of s p then content_at (rows (Branch v)) p else content_at (rows (Branch w)) p)
    at [] =
        root made ∙ elim (is_path_of s []) as (λ b. Some record_branch ≡ (if b then content_at (rows (Branch v)) [] else content_at (rows (Branch w)) [])) [
          | true ↦ sym (root v)
          | false ↦ sym (root w)
        ]
    at (e ∷ p) =
        child made e p tree ∙ h.children e p
        ∙ elim (is_path_of s (e ∷ [])) as (λ b. content_in (if b then child_at e v.items else child_at e w.items) p
        ≡ (if b then content_at (rows (Branch v)) (e ∷ p) else content_at (rows (Branch w)) (e ∷ p))) [
          | true ↦ sym (child v e p v_tree)
          | false ↦ sym (child w e p w_tree)
        ]
        ∙ ap (λ b. if b then content_at (rows (Branch v)) (e ∷ p) else content_at (rows (Branch w)) (e ∷ p)) (sym (side s e p))

pub record-rises : (v : Children) → is_tree (Branch v) ≡ true → rises (elements v.items) ≡ true
record-rises v h = (stand v h).risen

-- the body of such a tree
pub body-spliced : (s : Subresource) (n m made : Node) → IsSpliced s n m made → body_of made ≡ spliced s (body_of n) (body_of m)
body-spliced s n m made h =
    same_map (body_of made) (spliced s (body_of n) (body_of m)) (λ p.
    get-body made p ∙ h.content p ∙ (λ i. if is_path_of s p then sym (get-body n p) i else sym (get-body m p) i)
    ∙ sym (get-spliced s (body_of n) (body_of m) p))
