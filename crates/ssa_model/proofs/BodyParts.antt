-- The part of a body that a command reaches, and bodies put together of one's part and of another's rest.
use Rattle.std.proofs.Common.{◌≡◌, List, [], ◌∷◌, ◌++◌, cond, Bool, true, false, not, ◌&&◌, ◌||◌, refl, sym, ap, ◌∙◌, true≢false}
use Rattle.std.proofs.lemmas.List.Folds.{list_any-append}
use Rattle.std.specs.Prelude.{Option, Some, None, is_some, option_map, if◌then◌else◌}
use Rattle.std.specs.List.{list_any}
use Rattle.std.specs.Cmp.{first_so, second_so}
use Rattle.ssa_model.specs.definitions.Path.{Element, field, key, value, Path, is_item_element, is_root, same_element, same_path, under}
use Rattle.ssa_model.specs.definitions.PathMap.{get, has, paths}
use Rattle.ssa_model.specs.definitions.Body.{Content, leaf, atom, record_branch, dict_branch, list_branch, Body, restricted_content, is_leaf, is_dict, is_bare, is_point, points, strictly_under, order_at}
use Rattle.ssa_model.specs.definitions.Json.{Text, Scalar}
use Rattle.ssa_model.specs.definitions.Kind.{Kind, is_among}
use Rattle.ssa_model.specs.definitions.Fitting.{IsAt, are_distinct, scalar_of, IsBodyOf}
use Rattle.ssa_model.specs.definitions.Parts.{Subresource, main, status, is_path_of, part_of, spliced}
use Rattle.ssa_model.specs.definitions.Valid.{IsRooted, metadata_path}
use Rattle.ssa_model.proofs.PathMaps.{get-map_of, get-restricted, when_one, none_of, has-points, has-paths, is_one_of}
use Rattle.ssa_model.proofs.Tables.{apart_by, true_or, either, has-restricted}
use Rattle.ssa_model.proofs.Fitting.{same_element-true}
use Rattle.ssa_model.proofs.Pruned.{some_one, from_one, part_fits}
use Rattle.ssa_model.proofs.Tests.{by_test}
use Rattle.ssa_model.proofs.Basics.{or_true}

-- ---- sides

-- the first element tells the part
pub one-side : (s : Subresource) (e : Element) (p q : Path) → is_path_of s (e ∷ p) ≡ is_path_of s (e ∷ q)
one-side main e p q = refl
one-side status e p q = refl

-- what is under a path that isn't the root is of its part
pub same-side : (s : Subresource) (p q : Path) → is_root p ≡ false → under p q ≡ true → is_path_of s p ≡ is_path_of s q
same-side s [] q r u = absurd (true≢false r)
same-side s (e ∷ p) [] r u = absurd (true≢false (sym u))
same-side s (e ∷ p) (f ∷ q) r u =
    ap (λ x. is_path_of s (x ∷ p)) (same_element-true e f (first_so (same_element e f) (under p q) u)) ∙ one-side s f p q

-- ---- a part of a body

abbrev pub in_part : Subresource → Path → Bool
in_part s p = is_root p || is_path_of s p

leaf-restricted : (stays : Path → Bool) (p : Path) (o : Option Content) → is_leaf (option_map (restricted_content stays p) o) ≡ is_leaf o
leaf-restricted stays p None = refl
leaf-restricted stays p (Some (leaf s)) = refl
leaf-restricted stays p (Some (atom v)) = refl
leaf-restricted stays p (Some record_branch) = refl
leaf-restricted stays p (Some dict_branch) = refl
leaf-restricted stays p (Some (list_branch es)) = refl

dict-restricted : (stays : Path → Bool) (p : Path) (o : Option Content) → is_dict (option_map (restricted_content stays p) o) ≡ is_dict o
dict-restricted stays p None = refl
dict-restricted stays p (Some (leaf s)) = refl
dict-restricted stays p (Some (atom v)) = refl
dict-restricted stays p (Some record_branch) = refl
dict-restricted stays p (Some dict_branch) = refl
dict-restricted stays p (Some (list_branch es)) = refl

pub get-part : (s : Subresource) (b : Body) (p : Path) → in_part s p ≡ true → get (part_of s b) p ≡ option_map (restricted_content (in_part s) p) (get b p)
get-part s b p t = get-restricted b (in_part s) p ∙ ap (λ x. if x then option_map (restricted_content (in_part s) p) (get b p) else None) t

-- where a body has what another has below `metadata`, and this is no point there, it is none in the first
no-point : (x y : Body) → (has x metadata_path ≡ true → has y metadata_path ≡ true) → is_leaf (get x metadata_path) ≡ is_leaf (get y metadata_path)
    → is_dict (get x []) ≡ is_dict (get y []) → ((q : Path) → under metadata_path q ≡ true → has y q ≡ true → has x q ≡ true)
    → has (points y) metadata_path ≡ false → has (points x) metadata_path ≡ false
no-point x y there same_leaf same_dict below none =
    apart_by (has (points x) metadata_path)
    (λ t.
    let both = sym (has-points x metadata_path) ∙ t in
    let here = there (first_so (has x metadata_path) (is_point x metadata_path) both) in
    let point = either (is_leaf (get x metadata_path)) (is_dict (get x []) || is_bare x metadata_path) (second_so (has x metadata_path) (is_point x metadata_path) both)
    (λ one. true_or (is_leaf (get y metadata_path)) (is_dict (get y []) || is_bare y metadata_path) (sym same_leaf ∙ one))
    (λ rest. or_true (is_leaf (get y metadata_path)) (is_dict (get y []) || is_bare y metadata_path)
    (either (is_dict (get x [])) (is_bare x metadata_path) rest
    (λ one. true_or (is_dict (get y [])) (is_bare y metadata_path) (sym same_dict ∙ one))
    (λ one. or_true (is_dict (get y [])) (is_bare y metadata_path) (bare-there one)))) in
    true≢false (sym (has-points y metadata_path ∙ (λ i. here i && point i)) ∙ none))
  where
    bare-there : is_bare x metadata_path ≡ true → is_bare y metadata_path ≡ true
    bare-there bare =
        by_test (list_any (strictly_under metadata_path) (paths y))
        (λ t.
        let q = some_one (strictly_under metadata_path) (paths y) t in
        let u = first_so (under metadata_path q.0) (not (under q.0 metadata_path)) q.2 in
        let low = from_one (strictly_under metadata_path) (paths x) q.0 (sym (has-paths x q.0) ∙ below q.0 u (has-paths y q.0 ∙ q.1)) q.2 in
        absurd (true≢false (sym bare ∙ ap not low)))
        (λ f. ap not f)

pub rooted-part : (s : Subresource) (b : Body) → IsRooted b → IsRooted (part_of s b)
rooted-part main b r = record {
  root = get-part main b [] refl ∙ ap (option_map (restricted_content (in_part main) [])) r.root;
  metadata = no-point (part_of main b) b (λ t. sym (has-restricted b (in_part main) metadata_path) ∙ t)
      (ap is_leaf (get-part main b metadata_path refl) ∙ leaf-restricted (in_part main) metadata_path (get b metadata_path))
      (ap is_dict (get-part main b [] refl) ∙ dict-restricted (in_part main) [] (get b []))
      (λ q u there.
      let side = sym (same-side main metadata_path q refl u) in
      let stays = or_true (is_root q) (is_path_of main q) side in
      has-restricted b (in_part main) q ∙ (λ i. stays i && there i)) r.metadata;
}
rooted-part status b r = record {
  root = get-part status b [] refl ∙ ap (option_map (restricted_content (in_part status) [])) r.root;
  metadata = has-points (part_of status b) metadata_path
      ∙ ap (λ h. h && is_point (part_of status b) metadata_path) (has-restricted b (in_part status) metadata_path);
}

-- ---- a body of two parts

pub get-spliced : (s : Subresource) (b rest : Body) (p : Path) → get (spliced s b rest) p ≡ (if is_path_of s p then get b p else get rest p)
get-spliced s b rest p =
    get-map_of (paths b ++ paths rest) (λ q. if is_path_of s q then get b q else get rest q) p
    ∙ ap (λ t. cond t (if is_path_of s p then get b p else get rest p) None) (list_any-append (same_path p) (paths b) (paths rest))
    ∙ when_one (is_one_of (paths b) p) (is_one_of (paths rest) p) (if is_path_of s p then get b p else get rest p)
    (λ x y. elim (is_path_of s p) as (λ t. (if t then get b p else get rest p) ≡ None) [ true ↦ none_of b p x | false ↦ none_of rest p y ])

pub spliced-in : (s : Subresource) (b rest : Body) (p : Path) → is_path_of s p ≡ true → get (spliced s b rest) p ≡ get b p
spliced-in s b rest p t = get-spliced s b rest p ∙ ap (λ x. if x then get b p else get rest p) t

pub spliced-out : (s : Subresource) (b rest : Body) (p : Path) → is_path_of s p ≡ false → get (spliced s b rest) p ≡ get rest p
spliced-out s b rest p f = get-spliced s b rest p ∙ ap (λ x. if x then get b p else get rest p) f

pub rooted-spliced : (s : Subresource) (b rest : Body) → IsRooted b → IsRooted rest → IsRooted (spliced s b rest)
rooted-spliced main b rest r q = record {
  root = spliced-in main b rest [] refl ∙ r.root;
  metadata = no-point (spliced main b rest) b (λ t. sym (ap is_some (spliced-in main b rest metadata_path refl)) ∙ t)
      (ap is_leaf (spliced-in main b rest metadata_path refl)) (ap is_dict (spliced-in main b rest [] refl))
      (λ x u there. ap is_some (spliced-in main b rest x (sym (same-side main metadata_path x refl u))) ∙ there) r.metadata;
}
rooted-spliced status b rest r q = record {
  root = spliced-out status b rest [] refl ∙ q.root;
  metadata = no-point (spliced status b rest) rest (λ t. sym (ap is_some (spliced-out status b rest metadata_path refl)) ∙ t)
      (ap is_leaf (spliced-out status b rest metadata_path refl)) (ap is_dict (spliced-out status b rest [] refl))
      (λ x u there. ap is_some (spliced-out status b rest x (sym (same-side status metadata_path x refl u))) ∙ there) q.metadata;
}

-- ---- they are bodies of the kind

pub part-is-body : (kind : Kind) (s : Subresource) (b : Body) → IsBodyOf kind b → IsBodyOf kind (part_of s b)
part-is-body kind s b k = part_fits kind b k (in_part s) refl up key_stays
  where
    up : (p : Path) (e : Element) → in_part s (p ++ e ∷ []) ≡ true → in_part s p ≡ true
    up [] e h = refl
    up (f ∷ p) e h = one-side s f p (p ++ e ∷ []) ∙ h

    key_stays : (p : Path) (ks : List (Text × Scalar)) (n : Text) (x : Scalar) → scalar_of n ks ≡ Some x → has b (p ++ key ks ∷ []) ≡ true
        → in_part s (p ++ key ks ∷ []) ≡ true → in_part s ((p ++ key ks ∷ []) ++ field n ∷ []) ≡ true
    key_stays [] ks n x found there h = one-side s (key ks) (field n ∷ []) [] ∙ h
    key_stays (f ∷ p) ks n x found there h = one-side s f ((p ++ key ks ∷ []) ++ field n ∷ []) (p ++ key ks ∷ []) ∙ h

-- a body that has at each path what one of two bodies of the kind has, by the first element
module _ (kind : Kind) (s : Subresource) (b rest : Body) (k : IsBodyOf kind b) (l : IsBodyOf kind rest) where
  abbrev both : Body
  both = spliced s b rest

  -- at and below a path that isn't the root both bodies are one
  alike : (e : Element) (p : Path) → (x : Body) × IsBodyOf kind x × ((q : Path) → get both (e ∷ q) ≡ get x (e ∷ q))
  alike e p =
      by_test (is_path_of s (e ∷ p)) (λ t. (b, k, (λ q. spliced-in s b rest (e ∷ q) (one-side s e q p ∙ t))))
      (λ f. (rest, l, (λ q. spliced-out s b rest (e ∷ q) (one-side s e q p ∙ f))))

  -- at the root
  alike-root : (x : Body) × IsBodyOf kind x × (get both [] ≡ get x []) × ((e : Element) → is_item_element e ≡ true → has both (e ∷ []) ≡ has x (e ∷ []))
  alike-root = by s refl
    where
      main-item : (e : Element) → is_item_element e ≡ true → is_path_of main (e ∷ []) ≡ true
      main-item (field n) i = absurd (true≢false (sym i))
      main-item (key ks) i = refl
      main-item (value v) i = refl

      status-item : (e : Element) → is_item_element e ≡ true → is_path_of status (e ∷ []) ≡ false
      status-item (field n) i = absurd (true≢false (sym i))
      status-item (key ks) i = refl
      status-item (value v) i = refl

      by : (t : Subresource) → s ≡ t → (x : Body) × IsBodyOf kind x × (get both [] ≡ get x []) × ((e : Element) → is_item_element e ≡ true → has both (e ∷ []) ≡ has x (e ∷ []))
      by main is = (
        b,
        k,
        spliced-in s b rest [] (ap (λ x. is_path_of x []) is),
        (λ e i. ap is_some (spliced-in s b rest (e ∷ []) (ap (λ x. is_path_of x (e ∷ [])) is ∙ main-item e i))),
      )
      by status is = (
        rest,
        l,
        spliced-out s b rest [] (ap (λ x. is_path_of x []) is),
        (λ e i. ap is_some (spliced-out s b rest (e ∷ []) (ap (λ x. is_path_of x (e ∷ [])) is ∙ status-item e i))),
      )

  pub spliced-is-body : IsBodyOf kind (spliced s b rest)
  spliced-is-body = record {
    root = ap is_some alike-root.2 ∙ alike-root.1.root;
    closed = closed-both;
    fits = fits-both;
    once = once-both;
    keys = keys-both;
    items = items-both;
  }
    where
      closed-both : (p : Path) (e : Element) → has both (p ++ e ∷ []) ≡ true → has both p ≡ true
      closed-both [] e h = ap is_some alike-root.2 ∙ alike-root.1.root
      closed-both (f ∷ p) e h =
          let x = alike f p in
          ap is_some (x.2 p) ∙ x.1.closed (f ∷ p) e (sym (ap is_some (x.2 (p ++ e ∷ []))) ∙ h)

      fits-both : (p : Path) (c : Content) → get both p ≡ Some c → IsAt kind p c
      fits-both [] c h = alike-root.1.fits [] c (sym alike-root.2 ∙ h)
      fits-both (f ∷ p) c h = let x = alike f p in x.1.fits (f ∷ p) c (sym (x.2 p) ∙ h)

      once-both : (p : Path) → are_distinct (order_at (get both p)) ≡ true
      once-both [] = ap (λ o. are_distinct (order_at o)) alike-root.2 ∙ alike-root.1.once []
      once-both (f ∷ p) = let x = alike f p in ap (λ o. are_distinct (order_at o)) (x.2 p) ∙ x.1.once (f ∷ p)

      keys-both : (p : Path) (ks : List (Text × Scalar)) (n : Text) (v : Scalar) → scalar_of n ks ≡ Some v → has both (p ++ key ks ∷ []) ≡ true
          → get both ((p ++ key ks ∷ []) ++ field n ∷ []) ≡ Some (leaf v)
      keys-both [] ks n v found h =
          let x = alike (key ks) [] in
          x.2 (field n ∷ []) ∙ x.1.keys [] ks n v found (sym (ap is_some (x.2 [])) ∙ h)
      keys-both (f ∷ p) ks n v found h =
          let x = alike f p in
          x.2 ((p ++ key ks ∷ []) ++ field n ∷ []) ∙ x.1.keys (f ∷ p) ks n v found (sym (ap is_some (x.2 (p ++ key ks ∷ []))) ∙ h)

      items-both : (p : Path) (e : Element) → is_among e (order_at (get both p)) ≡ (is_item_element e && has both (p ++ e ∷ []))
      items-both [] e =
          ap (λ o. is_among e (order_at o)) alike-root.2 ∙ alike-root.1.items [] e
          ∙ by_test (is_item_element e)
          (λ t. ap (λ h. is_item_element e && h) (sym (alike-root.3 e t)))
          (λ f. (λ i. f i && has alike-root.0 (e ∷ [])) ∙ sym (λ i. f i && has both (e ∷ [])))
      items-both (f ∷ p) e =
          let x = alike f p in
          ap (λ o. is_among e (order_at o)) (x.2 p) ∙ x.1.items (f ∷ p) e ∙ ap (λ o. is_item_element e && is_some o) (sym (x.2 (p ++ e ∷ [])))
