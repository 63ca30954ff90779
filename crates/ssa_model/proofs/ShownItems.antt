-- The items of lists in a body of a kind: an item of a set is its value, and one of a map list shows the fields of its key.
use Rattle.std.proofs.Common.{◌≡◌, List, [], ◌∷◌, ◌++◌, Bool, true, false, cond, Option, Some, None, option_map, refl, sym, ap, subst, ◌∙◌, true≢false}
use Rattle.std.proofs.lemmas.Option.{none-some}
use Rattle.std.specs.Prelude.{if◌then◌else◌, is_some}
use Rattle.std.specs.List.{list_any, AllByRecursion}
use Rattle.std.specs.Cmp.{first_so, second_so}
use Rattle.ssa_model.specs.definitions.Json.{Text, Scalar, scalar, Members, member_of, same_text}
use Rattle.ssa_model.specs.definitions.Path.{Element, field, key, value, Path}
use Rattle.ssa_model.specs.definitions.PathMap.{get, has}
use Rattle.ssa_model.specs.definitions.Kind as kinds
use Rattle.ssa_model.specs.definitions.Kind.{Kind, ScalarKind, Fields, scalar_kind, items_of, kind_of, is_of, is_among, key_scalars, cons_scalar, item_key, key_faults, key_field_fault, fault_unless, wrong_type}
use Rattle.ssa_model.specs.definitions.Body.{leaf, Body, order_at}
use Rattle.ssa_model.specs.definitions.Fitting.{of_kind, item_of, place_at, content_fits, are_keys, is_key_of, scalar_of, IsBodyOf}
use Rattle.ssa_model.specs.definitions.Lawful.{are_key_names, names_rise_after}
use Rattle.ssa_model.specs.definitions.Objects.{shown, shown_fields, content_value}
use Rattle.ssa_model.proofs.RisingNames.{apart-less, before, rise-on, do_rise, rest-rise, key-names-rise}
use Rattle.ssa_model.proofs.Places.{below, listed, stands, value-leaf, set-place, list-place}
use Rattle.ssa_model.proofs.ShownNames.{member_of-fields}
use Rattle.ssa_model.proofs.Tables.{same_text-true, text-itself, true_or}
use Rattle.ssa_model.proofs.Basics.{or_true}

-- a fact of all that are among a list is one of each
pub each-among : {A : Type 0} (same : A → A → Bool) → ((x : A) → same x x ≡ true) → (P : A → Type 0) (xs : List A)
    → ((x : A) → list_any (same x) xs ≡ true → P x) → AllByRecursion P xs
each-among same itself P [] h = tt
each-among same itself P (x ∷ xs) h = (
  h x (true_or (same x x) (list_any (same x) xs) (itself x)),
  each-among same itself P xs (λ y among. h y (or_true (same y x) (list_any (same y) xs) among)),
)

-- ---- keys whose names rise

key-above : (n : Text) (ns : List Text) (fs : Fields) (ks : List (Text × Scalar)) (m : Text) (s : Scalar) → names_rise_after n ns ≡ true
    → are_keys ns fs ks ≡ true → scalar_of m ks ≡ Some s → before n m ≡ true
key-above n ns fs [] m s rise are found = absurd (none-some s found)
key-above n [] fs (x ∷ ks) m s rise are found = absurd (true≢false (sym are))
key-above n (l ∷ ns) fs (x ∷ ks) m s rise are found =
    elim (same_text m x.0) as (λ t. same_text m x.0 ≡ t → (if t then Some x.1 else scalar_of m ks) ≡ Some s → before n m ≡ true) [
      | true ↦ λ t _. ap (before n) (same_text-true m x.0 t ∙ sym (same_text-true l x.0 (first_so _ _ are))) ∙ first_so _ _ rise
      | false ↦ λ t found. key-above n ns fs ks m s (rise-on n l ns (first_so _ _ rise) (second_so (before n l) _ rise))
          (second_so _ _ (second_so (same_text l x.0) _ are)) found
    ] refl found

-- a key field is the one that is found by its name
each-key : (P : Text → Scalar → Type 0) (ns : List Text) (fs : Fields) (ks : List (Text × Scalar)) → do_rise ns ≡ true → are_keys ns fs ks ≡ true
    → ((n : Text) (s : Scalar) → scalar_of n ks ≡ Some s → P n s)
    → AllByRecursion (λ (x : Text × Scalar). P x.0 x.1) ks
each-key P ns fs [] rise are h = tt
each-key P [] fs (x ∷ ks) rise are h = absurd (true≢false (sym are))
each-key P (n ∷ ns) fs (x ∷ ks) rise are h =
    let rest = second_so (is_key_of (kind_of n fs) x.1) _ (second_so (same_text n x.0) _ are) in (
      h x.0 x.1 (ap (λ t. if t then Some x.1 else scalar_of x.0 ks) (text-itself x.0)),
      each-key P ns fs ks (rest-rise n ns rise) rest (λ m s found. h m s (ap (λ t. if t then Some x.1 else scalar_of m ks) (other m s found rest) ∙ found)),
    )
  where
    other : (m : Text) (s : Scalar) → scalar_of m ks ≡ Some s → are_keys ns fs ks ≡ true → same_text m x.0 ≡ false
    other m s found rest = apart-less m x.0 (ap (λ y. before y m) (sym (same_text-true n x.0 (first_so _ _ are))) ∙ key-above n ns fs ks m s rise rest found)

-- ---- the key fields of an item

key-fits : (o : Option Kind) (s : Scalar) (q : Path) → is_key_of o s ≡ true → key_field_fault o (Some (scalar s)) q ≡ []
key-fits (Some (scalar_kind k)) s q h = ap (λ b. fault_unless b wrong_type q) h
key-fits _ s q h = absurd (true≢false (sym h))

abbrev Have : Members → List (Text × Scalar) → Type 0
Have ms ks = AllByRecursion (λ (x : Text × Scalar). member_of x.0 ms ≡ Some (scalar x.1)) ks

abbrev SameKeys : List Text → Members → List (Text × Scalar) → Type 0
SameKeys ns ms ks = key_scalars ns ms ≡ ks

keys-shown : (ns : List Text) (fs : Fields) (ms : Members) (ks : List (Text × Scalar)) → are_keys ns fs ks ≡ true → Have ms ks → SameKeys ns ms ks
keys-shown [] fs ms [] are have = refl
keys-shown [] fs ms (x ∷ ks) are have = absurd (true≢false (sym are))
keys-shown (n ∷ ns) fs ms [] are have = absurd (true≢false (sym are))
keys-shown (n ∷ ns) fs ms (x ∷ ks) are have =
    let same = same_text-true n x.0 (first_so _ _ are) in
    let rest = keys-shown ns fs ms ks (second_so _ _ (second_so (same_text n x.0) _ are)) have.1 in
    ap (λ o. cons_scalar n o (key_scalars ns ms)) (ap (λ t. member_of t ms) same ∙ have.0) ∙ (λ i. (same i, x.1) ∷ rest i)

keys-fit : (ns : List Text) (fs : Fields) (ms : Members) (ks : List (Text × Scalar)) (q : Path) → are_keys ns fs ks ≡ true → Have ms ks
    → key_faults ns fs ms q ≡ []
keys-fit [] fs ms ks q are have = refl
keys-fit (n ∷ ns) fs ms [] q are have = absurd (true≢false (sym are))
keys-fit (n ∷ ns) fs ms (x ∷ ks) q are have =
    let same = same_text-true n x.0 (first_so _ _ are) in
    let later = second_so (same_text n x.0) _ are in
    let rest = keys-fit ns fs ms ks q (second_so _ _ later) have.1 in
    let first = ap (λ o. key_field_fault (kind_of n fs) o q) (ap (λ t. member_of t ms) same ∙ have.0) ∙ key-fits (kind_of n fs) x.1 q (first_so _ _ later) in
    λ i. first i ++ rest i

-- ---- items

-- an item of a set stands as its value
pub record IsSetItem (k : ScalarKind) (b : Body) (p : Path) (e : Element) : Type 0 where
  -- the scalar of the item
  pub own : Scalar
  -- the element is this value
  pub is_own : e ≡ value own
  -- the scalar is one of the set's
  pub fits : is_of k own ≡ true
  -- the body has this scalar at the item
  pub there : get b (p ++ e ∷ []) ≡ Some (leaf own)

-- an item of a map list shows its key fields
pub record IsListItem (kind : Kind) (ns : List Text) (fs : Fields) (b : Body) (p : Path) (e : Element) : Type 0 where
  -- the body has the item
  pub there : has b (p ++ e ∷ []) ≡ true
  -- the schema has the place of an item there
  pub at : place_at (of_kind kind) (p ++ e ∷ []) ≡ Some (item_of ns fs)
  -- the fields that the item shows have this element for their key
  pub own_key : item_key ns (shown_fields fs b (p ++ e ∷ [])) ≡ e
  -- these fields have the key fields, without a fault
  pub keys : (q : Path) → key_faults ns fs (shown_fields fs b (p ++ e ∷ [])) q ≡ []

scalar-key : (o : Option Kind) (s : Scalar) → is_key_of o s ≡ true → (j : ScalarKind) × (o ≡ Some (scalar_kind j))
scalar-key (Some (scalar_kind j)) s h = (j, refl)
scalar-key _ s h = absurd (true≢false (sym h))

module _ (kind : Kind) (b : Body) (k : IsBodyOf kind b) where
  -- an element in the order of a set stands as its value
  pub set-item : (j : ScalarKind) (p : Path) (e : Element) → place_at (of_kind kind) p ≡ Some (of_kind (kinds.set_of j))
      → is_among e (order_at (get b p)) ≡ true → IsSetItem j b p e
  set-item j p e at among =
      let there = listed kind b k p e among in
      let r = below kind b k p (of_kind (kinds.set_of j)) e at there in
      let x = set-place j e r.place r.below in
      let c = stands kind b k (p ++ e ∷ []) r.place r.there there in
      record {
        own = x.own;
        is_own = x.is_own;
        fits = x.fits;
        there = c.is_there ∙ ap Some (value-leaf x.own c.content (ap (λ s. content_fits s c.content) x.place ∙ c.fits));
      }

  module _ (ns : List Text) (fs : Fields) (names : are_key_names ns ≡ true) where
    key-member : (p : Path) (ks : List (Text × Scalar)) (n : Text) (s : Scalar) → has b (p ++ key ks ∷ []) ≡ true → scalar_of n ks ≡ Some s
        → is_key_of (kind_of n fs) s ≡ true
        → member_of n (shown_fields fs b (p ++ key ks ∷ [])) ≡ Some (scalar s)
    key-member p ks n s there found is_key =
        let own = k.keys p ks n s found there in
        let j = scalar-key (kind_of n fs) s is_key in
        member_of-fields b (p ++ key ks ∷ []) n fs
        ∙ (λ i. cond (is_some (own i)) (option_map (λ x. shown x b ((p ++ key ks ∷ []) ++ field n ∷ [])) (j.1 i)) None)
        ∙ ap (λ o. Some (content_value o)) own

    abbrev OwnKey : List (Text × Scalar) → Text → Scalar → Type 0
    OwnKey ks n s = (scalar_of n ks ≡ Some s)

    key-kinds : (ls : List Text) (ks : List (Text × Scalar)) → are_keys ls fs ks ≡ true
        → AllByRecursion (λ (x : Text × Scalar). is_key_of (kind_of x.0 fs) x.1 ≡ true) ks
    key-kinds ls [] are = tt
    key-kinds [] (x ∷ ks) are = absurd (true≢false (sym are))
    key-kinds (l ∷ ls) (x ∷ ks) are =
        let later = second_so (same_text l x.0) _ are in
        (ap (λ t. is_key_of (kind_of t fs) x.1) (sym (same_text-true l x.0 (first_so _ _ are))) ∙ first_so _ _ later, key-kinds ls ks (second_so _ _ later))

    have-each : (p : Path) (ks ls : List (Text × Scalar)) → has b (p ++ key ks ∷ []) ≡ true → AllByRecursion (λ (x : Text × Scalar). OwnKey ks x.0 x.1) ls
        → AllByRecursion (λ (x : Text × Scalar). is_key_of (kind_of x.0 fs) x.1 ≡ true) ls
        → Have (shown_fields fs b (p ++ key ks ∷ [])) ls
    have-each p ks [] there g h = tt
    have-each p ks (x ∷ ls) there g h = (key-member p ks x.0 x.1 there g.0 h.0, have-each p ks ls there g.1 h.1)

    have-keys : (p : Path) (ks : List (Text × Scalar)) → has b (p ++ key ks ∷ []) ≡ true → are_keys ns fs ks ≡ true
        → Have (shown_fields fs b (p ++ key ks ∷ [])) ks
    have-keys p ks there are = have-each p ks ks there (each-key (OwnKey ks) ns fs ks (key-names-rise ns names) are (λ n s found. found)) (key-kinds ns ks are)

    keyed-item : (p : Path) (ks : List (Text × Scalar)) → has b (p ++ key ks ∷ []) ≡ true → are_keys ns fs ks ≡ true
        → place_at (of_kind kind) (p ++ key ks ∷ []) ≡ Some (item_of ns fs) → IsListItem kind ns fs b p (key ks)
    keyed-item p ks there are at =
        let have = have-keys p ks there are in
        record {
          there = there;
          at = at;
          own_key = ap key (keys-shown ns fs (shown_fields fs b (p ++ key ks ∷ [])) ks are have);
          keys = λ q. keys-fit ns fs (shown_fields fs b (p ++ key ks ∷ [])) ks q are have;
        }

    -- an element in the order of a map list stands as an item that shows its key fields
    pub list-item : (p : Path) (e : Element) → place_at (of_kind kind) p ≡ Some (of_kind (items_of ns fs)) → is_among e (order_at (get b p)) ≡ true
        → IsListItem kind ns fs b p e
    list-item p e at among =
        let there = listed kind b k p e among in
        let r = below kind b k p (of_kind (items_of ns fs)) e at there in
        let x = list-place ns fs e r.place r.below in
        subst (IsListItem kind ns fs b p) (sym x.is_own)
        (keyed-item p x.own (ap (λ y. has b (p ++ y ∷ [])) (sym x.is_own) ∙ there) x.fits (ap (λ y. place_at (of_kind kind) (p ++ y ∷ [])) (sym x.is_own)
        ∙ r.there ∙ ap Some (sym x.place)))
