-- The set that a value without faults says as FieldsV1 has just the paths that the value says.
use Rattle.std.proofs.Common.{◌≡◌, List, [], ◌∷◌, ◌++◌, map, Bool, true, false, cond, ◌&&◌, ◌||◌, Option, Some, None, Result, Ok, Err, refl, sym, ap, ◌∙◌, true≢false}
use Rattle.std.proofs.lemmas.List.Folds.{list_any-append}
use Rattle.std.specs.Prelude.{codes, is_some}
use Rattle.std.specs.Cmp.{first_so, second_so}
use Rattle.std.specs.Ordering.{is_eq}
use Rattle.ssa_model.specs.definitions.Json.{Text, Json, scalar, list, object, Members, no_members, member, member_of, same_text, same_json}
use Rattle.ssa_model.specs.definitions.Path.{Element, field, key, value, Path, element_text, element_cmp, path_cmp, same_element}
use Rattle.ssa_model.specs.definitions.Readings.{ReadFault}
use Rattle.ssa_model.specs.definitions.ElementTexts.{ElementFault, bad_element, index_element, not_canonical, element_of, is_index, spelled_element}
use Rattle.ssa_model.specs.definitions.FieldsV1.{value_below, is_no_object, has_dot, says, dot_alone, is_nothing_inside, fields_faults, member_faults, said_paths, member_paths}
use Rattle.ssa_model.specs.laws.OneWriting.{SaidSetSays}
use Rattle.ssa_model.specs.definitions.MemberNames.{has_distinct_names, are_distinct_members}
use Rattle.ssa_model.specs.definitions.Objects.{is_missing}
use Rattle.ssa_model.proofs.Faults.{cons≢nil, nil_first, nil_second}
use Rattle.ssa_model.proofs.Lists.{has-listed}
use Rattle.ssa_model.proofs.PathMaps.{is_one_of}
use Rattle.ssa_model.proofs.Tables.{apart_by, same_text-true, text-itself, element-itself}
use Rattle.ssa_model.proofs.Texts.{element_text-injective}
use Rattle.ssa_model.proofs.ReachedPlaces.{missing as none-there}
use Rattle.ssa_model.proofs.Basics.{then_both}

-- ---- one of two lists of paths

one-first : (ps qs : List Path) (q : Path) → is_one_of qs q ≡ false → is_one_of (ps ++ qs) q ≡ is_one_of ps q
one-first ps qs q none = list_any-append _ ps qs ∙ ap (λ b. is_one_of ps q || b) none ∙ or_false (is_one_of ps q)
  where
    or_false : (b : Bool) → (b || false) ≡ b
    or_false true = refl
    or_false false = refl

one-second : (ps qs : List Path) (q : Path) → is_one_of ps q ≡ false → is_one_of (ps ++ qs) q ≡ is_one_of qs q
one-second ps qs q none = list_any-append _ ps qs ∙ ap (λ b. b || is_one_of qs q) none

-- ---- paths with an element in front

-- the paths, each with the element in front
abbrev pub behind : Element → List Path → List Path
behind e = map (λ p. e ∷ p)

-- the root is none of these
pub no-root : (e : Element) (ps : List Path) → is_one_of (behind e ps) [] ≡ false
no-root e [] = refl
no-root e (p ∷ ps) = no-root e ps

-- a path with this element in front is one of these exactly where it is one of the paths
pub same-behind : (e : Element) (ps : List Path) (q : Path) → is_one_of (behind e ps) (e ∷ q) ≡ is_one_of ps q
same-behind e [] q = refl
same-behind e (p ∷ ps) q =
    ap (λ b. b || is_one_of (behind e ps) (e ∷ q)) (then_both (element_cmp e e) (path_cmp q p) ∙ (λ i. element-itself e i && is_eq (path_cmp q p)))
    ∙ ap (λ b. is_eq (path_cmp q p) || b) (same-behind e ps q)

-- a path with another element in front is none of these
pub other-behind : (e f : Element) (ps : List Path) (q : Path) → same_element e f ≡ false → is_one_of (behind f ps) (e ∷ q) ≡ false
other-behind e f [] q other = refl
other-behind e f (p ∷ ps) q other =
    ap (λ b. b || is_one_of (behind f ps) (e ∷ q)) (then_both (element_cmp e f) (path_cmp q p) ∙ (λ i. other i && is_eq (path_cmp q p)))
    ∙ other-behind e f ps q other

-- ---- texts

-- texts that differ differ the other way too
pub other-way : (s t : Text) → same_text s t ≡ false → same_text t s ≡ false
other-way s t other = apart_by (same_text t s) (λ same. true≢false (sym (text-itself s) ∙ ap (same_text s) (sym (same_text-true t s same)) ∙ other))

-- no element's text is `.`
pub no-dot : (e : Element) → same_text (element_text e) (codes ".") ≡ false
no-dot (field n) = refl
no-dot (key ks) = refl
no-dot (value s) = refl

-- something stands there, and it is `{}` or has `.`
abbrev pub is_said : Option Json → Bool
is_said o = is_no_object o || has_dot o

-- the value to which a path leads from a value, if there is one
abbrev pub value_in : Path → Option Json → Option Json
value_in p o = elim o [ None ↦ None | Some v ↦ value_below v p ]

module _ (reading : Text → Result Json ReadFault) where
  abbrev read_element : Text → Bool → Option Element → Result Element ElementFault
  read_element n b o = cond b (Err index_element) (elim o [ None ↦ Err bad_element | Some e ↦ cond (same_text (element_text e) n) (Ok e) (Err not_canonical) ])

  -- a text that is an element's is its own
  pub own-text : (n : Text) (e : Element) → element_of reading n ≡ Ok e → element_text e ≡ n
  own-text n e is = by (is_index n) (spelled_element reading n) is
    where
      by : (b : Bool) (o : Option Element) → read_element n b o ≡ Ok e → element_text e ≡ n
      by true o h = cc
      by false None h = cc
      by false (Some f) h =
          elim (same_text (element_text f) n) as (λ b. same_text (element_text f) n ≡ b
          → ◌≡◌ {A = Result Element ElementFault} (cond b (Ok f) (Err not_canonical)) (Ok e) → element_text e ≡ n) [
            | true ↦ λ same k. let is : f ≡ e = cc in ap element_text (sym is) ∙ same_text-true (element_text f) n same
            | false ↦ λ _ k. cc
          ] refl h

  -- ---- one member

  abbrev below_faults : Json → List ElementFault
  below_faults v = cond (same_json v dot_alone) (not_canonical ∷ []) (fields_faults reading v)

  abbrev child_faults : Result Element ElementFault → Json → List ElementFault
  child_faults r v = elim r [ Err f ↦ f ∷ [] | Ok e ↦ below_faults v ]

  abbrev own_faults : Text → Json → List ElementFault
  own_faults n v = cond (same_text n (codes ".")) (cond (is_nothing_inside v) [] (bad_element ∷ [])) (child_faults (element_of reading n) v)

  abbrev inside_paths : Json → List Path
  inside_paths v = cond (is_nothing_inside v) ([] ∷ []) (said_paths reading v)

  abbrev child_paths : Result Element ElementFault → Json → List Path
  child_paths r v = elim r [ Err f ↦ [] | Ok e ↦ behind e (inside_paths v) ]

  abbrev own_paths : Text → Json → List Path
  own_paths n v = cond (same_text n (codes ".")) ([] ∷ []) (child_paths (element_of reading n) v)

  child-no-root : (r : Result Element ElementFault) (v : Json) → is_one_of (child_paths r v) [] ≡ false
  child-no-root (Err f) v = refl
  child-no-root (Ok e) v = no-root e (inside_paths v)

  faults-inside : (b : Bool) (fs : List ElementFault) → cond b (not_canonical ∷ []) fs ≡ [] → fs ≡ []
  faults-inside true fs h = absurd (cons≢nil h)
  faults-inside false fs h = h

  inside-said : (v : Json) (p : Path) → below_faults v ≡ [] → (fields_faults reading v ≡ [] → says v p ≡ is_one_of (said_paths reading v) p)
      → is_said (value_below v p) ≡ is_one_of (inside_paths v) p
  inside-said (object no_members) [] none inside = refl
  inside-said (object no_members) (e ∷ p) none inside = refl
  inside-said (object (member n v ms)) [] none inside = inside (faults-inside (same_json (object (member n v ms)) dot_alone) _ none)
  inside-said (object (member n v ms)) (e ∷ p) none inside = inside (faults-inside (same_json (object (member n v ms)) dot_alone) _ none)
  inside-said (scalar s) p none inside = absurd (cons≢nil none)
  inside-said (list vs) p none inside = absurd (cons≢nil none)

  child-said : (e : Element) (p : Path) (n : Text) (v : Json) (r : Result Element ElementFault) → element_text e ≡ n → element_of reading n ≡ r
      → child_faults r v ≡ []
      → (fields_faults reading v ≡ [] → says v p ≡ is_one_of (said_paths reading v) p) → is_said (value_below v p) ≡ is_one_of (child_paths r v) (e ∷ p)
  child-said e p n v (Err f) text is none inside = absurd (cons≢nil none)
  child-said e p n v (Ok d) text is none inside =
      let same : e ≡ d = element_text-injective e d (text ∙ sym (own-text n d is)) in
      inside-said v p none inside ∙ sym (same-behind e (inside_paths v) p) ∙ ap (λ x. is_one_of (behind x (inside_paths v)) (e ∷ p)) same

  -- the member of the element's text says what stands behind the element
  own-said : (e : Element) (p : Path) (n : Text) (v : Json) → element_text e ≡ n → own_faults n v ≡ []
      → (fields_faults reading v ≡ [] → says v p ≡ is_one_of (said_paths reading v) p) → is_said (value_below v p) ≡ is_one_of (own_paths n v) (e ∷ p)
  own-said e p n v text none inside =
      let other : same_text n (codes ".") ≡ false = ap (λ t. same_text t (codes ".")) (sym text) ∙ no-dot e in
      let child = ap (λ b. cond b (cond (is_nothing_inside v) [] (bad_element ∷ [])) (child_faults (element_of reading n) v)) (sym other) ∙ none in
      child-said e p n v (element_of reading n) text refl child inside
      ∙ ap (λ b. is_one_of (cond b ([] ∷ []) (child_paths (element_of reading n) v)) (e ∷ p)) (sym other)

  -- another member says nothing behind it
  own-other : (e : Element) (p : Path) (n : Text) (v : Json) → same_text (element_text e) n ≡ false → is_one_of (own_paths n v) (e ∷ p) ≡ false
  own-other e p n v other = by (same_text n (codes ".")) (element_of reading n) refl
    where
      by : (b : Bool) (r : Result Element ElementFault) → element_of reading n ≡ r → is_one_of (cond b ([] ∷ []) (child_paths r v)) (e ∷ p) ≡ false
      by true r is = refl
      by false (Err f) is = refl
      by false (Ok f) is = other-behind e f (inside_paths v) p (ap (same_text (element_text e)) (own-text n f is) ∙ other)

  -- ---- all members

  root-said : (ms : Members) → is_some (member_of (codes ".") ms) ≡ is_one_of (member_paths reading ms) []
  root-said no_members = refl
  root-said (member n v ms) =
      elim (same_text n (codes ".")) as (λ b. same_text n (codes ".") ≡ b
      → is_some (member_of (codes ".") (member n v ms)) ≡ is_one_of (cond b ([] ∷ []) (child_paths (element_of reading n) v) ++ member_paths reading ms)
      []) [
        | true ↦ λ dot. here (ap (same_text (codes ".")) (same_text-true n (codes ".") dot) ∙ text-itself (codes "."))
        | false ↦ λ other.
            here (other-way n (codes ".") other) ∙ root-said ms
            ∙ sym (one-second (child_paths (element_of reading n) v) (member_paths reading ms) [] (child-no-root (element_of reading n) v))
      ] refl
    where
      here : {b : Bool} → same_text (codes ".") n ≡ b → is_some (member_of (codes ".") (member n v ms)) ≡ is_some (cond b (Some v) (member_of (codes ".") ms))
      here is = ap (λ b. is_some (cond b (Some v) (member_of (codes ".") ms))) is

  mutual
    says-value : (v : Json) → has_distinct_names v ≡ true → fields_faults reading v ≡ [] → (p : Path) → says v p ≡ is_one_of (said_paths reading v) p
    says-value (object ms) distinct none [] = root-said ms
    says-value (object ms) distinct none (e ∷ p) = says-members ms distinct none e p
    says-value (scalar s) distinct none p = absurd (cons≢nil none)
    says-value (list vs) distinct none p = absurd (cons≢nil none)

    says-members : (ms : Members) → are_distinct_members ms ≡ true → member_faults reading ms ≡ [] → (e : Element) (p : Path)
        → is_said (value_in p (member_of (element_text e) ms)) ≡ is_one_of (member_paths reading ms) (e ∷ p)
    says-members no_members distinct none e p = refl
    says-members (member n v ms) distinct none e p =
        let later = second_so (is_missing (member_of n ms)) _ distinct in
        let rest = says-members ms (second_so (has_distinct_names v) _ later) (nil_second (own_faults n v) _ none) e p in
        let own = own_paths n v in
        elim (same_text (element_text e) n) as (λ b. same_text (element_text e) n ≡ b
        → is_said (value_in p (cond b (Some v) (member_of (element_text e) ms))) ≡ is_one_of (own ++ member_paths reading ms) (e ∷ p)) [
          | true ↦ λ same.
              let text = same_text-true (element_text e) n same in
              let missing = ap (λ t. member_of t ms) text ∙ none-there (member_of n ms) (first_so _ _ distinct) in
              own-said e p n v text (nil_first (own_faults n v) _ none) (λ faultless. says-value v (first_so (has_distinct_names v) _ later) faultless p)
              ∙ sym (one-first own (member_paths reading ms) (e ∷ p) (sym rest ∙ ap (λ o. is_said (value_in p o)) missing))
          | false ↦ λ other. rest ∙ sym (one-second own (member_paths reading ms) (e ∷ p) (own-other e p n v other))
        ] refl

-- the set that a value without faults says has just the paths that it says, where no object of it names a member twice
pub said_set_says : SaidSetSays
said_set_says reading v p distinct none = says-value reading v distinct none p ∙ sym (has-listed (said_paths reading v) p)
