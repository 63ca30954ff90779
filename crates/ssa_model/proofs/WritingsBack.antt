-- A set whose paths are read from their texts is read back from its writing as FieldsV1.
use Rattle.std.proofs.Common.{◌≡◌, ◌≤◌, ℕ, zero, suc, List, [], ◌∷◌, ◌++◌, map, Bool, true, false, not, ◌&&◌, ◌||◌, Result, Ok, Err, refl, sym, ap, ◌∙◌, true≢false, arith}
use Rattle.std.proofs.Math.Bool.{and-false}
use Rattle.std.proofs.Math.Nat.{max-le}
use Rattle.std.proofs.lemmas.List.Folds.{list_any-append}
use Rattle.std.specs.Prelude.{if◌then◌else◌, codes}
use Rattle.std.specs.List.{list_any, AllByRecursion}
use Rattle.std.specs.Cmp.{first_so, second_so}
use Rattle.std.specs.FinMap.Entries.{below_all, is_sorted}
use Rattle.std.specs.Ordering.{is_eq}
use Rattle.ssa_model.specs.definitions.Json.{Json, object, Members, no_members, member, same_text, same_json, same_members}
use Rattle.ssa_model.specs.definitions.Path.{Element, Path, element_text, element_cmp, path_cmp, same_element, same_path, is_root}
use Rattle.ssa_model.specs.definitions.PathMap.{PathSet, paths}
use Rattle.ssa_model.specs.definitions.Kind.{is_among}
use Rattle.ssa_model.specs.definitions.Readings.{Readings}
use Rattle.ssa_model.specs.definitions.ElementTexts.{ElementFault, not_canonical, bad_element, element_of}
use Rattle.ssa_model.specs.definitions.FieldsV1.{with_head, heads, tails, is_place_alone, nothing_written, field_members, written_paths, longest, fields_json, dot_alone, is_nothing_inside, fields_faults, member_faults, said_paths, member_paths, said_set}
use Rattle.ssa_model.specs.definitions.RecordReading.{HasReadSet, IsReadPath}
use Rattle.ssa_model.proofs.Fitting.{same_element-true}
use Rattle.ssa_model.proofs.Lists.{keys, has-listed}
use Rattle.ssa_model.proofs.PathMaps.{is_one_of, has-paths, same_path-itself, same_sets}
use Rattle.ssa_model.proofs.SaidSets.{behind, no-root, same-behind, other-behind, no-dot}
use Rattle.ssa_model.proofs.ShownItems.{each-among}
use Rattle.ssa_model.proofs.Tables.{true_or, element-itself}
use Rattle.ssa_model.proofs.Tests.{by_test, holds}
use Rattle.ssa_model.proofs.Basics.{or_twice, not_true as no, then_both, lower}

-- ---- the paths that begin with an element, and the first elements

one-tail : (e : Element) (ps : List Path) (q : Path) → is_one_of (tails e ps) q ≡ is_one_of ps (e ∷ q)
one-tail e [] q = refl
one-tail e ([] ∷ ps) q = one-tail e ps q
one-tail e ((f ∷ p) ∷ ps) q =
    elim (same_element e f) as (λ b. is_one_of (if b then p ∷ tails e ps else tails e ps) q ≡ ((b && same_path q p) || is_one_of ps (e ∷ q))) [
      | true ↦ ap (λ t. same_path q p || t) (one-tail e ps q)
      | false ↦ one-tail e ps q
    ]
    ∙ ap (λ t. t || is_one_of ps (e ∷ q)) (sym (then_both (element_cmp e f) (path_cmp q p)))

-- what follows an element in paths is shorter by one
pub longest-tail : (e : Element) (ps : List Path) (n : ℕ) → longest ps ≤ suc n → longest (tails e ps) ≤ n
longest-tail e [] n h = omega arith
longest-tail e ([] ∷ ps) n h = longest-tail e ps n (omega arith)
longest-tail e ((f ∷ p) ∷ ps) n h =
    let rest = longest-tail e ps n (omega arith) in
    elim (same_element e f) as (λ b. longest (if b then p ∷ tails e ps else tails e ps) ≤ n) [ true ↦ max-le (omega arith) rest | false ↦ rest ]

-- there is a path
abbrev is_filled : List Path → Bool
is_filled [] = false
is_filled (p ∷ ps) = true

among-head : (e f : Element) (fs : List Element) → is_among e (with_head f fs) ≡ (same_element e f || is_among e fs)
among-head e f [] = refl
among-head e f (g ∷ fs) =
    let later = same_element e g || is_among e fs in
    elim (same_element f g) as (λ b. same_element f g ≡ b → is_among e (if b then g ∷ fs else f ∷ g ∷ fs) ≡ (same_element e f || later)) [
      | true ↦ λ t. or_twice (same_element e g) (is_among e fs) ∙ ap (λ x. same_element e x || later) (sym (same_element-true f g t))
      | false ↦ λ t. refl
    ] refl

among-filled : (e : Element) (ps : List Path) → is_among e (heads ps) ≡ is_filled (tails e ps)
among-filled e [] = refl
among-filled e ([] ∷ ps) = among-filled e ps
among-filled e ((f ∷ p) ∷ ps) =
    among-head e f (heads ps)
    ∙ elim (same_element e f) as (λ b. (b || is_among e (heads ps)) ≡ is_filled (if b then p ∷ tails e ps else tails e ps)) [
      | true ↦ refl
      | false ↦ among-filled e ps
    ]

-- some element stands in front
head-form : (e : Element) (fs : List Element) → (g : Element) × ((gs : List Element) × (with_head e fs ≡ g ∷ gs))
head-form e [] = (e, ([], refl))
head-form e (f ∷ fs) =
    elim (same_element e f) as (λ b. (g : Element) × ((gs : List Element) × ((if b then f ∷ fs else e ∷ f ∷ fs) ≡ g ∷ gs))) [
      | true ↦ (f, (fs, refl))
      | false ↦ (e, (f ∷ fs, refl))
    ]

root-one : (ps : List Path) → is_one_of ps [] ≡ list_any is_root ps
root-one [] = refl
root-one ([] ∷ ps) = refl
root-one ((e ∷ p) ∷ ps) = root-one ps

short-none : (ps : List Path) (e : Element) (q : Path) → longest ps ≤ 0 → is_one_of ps (e ∷ q) ≡ false
short-none [] e q h = refl
short-none ([] ∷ ps) e q h = short-none ps e q (omega arith)
short-none ((f ∷ p) ∷ ps) e q h = absurd (omega arith)

and-filled : (qs : List Path) (q : Path) → (is_filled qs && is_one_of qs q) ≡ is_one_of qs q
and-filled [] q = refl
and-filled (p ∷ qs) q = refl

one-of-filled : (qs : List Path) → is_filled qs ≡ true → (q : Path) × (is_one_of qs q ≡ true)
one-of-filled [] h = absurd (true≢false (sym h))
one-of-filled (q ∷ qs) h = (q, true_or _ _ (same_path-itself q))

alone-is : (qs : List Path) → is_place_alone qs ≡ true → qs ≡ [] ∷ []
alone-is [] h = absurd (true≢false (sym h))
alone-is ([] ∷ []) h = refl
alone-is ([] ∷ p ∷ qs) h = absurd (true≢false (sym h))
alone-is ((e ∷ p) ∷ qs) h = absurd (true≢false (sym h))

-- ---- lists in which no path stands twice

abbrev are_apart : List Path → Bool
are_apart [] = true
are_apart (p ∷ ps) = not (is_one_of ps p) && are_apart ps

apart-tail : (e : Element) (ps : List Path) → are_apart ps ≡ true → are_apart (tails e ps) ≡ true
apart-tail e [] h = refl
apart-tail e ([] ∷ ps) h = apart-tail e ps (second_so (not (is_one_of ps [])) _ h)
apart-tail e ((f ∷ p) ∷ ps) h =
    let rest = apart-tail e ps (second_so (not (is_one_of ps (f ∷ p))) _ h) in
    elim (same_element e f) as (λ b. same_element e f ≡ b → are_apart (if b then p ∷ tails e ps else tails e ps) ≡ true) [
      | true ↦ λ t.
          let off = one-tail e ps p ∙ ap (λ x. is_one_of ps (x ∷ p)) (same_element-true e f t) ∙ no (is_one_of ps (f ∷ p)) (first_so _ _ h) in
          λ i. not (off i) && rest i
      | false ↦ λ t. rest
    ] refl

module _ {X : Type 0} where
  -- a path before all those of some entries is none of them
  pub none-below : (p : Path) (es : List (Path × X)) → below_all path_cmp p es ≡ true → is_one_of (keys es) p ≡ false
  none-below p [] h = refl
  none-below p (e ∷ es) h =
      let other = ap is_eq (lower (path_cmp p e.0) (first_so _ _ h)) in
      let rest = none-below p es (second_so _ _ h) in
      λ i. other i || rest i

  sorted-apart : (es : List (Path × X)) → is_sorted path_cmp es ≡ true → are_apart (keys es) ≡ true
  sorted-apart [] h = refl
  sorted-apart (e ∷ es) h =
      let off = none-below e.0 es (first_so _ _ h) in
      let rest = sorted-apart es (second_so _ _ h) in
      λ i. not (off i) && rest i

-- ---- what is written of some paths

-- an object of these members, with `.` in front where the place itself is written
abbrev dotted : Bool → Members → Json
dotted b ms = if b then object (member (codes ".") nothing_written ms) else object ms

some-inside : (n : ℕ) (qs : List Path) → is_filled qs ≡ true → longest qs ≤ n → is_nothing_inside (written_paths n qs) ≡ false
some-inside n [] filled long = absurd (true≢false (sym filled))
some-inside zero ([] ∷ qs) filled long = refl
some-inside (suc n) ([] ∷ qs) filled long = refl
some-inside zero ((e ∷ q) ∷ qs) filled long = absurd (omega arith)
some-inside (suc n) ((e ∷ q) ∷ qs) filled long =
    let ps = (e ∷ q) ∷ qs in
    let form = head-form e (heads qs) in
    let members = field_members (written_paths n) ps (with_head e (heads qs)) in
    elim (list_any is_root qs) as (λ b. is_nothing_inside (dotted b members) ≡ false) [
      | true ↦ refl
      | false ↦ ap (λ es. is_nothing_inside (object (field_members (written_paths n) ps es))) form.1.1
    ]

-- it isn't `.` alone
other-value : (n : ℕ) (qs : List Path) → is_filled qs ≡ true → are_apart qs ≡ true → longest qs ≤ n → is_place_alone qs ≡ false
    → same_json (written_paths n qs) dot_alone ≡ false
other-value n [] filled apart long off = absurd (true≢false (sym filled))
other-value n ([] ∷ []) filled apart long off = absurd (true≢false off)
other-value n ([] ∷ [] ∷ qs) filled apart long off = absurd (true≢false (sym apart))
other-value zero ([] ∷ (e ∷ q) ∷ qs) filled apart long off = absurd (omega arith)
other-value (suc n) ([] ∷ (e ∷ q) ∷ qs) filled apart long off =
    let form = head-form e (heads qs) in
    ap (λ es. same_members (field_members (written_paths n) ([] ∷ (e ∷ q) ∷ qs) es) no_members) form.1.1
other-value zero ((e ∷ q) ∷ qs) filled apart long off = absurd (omega arith)
other-value (suc n) ((e ∷ q) ∷ qs) filled apart long off =
    let ps = (e ∷ q) ∷ qs in
    let form = head-form e (heads qs) in
    let members = field_members (written_paths n) ps (with_head e (heads qs)) in
    elim (list_any is_root qs) as (λ b. same_json (dotted b members) dot_alone ≡ false) [
      | true ↦ ap (λ es. same_members (field_members (written_paths n) ps es) no_members) form.1.1
      | false ↦ ap (λ es. same_json (object (field_members (written_paths n) ps es)) dot_alone) form.1.1 ∙ named form.0 form.1.0
    ]
  where
    named : (g : Element) (gs : List Element) → same_json (object (field_members (written_paths n) ((e ∷ q) ∷ qs) (g ∷ gs))) dot_alone ≡ false
    named g gs =
        ap
        (λ b. b && (same_json (if is_place_alone (tails g ((e ∷ q) ∷ qs)) then nothing_written else written_paths n (tails g ((e ∷ q) ∷ qs))) nothing_written
        && same_members (field_members (written_paths n) ((e ∷ q) ∷ qs) gs) no_members))
        (no-dot g)

absorb : (t a : Bool) → (t || (a && t)) ≡ t
absorb true a = refl
absorb false a = and-false a

either-way : (s a t u : Bool) → (s ≡ true → u ≡ t) → ((s && u) || (a && t)) ≡ ((s || a) && t)
either-way true a t u h = ap (λ x. x || (a && t)) (h refl) ∙ absorb t a
either-way false a t u h = refl

one-behind : (e f : Element) (ps : List Path) (q : Path) → is_one_of (behind f ps) (e ∷ q) ≡ (same_element e f && is_one_of ps q)
one-behind e f ps q =
    by_test (same_element e f)
    (λ t. ap (λ x. is_one_of (behind f ps) (x ∷ q)) (same_element-true e f t) ∙ same-behind f ps q ∙ sym (ap (λ b. b && is_one_of ps q) t))
    (λ t. other-behind e f ps q t ∙ sym (ap (λ b. b && is_one_of ps q) t))

module _ (readings : Readings) where
  -- each of the paths is read from its texts
  abbrev AreRead : List Path → Type 0
  AreRead ps = (p : Path) → is_one_of ps p ≡ true → IsReadPath readings p

  read-tail : (e : Element) (ps : List Path) → AreRead ps → AreRead (tails e ps)
  read-tail e ps h p one = (h (e ∷ p) (sym (one-tail e ps p) ∙ one)).1

  -- an element in front of some of the paths, that is read from its text
  abbrev IsHead : List Path → Element → Type 0
  IsHead ps e = (element_of readings.value (element_text e) ≡ Ok e) × (is_filled (tails e ps) ≡ true)

  all-heads : (ps : List Path) → AreRead ps → AllByRecursion (IsHead ps) (heads ps)
  all-heads ps h =
      each-among same_element element-itself (IsHead ps) (heads ps) (λ e among.
      let filled = sym (among-filled e ps) ∙ among in
      let one = one-of-filled (tails e ps) filled in
      ((h (e ∷ one.0) (sym (one-tail e ps one.0) ∙ one.1)).0, filled))

  -- ---- what the writing says

  abbrev below_value : ℕ → List Path → Json
  below_value n qs = if is_place_alone qs then nothing_written else written_paths n qs

  abbrev inside_paths : Json → List Path
  inside_paths v = if is_nothing_inside v then [] ∷ [] else said_paths readings.value v

  abbrev Says : ℕ → List Path → Type 0
  Says n qs = (q : Path) → is_one_of (said_paths readings.value (written_paths n qs)) q ≡ is_one_of qs q

  inside-said : (n : ℕ) (qs : List Path) → is_filled qs ≡ true → longest qs ≤ n → Says n qs
      → (q : Path) → is_one_of (inside_paths (below_value n qs)) q ≡ is_one_of qs q
  inside-said n qs filled long says q =
      let v = written_paths n qs in
      elim (is_place_alone qs) as (λ b. is_place_alone qs ≡ b → is_one_of (inside_paths (if b then nothing_written else v)) q ≡ is_one_of qs q) [
        | true ↦ λ t. ap (λ ps. is_one_of ps q) (sym (alone-is qs t))
        | false ↦ λ t. ap (λ b. is_one_of (if b then [] ∷ [] else said_paths readings.value v) q) (some-inside n qs filled long) ∙ says q
      ] refl

  -- the paths that a member of the writing says
  abbrev own_paths : ℕ → List Path → Element → List Path
  own_paths n ps f =
      if same_text (element_text f) (codes ".") then [] ∷ []
      else elim (element_of readings.value (element_text f)) [ Err x ↦ [] | Ok e ↦ map (λ p. e ∷ p) (inside_paths (below_value n (tails f ps))) ]

  own-is : (n : ℕ) (ps : List Path) (f : Element) → IsHead ps f → own_paths n ps f ≡ behind f (inside_paths (below_value n (tails f ps)))
  own-is n ps f h =
      let v = below_value n (tails f ps) in
      ap (λ b. if b then [] ∷ [] else elim (element_of readings.value (element_text f)) [ Err x ↦ [] | Ok e ↦ map (λ p. e ∷ p) (inside_paths v) ]) (no-dot f)
      ∙ ap (λ (r : Result Element ElementFault). elim r [ Err x ↦ [] | Ok e ↦ map (λ p. e ∷ p) (inside_paths v) ]) h.0

  abbrev members : ℕ → List Path → List Element → Members
  members n ps es = field_members (written_paths n) ps es

  members-no-root : (n : ℕ) (ps : List Path) (es : List Element) → AllByRecursion (IsHead ps) es
      → is_one_of (member_paths readings.value (members n ps es)) [] ≡ false
  members-no-root n ps [] h = refl
  members-no-root n ps (f ∷ es) h =
      let inside = inside_paths (below_value n (tails f ps)) in
      let rest = member_paths readings.value (members n ps es) in
      ap (λ xs. is_one_of (xs ++ rest) []) (own-is n ps f h.0) ∙ list_any-append _ (behind f inside) rest
      ∙ (λ i. no-root f inside i || members-no-root n ps es h.1 i)

  members-said : (n : ℕ) (ps : List Path) (es : List Element)
      → ((f : Element) → is_filled (tails f ps) ≡ true → Says n (tails f ps)) → longest ps ≤ suc n → AllByRecursion (IsHead ps) es
      → (e : Element) (q : Path) → is_one_of (member_paths readings.value (members n ps es)) (e ∷ q) ≡ (is_among e es && is_one_of (tails e ps) q)
  members-said n ps [] says long h e q = refl
  members-said n ps (f ∷ es) says long h e q =
      let inside = inside_paths (below_value n (tails f ps)) in
      let rest = member_paths readings.value (members n ps es) in
      let below = inside-said n (tails f ps) h.0.1 (longest-tail f ps n long) (says f h.0.1) q in
      ap (λ xs. is_one_of (xs ++ rest) (e ∷ q)) (own-is n ps f h.0) ∙ list_any-append _ (behind f inside) rest
      ∙ (λ i. one-behind e f inside q i || members-said n ps es says long h.1 e q i)
      ∙ either-way (same_element e f) (is_among e es) (is_one_of (tails e ps) q) (is_one_of inside q)
      (λ t. below ∙ ap (λ x. is_one_of (tails x ps) q) (sym (same_element-true e f t)))

  written-said : (n : ℕ) (ps : List Path) → longest ps ≤ n → AreRead ps → Says n ps
  written-said zero ps long read [] =
      elim (list_any is_root ps) as (λ b. list_any is_root ps ≡ b → is_one_of (said_paths readings.value (dotted b no_members)) [] ≡ is_one_of ps []) [
        | true ↦ λ t. sym (root-one ps ∙ t)
        | false ↦ λ t. sym (root-one ps ∙ t)
      ] refl
  written-said zero ps long read (e ∷ q) =
      let none = short-none ps e q long in
      elim (list_any is_root ps) as (λ b. is_one_of (said_paths readings.value (dotted b no_members)) (e ∷ q) ≡ is_one_of ps (e ∷ q)) [
        | true ↦ sym none
        | false ↦ sym none
      ]
  written-said (suc n) ps long read [] =
      let ms = members n ps (heads ps) in
      elim (list_any is_root ps) as (λ b. list_any is_root ps ≡ b → is_one_of (said_paths readings.value (dotted b ms)) [] ≡ is_one_of ps []) [
        | true ↦ λ t. sym (root-one ps ∙ t)
        | false ↦ λ t. members-no-root n ps (heads ps) (all-heads ps read) ∙ sym (root-one ps ∙ t)
      ] refl
  written-said (suc n) ps long read (e ∷ q) =
      let ms = members n ps (heads ps) in
      let own =
      members-said n ps (heads ps) (λ f filled. written-said n (tails f ps) (longest-tail f ps n long) (read-tail f ps read)) long (all-heads ps read) e q
      ∙ ap (λ b. b && is_one_of (tails e ps) q) (among-filled e ps) ∙ and-filled (tails e ps) q ∙ one-tail e ps q in
      elim (list_any is_root ps) as (λ b. is_one_of (said_paths readings.value (dotted b ms)) (e ∷ q) ≡ is_one_of ps (e ∷ q)) [ true ↦ own | false ↦ own ]

  -- ---- that the writing has no fault

  abbrev below_faults : Json → List ElementFault
  below_faults v = if same_json v dot_alone then not_canonical ∷ [] else fields_faults readings.value v

  below-faultless : (n : ℕ) (qs : List Path) → is_filled qs ≡ true → are_apart qs ≡ true → longest qs ≤ n
      → fields_faults readings.value (written_paths n qs) ≡ [] → below_faults (below_value n qs) ≡ []
  below-faultless n qs filled apart long inside =
      elim (is_place_alone qs) as (λ b. is_place_alone qs ≡ b → below_faults (if b then nothing_written else written_paths n qs) ≡ []) [
        | true ↦ λ t. refl
        | false ↦ λ t.
            ap (λ b. if b then not_canonical ∷ [] else fields_faults readings.value (written_paths n qs)) (other-value n qs filled apart long t) ∙ inside
      ] refl

  members-faultless : (n : ℕ) (ps : List Path) (es : List Element) → ((f : Element) → fields_faults readings.value (written_paths n (tails f ps)) ≡ [])
      → longest ps ≤ suc n → are_apart ps ≡ true → AllByRecursion (IsHead ps) es
      → member_faults readings.value (members n ps es) ≡ []
  members-faultless n ps [] inside long apart h = refl
  members-faultless n ps (f ∷ es) inside long apart h =
      let v = below_value n (tails f ps) in
      let own =
      ap
      (λ b. if b then (if is_nothing_inside v then [] else bad_element ∷ [])
      else elim (element_of readings.value (element_text f)) [ Err x ↦ x ∷ [] | Ok e ↦ below_faults v ])
      (no-dot f)
      ∙ ap (λ (r : Result Element ElementFault). elim r [ Err x ↦ x ∷ [] | Ok e ↦ below_faults v ]) h.0.0
      ∙ below-faultless n (tails f ps) h.0.1 (apart-tail f ps apart) (longest-tail f ps n long) (inside f) in
      let rest = members-faultless n ps es inside long apart h.1 in
      λ i. own i ++ rest i

  written-faultless : (n : ℕ) (ps : List Path) → longest ps ≤ n → are_apart ps ≡ true → AreRead ps → fields_faults readings.value (written_paths n ps) ≡ []
  written-faultless zero ps long apart read =
      elim (list_any is_root ps) as (λ b. fields_faults readings.value (dotted b no_members) ≡ []) [ true ↦ refl | false ↦ refl ]
  written-faultless (suc n) ps long apart read =
      let ms = members n ps (heads ps) in
      let below = λ (f : Element). written-faultless n (tails f ps) (longest-tail f ps n long) (apart-tail f ps apart) (read-tail f ps read) in
      let own = members-faultless n ps (heads ps) below long apart (all-heads ps read) in
      elim (list_any is_root ps) as (λ b. fields_faults readings.value (dotted b ms) ≡ []) [ true ↦ own | false ↦ own ]

  -- ---- sets

  read-paths : (s : PathSet) → HasReadSet readings s → AreRead (paths s)
  read-paths s h p one = h p (has-paths s p ∙ one)

  -- the writing of such a set has no fault
  pub set-faultless : (s : PathSet) → HasReadSet readings s → fields_faults readings.value (fields_json s) ≡ []
  set-faultless s h = written-faultless (longest (paths s)) (paths s) (omega arith) (sorted-apart s.entries (holds _ s.in_order)) (read-paths s h)

  -- and says the set
  pub set-said : (s : PathSet) → HasReadSet readings s → said_set readings.value (fields_json s) ≡ s
  set-said s h =
      same_sets (said_set readings.value (fields_json s)) s (λ p.
      has-listed (said_paths readings.value (fields_json s)) p
      ∙ written-said (longest (paths s)) (paths s) (omega arith) (read-paths s h) p ∙ sym (has-paths s p))
