-- Members whose names rise are those that a body shows under fields and entries, where each shows the member of its name.
use Rattle.std.proofs.Common.{◌≡◌, List, [], ◌∷◌, ◌++◌, true, false, ◌||◌, Some, None, refl, sym, ap, subst, ◌∙◌, true≢false}
use Rattle.std.proofs.lemmas.Option.{same_Some, none-some}
use Rattle.std.specs.Prelude.{if◌then◌else◌, is_some}
use Rattle.std.specs.List.{list_any}
use Rattle.std.specs.Cmp.{first_so, second_so}
use Rattle.ssa_model.specs.definitions.Json.{Text, Json, Members, no_members, member, member_of, same_text}
use Rattle.ssa_model.specs.definitions.Path.{field, Path}
use Rattle.ssa_model.specs.definitions.PathMap.{has}
use Rattle.ssa_model.specs.definitions.Kind.{Kind, Fields, no_fields, kind_field, kind_of}
use Rattle.ssa_model.specs.definitions.Body.{Body}
use Rattle.ssa_model.specs.definitions.Lawful.{is_before_all, is_ordered, are_ordered, names_rise_after}
use Rattle.ssa_model.specs.definitions.MemberNames.{is_below, has_rising_names, members_rise}
use Rattle.ssa_model.specs.definitions.Objects.{shown, shown_fields, entry_members}
use Rattle.ssa_model.proofs.KindParts.{none-before}
use Rattle.ssa_model.proofs.ReachedPlaces.{missing}
use Rattle.ssa_model.proofs.OneWriting.{below-on}
use Rattle.ssa_model.proofs.RisingMembers.{missing-below}
use Rattle.ssa_model.proofs.RisingNames.{apart-less, before, do_rise, rest-rise, rise-on}
use Rattle.ssa_model.proofs.Tables.{same_text-true, text-itself}
use Rattle.ssa_model.proofs.Fitting.{some_there}

-- ---- members that rise

-- a name that is found among rising members behind another is not that one
behind-apart : (n m : Text) (v : Json) (ms : Members) → is_below m ms ≡ true → members_rise ms ≡ true → member_of n ms ≡ Some v → same_text n m ≡ false
behind-apart n m v ms up rise found =
    elim (same_text n m) as (λ t. same_text n m ≡ t → t ≡ false) [
      | true ↦ λ t. absurd (none-some v (sym (missing (member_of m ms) (missing-below m ms up rise)) ∙ ap (λ x. member_of x ms) (sym (same_text-true n m t)) ∙ found))
      | false ↦ λ t. refl
    ] refl

-- the value of each rising member has rising names
pub found-rises : (n : Text) (v : Json) (ms : Members) → members_rise ms ≡ true → member_of n ms ≡ Some v → has_rising_names v ≡ true
found-rises n v no_members rise found = absurd (none-some v found)
found-rises n v (member m w ms) rise found =
    let behind = second_so (is_below m ms) _ rise in
    elim (same_text n m) as (λ t. (if t then Some w else member_of n ms) ≡ Some v → has_rising_names v ≡ true) [
      | true ↦ λ own. ap has_rising_names (sym (same_Some w v own)) ∙ first_so (has_rising_names w) _ behind
      | false ↦ λ later. found-rises n v ms (second_so (has_rising_names w) _ behind) later
    ] found

-- a name before all fields is before the name of each
before-found : (n m : Text) (k : Kind) (fs : Fields) → is_before_all n fs ≡ true → kind_of m fs ≡ Some k → before n m ≡ true
before-found n m k no_fields h is = absurd (none-some k is)
before-found n m k (kind_field l j fs) h is =
    elim (same_text m l) as (λ t. same_text m l ≡ t → (if t then Some j else kind_of m fs) ≡ Some k → before n m ≡ true) [
      | true ↦ λ t _. ap (before n) (same_text-true m l t) ∙ first_so _ _ h
      | false ↦ λ t is. before-found n m k fs (second_so _ _ h) is
    ] refl is

-- ---- fields

module _ (b : Body) (p : Path) where
  -- of these fields the body has those of which there is a member, shows that member, and there is no other
  pub record AreShown (fs : Fields) (ms : Members) : Type 0 where
    pub there : (n : Text) (k : Kind) → kind_of n fs ≡ Some k → has b (p ++ field n ∷ []) ≡ is_some (member_of n ms)
    pub shows : (n : Text) (k : Kind) (v : Json) → kind_of n fs ≡ Some k → member_of n ms ≡ Some v → shown k b (p ++ field n ∷ []) ≡ v
    pub known : (n : Text) → is_some (member_of n ms) ≡ true → is_some (kind_of n fs) ≡ true

  -- behind the first field are those of other names
  later-kind : (n m : Text) (k j : Kind) (fs : Fields) → is_before_all m fs ≡ true → kind_of n fs ≡ Some k → kind_of n (kind_field m j fs) ≡ Some k
  later-kind n m k j fs up is = ap (λ t. if t then Some j else kind_of n fs) (none-before n m k fs up is) ∙ is

  -- where the first field has no member, the members are those of the others
  without-first : (m : Text) (k : Kind) (fs : Fields) (ms : Members) → is_before_all m fs ≡ true → member_of m ms ≡ None
      → AreShown (kind_field m k fs) ms → AreShown fs ms
  without-first m k fs ms up none h = record {
    there = λ n j is. h.there n j (later-kind n m j k fs up is);
    shows = λ n j v is found. h.shows n j v (later-kind n m j k fs up is) found;
    known = λ n some. elim (same_text n m) as (λ t. same_text n m ≡ t → is_some (if t then Some k else kind_of n fs) ≡ true → is_some (kind_of n fs) ≡ true) [
      | true ↦ λ t _. absurd (true≢false (sym some ∙ ap (λ x. is_some (member_of x ms)) (same_text-true n m t) ∙ ap is_some none))
      | false ↦ λ t one. one
    ] refl (h.known n some);
  }

  -- where the first member is that of the first field, those behind it are those of the other fields
  behind-first : (m : Text) (k : Kind) (v : Json) (fs : Fields) (ms : Members) → is_before_all m fs ≡ true → is_below m ms ≡ true → members_rise ms ≡ true
      → AreShown (kind_field m k fs) (member m v ms) → AreShown fs ms
  behind-first m k v fs ms up below rise h = record {
    there = λ n j is. h.there n j (later-kind n m j k fs up is) ∙ ap is_some (other n (none-before n m j fs up is));
    shows = λ n j w is found. h.shows n j w (later-kind n m j k fs up is) (other n (none-before n m j fs up is) ∙ found);
    known = λ n some.
        let w = some_there (member_of n ms) some in
        let apart = behind-apart n m w.0 ms below rise w.1 in
        sym (ap (λ t. is_some (if t then Some k else kind_of n fs)) apart) ∙ h.known n (ap is_some (other n apart) ∙ some);
  }
    where
      other : (n : Text) → same_text n m ≡ false → member_of n (member m v ms) ≡ member_of n ms
      other n apart = ap (λ t. if t then Some v else member_of n ms) apart

  -- the fields that are shown are the members
  pub fields-shown : (fs : Fields) (ms : Members) → are_ordered fs ≡ true → members_rise ms ≡ true → AreShown fs ms → shown_fields fs b p ≡ ms
  fields-shown no_fields no_members o rise h = refl
  fields-shown no_fields (member m v ms) o rise h =
      absurd (true≢false (sym (h.known m (ap (λ t. is_some (if t then Some v else member_of m ms)) (text-itself m)))))
  fields-shown (kind_field n k fs) ms o rise h =
      let up = first_so (is_before_all n fs) _ o in
      let later = second_so (is_ordered k) _ (second_so (is_before_all n fs) _ o) in
      let own : kind_of n (kind_field n k fs) ≡ Some k = ap (λ t. if t then Some k else kind_of n fs) (text-itself n) in
      elim (member_of n ms) as (λ x. member_of n ms ≡ x → shown_fields (kind_field n k fs) b p ≡ ms) [
        | None ↦ λ none.
            ap (λ t. if t then member n (shown k b (p ++ field n ∷ [])) (shown_fields fs b p) else shown_fields fs b p) (h.there n k own ∙ ap is_some none)
            ∙ fields-shown fs ms later rise (without-first n k fs ms up none h)
        | Some v ↦ λ found.
            ap (λ t. if t then member n (shown k b (p ++ field n ∷ [])) (shown_fields fs b p) else shown_fields fs b p) (h.there n k own ∙ ap is_some found)
            ∙ first n k fs ms v up own found rise h (λ xs r g. fields-shown fs xs later r g)
      ] refl
    where
      -- the first member is of a field, and so behind the first field's name
      lower_first : (n m : Text) (k : Kind) (w : Json) (fs : Fields) (ms : Members) → is_before_all n fs ≡ true → same_text n m ≡ false
          → AreShown (kind_field n k fs) (member m w ms) → before n m ≡ true
      lower_first n m k w fs ms up apart h =
          let one = h.known m (ap (λ t. is_some (if t then Some w else member_of m ms)) (text-itself m)) in
          elim (same_text m n) as (λ t. same_text m n ≡ t → is_some (if t then Some k else kind_of m fs) ≡ true → before n m ≡ true) [
            | true ↦ λ t _. absurd (true≢false (sym (text-itself n) ∙ ap (same_text n) (sym (same_text-true m n t)) ∙ apart))
            | false ↦ λ t one. let j = some_there (kind_of m fs) one in before-found n m j.0 fs up j.1
          ] refl one

      first : (n : Text) (k : Kind) (fs : Fields) (ms : Members) (v : Json) → is_before_all n fs ≡ true → kind_of n (kind_field n k fs) ≡ Some k
          → member_of n ms ≡ Some v → members_rise ms ≡ true → AreShown (kind_field n k fs) ms
          → ((xs : Members) → members_rise xs ≡ true → AreShown fs xs → shown_fields fs b p ≡ xs)
          → member n (shown k b (p ++ field n ∷ [])) (shown_fields fs b p) ≡ ms
      first n k fs no_members v up own found rise h others = absurd (none-some v found)
      first n k fs (member m w ms) v up own found rise h others =
          let below = first_so (is_below m ms) _ rise in
          let behind = second_so (has_rising_names w) _ (second_so (is_below m ms) _ rise) in
          elim (same_text n m) as (λ t. same_text n m ≡ t → member n (shown k b (p ++ field n ∷ [])) (shown_fields fs b p) ≡ member m w ms) [
            | true ↦ λ t.
                let same = same_text-true n m t in
                let value = h.shows n k w own (ap (λ t. if t then Some w else member_of n ms) t) in
                let rest = others ms behind (behind-first n k w fs ms up (ap (λ x. is_below x ms) same ∙ below) behind
                (subst (λ x. AreShown (kind_field n k fs) (member x w ms)) (sym same) h)) in
                λ i. member (same i) (value i) (rest i)
            | false ↦ λ t. absurd (none-some v (sym (missing (member_of n (member m w ms)) (missing-below n (member m w ms) (lower_first n m k w fs ms up t h) rise)) ∙ found))
          ] refl

-- ---- entries

module _ (shown_at : Path → Json) (p : Path) where
  -- the entries that are shown are the members, where they have the same names
  pub entries-shown : (ns : List Text) (ms : Members) → do_rise ns ≡ true → members_rise ms ≡ true
      → ((n : Text) → list_any (same_text n) ns ≡ is_some (member_of n ms))
      → ((n : Text) (v : Json) → member_of n ms ≡ Some v → shown_at (p ++ field n ∷ []) ≡ v)
      → entry_members shown_at p ns ≡ ms
  entries-shown [] no_members up rise names shows = refl
  entries-shown [] (member m v ms) up rise names shows =
      absurd (true≢false (sym (names m ∙ ap (λ t. is_some (if t then Some v else member_of m ms)) (text-itself m))))
  entries-shown (n ∷ ns) no_members up rise names shows = absurd (true≢false (sym (ap (λ t. t || list_any (same_text n) ns) (text-itself n)) ∙ names n))
  entries-shown (n ∷ ns) (member m v ms) up rise names shows =
      let below = first_so (is_below m ms) _ rise in
      let behind = second_so (has_rising_names v) _ (second_so (is_below m ms) _ rise) in
      elim (same_text n m) as (λ t. same_text n m ≡ t → member n (shown_at (p ++ field n ∷ [])) (entry_members shown_at p ns) ≡ member m v ms) [
        | true ↦ λ t.
            let same = same_text-true n m t in
            let value = shows n v (ap (λ t. if t then Some v else member_of n ms) t) in
            let rest = entries-shown ns ms (rest-rise n ns up) behind (λ x. later n m v ns ms same up below behind names x)
            (λ x w found. shows x w (ap (λ t. if t then Some v else member_of x ms) (behind-apart x m w ms below behind found) ∙ found)) in
            λ i. member (same i) (value i) (rest i)
        | false ↦ λ t. absurd (crossed n m v ns ms t up below behind names)
      ] refl
    where
      -- a name behind the first of rising names is not that one
      not-again : (x n : Text) (ns : List Text) → names_rise_after n ns ≡ true → list_any (same_text x) ns ≡ true → before n x ≡ true
      not-again x n [] up h = absurd (true≢false (sym h))
      not-again x n (l ∷ ns) up h =
          elim (same_text x l) as (λ t. same_text x l ≡ t → (t || list_any (same_text x) ns) ≡ true → before n x ≡ true) [
            | true ↦ λ t _. ap (before n) (same_text-true x l t) ∙ first_so (before n l) _ up
            | false ↦ λ t one. not-again x n ns (rise-on n l ns (first_so (before n l) _ up) (second_so (before n l) _ up)) one
          ] refl h

      none-again : (x n : Text) (ns : List Text) → x ≡ n → names_rise_after n ns ≡ true → list_any (same_text x) ns ≡ false
      none-again x n ns is up =
          elim (list_any (same_text x) ns) as (λ t. list_any (same_text x) ns ≡ t → t ≡ false) [
            | true ↦ λ t. absurd (true≢false (sym (text-itself x) ∙ apart-less x x (ap (λ y. before y x) is ∙ not-again x n ns up t)))
            | false ↦ λ t. refl
          ] refl

      later : (n m : Text) (v : Json) (ns : List Text) (ms : Members) → n ≡ m → names_rise_after n ns ≡ true → is_below m ms ≡ true → members_rise ms ≡ true
          → ((x : Text) → list_any (same_text x) (n ∷ ns) ≡ is_some (member_of x (member m v ms))) → (x : Text) → list_any (same_text x) ns ≡ is_some (member_of x ms)
      later n m v ns ms same up below behind names x =
          elim (same_text x n) as (λ t. same_text x n ≡ t → list_any (same_text x) ns ≡ is_some (member_of x ms)) [
            | true ↦ λ t.
                let is = same_text-true x n t in
                none-again x n ns is up ∙ sym (ap is_some (ap (λ y. member_of y ms) (is ∙ same) ∙ missing (member_of m ms) (missing-below m ms below behind)))
            | false ↦ λ t.
                ap (λ s. s || list_any (same_text x) ns) (sym t) ∙ names x ∙ ap (λ s. is_some (if s then Some v else member_of x ms)) (ap (same_text x) (sym same) ∙ t)
          ] refl

      apart-turned : (n m : Text) → same_text n m ≡ false → same_text m n ≡ false
      apart-turned n m apart =
          elim (same_text m n) as (λ t. same_text m n ≡ t → t ≡ false) [
            | true ↦ λ t. absurd (true≢false (sym (text-itself n) ∙ ap (same_text n) (sym (same_text-true m n t)) ∙ apart))
            | false ↦ λ t. refl
          ] refl

      -- two first names that differ would each be behind the other
      crossed : (n m : Text) (v : Json) (ns : List Text) (ms : Members) → same_text n m ≡ false → names_rise_after n ns ≡ true → is_below m ms ≡ true
          → members_rise ms ≡ true → ((x : Text) → list_any (same_text x) (n ∷ ns) ≡ is_some (member_of x (member m v ms))) → ⊥
      crossed n m v ns ms apart up below behind names =
          let turned_apart = apart-turned n m apart in
          let m_later : list_any (same_text m) ns ≡ true =
          ap (λ s. s || list_any (same_text m) ns) (sym turned_apart) ∙ names m ∙ ap (λ s. is_some (if s then Some v else member_of m ms)) (text-itself m) in
          let n_there : is_some (member_of n ms) ≡ true =
          ap (λ s. is_some (if s then Some v else member_of n ms)) (sym apart) ∙ sym (names n) ∙ ap (λ s. s || list_any (same_text n) ns) (text-itself n) in
          let n_lower : before n m ≡ true = not-again m n ns up m_later in
          let gone = missing (member_of n ms) (missing-below n ms (below-on n m ms n_lower below) behind) in
          true≢false (sym n_there ∙ ap is_some gone)
