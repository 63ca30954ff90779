-- What the members of an object say, one after another.
use Rattle.std.proofs.Common.{◌≡◌, ◌≢◌, List, [], ◌∷◌, ◌++◌, Bool, true, false, ◌||◌, cond, true≢false, Some, None, Ok, Err, String, Global, string_bytes, string_cmp, Less, Equal, Greater, nat_cmp, refl, sym, ap, subst, ◌∙◌, append_assoc, append-nil, arith, inl}
use Rattle.std.specs.Prelude.{codes, length, ◌↔◌, IsTrue}
use Rattle.std.specs.Ordering.{is_lt}
use Rattle.std.specs.Cmp.Lexicographic.{slice_cmp}
use Rattle.std.specs.List.{AllByRecursion}
use Rattle.std.specs.List.Sorted.{IsStrictlySortedBy}
use Rattle.std.specs.Map.{keys_of}
use Rattle.ssa_model.specs.definitions.Json.{Text, Json, scalar, list, object, Members, no_members, member, same_text, same_json}
use Rattle.ssa_model.specs.definitions.Path.{Element, field, key, value, element_text}
use Rattle.ssa_model.specs.definitions.FieldsV1.{nothing_written, AreCanonical, dot_alone, is_nothing_inside, fields_faults, member_faults, member_paths, said_paths}
use Rattle.ssa_model.specs.definitions.ElementTexts.{ElementFault, bad_element, not_canonical, element_of}
use Rattle.ssa_json.specs.Reading.{json_reading}
use Rattle.ssa_json.specs.View.{view, members_view}
use Rattle.ssa_model.proofs.Tables.{same_text-true}
use Rattle.ssa_model.proofs.SameValues.{same_json-true}
use Rattle.ssa_json.proofs.Ordered.{IsAbove, names, above_before}
use Rattle.ssa_path.specs.Children.{elements, is_below, rises}
use Rattle.ssa_path.specs.FieldsReading.{first_fault, IsFirst, below_faults, child_faults, said_below, IsPlaceOf, IsPlaceBelow, IsChildOf}
use Rattle.ssa_path.specs.FieldsWriting.{paths_json}
use Rattle.ssa_path.specs.Trie.{are_filled_tries, has_some, here_path, is_filled, paths, paths_below}
use Rattle.ssa_path.specs.View.{element_view}
use Rattle.ssa_path.specs.declared.element.Elem.{Elem}
use Rattle.ssa_path.specs.declared.element_fault.ElemFault.{ElemFault}
use Rattle.ssa_path.specs.declared.element_fault.ElemFault.TheVariants.{BadElement, IndexElement, NotCanonical, OutOfMemory}
use Rattle.ssa_path.specs.declared.trie.Trie.{Trie}
use Rattle.ssa_path.specs.declared.trie.Trie.TheOpen.{Trie-F}
use Rattle.ssa_path.specs.declared.trie.Trie.TheViews.{out-Trie, roll-Trie}
use Rattle.ssa_path.proofs.FieldsLevels.{dotted, child_members, level, level-shown}
use Rattle.ssa_path.proofs.FieldsMembers.{Found, with_last, members-last, members-more, canonical-more, alone-place, alone-written, place-written}
use Rattle.ssa_path.proofs.FieldsSaid.{said-dot, said-more}
use Rattle.ssa_path.proofs.Levels.{filled-is, is_trie-made, paths-level, paths-made}
use Rattle.ssa_path.proofs.Lists.{filled-append}
use Rattle.ssa_path.proofs.OwnTexts.{own-text-is-read}
use Rattle.ssa_model.proofs.Basics.{both-true as both}

-- ---- the first fault

first-before : (fault : ElementFault) (fs gs : List ElementFault) → first_fault fs ≡ Some fault → first_fault (fs ++ gs) ≡ Some fault
first-before fault [] gs h = cc
first-before fault (f ∷ fs) gs h = h

-- the first fault of some is that of all where they stand in front
pub tells-before : (fault : ElemFault) (fs gs : List ElementFault) → IsFirst fault fs → IsFirst fault (fs ++ gs)
tells-before BadElement fs gs h = first-before _ fs gs h
tells-before IndexElement fs gs h = first-before _ fs gs h
tells-before NotCanonical fs gs h = first-before _ fs gs h
tells-before OutOfMemory fs gs h = tt

-- a member `.` is a fault where it has something inside, and then come those of the other members
pub faults-dot : (n : Text) (v : Json) (ms : Members) (b : Bool) → same_text n (codes ".") ≡ true → is_nothing_inside v ≡ b
    → member_faults json_reading (member n v ms) ≡ cond b [] (bad_element ∷ []) ++ member_faults json_reading ms
faults-dot n v ms b dot inside = λ i. cond (dot i) (cond (inside i) [] (bad_element ∷ [])) (child_faults n v) ++ member_faults json_reading ms

-- the faults of a member that isn't `.` come first, and then those of the other members
pub faults-child : (n : Text) (v : Json) (ms : Members) → same_text n (codes ".") ≡ false
    → member_faults json_reading (member n v ms) ≡ child_faults n v ++ member_faults json_reading ms
faults-child n v ms other = ap (λ b. cond b (cond (is_nothing_inside v) [] (bad_element ∷ [])) (child_faults n v) ++ member_faults json_reading ms) other

-- where the name is an element's text, the faults are those of the value below it
pub element-right : (e : Element) (n : Text) (v : Json) → element_of json_reading n ≡ Ok e → child_faults n v ≡ below_faults v
element-right e n v h = ap (λ r. elim r [ Err f ↦ f ∷ [] | Ok d ↦ below_faults v ]) h

-- ---- a value under an element

other-value : (v : Json) → v ≢ dot_alone → same_json v dot_alone ≡ false
other-value v other =
    elim (same_json v dot_alone) as (λ b. same_json v dot_alone ≡ b → b ≡ false) [
      | true ↦ λ same. absurd (other (same_json-true v dot_alone same))
      | false ↦ λ _. refl
    ] refl

-- a value without faults has none under an element, unless it is `{".":{}}`
pub below-none : (v : Json) → v ≢ dot_alone → fields_faults json_reading v ≡ [] → below_faults v ≡ []
below-none v other none = ap (λ b. cond b (not_canonical ∷ []) (fields_faults json_reading v)) (other-value v other) ∙ none

below-first : (fault : ElementFault) (v : Json) → first_fault (fields_faults json_reading v) ≡ Some fault → first_fault (below_faults v) ≡ Some fault
below-first fault v h = ap (λ b. first_fault (cond b (not_canonical ∷ []) (fields_faults json_reading v))) (other-value v other) ∙ h
  where
    other : v ≢ dot_alone
    other is = let none : None ≡ Some fault = sym (ap (λ w. first_fault (fields_faults json_reading w)) is) ∙ h in cc

-- a place alone, written as at the root
pub dot-refused : (v : Json) (place : Trie) → IsPlaceOf v place → has_some {A = Elem × Trie} (out-Trie place).below.items ≡ false
    → (out-Trie place).here ≡ true → first_fault (below_faults v) ≡ Some not_canonical
dot-refused v place h none here =
    let filled = filled-is place h.trie ∙ ap (λ b. b || has_some {A = Elem × Trie} (out-Trie place).below.items) here in
    let is : v ≡ dot_alone = h.json ∙ ap paths_json (alone-place place none filled) ∙ level ([] ∷ []) in
    ap (λ w. first_fault (below_faults w)) is

no-children : (cs : List (Elem × Trie)) → has_some {A = Elem × Trie} cs ≡ false → cs ≡ []
no-children [] h = refl
no-children (c ∷ cs) h = absurd (true≢false h)

-- `{}` says the place alone
pub alone-read : (v : Json) (place : Trie) (x : Trie-F Trie) → IsPlaceOf v place → has_some {A = Elem × Trie} (out-Trie place).below.items ≡ false
    → (out-Trie place).here ≡ false → x.here ≡ true → x.below.items ≡ []
    → (below_faults v ≡ []) × IsPlaceBelow v (roll-Trie x)
alone-read v place x h none here own_here empty =
    let no_paths : paths place ≡ [] = paths-level place ∙ (λ i. here_path (here i) ++ paths_below (no-children _ none i)) in
    let is : v ≡ nothing_written = h.json ∙ ap paths_json no_paths ∙ level [] in
    let own : paths (roll-Trie x) ≡ [] ∷ [] = paths-made x ∙ (λ i. here_path (own_here i) ++ paths_below (empty i)) in (
      ap below_faults is,
      record {
        trie = is_trie-made x (ap (λ cs. rises (elements cs)) empty) (ap are_filled_tries empty);
        filled = ap has_some own;
        written = alone-written (paths (roll-Trie x)) v own is;
        said = own ∙ ap said_below (sym is);
      },
    )

nothing-inside : (v : Json) → is_nothing_inside v ≡ true → v ≡ nothing_written
nothing-inside (object no_members) h = refl
nothing-inside (object (member n v ms)) h = absurd (true≢false (sym h))
nothing-inside (scalar s) h = absurd (true≢false (sym h))
nothing-inside (list vs) h = absurd (true≢false (sym h))

-- where a place has paths, the value has something inside
some-inside : (v : Json) (t : Trie) → is_filled t ≡ true → paths t ≡ said_paths json_reading v → paths t ≡ said_below v
some-inside v t filled said =
    elim (is_nothing_inside v) as (λ b. is_nothing_inside v ≡ b → paths t ≡ cond b ([] ∷ []) (said_paths json_reading v)) [
      | true ↦ λ none. absurd (true≢false (sym filled ∙ ap has_some (said ∙ ap (said_paths json_reading) (nothing-inside v none))))
      | false ↦ λ _. said
    ] refl

-- a faultless value with something below its place is a place under an element, too
pub place-read : (v : Json) (place : Trie) → IsPlaceOf v place → has_some {A = Elem × Trie} (out-Trie place).below.items ≡ true
    → fields_faults json_reading v ≡ [] → (below_faults v ≡ []) × IsPlaceBelow v place
place-read v place h some none =
    let written = place-written place v h.trie some h.json h.canonical in
    let filled = filled-is place h.trie ∙ ap (λ b. (out-Trie place).here || b) some ∙ or_true (out-Trie place).here in (
      below-none v written.not_dot none,
      record {
        trie = h.trie;
        filled = filled;
        written = written;
        said = some-inside v place filled h.said;
      },
    )
  where
    or_true : (b : Bool) → (b || true) ≡ true
    or_true true = refl
    or_true false = refl

-- ---- member by member

-- the members so far are those of the place itself and of the children, and what is left has the faults
pub record IsReading (es : List Found) (here : Bool) (cs : List (Elem × Trie)) (left : List Found) : Type 0 where
  -- the members that are read
  pub done : List Found
  -- they and what is left are all
  pub split : es ≡ done ++ left
  -- they are the writing of the place itself and of the children
  pub json : members_view done ≡ dotted here (child_members cs)
  -- they are canonical
  pub canonical : AreCanonical (members_view done)
  -- each child is a trie with some path
  pub tries : are_filled_tries cs ≡ true
  -- the place itself and the children have the paths that they say
  pub said : here_path here ++ paths_below cs ≡ member_paths json_reading (members_view done)
  -- all members have the faults of what is left
  pub faults : member_faults json_reading (members_view es) ≡ member_faults json_reading (members_view left)

-- before the first member nothing is read
pub reading-none : (es left : List Found) (cs : List (Elem × Trie)) → cs ≡ [] → left ≡ es → IsReading es false cs left
reading-none es left cs none all = record {
  done = [];
  split = sym all;
  json = ap child_members (sym none);
  canonical = tt;
  tries = ap are_filled_tries none;
  said = ap paths_below none;
  faults = ap (λ l. member_faults json_reading (members_view l)) (sym all);
}

module _ (es : List Found) (here : Bool) (cs : List (Elem × Trie)) (e : Found) (left rest : List Found) (now : IsReading es here cs rest)
    (steps : rest ≡ e ∷ left) where
  whole : es ≡ now.done ++ e ∷ left
  whole = now.split ∙ ap (λ l. now.done ++ l) steps

  split-more : es ≡ (now.done ++ e ∷ []) ++ left
  split-more = whole ∙ sym (append_assoc now.done (e ∷ []) left)

  faults-now : member_faults json_reading (members_view es) ≡ member_faults json_reading (members_view (e ∷ left))
  faults-now = now.faults ∙ ap (λ l. member_faults json_reading (members_view l)) steps

  -- the fault of the next child is the first of all
  pub child-first : (n : Text) (f : ElemFault) → n ≡ string_bytes e.0 → same_text n (codes ".") ≡ false → IsFirst f (child_faults n (view e.1))
      → IsFirst f (member_faults json_reading (members_view es))
  child-first n f name other h =
      let n' = string_bytes e.0 in
      subst (IsFirst f) (sym (faults-now ∙ faults-child n' (view e.1) (members_view left) (ap (λ m. same_text m (codes ".")) (sym name) ∙ other)))
      (tells-before f (child_faults n' (view e.1)) _ (subst (λ m. IsFirst f (child_faults m (view e.1))) name h))

  -- one child more is read
  pub child-more : (n : Text) (c : Elem × Trie) → n ≡ string_bytes e.0 → same_text n (codes ".") ≡ false → child_faults n (view e.1) ≡ []
      → IsChildOf n (view e.1) c → IsReading es here (cs ++ c ∷ []) left
  child-more n c name other none h =
      let place = h.place in
      record {
        done = now.done ++ e ∷ [];
        split = split-more;
        json = members-more here now.done e cs c now.json (sym name ∙ sym h.name.1) place.written.json;
        canonical = canonical-more now.done e now.canonical (element_view c.0, h.name.0.lawful, h.name.1 ∙ name) place.written.not_dot place.written.canonical;
        tries = filled-append cs (c ∷ []) ∙ both _ _ now.tries (both _ _ (both _ _ place.trie place.filled) refl);
        said = said-more here now.done e cs c now.said (ap (λ m. same_text m (codes ".")) (sym name)
            ∙ other) (ap (element_of json_reading) (sym name ∙ sym h.name.1) ∙ own-text-is-read (element_view c.0) h.name.0) place.said;
        faults =
            faults-now ∙ faults-child (string_bytes e.0) (view e.1) (members_view left) (ap (λ m. same_text m (codes ".")) (sym name) ∙ other)
            ∙ ap (λ fs. fs ++ member_faults json_reading (members_view left)) (ap (λ m. child_faults m (view e.1)) (sym name) ∙ none);
      }

-- ---- the order of the names

below-dot : (e : Element) → slice_cmp nat_cmp (codes ".") (element_text e) ≡ Less
below-dot (field n) = refl
below-dot (key ks) = refl
below-dot (value s) = refl

-- `.` stands first
first-dot : (done : List Found) (here : Bool) (cs : List (Elem × Trie)) (n : Text) → n ≡ codes "." → IsAbove n (names done)
    → members_view done ≡ dotted here (child_members cs) → done ≡ []
first-dot [] here cs n dot above is = refl
first-dot (d ∷ done) true cs n dot above is =
    let name : string_bytes d.0 ≡ codes "." = cc in
    let other : Equal ≡ Greater = sym (λ i. slice_cmp nat_cmp (dot i) (name i)) ∙ above.0 in cc
first-dot (d ∷ done) false [] n dot above is = cc
first-dot (d ∷ done) false (c ∷ cs) n dot above is =
    let name : string_bytes d.0 ≡ element_text (element_view c.0) = cc in
    let other : Less ≡ Greater = sym (below-dot (element_view c.0)) ∙ sym (λ i. slice_cmp nat_cmp (dot i) (name i)) ∙ above.0 in cc

none-before : (here : Bool) (cs : List (Elem × Trie)) → no_members ≡ dotted here (child_members cs) → no_members ≡ child_members cs
none-before true cs h = cc
none-before false cs h = h

childless : (cs : List (Elem × Trie)) → no_members ≡ child_members cs → cs ≡ []
childless [] h = refl
childless (c ∷ cs) h = cc

below-children : (k : String Global) (f : Element) (es : List Found) (cs : List (Elem × Trie)) → string_bytes k ≡ element_text f
    → AllByRecursion (λ y. string_cmp k y ≡ Less) (keys_of es) → members_view es ≡ child_members cs → is_below f (elements cs) ≡ true
below-children k f [] [] text h is = refl
below-children k f [] (c ∷ cs) text h is = cc
below-children k f (e ∷ es) [] text h is = cc
below-children k f (e ∷ es) (c ∷ cs) text h is =
    let name : string_bytes e.0 ≡ element_text (element_view c.0) = cc in
    let rest : members_view es ≡ child_members cs = cc in
    both _ _ (sym (λ i. is_lt (slice_cmp nat_cmp (text i) (name i))) ∙ ap is_lt h.0) (below-children k f es cs text h.1 rest)

children-rise : (es : List Found) (cs : List (Elem × Trie)) → IsStrictlySortedBy string_cmp (keys_of es) → members_view es ≡ child_members cs
    → rises (elements cs) ≡ true
unfolding IsStrictlySortedBy
children-rise [] [] h is = refl
children-rise [] (c ∷ cs) h is = cc
children-rise (e ∷ es) [] h is = cc
children-rise (e ∷ es) (c ∷ cs) h is =
    let name : string_bytes e.0 ≡ element_text (element_view c.0) = cc in
    let rest : members_view es ≡ child_members cs = cc in
    both _ _ (below-children e.0 (element_view c.0) es cs name h.0 rest) (children-rise es cs h.1 rest)

elements-rise : (es : List Found) (here : Bool) (cs : List (Elem × Trie)) → IsStrictlySortedBy string_cmp (keys_of es)
    → members_view es ≡ dotted here (child_members cs) → rises (elements cs) ≡ true
unfolding IsStrictlySortedBy
elements-rise es false cs h is = children-rise es cs h is
elements-rise [] true cs h is = cc
elements-rise (e ∷ es) true cs h is = let rest : members_view es ≡ child_members cs = cc in children-rise es cs h.1 rest

canonical-dot : (ms : Members) (n : Text) (v : Json) → AreCanonical ms → n ≡ codes "." → v ≡ nothing_written → AreCanonical (with_last ms n v)
canonical-dot no_members n v h dot inside = (inl (dot, inside), tt)
canonical-dot (member m w ms) n v h dot inside = (h.0, canonical-dot ms n v h.1 dot inside)

-- the member `.` is read
pub dot-more : (es : List Found) (here : Bool) (cs : List (Elem × Trie)) (e : Found) (left rest : List Found) (n : Text) → IsReading es here cs rest
    → rest ≡ e ∷ left → IsStrictlySortedBy string_cmp (keys_of es)
    → n ≡ string_bytes e.0 → same_text n (codes ".") ≡ true → is_nothing_inside (view e.1) ≡ true → IsReading es true cs left
dot-more es here cs e left rest n now steps sorted name dot inside =
    let all = whole es here cs e left rest now steps in
    let text : string_bytes e.0 ≡ codes "." = sym name ∙ same_text-true n (codes ".") dot in
    let none = first-dot now.done here cs (string_bytes e.0) text
    (above_before now.done e left (subst (λ l. IsStrictlySortedBy string_cmp (keys_of l)) all sorted)) now.json in
    let empty = none-before here cs (ap members_view (sym none) ∙ now.json) in
    let nothing = nothing-inside (view e.1) inside in
    record {
      done = now.done ++ e ∷ [];
      split = split-more es here cs e left rest now steps;
      json = ap (λ l. members_view (l ++ e ∷ [])) none ∙ (λ i. member (text i) (nothing i) (empty i));
      canonical = subst AreCanonical (sym (members-last now.done e))
          (canonical-dot (members_view now.done) (string_bytes e.0) (view e.1) now.canonical text nothing);
      tries = now.tries;
      said = said-dot e cs (childless cs empty) (ap (λ m. same_text m (codes ".")) (sym name) ∙ dot)
          ∙ ap (λ l. member_paths json_reading (members_view (l ++ e ∷ []))) (sym none);
      faults =
          faults-now es here cs e left rest now steps
          ∙ faults-dot (string_bytes e.0) (view e.1) (members_view left) true (ap (λ m. same_text m (codes ".")) (sym name) ∙ dot) inside;
    }

-- all members are read
pub reading-all : (es : List Found) (x : Trie-F Trie) (rest : List Found) → rest ≡ [] → IsStrictlySortedBy string_cmp (keys_of es)
    → IsReading es x.here x.below.items rest
    → (member_faults json_reading (members_view es) ≡ []) × IsPlaceOf (object (members_view es)) (roll-Trie x)
reading-all es x rest none sorted now =
    let all : es ≡ now.done = now.split ∙ ap (λ l. now.done ++ l) none ∙ append-nil now.done in
    let json = ap members_view all ∙ now.json in
    let rise = elements-rise es x.here x.below.items sorted json in (
      now.faults ∙ ap (λ l. member_faults json_reading (members_view l)) none,
      record {
        trie = is_trie-made x rise now.tries;
        json = ap object json ∙ sym (ap paths_json (paths-made x) ∙ level-shown x.here x.below.items rise now.tries);
        canonical = subst (λ l. AreCanonical (members_view l)) (sym all) now.canonical;
        said = paths-made x ∙ now.said ∙ ap (λ l. member_paths json_reading (members_view l)) (sym all);
      },
    )

-- what the test for members tells
pub none-inside : (es : List Found) (none : Bool) → IsTrue none ↔ (length es ≡ 0) → none ≡ is_nothing_inside (object (members_view es))
none-inside [] none is = is.1 refl
none-inside (e ∷ es) true is = let empty = is.0 refl in absurd (omega arith)
none-inside (e ∷ es) false is = refl
