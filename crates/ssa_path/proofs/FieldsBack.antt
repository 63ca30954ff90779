-- The object that a trie's paths are written as is read back as these paths.
use Rattle.std.proofs.Common.{codes, ◌≡◌, ◌≢◌, ℕ, ◌+◌, ◌<◌, List, [], ◌∷◌, ◌++◌, length, get_or, take, Bool, true, false, ◌&&◌, cond, Some, refl, sym, ap, subst, ◌∙◌, inl, inr, Ok}
use Rattle.ssa_model.specs.definitions.Json.{Json, scalar, list, object, Members, no_members, member, same_text}
use Rattle.ssa_model.specs.definitions.Path.{Path, element_text}
use Rattle.ssa_model.specs.definitions.ElementTexts.{element_of}
use Rattle.ssa_model.specs.definitions.PathMap.{PathSet, listed}
use Rattle.ssa_model.specs.definitions.FieldsV1.{dot_alone, is_no_object, IsCanonical, AreCanonical, is_nothing_inside, fields_faults, member_faults, said_paths, member_paths, said_set}
use Rattle.ssa_model.proofs.SaidSets.{no-dot}
use Rattle.ssa_json.specs.Reading.{json_reading}
use Rattle.ssa_path.specs.FieldsBack.{AreReadBack, IsReadBack}
use Rattle.ssa_path.specs.FieldsReading.{below_faults, said_below}
use Rattle.ssa_path.specs.FieldsWriting.{paths_json, below_json}
use Rattle.ssa_path.specs.OwnText.{IsElementOfProgram}
use Rattle.ssa_path.specs.Trie.{are_filled_tries, has_some, here_path, is_filled, is_trie, paths, paths_below}
use Rattle.ssa_path.specs.View.{element_view}
use Rattle.ssa_path.specs.declared.element.Elem.{Elem}
use Rattle.ssa_path.specs.declared.trie.Trie.{Trie}
use Rattle.ssa_path.specs.declared.trie.Trie.TheViews.{out-Trie}
use Rattle.ssa_path.proofs.FieldsLevels.{dotted, child_members, level-trie}
use Rattle.ssa_path.proofs.FieldsMembers.{alone-place, below-more, not-dot}
use Rattle.ssa_path.proofs.FieldsReadings.{below-none, faults-dot, faults-child, element-right}
use Rattle.ssa_path.proofs.FieldsSaid.{own-child}
use Rattle.ssa_path.proofs.FieldsSays.{json-of-set, written-some}
use Rattle.ssa_path.proofs.InOrder.{taken}
use Rattle.ssa_path.proofs.Levels.{paths-level, trie-parts}
use Rattle.ssa_path.proofs.Orders.{both_first, both_second}
use Rattle.ssa_path.proofs.OwnTexts.{own-text-is-read, element-of-program}

-- ---- what stands under an element

-- the value has no fault there, and says the paths
record IsBackBelow (ps : List Path) (v : Json) : Type 0 where
  -- under an element the value has no fault
  pub no_fault : below_faults v ≡ []
  -- under an element it says these paths
  pub said : ps ≡ said_below v

alone-back : (ps : List Path) → ps ≡ [] ∷ [] → IsBackBelow ps (below_json ps)
alone-back ps is = subst (λ qs. IsBackBelow qs (below_json qs)) (sym is) (record { no_fault = refl; said = refl })

no-object-inside : (v : Json) → is_no_object (Some v) ≡ is_nothing_inside v
no-object-inside (object no_members) = refl
no-object-inside (object (member n v ms)) = refl
no-object-inside (scalar s) = refl
no-object-inside (list vs) = refl

place-back : (t : Trie) → is_trie t ≡ true → is_filled t ≡ true → has_some {A = Elem × Trie} (out-Trie t).below.items ≡ true → AreReadBack (paths t)
    → IsBackBelow (paths t) (below_json (paths t))
place-back t h filled some back =
    let cs = (out-Trie t).below.items in
    let other : paths_json (paths t) ≢ dot_alone = λ e. not-dot (out-Trie t).here cs some (sym (level-trie t h) ∙ e) in
    let inside : is_nothing_inside (paths_json (paths t)) ≡ false = sym (no-object-inside (paths_json (paths t))) ∙ written-some (paths t) filled in
    subst (IsBackBelow (paths t)) (sym (below-more t h some))
    (record {
      no_fault = below-none (paths_json (paths t)) other back.no_fault;
      said = sym back.said ∙ ap (λ b. cond b ([] ∷ []) (said_paths json_reading (paths_json (paths t)))) (sym inside);
    })

below-back : (t : Trie) → is_trie t ≡ true → is_filled t ≡ true → AreReadBack (paths t) → IsBackBelow (paths t) (below_json (paths t))
below-back t h filled back =
    elim (has_some {A = Elem × Trie} (out-Trie t).below.items) as (λ b. has_some {A = Elem × Trie} (out-Trie t).below.items ≡ b
    → IsBackBelow (paths t) (below_json (paths t))) [
      | true ↦ λ some. place-back t h filled some back
      | false ↦ λ none. alone-back (paths t) (alone-place t none filled)
    ] refl

-- a place alone is read back
pub alone-read-back : (ps : List Path) → ps ≡ [] ∷ [] → AreReadBack ps
alone-read-back ps is = subst AreReadBack (sym is) (record { no_fault = refl; said = refl })

-- ---- children

-- the element is one of the program, and the paths below it are read back
abbrev pub IsBackChild : Elem × Trie → Type 0
IsBackChild c = IsElementOfProgram (element_view c.0) × AreReadBack (paths c.1)

-- each child is read back
abbrev pub AreBackChildren : List (Elem × Trie) → Type 0
AreBackChildren [] = Unit {0}
AreBackChildren (c ∷ cs) = IsBackChild c × AreBackChildren cs

back-push : (cs : List (Elem × Trie)) (c : Elem × Trie) → AreBackChildren cs → IsBackChild c → AreBackChildren (cs ++ c ∷ [])
back-push [] c h here = (here, tt)
back-push (d ∷ cs) c h here = (h.0, back-push cs c h.1 here)

-- the next child is read back, too
pub back-more : (cs : List (Elem × Trie)) (i : ℕ) (c : Elem × Trie) → i < length cs → c ≡ get_or cs i c → AreBackChildren (take i cs)
    → IsElementOfProgram (element_view c.0) → AreReadBack (paths c.1) → AreBackChildren (take (i + 1) cs)
back-more cs i c lt is h own below = subst AreBackChildren (sym (taken cs i c lt is)) (back-push (take i cs) c h (own, below))

-- the members of the children have no fault, and say what the children hold
record AreBackMembers (cs : List (Elem × Trie)) : Type 0 where
  -- these members have no fault
  pub no_fault : member_faults json_reading (child_members cs) ≡ []
  -- they say the children's paths
  pub said : member_paths json_reading (child_members cs) ≡ paths_below cs

children-back : (cs : List (Elem × Trie)) → are_filled_tries cs ≡ true → AreBackChildren cs → AreBackMembers cs
children-back [] filled h = record { no_fault = refl; said = refl }
children-back (c ∷ cs) filled h =
    let e = element_view c.0 in
    let n = element_text e in
    let v = below_json (paths c.1) in
    let rest = children-back cs (both_second (is_trie c.1 && is_filled c.1) _ filled) h.1 in
    let own = both_first (is_trie c.1 && is_filled c.1) _ filled in
    let below = below-back c.1 (both_first (is_trie c.1) _ own) (both_second (is_trie c.1) _ own) h.0.1 in
    let read = own-text-is-read e h.0.0 in
    record {
      no_fault = faults-child n v (child_members cs) (no-dot e) ∙ (λ i. (element-right e n v read ∙ below.no_fault) i ++ rest.no_fault i);
      said = λ i. own-child n v e (paths c.1) (no-dot e) read below.said i ++ rest.said i;
    }

-- ---- a place

dotted-faults : (b : Bool) (ms : Members) → member_faults json_reading (dotted b ms) ≡ member_faults json_reading ms
dotted-faults true ms = refl
dotted-faults false ms = refl

dotted-paths : (b : Bool) (ms : Members) → member_paths json_reading (dotted b ms) ≡ here_path b ++ member_paths json_reading ms
dotted-paths true ms = refl
dotted-paths false ms = refl

-- where its children are read back, so are the paths of a trie
pub paths-back : (t : Trie) (cs : List (Elem × Trie)) → cs ≡ (out-Trie t).below.items → is_trie t ≡ true → AreBackChildren cs → AreReadBack (paths t)
paths-back t cs is h back =
    let here = (out-Trie t).here in
    let all = (out-Trie t).below.items in
    let made = children-back all (trie-parts t all refl h).1 (subst AreBackChildren is back) in
    let json = level-trie t h in
    record {
      no_fault = ap (fields_faults json_reading) json ∙ dotted-faults here (child_members all) ∙ made.no_fault;
      said = ap (said_paths json_reading) json ∙ dotted-paths here (child_members all) ∙ ap (λ ps. here_path here ++ ps) made.said ∙ sym (paths-level t);
    }

-- ---- a set

-- where the paths of a trie are read back, so is their set
pub set-back : (t : Trie) (s : PathSet) → is_trie t ≡ true → listed (paths t) ≡ s → AreReadBack (paths t) → IsReadBack s
set-back t s h same back =
    let json = json-of-set t s h same in
    record {
      no_fault = ap (fields_faults json_reading) json ∙ back.no_fault;
      says = ap (said_set json_reading) json ∙ ap listed back.said ∙ same;
    }

-- ---- each canonical value

mutual
  -- a canonical value has no fault
  pub canonical-read : (v : Json) → IsCanonical v → fields_faults json_reading v ≡ []
  canonical-read (object ms) c = members-read ms c
  canonical-read (scalar s) c = absurd c
  canonical-read (list vs) c = absurd c

  members-read : (ms : Members) → AreCanonical ms → member_faults json_reading ms ≡ []
  members-read no_members c = refl
  members-read (member n v ms) c =
      let rest = members-read ms c.1 in
      elim c.0 as (λ m. member_faults json_reading (member n v ms) ≡ []) [
        | inl dot ↦ faults-dot n v ms true (ap (λ t. same_text t (codes ".")) dot.0) (ap is_nothing_inside dot.1) ∙ rest
        | inr named ↦
            let e = named.0.0 in
            let other = ap (λ t. same_text t (codes ".")) (sym named.0.2) ∙ no-dot e in
            let read : element_of json_reading n ≡ Ok e = ap (element_of json_reading) (sym named.0.2) ∙ own-text-is-read e (element-of-program e named.0.1) in
            faults-child n v ms other ∙ (λ i. (element-right e n v read ∙ below-none v named.1 (canonical-read v named.2)) i ++ rest i)
      ]
