-- Members put in one after another, as the children of a place are written.
use Rattle.std.proofs.Common.{◌≡◌, ◌≢◌, ℕ, ◌+◌, ◌<◌, List, [], ◌∷◌, ◌++◌, length, get_or, drop, Bool, true, false, ◌&&◌, cond, true≢false, String, Global, string_bytes, Greater, nat_cmp, refl, sym, ap, subst, ◌∙◌, inl, inr}
use Rattle.std.specs.Prelude.{codes, not, ◌==◌, vec_len}
use Rattle.std.specs.Ordering.{is_lt, ordering_reverse}
use Rattle.std.specs.Cmp.Lexicographic.{slice_cmp}
use Rattle.ssa_model.specs.definitions.Json.{Text, Json, object, Members, no_members, member}
use Rattle.ssa_model.specs.definitions.Path.{Path, Element, field, key, value, element_cmp, element_text}
use Rattle.ssa_model.specs.definitions.FieldsV1.{is_place_alone, nothing_written, IsCanonical, AreCanonical, IsElementText, dot_alone}
use Rattle.ssa_json.specs.View.{view, members_view}
use Rattle.ssa_json.specs.declared.value.Json as json
use Rattle.ssa_json.proofs.Ordered.{IsAbove, names}
use Rattle.ssa_path.specs.Children.{elements, is_below, rises}
use Rattle.ssa_path.specs.FieldsWriting.{paths_json, below_json, dot_members, IsWrittenBelow}
use Rattle.ssa_path.specs.OwnText.{IsElementOfProgram}
use Rattle.ssa_path.specs.Trie.{are_filled_tries, has_some, here_path, is_filled, is_trie, paths, paths_after, paths_below}
use Rattle.ssa_path.specs.View.{element_view}
use Rattle.ssa_path.specs.declared.element.Elem.{Elem}
use Rattle.ssa_path.specs.declared.trie.Trie.{Trie}
use Rattle.ssa_path.specs.declared.trie.Trie.TheViews.{out-Trie}
use Rattle.ssa_path.proofs.FieldsLevels.{dotted, child_members, level-trie}
use Rattle.ssa_path.proofs.Levels.{paths-level, some-long, trie-parts}
use Rattle.ssa_path.proofs.Lists.{filled-drop, left-at}
use Rattle.ssa_path.proofs.Orders.{both_first, both_second, element_cmp_total}
use Rattle.ssa_model.proofs.Basics.{lower}

-- a member as the program holds it: a value under its name
abbrev pub Found : Type 0
Found = String Global × json.Json

-- one member more goes last
abbrev pub with_last : Members → Text → Json → Members
with_last no_members n v = member n v no_members
with_last (member m w ms) n v = member m w (with_last ms n v)

-- a member pushed behind others goes last
pub members-last : (es : List Found) (e : Found) → members_view (es ++ e ∷ []) ≡ with_last (members_view es) (string_bytes e.0) (view e.1)
members-last [] e = refl
members-last (x ∷ es) e = ap (member (string_bytes x.0) (view x.1)) (members-last es e)

children-last : (cs : List (Elem × Trie)) (c : Elem × Trie) → child_members (cs ++ c ∷ [])
    ≡ with_last (child_members cs) (element_text (element_view c.0)) (below_json (paths c.1))
children-last [] c = refl
children-last (d ∷ cs) c = ap (member (element_text (element_view d.0)) (below_json (paths d.1))) (children-last cs c)

dotted-last : (b : Bool) (ms : Members) (n : Text) (v : Json) → dotted b (with_last ms n v) ≡ with_last (dotted b ms) n v
dotted-last true ms n v = refl
dotted-last false ms n v = refl

-- the member of one child more
pub members-more : (here : Bool) (es : List Found) (e : Found) (cs : List (Elem × Trie)) (c : Elem × Trie) → members_view es ≡ dotted here (child_members cs)
    → string_bytes e.0 ≡ element_text (element_view c.0) → view e.1 ≡ below_json (paths c.1)
    → members_view (es ++ e ∷ []) ≡ dotted here (child_members (cs ++ c ∷ []))
members-more here es e cs c before name inside =
    members-last es e ∙ (λ i. with_last (before i) (name i) (inside i)) ∙ sym (dotted-last here (child_members cs) _ _)
    ∙ ap (dotted here) (sym (children-last cs c))

-- ---- the one writing

canonical-last : (ms : Members) (n : Text) (v : Json) → AreCanonical ms → IsElementText n → v ≢ dot_alone → IsCanonical v → AreCanonical (with_last ms n v)
canonical-last no_members n v h name differs inside = (inr (name, differs, inside), tt)
canonical-last (member m w ms) n v h name differs inside = (h.0, canonical-last ms n v h.1 name differs inside)

-- the own text of an element of the program is one that a canonical member may have as its name
pub text-of-element : (e : Element) (n : Text) → IsElementOfProgram e → n ≡ element_text e → IsElementText n
text-of-element e n h is = (e, h.lawful, sym is)

-- canonical members stay so with one more: a canonical value other than `{".":{}}`, under an element's text
pub canonical-more : (es : List Found) (e : Found) → AreCanonical (members_view es) → IsElementText (string_bytes e.0) → view e.1 ≢ dot_alone
    → IsCanonical (view e.1) → AreCanonical (members_view (es ++ e ∷ []))
canonical-more es e h name differs inside = subst AreCanonical (sym (members-last es e))
    (canonical-last (members_view es) (string_bytes e.0) (view e.1) h name differs inside)

-- `.` alone is canonical, and so is no member
pub dot-canonical : (here : Bool) → AreCanonical (dot_members here)
dot-canonical true = (inl (refl, refl), tt)
dot-canonical false = tt

-- `.` alone is `.` in front of no members
pub dot-dotted : (here : Bool) → dot_members here ≡ dotted here no_members
dot-dotted true = refl
dot-dotted false = refl

-- ---- the names stand in order

abbrev member_names : Members → List Text
member_names no_members = []
member_names (member n v ms) = n ∷ member_names ms

names-are : (es : List Found) → names es ≡ member_names (members_view es)
names-are [] = refl
names-are (e ∷ es) = ap (λ ns. string_bytes e.0 ∷ ns) (names-are es)

above-dot : (e : Element) → slice_cmp nat_cmp (element_text e) (codes ".") ≡ Greater
above-dot (field n) = refl
above-dot (key ks) = refl
above-dot (value s) = refl

above-below : (e f : Element) → is_lt (element_cmp f e) ≡ true → slice_cmp nat_cmp (element_text e) (element_text f) ≡ Greater
above-below e f h = element_cmp_total.antisymm e f ∙ ap ordering_reverse (lower _ h)

above-front : (front rest : List (Elem × Trie)) (c : Elem × Trie) → rises (elements (front ++ c ∷ rest)) ≡ true
    → IsAbove (element_text (element_view c.0)) (member_names (child_members front))
above-front [] rest c h = tt
above-front (d ∷ front) rest c h =
    (above-below (element_view c.0) (element_view d.0) (middle front (both_first _ _ h)), above-front front rest c (both_second _ _ h))
  where
    middle : (front : List (Elem × Trie)) → is_below (element_view d.0) (elements (front ++ c ∷ rest)) ≡ true
        → is_lt (element_cmp (element_view d.0) (element_view c.0)) ≡ true
    middle [] g = both_first _ _ g
    middle (x ∷ front) g = middle front (both_second _ _ g)

above-dotted : (here : Bool) (ms : Members) (e : Element) → IsAbove (element_text e) (member_names ms)
    → IsAbove (element_text e) (member_names (dotted here ms))
above-dotted true ms e h = (above-dot e, h)
above-dotted false ms e h = h

-- the next child's text is above the names so far
pub above-found : (here : Bool) (es : List Found) (front rest : List (Elem × Trie)) (c : Elem × Trie) (n : Text)
    → members_view es ≡ dotted here (child_members front) → rises (elements (front ++ c ∷ rest)) ≡ true → n ≡ element_text (element_view c.0)
    → IsAbove n (names es)
above-found here es front rest c n is h text =
    let all = above-dotted here (child_members front) (element_view c.0) (above-front front rest c h) in
    subst (λ ns. IsAbove n ns) (sym (names-are es ∙ ap member_names is))
    (subst (λ m. IsAbove m (member_names (dotted here (child_members front)))) (sym text) all)

-- ---- a place under an element

alone : (b : Bool) (cs : List (Elem × Trie)) → has_some {A = Elem × Trie} cs ≡ false → has_some (here_path b ++ paths_below cs) ≡ true
    → here_path b ++ paths_below cs ≡ [] ∷ []
alone true [] none some = refl
alone false [] none some = absurd (true≢false (sym some))
alone b (c ∷ cs) none some = absurd (true≢false none)

-- a trie with some path and no children has the place alone
pub alone-place : (t : Trie) → has_some {A = Elem × Trie} (out-Trie t).below.items ≡ false → is_filled t ≡ true → paths t ≡ [] ∷ []
alone-place t none some = paths-level t ∙ alone (out-Trie t).here (out-Trie t).below.items none (ap has_some (sym (paths-level t)) ∙ some)

-- the place itself is written as `{}`
pub alone-written : (ps : List Path) (v : Json) → ps ≡ [] ∷ [] → v ≡ nothing_written → IsWrittenBelow ps v
alone-written ps v is written = record {
  json = written ∙ ap below_json (sym is);
  not_dot = λ e. let other : nothing_written ≡ dot_alone = sym written ∙ e in cc;
  canonical = subst IsCanonical (sym written) tt;
}

-- a place with children is not alone
more-than-place : (b : Bool) (cs : List (Elem × Trie)) → has_some {A = Elem × Trie} cs ≡ true → are_filled_tries cs ≡ true
    → is_place_alone (here_path b ++ paths_below cs) ≡ false
more-than-place b [] some h = absurd (true≢false (sym some))
more-than-place b (c ∷ cs) some h = by b (paths c.1) (both_second (is_trie c.1) _ (both_first (is_trie c.1 && is_filled c.1) _ h))
  where
    by : (b : Bool) (ps : List Path) → has_some ps ≡ true → is_place_alone (here_path b ++ (paths_after (element_view c.0) ps ++ paths_below cs)) ≡ false
    by b [] filled = absurd (true≢false (sym filled))
    by true (p ∷ ps) filled = refl
    by false (p ∷ ps) filled = refl

-- an object with the members of some children is not `{".":{}}`
pub not-dot : (b : Bool) (cs : List (Elem × Trie)) → has_some {A = Elem × Trie} cs ≡ true → object (dotted b (child_members cs)) ≢ dot_alone
not-dot b [] some e = true≢false (sym some)
not-dot true (c ∷ cs) some e = cc
not-dot false (c ∷ cs) some e = let text : element_text (element_view c.0) ≡ codes "." = cc in by (element_view c.0) text
  where
    by : (d : Element) → element_text d ≡ codes "." → ⊥
    by (field n) is = cc
    by (key ks) is = cc
    by (value s) is = cc

-- a place with children is written as its paths are
pub below-more : (t : Trie) → is_trie t ≡ true → has_some {A = Elem × Trie} (out-Trie t).below.items ≡ true → below_json (paths t) ≡ paths_json (paths t)
below-more t h some =
    ap (λ b. cond b nothing_written (paths_json (paths t)))
    (ap is_place_alone (paths-level t) ∙ more-than-place (out-Trie t).here (out-Trie t).below.items some (trie-parts t _ refl h).1)

-- the place is written with what is below it
pub place-written : (t : Trie) (v : Json) → is_trie t ≡ true → has_some {A = Elem × Trie} (out-Trie t).below.items ≡ true → v ≡ paths_json (paths t)
    → IsCanonical v → IsWrittenBelow (paths t) v
place-written t v h some is canonical =
    record {
      json = is ∙ sym (below-more t h some);
      not_dot = λ e. not-dot (out-Trie t).here (out-Trie t).below.items some (sym (level-trie t h) ∙ sym is ∙ e);
      canonical = canonical;
    }

-- the child at a place has some path
pub child-filled : (cs : List (Elem × Trie)) (i : ℕ) (c : Elem × Trie) → i < length cs → c ≡ get_or cs i c → are_filled_tries cs ≡ true → is_filled c.1 ≡ true
child-filled cs i c lt is h =
    let left : are_filled_tries (c ∷ drop (i + 1) cs) ≡ true = ap are_filled_tries (sym (left-at cs i c lt is)) ∙ filled-drop cs i h in
    both_second (is_trie c.1) _ (both_first (is_trie c.1 && is_filled c.1) _ left)

-- what the test for children tells
pub below-some : (t : Trie) (none : Bool) → none ≡ (vec_len (out-Trie t).below == 0) → has_some {A = Elem × Trie} (out-Trie t).below.items ≡ not none
below-some t none is = some-long (out-Trie t).below.items ∙ ap (λ n. not (n == 0)) (sym (out-Trie t).below.ok.0) ∙ ap not (sym is)
