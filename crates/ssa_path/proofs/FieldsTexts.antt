-- A place and its children, written straight into a text.
use Rattle.std.proofs.Common.{◌≡◌, ℕ, ◌+◌, ◌<◌, ◌≤◌, List, [], ◌∷◌, ◌++◌, take, drop, length, get_or, Bool, true, false, refl, sym, ap, subst, ◌∙◌, append_assoc, take_all, arith}
use Rattle.std.specs.Prelude.{codes}
use Rattle.std.specs.Str.{is_utf8}
use Rattle.std.proofs.lemmas.Bool.{and_from}
use Rattle.std.proofs.lemmas.List.{drop_all}
use Rattle.std.proofs.lemmas.Str.{is_utf8-from_IsUtf8}
use Rattle.ssa_model.specs.definitions.Json.{Text, object, no_members, Members, comma_if, compact, compact_members}
use Rattle.ssa_model.specs.definitions.MemberNames as model
use Rattle.ssa_model.specs.definitions.Path.{Element, field, key, value, element_text}
use Rattle.ssa_model.specs.definitions.FieldsV1.{nothing_written}
use Rattle.ssa_json.specs.Writable.{IsOfProgram, has_utf8, has_rising_names, members_have_utf8, members_rise}
use Rattle.ssa_json.specs.Written.{is_narrow, members_narrow}
use Rattle.ssa_json.proofs.Printing.{member-written}
use Rattle.ssa_path.specs.Children.{elements, rises}
use Rattle.ssa_path.specs.FieldsWriting.{below_json, dot_text, paths_json}
use Rattle.ssa_path.specs.TopPaths.{text_of}
use Rattle.ssa_path.specs.Trie.{is_trie, paths}
use Rattle.ssa_path.specs.View.{element_view}
use Rattle.ssa_path.specs.declared.element.Elem.{Elem}
use Rattle.ssa_path.specs.declared.trie.Trie.{Trie}
use Rattle.ssa_path.specs.declared.trie.Trie.TheViews.{out-Trie}
use Rattle.ssa_path.proofs.ElementTexts.{one_ascii}
use Rattle.ssa_path.proofs.FieldsLevels.{dotted, child_members, level-trie}
use Rattle.ssa_path.proofs.InOrder.{taken}
use Rattle.ssa_path.proofs.Levels.{trie-parts}
use Rattle.ssa_path.proofs.Lists.{left-at}
use Rattle.ssa_path.proofs.Orders.{both_first, both_second}

-- ---- texts

-- the text of the members of the children from the i-th on, with the closing bracket
abbrev pub children_left : Bool → List (Elem × Trie) → ℕ → Text
children_left later cs i = compact_members later (child_members (drop i cs))

dot-written : (here : Bool) (ms : Members) → dot_text here ++ compact_members here ms ≡ compact_members false (dotted here ms)
dot-written true ms = refl
dot-written false ms = refl

-- the opening bracket is written, and the place itself
pub place-begun : (old opened begun : Text) (here : Bool) (ms : Members) → opened ≡ old ++ 123 ∷ [] → begun ≡ opened ++ dot_text here
    → begun ++ compact_members here ms ≡ old ++ compact (object (dotted here ms))
place-begun old opened begun here ms bracket dot =
    let rest = compact_members here ms in
    ap (λ t. t ++ rest) (dot ∙ ap (λ t. t ++ dot_text here) bracket) ∙ append_assoc (old ++ 123 ∷ []) (dot_text here) rest
    ∙ append_assoc old (123 ∷ []) (dot_text here ++ rest) ∙ ap (λ t. old ++ 123 ∷ t) (dot-written here ms)

-- the member of one child more is written
pub child-written : (whole before comma name colon after : Text) (later : Bool) (cs : List (Elem × Trie)) (i : ℕ) (c : Elem × Trie) → i < length cs
    → c ≡ get_or cs i c → before ++ children_left later cs i ≡ whole → comma ≡ before ++ comma_if later
    → name ≡ comma ++ compact (text_of (element_view c.0)) → colon ≡ name ++ 58 ∷ [] → after ≡ colon ++ compact (below_json (paths c.1))
    → after ++ children_left true cs (i + 1) ≡ whole
child-written whole before comma name colon after later cs i c within is so_far behind named marked inside =
    member-written before later (element_text (element_view c.0)) (below_json (paths c.1)) (child_members (drop (i + 1) cs)) behind named marked inside
    ∙ ap (λ ds. before ++ compact_members later (child_members ds)) (sym (left-at cs i c within is))
    ∙ so_far

-- all children are written, and the closing bracket
pub trie-written : (old before after : Text) (later : Bool) (t : Trie) (cs : List (Elem × Trie)) (i : ℕ) → cs ≡ (out-Trie t).below.items → length cs ≤ i
    → is_trie t ≡ true → before ++ children_left later cs i ≡ old ++ compact (object (dotted (out-Trie t).here (child_members cs)))
    → after ≡ before ++ 125 ∷ [] → after ≡ old ++ compact (paths_json (paths t))
trie-written old before after later t cs i all past h so_far bracket =
    bracket ∙ ap (λ ds. before ++ compact_members later (child_members ds)) (sym (drop_all i cs past)) ∙ so_far
    ∙ ap (λ ds. old ++ compact (object (dotted (out-Trie t).here (child_members ds)))) all ∙ ap (λ v. old ++ compact v) (sym (level-trie t h))

-- ---- of the program

-- the child's member is of the program
abbrev pub IsChildOfProgram : Elem × Trie → Type 0
IsChildOfProgram c = IsOfProgram (text_of (element_view c.0)) × IsOfProgram (below_json (paths c.1))

abbrev pub AreOfProgram : List (Elem × Trie) → Type 0
AreOfProgram [] = Unit {0}
AreOfProgram (c ∷ cs) = IsChildOfProgram c × AreOfProgram cs

of-program-push : (cs : List (Elem × Trie)) (c : Elem × Trie) → AreOfProgram cs → IsChildOfProgram c → AreOfProgram (cs ++ c ∷ [])
of-program-push [] c h here = (here, tt)
of-program-push (d ∷ cs) c h here = (h.0, of-program-push cs c h.1 here)

-- the next child's member is of the program, too
pub of-program-more : (cs : List (Elem × Trie)) (i : ℕ) (c : Elem × Trie) → i < length cs → c ≡ get_or cs i c → AreOfProgram (take i cs)
    → IsOfProgram (text_of (element_view c.0)) → IsOfProgram (below_json (paths c.1)) → AreOfProgram (take (i + 1) cs)
of-program-more cs i c within is h named below = subst AreOfProgram (sym (taken cs i c within is)) (of-program-push (take i cs) c h (named, below))

first-below : (c : Elem × Trie) (cs : List (Elem × Trie)) → rises (elements (c ∷ cs)) ≡ true
    → model.is_below (element_text (element_view c.0)) (child_members cs) ≡ true
first-below c [] h = refl
first-below c (d ∷ cs) h = both_first _ _ (both_first _ _ h)

children-of-program : (cs : List (Elem × Trie)) → rises (elements cs) ≡ true → AreOfProgram cs → IsOfProgram (object (child_members cs))
children-of-program [] h own = record { narrow = refl; texts = refl; names = refl }
children-of-program (c ∷ cs) h own =
    let n = element_text (element_view c.0) in
    let v = below_json (paths c.1) in
    let ms = child_members cs in
    let rest = children-of-program cs (both_second _ _ h) own.1 in
    record {
      narrow = and_from (is_narrow v) (members_narrow ms) own.0.1.narrow rest.narrow;
      texts = and_from (is_utf8 n) _ own.0.0.texts (and_from (has_utf8 v) (members_have_utf8 ms) own.0.1.texts rest.texts);
      names = and_from (model.is_below n ms) _ (first-below c cs h) (and_from (has_rising_names v) (members_rise ms) own.0.1.names rest.names);
    }

dot-below : (cs : List (Elem × Trie)) → model.is_below (codes ".") (child_members cs) ≡ true
dot-below [] = refl
dot-below (c ∷ cs) = by (element_view c.0)
  where
    by : (e : Element) → model.is_below (codes ".") (Members.member (element_text e) nothing_written no_members) ≡ true
    by (field n) = refl
    by (key ks) = refl
    by (value s) = refl

dotted-of-program : (here : Bool) (cs : List (Elem × Trie)) → IsOfProgram (object (child_members cs)) → IsOfProgram (object (dotted here (child_members cs)))
dotted-of-program true cs own = record {
  narrow = own.narrow;
  texts = and_from (is_utf8 (codes ".")) (members_have_utf8 (child_members cs)) (is_utf8-from_IsUtf8 (codes ".") (one_ascii 46 (omega arith))) own.texts;
  names = and_from (model.is_below (codes ".") (child_members cs)) _ (dot-below cs) own.names;
}
dotted-of-program false cs own = own

-- where the children's members are of the program, so is the object of the trie's paths
pub trie-of-program : (t : Trie) (cs : List (Elem × Trie)) (i : ℕ) → cs ≡ (out-Trie t).below.items → length cs ≤ i → is_trie t ≡ true
    → AreOfProgram (take i cs) → IsOfProgram (paths_json (paths t))
trie-of-program t cs i all past h own =
    let below = (out-Trie t).below.items in
    let mine = subst AreOfProgram (take_all i cs past ∙ all) own in
    subst IsOfProgram (sym (level-trie t h)) (dotted-of-program (out-Trie t).here below (children-of-program below (trie-parts t below refl h).0 mine))
