-- The paths that the members of an object say, one member after another.
use Rattle.std.proofs.Common.{◌≡◌, List, [], ◌∷◌, ◌++◌, map, Bool, true, false, cond, Ok, Err, string_bytes, refl, sym, ap, ◌∙◌, append_assoc, append-nil}
use Rattle.std.specs.Prelude.{codes}
use Rattle.ssa_model.specs.definitions.Json.{Text, Json, Members, no_members, member, same_text}
use Rattle.ssa_model.specs.definitions.Path.{Element, Path}
use Rattle.ssa_model.specs.definitions.ElementTexts.{element_of}
use Rattle.ssa_model.specs.definitions.FieldsV1.{member_paths}
use Rattle.ssa_json.specs.Reading.{json_reading}
use Rattle.ssa_json.specs.View.{view, members_view}
use Rattle.ssa_path.specs.FieldsReading.{said_below}
use Rattle.ssa_path.specs.Trie.{here_path, paths, paths_after, paths_below}
use Rattle.ssa_path.specs.View.{element_view}
use Rattle.ssa_path.specs.declared.element.Elem.{Elem}
use Rattle.ssa_path.specs.declared.trie.Trie.{Trie}
use Rattle.ssa_path.proofs.FieldsMembers.{Found, with_last, members-last}
use Rattle.ssa_path.proofs.Lists.{paths_below-append}

-- the paths that one member says
abbrev pub own_paths : Text → Json → List Path
own_paths n v = cond (same_text n (codes ".")) ([] ∷ []) (elim (element_of json_reading n) [ Err f ↦ [] | Ok e ↦ map (λ p. e ∷ p) (said_below v) ])

-- those of the last member come last
said-last : (ms : Members) (n : Text) (v : Json) → member_paths json_reading (with_last ms n v) ≡ member_paths json_reading ms ++ own_paths n v
said-last no_members n v = append-nil (own_paths n v)
said-last (member m w ms) n v = ap (λ ps. own_paths m w ++ ps) (said-last ms n v)
    ∙ sym (append_assoc (own_paths m w) (member_paths json_reading ms) (own_paths n v))

after-map : (e : Element) (ps : List Path) → paths_after e ps ≡ map (λ p. e ∷ p) ps
after-map e [] = refl
after-map e (p ∷ ps) = ap (λ qs. (e ∷ p) ∷ qs) (after-map e ps)

own-dot : (n : Text) (v : Json) → same_text n (codes ".") ≡ true → own_paths n v ≡ [] ∷ []
own-dot n v dot = ap (λ b. cond b ([] ∷ []) (elim (element_of json_reading n) [ Err f ↦ [] | Ok e ↦ map (λ p. e ∷ p) (said_below v) ])) dot

-- a member under an element's text says the paths of its value, with the element in front
pub own-child : (n : Text) (v : Json) (e : Element) (ps : List Path) → same_text n (codes ".") ≡ false → element_of json_reading n ≡ Ok e → ps ≡ said_below v
    → own_paths n v ≡ paths_after e ps
own-child n v e ps other own inside =
    (λ i. cond (other i) ([] ∷ []) (elim (own i) [ Err f ↦ [] | Ok d ↦ map (λ p. d ∷ p) (said_below v) ]))
    ∙ ap (map (λ p. e ∷ p)) (sym inside) ∙ sym (after-map e ps)

-- one child more is said
pub said-more : (here : Bool) (done : List Found) (e : Found) (cs : List (Elem × Trie)) (c : Elem × Trie)
    → here_path here ++ paths_below cs ≡ member_paths json_reading (members_view done)
    → same_text (string_bytes e.0) (codes ".") ≡ false → element_of json_reading (string_bytes e.0) ≡ Ok (element_view c.0) → paths c.1 ≡ said_below (view e.1)
    → here_path here ++ paths_below (cs ++ c ∷ []) ≡ member_paths json_reading (members_view (done ++ e ∷ []))
said-more here done e cs c before other own inside =
    let n = string_bytes e.0 in
    let child : paths_below (c ∷ []) ≡ own_paths n (view e.1) = append-nil (paths_after (element_view c.0) (paths c.1))
    ∙ sym (own-child n (view e.1) (element_view c.0) (paths c.1) other own inside) in
    ap (λ ps. here_path here ++ ps) (paths_below-append cs (c ∷ []))
    ∙ sym (append_assoc (here_path here) (paths_below cs) (paths_below (c ∷ [])))
    ∙ (λ i. before i ++ child i)
    ∙ sym (ap (member_paths json_reading) (members-last done e) ∙ said-last (members_view done) n (view e.1))

-- the member `.`, which is the first, is said
pub said-dot : (e : Found) (cs : List (Elem × Trie)) → cs ≡ [] → same_text (string_bytes e.0) (codes ".") ≡ true
    → here_path true ++ paths_below cs ≡ member_paths json_reading (members_view (e ∷ []))
said-dot e cs none dot = ap (λ l. here_path true ++ paths_below l) none
    ∙ sym (append-nil (own_paths (string_bytes e.0) (view e.1)) ∙ own-dot (string_bytes e.0) (view e.1) dot)
