-- Texts that were met before, in a set.
use Rattle.std.proofs.Common.{◌≡◌, List, [], ◌∷◌, Bool, not, ◌||◌, refl, sym, ap, ap₂, ◌∙◌, String, Global, string_bytes, string_cmp, nat_cmp, Less, Equal, Greater}
use Rattle.std.specs.List.{list_any}
use Rattle.std.specs.declared.cmp.Ordering.{Ordering}
use Rattle.std.specs.Ordering.{match_ordering}
use Rattle.std.specs.BTreeMap.{is_at}
use Rattle.std.specs.BTreeSet.{insert_key}
use Rattle.std.specs.Cmp.Lexicographic.{slice_cmp}
use Rattle.std.specs.FinMap.{slice_cmp-IsAntisymmetric, nat_cmp-IsAntisymmetric}
use Rattle.ssa_model.specs.definitions.Json.{Text, same_text}
use Rattle.ssa_model.specs.definitions.Schema.{is_one_of_texts}
use Rattle.ssa_schema.specs.Kinds.{names_view}
use Rattle.ssa_model.proofs.Basics.{or_swap as swap, or_twice as twice}

-- the set has these texts and no others
abbrev pub Holds : List (String Global) → List Text → Type 0
Holds ks ts = (t : Text) → is_one_of_texts t (names_view ks) ≡ is_one_of_texts t ts

-- one step, after the order of the two texts
one_more : (t : Text) (k x : String Global) (xs rest : List (String Global)) (o : Ordering) → slice_cmp nat_cmp (string_bytes k) (string_bytes x) ≡ o
    → is_one_of_texts t (names_view rest) ≡ (same_text t (string_bytes k) || is_one_of_texts t (names_view xs))
    → is_one_of_texts t (names_view (match_ordering o (k ∷ x ∷ xs) (x ∷ xs) (x ∷ rest)))
    ≡ (same_text t (string_bytes k) || is_one_of_texts t (names_view (x ∷ xs)))
one_more t k x xs rest Less is h = refl
one_more t k x xs rest Equal is h =
    twice (same_text t (string_bytes x)) (is_one_of_texts t (names_view xs))
    ∙ ap (λ u. same_text t u || is_one_of_texts t (names_view (x ∷ xs)))
    (sym (slice_cmp-IsAntisymmetric nat_cmp-IsAntisymmetric (string_bytes k) (string_bytes x) is))
one_more t k x xs rest Greater is h =
    ap (λ b. same_text t (string_bytes x) || b) h ∙ swap (same_text t (string_bytes x)) (same_text t (string_bytes k)) (is_one_of_texts t (names_view xs))

inserted : (t : Text) (k : String Global) (xs : List (String Global))
    → is_one_of_texts t (names_view (insert_key string_cmp xs k)) ≡ (same_text t (string_bytes k) || is_one_of_texts t (names_view xs))
inserted t k [] = refl
inserted t k (x ∷ xs) = one_more t k x xs (insert_key string_cmp xs k) (slice_cmp nat_cmp (string_bytes k) (string_bytes x)) refl (inserted t k xs)

-- with one more put in, the set has one text more
pub holds_more : (ks now : List (String Global)) (ts : List Text) (k : String Global) (u : Text) → string_bytes k ≡ u → now ≡ insert_key string_cmp ks k
    → Holds ks ts → Holds now (u ∷ ts)
holds_more ks now ts k u is made h t =
    ap (λ xs. is_one_of_texts t (names_view xs)) made ∙ inserted t k ks ∙ ap₂ (λ v b. same_text t v || b) is (h t)

any_name : (test : Text → Bool) (ks : List (String Global)) → list_any (λ k. test (string_bytes k)) ks ≡ list_any test (names_view ks)
any_name test [] = refl
any_name test (k ∷ ks) = ap (λ b. test (string_bytes k) || b) (any_name test ks)

-- a text is new to the set where it is none of these
pub holds_test : (ks : List (String Global)) (ts : List Text) (k : String Global) (u : Text) (is_new : Bool) → string_bytes k ≡ u → Holds ks ts
    → is_new ≡ not (list_any (is_at (string_cmp k)) ks) → is_new ≡ not (is_one_of_texts u ts)
holds_test ks ts k u is_new is h test =
    test ∙ ap not (any_name (same_text (string_bytes k)) ks ∙ h (string_bytes k) ∙ ap (λ v. is_one_of_texts v ts) is)
