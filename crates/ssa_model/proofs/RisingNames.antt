-- Names that rise by bytes, as those of key fields do.
use Rattle.std.proofs.Common.{◌≡◌, List, [], ◌∷◌, Bool, true, false, ◌&&◌, refl, sym, ap, ◌∙◌, true≢false}
use Rattle.std.specs.Ordering.{is_lt, nat_cmp}
use Rattle.std.specs.Cmp.{first_so, second_so, tied_itself}
use Rattle.std.specs.Cmp.Lexicographic.{slice_cmp, nat_list_cmp_total}
use Rattle.ssa_model.specs.definitions.Json.{Text, same_text}
use Rattle.ssa_model.specs.definitions.Lawful.{are_key_names, names_rise_after}
use Rattle.ssa_model.proofs.Tables.{same_text-true}
use Rattle.ssa_model.proofs.Basics.{lower}

-- a name below another is another
pub apart-less : (n m : Text) → is_lt (slice_cmp nat_cmp m n) ≡ true → same_text n m ≡ false
apart-less n m h =
    elim (same_text n m) as (λ t. same_text n m ≡ t → t ≡ false) [
      | true ↦ λ t. absurd (true≢false (sym h ∙ ap (λ x. is_lt (slice_cmp nat_cmp m x)) (same_text-true n m t) ∙ ap is_lt (tied_itself nat_list_cmp_total m)))
      | false ↦ λ t. refl
    ] refl

-- the first name is before the second, by bytes
abbrev pub before : Text → Text → Bool
before n m = is_lt (slice_cmp nat_cmp n m)

-- names that rise behind a name rise behind each name before it
pub rise-on : (n l : Text) (ns : List Text) → before n l ≡ true → names_rise_after l ns ≡ true → names_rise_after n ns ≡ true
rise-on n l [] h rest = refl
rise-on n l (m ∷ ns) h rest =
    let up = ap is_lt (nat_list_cmp_total.trans n l m (lower _ h) (lower _ (first_so (before l m) _ rest))) in
    λ i. up i && second_so (before l m) (names_rise_after m ns) rest i

-- the names rise
abbrev pub do_rise : List Text → Bool
do_rise [] = true
do_rise (n ∷ ns) = names_rise_after n ns

-- names that rise behind another rise
pub rest-rise : (n : Text) (ns : List Text) → names_rise_after n ns ≡ true → do_rise ns ≡ true
rest-rise n [] h = refl
rest-rise n (m ∷ ns) h = second_so (before n m) _ h

-- the names of a map list's key fields rise
pub key-names-rise : (ns : List Text) → are_key_names ns ≡ true → do_rise ns ≡ true
key-names-rise [] h = refl
key-names-rise (n ∷ ns) h = h
