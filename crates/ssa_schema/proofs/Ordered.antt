-- Fields in a map: their names rise, and so at each level where they do in each kind inside.
use Rattle.std.proofs.Common.{◌≡◌, List, [], ◌∷◌, ◌++◌, Bool, true, ◌&&◌, refl, ap, String, Global, string_bytes, string_cmp, nat_cmp, Less, Equal, Greater}
use Rattle.std.specs.declared.cmp.Ordering.{Ordering}
use Rattle.std.specs.Ordering.{is_lt, match_ordering}
use Rattle.std.specs.Cmp.Lexicographic.{slice_cmp}
use Rattle.std.specs.List.{AllByRecursion}
use Rattle.std.specs.List.Sorted.{IsStrictlySortedBy}
use Rattle.std.specs.Map.{keys_of}
use Rattle.std.specs.BTreeMap.{insert_entry}
use Rattle.ssa_schema.specs.Kinds.{kind_view, fields_view}
use Rattle.ssa_model.specs.definitions.Lawful.{is_before_all, is_ordered, are_ordered}
use Rattle.ssa_schema.specs.declared.kind.Kind.{Kind}
use Rattle.ssa_path.proofs.Orders.{both_first, both_second}
use Rattle.ssa_model.proofs.Basics.{both-true as both}

-- a kind under its name
abbrev pub Field : Type 0
Field = String Global × Kind

-- each kind inside is ordered
abbrev pub all_ordered : List Field → Bool
all_ordered [] = true
all_ordered (f ∷ fs) = is_ordered (kind_view f.1) && all_ordered fs

before-all : (n : String Global) (fs : List Field) → AllByRecursion (λ m. string_cmp n m ≡ Less) (keys_of fs)
    → is_before_all (string_bytes n) (fields_view fs) ≡ true
before-all n [] h = refl
before-all n (f ∷ fs) h = both _ _ (ap is_lt h.0) (before-all n fs h.1)

-- the fields of a map are ordered where each kind inside is
pub fields-ordered : (fs : List Field) → IsStrictlySortedBy string_cmp (keys_of fs) → all_ordered fs ≡ true → are_ordered (fields_view fs) ≡ true
unfolding IsStrictlySortedBy
fields-ordered [] sorted h = refl
fields-ordered (f ∷ fs) sorted h = both _ _ (before-all f.0 fs sorted.0)
    (both _ _ (both_first _ _ h) (fields-ordered fs sorted.1 (both_second (is_ordered (kind_view f.1)) _ h)))

-- where fields are ordered, each kind inside is
pub ordered-inside : (fs : List Field) → are_ordered (fields_view fs) ≡ true → all_ordered fs ≡ true
ordered-inside [] h = refl
ordered-inside (f ∷ fs) h =
    let rest = both_second (is_before_all (string_bytes f.0) (fields_view fs)) _ h in
    both _ _ (both_first _ _ rest) (ordered-inside fs (both_second (is_ordered (kind_view f.1)) _ rest))

one_put : (n : String Global) (k : Kind) (f : Field) (fs rest : List Field) (o : Ordering) → is_ordered (kind_view k) ≡ true
    → is_ordered (kind_view f.1) ≡ true → all_ordered fs ≡ true → all_ordered rest ≡ true
    → all_ordered (match_ordering o ((n, k) ∷ f ∷ fs) ((f.0, k) ∷ fs) (f ∷ rest)) ≡ true
one_put n k f fs rest Less own first others more = both _ _ own (both _ _ first others)
one_put n k f fs rest Equal own first others more = both _ _ own others
one_put n k f fs rest Greater own first others more = both _ _ first more

-- one kind more, behind the others
pub ordered-push : (fs : List Field) (f : Field) → all_ordered fs ≡ true → is_ordered (kind_view f.1) ≡ true → all_ordered (fs ++ f ∷ []) ≡ true
ordered-push [] f h own = both _ _ own refl
ordered-push (e ∷ fs) f h own = both _ _ (both_first _ _ h) (ordered-push fs f (both_second (is_ordered (kind_view e.1)) _ h) own)

-- one kind more, in its place
pub ordered-insert : (n : String Global) (k : Kind) (fs : List Field) → is_ordered (kind_view k) ≡ true → all_ordered fs ≡ true
    → all_ordered (insert_entry string_cmp fs n k) ≡ true
ordered-insert n k [] own h = both _ _ own refl
ordered-insert n k (f ∷ fs) own h =
    let others = both_second (is_ordered (kind_view f.1)) _ h in
    one_put n k f fs (insert_entry string_cmp fs n k) (slice_cmp nat_cmp (string_bytes n) (string_bytes f.0)) own (both_first _ _ h) others
    (ordered-insert n k fs own others)
