-- The names of the members that a body shows: what stands under each field's name, and the names below a path.
use Rattle.std.proofs.Common.{◌≡◌, List, [], ◌∷◌, ◌++◌, Bool, true, false, ◌&&◌, ◌||◌, cond, Option, Some, None, option_map, Ordering, Less, Equal, Greater, refl, sym, ap, ◌∙◌, true≢false}
use Rattle.std.specs.Prelude.{filter_map, if◌then◌else◌}
use Rattle.std.specs.List.{list_any, cons_option}
use Rattle.std.specs.Ordering.{is_eq, ordering_then}
use Rattle.std.specs.Cmp.{tied_itself}
use Rattle.std.specs.Cmp.Lexicographic.{nat_list_cmp_total}
use Rattle.ssa_model.specs.definitions.Json.{Text, Json, Members, member, member_of, same_text}
use Rattle.ssa_model.specs.definitions.Path.{Element, field, key, value, Path, element_cmp, path_cmp, same_element, same_path, parent}
use Rattle.ssa_model.specs.definitions.PathMap.{has, paths}
use Rattle.ssa_model.specs.definitions.Kind.{Kind, Fields, no_fields, kind_field, kind_of}
use Rattle.ssa_model.specs.definitions.Body.{Body}
use Rattle.ssa_model.specs.definitions.Objects.{shown, shown_fields, name_below, names_below}
use Rattle.ssa_model.proofs.Fitting.{same_element-true}
use Rattle.ssa_model.proofs.PathMaps.{has-paths, same_path-true}
use Rattle.ssa_model.proofs.Tables.{same_text-true, element-itself}
use Rattle.ssa_model.proofs.Basics.{then_equal, then_greater, then_both}

-- ---- the fields that a body shows

none_either : (t : Bool) → ◌≡◌ {A = Option Json} None (cond t None None)
none_either true = refl
none_either false = refl

module _ (b : Body) (p : Path) where
  abbrev place : Text → Path
  place n = p ++ field n ∷ []

  -- the member of a name, among the fields that a body shows, is the value of that field, where the body has it
  pub member_of-fields : (n : Text) (fs : Fields) → member_of n (shown_fields fs b p)
      ≡ cond (has b (place n)) (option_map (λ k. shown k b (place n)) (kind_of n fs)) None
  member_of-fields n no_fields = none_either (has b (place n))
  member_of-fields n (kind_field m k fs) =
      let rest = shown_fields fs b p in
      elim (same_text n m) as (λ s. same_text n m ≡ s
      → member_of n (if has b (place m) then member m (shown k b (place m)) rest else rest)
      ≡ cond (has b (place n)) (option_map (λ k. shown k b (place n)) (if s then Some k else kind_of n fs)) None) [
        | true ↦ λ is. own m k fs n (same_text-true n m is) is (member_of-fields n fs)
        | false ↦ λ is. other m k n rest (has b (place m)) is ∙ member_of-fields n fs
      ] refl
    where
      other : (m : Text) (k : Kind) (n : Text) (rest : Members) (t : Bool) → same_text n m ≡ false
          → member_of n (if t then member m (shown k b (place m)) rest else rest) ≡ member_of n rest
      other m k n rest true is = ap (λ s. if s then Some (shown k b (place m)) else member_of n rest) is
      other m k n rest false is = refl

      there : (m : Text) (k : Kind) (fs : Fields) (n : Text) (t : Bool) → n ≡ m → same_text n m ≡ true → has b (place n) ≡ t
          → member_of n (shown_fields fs b p) ≡ cond t (option_map (λ k. shown k b (place n)) (kind_of n fs)) None
          → member_of n (if t then member m (shown k b (place m)) (shown_fields fs b p) else shown_fields fs b p) ≡ cond t (Some (shown k b (place n))) None
      there m k fs n true e is h later = ap (λ s. if s then Some (shown k b (place m)) else member_of n (shown_fields fs b p)) is
          ∙ ap (λ x. Some (shown k b (place x))) (sym e)
      there m k fs n false e is h later = later

      own : (m : Text) (k : Kind) (fs : Fields) (n : Text) → n ≡ m → same_text n m ≡ true
          → member_of n (shown_fields fs b p) ≡ cond (has b (place n)) (option_map (λ k. shown k b (place n)) (kind_of n fs)) None
          → member_of n (if has b (place m) then member m (shown k b (place m)) (shown_fields fs b p) else shown_fields fs b p)
          ≡ cond (has b (place n)) (Some (shown k b (place n))) None
      own m k fs n e is later =
          ap (λ x. member_of n (if has b (place x) then member m (shown k b (place m)) (shown_fields fs b p) else shown_fields fs b p)) (sym e)
          ∙ there m k fs n (has b (place n)) e is refl later

-- ---- the names below a path

-- the name of the second path right below the first, where it has one there
abbrev pub name_of : Path → Path → Option Text
name_of p q = if same_path (parent q) p then name_below p q else None

-- it is there, and is this name
abbrev pub is_name : Text → Option Text → Bool
is_name n None = false
is_name n (Some m) = same_text n m

then_less : (o : Ordering) → is_eq (ordering_then o Less) ≡ false
then_less Less = refl
then_less Equal = refl
then_less Greater = refl

longer : (d e : Element) (p : Path) (n : Text) → same_path (d ∷ p ++ field n ∷ []) (e ∷ []) ≡ false
longer d e [] n = then_greater (element_cmp d e)
longer d e (f ∷ p) n = then_greater (element_cmp d e)

single : (n : Text) (e : Element) → is_name n (name_of [] (e ∷ [])) ≡ same_path (field n ∷ []) (e ∷ [])
single n (field m) = sym (then_equal (element_cmp (field n) (field m)))
single n (key ks) = refl
single n (value s) = refl

-- whether two elements are the same is told alike both ways
pub turned : (d e : Element) → same_element e d ≡ same_element d e
turned d e =
    elim (same_element e d) as (λ s. same_element e d ≡ s → s ≡ same_element d e) [
      | true ↦ λ h. sym (element-itself e) ∙ ap (λ x. same_element x e) (same_element-true e d h)
      | false ↦ λ h. by (same_element d e) refl h
    ] refl
  where
    by : (t : Bool) → same_element d e ≡ t → same_element e d ≡ false → false ≡ t
    by true g h = absurd (true≢false (sym (element-itself d) ∙ ap (λ x. same_element x d) (same_element-true d e g) ∙ h))
    by false g h = refl

if_and : (n : Text) (s t : Bool) (o : Option Text) → is_name n (if s && t then o else None) ≡ (s && is_name n (if t then o else None))
if_and n true t o = refl
if_and n false t o = refl

one-name : (p q : Path) (n : Text) → is_name n (name_of p q) ≡ same_path (p ++ field n ∷ []) q
one-name [] [] n = refl
one-name [] (e ∷ []) n = single n e
one-name [] (e ∷ f ∷ q) n = sym (then_less (element_cmp (field n) e))
one-name (d ∷ p) [] n = refl
one-name (d ∷ p) (e ∷ []) n = sym (longer d e p n)
one-name (d ∷ p) (e ∷ f ∷ q) n =
    let here = same_path (parent (f ∷ q)) p in
    ap (λ t. is_name n (if t then name_below p (f ∷ q) else None)) (then_both (element_cmp e d) (path_cmp (parent (f ∷ q)) p)
    ∙ ap (λ s. s && here) (turned d e))
    ∙ if_and n (same_element d e) here (name_below p (f ∷ q))
    ∙ ap (λ t. same_element d e && t) (one-name p (f ∷ q) n)
    ∙ sym (then_both (element_cmp d e) (path_cmp (p ++ field n ∷ []) (f ∷ q)))

any-cons : (n : Text) (o : Option Text) (ns : List Text) → list_any (same_text n) (cons_option o ns) ≡ (is_name n o || list_any (same_text n) ns)
any-cons n None ns = refl
any-cons n (Some m) ns = refl

-- a name is one of those right below a path exactly where its field there is one of the paths
pub among-names : (p : Path) (n : Text) (ps : List Path) → list_any (same_text n) (filter_map (name_of p) ps) ≡ list_any (same_path (p ++ field n ∷ [])) ps
among-names p n [] = refl
among-names p n (q ∷ ps) = any-cons n (name_of p q) (filter_map (name_of p) ps) ∙ (λ i. one-name p q n i || among-names p n ps i)

-- a name below the path is one of a place there
pub names-there : (b : Body) (p : Path) (n : Text) → list_any (same_text n) (names_below b p) ≡ has b (p ++ field n ∷ [])
names-there b p n = among-names p n (paths b) ∙ sym (has-paths b (p ++ field n ∷ []))

-- a name right below a path is that of the path where it was found
pub name-is : (p q : Path) (m : Text) → name_of p q ≡ Some m → p ++ field m ∷ [] ≡ q
name-is p q m h = same_path-true (p ++ field m ∷ []) q (sym (one-name p q m) ∙ ap (is_name m) h ∙ ap is_eq (tied_itself nat_list_cmp_total m))
