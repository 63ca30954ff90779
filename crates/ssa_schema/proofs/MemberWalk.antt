-- The faults of an object's members, one member after another.
use Rattle.std.proofs.Common.{◌≡◌, List, [], ◌∷◌, ◌++◌, sym, ap, subst, ◌∙◌, String, Global, string_bytes}
use Rattle.std.specs.Prelude.{Option, None, Some}
use Rattle.ssa_model.specs.definitions.Json.{Text, Json, Members, member}
use Rattle.ssa_model.specs.definitions.Path.{Path, element_text, field}
use Rattle.ssa_model.specs.definitions.Kind.{FaultAt, unknown_field, Kind, Fields, kind_of, faults, field_faults, Shape, ShapeFields, shape_of, shape_faults, shape_field_faults, fault_at}
use Rattle.ssa_schema.specs.Refusals.{first_of}
use Rattle.ssa_schema.specs.Finds.{Finds}
use Rattle.ssa_schema.specs.declared.fit.found.Found.{Found}
use Rattle.ssa_schema.proofs.Finding.{finds_from, finds_first, finds_below, none_first}

-- where the first member is unknown, the first fault is this unknown field
pub field_unknown : (fs : Fields) (n m : Text) (v : Json) (rest : Members) (p : Path) → m ≡ n → kind_of m fs ≡ None
    → first_of (field_faults fs (member n v rest) p) ≡ Some (fault_at unknown_field (p ++ field n ∷ []))
field_unknown fs n m v rest p is known =
    ap (λ o. first_of (elim o [ None ↦ fault_at unknown_field (p ++ field n ∷ []) ∷ [] | Some t ↦ faults t v (p ++ field n ∷ []) ] ++ field_faults fs rest p))
    (ap (λ t. kind_of t fs) (sym is) ∙ known)

-- so inside an atomic value
pub shape_field_unknown : (fs : ShapeFields) (n m : Text) (v : Json) (rest : Members) (p : Path) → m ≡ n → shape_of m fs ≡ None
    → first_of (shape_field_faults fs (member n v rest) p) ≡ Some (fault_at unknown_field p)
shape_field_unknown fs n m v rest p is known =
    ap (λ o. first_of (elim o [ None ↦ fault_at unknown_field p ∷ [] | Some t ↦ shape_faults t v p ] ++ shape_field_faults fs rest p))
    (ap (λ t. shape_of t fs) (sym is) ∙ known)

-- inside an atomic value, the faults of a known member are those of its value, and then the others'
pub shape_field_split : (fs : ShapeFields) (s : Shape) (n m : Text) (v : Json) (rest : Members) (p : Path) → m ≡ n → shape_of m fs ≡ Some s
    → shape_field_faults fs (member n v rest) p ≡ shape_faults s v p ++ shape_field_faults fs rest p
shape_field_split fs s n m v rest p is known =
    ap (λ o. elim o [ None ↦ fault_at unknown_field p ∷ [] | Some t ↦ shape_faults t v p ] ++ shape_field_faults fs rest p) (ap (λ t. shape_of t fs) (sym is)
    ∙ known)

-- the faults of a known member are those of its value, one field further, and then the others'
pub field_split : (fs : Fields) (k : Kind) (n m : Text) (v : Json) (rest : Members) (p : Path) → m ≡ n → kind_of m fs ≡ Some k
    → field_faults fs (member n v rest) p ≡ faults k v (p ++ field n ∷ []) ++ field_faults fs rest p
field_split fs k n m v rest p is known =
    ap (λ o. elim o [ None ↦ fault_at unknown_field (p ++ field n ∷ []) ∷ [] | Some t ↦ faults t v (p ++ field n ∷ []) ] ++ field_faults fs rest p)
    (ap (λ t. kind_of t fs) (sym is) ∙ known)

-- what is found below the member is what is found
pub member_found : (o : Option Found) (found below : Found) (n m : Text) (t : String Global) (whole inner rest : Path → List FaultAt)
    → ((p : Path) → first_of (whole p) ≡ first_of (inner (p ++ field n ∷ []) ++ rest p))
    → o ≡ Some found → Finds o inner → m ≡ n → string_bytes t ≡ element_text (field m) → below.misfit ≡ found.misfit
    → below.path.items ≡ found.path.items ++ t ∷ [] → Finds (Some below) whole
member_found o found below n m t whole inner rest split is h name text misfit path =
    finds_from (Some below) whole (λ p. inner (p ++ field n ∷ []) ++ rest p) split
    (finds_first below (λ p. inner (p ++ field n ∷ [])) rest
    (finds_below found below (field n) t inner (text ∙ ap (λ x. element_text (field x)) name) misfit path (subst (λ x. Finds x inner) is h)))

-- where the member fits, those that are left decide
pub member_fits : (o : Option Found) (n : Text) (whole inner rest : Path → List FaultAt)
    → ((p : Path) → first_of (whole p) ≡ first_of (inner (p ++ field n ∷ []) ++ rest p))
    → o ≡ None → Finds o inner → (p : Path) → first_of (whole p) ≡ first_of (rest p)
member_fits o n whole inner rest split is h p = split p ∙ none_first (inner (p ++ field n ∷ [])) (rest p) (subst (λ x. Finds x inner) is h (p ++ field n ∷ []))
