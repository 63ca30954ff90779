-- Laws of what a walk finds.
use Rattle.std.proofs.Common.{◌≡◌, List, [], ◌∷◌, ◌++◌, map, true, false, not, refl, sym, ap, subst, true≢false, ◌∙◌, append_assoc, append-nil, String, Global, string_bytes}
use Rattle.std.proofs.lemmas.List.{map-append, reverse-append}
use Rattle.std.specs.Prelude.{Option, None, Some, is_some, option_map, reverse}
use Rattle.ssa_model.specs.definitions.Path.{Path, Element, element_text}
pub use Rattle.ssa_path.proofs.Lists.{left-at as item_split}
use Rattle.ssa_model.specs.definitions.Kind.{FaultAt, fault_at}
use Rattle.ssa_model.specs.definitions.Operations.{is_none}
use Rattle.std.proofs.lemmas.Option.{none-some}
use Rattle.ssa_schema.specs.Kinds.{names_view}
use Rattle.ssa_schema.specs.Refusals.{first_of, or_next}
use Rattle.ssa_schema.specs.Finds.{Finds, Breaks, found_at, told, misfit_view}
use Rattle.ssa_schema.specs.declared.fit.found.Misfit.{Misfit}
use Rattle.ssa_schema.specs.declared.fit.found.Found.{Found}

told_append : (xs ys : List FaultAt) → option_map told (first_of (xs ++ ys)) ≡ or_next (option_map told (first_of xs)) (option_map told (first_of ys))
told_append [] ys = refl
told_append (x ∷ xs) ys = refl

-- the fault of the first faults
pub finds_first : (f : Found) (fs gs : Path → List FaultAt) → Finds (Some f) fs → Finds (Some f) (λ p. fs p ++ gs p)
finds_first f fs gs h p = ap (λ o. or_next o (option_map told (first_of (gs p)))) (h p) ∙ sym (told_append (fs p) (gs p))

-- a fault at the place itself
pub breaks_here : (f : Found) (m : Misfit) (fs : Path → List FaultAt) → f.misfit ≡ m → f.path.items ≡ [] → Breaks (Some m) fs → Finds (Some f) fs
breaks_here f m fs is here h p =
    ap Some (λ i. (misfit_view (is i), (ap (λ xs. map element_text p ++ reverse (names_view xs)) here ∙ append-nil (map element_text p)) i))
    ∙ ap (option_map told) (h p)

-- where no fault breaks the place, nothing is found
pub breaks_none : (fs : Path → List FaultAt) → Breaks None fs → Finds None fs
breaks_none fs h p = ap (option_map told) (h p)

one_up : (p : Path) (e : Element) (t : String Global) (path : List (String Global)) → string_bytes t ≡ element_text e
    → map element_text p ++ reverse (names_view (path ++ t ∷ [])) ≡ map element_text (p ++ e ∷ []) ++ reverse (names_view path)
one_up p e t path is =
    ap (λ xs. map element_text p ++ reverse xs) (map-append string_bytes path (t ∷ []))
    ∙ ap (λ xs. map element_text p ++ xs) (reverse-append (names_view path) (string_bytes t ∷ []))
    ∙ ap (λ u. map element_text p ++ (u ∷ reverse (names_view path))) is
    ∙ sym (append_assoc (map element_text p) (element_text e ∷ []) (reverse (names_view path)))
    ∙ ap (λ xs. xs ++ reverse (names_view path)) (sym (map-append element_text p (e ∷ [])))

-- the fault of a place below
pub finds_below : (f g : Found) (e : Element) (t : String Global) (fs : Path → List FaultAt) → string_bytes t ≡ element_text e → g.misfit ≡ f.misfit
    → g.path.items ≡ f.path.items ++ t ∷ []
    → Finds (Some f) fs → Finds (Some g) (λ p. fs (p ++ e ∷ []))
finds_below f g e t fs is misfit path h p =
    ap Some (λ i. (misfit_view (misfit i), (ap (λ xs. map element_text p ++ reverse (names_view xs)) path ∙ one_up p e t f.path.items is) i))
    ∙ h (p ++ e ∷ [])

-- a fault of the place below itself
pub finds_child : (here below : Found) (m : Misfit) (e : Element) (t : String Global) → here.misfit ≡ m → here.path.items ≡ [] → string_bytes t ≡ element_text e
    → below.misfit ≡ here.misfit → below.path.items ≡ here.path.items ++ t ∷ [] → Finds (Some below) (λ p. fault_at (misfit_view m) (p ++ e ∷ []) ∷ [])
finds_child here below m e t misfit path is same more =
    finds_below here below e t (λ p. fault_at (misfit_view m) p ∷ []) is same more
    (breaks_here here m (λ p. fault_at (misfit_view m) p ∷ []) misfit path (λ p. refl))

-- the path the other way round
pub names_reversed : (path : List (String Global)) → names_view (reverse path) ≡ reverse (names_view path)
names_reversed [] = refl
names_reversed (t ∷ path) =
    ap names_view (reverse-append (t ∷ []) path) ∙ map-append string_bytes (reverse path) (t ∷ [])
    ∙ ap (λ xs. xs ++ string_bytes t ∷ []) (names_reversed path) ∙ sym (reverse-append (string_bytes t ∷ []) (names_view path))

-- where the first of some faults is that of others, what is found there is found here
pub finds_from : (o : Option Found) (whole part : Path → List FaultAt) → ((p : Path) → first_of (whole p) ≡ first_of (part p)) → Finds o part → Finds o whole
finds_from o whole part same h p = h p ∙ ap (option_map told) (sym (same p))

-- behind no fault, the first of the others is the first
pub none_first : (xs ys : List FaultAt) → None ≡ option_map told (first_of xs) → first_of (xs ++ ys) ≡ first_of ys
none_first [] ys e = refl
none_first (x ∷ xs) ys e = absurd (true≢false (sym (ap is_some e)))

-- where the first have no fault, the others decide
pub item_fits : (o : Option Found) (inner rest : Path → List FaultAt) → o ≡ None → Finds o inner → (p : Path) → first_of (inner p ++ rest p) ≡ first_of (rest p)
item_fits o inner rest is h p = none_first (inner p) (rest p) (subst (λ x. Finds x inner) is h p)

-- ---- whether there is a fault

-- nothing is found exactly where there is no fault
pub found-none : (o : Option Found) (fs : Path → List FaultAt) → Finds o fs → not (is_some o) ≡ is_none (fs [])
found-none None fs h = by (fs []) (h [])
  where
    by : (xs : List FaultAt) → None ≡ option_map told (first_of xs) → true ≡ is_none xs
    by [] e = refl
    by (x ∷ xs) e = absurd (none-some (told x) e)
found-none (Some f) fs h = by (fs []) (h [])
  where
    by : (xs : List FaultAt) → Some (found_at [] f) ≡ option_map told (first_of xs) → false ≡ is_none xs
    by [] e = absurd (none-some (found_at [] f) (sym e))
    by (x ∷ xs) e = refl
