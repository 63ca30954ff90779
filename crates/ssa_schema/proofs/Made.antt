-- Kinds and shapes made under names, one schema after another.
use Rattle.std.proofs.Common.{◌≡◌, List, [], ◌∷◌, ◌++◌, map, String, Global, string_bytes, refl, sym, ap, ap₂, ◌∙◌}
use Rattle.std.proofs.lemmas.List.{map-append}
use Rattle.ssa_members.specs.Members.{IsRising}
use Rattle.ssa_model.specs.definitions.Json.{Text, Json}
use Rattle.ssa_json.specs.View.{view}
use Rattle.ssa_json.proofs.Converting.{Found}
use Rattle.ssa_json.proofs.Ordered.{names, rising-by-names}

-- what was made under a name, and what is asked for there
abbrev pub named : {X M : Type 0} → (X → M) → String Global × X → Text × M
named seen m = (string_bytes m.0, seen m.1)

-- what is asked for under a member's name: what is read of its value
abbrev pub asked : {M : Type 0} → (Json → M) → Found → Text × M
asked read e = (string_bytes e.0, read (view e.1))

made_names : {X M : Type 0} (seen : X → M) (ms : List (String Global × X)) → map (λ (x : Text × M). x.0) (map (named seen) ms) ≡ names ms
made_names seen [] = refl
made_names seen (m ∷ ms) = ap (λ t. string_bytes m.0 ∷ t) (made_names seen ms)

asked_names : {M : Type 0} (read : Json → M) (es : List Found) → map (λ (x : Text × M). x.0) (map (asked read) es) ≡ names es
asked_names read [] = refl
asked_names read (e ∷ es) = ap (λ t. string_bytes e.0 ∷ t) (asked_names read es)

names-made : {X M : Type 0} (seen : X → M) (read : Json → M) (ms : List (String Global × X)) (es : List Found) → map (named seen) ms ≡ map (asked read) es
    → names ms ≡ names es
names-made {X} {M} seen read ms es same = sym (made_names seen ms) ∙ ap (map (λ (x : Text × M). x.0)) same ∙ asked_names read es

-- one more is made, and put behind those before
pub made-more : {X M : Type 0} (seen : X → M) (read : Json → M) (done : List Found) (e : Found) (found now : List (String Global × X)) (k : String Global) (x : X)
    → map (named seen) found ≡ map (asked read) done → now ≡ found ++ (k, x) ∷ [] → string_bytes k ≡ string_bytes e.0 → seen x ≡ read (view e.1)
    → map (named seen) now ≡ map (asked read) (done ++ e ∷ [])
made-more seen read done e found now k x same put key made =
    ap (map (named seen)) put
    ∙ map-append (named seen) found ((k, x) ∷ [])
    ∙ ap₂ (λ a b. a ++ b ∷ []) same (λ i. (key i, made i))
    ∙ sym (map-append (asked read) done (e ∷ []))

-- under names that rise, what is made rises
pub made-rises : {X M : Type 0} (seen : X → M) (read : Json → M) (ms : List (String Global × X)) (es : List Found) → map (named seen) ms ≡ map (asked read) es
    → IsRising es → IsRising ms
made-rises seen read ms es same = rising-by-names ms es (names-made seen read ms es same)
