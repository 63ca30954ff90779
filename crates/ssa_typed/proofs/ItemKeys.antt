-- The key fields of items that have them.
use Rattle.std.proofs.Common.{◌≡◌, List, [], ◌∷◌, map, true, ◌&&◌, refl, sym, ap, ◌∙◌, true≢false, is_some}
use Rattle.std.specs.Prelude.{Option, None, Some, if◌then◌else◌}
use Rattle.ssa_model.specs.definitions.Json.{Text, Json, Members, member_of}
use Rattle.ssa_model.specs.definitions.Kind.{Kind, Fields, kind_of, key_scalars, cons_scalar, key_faults, key_field_fault}
use Rattle.ssa_model.specs.definitions.Path.{Path}
use Rattle.ssa_model.proofs.Faults.{nil_first, nil_second}
use Rattle.ssa_model.proofs.FaultlessKeys.{key-field}
use Rattle.ssa_path.specs.Keys as keys
use Rattle.ssa_model.specs.definitions.Lawful.{are_key_names, names_rise_after}

abbrev first_names : keys.Members → List Text
first_names = map (λ k. k.0)

-- it is there, and a scalar
named-there : (n : Text) (k : Option Kind) (o : Option Json) (p : Path) (ks : keys.Members) → key_field_fault k o p ≡ []
    → first_names (cons_scalar n o ks) ≡ n ∷ first_names ks
named-there n k o p ks e = ap (λ x. first_names (cons_scalar n x ks)) (key-field k o p e).is_own

names-there : (ns : List Text) (fs : Fields) (ms : Members) (p : Path) → key_faults ns fs ms p ≡ [] → first_names (key_scalars ns ms) ≡ ns
names-there [] fs ms p e = refl
names-there (n ∷ ns) fs ms p e =
    named-there n (kind_of n fs) (member_of n ms) p (key_scalars ns ms) (nil_first _ _ e)
    ∙ ap (λ ts. n ∷ ts) (names-there ns fs ms p (nil_second (key_field_fault (kind_of n fs) (member_of n ms) p) _ e))

rise-names : (n : Text) (ks : keys.Members) → keys.names_rise_after n ks ≡ names_rise_after n (first_names ks)
rise-names n [] = refl
rise-names n (k ∷ ks) = ap (λ b. Rattle.std.specs.Ordering.is_lt (Rattle.std.specs.Cmp.Lexicographic.slice_cmp Rattle.std.specs.Ordering.nat_cmp n k.0) && b)
    (rise-names k.0 ks)

are_keys-names : (ks : keys.Members) → keys.are_keys ks ≡ are_key_names (first_names ks)
are_keys-names [] = refl
are_keys-names (k ∷ ks) = rise-names k.0 ks

-- the key fields of an item are keys
pub keys-there : (ns : List Text) (fs : Fields) (ms : Members) (p : Path) → are_key_names ns ≡ true → key_faults ns fs ms p ≡ []
    → keys.are_keys (key_scalars ns ms) ≡ true
keys-there ns fs ms p names e = are_keys-names (key_scalars ns ms) ∙ ap are_key_names (names-there ns fs ms p e) ∙ names

-- where a list's keys rise, the key fields of an item without key faults are not refused
pub keys-some : (ns : List Text) (fs : Fields) (ms : Members) (p : Path) → are_key_names ns ≡ true → key_faults ns fs ms p ≡ []
    → None ≡ keys.keys_of (key_scalars ns ms) → ⊥
keys-some ns fs ms p names e none =
    true≢false (sym (ap is_some (none ∙ ap (λ b. if b then Some (key_scalars ns ms) else None) (keys-there ns fs ms p names e))))
