-- The elements that texts spell.
use Rattle.std.proofs.Common.{◌≡◌, ℕ, List, [], ◌∷◌, ◌++◌, true, false, cond, Some, None, Option, Ok, String, Global, string_bytes, string_cmp, refl, sym, ap, ◌∙◌, arith, append_assoc, append-nil}
use Rattle.std.specs.Prelude.{◌==◌, option_map}
use Rattle.std.specs.Borrow.{Bor}
use Rattle.std.specs.Option.{MatchOption}
use Rattle.std.specs.Ordering.{is_lt, nat_cmp}
use Rattle.std.specs.Cmp.Lexicographic.{slice_cmp}
use Rattle.std.specs.Str.Pattern.{FindsTextPrefix, StripsPrefix}
use Rattle.std.specs.List.Sorted.{IsStrictlySortedBy}
use Rattle.std.specs.Map as maps
use Rattle.std.proofs.lemmas.Bool.{eqb-true, and_from}
use Rattle.std.proofs.lemmas.Bool.Decides.{nat_tests}
use Rattle.ssa_model.specs.definitions.Json as model
use Rattle.ssa_model.specs.definitions.Json.{Text, scalar, list, object, no_members, member}
use Rattle.ssa_model.specs.definitions.Path.{key}
use Rattle.ssa_model.specs.definitions.ElementTexts.{after_beginning, add_key, key_of, key_element}
use Rattle.ssa_json.specs.View.{view, members_view}
use Rattle.ssa_json.specs.declared.value.Json.{Json}
use Rattle.ssa_path.specs.Keys.{Members, names_rise_after, are_keys, keys_of}
use Rattle.ssa_path.specs.ElementReading.{as_scalar}

-- ---- beginnings

lacks : (p s : Text) → ((rest : Text) → s ≡ p ++ rest → ⊥) → after_beginning p s ≡ None
lacks [] s h = absurd (h s refl)
lacks (b ∷ p) [] h = refl
lacks (b ∷ p) (c ∷ s) h =
    elim (b == c) as (λ t. (b == c) ≡ t → cond t (after_beginning p s) None ≡ None) [
      | true ↦ λ e. lacks p s (λ rest is. h rest (λ i. sym (eqb-true b c e) i ∷ is i))
      | false ↦ λ _. refl
    ] refl

same-nat : (b : ℕ) → (b == b) ≡ true
same-nat b = grind (arith, nat_tests)

begins : (p rest : Text) → after_beginning p (p ++ rest) ≡ Some rest
begins [] rest = refl
begins (b ∷ p) rest = rw (same-nat b) (begins p rest)

-- what `strip_prefix` answers
pub stripped : (p s : Text) (r : Option (Bor Text)) → MatchOption r (FindsTextPrefix p s None) (λ x. StripsPrefix (FindsTextPrefix p) s x.now)
    → option_map (λ x. x.now) r ≡ after_beginning p s
stripped p s None h = sym (lacks p s h)
stripped p s (Some x) h = sym (ap (after_beginning p) (h.1.1 ∙ ap (λ t. p ++ t) (sym h.2)) ∙ begins p x.now)

-- ---- members that are scalars

-- the keys so far, in front of those of the members that are left
abbrev pub with_keys : Members → Option Members → Option Members
with_keys front rest = option_map (λ ks. front ++ ks) rest

-- where no member is left, the keys so far are all
pub with_keys-all : (front : Members) → with_keys front (Some []) ≡ Some front
with_keys-all front = ap Some (append-nil front)

add_key-scalar : (n : Text) (v : model.Json) (s : model.Scalar) (o : Option Members) → as_scalar v ≡ Some s → add_key n v o ≡ option_map (λ ks. (n, s) ∷ ks) o
add_key-scalar n (scalar t) s o e = let same : t ≡ s = cc in ap (λ u. option_map (λ ks. (n, u) ∷ ks) o) same
add_key-scalar n (list vs) s o e = cc
add_key-scalar n (object ms) s o e = cc

moved : (front : Members) (m : Text × model.Scalar) (o : Option Members) → with_keys front (option_map (λ ks. m ∷ ks) o) ≡ with_keys (front ++ m ∷ []) o
moved front m None = refl
moved front m (Some ks) = ap Some (sym (append_assoc front (m ∷ []) ks))

-- one member more is a scalar
pub with_keys-more : (front : Members) (n : Text) (v : model.Json) (s : model.Scalar) (ms : model.Members) → as_scalar v ≡ Some s
    → with_keys front (key_of (member n v ms)) ≡ with_keys (front ++ (n, s) ∷ []) (key_of ms)
with_keys-more front n v s ms e = ap (with_keys front) (add_key-scalar n v s (key_of ms) e) ∙ moved front (n, s) (key_of ms)

-- ---- the names of a map's members rise

-- the first key is the first member's
record IsAdded (n : Text) (o : Option Members) (ks : Members) : Type 0 where
  value : model.Scalar
  rest : Members
  keys : ks ≡ (n, value) ∷ rest
  others : o ≡ Some rest

added : (n : Text) (v : model.Json) (o : Option Members) (ks : Members) → add_key n v o ≡ Some ks → IsAdded n o ks
added n (scalar s) (Some rest) ks e = record { value = s; rest = rest; keys = cc; others = refl }
added n (scalar s) None ks e = cc
added n (list vs) o ks e = cc
added n (object ms) o ks e = cc

rise-after : (e : String Global × Json) (es : List (String Global × Json)) (ks : Members) → IsStrictlySortedBy string_cmp (maps.keys_of (e ∷ es))
    → key_of (members_view es) ≡ Some ks → names_rise_after (string_bytes e.0) ks ≡ true
unfolding IsStrictlySortedBy
rise-after e [] ks h is = let none : [] ≡ ks = cc in ap (names_rise_after (string_bytes e.0)) (sym none)
rise-after e (f ∷ es) ks h is =
    let a = added (string_bytes f.0) (view f.1) (key_of (members_view es)) ks is in
    ap (names_rise_after (string_bytes e.0)) a.keys
    ∙ and_from (is_lt (slice_cmp nat_cmp (string_bytes e.0) (string_bytes f.0))) (names_rise_after (string_bytes f.0) a.rest) (ap is_lt h.0.0)
    (rise-after f es a.rest h.1 a.others)

-- the scalars of a map are keys where there is one
pub key_element-sorted : (es : List (String Global × Json)) (ks : Members) → IsStrictlySortedBy string_cmp (maps.keys_of es)
    → key_of (members_view es) ≡ Some ks
    → option_map key (keys_of ks) ≡ key_element (Ok (object (members_view es)))
unfolding IsStrictlySortedBy
key_element-sorted [] ks h is = let none : [] ≡ ks = cc in ap (λ l. option_map key (keys_of l)) (sym none)
key_element-sorted (e ∷ es) ks h is =
    let a = added (string_bytes e.0) (view e.1) (key_of (members_view es)) ks is in
    let rise : are_keys ks ≡ true = ap are_keys a.keys ∙ rise-after e es a.rest h a.others in
    ap (λ b. option_map key (cond b (Some ks) None)) rise ∙ sym (ap (option_map key) is)
