-- The texts of key fields, member by member.
use Rattle.std.proofs.Common.{◌≡◌, ℕ, ◌+◌, ◌<◌, ◌≤◌, List, [], ◌∷◌, ◌++◌, Bool, true, drop, length, get_or, sym, ap, ◌∙◌, append_assoc}
use Rattle.std.proofs.lemmas.List.{drop_all, map-append}
use Rattle.ssa_members.specs.Texts.{text_bytes}
use Rattle.ssa_members.specs.declared.small_text.SmallText.{SmallText}
use Rattle.ssa_model.specs.definitions.Json.{Text, comma_if, quoted, scalar_text}
use Rattle.ssa_json.specs.declared.value.Scalar.{Scalar}
use Rattle.ssa_json.specs.View.{scalar_view}
use Rattle.ssa_path.specs.Keys.{members_view}
use Rattle.ssa_path.proofs.Members.{keys_text, member-at, length-members}

-- key fields as the program holds them
abbrev pub Fields : Type 0
Fields = List (SmallText × Scalar)

-- one field goes last
pub pushed : (found : Fields) (name : SmallText) (scalar : Scalar) (now : Fields) → now ≡ found ++ (name, scalar) ∷ []
    → members_view found ++ (text_bytes name, scalar_view scalar) ∷ [] ≡ members_view now
pushed found name scalar now is = sym (map-append (λ m. (text_bytes m.0, scalar_view m.1)) found ((name, scalar) ∷ [])) ∙ ap members_view (sym is)

-- the text of the members from the i-th on, with the closing bracket
abbrev pub text_from : Bool → Fields → ℕ → Text
text_from later ks i = keys_text later (drop i (members_view ks))

-- a member as it is appended
abbrev pub member_piece : Bool → SmallText × Scalar → Text
member_piece later k = comma_if later ++ (quoted (text_bytes k.0) ++ 58 ∷ scalar_text (scalar_view k.1))

split-piece : (comma name value rest : Text) → comma ++ (name ++ 58 ∷ (value ++ rest)) ≡ (comma ++ (name ++ 58 ∷ value)) ++ rest
split-piece comma name value rest =
    ap (λ t. comma ++ t) (sym (append_assoc name (58 ∷ value) rest)) ∙ sym (append_assoc comma (name ++ 58 ∷ value) rest)

pub text_from-more : (later : Bool) (ks : Fields) (i : ℕ) (k : SmallText × Scalar) → i < length ks → k ≡ get_or ks i k
    → text_from later ks i ≡ member_piece later k ++ text_from true ks (i + 1)
text_from-more later ks i k within is =
    ap (keys_text later) (member-at ks i k within is)
    ∙ split-piece (comma_if later) (quoted (text_bytes k.0)) (scalar_text (scalar_view k.1)) (text_from true ks (i + 1))

-- one member more is written
pub member-written : (whole before after : Text) (later : Bool) (ks : Fields) (i : ℕ) (k : SmallText × Scalar) → i < length ks → k ≡ get_or ks i k
    → before ++ text_from later ks i ≡ whole → after ≡ before ++ member_piece later k → after ++ text_from true ks (i + 1) ≡ whole
member-written whole before after later ks i k within is so_far here =
    ap (λ t. t ++ text_from true ks (i + 1)) here
    ∙ append_assoc before (member_piece later k) (text_from true ks (i + 1))
    ∙ ap (λ t. before ++ t) (sym (text_from-more later ks i k within is))
    ∙ so_far

none-left : (ks : Fields) (i : ℕ) → length ks ≤ i → drop i (members_view ks) ≡ []
none-left ks i past = drop_all i (members_view ks) (rw (length-members ks) past)
