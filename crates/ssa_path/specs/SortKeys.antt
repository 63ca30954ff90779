-- Numbers that mostly tell how the elements of one list stand, each of the next bytes of a text.
use Rattle.std.specs.Prelude.{◌≡◌, ◌<◌, ◌≤◌, ℕ, zero, suc, ◌+◌, ◌*◌, [], ◌∷◌, length, get_or, take, drop, Bool, not, ◌&&◌, ◌==◌, nat_lt, Option, Some, None, if◌then◌else◌}
use Rattle.ssa_model.specs.definitions.Json.{Text, Scalar, text, whole, truth, same_text}
use Rattle.ssa_model.specs.definitions.Path.{Element, key, value}
use Rattle.ssa_path.specs.Keys.{Members}

-- ---- the text that an element's own text has first

abbrev pub text_in : Scalar → Option Text
text_in (text t) = Some t
text_in (whole z) = None
text_in (truth b) = None

-- the text of the first key field, where both have the same name there
abbrev pub leading_key : Members → Members → Option Text
leading_key [] _ = None
leading_key (k ∷ ks) [] = None
leading_key (k ∷ ks) (l ∷ ls) = if same_text k.0 l.0 then text_in l.1 else None

-- the text that stands first in the second element's text, where the first element's text begins with the same bytes
abbrev pub leading_text : Element → Element → Option Text
leading_text (value s) (value t) = text_in t
leading_text (key ks) (key ls) = leading_key ks ls
leading_text _ _ = None

-- the numbers of a text are bytes
abbrev pub AreBytes : Text → Type 0
AreBytes t = (k : ℕ) → get_or t k 0 < 256

-- its leading text begins with these bytes
pub record BeginsWith (start : Text) (first e : Element) : Type 0 where
  pub all : Text
  pub leads : leading_text first e ≡ Some all
  pub same : take (length start) all ≡ start
  pub bytes : AreBytes all

-- this is what the bytes and the element's leading text both begin with
pub record IsShared (start : Text) (first e : Element) (shared : Text) : Type 0 where
  pub count : ℕ
  pub within : count ≤ length start
  pub is : shared ≡ take count start
  pub begins : BeginsWith shared first e

-- ---- the number of the next eight bytes

-- the byte stands for itself in quotes
abbrev pub is_plain : ℕ → Bool
is_plain b = not (b == 34) && (not (b == 92) && not (nat_lt b 32))

-- what comes next in quotes: a plain byte, the slash of an escape, or the closing quote
abbrev pub next_byte : Text → ℕ
next_byte [] = 34
next_byte (b ∷ bs) = if is_plain b then b else 92

-- what stands behind it; what an escape tells is left out
abbrev pub next_rest : Text → Text
next_rest [] = []
next_rest (b ∷ bs) = if is_plain b then bs else []

-- the number with so many of the next bytes behind it
abbrev pub key_from : ℕ → ℕ → Text → ℕ
key_from zero n t = n
key_from (suc k) n t = key_from k (n * 256 + next_byte t) (next_rest t)

abbrev pub sort_key : ℕ → Text → ℕ
sort_key skip t = key_from 8 0 (drop skip t)

abbrev pub text_key : ℕ → Option Text → ℕ
text_key skip None = 0
text_key skip (Some t) = sort_key skip t

-- the number of an element whose leading text is like that of the first, behind so many bytes
abbrev pub element_key : Element → ℕ → Element → ℕ
element_key first skip e = text_key skip (leading_text first e)
