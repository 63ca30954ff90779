-- Members put in one after another.
use Rattle.std.specs.Prelude.{◌≡◌, List, [], ◌∷◌, ◌++◌, String, string_bytes}
use Rattle.std.specs.declared.alloc.Global.{Global}
use Rattle.json.specs.Token.{Token, string}
use Rattle.ssa_model.specs.definitions.Json as model
use Rattle.ssa_model.specs.definitions.Json.{Text, Members}
use Rattle.ssa_model.specs.definitions.Objects.{with_member}
use Rattle.ssa_json.specs.View.{view}
use Rattle.ssa_json.specs.declared.value.Json.{Json}

-- the members with each pair put among them in turn: of those of one name the last one stays
abbrev pub put_in_turn : List (String Global × Json) → Members → Members
put_in_turn [] ms = ms
put_in_turn (p ∷ ps) ms = put_in_turn ps (with_member (string_bytes p.0) (view p.1) ms)

-- one pair more stands behind the old ones, of this name and with the text that the token is
abbrev pub PushesText : Text → Token → List (String Global × Json) → List (String Global × Json) → Type 0
PushesText name token old new = (pair : String Global × Json) × (new ≡ old ++ pair ∷ []) × (string_bytes pair.0 ≡ name)
    × (text : Text) × (token ≡ string text) × (view pair.1 ≡ model.scalar (model.text text))
