-- Reading a path, text by text.
use Rattle.std.proofs.Common.{◌≡◌, ℕ, List, ◌∷◌, ◌++◌, true, drop, refl, sym, true≢false}
use Rattle.std.specs.Prelude.{Option, Some, None, Result, Ok, Err, is_some, option_and_then, option_map}
use Rattle.ssa_model.specs.definitions.Json.{Text, text, whole, truth, Json, scalar, list, object, Items, item, as_text}
use Rattle.ssa_model.specs.definitions.Values.{texts_of}
use Rattle.ssa_model.specs.definitions.Path.{Path}
use Rattle.ssa_model.specs.definitions.ElementTexts.{ElementFault, path_of}
use Rattle.ssa_json.specs.Reading.{json_reading}
use Rattle.ssa_json.specs.View.{items_view}
use Rattle.ssa_json.specs.declared.value.Json as values
use Rattle.ssa_told.specs.PathTexts.{given_texts, texts_or_none}

-- the path of a beginning that is read and of what is left
abbrev pub behind : Path → Result Path ElementFault → Result Path ElementFault
behind es r = elim r [ Ok p ↦ Ok (es ++ p) | Err f ↦ Err f ]

-- all that is left are texts, and the path is what is read and they
abbrev pub IsSoFar : List values.Json → Path → ℕ → Type 0
IsSoFar ts es i =
    (is_some (texts_of (items_view (drop i ts))) ≡ true)
    × (path_of json_reading (given_texts (items_view ts)) ≡ behind es (path_of json_reading (given_texts (items_view (drop i ts)))))

-- a text in front
more : (s : Text) (o : Option (List Text)) → is_some (option_and_then (λ t. option_map (λ ts. t ∷ ts) o) (Some s)) ≡ true
    → (is_some o ≡ true) × (texts_or_none (option_and_then (λ t. option_map (λ ts. t ∷ ts) o) (Some s)) ≡ s ∷ texts_or_none o)
more s None some = absurd (true≢false (sym some))
more s (Some ts) some = (refl, refl)

-- where all items are texts, the first is one
pub text-there : (v : Json) (vs : Items) → is_some (texts_of (item v vs)) ≡ true → as_text v ≡ None → ⊥
text-there (scalar (text s)) vs some none = cc
text-there (scalar (whole z)) vs some none = true≢false (sym some)
text-there (scalar (truth b)) vs some none = true≢false (sym some)
text-there (list ws) vs some none = true≢false (sym some)
text-there (object ms) vs some none = true≢false (sym some)
