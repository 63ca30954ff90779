-- Texts of lists, item by item, and that each item is of the program.
use Rattle.std.proofs.Common.{◌≡◌, ℕ, ◌+◌, ◌<◌, ◌≤◌, List, [], ◌∷◌, ◌++◌, Bool, true, take, drop, length, get_or, refl, sym, ap, subst, ◌∙◌, take_all}
use Rattle.std.proofs.lemmas.Bool.{and_parts, and_from}
use Rattle.std.proofs.lemmas.List.{take_more}
use Rattle.ssa_model.specs.definitions.Json.{Text, Json, list, Items, no_items, item, comma_if, compact}
use Rattle.ssa_model.specs.definitions.Replies.{items_json}
pub use Rattle.ssa_model.proofs.ItemTexts.{appended, items_json-map, joined, list-written, rest_text}
use Rattle.ssa_model.proofs.ItemTexts.{rest_text-more}
use Rattle.ssa_json.specs.Writable.{IsOfProgram, has_utf8, has_rising_names, items_have_utf8, items_have_rising_names}
use Rattle.ssa_json.specs.Written.{is_narrow, items_narrow}
use Rattle.ssa_json.proofs.Printing as one

module _ {X : Type 0} (f : X → Json) where
  -- one item more is written
  pub item-written : (whole before after_comma after : Text) (later : Bool) (xs : List X) (i : ℕ) (x : X) → i < length xs → x ≡ get_or xs i x
      → before ++ rest_text f later xs i ≡ whole → after_comma ≡ before ++ comma_if later → after ≡ after_comma ++ compact (f x)
      → after ++ rest_text f true xs (i + 1) ≡ whole
  item-written whole before after_comma after later xs i x within is so_far comma here =
      one.item-written before later (f x) (items_json f (drop (i + 1) xs)) comma here
      ∙ ap (λ t. before ++ t) (sym (rest_text-more f later xs i x within is))
      ∙ so_far

-- ---- of the program

-- a list without items is of the program
pub none-of-program : IsOfProgram (list no_items)
none-of-program = record { narrow = refl; texts = refl; names = refl }

-- with an item in front a list is of the program where the item and the list are
pub item-of-program : (v : Json) (vs : Items) → IsOfProgram v → IsOfProgram (list vs) → IsOfProgram (list (item v vs))
item-of-program v vs here rest = record {
  narrow = and_from (is_narrow v) (items_narrow vs) here.narrow rest.narrow;
  texts = and_from (has_utf8 v) (items_have_utf8 vs) here.texts rest.texts;
  names = and_from (has_rising_names v) (items_have_rising_names vs) here.names rest.names;
}

-- the first item is of the program, and so are the others
pub items-of-program : (v : Json) (vs : Items) → IsOfProgram (list (item v vs)) → IsOfProgram v × IsOfProgram (list vs)
items-of-program v vs all =
    let narrow = and_parts (is_narrow v) (items_narrow vs) all.narrow in
    let texts = and_parts (has_utf8 v) (items_have_utf8 vs) all.texts in
    let names = and_parts (has_rising_names v) (items_have_rising_names vs) all.names in
    (record { narrow = narrow.0; texts = texts.0; names = names.0 }, record { narrow = narrow.1; texts = texts.1; names = names.1 })

module _ {X : Type 0} (f : X → Json) where
  -- items and others behind them are of the program where both are
  pub both-of-program : (xs ys : List X) → IsOfProgram (list (items_json f xs)) → IsOfProgram (list (items_json f ys)) → IsOfProgram (list (items_json f (xs ++ ys)))
  both-of-program [] ys own others = others
  both-of-program (x ∷ xs) ys own others =
      let parts = items-of-program (f x) (items_json f xs) own in
      item-of-program (f x) (items_json f (xs ++ ys)) parts.0 (both-of-program xs ys parts.1 others)

  -- with the next item, the items so far are of the program
  pub more-of-program : (xs : List X) (i : ℕ) (x : X) → i < length xs → x ≡ get_or xs i x → IsOfProgram (list (items_json f (take i xs)))
      → IsOfProgram (f x) → IsOfProgram (list (items_json f (take (i + 1) xs)))
  more-of-program xs i x within is before here =
      subst (λ ys. IsOfProgram (list (items_json f ys))) (sym (take_more xs i x within ∙ ap (λ y. take i xs ++ y ∷ []) (sym is)))
      (both-of-program (take i xs) (x ∷ []) before (item-of-program (f x) no_items here none-of-program))

  -- where all items are of the program, the list is
  pub all-of-program : (xs : List X) (i : ℕ) → length xs ≤ i → IsOfProgram (list (items_json f (take i xs))) → IsOfProgram (list (items_json f xs))
  all-of-program xs i past = subst (λ ys. IsOfProgram (list (items_json f ys))) (take_all i xs past)
