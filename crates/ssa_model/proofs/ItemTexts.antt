-- Texts of lists, item by item.
use Rattle.std.proofs.Common.{◌≡◌, ℕ, ◌+◌, ◌<◌, ◌≤◌, List, [], ◌∷◌, ◌++◌, Bool, map, drop, length, get_or, refl, sym, ap, ◌∙◌, append_assoc}
use Rattle.std.specs.Prelude.{Result, Ok, Err, OnOk, is_ok, if◌then◌else◌}
use Rattle.std.proofs.lemmas.List.{drop_more, drop_all}
use Rattle.ssa_model.specs.definitions.Json.{Text, Json, item, compact_items}
use Rattle.ssa_model.specs.definitions.Replies.{items_json}

module _ {X : Type 0} (f : X → Json) where
  -- the text of the items from the i-th on, with the closing bracket
  abbrev pub rest_text : Bool → List X → ℕ → Text
  rest_text later xs i = compact_items later (items_json f (drop i xs))

  -- behind the last item there is the closing bracket alone
  pub rest_text-all : (later : Bool) (xs : List X) (i : ℕ) → length xs ≤ i → rest_text later xs i ≡ 93 ∷ []
  rest_text-all later xs i past = ap (λ ys. compact_items later (items_json f ys)) (drop_all i xs past)

  -- before that there is the next item
  pub rest_text-more : (later : Bool) (xs : List X) (i : ℕ) (x : X) → i < length xs → x ≡ get_or xs i x
      → rest_text later xs i ≡ compact_items later (item (f x) (items_json f (drop (i + 1) xs)))
  rest_text-more later xs i x within is =
      ap (λ ys. compact_items later (items_json f ys)) (drop_more xs i x within ∙ ap (λ y. y ∷ drop (i + 1) xs) (sym is))

  -- all items are written, and the bracket
  pub list-written : (whole before after : Text) (later : Bool) (xs : List X) (i : ℕ) → length xs ≤ i → before ++ rest_text later xs i ≡ whole
      → after ≡ before ++ 93 ∷ [] → after ≡ whole
  list-written whole before after later xs i past so_far bracket = bracket ∙ ap (λ t. before ++ t) (sym (rest_text-all later xs i past)) ∙ so_far

-- items made by one function after another are made of the items that the first makes
pub items_json-map : {X Y : Type 0} (f : Y → Json) (g : X → Y) (xs : List X) → items_json (λ x. f (g x)) xs ≡ items_json f (map g xs)
items_json-map f g [] = refl
items_json-map f g (x ∷ xs) = ap (item (f (g x))) (items_json-map f g xs)

-- a text that, where all went well, goes on with a piece goes on with an equal one
pub appended : {T E : Type 0} (r : Result T E) (new old xs ys : Text) → new ≡ (if is_ok r then old ++ xs else old) → xs ≡ ys → OnOk r (new ≡ old ++ ys)
appended (Ok x) new old xs ys is same = is ∙ ap (λ t. old ++ t) same
appended (Err e) new old xs ys is same = tt

-- one piece, and then others
pub joined : (old : Text) {mid new : Text} (xs ys : Text) → mid ≡ old ++ xs → new ≡ mid ++ ys → new ≡ old ++ (xs ++ ys)
joined old xs ys first others = others ∙ ap (λ t. t ++ ys) first ∙ append_assoc old xs ys
