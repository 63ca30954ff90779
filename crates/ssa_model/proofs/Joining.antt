-- Two orders joined, where the elements of both stand in one order in each, and how many elements of each are the other's.
use Rattle.std.proofs.Common.{◌≡◌, ℕ, suc, List, [], ◌∷◌, ◌++◌, length, Bool, true, false, not, ◌||◌, cond, refl, sym, ap, ◌∙◌}
use Rattle.std.specs.Prelude.{filter}
use Rattle.ssa_model.specs.definitions.Body.{joined, laid}
use Rattle.ssa_model.specs.definitions.Fitting.{are_distinct}
use Rattle.ssa_model.specs.definitions.Kind.{is_among}
use Rattle.ssa_model.specs.definitions.Path.{Element, same_element}
use Rattle.ssa_model.specs.definitions.Record.{are_in_one_order, common}
use Rattle.ssa_model.proofs.Basics.{not_true}
use Rattle.ssa_model.proofs.Fitting.{same_element-true}
use Rattle.ssa_model.proofs.Tests.{by_test, filter-dropped, filter-kept, pointwise-true, symmetric}
use Rattle.std.specs.Cmp.{first_so, second_so}

-- ---- the places of those that move, refilled

-- an element that stays keeps its place
pub laid-stays : (moves : Element → Bool) (e : Element) (es fs : List Element) → moves e ≡ false → laid moves (e ∷ es) fs ≡ e ∷ laid moves es fs
laid-stays moves e es [] h = ap (λ b. cond b (laid moves es []) (e ∷ laid moves es [])) h
laid-stays moves e es (f ∷ fs) h = ap (λ b. cond b (f ∷ laid moves es fs) (e ∷ laid moves es (f ∷ fs))) h

-- at the place of one that moves comes the next of these
pub laid-moves : (moves : Element → Bool) (e : Element) (es fs : List Element) (f : Element) → moves e ≡ true
    → laid moves (e ∷ es) (f ∷ fs) ≡ f ∷ laid moves es fs
laid-moves moves e es fs f h = ap (λ b. cond b (f ∷ laid moves es fs) (e ∷ laid moves es (f ∷ fs))) h

-- an order whose places are refilled by what stands there is as it was, and the rest stands behind it
laid-again : (moves : Element → Bool) (es rest : List Element) → laid moves es (filter moves es ++ rest) ≡ es ++ rest
laid-again moves [] rest = refl
laid-again moves (e ∷ es) rest =
    by_test (moves e)
    (λ t. ap (λ l. laid moves (e ∷ es) (l ++ rest)) (filter-kept moves e es t) ∙ laid-moves moves e es (filter moves es ++ rest) e t
    ∙ ap (λ l. e ∷ l) (laid-again moves es rest))
    (λ f. ap (λ l. laid moves (e ∷ es) (l ++ rest)) (filter-dropped moves e es f) ∙ laid-stays moves e es (filter moves es ++ rest) f
    ∙ ap (λ l. e ∷ l) (laid-again moves es rest))

-- where the elements of both stand in one order, the first order stays, and what the second alone has follows
pub joined-in-order : (es fs : List Element) → are_in_one_order es fs ≡ true → joined es fs ≡ es ++ filter (λ f. not (is_among f es)) fs
joined-in-order es fs h =
    ap (λ l. laid (λ e. is_among e fs) es (l ++ filter (λ f. not (is_among f es)) fs))
    (sym (pointwise-true same_element same_element-true (common es fs) (common fs es) h))
    ∙ laid-again (λ e. is_among e fs) es (filter (λ f. not (is_among f es)) fs)

-- ---- how many there are of both

-- nothing is among none
pub none-of : (fs : List Element) → filter (λ f. is_among f []) fs ≡ []
none-of [] = refl
none-of (f ∷ fs) = none-of fs

-- one more where this is so
abbrev more_if : Bool → ℕ → ℕ
more_if b n = cond b (suc n) n

more-front : (b : Bool) (f : Element) (fs : List Element) → length (cond b (f ∷ fs) fs) ≡ more_if b (length fs)
more-front true f fs = refl
more-front false f fs = refl

more-swap : (a b : Bool) (n : ℕ) → more_if a (more_if b n) ≡ more_if b (more_if a n)
more-swap true true n = refl
more-swap true false n = refl
more-swap false b n = refl

-- with an element more of the first order there is one more of both, where the second has it
one-more : (e : Element) (es fs : List Element) → are_distinct fs ≡ true → is_among e es ≡ false
    → length (filter (λ f. same_element f e || is_among f es) fs) ≡ more_if (is_among e fs) (length (filter (λ f. is_among f es) fs))
one-more e es [] h new = refl
one-more e es (f ∷ fs) h new =
    let apart : is_among f fs ≡ false = not_true (is_among f fs) (first_so (not (is_among f fs)) (are_distinct fs) h) in
    let rest = one-more e es fs (second_so (not (is_among f fs)) (are_distinct fs) h) new in
    let turn = symmetric same_element same_element-true f e in
    elim (same_element f e) as (λ b. same_element f e ≡ b
    → length (cond (b || is_among f es) (f ∷ filter (λ g. same_element g e || is_among g es) fs) (filter (λ g. same_element g e || is_among g es) fs))
    ≡ more_if (same_element e f || is_among e fs) (length (filter (λ g. is_among g es) (f ∷ fs)))) [
      | true ↦ λ s.
          let is = same_element-true f e s in
          let off : is_among e fs ≡ false = ap (λ x. is_among x fs) (sym is) ∙ apart in
          ap suc (rest ∙ ap (λ b. more_if b (length (filter (λ g. is_among g es) fs))) off)
          ∙ sym ((λ i. more_if ((sym turn ∙ s) i || is_among e fs) (length (cond ((ap (λ x. is_among x es) is ∙ new) i) (f ∷ filter (λ g. is_among g es) fs)
          (filter (λ g. is_among g es) fs)))))
      | false ↦ λ s.
          more-front (is_among f es) f (filter (λ g. same_element g e || is_among g es) fs)
          ∙ ap (more_if (is_among f es)) rest
          ∙ more-swap (is_among f es) (is_among e fs) (length (filter (λ g. is_among g es) fs))
          ∙ ap (more_if (is_among e fs)) (sym (more-front (is_among f es) f (filter (λ g. is_among g es) fs)))
          ∙ ap (λ b. more_if (b || is_among e fs) (length (filter (λ g. is_among g es) (f ∷ fs)))) (sym (sym turn ∙ s))
    ] refl

-- of two orders, as many elements of the first are among the second as the other way round
pub as-many : (es fs : List Element) → are_distinct es ≡ true → are_distinct fs ≡ true
    → length (filter (λ e. is_among e fs) es) ≡ length (filter (λ f. is_among f es) fs)
as-many [] fs h k = sym (ap length (none-of fs))
as-many (e ∷ es) fs h k =
    let new : is_among e es ≡ false = not_true (is_among e es) (first_so (not (is_among e es)) (are_distinct es) h) in
    more-front (is_among e fs) e (filter (λ d. is_among d fs) es)
    ∙ ap (more_if (is_among e fs)) (as-many es fs (second_so (not (is_among e es)) (are_distinct es) h) k)
    ∙ sym (one-more e es fs k new)
