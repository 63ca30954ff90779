-- Children are exchanged just where those of both places stand in another order.
use Rattle.std.proofs.Common.{◌≡◌, ℕ, zero, suc, ◌+◌, ◌<◌, List, [], ◌∷◌, length, get_or, drop, map, Bool, true, false, not, ◌||◌, Option, Some, None, refl, sym, ap, subst, ◌∙◌, arith, true≢false}
use Rattle.std.specs.List.{list_any, range_with_len}
use Rattle.std.specs.Prelude.{slice_get}
use Rattle.std.proofs.lemmas.List.FromFn.{fill_by_all}
use Rattle.std.proofs.lemmas.Option.{none-some, same_Some}
use Rattle.ssa_model.specs.definitions.Path.{Element, field, same_element}
use Rattle.ssa_model.specs.definitions.Record.{are_in_one_order, common}
use Rattle.ssa_model.proofs.Tests.{pointwise-true, same_tests}
use Rattle.ssa_path.specs.Children.{elements}
use Rattle.ssa_path.specs.View.{element_view}
use Rattle.ssa_path.proofs.Orders.{both_first, both_second}
use Rattle.ssa_typed.specs.Rows.{are_apart}
use Rattle.ssa_turn_body.specs.Found.{AreBelow, AreFound, AreLed, IsTurnedRound, filled, kept, somes}
use Rattle.ssa_turn_body.specs.Marks.{Child}
use Rattle.ssa_turn_body.specs.Orders.{is_none, reordered}
use Rattle.ssa_turn_body.proofs.Descending.{child-here}
use Rattle.ssa_turn_body.proofs.Knowing.{kept-known, known-back, known-found}
use Rattle.ssa_turn_body.proofs.Matching.{found-below, kept-filled, kept-led}
use Rattle.ssa_turn_body.proofs.Missing.{length-elements}
use Rattle.ssa_turn_body.proofs.Saying.{elements-themselves}
use Rattle.ssa_model.proofs.Tables.{element-itself as same_element-itself}
use Rattle.ssa_model.proofs.Fitting.{same_element-true}
use Rattle.ssa_model.proofs.Basics.{not_true}
use Rattle.ssa_turn_body.proofs.EditSays.{head_or}

abbrev Found : Type 0
Found = List (Option ℕ)

-- ---- elements that differ

abbrev no_element : Element
no_element = field []

any-there : (es : List Element) (j : ℕ) → j < length es → list_any (same_element (get_or es j no_element)) es ≡ true
any-there [] j lt = absurd (omega arith)
any-there (e ∷ es) zero lt = ap (λ b. b || list_any (same_element e) es) (same_element-itself e)
any-there (e ∷ es) (suc j) lt =
    ap (λ b. same_element (get_or es j no_element) e || b) (any-there es j (omega arith)) ∙ or_true (same_element (get_or es j no_element) e)
  where
    or_true : (b : Bool) → (b || true) ≡ true
    or_true true = refl
    or_true false = refl

other-later : (e : Element) (es : List Element) (j : ℕ) → j < length es → are_apart (e ∷ es) ≡ true → e ≡ get_or es j no_element → ⊥
other-later e es j lt apart is =
    true≢false (sym (ap (λ x. list_any (same_element x) es) is ∙ any-there es j lt) ∙ not_true _ (both_first (not (list_any (same_element e) es)) _ apart))

one-place : (es : List Element) (i j : ℕ) → i < length es → j < length es → are_apart es ≡ true → get_or es i no_element ≡ get_or es j no_element → i ≡ j
one-place [] i j il jl apart is = absurd (omega (arith, il))
one-place (e ∷ es) zero zero il jl apart is = refl
one-place (e ∷ es) zero (suc j) il jl apart is = absurd (other-later e es j (omega (arith, jl)) apart is)
one-place (e ∷ es) (suc i) zero il jl apart is = absurd (other-later e es i (omega (arith, il)) apart (sym is))
one-place (e ∷ es) (suc i) (suc j) il jl apart is =
    ap suc (one-place es i j (omega (arith, il)) (omega (arith, jl)) (both_second (not (list_any (same_element e) es)) _ apart) is)

-- ---- what stays in its order stays at its place

filled-range : (g : ℕ → Element) (n k : ℕ) (bs : Found) (xs : List Element) (os : List ℕ) → ((i j : ℕ) → i < n → j < n → g i ≡ g j → i ≡ j) → k + length bs ≡ n
    → xs ≡ map g (range_with_len k (length bs)) → AreBelow n os → kept bs xs ≡ map g os
    → filled k bs os ≡ range_with_len k (length bs)
filled-range g n k [] xs os inj long is below e = refl
filled-range g n k (None ∷ bs) xs os inj long is below e =
    ap (λ ys. k ∷ ys) (filled-range g n (k + 1) bs (map g (range_with_len (k + 1) (length bs))) os inj (omega (arith, long)) refl below
    (ap (kept (None ∷ bs)) (sym is) ∙ e))
filled-range g n k (Some j ∷ bs) xs [] inj long is below e = absurd (omega (arith, ap length (ap (kept (Some j ∷ bs)) (sym is) ∙ e)))
filled-range g n k (Some j ∷ bs) xs (o ∷ os) inj long is below e =
    let both : (g k ∷ kept bs (map g (range_with_len (k + 1) (length bs)))) ≡ (g o ∷ map g os) = ap (kept (Some j ∷ bs)) (sym is) ∙ e in
    let same : k ≡ o = inj k o (omega (arith, long)) below.0 (ap (head_or (g k)) both) in
    (λ i. sym same i ∷ filled-range g n (k + 1) bs (map g (range_with_len (k + 1) (length bs))) os inj (omega (arith, long)) refl below.1
    (ap (λ ys. drop 1 ys) both) i)

-- ---- the children of both places

get-elements : (cs : List Child) (k : ℕ) (c : Child) → slice_get cs k ≡ Some c → slice_get (elements cs) k ≡ Some (element_view c.0)
get-elements [] k c e = absurd (none-some c e)
get-elements (x ∷ cs) zero c e = ap (λ (y : Child). Some (element_view y.0)) (same_Some x c e)
get-elements (x ∷ cs) (suc k) c e = get-elements cs k c e

led-elements : (cs ds : List Child) (fs : Found) → AreFound cs ds fs → AreLed fs (elements cs) (elements ds)
led-elements cs [] [] h = tt
led-elements cs [] (f ∷ fs) h = absurd h
led-elements cs (d ∷ ds) [] h = absurd h
led-elements cs (d ∷ ds) (None ∷ fs) h = led-elements cs ds fs h.1
led-elements cs (d ∷ ds) (Some k ∷ fs) h =
    let at = child-here (element_view d.0) cs k h.0 in
    (get-elements cs k at.child at.here ∙ ap Some (sym (same_element-true (element_view d.0) (element_view at.child.0) at.same)), led-elements cs ds fs h.1)

module _ (cs ds : List Child) (fs back : Found) (before : List (ℕ × ℕ)) (apart : are_apart (elements cs) ≡ true) (found : AreFound cs ds fs)
    (turned : IsTurnedRound (length cs) fs back)
    (order : reordered (range_with_len 0 (length back)) before ≡ filled 0 back (somes fs))
    (exact : filled 0 back (somes fs) ≡ range_with_len 0 (length back) → before ≡ []) where
  abbrev at : ℕ → Element
  at k = get_or (elements cs) k no_element

  long : length (elements cs) ≡ length back
  long = length-elements cs ∙ sym turned.long

  all : elements cs ≡ map at (range_with_len 0 (length back))
  all = fill_by_all at (elements cs) (length back) no_element long (λ k lt. refl)

  of-first : kept back (elements cs) ≡ common (elements cs) (elements ds)
  of-first = kept-known back (elements cs) (elements ds) (known-back cs ds fs back apart found turned)

  of-second : map at (somes fs) ≡ common (elements ds) (elements cs)
  of-second =
      kept-led fs (elements cs) (elements ds) no_element (led-elements cs ds fs found) ∙ kept-known fs (elements ds) (elements cs) (known-found cs ds fs found)

  none-one : before ≡ [] → common (elements cs) (elements ds) ≡ common (elements ds) (elements cs)
  none-one none =
      sym of-first
      ∙ ap (kept back) (all ∙ ap (map at) (ap (reordered (range_with_len 0 (length back))) (sym none) ∙ order))
      ∙ kept-filled at back 0 (somes fs) turned.count ∙ of-second

  one-none : common (elements cs) (elements ds) ≡ common (elements ds) (elements cs) → before ≡ []
  one-none same =
      let within : AreBelow (length (elements cs)) (somes fs) = subst (λ n. AreBelow n (somes fs)) (sym (length-elements cs)) (found-below cs ds fs found) in
      exact (filled-range at (length (elements cs)) 0 back (elements cs) (somes fs) (injective) (omega (arith, long)) all within
      (of-first ∙ same ∙ sym of-second))
    where
      injective : (i j : ℕ) → i < length (elements cs) → j < length (elements cs) → at i ≡ at j → i ≡ j
      injective i j il jl is = one-place (elements cs) i j il jl apart is

  -- nothing is exchanged just where the common children stand in one order
  pub one-order : is_none before ≡ are_in_one_order (elements cs) (elements ds)
  one-order =
      same_tests (is_none before) (are_in_one_order (elements cs) (elements ds))
      (λ t. ap (λ (es : List Element). Rattle.std.specs.Cmp.Lexicographic.pointwise same_element (common (elements cs) (elements ds)) es)
      (sym (none-one (none-is before t))) ∙ elements-themselves (common (elements cs) (elements ds)))
      (λ t. ap is_none (one-none (pointwise-true same_element same_element-true (common (elements cs) (elements ds)) (common (elements ds) (elements cs)) t)))
    where
      none-is : {X : Type 0} (xs : List X) → is_none xs ≡ true → xs ≡ []
      none-is [] e = refl
      none-is (x ∷ xs) e = absurd (true≢false (sym e))
