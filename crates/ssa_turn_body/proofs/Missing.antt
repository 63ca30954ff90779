-- Children whose places are not told, found one after the other.
use Rattle.std.proofs.Common.{◌≡◌, ℕ, zero, suc, ◌+◌, ◌<◌, List, [], ◌∷◌, length, get_or, take, ◌++◌, true, false, Option, Some, None, refl, sym, ap, ◌∙◌, arith, true≢false}
use Rattle.std.specs.Prelude.{is_some}
use Rattle.std.proofs.lemmas.List.{take_more, length-append, length-take-le}
use Rattle.ssa_model.specs.definitions.Path.{Element}
use Rattle.ssa_path.specs.Children.{elements}
use Rattle.ssa_path.specs.View.{element_view}
use Rattle.ssa_turn_body.specs.Found.{nones, fresh}
use Rattle.ssa_turn_body.specs.Marks.{Child}
use Rattle.ssa_typed.proofs.Building.{elements-push}

abbrev Found : Type 0
Found = List (Option ℕ)

nones-push-none : (fs : Found) (k n : ℕ) → n ≡ k + length fs → nones k (fs ++ None ∷ []) ≡ nones k fs ++ n ∷ []
nones-push-none [] k n e = let same : k ≡ n = omega arith in ap (λ j. j ∷ []) same
nones-push-none (None ∷ fs) k n e = ap (λ xs. k ∷ xs) (nones-push-none fs (k + 1) n (omega arith))
nones-push-none (Some j ∷ fs) k n e = nones-push-none fs (k + 1) n (omega arith)

nones-push-some : (fs : Found) (k j : ℕ) → nones k (fs ++ Some j ∷ []) ≡ nones k fs
nones-push-some [] k j = refl
nones-push-some (None ∷ fs) k j = ap (λ xs. k ∷ xs) (nones-push-some fs (k + 1) j)
nones-push-some (Some i ∷ fs) k j = nones-push-some fs (k + 1) j

fresh-push-none : (fs : Found) (es : List Element) (e : Element) → length es ≡ length fs → fresh (fs ++ None ∷ []) (es ++ e ∷ []) ≡ fresh fs es ++ e ∷ []
fresh-push-none [] [] e l = refl
fresh-push-none [] (x ∷ es) e l = absurd (omega (arith, l))
fresh-push-none (f ∷ fs) [] e l = absurd (omega (arith, l))
fresh-push-none (None ∷ fs) (x ∷ es) e l = ap (λ xs. x ∷ xs) (fresh-push-none fs es e (omega (arith, l)))
fresh-push-none (Some j ∷ fs) (x ∷ es) e l = fresh-push-none fs es e (omega (arith, l))

fresh-push-some : (fs : Found) (es : List Element) (e : Element) (j : ℕ) → length es ≡ length fs → fresh (fs ++ Some j ∷ []) (es ++ e ∷ []) ≡ fresh fs es
fresh-push-some [] [] e j l = refl
fresh-push-some [] (x ∷ es) e j l = absurd (omega (arith, l))
fresh-push-some (f ∷ fs) [] e j l = absurd (omega (arith, l))
fresh-push-some (None ∷ fs) (x ∷ es) e j l = ap (λ xs. x ∷ xs) (fresh-push-some fs es e j (omega (arith, l)))
fresh-push-some (Some i ∷ fs) (x ∷ es) e j l = fresh-push-some fs es e j (omega (arith, l))

-- there are as many elements as children
pub length-elements : (cs : List Child) → length (elements cs) ≡ length cs
length-elements [] = refl
length-elements (c ∷ cs) = ap suc (length-elements cs)

module _ (fs : Found) (cs : List Child) (i : ℕ) (c : Child) (lt : i < length fs) (long : length fs ≡ length cs) (is : c ≡ get_or cs i c) where
  heads-long : length (elements (take i cs)) ≡ length (take i fs)
  heads-long = length-elements (take i cs) ∙ length-take-le i cs (omega arith) ∙ sym (length-take-le i fs (omega arith))

  elements-more : elements (take (i + 1) cs) ≡ elements (take i cs) ++ element_view c.0 ∷ []
  elements-more = ap elements (take_more cs i c (omega arith) ∙ ap (λ x. take i cs ++ x ∷ []) (sym is)) ∙ elements-push (take i cs) c

  -- a child whose place is not told adds its number
  pub missing-place : is_some (get_or fs i None) ≡ false → nones 0 (take (i + 1) fs) ≡ nones 0 (take i fs) ++ i ∷ []
  missing-place none =
      let long_take = length-take-le i fs (omega arith) in
      ap (nones 0) (take_more fs i None lt) ∙ by (get_or fs i None) none (omega arith)
    where
      by : (f : Option ℕ) → is_some f ≡ false → i ≡ 0 + length (take i fs) → nones 0 (take i fs ++ f ∷ []) ≡ nones 0 (take i fs) ++ i ∷ []
      by None e l = nones-push-none (take i fs) 0 i l
      by (Some k) e l = absurd (true≢false e)

  -- a child whose place is not told adds its element
  pub missing-element : is_some (get_or fs i None) ≡ false → fresh (take (i + 1) fs) (elements (take (i + 1) cs)) ≡ fresh (take i fs) (elements (take i cs))
      ++ element_view c.0 ∷ []
  missing-element none = (λ t. fresh (take_more fs i None lt t) (elements-more t)) ∙ by (get_or fs i None) none
    where
      by : (f : Option ℕ) → is_some f ≡ false → fresh (take i fs ++ f ∷ []) (elements (take i cs) ++ element_view c.0 ∷ [])
          ≡ fresh (take i fs) (elements (take i cs)) ++ element_view c.0 ∷ []
      by None e = fresh-push-none (take i fs) (elements (take i cs)) (element_view c.0) heads-long
      by (Some k) e = absurd (true≢false e)

  -- a child whose place is told adds no element
  pub present-element : is_some (get_or fs i None) ≡ true → fresh (take (i + 1) fs) (elements (take (i + 1) cs)) ≡ fresh (take i fs) (elements (take i cs))
  present-element some = (λ t. fresh (take_more fs i None lt t) (elements-more t)) ∙ by (get_or fs i None) some
    where
      by : (f : Option ℕ) → is_some f ≡ true → fresh (take i fs ++ f ∷ []) (elements (take i cs) ++ element_view c.0 ∷ [])
          ≡ fresh (take i fs) (elements (take i cs))
      by None e = absurd (true≢false (sym e))
      by (Some k) e = fresh-push-some (take i fs) (elements (take i cs)) (element_view c.0) k heads-long

-- a child whose place is told adds no number
pub present-place : (fs : Found) (i : ℕ) → i < length fs → is_some (get_or fs i None) ≡ true → nones 0 (take (i + 1) fs) ≡ nones 0 (take i fs)
present-place fs i lt some = ap (nones 0) (take_more fs i None lt) ∙ by (get_or fs i None) some
  where
    by : (f : Option ℕ) → is_some f ≡ true → nones 0 (take i fs ++ f ∷ []) ≡ nones 0 (take i fs)
    by None e = absurd (true≢false (sym e))
    by (Some k) e = nones-push-some (take i fs) 0 k

-- a child whose place is not told is one more
pub counted-missing : (fs : Found) (i : ℕ) → i < length fs → is_some (get_or fs i None) ≡ false → length (nones 0 (take (i + 1) fs)) ≡ length (nones 0 (take i fs)) + 1
counted-missing fs i lt none =
    let long_take = length-take-le i fs (omega arith) in
    ap (λ xs. length (nones 0 xs)) (take_more fs i None lt) ∙ by (get_or fs i None) none (omega arith)
  where
    by : (f : Option ℕ) → is_some f ≡ false → i ≡ 0 + length (take i fs) → length (nones 0 (take i fs ++ f ∷ [])) ≡ length (nones 0 (take i fs)) + 1
    by None e l = ap length (nones-push-none (take i fs) 0 i l) ∙ length-append (nones 0 (take i fs)) (i ∷ [])
    by (Some k) e l = absurd (true≢false e)

-- what is read stands there, whatever is read past the end
pub get-again : (cs : List Child) (i : ℕ) (d e : Child) → i < length cs → get_or cs i e ≡ get_or cs i d
get-again [] i d e lt = absurd (omega arith)
get-again (c ∷ cs) zero d e lt = refl
get-again (c ∷ cs) (suc i) d e lt = get-again cs i d e (omega arith)

-- a place that is told is read where it stands
pub as-some : (fs : Found) (i k : ℕ) → i < length fs → get_or fs i None ≡ Some k → Some k ≡ get_or fs i (Some k)
as-some [] i k lt e = absurd (omega arith)
as-some (f ∷ fs) zero k lt e = sym e
as-some (f ∷ fs) (suc i) k lt e = as-some fs i k (omega arith) e
