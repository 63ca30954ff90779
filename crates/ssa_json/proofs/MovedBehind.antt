-- Lists of which the last elements wait until they are moved behind others.
use Rattle.std.proofs.Common.{◌≡◌, ℕ, ◌≤◌, List, [], ◌∷◌, ◌++◌, length, take, drop, sym, ap, ◌∙◌, arith}
use Rattle.std.proofs.lemmas.List.{append_assoc, length_push, take_all, take-append-le, drop_all, drop-append-le}

module _ {X : Type 0} (n : ℕ) (outer : List X) where
  -- those that were found, and behind them those that wait from a place on, are all; before it wait the outer ones
  abbrev pub Wait : List X → List X → List X → Type 0
  Wait found waiting all = (found ++ drop n waiting ≡ all) × (n ≤ length waiting) × (take n waiting ≡ outer)

  -- at first none wait but the outer ones
  pub none_wait : n ≡ length outer → (found : List X) → found ≡ [] → Wait found outer []
  none_wait e found none = (
    ap (λ xs. xs ++ drop n outer) none ∙ drop_all n outer (omega (arith, e)),
    omega (arith, e),
    take_all n outer (omega (arith, e)),
  )

  -- those that were found and those that wait behind them are together as before, and so are the outer ones
  pub still_wait : (found waiting all new rest : List X) → Wait found waiting all
      → new ++ drop n rest ≡ found ++ drop n waiting → n ≤ length rest → take n rest ≡ take n waiting → Wait new rest all
  still_wait found waiting all new rest wait e size f = (e ∙ wait.0, size, f ∙ wait.2)

  -- one more waits
  pub one_waits : (found waiting all new : List X) (x : X) → Wait found waiting all → new ≡ waiting ++ x ∷ [] → Wait found new (all ++ x ∷ [])
  one_waits found waiting all new x wait e = (
    ap (λ xs. found ++ drop n xs) e ∙ ap (λ xs. found ++ xs) (drop-append-le n waiting (x ∷ []) wait.1)
        ∙ sym (append_assoc found (drop n waiting) (x ∷ [])) ∙ ap (λ xs. xs ++ x ∷ []) wait.0,
    (let size = ap length e ∙ length_push waiting x in omega (arith, size, wait.1)),
    ap (take n) e ∙ take-append-le n waiting (x ∷ []) wait.1 ∙ wait.2,
  )
