-- Results that hand a fault on.
use Rattle.std.proofs.Common.{◌≡◌, Result, sym, subst}
use Rattle.std.specs.Result.{IfErr, IsErrAnd}
use Rattle.std.proofs.lemmas.Result.{err_from_is_err_and}

-- what is said of a fault is said of the result that hands it on
pub handed-on : {A F : Type 0} (r : Result A F) (f : F) (P : F → Type 0) → IsErrAnd r (λ g. g ≡ f) → P f → IfErr r P
handed-on r f P h p =
    let e = err_from_is_err_and r h in
    rw e.1 (subst P (sym e.2) p)
