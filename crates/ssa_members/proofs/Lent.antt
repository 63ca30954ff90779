-- Entries that are lent: the next one of a walk, and how deep its value is.
use Rattle.std.proofs.Common.{◌≡◌, ℕ, zero, suc, ◌+◌, ◌<◌, ◌≤◌, List, [], ◌∷◌, length, drop, get_or, ap, arith, subst, sym, ◌∙◌}
use Rattle.std.proofs.lemmas.List.{drop_more}
use Rattle.std.specs.Map.{values_of}
use Rattle.ssa_members.specs.Members.{Name}
use denote.Param.Weighed.{most}

pub within-deepest : {X : Type 0} (f : X → ℕ) (es : List (Name × X)) (i : ℕ) (d : Name × X) → i < length es → f (get_or es i d).1 ≤ most f (values_of es)
within-deepest f [] i d lt = absurd (omega arith)
within-deepest f (e ∷ es) zero d lt = omega arith
within-deepest f (e ∷ es) (suc i) d lt = let rest = within-deepest f es i d (omega arith) in omega (arith, rest)

-- an entry that stands at a place of what is lent has no deeper value
pub lent-within-deepest : {X : Type 0} (f : X → ℕ) (es lent : List (Name × X)) (i : ℕ) (e : Name × X) → lent ≡ es → i < length lent → e ≡ get_or lent i e
    → f e.1 ≤ most f (values_of es)
lent-within-deepest f es lent i e same lt is =
    subst (λ es. f e.1 ≤ most f (values_of es)) same (subst (λ d. f d.1 ≤ most f (values_of lent)) (sym is) (within-deepest f lent i e lt))

-- the entries from a place are that of the place and those behind it
pub next-lent : {E : Type 0} (lent : List E) (i : ℕ) (e : E) → i < length lent → e ≡ get_or lent i e → drop i lent ≡ e ∷ drop (i + 1) lent
next-lent lent i e lt is = drop_more lent i e lt ∙ ap (λ d. d ∷ drop (i + 1) lent) (sym is)
