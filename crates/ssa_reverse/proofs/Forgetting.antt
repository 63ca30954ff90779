-- Records that fit one after the other fit without the last of them.
use Rattle.std.proofs.Common.{List, [], ◌∷◌, ◌++◌, subst}
use Rattle.std.proofs.lemmas.List.{reverse-append}
use Rattle.std.specs.Prelude.{drop, map, reverse}
use Rattle.ssa_reverse.specs.Timeline.{AllFit}

module _ {D V L : Type 0} (fits : D → V → Type 0) (leads : D → V → V) where
  -- those that stand first fit by themselves
  all-fit-first : (rs ss : List (D × L)) (v : V) → AllFit fits leads (rs ++ ss) v → AllFit fits leads rs v
  all-fit-first [] ss v h = tt
  all-fit-first (r ∷ rs) ss v h = (h.0, all-fit-first rs ss (leads r.0 v) h.1)

  -- the records back fit without the oldest, which stands first in their list
  pub fit-without-oldest : {B : Type 0} (record_of : B → D × L) (xs : List B) (v : V) → AllFit fits leads (reverse (map record_of xs)) v
      → AllFit fits leads (reverse (map record_of (drop 1 xs))) v
  fit-without-oldest record_of [] v h = h
  fit-without-oldest record_of (x ∷ xs) v h =
      all-fit-first (reverse (map record_of xs)) (reverse (record_of x ∷ [])) v
      (subst (λ rs. AllFit fits leads rs v) (reverse-append (record_of x ∷ []) (map record_of xs)) h)
