-- What a person is told while a session lasts.
use Rattle.std.specs.Prelude.{◌≡◌, ◌++◌, ◌∷◌, [], ◌⊎◌, Bool, true, false, Option, codes}
use Rattle.std.proofs.Common.{refl, sym, ◌∙◌, subst, inl, inr}
use Rattle.ssa_model.specs.definitions.Json.{Text}
use Rattle.ssa_model.specs.definitions.Lines.{line_feed}
use Rattle.ssa_words.specs.declared.call.Call.{Call}
use Rattle.ssa_words.specs.declared.call.Call.TheVariants.{Session}
use Rattle.ssa_program.specs.Names.{named_line}
use Rattle.ssa_program.specs.Telling.{IsTold}
use Rattle.ssa_program.specs.declared.watch.LengthWatch.{LengthWatch}

-- that the bench of this name has become longer than a file may be
abbrev pub too_long_line : Text → Text
too_long_line bench = named_line (codes "ssabench: ") bench
    (codes " would have more than 67108864 bytes: as it stands, this session will not be saved")

-- The device for people, before and after.
module _ {E : Type 0} (told : E → Option Text) (is_deaf : E → Bool) where
  -- nothing is told, or once that line
  abbrev pub IsWarned : E → E → Text → Type 0
  IsWarned old new bench = (new ≡ old) ⊎ IsTold told is_deaf old new (too_long_line bench ++ line_feed ∷ [])

  -- before a call's own end, a session alone tells something
  abbrev pub IsBegun : E → E → Call → Type 0
  IsBegun old new (Session bench) = IsWarned old new bench.now
  IsBegun old new _ = new ≡ old

  -- The watch holds the same device and name. It tells nothing, or its line where it has not told it before.
  pub record GoesOn (u v : LengthWatch E) : Type 0 where
    pub device : v.errors.ghost_name ≡ u.errors.ghost_name
    pub name : v.name ≡ u.name
    pub says : ((v.errors.now ≡ u.errors.now) × (v.is_told ≡ u.is_told))
        ⊎ ((u.is_told ≡ false) × ((v.is_told ≡ true) × IsTold told is_deaf u.errors.now v.errors.now (too_long_line u.name.now ++ line_feed ∷ [])))

  pub stays : (u : LengthWatch E) → GoesOn u u
  stays u = record { device = refl; name = refl; says = inl (refl, refl) }

  pub goes_on : (u v w : LengthWatch E) → GoesOn u v → GoesOn v w → GoesOn u w
  goes_on u v w a b = record { device = b.device ∙ a.device; name = b.name ∙ a.name; says = by a.says b.says }
    where
      by : ((v.errors.now ≡ u.errors.now) × (v.is_told ≡ u.is_told))
          ⊎ ((u.is_told ≡ false) × ((v.is_told ≡ true) × IsTold told is_deaf u.errors.now v.errors.now (too_long_line u.name.now ++ line_feed ∷ [])))
          → ((w.errors.now ≡ v.errors.now) × (w.is_told ≡ v.is_told))
          ⊎ ((v.is_told ≡ false) × ((w.is_told ≡ true) × IsTold told is_deaf v.errors.now w.errors.now (too_long_line v.name.now ++ line_feed ∷ [])))
          → ((w.errors.now ≡ u.errors.now) × (w.is_told ≡ u.is_told))
          ⊎ ((u.is_told ≡ false) × ((w.is_told ≡ true) × IsTold told is_deaf u.errors.now w.errors.now (too_long_line u.name.now ++ line_feed ∷ [])))
      by (inl (e, t)) (inl (f, s)) = inl (f ∙ e, s ∙ t)
      by (inl (e, t)) (inr (n, (y, line))) = inr (
        sym t ∙ n,
        (
          y,
          subst (λ k. IsTold told is_deaf u.errors.now w.errors.now (too_long_line k.now ++ line_feed ∷ [])) a.name
              (subst (λ d. IsTold told is_deaf d w.errors.now (too_long_line v.name.now ++ line_feed ∷ [])) e line),
        ),
      )
      by (inr (n, (y, line))) (inl (f, s)) = inr (
        n,
        (
          s ∙ y,
          subst (λ d. IsTold told is_deaf u.errors.now d (too_long_line u.name.now ++ line_feed ∷ [])) (sym f) line,
        ),
      )
      by (inr (n, (y, line))) (inr (m, rest)) = cc
