-- A configuration put over a live body, of which some places go.
use Rattle.std.specs.Prelude.{◌≡◌, true, false, not}
use Rattle.ssa_model.specs.definitions.Body.{Body, over, restricted}
use Rattle.ssa_model.specs.definitions.Path.{Path, under}
use Rattle.ssa_model.specs.definitions.PathMap.{PathSet, has}

-- the configuration over the live body, without the places that go
abbrev pub applied : Body → Body → PathSet → Body
applied live config gone = restricted (over live config) (λ p. not (has gone p))

-- The configuration has none of the places that go, and with each of them goes all that the live body has below it.
pub record MayGo (live config : Body) (gone : PathSet) : Type 0 where
  pub kept : (p : Path) → has config p ≡ true → has gone p ≡ false
  pub whole : (p q : Path) → has gone p ≡ true → under p q ≡ true → has live q ≡ true → has gone q ≡ true
