-- What a record of gained and lost paths says of the sets before and after it.
use mathlib.Core.Path.{ap}
use Rattle.std.specs.Prelude.{◌≡◌, List, Bool, true, false, ◌&&◌}
use Rattle.ssa_model.specs.definitions.Path.{Path}
use Rattle.ssa_model.specs.definitions.PathMap.{PathSet, has, listed, minus, union, paths as set_paths}
use Rattle.ssa_path.specs.Trie.{is_trie, paths}
use Rattle.ssa_turn_set.specs.declared.turn.SetDelta.{SetDelta}
use Rattle.ssa_turn_set.specs.Room.{gain_room, lose_room}

-- the gained and the lost paths
pub record SetSteps : Type 0 where
  pub gain : PathSet
  pub lose : PathSet

abbrev pub set_target : SetSteps → PathSet → PathSet
set_target d s = union (minus s d.lose) d.gain

-- the set lacks what is gained and has what is lost
pub record SetFits (d : SetSteps) (s : PathSet) : Type 0 where
  pub lacks : (p : Path) → has d.gain p ≡ true → has s p ≡ false
  pub has_lost : (p : Path) → has d.lose p ≡ true → has s p ≡ true

pub record SetTakes (d : SetSteps) (s t : PathSet) : Type 0 where
  pub fits : SetFits d s
  pub leads : set_target d s ≡ t

-- the way back
abbrev pub set_back : SetSteps → SetSteps
set_back d = record { gain = d.lose; lose = d.gain }

abbrev pub set_between : PathSet → PathSet → SetSteps
set_between s t = record { gain = minus t s; lose = minus s t }

-- ---- of the program's records

abbrev pub set_steps : SetDelta → SetSteps
set_steps d = record { gain = listed (paths d.gain); lose = listed (paths d.lose) }

-- enough for both ways, where this is the set without what is lost and gained
abbrev pub holds_room : SetDelta → List Path → Bool
holds_room d ps = gain_room d.gain ps d.room.gain && lose_room d.lose ps d.room.lose

-- enough for the turn of a set
abbrev pub has_set_room : SetDelta → PathSet → Bool
has_set_room d s = holds_room d (set_paths (minus s (listed (paths d.lose))))

-- ---- the laws

abbrev pub TargetIsFixed : Type 0
TargetIsFixed = (d : SetSteps) (s t : PathSet) → SetTakes d s t → set_target d s ≡ t

abbrev pub StepsAreFixed : Type 0
StepsAreFixed = (c d : SetSteps) (s t : PathSet) → SetTakes c s t → SetTakes d s t → (c.gain ≡ d.gain) × (c.lose ≡ d.lose)

abbrev pub LeadsBack : Type 0
LeadsBack = (d : SetSteps) (s t : PathSet) → SetTakes d s t → SetTakes (set_back d) t s

-- between any two sets there is a record
abbrev pub SetsAreLed : Type 0
SetsAreLed = (s t : PathSet) → SetTakes (set_between s t) s t

-- the record's room, all of it empty, serves one turn of the set
pub record HasRoom (d : SetDelta) (s : PathSet) : Type 0 where
  pub gain_trie : is_trie d.gain ≡ true
  pub lose_trie : is_trie d.lose ≡ true
  pub room : has_set_room d s ≡ true

-- the steps lead from s to t, and turned from t to s
pub record IsLed (d : SetSteps) (s t : PathSet) : Type 0 where
  pub fits : SetFits d s
  pub leads : set_target d s ≡ t
  pub fits_back : SetFits (set_back d) t
  pub leads_back : set_target (set_back d) t ≡ s
  pub between : d ≡ set_between s t

pub led_back : (d : SetSteps) (s t : PathSet) → IsLed d s t → IsLed (set_back d) t s
led_back d s t h = record { fits = h.fits_back; leads = h.leads_back; fits_back = h.fits; leads_back = h.leads; between = ap set_back h.between }

-- the record leads from s to t, with room
pub record IsBetween (s t : PathSet) (d : SetDelta) : Type 0 where
  pub led : IsLed (set_steps d) s (set_target (set_steps d) s)
  pub leads : set_target (set_steps d) s ≡ t
  pub room : HasRoom d s
