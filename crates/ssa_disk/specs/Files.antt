-- What stands on a disk under which names, and what a step leaves as it was.
use Rattle.std.specs.Prelude.{◌≡◌, ◌≢◌, ◌++◌, ℕ, Option, Some, None, take, codes}
use Rattle.ssa_model.specs.definitions.Json.{Text}

-- what stands at a place
pub data Standing : Type 0 where
  nothing : Standing
  -- a plain file of these bytes, all of which the device has
  file : Text → Standing
  -- a folder, a device, a link that leads nowhere, or a file that is being written
  other : Standing

-- The files of a disk. A name leads to a place, by links or not, and other names may lead there too.
pub record Files : Type 0 where
  -- the name itself, or where it is a link, the name of what it leads to
  pub own : Text → Text
  pub place : Text → Text
  pub at : Text → Standing

-- what stands under a name
abbrev pub under : Files → Text → Standing
under files name = files.at (files.place name)

-- the name of the draft beside the file that a name leads to
abbrev pub draft_of : Files → Text → Text
draft_of files name = files.own name ++ codes ".new"

-- Each name leads where it did, and what stands at each place but that of this name is as before.
pub record IsAsBut (name : Text) (old new : Files) : Type 0 where
  pub own : new.own ≡ old.own
  pub place : new.place ≡ old.place
  pub others : (p : Text) → p ≢ old.place name → new.at p ≡ old.at p

-- the same with two names
pub record IsAsButTwo (name second : Text) (old new : Files) : Type 0 where
  pub own : new.own ≡ old.own
  pub place : new.place ≡ old.place
  pub others : (p : Text) → p ≢ old.place name → p ≢ old.place second → new.at p ≡ old.at p

-- the first bytes of what stands there are left to be read
abbrev pub IsOpened : Standing → ℕ → Option Text → Type 0
IsOpened nothing most left = ⊥
IsOpened (file c) most left = left ≡ Some (take most c)
IsOpened other most left = Unit {0}

-- a plain file was found, or nothing
abbrev pub IsFound : {F : Type 0} → Standing → Option F → Type 0
IsFound nothing found = found ≡ None
IsFound (file c) found = found ≢ None
IsFound other found = ⊥

-- what is said of a disk that tells nothing
abbrev pub untold : Files
untold = record { own = λ name. name; place = λ name. name; at = λ _. nothing }
