-- What a call leaves on the disk.
use Rattle.std.specs.Prelude.{◌≡◌, Bool, true, Option, Some, None}
use Rattle.ssa_model.specs.definitions.Json.{Text}
use Rattle.ssa_disk.specs.Files.{Files, IsAsBut, IsAsButTwo, file, under, draft_of}

-- ---- by the names of the draft and of the file whose place it takes

-- the text stands in the file, and beside that and the draft all is as before
pub record IsPut (text draft place : Text) (old new : Files) : Type 0 where
  pub saved : under new place ≡ file text
  pub others : IsAsButTwo draft place old new

-- the text stands there where there is one, and the draft has taken the place; else all is as before beside the draft
abbrev pub IsKeptBy : Option Text → Bool → Text → Text → Files → Files → Type 0
IsKeptBy (Some text) placed draft place old new = (placed ≡ true) × IsPut text draft place old new
IsKeptBy None placed draft place old new = IsAsBut draft old new

-- ---- by the bench's name

-- The text stands in the bench's file where there is one to be saved. But for that file and its draft, all is as before.
abbrev pub IsKept : Option Text → Text → Files → Files → Type 0
IsKept (Some text) bench old new = IsPut text (draft_of old bench) bench old new
IsKept None bench old new = IsAsBut (draft_of old bench) old new
