-- The lines that tell why a call of the program does not come to its reply.
use Rattle.std.specs.Prelude.{◌≡◌, ◌<◌, length, [], ◌++◌, ◌⊎◌, codes, string_bytes}
use Rattle.ssa_model.specs.definitions.Json.{Text, compact}
use Rattle.ssa_model.specs.definitions.Limits.{most_bench_bytes}
use Rattle.ssa_model.specs.definitions.Faults.{bench_too_long}
use Rattle.ssa_model.specs.definitions.Replies.{fault_json}
use Rattle.ssa_model.specs.definitions.Session.{out_of_memory_text}
use Rattle.ssa_lines.specs.Loading.{load_code}
use Rattle.ssa_session.specs.Files.{IsTold}
use Rattle.ssa_program.specs.Names.{escaped, named_line}
use Rattle.ssa_program.specs.declared.status.Status.{Status}
use Rattle.ssa_program.specs.declared.status.Status.TheVariants.{Refused, Broken}
use Rattle.ssa_program.specs.declared.trouble.Trouble.{Trouble}
use Rattle.ssa_program.specs.declared.trouble.Trouble.TheVariants.{CannotRead, CannotWrite, NoPlainFile, OwnSource, DraftIsThere, Load, File, BenchTooLong, OutOfMemory, SessionBroken, CannotPrint, SavedUnprinted}

-- what is told where the draft beside the bench of this name is there
abbrev pub draft_line : Text → Text → Text
draft_line draft bench = (named_line (codes "ssabench: ") draft (codes " is there: another call is at work on ") ++ escaped bench)
    ++ codes ", or one broke off; if none is, remove it"

-- ---- troubles

-- What a trouble writes: a line where the replies stand, or one for a person. Where memory runs out while a line is made,
-- the line of want of memory stands in its place.
module _ (Replies Person : Text → Type 0) (Silent : Type 0) where
  abbrev pub Tells : Trouble → Type 0
  Tells (CannotRead name) = Person (named_line (codes "ssabench: cannot read ") name.now []) ⊎ Replies out_of_memory_text
  Tells (CannotWrite name) = Person (named_line (codes "ssabench: cannot write ") name.now []) ⊎ Replies out_of_memory_text
  Tells (NoPlainFile name) = Person (named_line (codes "ssabench: ") name.now (codes " is no plain file")) ⊎ Replies out_of_memory_text
  Tells (OwnSource name) = Person (named_line (codes "ssabench: ") name.now (codes " is the schema or the object itself")) ⊎ Replies out_of_memory_text
  Tells (DraftIsThere draft bench) = Person (draft_line (string_bytes draft) bench.now) ⊎ Replies out_of_memory_text
  Tells (Load f) = Replies (compact (fault_json (load_code f)))
  Tells (File f) = ((line : Text) × IsTold f line × Replies line) ⊎ Replies out_of_memory_text
  Tells BenchTooLong = Replies (compact (fault_json bench_too_long))
  Tells OutOfMemory = Replies out_of_memory_text
  Tells SessionBroken = Person (codes "ssabench: session ended unsaved")
  Tells CannotPrint = Silent
  Tells (SavedUnprinted name) = Person (named_line (codes "ssabench: ") name.now (codes " is saved, but the reply cannot be printed")) ⊎ Replies out_of_memory_text

-- A trouble tells the bench's name, or where a file cannot be read, that one's: the bench's, or one of two others.
abbrev pub IsNamed : Text → Text → Text → Trouble → Type 0
IsNamed bench one other (CannotRead n) = (n.now ≡ bench) ⊎ ((n.now ≡ one) ⊎ (n.now ≡ other))
IsNamed bench one other (CannotWrite n) = n.now ≡ bench
IsNamed bench one other (NoPlainFile n) = n.now ≡ bench
IsNamed bench one other (OwnSource n) = n.now ≡ bench
IsNamed bench one other (DraftIsThere draft n) = n.now ≡ bench
IsNamed bench one other (SavedUnprinted n) = n.now ≡ bench
IsNamed bench one other _ = Unit {0}

-- the trouble of reading the file of this name
abbrev pub IsReadTrouble : Text → Trouble → Type 0
IsReadTrouble name (CannotRead n) = n.now ≡ name
IsReadTrouble name OutOfMemory = Unit {0}
IsReadTrouble name _ = ⊥

-- of looking where the bench's name leads to
abbrev pub IsPlaceTrouble : Text → Trouble → Type 0
IsPlaceTrouble name (CannotRead n) = n.now ≡ name
IsPlaceTrouble name (NoPlainFile n) = n.now ≡ name
IsPlaceTrouble name OutOfMemory = Unit {0}
IsPlaceTrouble name _ = ⊥

-- of making the draft of the bench's file
abbrev pub IsDraftTrouble : Text → Trouble → Type 0
IsDraftTrouble name (CannotRead n) = n.now ≡ name
IsDraftTrouble name (CannotWrite n) = n.now ≡ name
IsDraftTrouble name (NoPlainFile n) = n.now ≡ name
IsDraftTrouble name (DraftIsThere draft n) = n.now ≡ name
IsDraftTrouble name OutOfMemory = Unit {0}
IsDraftTrouble name _ = ⊥

-- of loading the bench's file
abbrev pub IsLoadTrouble : Text → Trouble → Type 0
IsLoadTrouble name (CannotRead n) = n.now ≡ name
IsLoadTrouble name (Load f) = Unit {0}
IsLoadTrouble name OutOfMemory = Unit {0}
IsLoadTrouble name _ = ⊥

-- of saving this text as the bench's file
abbrev pub IsSaveTrouble : Text → Text → Trouble → Type 0
IsSaveTrouble name text (CannotWrite n) = n.now ≡ name
IsSaveTrouble name text BenchTooLong = most_bench_bytes < length text
IsSaveTrouble name text OutOfMemory = Unit {0}
IsSaveTrouble name text _ = ⊥

-- A refused file ends the program as a refusal does, and as a break where its line is not all told: where the device has failed, or the line
-- of want of memory stands in its place. Any other trouble ends it as a break.
abbrev pub EndsBy : Type 0 → Type 0 → Trouble → Status → Type 0
EndsBy Failed ToldWant (File f) s = (s ≡ Refused) ⊎ ((s ≡ Broken) × (Failed ⊎ ToldWant))
EndsBy Failed ToldWant _ s = s ≡ Broken
