-- A call that stops, told by other words.
use Rattle.std.specs.Prelude.{◌⊎◌}
use Rattle.std.proofs.Common.{◌≡◌, ℕ, inl, inr}
use Rattle.ssa_program.specs.Outcome.{Outcome, IsMade}
use Rattle.ssa_program.specs.Stops.{StopsBy, IsNoFault, IsUnchanged, IsUnloaded, IsUnmade, IsUnsaved}
use Rattle.ssa_program.specs.Trouble.{IsNamed}
use Rattle.ssa_disk.specs.Files.{Files, Standing}
use Rattle.ssa_model.specs.definitions.Json.{Text}
use Rattle.ssa_program.specs.declared.trouble.Trouble.{Trouble}
use Rattle.ssa_program.specs.declared.trouble.Trouble.TheVariants.{CannotRead, CannotWrite, NoPlainFile, OwnSource, DraftIsThere, Load, File, BenchTooLong, OutOfMemory, SessionBroken, CannotPrint, SavedUnprinted}

pub stops : (A B S C D E T F : Type 0) → (A → D) → (B → E) → (S → T) → (C → F) → (t : Trouble) → StopsBy A B S C t → StopsBy D E T F t
stops A B S C D E T F before reply saved session (CannotRead n) s = before s
stops A B S C D E T F before reply saved session (CannotWrite n) s = before s
stops A B S C D E T F before reply saved session (NoPlainFile n) s = before s
stops A B S C D E T F before reply saved session (OwnSource n) s = before s
stops A B S C D E T F before reply saved session (DraftIsThere draft n) s = before s
stops A B S C D E T F before reply saved session (Load f) s = before s
stops A B S C D E T F before reply saved session (File f) s = before s
stops A B S C D E T F before reply saved session BenchTooLong s = before s
stops A B S C D E T F before reply saved session OutOfMemory s = before s
stops A B S C D E T F before reply saved session SessionBroken s = session s
stops A B S C D E T F before reply saved session CannotPrint s = reply s
stops A B S C D E T F before reply saved session (SavedUnprinted n) s = saved s

pub unloaded : (s : Standing) (t : Trouble) → IsNoFault t → IsUnloaded s t
unloaded s (CannotRead n) is = is
unloaded s (CannotWrite n) is = is
unloaded s (NoPlainFile n) is = is
unloaded s (OwnSource n) is = is
unloaded s (DraftIsThere draft n) is = is
unloaded s (Load f) is = absurd is
unloaded s (File f) is = is
unloaded s BenchTooLong is = is
unloaded s OutOfMemory is = is
unloaded s SessionBroken is = is
unloaded s CannotPrint is = is
unloaded s (SavedUnprinted n) is = is

-- the bench that is not saved is that of an outcome
pub unchanged_unsaved : (s : Standing) (Is : Outcome → Type 0) (o : Outcome) → Is o → (t : Trouble) → IsUnsaved o.saved t → IsUnchanged s Is t
unchanged_unsaved s Is o come (CannotRead n) is = is
unchanged_unsaved s Is o come (CannotWrite n) is = is
unchanged_unsaved s Is o come (NoPlainFile n) is = is
unchanged_unsaved s Is o come (OwnSource n) is = is
unchanged_unsaved s Is o come (DraftIsThere draft n) is = is
unchanged_unsaved s Is o come (Load f) is = absurd is
unchanged_unsaved s Is o come (File f) is = is
unchanged_unsaved s Is o come BenchTooLong is = record { outcome = o; is = come; too_long = is }
unchanged_unsaved s Is o come OutOfMemory is = is
unchanged_unsaved s Is o come SessionBroken is = is
unchanged_unsaved s Is o come CannotPrint is = is
unchanged_unsaved s Is o come (SavedUnprinted n) is = is

pub unmade_unsaved : (files : Files) (schema object : Text) (depth : ℕ) (o : Outcome) → IsMade files schema object depth o
    → (t : Trouble) → IsUnsaved o.saved t → IsUnmade files schema object depth t
unmade_unsaved files schema object depth o come (CannotRead n) is = is
unmade_unsaved files schema object depth o come (CannotWrite n) is = is
unmade_unsaved files schema object depth o come (NoPlainFile n) is = is
unmade_unsaved files schema object depth o come (OwnSource n) is = is
unmade_unsaved files schema object depth o come (DraftIsThere draft n) is = is
unmade_unsaved files schema object depth o come (Load f) is = is
unmade_unsaved files schema object depth o come (File f) is = absurd is
unmade_unsaved files schema object depth o come BenchTooLong is = record { outcome = o; is = come; too_long = is }
unmade_unsaved files schema object depth o come OutOfMemory is = is
unmade_unsaved files schema object depth o come SessionBroken is = is
unmade_unsaved files schema object depth o come CannotPrint is = is
unmade_unsaved files schema object depth o come (SavedUnprinted n) is = is

one_of : (A : Type 0) → A ⊎ (A ⊎ A) → A
one_of A (inl a) = a
one_of A (inr (inl a)) = a
one_of A (inr (inr a)) = a

-- where the bench's name alone is told, other names may be told too
pub named_more : (bench one other : Text) (t : Trouble) → IsNamed bench bench bench t → IsNamed bench one other t
named_more bench one other (CannotRead n) is = inl (one_of (n.now ≡ bench) is)
named_more bench one other (CannotWrite n) is = is
named_more bench one other (NoPlainFile n) is = is
named_more bench one other (OwnSource n) is = is
named_more bench one other (DraftIsThere draft n) is = is
named_more bench one other (Load f) is = is
named_more bench one other (File f) is = is
named_more bench one other BenchTooLong is = is
named_more bench one other OutOfMemory is = is
named_more bench one other SessionBroken is = is
named_more bench one other CannotPrint is = is
named_more bench one other (SavedUnprinted n) is = is
