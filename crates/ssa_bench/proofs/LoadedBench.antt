-- What was read of a bench file so far, and what is known of the whole where all of it was read or its next line is refused.
use Rattle.std.proofs.Common.{◌≡◌, ◌-◌, ℕ, List, Option, Some, None, option_map, refl, sym, ap, subst, ◌∙◌}
use Rattle.std.proofs.lemmas.Option.{none-some}
use Rattle.std.specs.Prelude.{Result, Ok, Err}
use Rattle.ssa_model.specs.definitions.Limits.{most_bench_bytes}
use Rattle.ssa_model.specs.definitions.Json.{Json}
use Rattle.ssa_model.specs.definitions.Schema.{Schema}
use Rattle.ssa_model.specs.definitions.History.{Bench, appended, preceded}
use Rattle.ssa_model.specs.definitions.BenchFile.{IsValidBench}
use Rattle.ssa_model.specs.definitions.RecordedBench.{HasReadHistory}
use Rattle.ssa_model.specs.definitions.BenchOfStates.{schema_in}
use Rattle.ssa_model.specs.definitions.BenchOfFile as formats
use Rattle.ssa_model.specs.definitions.BenchOfFile.{file_head, file_bench_in}
use Rattle.ssa_model.specs.definitions.BenchFaults.{file_fault, MoveFault, no_move_text, record_does_not_fit}
use Rattle.ssa_model.specs.laws.Formats.{FilesAreTaken, TakenIsFile}
use Rattle.ssa_model.specs.definitions.NextLines.{Next, at_end, next_value, no_value, value_then}
use Rattle.ssa_model.specs.laws.LineByLine.{FilesAreRead, Reader, after_part, after_value, along, at_last, at_place, ended_with, file_from, later_from, moves_from, on_from, rest_from, shown_in, steps_from, with_part}
use Rattle.ssa_model.specs.definitions.BenchOfRecords.{Counts}
use Rattle.ssa_json.specs.Readings.{readings}
use Rattle.ssa_file.specs.Heads.{place_view}
use Rattle.ssa_file.specs.declared.head.StatePlace.{StatePlace}
use Rattle.ssa_lines.specs.declared.loading.LoadFault.{LoadFault}
use Rattle.ssa_lines.specs.declared.loading.LoadFault.TheVariants.{BenchText, RecordDoesNotFit, Io, OutOfMemory}
use Rattle.ssa_bench.specs.Loading.{IsRefused, Loads, ReadRefuses, ReadsAlong, ReadsAll, ReadsEnd, ReadsMoves, ReadsOn, ReadsPart, ReadsSteps, Walk}

-- what is read of all bytes from here is what this reader reads of those that are left
abbrev pub ReachedFrom : Reader → ℕ → Option (List ℕ) → Option (List ℕ) → ℕ → Reader → Type 0
ReachedFrom start most None now room reader = Unit {0}
ReachedFrom start most (Some xs) None room reader = ⊥
ReachedFrom start most (Some xs) (Some ys) room reader = start xs most ≡ reader ys room

-- so much of a bench's file is read
abbrev pub Reached : Option (List ℕ) → Option (List ℕ) → ℕ → Reader → Type 0
Reached = ReachedFrom (file_from readings) most_bench_bytes

-- ---- what stands behind the parts

-- behind the state that is shown
abbrev pub behind_shown : formats.FileHead → Bench → Reader
behind_shown head = rest_from readings head

-- behind the schema: the state that is shown, and the rest
abbrev pub behind_schema : formats.FileHead → Schema → Reader
behind_schema head schema = with_part readings (shown_in readings head schema) (behind_shown head)

-- behind the head: the schema, and what follows it
abbrev pub behind_head : formats.FileHead → Reader
behind_head head = with_part readings schema_in (behind_schema head)

-- ---- from part to part

-- nothing is read yet
pub reached-start : (start : Reader) (most : ℕ) (a : Option (List ℕ)) → ReachedFrom start most a a most start
reached-start start most None = tt
reached-start start most (Some xs) = refl

-- the file begins with its head
pub reached-none : (a : Option (List ℕ)) → Reached a a most_bench_bytes (with_part readings file_head behind_head)
reached-none None = tt
reached-none (Some xs) = refl

-- where a part of the file is read, its reader has reached what stands behind the part
pub reached-part : {X : Type 0} (take : Json → Option X) (go : X → Reader) (a b c : Option (List ℕ)) (room room_after : ℕ) (x : X)
    → Reached a b room (with_part readings take go) → ReadsPart take b c room room_after (Ok x) → Reached a c room_after (go x)
reached-part take go None b c room room_after x reached part = tt
reached-part take go (Some xs) None c room room_after x reached part = absurd reached
reached-part take go (Some xs) (Some ys) c room room_after x reached part =
    subst (λ d. Reached (Some xs) d room_after (go x)) (sym part.left) (reached ∙ part.goes_on go)

-- where lines are read, their reader has reached what stands behind them, with the bench that they lead to
pub reached-along : (start : Reader) (most : ℕ) (walk : Walk) (go : Bench → Reader) (count : ℕ) (a b c : Option (List ℕ)) (room room_after : ℕ)
    (old new : Bench) → ReachedFrom start most a b room (walk go count old)
    → ReadsAlong walk count b c room room_after old new (Ok tt) → ReachedFrom start most a c room_after (go new)
reached-along start most walk go count None b c room room_after old new reached lines = tt
reached-along start most walk go count (Some xs) None c room room_after old new reached lines = absurd reached
reached-along start most walk go count (Some xs) (Some ys) c room room_after old new reached lines =
    subst (λ d. ReachedFrom start most (Some xs) d room_after (go new)) (sym lines.left) (reached ∙ lines.goes_on go)

-- ---- to the end

-- where what is left is refused, so is all
pub all-refused : (start : Reader) (a b c : Option (List ℕ)) (most room : ℕ) (reader : Reader) (f : LoadFault)
    → ReachedFrom start most a b room reader → ((ys : List ℕ) → b ≡ Some ys → ReadRefuses f (reader ys room)) → ReadsAll start a c most (Err f)
all-refused start None b c most room reader f reached refused = tt
all-refused start (Some xs) None c most room reader f reached refused = absurd reached
all-refused start (Some xs) (Some ys) c most room reader f reached refused = subst (ReadRefuses f) (sym reached) (refused ys refl)

-- where nothing is left, all is read
at-end : (start : Reader) (most room place : ℕ) (last made : Bench) (a b c : Option (List ℕ)) → made ≡ at_place place last
    → ReachedFrom start most a b room (ended_with readings (at_place place last)) → ReadsEnd b c room (Ok tt) → ReadsAll start a c most (Ok made)
at-end start most room place last made None b c is reached end = tt
at-end start most room place last made (Some xs) None c is reached end = absurd reached
at-end start most room place last made (Some xs) (Some ys) c is reached end =
    (reached ∙ ap (at_last (at_place place last)) end.0 ∙ ap (λ x. Ok x) (sym is), end.1)

-- ---- all later states

-- on along them to a bench, and to the end
module _ (place : StatePlace) (first last : Bench) (a b c : Option (List ℕ)) (most room : ℕ) where
  abbrev from_first : Reader
  from_first = later_from readings (place_view place) first

  abbrev at_their_end : Bench → Reader
  at_their_end x = ended_with readings (at_place place.place x)

  reached-latest : ReadsSteps (place.states - 1) a b most room first last (Ok tt) → ReachedFrom from_first most a b room (at_their_end last)
  reached-latest h =
      reached-along from_first most (steps_from readings) at_their_end (place.states - 1) a a b most room first last (reached-start from_first most a) h

  -- where the line of one is refused, so are they
  pub steps-refused : (f : LoadFault) → ReadsSteps (place.states - 1) a b most room first last (Err f) → ReadsOn from_first a b most last (Err f)
  steps-refused f h =
      all-refused from_first a a b most most from_first f (reached-start from_first most a)
      (λ ys is. subst (λ o. ReadsSteps (place.states - 1) o b most room first last (Err f)) is h at_their_end)

  -- where something stands behind the last one, or the source fails there, they are refused
  pub steps-end-refused : (f : LoadFault) → ReadsSteps (place.states - 1) a b most room first last (Ok tt) → ReadsEnd b c room (Err f)
      → ReadsOn from_first a c most last (Err f)
  steps-end-refused f h end =
      all-refused from_first a b c most room (at_their_end last) f (reached-latest h)
      (λ ys there. subst (λ o. ReadsEnd o c room (Err f)) there end (at_place place.place last))

  -- where the end is reached, they are read, and the bench is the one that they led to, gone to the place
  pub steps-read : (made : Bench) → made ≡ at_place place.place last → ReadsSteps (place.states - 1) a b most room first last (Ok tt)
      → ReadsEnd b c room (Ok tt) → ReadsOn from_first a c most made (Ok tt)
  steps-read made is h end = at-end from_first most room place.place last made a b c is (reached-latest h) end

-- ---- all records

-- back along the past to a bench, on along the future to another, and to the end
module _ (counts : Counts) (first back last : Bench) (a b c d : Option (List ℕ)) (most room room_after : ℕ) where
  abbrev past : ℕ
  past = counts.past

  abbrev future : ℕ
  future = counts.future

  abbrev start : Reader
  start = moves_from readings counts first

  abbrev ends : Bench → Reader
  ends x = ended_with readings (at_place past x)

  abbrev WentBack : Type 0
  WentBack = ReadsMoves counts.format preceded past a b most room first back (Ok tt)

  abbrev WentOn : Bench → Type 0
  WentOn moved = ReadsMoves counts.format appended future b c room room_after moved last (Ok tt)

  reached-back : WentBack → ReachedFrom start most a b room (on_from readings counts back)
  reached-back h = reached-along start most (along readings counts.format preceded) (on_from readings counts) past a a b most room first back
      (reached-start start most a) h

  reached-on : (moved : Bench) → moved ≡ at_place past back → WentBack → ReachedFrom start most a b room (along readings counts.format appended ends future moved)
  reached-on moved is h = subst (λ x. ReachedFrom start most a b room (along readings counts.format appended ends future x)) (sym is) (reached-back h)

  reached-last : (moved : Bench) → moved ≡ at_place past back → WentBack → WentOn moved → ReachedFrom start most a c room_after (ends last)
  reached-last moved is h k =
      reached-along start most (along readings counts.format appended) ends future a b c room room_after moved last (reached-on moved is h) k

  -- where a line of the past is refused, so are they
  pub past-refused : (f : LoadFault) → ReadsMoves counts.format preceded past a b most room first back (Err f) → ReadsOn start a b most back (Err f)
  past-refused f h =
      all-refused start a a b most most start f (reached-start start most a)
      (λ ys is. subst (λ o. ReadsMoves counts.format preceded past o b most room first back (Err f)) is h (on_from readings counts))

  -- where a line of the future is refused, so are they
  pub future-refused : (f : LoadFault) (moved : Bench) → moved ≡ at_place past back → WentBack
      → ReadsMoves counts.format appended future b c room room_after moved last (Err f) → ReadsOn start a c most last (Err f)
  future-refused f moved is h k =
      all-refused start a b c most room (along readings counts.format appended ends future moved) f (reached-on moved is h)
      (λ ys there. subst (λ o. ReadsMoves counts.format appended future o c room room_after moved last (Err f)) there k ends)

  -- where something stands behind the last line, or the source fails there, they are refused
  pub end-refused : (f : LoadFault) (moved : Bench) → moved ≡ at_place past back → WentBack → WentOn moved → ReadsEnd c d room_after (Err f)
      → ReadsOn start a d most last (Err f)
  end-refused f moved is h k end =
      all-refused start a c d most room_after (ends last) f (reached-last moved is h k)
      (λ ys there. subst (λ o. ReadsEnd o d room_after (Err f)) there end (at_place past last))

  -- where the end is reached, they are read, and the bench is the one that they led to, gone back to where it stood
  pub history-read : (moved made : Bench) → moved ≡ at_place past back → made ≡ at_place past last → WentBack → WentOn moved
      → ReadsEnd c d room_after (Ok tt) → ReadsOn start a d most made (Ok tt)
  history-read moved made is made_is h k end = at-end start most room_after past last made a c d made_is (reached-last moved is h k) end

-- ---- refusals

abbrev of_taken : List ℕ → Option Bench → Result Bench MoveFault
of_taken xs o = elim o [ Some bench ↦ Ok bench | None ↦ Err (file_fault readings xs) ]

refused-with : (xs : List ℕ) (f : MoveFault) (o : Option Bench) → file_bench_in readings xs ≡ o → FilesAreTaken → of_taken xs o ≡ Err f → IsRefused xs f
refused-with xs f (Some bench) is files h = absurd cc
refused-with xs f None is files h = record {
  none = λ format bench file. none-some bench (sym is ∙ files readings format xs bench file);
  fault = ap (told_fault f) h;
}
  where
    told_fault : MoveFault → Result Bench MoveFault → MoveFault
    told_fault d (Ok b) = d
    told_fault d (Err g) = g

-- where what is left is refused, so is the whole
refused-file : (xs : List ℕ) (f : MoveFault) → FilesAreRead → FilesAreTaken → file_from readings xs most_bench_bytes ≡ Err f → IsRefused xs f
refused-file xs f read files h = refused-with xs f (file_bench_in readings xs) refl files (sym (read readings xs) ∙ h)

-- where what is left is refused, so is the whole file
pub reached-refused : (a b c : Option (List ℕ)) (room : ℕ) (reader : Reader) (f : LoadFault) → FilesAreRead → FilesAreTaken
    → Reached a b room reader → ((ys : List ℕ) → b ≡ Some ys → ReadRefuses f (reader ys room)) → Loads a c (Err f)
reached-refused None b c room reader f read files reached refused = tt
reached-refused (Some xs) None c room reader f read files reached refused = absurd reached
reached-refused (Some xs) (Some ys) c room reader BenchText read files reached refused = refused-file xs no_move_text read files (reached ∙ refused ys refl)
reached-refused (Some xs) (Some ys) c room reader RecordDoesNotFit read files reached refused =
    refused-file xs record_does_not_fit read files (reached ∙ refused ys refl)
reached-refused (Some xs) (Some ys) c room reader Io read files reached refused = tt
reached-refused (Some xs) (Some ys) c room reader OutOfMemory read files reached refused = tt

-- where a part of the file is refused, so is the whole file
pub part-refused : {X : Type 0} (take : Json → Option X) (go : X → Reader) (a b c : Option (List ℕ)) (room room_after : ℕ) (f : LoadFault) → FilesAreRead
    → FilesAreTaken
    → Reached a b room (with_part readings take go) → ReadsPart take b c room room_after (Err f) → Loads a c (Err f)
part-refused take go a b c room room_after f read files reached part =
    reached-refused a b c room (with_part readings take go) f read files reached
    (λ ys is. subst (λ o. ReadsPart take o c room room_after (Err f)) is part go)

-- where a line behind the shown state is refused, so is the whole file
pub rest-refused : (reader : Reader) (a b c : Option (List ℕ)) (room : ℕ) (f : LoadFault) → FilesAreRead → FilesAreTaken
    → Reached a b room reader → ReadsAll reader b c room (Err f) → Loads a c (Err f)
rest-refused reader a b c room f read files reached rest =
    reached-refused a b c room reader f read files reached (λ ys is. subst (λ o. ReadsAll reader o c room (Err f)) is rest)

-- ---- the whole file

taken-with : (xs : List ℕ) (bench : Bench) (o : Option Bench) → of_taken xs o ≡ Ok bench → o ≡ Some bench
taken-with xs bench (Some other) h = ap told h
  where
    told : Result Bench MoveFault → Option Bench
    told (Ok b) = Some b
    told (Err g) = None
taken-with xs bench None h = absurd cc

-- where all lines behind the shown state are read, the file is loaded: its bench is the one that they led to
pub loaded : (reader : Reader) (bench : Bench) (a b c : Option (List ℕ)) (room : ℕ) → FilesAreRead → TakenIsFile
    → IsValidBench readings bench → HasReadHistory readings bench.timeline
    → Reached a b room reader → ReadsAll reader b c room (Ok bench) → Loads a c (Ok bench)
loaded reader bench None b c room read files valid paths reached rest = tt
loaded reader bench (Some xs) None c room read files valid paths reached rest = absurd reached
loaded reader bench (Some xs) (Some ys) c room read files valid paths reached rest =
    let taken = taken-with xs bench (file_bench_in readings xs) (sym (read readings xs) ∙ reached ∙ rest.0) in
    let filed = files readings xs bench taken valid paths in
    record { format = filed.0; file = filed.1; left = rest.1 }
