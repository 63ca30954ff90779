-- The file of a bench in a format is taken as that bench, and what is taken as a valid bench is its file in one of the formats.
use Rattle.std.proofs.Common.{ℕ, ◌≡◌, ◌≤◌, List, [], ◌∷◌, length, map, Bool, true, false, Option, Some, None, option_map, option_and_then, refl, sym, ap, ◌∙◌, subst}
use Rattle.std.proofs.lemmas.List.Elements.{All-nil, All-cons}
use Rattle.std.proofs.lemmas.Option.{same_Some, none-some}
use Rattle.std.specs.List.{All}
use Rattle.std.specs.Prelude.{if◌then◌else◌, nat_le, flat_map, Result, Ok, Err}
use Rattle.ssa_model.specs.definitions.Limits.{most_bench_bytes}
use Rattle.ssa_model.specs.definitions.Json.{Text, Json, compact, same_text}
use Rattle.ssa_model.specs.definitions.Readings.{Readings, ReadFault}
use Rattle.ssa_model.specs.definitions.History.{Bench}
use Rattle.ssa_model.specs.definitions.BenchText.{Format, states, records, parts, depths, line, bench_values}
use Rattle.ssa_model.specs.definitions.BenchFile.{IsSpelled, IsValidBench}
use Rattle.ssa_model.specs.definitions.RecordedBench.{record_head, recorded_values, HasReadHistory}
use Rattle.ssa_model.specs.definitions.Formats.{file_values, CanTell, IsFile}
use Rattle.ssa_model.specs.definitions.BenchOfStates.{Head, head_in, schema_in, lone_in, steps_in, with_steps, text_lines, spelled_value, spelled_values, values_of, values_bench, bench_in}
use Rattle.ssa_model.specs.definitions.BenchOfRecords.{Counts, counts_in, recorded_bench, recorded_bench_in}
use Rattle.ssa_model.specs.laws.RecordedBenches.{IsOfRecords}
use Rattle.ssa_model.specs.definitions.BenchOfFile.{FileHead, of_states, of_records, head_format, either_head, file_head, head_bench, file_bench, file_bench_in}
use Rattle.ssa_model.specs.laws.Formats.{FilesAreTaken, TakenIsFile}
use Rattle.ssa_model.proofs.CompactTexts.{compact-injective}
use Rattle.ssa_model.proofs.Given.{and_then-back, map-back, tested-back}
use Rattle.ssa_model.proofs.NextValues.{same-first, same-tail}
use Rattle.ssa_model.proofs.RecordedTaken.{recorded_files_are_taken}
use Rattle.ssa_model.proofs.RecordedWritten.{counts-from, recorded-written}
use Rattle.ssa_model.proofs.RecordsRead.{within-limit}
use Rattle.ssa_model.proofs.SpelledValues.{text-of-values}
use Rattle.ssa_model.proofs.Tables.{same_text-true}
use Rattle.ssa_model.proofs.TakenOfWritten.{bench_file_is_taken}
use Rattle.ssa_model.proofs.WrittenOfTaken.{values-written}

-- ---- heads

-- a head of states is one
pub states-head : (v : Json) (head : Head) → head_in v ≡ Some head → file_head v ≡ Some (of_states head)
states-head v head is = ap (λ o. either_head (option_map of_states o) (option_map of_records (counts_in v))) is

-- a head of records says no place
no-head : (f : Format) (depth past future : ℕ) → head_in (record_head f depth past future) ≡ None
no-head states depth past future = refl
no-head records depth past future = refl
no-head parts depth past future = refl
no-head depths depth past future = refl

-- nor does a value that is one
no-place : (v : Json) (counts : Counts) → counts_in v ≡ Some counts → head_in v ≡ None
no-place v counts is = ap head_in (compact-injective v (record_head counts.format counts.depth counts.past counts.future) (counts-from v counts is).written) ∙ no-head counts.format counts.depth counts.past counts.future

-- a head of records is one
pub records-head : (v : Json) (counts : Counts) → counts_in v ≡ Some counts → file_head v ≡ Some (of_records counts)
records-head v counts is =
    ap (λ o. either_head (option_map of_states o) (option_map of_records (counts_in v))) (no-place v counts is) ∙ ap (option_map of_records) is

-- the head of a value is that of states, or of records
pub data HasHead (v : Json) : FileHead → Type 0 where
  by_states : (head : Head) → head_in v ≡ Some head → HasHead v (of_states head)
  by_records : (counts : Counts) → counts_in v ≡ Some counts → HasHead v (of_records counts)

pub has-head : (v : Json) (head : FileHead) → file_head v ≡ Some head → HasHead v head
has-head v head is = by (head_in v) (counts_in v) refl refl is
  where
    by : (s : Option Head) (r : Option Counts) → head_in v ≡ s → counts_in v ≡ r → either_head (option_map of_states s) (option_map of_records r) ≡ Some head
        → HasHead v head
    by (Some h) r hs hr e = subst (HasHead v) (same_Some (of_states h) head e) (by_states h hs)
    by None (Some c) hs hr e = subst (HasHead v) (same_Some (of_records c) head e) (by_records c hr)
    by None None hs hr e = absurd (none-some head e)

-- ---- the bench of a text by what its first line says

module _ (readings : Readings) where
  -- the bench that is taken of a text, by a head
  abbrev pub head_bench_in : FileHead → Text → Option Bench
  head_bench_in head t = if nat_le (length t) most_bench_bytes then option_and_then (head_bench readings head) (values_of readings t) else None

  abbrev within_limit : Text → Option Bench → Option Bench
  within_limit t o = if nat_le (length t) most_bench_bytes then o else None

  -- where a first value has a head, the text is taken by the head
  pub in-format : (t : Text) (v : Json) (vs : List Json) (head : FileHead) → values_of readings t ≡ Some (v ∷ vs) → file_head v ≡ Some head
      → file_bench_in readings t ≡ head_bench_in head t
  in-format t v vs head values is =
      ap (λ o. within_limit t (option_and_then (file_bench readings) o)) values
      ∙ ap (λ o. within_limit t (option_and_then (λ h. head_bench readings h (v ∷ vs)) o)) is
      ∙ sym (ap (λ o. within_limit t (option_and_then (head_bench readings head) o)) values)

  -- a text from whose values a bench is taken by a head that the first of them has is taken as it
  by-head : (t : Text) (bench : Bench) (v : Json) (vs : List Json) (head : FileHead) → nat_le (length t) most_bench_bytes ≡ true
      → values_of readings t ≡ Some (v ∷ vs) → file_head v ≡ Some head → head_bench readings head (v ∷ vs) ≡ Some bench → file_bench_in readings t ≡ Some bench
  by-head t bench v vs head small values headed is =
      ap (λ o. within_limit t (option_and_then (file_bench readings) o)) values
      ∙ ap (λ o. within_limit t (option_and_then (λ h. head_bench readings h (v ∷ vs)) o)) headed
      ∙ ap (within_limit t) is ∙ ap (λ b. if b then Some bench else None) small

  few : (b : Bool) (o : Option Bench) (bench : Bench) → (if b then o else None) ≡ Some bench → b ≡ true
  few true o bench h = refl
  few false o bench h = absurd (none-some bench h)

  -- what is taken as a file of states is taken
  states-of : (t : Text) (bench : Bench) (vs : List Json) → nat_le (length t) most_bench_bytes ≡ true → values_of readings t ≡ Some vs
      → values_bench readings vs ≡ Some bench → file_bench_in readings t ≡ Some bench
  states-of t bench [] small values is = absurd (none-some bench is)
  states-of t bench (v ∷ []) small values is = absurd (none-some bench is)
  states-of t bench (v ∷ source ∷ []) small values is = absurd (none-some bench is)
  states-of t bench (v ∷ source ∷ first ∷ later) small values is =
      let headed = and_then-back of_head (head_in v) bench is in
      by-head t bench v (source ∷ first ∷ later) (of_states headed.0) small values (states-head v headed.0 headed.1) is
    where
      of_head : Head → Option Bench
      of_head h =
          option_and_then
          (λ schema. option_and_then (λ lone. option_and_then (with_steps h lone) (steps_in readings lone lone.timeline.first later))
          (lone_in readings schema first)) (schema_in source)

  states-taken : (t : Text) (bench : Bench) → bench_in readings t ≡ Some bench → file_bench_in readings t ≡ Some bench
  states-taken t bench is =
      let small = few (nat_le (length t) most_bench_bytes) (option_and_then (values_bench readings) (values_of readings t)) bench is in
      let values = and_then-back (values_bench readings) (values_of readings t) bench (tested-back (nat_le (length t) most_bench_bytes) _ bench is) in
      states-of t bench values.0 small values.1 values.2

  -- and what is taken as a file of records
  records-taken : (t : Text) (bench : Bench) → recorded_bench_in readings t ≡ Some bench → file_bench_in readings t ≡ Some bench
  records-taken t bench is =
      let small = few (nat_le (length t) most_bench_bytes) (option_and_then (recorded_bench readings) (values_of readings t)) bench is in
      let values = and_then-back (recorded_bench readings) (values_of readings t) bench (tested-back (nat_le (length t) most_bench_bytes) _ bench is) in
      let w = recorded-written readings values.0 bench values.2 in
      by-head t bench w.head w.rest (of_records w.counts) small (values.1 ∙ ap Some w.all) (records-head w.head w.counts w.counted)
      (ap (recorded_bench readings) (sym w.all) ∙ values.2)

-- ---- the file of a bench

pub files_are_taken : FilesAreTaken
files_are_taken readings states t bench file =
    states-taken readings t bench
    (ap (bench_in readings) file.text
    ∙ bench_file_is_taken readings bench file.valid file.tells (subst (λ x. length x ≤ most_bench_bytes) file.text file.fits) file.spelled)
files_are_taken readings records t bench file = records-taken readings t bench (recorded_files_are_taken readings records t bench refl file)
files_are_taken readings parts t bench file = records-taken readings t bench (recorded_files_are_taken readings parts t bench refl file)
files_are_taken readings depths t bench file = records-taken readings t bench (recorded_files_are_taken readings depths t bench refl file)

-- ---- what is taken

-- values with the same texts are the same
same-values : (vs ws : List Json) → map compact vs ≡ map compact ws → vs ≡ ws
same-values [] [] e = refl
same-values [] (w ∷ ws) e = absurd cc
same-values (v ∷ vs) [] e = absurd cc
same-values (v ∷ vs) (w ∷ ws) e =
    let first = compact-injective v w (same-first (compact v) (compact w) (map compact vs) (map compact ws) e) in
    let rest = same-values vs ws (same-tail (compact v) (compact w) (map compact vs) (map compact ws) e) in
    λ i. first i ∷ rest i

-- The values from which a bench is taken by a head are those that are written of it in the head's format, which can tell of it.
record AreValues (f : Format) (vs : List Json) (bench : Bench) : Type 0 where
  pub same : vs ≡ file_values f bench
  pub tells : CanTell f bench

-- in a format of records
of-records : (f : Format) (vs : List Json) (bench : Bench) → IsOfRecords f → vs ≡ recorded_values f bench → CanTell f bench → AreValues f vs bench
of-records states vs bench known same tells = absurd (none-some states known)
of-records records vs bench known same tells = record { same = same; tells = tells }
of-records parts vs bench known same tells = record { same = same; tells = tells }
of-records depths vs bench known same tells = record { same = same; tells = tells }

values-are : (readings : Readings) (v : Json) (vs : List Json) (head : FileHead) (bench : Bench) → HasHead v head
    → head_bench readings head (v ∷ vs) ≡ Some bench → AreValues (head_format head) (v ∷ vs) bench
values-are readings v vs (of_states k) bench (by_states h took) is =
    let w = values-written readings (v ∷ vs) bench is in
    record { same = same-values (v ∷ vs) (bench_values bench) w.0; tells = w.1 }
values-are readings v vs (of_records k) bench (by_records c took) is =
    let w = recorded-written readings (v ∷ vs) bench is in
    let head = same-first v w.head vs w.rest w.all in
    let counts : w.counts ≡ c = same_Some w.counts c (sym w.counted ∙ ap counts_in (sym head) ∙ took) in
    let f = ap (λ (x : Counts). x.format) counts in
    let written = same-values (v ∷ vs) (recorded_values w.counts.format bench) w.is in
    of-records c.format (v ∷ vs) bench (counts-from v c took).known (written ∙ ap (λ g. recorded_values g bench) f) (subst (λ g. CanTell g bench) f w.tells)

-- the value of a line is read from its text
spelled-is : (readings : Readings) (t : Text) (v : Json) → spelled_value readings t ≡ Some v → IsSpelled readings v
spelled-is readings t v h = by (readings.value t) refl h
  where
    by : (r : Result Json ReadFault) → readings.value t ≡ r → elim r [ Ok w ↦ if same_text (compact w) t then Some w else None | Err f ↦ None ] ≡ Some v
        → IsSpelled readings v
    by (Ok w) read h = made (same_text (compact w) t) refl h
      where
        made : (b : Bool) → same_text (compact w) t ≡ b → (if b then Some w else None) ≡ Some v → IsSpelled readings v
        made true same h =
            let is = same_Some w v h in
            ap readings.value (ap compact (sym is) ∙ same_text-true (compact w) t same) ∙ read ∙ ap Ok is
        made false same h = absurd (none-some v h)
    by (Err f) read h = absurd (none-some v h)

all-spelled : (readings : Readings) (ts : List Text) (vs : List Json) → spelled_values readings ts ≡ Some vs → All (IsSpelled readings) vs
all-spelled readings [] vs h = subst (All (IsSpelled readings)) (same_Some [] vs h) (All-nil (IsSpelled readings))
all-spelled readings (t ∷ ts) vs h =
    let first = and_then-back (λ v. option_map (λ ws. v ∷ ws) (spelled_values readings ts)) (spelled_value readings t) vs h in
    let rest = map-back (λ ws. first.0 ∷ ws) (spelled_values readings ts) vs first.2 in
    subst (All (IsSpelled readings)) rest.2
    (All-cons (IsSpelled readings) first.0 rest.0 (spelled-is readings t first.0 first.1) (all-spelled readings ts rest.0 rest.1))

module _ (readings : Readings) (t : Text) (bench : Bench) (valid : IsValidBench readings bench) (paths : HasReadHistory readings bench.timeline) where
  abbrev Filed : Type 0
  Filed = (f : Format) × IsFile readings f t bench

  filed : (f : Format) (vs : List Json) → length t ≤ most_bench_bytes → values_of readings t ≡ Some vs → AreValues f vs bench → Filed
  filed f vs small values are =
      let ls = and_then-back (spelled_values readings) (text_lines t) vs values in (
        f,
        record {
          valid = valid;
          paths = paths;
          tells = are.tells;
          text = text-of-values readings t ls.0 vs ls.1 ls.2 ∙ ap (flat_map line) are.same;
          fits = small;
          spelled = subst (All (IsSpelled readings)) are.same (all-spelled readings ls.0 vs ls.2);
        },
      )

  filed-values : (vs : List Json) → length t ≤ most_bench_bytes → values_of readings t ≡ Some vs → file_bench readings vs ≡ Some bench → Filed
  filed-values [] small values is = absurd (none-some bench is)
  filed-values (v ∷ vs) small values is =
      let headed = and_then-back (λ head. head_bench readings head (v ∷ vs)) (file_head v) bench is in
      filed (head_format headed.0) (v ∷ vs) small values (values-are readings v vs headed.0 bench (has-head v headed.0 headed.1) headed.2)

pub taken_is_file : TakenIsFile
taken_is_file readings t bench is valid paths =
    let small = within-limit (length t) (option_and_then (file_bench readings) (values_of readings t)) bench is in
    let values = and_then-back (file_bench readings) (values_of readings t) bench (tested-back (nat_le (length t) most_bench_bytes) _ bench is) in
    filed-values readings t bench valid paths values.0 small values.1 values.2
