-- What is read of a bench file line by line is what is taken of its text, or the fault of its first faulty line.
use Rattle.std.proofs.Common.{◌≡◌, ◌≤◌, ℕ, List, [], ◌∷◌, length, Option, Some, None, option_map, option_and_then, refl, sym, ap, ◌∙◌}
use Rattle.std.specs.Prelude.{if◌then◌else◌, nat_le, Result, Ok, Err}
use Rattle.std.proofs.lemmas.Option.{same_Some, none-some}
use Rattle.ssa_model.specs.definitions.Limits.{most_bench_bytes}
use Rattle.ssa_model.specs.definitions.Json.{Text, Json}
use Rattle.ssa_model.specs.definitions.Readings.{Readings}
use Rattle.ssa_model.specs.definitions.History.{Bench}
use Rattle.ssa_model.specs.definitions.BenchOfStates.{Head, head_in, schema_in, spelled_value, values_of, bench_in}
use Rattle.ssa_model.specs.definitions.BenchOfRecords.{Counts, counts_in, recorded_bench_in}
use Rattle.ssa_model.specs.definitions.BenchFaults.{MoveFault, no_move_text, head_fault, first_head, lines_file_fault, file_fault}
use Rattle.ssa_model.specs.definitions.BenchOfFile.{FileHead, of_states, of_records, file_head, head_bench, file_bench, file_bench_in}
use Rattle.ssa_model.specs.definitions.NextLines.{Next, at_end, no_value, value_then, next_value}
use Rattle.ssa_model.specs.laws.LineByLine.{Reader, after_value, after_part, with_part, shown_in, rest_from, FilesAreRead}
use Rattle.ssa_model.proofs.AlongLines.{part_of}
use Rattle.ssa_model.proofs.FormatFiles.{HasHead, by_states, by_records, has-head, in-format}
use Rattle.ssa_model.proofs.Given.{and_then-back, tested-back}
use Rattle.ssa_model.proofs.NextValues.{nil-cons, same-first, lines_left, no-lines, no-values, HasNext, Stands, stands, next-values, lines-of-values}
use Rattle.ssa_model.proofs.RecordsRead.{after_head, records_are_read, within-limit}
use Rattle.ssa_model.proofs.StatesRead.{behind_head, states_are_read}

-- a result, or the fault where there is none
abbrev told_by : MoveFault → Option Bench → Result Bench MoveFault
told_by f o = elim o [ Some bench ↦ Ok bench | None ↦ Err f ]

-- what is read behind a head: the schema, and what follows it
abbrev behind_file_head : Readings → FileHead → Reader
behind_file_head readings head = with_part readings schema_in (λ schema. with_part readings (shown_in readings head schema) (rest_from readings head))

module _ (readings : Readings) (t : Text) where
  abbrev all_lines : List Text
  all_lines = lines_left t most_bench_bytes

  abbrev Told : Result Bench MoveFault → Type 0
  Told r = r ≡ told_by (file_fault readings t) (file_bench_in readings t)

  -- ---- no head

  -- where no first value is a head, nothing is taken
  not-taken : ((v : Json) (vs : List Json) → values_of readings t ≡ Some (v ∷ vs) → length t ≤ most_bench_bytes → file_head v ≡ None)
      → file_bench_in readings t ≡ None
  not-taken none = by (file_bench_in readings t) refl
    where
      absent : (bench : Bench) (vs : List Json) → values_of readings t ≡ Some vs → file_bench_in readings t ≡ Some bench → file_bench readings vs ≡ Some bench → ⊥
      absent bench [] values is taken = none-some bench taken
      absent bench (v ∷ vs) values is taken =
          let small = within-limit (length t) (option_and_then (file_bench readings) (values_of readings t)) bench is in
          none-some bench (sym (ap (option_and_then (λ head. head_bench readings head (v ∷ vs))) (none v vs values small)) ∙ taken)

      by : (o : Option Bench) → file_bench_in readings t ≡ o → o ≡ None
      by None e = refl
      by (Some bench) e =
          let values = and_then-back (file_bench readings) (values_of readings t) bench (tested-back (nat_le (length t) most_bench_bytes) _ bench e) in
          absurd (absent bench values.0 values.1 e values.2)

  -- where no first line is a head, it is the faulty one
  first-faulty : ((u : Text) (us : List Text) → all_lines ≡ u ∷ us → part_of readings file_head u ≡ None) → file_fault readings t ≡ no_move_text
  first-faulty none = by all_lines refl
    where
      by : (ts : List Text) → all_lines ≡ ts → lines_file_fault readings ts ≡ no_move_text
      by [] e = refl
      by (u ∷ us) e = ap (λ o. elim o [ Some head ↦ head_fault readings head (u ∷ us) | None ↦ no_move_text ]) (none u us e)

  headless : ((v : Json) (vs : List Json) → values_of readings t ≡ Some (v ∷ vs) → length t ≤ most_bench_bytes → file_head v ≡ None)
      → ((u : Text) (us : List Text) → all_lines ≡ u ∷ us → part_of readings file_head u ≡ None) → Told (Err no_move_text)
  headless values lines = sym ((λ i. told_by (first-faulty lines i) (not-taken values i)))

  -- ---- a head

  module _ (v : Json) (ys : List ℕ) (left : ℕ) (next : HasNext readings t most_bench_bytes v ys left)
      (is : next_value readings most_bench_bytes t ≡ value_then v ys left) where
    -- the lines begin with the head's
    faulty : (head : FileHead) → file_head v ≡ Some head → file_fault readings t ≡ head_fault readings head all_lines
    faulty head headed =
        ap (λ ts. elim (first_head readings ts) [ Some h ↦ head_fault readings h all_lines | None ↦ no_move_text ]) next.lines
        ∙ ap (λ o. elim (option_and_then file_head o) [ Some h ↦ head_fault readings h all_lines | None ↦ no_move_text ]) next.spelled
        ∙ ap (λ o. elim o [ Some h ↦ head_fault readings h all_lines | None ↦ no_move_text ]) headed

    -- all lines but the first have values, or some have none
    taken-as : (head : FileHead) (whole : Option Bench) → file_head v ≡ Some head
        → ((ws : List Json) → values_of readings ys ≡ Some ws → file_bench_in readings t ≡ whole)
        → ((values_of readings ys ≡ None) → file_bench_in readings t ≡ whole) → file_bench_in readings t ≡ whole
    taken-as head whole headed some none = by (values_of readings ys) refl
      where
        by : (o : Option (List Json)) → values_of readings ys ≡ o → file_bench_in readings t ≡ whole
        by (Some ws) e = some ws e
        by None e = none e

    abbrev limited : Option Bench → Option Bench
    limited o = if nat_le (length t) most_bench_bytes then o else None

    values : (o : Option (List Json)) → values_of readings ys ≡ o → values_of readings t ≡ option_map (λ ws. v ∷ ws) o
    values o e = next-values readings t most_bench_bytes v ys left next ∙ ap (option_map (λ ws. v ∷ ws)) e

    of-states : (head : Head) → head_in v ≡ Some head → file_head v ≡ Some (of_states head) → file_bench_in readings t ≡ bench_in readings t
    of-states head is headed =
        taken-as (of_states head) (bench_in readings t) headed
        (λ ws e. in-format readings t v ws (of_states head) (values (Some ws) e) headed)
        (λ e. ap (λ o. limited (option_and_then (file_bench readings) o)) (values None e)
        ∙ sym (ap (λ o. limited (option_and_then (head_bench readings (of_states head)) o)) (values None e)))

    of-records : (counts : Counts) → counts_in v ≡ Some counts → file_head v ≡ Some (of_records counts)
        → file_bench_in readings t ≡ recorded_bench_in readings t
    of-records counts is headed =
        taken-as (of_records counts) (recorded_bench_in readings t) headed
        (λ ws e. in-format readings t v ws (of_records counts) (values (Some ws) e) headed)
        (λ e. ap (λ o. limited (option_and_then (file_bench readings) o)) (values None e)
        ∙ sym (ap (λ o. limited (option_and_then (head_bench readings (of_records counts)) o)) (values None e)))

    in-states : (head : Head) → head_in v ≡ Some head → file_head v ≡ Some (of_states head) → Told (behind_head readings head ys left)
    in-states head took headed =
        sym (ap (after_value (λ u. after_part (behind_head readings) (head_in u))) is ∙ ap (λ o. after_part (behind_head readings) o ys left) took)
        ∙ states_are_read readings t
        ∙ (λ i. told_by (sym (faulty (of_states head) headed) i) (sym (of-states head took headed) i))

    in-records : (counts : Counts) → counts_in v ≡ Some counts → file_head v ≡ Some (of_records counts) → Told (after_head readings counts ys left)
    in-records counts took headed =
        sym (ap (after_value (λ u. after_part (after_head readings) (counts_in u))) is ∙ ap (λ o. after_part (after_head readings) o ys left) took)
        ∙ records_are_read readings t
        ∙ (λ i. told_by (sym (faulty (of_records counts) headed) i) (sym (of-records counts took headed) i))

    in-either : (head : FileHead) → HasHead v head → file_head v ≡ Some head → Told (behind_file_head readings head ys left)
    in-either head (by_states h took) headed = in-states h took headed
    in-either head (by_records c took) headed = in-records c took headed

    behind : (o : Option FileHead) → file_head v ≡ o → Told (after_part (behind_file_head readings) o ys left)
    behind (Some head) headed = in-either head (has-head v head headed) headed
    behind None none =
        headless
        (λ w ws e small.
        let line = lines-of-values readings t most_bench_bytes w ws e small in
        let same : Some w ≡ Some v = sym line.3 ∙ ap (spelled_value readings) (first-is line.0 line.1 (sym line.2 ∙ next.lines)) ∙ next.spelled in
        ap (option_and_then file_head) same ∙ none)
        (λ u us e. ap (part_of readings file_head) (first-is u us (sym e ∙ next.lines)) ∙ ap (option_and_then file_head) next.spelled ∙ none)
      where
        first-is : (u : Text) (us : List Text) → u ∷ us ≡ next.text ∷ lines_left ys left → u ≡ next.text
        first-is u us e = same-first u next.text us (lines_left ys left) e

  by-next : (next : Next) → Stands readings t most_bench_bytes next → next_value readings most_bench_bytes t ≡ next
      → Told (after_value (λ v. after_part (behind_file_head readings) (file_head v)) next)
  by-next at_end s is =
      headless
      (λ v vs e small. absurd (nil-cons v vs (same_Some [] (v ∷ vs) (sym (no-values readings) ∙ ap (values_of readings) (sym s) ∙ e))))
      (λ u us e. absurd (nil-cons u us (sym (no-lines most_bench_bytes) ∙ ap (λ zs. lines_left zs most_bench_bytes) (sym s) ∙ e)))
  by-next no_value s is =
      headless
      (λ v vs e small.
      let line = lines-of-values readings t most_bench_bytes v vs e small in
      absurd (none-some v (sym (s.1 line.0 line.1 line.2) ∙ line.3)))
      (λ u us e. ap (option_and_then file_head) (s.1 u us e))
  by-next (value_then v ys left) s is = behind v ys left s is (file_head v) refl

-- the law
pub files_are_read : FilesAreRead
files_are_read readings t =
    let next = next_value readings most_bench_bytes t in
    by-next readings t next (stands readings t most_bench_bytes) refl
