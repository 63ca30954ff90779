-- A text that is taken as a bench file of records has no line with a fault of its own, and a written line has the shape of one.
use Rattle.std.proofs.Common.{◌≡◌, ◌≤◌, ℕ, zero, suc, length, List, [], ◌∷◌, take, drop, Bool, true, false, ◌&&◌, ◌||◌, Option, Some, None, option_map, option_and_then, refl, sym, ap, ◌∙◌, subst}
use Rattle.std.proofs.lemmas.Bool.{and_from}
use Rattle.std.proofs.lemmas.Option.{same_Some, none-some}
use Rattle.std.specs.Prelude.{if◌then◌else◌, nat_le, Result, Ok, Err}
use Rattle.ssa_model.specs.definitions.Limits.{most_bench_bytes}
use Rattle.ssa_model.specs.definitions.Json.{Text, Json}
use Rattle.ssa_model.specs.definitions.Lines.{whole_lines, unfinished_line}
use Rattle.ssa_model.specs.definitions.Objects.{Identity}
use Rattle.ssa_model.specs.definitions.Operations.{State}
use Rattle.ssa_model.specs.definitions.Readings.{Readings}
use Rattle.ssa_model.specs.definitions.Replies.{label_json}
use Rattle.ssa_model.specs.definitions.Schema.{Schema}
use Rattle.ssa_model.specs.definitions.Entries.{version_in}
use Rattle.ssa_model.specs.definitions.History.{Label, Step, Bench}
use Rattle.ssa_model.specs.definitions.BenchFile.{IsLabel}
use Rattle.ssa_model.specs.definitions.Record.{record_of}
use Rattle.ssa_model.specs.definitions.RecordText.{record_json}
use Rattle.ssa_model.specs.definitions.RecordReading.{is_record_shape}
use Rattle.ssa_model.specs.definitions.BenchText.{Format}
use Rattle.ssa_model.specs.definitions.Formats.{can_tell_line}
use Rattle.ssa_model.specs.definitions.BenchOfStates.{ended_lines, text_lines, spelled_value, spelled_values, values_of, is_written_as, schema_in, is_label}
use Rattle.ssa_model.specs.definitions.BenchOfRecords.{Counts, counts_in, present_in, move_in, told_move, past_in, future_in, with_moves, lines_bench, recorded_bench, recorded_bench_in}
use Rattle.ssa_model.specs.definitions.BenchFaults.{MoveFault, no_move_text, record_does_not_fit, is_label_shape, refused_fault, value_move, told_value, line_move, lines_fault, lines_within, moves_fault, opening_in, texts_fault, recorded_fault}
use Rattle.ssa_model.specs.laws.RecordedBenches.{MisfitIsRefused, MovesHaveShape}
use Rattle.ssa_model.proofs.Given.{and_then-back, map-back}
use Rattle.ssa_model.proofs.LinesRead.{lines_within-all}
use Rattle.ssa_model.proofs.RecordsBack.{record_texts_have_shape}
use Rattle.ssa_model.proofs.ShownObjects.{identity-parts}
use Rattle.ssa_model.proofs.SpelledValues.{text-of-lines}
use Rattle.ssa_model.proofs.TakenOfWritten.{written-itself, is_label-of, said-back}
use Rattle.ssa_model.proofs.Basics.{le-of as few-bytes}

-- ---- shapes

label-shaped : (readings : Readings) (label : Label) → IsLabel readings label → is_label_shape readings (label_json label) ≡ true
label-shaped readings label h =
    let j = label_json label in
    ap (λ l. is_written_as (label_json l) j && is_label readings l) (said-back label)
    ∙ and_from (is_written_as j j) (is_label readings label) (written-itself j) (is_label-of readings label h)

-- the line of two valid states that are read has the shape of a line
pub moves_have_shape : MovesHaveShape
moves_have_shape readings bench label v w named h a b from to =
    let p = identity-parts bench.identity named in
    let kind = bench.schema.kind in
    let first = label-shaped readings label h in
    let second =
    ap (λ (i : Identity). is_record_shape readings (record_json (version_in i.version) kind (record_of v w))) p.is
    ∙ record_texts_have_shape readings p.version kind v w a b from to in
    λ i. ((first i || false) && ((second i || false) && true)) && true

-- ---- lines that are taken

-- the value of a first line, and those of the rest
record IsRead (readings : Readings) (t : Text) (ts : List Text) (vs : List Json) : Type 0 where
  -- the value of the first line
  pub value : Json
  -- the values of the other lines
  pub rest : List Json
  -- the value is read from the first line, which is its compact text
  pub read : spelled_value readings t ≡ Some value
  -- so are the values of the other lines
  pub later : spelled_values readings ts ≡ Some rest
  -- the values are the first and the others
  pub all : vs ≡ value ∷ rest

first-read : (readings : Readings) (t : Text) (ts : List Text) (vs : List Json) → spelled_values readings (t ∷ ts) ≡ Some vs → IsRead readings t ts vs
first-read readings t ts vs h =
    let own = and_then-back (λ j. option_map (λ js. j ∷ js) (spelled_values readings ts)) (spelled_value readings t) vs h in
    let rest = map-back (λ js. own.0 ∷ js) (spelled_values readings ts) vs own.2 in
    record { value = own.0; rest = rest.0; read = own.1; later = rest.1; all = sym rest.2 }

-- a line whose value is read and taken is taken
module _ (readings : Readings) (f : Format) (bench : Bench) (behind : MoveFault) where
  line-taken : (v : State) (t : Text) (j : Json) (m : Label × State) → spelled_value readings t ≡ Some j → told_move readings f bench v j ≡ Some m
      → line_move readings f bench v t ≡ Ok m
  line-taken v t j m spelled is =
      ap (λ (o : Option Json). elim o [ Some j ↦ told_value readings f bench v j | None ↦ Err no_move_text ]) spelled ∙ told (can_tell_line f j) is
    where
      of_move : (o : Option (Label × State)) → o ≡ Some m
          → ◌≡◌ {A = Result (Label × State) MoveFault} (elim o [ Some m ↦ Ok m | None ↦ Err (refused_fault readings j) ]) (Ok m)
      of_move (Some n) is = ap Ok (same_Some n m is)
      of_move None is = absurd (none-some m is)

      told : (b : Bool) → (if b then move_in readings bench v j else None) ≡ Some m
          → ◌≡◌ {A = Result (Label × State) MoveFault} (if b then value_move readings bench v j else Err no_move_text) (Ok m)
      told true is = of_move (move_in readings bench v j) is
      told false is = absurd (none-some m is)

  next-line : (v : State) (t : Text) (m : Label × State) (ts : List Text) → line_move readings f bench v t ≡ Ok m
      → lines_fault readings f bench behind v (t ∷ ts) ≡ lines_fault readings f bench behind m.1 ts
  next-line v t m ts is = ap (λ (r : Result (Label × State) MoveFault). elim r [ Ok m ↦ lines_fault readings f bench behind m.1 ts | Err e ↦ e ]) is

  past-faultless : (n : ℕ) (v : State) (ts : List Text) (js : List Json) (acc : List Step) (r : State × List Step)
      → spelled_values readings ts ≡ Some js → past_in readings f bench v (take n js) acc ≡ Some r → lines_fault readings f bench behind v (take n ts) ≡ behind
  past-faultless zero v ts js acc r spelled is = refl
  past-faultless (suc n) v [] js acc r spelled is = refl
  past-faultless (suc n) v (t ∷ ts) js acc r spelled is =
      let own = first-read readings t ts js spelled in
      let of_move = λ (m : Label × State). past_in readings f bench m.1 (take n own.rest) (record { label = m.0; state = v } ∷ acc) in
      let moved = and_then-back of_move (told_move readings f bench v own.value) r (ap (λ xs. past_in readings f bench v (take (suc n) xs) acc) (sym own.all) ∙ is) in
      next-line v t moved.0 (take n ts) (line-taken v t own.value moved.0 own.read moved.1)
      ∙ past-faultless n moved.0.1 ts own.rest (record { label = moved.0.0; state = v } ∷ acc) r own.later moved.2

  future-faultless : (n : ℕ) (v : State) (ts : List Text) (js : List Json) (ss : List Step)
      → spelled_values readings ts ≡ Some js → future_in readings f bench v js ≡ Some ss → lines_fault readings f bench behind v (take n ts) ≡ behind
  future-faultless zero v ts js ss spelled is = refl
  future-faultless (suc n) v [] js ss spelled is = refl
  future-faultless (suc n) v (t ∷ ts) js ss spelled is =
      let own = first-read readings t ts js spelled in
      let of_move = λ (m : Label × State). option_map (λ xs. record { label = m.0; state = m.1 } ∷ xs) (future_in readings f bench m.1 own.rest) in
      let moved = and_then-back of_move (told_move readings f bench v own.value) ss (ap (future_in readings f bench v) (sym own.all) ∙ is) in
      let later = map-back (λ xs. record { label = moved.0.0; state = moved.0.1 } ∷ xs) (future_in readings f bench moved.0.1 own.rest) ss moved.2 in
      next-line v t moved.0 (take n ts) (line-taken v t own.value moved.0 own.read moved.1)
      ∙ future-faultless n moved.0.1 ts own.rest later.0 own.later later.1

spelled-drop : (readings : Readings) (n : ℕ) (ts : List Text) (js : List Json) → spelled_values readings ts ≡ Some js
    → spelled_values readings (drop n ts) ≡ Some (drop n js)
spelled-drop readings zero ts js h = h
spelled-drop readings (suc n) [] js h = ap (λ js. Some (drop (suc n) js)) (same_Some [] js h)
spelled-drop readings (suc n) (t ∷ ts) js h =
    let own = first-read readings t ts js h in
    spelled-drop readings n ts own.rest own.later ∙ ap (λ xs. Some (drop (suc n) xs)) (sym own.all)

-- ---- a text that is taken

module _ (readings : Readings) (bench : Bench) where
  moves-faultless : (counts : Counts) (now : Bench) (ts : List Text) (js : List Json)
      → spelled_values readings ts ≡ Some js → lines_bench readings counts now js ≡ Some bench → moves_fault readings counts now ts ≡ no_move_text
  moves-faultless counts now ts js spelled is =
      let v = now.timeline.first in
      let of_past = λ (past : State × List Step). option_and_then (with_moves counts now js past) (future_in readings counts.format now v (drop counts.past js)) in
      let past = and_then-back of_past (past_in readings counts.format now v (take counts.past js) []) bench is in
      let future = and_then-back (with_moves counts now js past.0) (future_in readings counts.format now v (drop counts.past js)) bench past.2 in
      let behind = lines_fault readings counts.format now no_move_text v (take counts.future (drop counts.past ts)) in
      past-faultless readings counts.format now behind counts.past v ts js [] past.0 spelled past.1
      ∙ future-faultless readings counts.format now no_move_text counts.future v (drop counts.past ts) (drop counts.past js) future.0
      (spelled-drop readings counts.past ts js spelled) future.1

  abbrev of_schema : Counts → Json → List Json → Schema → Option Bench
  of_schema counts now js schema = option_and_then (λ b. lines_bench readings counts b js) (present_in readings counts.format counts.depth schema now)

  abbrev of_counts : Json → Json → List Json → Counts → Option Bench
  of_counts source now js counts = option_and_then (of_schema counts now js) (schema_in source)

  abbrev opening : Text → Text → Counts → Option (Counts × Bench)
  opening b c counts =
      option_and_then (λ schema. option_map (λ (x : Bench). (counts, x)) (option_and_then (present_in readings counts.format counts.depth schema) (spelled_value readings c)))
      (option_and_then schema_in (spelled_value readings b))

  opening-is : (a b c : Text) (head source now : Json) (counts : Counts) (schema : Schema) (there : Bench)
      → spelled_value readings a ≡ Some head → spelled_value readings b ≡ Some source → spelled_value readings c ≡ Some now
      → counts_in head ≡ Some counts → schema_in source ≡ Some schema → present_in readings counts.format counts.depth schema now ≡ Some there
      → opening_in readings a b c ≡ Some (counts, there)
  opening-is a b c head source now counts schema there sa sb sc counted schemed is =
      ap (option_and_then (opening b c)) (ap (option_and_then counts_in) sa ∙ counted)
      ∙ ap (option_and_then (λ schema. option_map (λ (x : Bench). (counts, x)) (option_and_then (present_in readings counts.format counts.depth schema) (spelled_value readings c))))
      (ap (option_and_then schema_in) sb ∙ schemed)
      ∙ ap (option_map (λ (x : Bench). (counts, x))) (ap (option_and_then (present_in readings counts.format counts.depth schema)) sc ∙ is)

  opened-faultless : (a b c : Text) (ts : List Text) (head source now : Json) (js : List Json)
      → spelled_value readings a ≡ Some head → spelled_value readings b ≡ Some source → spelled_value readings c ≡ Some now
      → spelled_values readings ts ≡ Some js
      → recorded_bench readings (head ∷ source ∷ now ∷ js) ≡ Some bench → texts_fault readings (a ∷ b ∷ c ∷ ts) ≡ no_move_text
  opened-faultless a b c ts head source now js sa sb sc spelled is =
      let counts = and_then-back (of_counts source now js) (counts_in head) bench is in
      let schema = and_then-back (of_schema counts.0 now js) (schema_in source) bench counts.2 in
      let there = and_then-back (λ b. lines_bench readings counts.0 b js) (present_in readings counts.0.format counts.0.depth schema.0 now) bench schema.2 in
      by-opening counts.0 there.0 (opening-is a b c head source now counts.0 schema.0 there.0 sa sb sc counts.1 schema.1 there.1) there.2
    where
      by-opening : (counts : Counts) (there : Bench) → opening_in readings a b c ≡ Some (counts, there) → lines_bench readings counts there js ≡ Some bench
          → texts_fault readings (a ∷ b ∷ c ∷ ts) ≡ no_move_text
      by-opening counts there opened is =
          ap (λ (o : Option (Counts × Bench)). elim o [ Some x ↦ moves_fault readings x.0 x.1 ts | None ↦ no_move_text ]) opened
          ∙ moves-faultless counts there ts js spelled is

  texts-faultless : (ls : List Text) (vs : List Json) → spelled_values readings ls ≡ Some vs → recorded_bench readings vs ≡ Some bench
      → texts_fault readings ls ≡ no_move_text
  texts-faultless [] vs spelled is = refl
  texts-faultless (a ∷ []) vs spelled is = refl
  texts-faultless (a ∷ b ∷ []) vs spelled is = refl
  texts-faultless (a ∷ b ∷ c ∷ ts) vs spelled is =
      let first = first-read readings a (b ∷ c ∷ ts) vs spelled in
      let second = first-read readings b (c ∷ ts) first.rest first.later in
      let third = first-read readings c ts second.rest second.later in
      let same = first.all ∙ ap (λ js. first.value ∷ js) (second.all ∙ ap (λ js. second.value ∷ js) third.all) in
      opened-faultless a b c ts first.value second.value third.value third.rest first.read second.read third.read third.later
      (ap (recorded_bench readings) (sym same) ∙ is)

-- ---- the text

-- where each line of a text is ended, the text's lines are those that are ended
pub whole-is : (ls : List Text) (rest : Text) (texts : List Text) → ended_lines (ls, rest) ≡ Some texts → ls ≡ texts
whole-is ls [] texts h = same_Some ls texts h
whole-is ls (b ∷ bs) texts h = absurd (none-some texts h)

taken-faultless : (readings : Readings) (t : Text) (bench : Bench) → recorded_bench_in readings t ≡ Some bench → recorded_fault readings t ≡ no_move_text
taken-faultless readings t bench is =
    let small = within-limit (nat_le (length t) most_bench_bytes) is in
    let values = and_then-back (recorded_bench readings) (values_of readings t) bench small.1 in
    let ls = and_then-back (spelled_values readings) (text_lines t) values.0 values.1 in
    let few = subst (λ x. length x ≤ most_bench_bytes) (text-of-lines t ls.0 ls.1) (few-bytes (length t) most_bench_bytes small.0) in
    ap (λ x. texts_fault readings (lines_within most_bench_bytes x)) (whole-is (whole_lines t) (unfinished_line t) ls.0 ls.1)
    ∙ ap (texts_fault readings) (lines_within-all most_bench_bytes ls.0 few)
    ∙ texts-faultless readings bench ls.0 values.0 ls.2 values.2
  where
    within-limit : (b : Bool) → (if b then option_and_then (recorded_bench readings) (values_of readings t) else None) ≡ Some bench
        → (b ≡ true) × (option_and_then (recorded_bench readings) (values_of readings t) ≡ Some bench)
    within-limit true h = (refl, h)
    within-limit false h = absurd (none-some bench h)

-- a text that is told to have a record that doesn't fit gives no bench
pub misfit_is_refused : MisfitIsRefused
misfit_is_refused readings t h = by (recorded_bench_in readings t) refl
  where
    by : (o : Option Bench) → recorded_bench_in readings t ≡ o → o ≡ None
    by None is = refl
    by (Some bench) is = let both : no_move_text ≡ record_does_not_fit = sym (taken-faultless readings t bench is) ∙ h in absurd cc
