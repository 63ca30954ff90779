-- The lines of a bench file of records are those written of the bench that is taken from them, and its text is the bench's.
use Rattle.std.proofs.Common.{◌≡◌, ℕ, ◌+◌, ◌-◌, ◌≤◌, length, List, [], ◌∷◌, ◌++◌, map, take, drop, Bool, true, false, ◌&&◌, ◌||◌, Option, Some, None, option_and_then, refl, sym, ap, subst, ◌∙◌, eqb-true, arith, append_assoc, append-nil, length-append, length-drop}
use Rattle.std.proofs.Math.Seq.{take-append_seam, drop-append_seam}
use Rattle.std.proofs.lemmas.Bool.{and_parts}
use Rattle.std.proofs.lemmas.List.Elements.{All-nil, All-cons, All-append}
use Rattle.std.specs.List.{All}
use Rattle.std.proofs.lemmas.List.{map-append, length-map, take-append-drop, length-take-le}
use Rattle.std.proofs.lemmas.Option.{same_Some, none-some}
use Rattle.std.specs.Prelude.{◌==◌, if◌then◌else◌, codes, nat_le, Result, Ok, Err}
use Rattle.ssa_model.specs.definitions.Limits.{most_past, most_bench_bytes}
use Rattle.ssa_model.specs.definitions.Json.{Json, member_at, compact}
use Rattle.ssa_model.specs.definitions.Readings.{Readings}
use Rattle.ssa_model.specs.definitions.Commands.{value_in}
use Rattle.ssa_model.specs.definitions.Schema.{Schema, read_schema}
use Rattle.ssa_model.specs.definitions.Operations.{State}
use Rattle.ssa_model.specs.definitions.History.{Label, Step, Bench, last_state, with_timeline}
use Rattle.ssa_model.specs.definitions.Answers.{Fault, bench_with}
use Rattle.ssa_model.specs.definitions.Lines.{ended}
use Rattle.ssa_model.specs.definitions.BenchText.{Format, records, parts, depths, whole_object}
use Rattle.ssa_model.specs.definitions.RecordedBench.{record_head, record_line, past_lines, future_lines, recorded_values}
use Rattle.ssa_model.specs.definitions.Formats.{tells_depth, can_tell_depth, can_tell_label, can_tell_state, can_tell_line, CanTellStep, CanTell}
use Rattle.ssa_model.specs.definitions.BenchOfStates.{text_lines, spelled_values, given_if, is_written_as, number_in, schema_in, label_in}
use Rattle.ssa_model.specs.definitions.BenchOfRecords.{Counts, record_format, format_in, depth_in, is_head, counts_in, present_in, led_state, is_move, move_to, move_in, told_move, past_in, future_in, with_moves, lines_bench, recorded_bench}
use Rattle.ssa_model.specs.laws.RecordedBenches.{IsOfRecords, TakenIsRecordedText}
use Rattle.ssa_model.proofs.CompactTexts.{compact-injective}
use Rattle.ssa_model.proofs.ToldParts.{line-told}
use Rattle.ssa_model.proofs.Given.{given-back, tested-back, and_then-back, map-back}
use Rattle.ssa_model.proofs.LoneBenches.{lone-parts}
use Rattle.ssa_model.proofs.RecordedTaken.{future-many}
use Rattle.ssa_model.proofs.TakenOfWritten.{nat-itself}
use Rattle.ssa_model.proofs.SpelledValues.{text-of-values, lines-are-ended}
use Rattle.ssa_model.proofs.Tables.{same_text-true}
use Rattle.ssa_model.proofs.WrittenOfTaken.{schema-from}

-- ---- the head and the present object

-- the counts that are taken of a head are those with which it is written
-- their format is one of records, and can tell their depth
pub record AreCounts (v : Json) (c : Counts) : Type 0 where
  pub written : compact v ≡ compact (record_head c.format c.depth c.past c.future)
  pub known : IsOfRecords c.format
  pub deep : can_tell_depth c.format c.depth ≡ true

pub counts-from : (v : Json) (c : Counts) → counts_in v ≡ Some c → AreCounts v c
counts-from v c is =
    let format = and_then-back _ (format_in v) c is in
    let f = format.0 in
    let depth = and_then-back _ (depth_in f v) c format.2 in
    let past = and_then-back _ (number_in (member_at (codes "past") v)) c depth.2 in
    let future = and_then-back _ (number_in (member_at (codes "future") v)) c past.2 in
    let numbered = and_then-back record_format (number_in (member_at (codes "format") v)) f format.1 in
    let head = record_head f depth.0 past.0 future.0 in
    let own : Counts = record { format = f; depth = depth.0; past = past.0; future = future.0 } in
    let got = given-back (is_written_as head v && is_head depth.0 past.0 future.0) own c future.2 in
    let written = sym (same_text-true (compact head) (compact v) (and_parts (is_written_as head v) (is_head depth.0 past.0 future.0) got.0).0) in
    subst (AreCounts v) got.1
    (record { written = written; known = of-number numbered.0 f numbered.2; deep = told-depth (tells_depth f) depth.0 depth.1 })
  where
    told-depth : (b : Bool) (n : ℕ) → (if b then number_in (member_at (codes "depth") v) else Some most_past) ≡ Some n → (b || (n == most_past)) ≡ true
    told-depth true n h = refl
    told-depth false n h = ap (λ m. m == most_past) (sym (same_Some most_past n h)) ∙ nat-itself most_past

    of-number : (n : ℕ) (f : Format) → record_format n ≡ Some f → IsOfRecords f
    of-number n f h = by (n == 2) (n == 3) (n == 4) h
      where
        by : (a b c : Bool) → (if a then Some records else (if b then Some parts else (if c then Some depths else None))) ≡ Some f → IsOfRecords f
        by true b c e = subst IsOfRecords (same_Some records f e) refl
        by false true c e = subst IsOfRecords (same_Some parts f e) refl
        by false false true e = subst IsOfRecords (same_Some depths f e) refl
        by false false false e = absurd (none-some f e)

-- the bench that is taken of a present object is made from it, and the object's text is the one that is written of the bench
pub present-from : (v : Json) (f : Format) (r : Result Bench Fault) (now : Bench)
    → elim r
    [ Ok bench ↦ given_if (is_written_as (whole_object bench bench.timeline.first) v && can_tell_state f bench.timeline.first) bench | Err e ↦ None ] ≡ Some now
    → (r ≡ Ok now) × (compact v ≡ compact (whole_object now now.timeline.first)) × (can_tell_state f now.timeline.first ≡ true)
present-from v f (Ok bench) now is =
    let own = whole_object bench bench.timeline.first in
    let got = given-back (is_written_as own v && can_tell_state f bench.timeline.first) bench now is in
    let tests = and_parts (is_written_as own v) (can_tell_state f bench.timeline.first) got.0 in (
      ap Ok got.1,
      sym (same_text-true (compact own) (compact v) tests.0) ∙ ap (λ (b : Bench). compact (whole_object b b.timeline.first)) got.1,
      sym (ap (λ (b : Bench). can_tell_state f b.timeline.first) got.1) ∙ tests.1,
    )
present-from v f (Err e) now is = absurd (none-some now is)

-- ---- the lines

module _ (bench : Bench) where
  -- with one step more, one line more stands in front
  past-push : (v : State) (ss : List Step) (s : Step)
      → past_lines bench v (ss ++ s ∷ []) ≡ record_line bench s.label s.state (last_state v ss) ∷ past_lines bench v ss
  past-push v [] s = refl
  past-push v (t ∷ ss) s = ap (λ js. js ++ record_line bench t.label t.state v ∷ []) (past-push t.state ss s)

  last-push : (v : State) (ss : List Step) (s : Step) → last_state v (ss ++ s ∷ []) ≡ s.state
  last-push v [] s = refl
  last-push v (t ∷ ss) s = last-push t.state ss s

module _ (readings : Readings) (bench : Bench) where
  move-from : (v : State) (j : Json) (m : Label × State) → move_in readings bench v j ≡ Some m → compact j ≡ compact (record_line bench m.0 v m.1)
  move-from v j m is =
      let made = and_then-back _ (label_in readings (value_in (member_at (codes "command") j))) m is in
      let led = and_then-back (move_to readings bench v j made.0) (led_state readings bench v j) m made.2 in
      let got = given-back (is_move readings bench j made.0 v led.0) (made.0, led.0) m led.2 in
      let line = record_line bench made.0 v led.0 in
      sym (same_text-true (compact line) (compact j) (and_parts (is_written_as line j) _ got.0).0)
      ∙ ap (λ (x : Label × State). compact (record_line bench x.0 v x.1)) got.1

module _ (readings : Readings) (f : Format) (bench : Bench) where
  -- what is known of a move that is taken in a format from a state of which it can tell
  record IsToldMove (v : State) (j : Json) (m : Label × State) : Type 0 where
    -- the text of the line is that of what is written of the move
    pub line : compact j ≡ compact (record_line bench m.0 v m.1)
    -- the format can tell the command
    pub label : can_tell_label f m.0 ≡ true
    -- and the state to which it leads
    pub state : can_tell_state f m.1 ≡ true

  told-from : (v : State) (j : Json) (m : Label × State) → can_tell_state f v ≡ true → told_move readings f bench v j ≡ Some m → IsToldMove v j m
  told-from v j m a is = by (can_tell_line f j) refl is
    where
      by : (b : Bool) → can_tell_line f j ≡ b → (if b then move_in readings bench v j else None) ≡ Some m → IsToldMove v j m
      by false told is = absurd (none-some m is)
      by true told is =
          let line = move-from readings bench v j m is in
          let same = compact-injective j (record_line bench m.0 v m.1) line in
          let tells = line-told f bench m.0 v m.1 a (sym (ap (can_tell_line f) same) ∙ told) in
          record { line = line; label = tells.0; state = tells.1 }

  -- the steps that are taken back along some lines
  record IsPast (v : State) (js : List Json) (acc : List Step) (r : State × List Step) : Type 0 where
    -- the steps that are taken back
    pub steps : List Step
    -- they stand before the steps that were there
    pub all : steps ++ acc ≡ r.1
    -- the last of their states is the one from which the lines lead back
    pub last : last_state r.0 steps ≡ v
    -- the texts of the lines are those of what is written of these steps
    pub lines : map compact js ≡ map compact (past_lines bench r.0 steps)
    -- there are as many lines as steps
    pub many : length js ≡ length steps
    -- the format can tell the managers of the first state
    pub first_tells : can_tell_state f r.0 ≡ true
    -- and the steps
    pub tells : All (CanTellStep f) steps

  past-from : (v : State) (js : List Json) (acc : List Step) (r : State × List Step) → can_tell_state f v ≡ true → past_in readings f bench v js acc ≡ Some r
      → IsPast v js acc r
  past-from v [] acc r a is =
      let same = same_Some (v, acc) r is in
      record {
        steps = [];
        all = ap (λ (x : State × List Step). x.1) same;
        last = sym (ap (λ (x : State × List Step). x.0) same);
        lines = refl;
        many = refl;
        first_tells = sym (ap (λ (x : State × List Step). can_tell_state f x.0) same) ∙ a;
        tells = All-nil (CanTellStep f);
      }
  past-from v (j ∷ js) acc r a is =
      let moved = and_then-back _ (told_move readings f bench v j) r is in
      let s : Step = record { label = moved.0.0; state = v } in
      let told = told-from v j moved.0 a moved.1 in
      let rest = past-from moved.0.1 js (s ∷ acc) r told.state moved.2 in
      let own = told.line ∙ ap (λ w. compact (record_line bench s.label v w)) (sym rest.last) in
      let counted = length-append rest.steps (s ∷ []) in
      let fewer = rest.many in
      record {
        steps = rest.steps ++ s ∷ [];
        all = append_assoc rest.steps (s ∷ []) acc ∙ rest.all;
        last = last-push bench r.0 rest.steps s;
        lines = (λ i. own i ∷ rest.lines i) ∙ ap (map compact) (sym (past-push bench r.0 rest.steps s));
        many = omega (arith, counted, fewer);
        first_tells = rest.first_tells;
        tells = All-append (CanTellStep f) rest.steps (s ∷ []) rest.tells (All-cons (CanTellStep f) s [] (told.label, a) (All-nil (CanTellStep f)));
      }

  future-from : (v : State) (js : List Json) (ss : List Step) → can_tell_state f v ≡ true → future_in readings f bench v js ≡ Some ss
      → (map compact js ≡ map compact (future_lines bench v ss)) × All (CanTellStep f) ss
  future-from v [] ss a is =
      let same = same_Some [] ss is in
      (ap (λ ts. map compact (future_lines bench v ts)) same, subst (All (CanTellStep f)) same (All-nil (CanTellStep f)))
  future-from v (j ∷ js) ss a is =
      let moved = and_then-back _ (told_move readings f bench v j) ss is in
      let s : Step = record { label = moved.0.0; state = moved.0.1 } in
      let told = told-from v j moved.0 a moved.1 in
      let rest = map-back (λ ts. s ∷ ts) (future_in readings f bench moved.0.1 js) ss moved.2 in
      let later = future-from moved.0.1 js rest.0 told.state rest.1 in (
        (λ i. told.line i ∷ later.0 i)
            ∙ ap (λ ts. map compact (future_lines bench v ts)) rest.2,
        subst (All (CanTellStep f)) rest.2 (All-cons (CanTellStep f) s rest.0 (told.label, told.state) later.1),
      )

-- ---- the bench

module _ (readings : Readings) (head source shown : Json) (js : List Json) (bench : Bench) where
  -- the counts of the head, the values that are written of the bench in their format, which can tell of it
  record Written : Type 0 where
    pub counts : Counts
    pub counted : counts_in head ≡ Some counts
    pub is : map compact (head ∷ source ∷ shown ∷ js) ≡ map compact (recorded_values counts.format bench)
    pub tells : CanTell counts.format bench

  by-moves : (c : Counts) (schema : Schema) (now : Bench) (past : State × List Step) (future : List Step)
      → counts_in head ≡ Some c → schema_in source ≡ Some schema → present_in readings c.format c.depth schema shown ≡ Some now
      → past_in readings c.format now now.timeline.first (take c.past js) [] ≡ Some past
      → future_in readings c.format now now.timeline.first (drop c.past js) ≡ Some future → with_moves c now js past future ≡ Some bench → Written
  by-moves c schema now past future counted schemed there backed ahead is =
      let v = now.timeline.first in
      let later = past.1 ++ future in
      let made = with_timeline now (record { first = past.0; later = later; place = c.past }) in
      let got = given-back (length js == c.past + c.future) made bench is in
      let all = eqb-true (length js) (c.past + c.future) got.0 in
      let object_is = present-from shown c.format (bench_with readings c.depth schema shown) now there in
      let back = past-from readings c.format now v (take c.past js) [] past object_is.2 backed in
      let on = future-from readings c.format now v (drop c.past js) future object_is.2 ahead in
      let same = sym (append-nil back.steps) ∙ back.all in
      let within : c.past ≤ length js = omega (arith, all) in
      let many = ap length (sym same) ∙ sym back.many ∙ length-take-le c.past js within in
      let taken = ap (λ n. take n later) (sym many) ∙ take-append_seam past.1 future in
      let dropped = ap (λ n. drop n later) (sym many) ∙ drop-append_seam past.1 future in
      let now_is : last_state past.0 (take c.past later) ≡ v = ap (last_state past.0) (taken ∙ sym same) ∙ back.last in
      let ahead_many = sym (length-map (drop c.past js) compact) ∙ ap length on.0 ∙ length-map (future_lines now v future) compact ∙ future-many now v future in
      let left = length-drop c.past js in
      let both = length-append past.1 future in
      let count : length later - c.past ≡ c.future = omega (arith, all, many, ahead_many, left, both) in
      let parts = lone-parts readings c.depth schema shown now object_is.0 in
      let own = counts-from head c counted in
      let head_is = own.written ∙ (λ i. compact (record_head c.format (parts.depth_is i) c.past (sym count i))) in
      let schema_is = parts.schema_is in
      let source_is = schema-from source (read_schema source) schema schemed ∙ ap (λ (x : Schema). x.source) schema_is in
      let shown_is = object_is.1 ∙ ap (λ w. compact (whole_object now w)) (sym now_is) in
      let lines_are =
      ap (map compact) (sym (take-append-drop c.past js)) ∙ map-append compact (take c.past js) (drop c.past js)
      ∙ (λ i. back.lines i ++ on.0 i)
      ∙ sym (map-append compact (past_lines now past.0 back.steps) (future_lines now v future))
      ∙ (λ i. map compact (past_lines now past.0 ((same ∙ sym taken) i) ++ future_lines now (sym now_is i) (sym dropped i))) in
      let written : map compact (head ∷ source ∷ shown ∷ js) ≡ map compact (recorded_values c.format made) =
      λ i. head_is i ∷ compact (source_is i) ∷ shown_is i ∷ lines_are i in
      let steps_tell = All-append (CanTellStep c.format) past.1 future (subst (All (CanTellStep c.format)) same back.tells) on.1 in
      let deep = ap (can_tell_depth c.format) (sym parts.depth_is) ∙ own.deep in
      let tells : CanTell c.format made = record { depth = deep; first = back.first_tells; later = steps_tell } in
      record {
        counts = c;
        counted = counted;
        is = written ∙ ap (λ b. map compact (recorded_values c.format b)) got.1;
        tells = subst (CanTell c.format) got.1 tells;
      }

  abbrev of_now : Counts → Bench → Option Bench
  of_now c now = lines_bench readings c now js

  abbrev of_schema : Counts → Schema → Option Bench
  of_schema c schema = option_and_then (of_now c) (present_in readings c.format c.depth schema shown)

  abbrev of_counts : Counts → Option Bench
  of_counts c = option_and_then (of_schema c) (schema_in source)

  by-now : (c : Counts) (schema : Schema) (now : Bench)
      → counts_in head ≡ Some c → schema_in source ≡ Some schema → present_in readings c.format c.depth schema shown ≡ Some now → of_now c now ≡ Some bench → Written
  by-now c schema now counted schemed there is =
      let v = now.timeline.first in
      let of_past = λ (past : State × List Step). option_and_then (with_moves c now js past) (future_in readings c.format now v (drop c.past js)) in
      let past = and_then-back of_past (past_in readings c.format now v (take c.past js) []) bench is in
      let future = and_then-back (with_moves c now js past.0) (future_in readings c.format now v (drop c.past js)) bench past.2 in
      by-moves c schema now past.0 future.0 counted schemed there past.1 future.1 future.2

  by-schema : (c : Counts) (schema : Schema) → counts_in head ≡ Some c → schema_in source ≡ Some schema → of_schema c schema ≡ Some bench → Written
  by-schema c schema counted schemed is =
      let got = and_then-back (of_now c) (present_in readings c.format c.depth schema shown) bench is in
      by-now c schema got.0 counted schemed got.1 got.2

  by-counts : (c : Counts) → counts_in head ≡ Some c → of_counts c ≡ Some bench → Written
  by-counts c counted is =
      let got = and_then-back (of_schema c) (schema_in source) bench is in
      by-schema c got.0 counted got.1 got.2

  by-values : option_and_then of_counts (counts_in head) ≡ Some bench → Written
  by-values is =
      let got = and_then-back of_counts (counts_in head) bench is in
      by-counts got.0 got.1 got.2

-- The values from which a bench is taken begin with a head; they have the texts of those that are written of the bench in the head's
-- format, which can tell of it.
pub record IsWritten (vs : List Json) (bench : Bench) : Type 0 where
  -- the value of the head
  pub head : Json
  -- the other values
  pub rest : List Json
  -- these are all values
  pub all : vs ≡ head ∷ rest
  -- what the head says
  pub counts : Counts
  -- it says it
  pub counted : counts_in head ≡ Some counts
  -- the texts are those of what is written of the bench
  pub is : map compact vs ≡ map compact (recorded_values counts.format bench)
  -- the format can tell of the bench
  pub tells : CanTell counts.format bench

pub recorded-written : (readings : Readings) (vs : List Json) (bench : Bench) → recorded_bench readings vs ≡ Some bench → IsWritten vs bench
recorded-written readings [] bench is = absurd (none-some bench is)
recorded-written readings (head ∷ []) bench is = absurd (none-some bench is)
recorded-written readings (head ∷ source ∷ []) bench is = absurd (none-some bench is)
recorded-written readings (head ∷ source ∷ now ∷ js) bench is =
    let w = by-values readings head source now js bench is in
    record { head = head; rest = source ∷ now ∷ js; all = refl; counts = w.counts; counted = w.counted; is = w.is; tells = w.tells }

-- the law
pub taken_is_recorded_text : TakenIsRecordedText
taken_is_recorded_text readings t bench is =
    let small = tested-back (nat_le (length t) most_bench_bytes) _ bench is in
    let values = and_then-back (recorded_bench readings) (option_and_then (spelled_values readings) (text_lines t)) bench small in
    let ls = and_then-back (spelled_values readings) (text_lines t) values.0 values.1 in
    let written = recorded-written readings values.0 bench values.2 in
    let f = written.counts.format in (
      f,
      (counts-from written.head written.counts written.counted).known,
      text-of-values readings t ls.0 values.0 ls.1 ls.2 ∙ lines-are-ended values.0
          ∙ ap ended written.is ∙ sym (lines-are-ended (recorded_values f bench)),
    )
