-- From the lines that are written of a valid bench, by records, the bench is taken, and from its file.
use Rattle.std.proofs.Common.{◌≡◌, ◌≤◌, ℕ, zero, suc, ◌+◌, ◌-◌, length, List, [], ◌∷◌, ◌++◌, take, drop, true, ◌&&◌, Option, Some, None, option_map, option_and_then, refl, sym, ap, ◌∙◌, subst, arith, append_assoc, append-nil, length-append, length-drop, eqb-true}
use Rattle.std.proofs.Math.Seq.{take-append_seam, drop-append_seam}
use Rattle.std.proofs.lemmas.Bool.{and_from}
use Rattle.std.proofs.lemmas.List.{take-append-drop, length-take-le}
use Rattle.std.proofs.lemmas.List.Elements.{All-head, All-tail}
use Rattle.std.proofs.lemmas.Option.{none-some}
use Rattle.std.specs.List.{All}
use Rattle.std.specs.Prelude.{if◌then◌else◌, ◌==◌, nat_le, Result, Ok, Err}
use Rattle.ssa_model.specs.definitions.Limits.{most_past, most_bench_bytes}
use Rattle.ssa_model.specs.definitions.Json.{Text, Json}
use Rattle.ssa_model.specs.definitions.Readings.{Readings}
use Rattle.ssa_model.specs.definitions.Schema.{Schema}
use Rattle.ssa_model.specs.definitions.Operations.{State}
use Rattle.ssa_model.specs.definitions.History.{Label, Step, Bench, last_state, present, with_timeline}
use Rattle.ssa_model.specs.definitions.Answers.{Fault, lone_bench, bench_with}
use Rattle.ssa_model.specs.definitions.BenchText.{Format, states, records, parts, depths, whole_object}
use Rattle.ssa_model.specs.definitions.Valid.{MakesValid, KeepsOrder, KeepsOrders}
use Rattle.ssa_model.specs.definitions.BenchFile.{IsLabel, IsStep, IsSpelled, IsValidBench}
use Rattle.ssa_model.specs.definitions.RecordedBench.{record_head, record_line, past_lines, future_lines, past_steps, future_steps, recorded_values, recorded_text, HasReadStep, HasReadHistory}
use Rattle.ssa_model.specs.definitions.Formats.{can_tell_depth, can_tell_state, can_tell_line, CanTellStep, CanTell}
use Rattle.ssa_model.specs.definitions.BenchOfStates.{text_lines, spelled_values, given_if, is_written_as, schema_in}
use Rattle.ssa_model.specs.laws.RecordedMoves.{IsReadBackState, TellsLines}
use Rattle.ssa_model.specs.definitions.BenchOfRecords.{Counts, is_head, counts_in, present_in, move_in, told_move, past_in, future_in, with_moves, lines_bench, recorded_bench, recorded_bench_in}
use Rattle.ssa_model.specs.laws.RecordedBenches.{IsOfRecords, RecordedFilesAreTaken}
use Rattle.ssa_model.proofs.RecordedMoves.{move-back}
use Rattle.ssa_model.proofs.ToldParts.{told-line}
use Rattle.ssa_model.proofs.SpelledValues.{text_lines-of, spelled_values-of}
use Rattle.ssa_model.proofs.TakenOfWritten.{written-itself, schema-back, nat-itself, shown-back}
use Rattle.ssa_model.proofs.Basics.{nat_le-of}

-- ---- the moves of a bench

module _ (readings : Readings) (f : Format) (bench : Bench) (valid : IsValidBench readings bench) where
  abbrev IsGoodState : State → Type 0
  IsGoodState = IsReadBackState readings bench.schema.kind

  -- of a step from a state
  record IsGoodMove (v : State) (s : Step) : Type 0 where
    -- the state before is valid and is read back
    pub from : IsGoodState v
    -- the state of the step is valid and is read back
    pub to : IsGoodState s.state
    -- the step's label is one
    pub label : IsLabel readings s.label
    -- the managers that the two states share stand in one order
    pub order : KeepsOrder v.table s.state.table
    -- the format can tell the managers of the state before
    pub from_tells : can_tell_state f v ≡ true
    -- and the step
    pub tells : CanTellStep f s

  abbrev AreGoodMoves : State → List Step → Type 0
  AreGoodMoves v [] = Unit {0}
  AreGoodMoves v (s ∷ ss) = IsGoodMove v s × AreGoodMoves s.state ss

  good-moves : (v : State) (ss : List Step) → IsGoodState v → All (MakesValid bench.schema.kind) ss → All (IsStep readings) ss → All (HasReadStep readings) ss
      → KeepsOrders v ss → can_tell_state f v ≡ true → All (CanTellStep f) ss → AreGoodMoves v ss
  good-moves v [] good valids steps paths order told tells = tt
  good-moves v (s ∷ ss) good valids steps paths order told tells =
      let step = All-head (IsStep readings) s ss steps in
      let valid_next = All-head (MakesValid bench.schema.kind) s ss valids in
      let read_next = All-head (HasReadStep readings) s ss paths in
      let next : IsGoodState s.state = record { valid = valid_next; paths = read_next; table = step.table } in
      let own = All-head (CanTellStep f) s ss tells in (
        record { from = good; to = next; label = step.label; order = order.0; from_tells = told; tells = own },
        good-moves s.state ss next (All-tail (MakesValid bench.schema.kind) s ss valids) (All-tail (IsStep readings) s ss steps)
            (All-tail (HasReadStep readings) s ss paths) order.1 own.1 (All-tail (CanTellStep f) s ss tells),
      )

  good-take : (n : ℕ) (v : State) (ss : List Step) → AreGoodMoves v ss → AreGoodMoves v (take n ss)
  good-take zero v ss h = tt
  good-take (suc n) v [] h = tt
  good-take (suc n) v (s ∷ ss) h = (h.0, good-take n s.state ss h.1)

  good-drop : (n : ℕ) (v : State) (ss : List Step) → AreGoodMoves v ss → AreGoodMoves (last_state v (take n ss)) (drop n ss)
  good-drop zero v ss h = h
  good-drop (suc n) v [] h = tt
  good-drop (suc n) v (s ∷ ss) h = good-drop n s.state ss h.1

  good-last : (n : ℕ) (v : State) (ss : List Step) → IsGoodState v → AreGoodMoves v ss → IsGoodState (last_state v (take n ss))
  good-last zero v ss good h = good
  good-last (suc n) v [] good h = good
  good-last (suc n) v (s ∷ ss) good h = good-last n s.state ss h.0.to h.1

  lines_told : TellsLines bench
  lines_told = record { accepted = valid.accepted; named = valid.named }

  -- ---- the lines

  -- a line of which the format can tell is taken as its move
  told-back : (label : Label) (v w : State) → IsLabel readings label → IsGoodState v → IsGoodState w → KeepsOrder v.table w.table
      → can_tell_line f (record_line bench label v w) ≡ true → told_move readings f bench v (record_line bench label v w) ≡ Some (label, w)
  told-back label v w h a b order told =
      let j = record_line bench label v w in
      ap (λ t. if t then move_in readings bench v j else None) told ∙ move-back readings bench lines_told label v w h a b order

  past-back : (v : State) (ss : List Step) (rest : List Json) (acc : List Step) → AreGoodMoves v ss
      → past_in readings f bench (last_state v ss) (past_lines bench v ss ++ rest) acc ≡ past_in readings f bench v rest (ss ++ acc)
  past-back v [] rest acc h = refl
  past-back v (s ∷ ss) rest acc h =
      let j = record_line bench s.label s.state v in
      ap (λ js. past_in readings f bench (last_state s.state ss) js acc) (append_assoc (past_lines bench s.state ss) (j ∷ []) rest)
      ∙ past-back s.state ss (j ∷ rest) acc h.1
      ∙ ap (option_and_then (λ m. past_in readings f bench m.1 rest (record { label = m.0; state = s.state } ∷ (ss ++ acc))))
      (told-back s.label s.state v h.0.label h.0.to h.0.from (sym h.0.order)
      (told-line f bench s.label s.state v h.0.tells.0 h.0.tells.1 h.0.from_tells))

  future-back : (v : State) (ss : List Step) → AreGoodMoves v ss → future_in readings f bench v (future_lines bench v ss) ≡ Some ss
  future-back v [] h = refl
  future-back v (s ∷ ss) h =
      ap (option_and_then (λ m. option_map (λ ts. record { label = m.0; state = m.1 } ∷ ts) (future_in readings f bench m.1 (future_lines bench s.state ss))))
      (told-back s.label v s.state h.0.label h.0.from h.0.to h.0.order
      (told-line f bench s.label v s.state h.0.tells.0 h.0.from_tells h.0.tells.1))
      ∙ ap (option_map (λ ts. s ∷ ts)) (future-back s.state ss h.1)

-- back along some steps there are as many lines as steps
pub past-many : (bench : Bench) (v : State) (ss : List Step) → length (past_lines bench v ss) ≡ length ss
past-many bench v [] = refl
past-many bench v (s ∷ ss) =
    let both = length-append (past_lines bench s.state ss) (record_line bench s.label s.state v ∷ []) in
    let rest = past-many bench s.state ss in
    omega (arith, both, rest)

-- on along some steps there are as many lines as steps
pub future-many : (bench : Bench) (v : State) (ss : List Step) → length (future_lines bench v ss) ≡ length ss
future-many bench v [] = refl
future-many bench v (s ∷ ss) = let rest = future-many bench s.state ss in omega (arith, rest)

-- ---- the bench

-- the test of a head is passed by its own numbers
head-passes : (f : Format) (depth past future : ℕ) → (1 ≤ depth) × (depth ≤ most_past) → past + future ≤ depth
    → (is_written_as (record_head f depth past future) (record_head f depth past future) && is_head depth past future) ≡ true
head-passes f depth past future deep few =
    let head = record_head f depth past future in
    and_from (is_written_as head head) (is_head depth past future) (written-itself head)
    (and_from (nat_le 1 depth) (nat_le depth most_past && nat_le (past + future) depth) (nat_le-of 1 depth deep.0)
    (and_from (nat_le depth most_past) (nat_le (past + future) depth) (nat_le-of depth most_past deep.1) (nat_le-of (past + future) depth few)))

counts-back : (f : Format) (depth past future : ℕ) → IsOfRecords f → can_tell_depth f depth ≡ true → (1 ≤ depth) × (depth ≤ most_past) → past + future ≤ depth
    → counts_in (record_head f depth past future) ≡ Some (record { format = f; depth = depth; past = past; future = future })
counts-back states depth past future known told deep few = absurd (none-some states known)
counts-back records depth past future known told deep few =
    ap (λ n. given_if {X = Counts} (is_written_as (record_head records n past future) (record_head records depth past future) && is_head n past future)
    (record { format = records; depth = n; past = past; future = future })) (sym (eqb-true depth most_past told))
    ∙ ap (λ b. given_if {X = Counts} b (record { format = records; depth = depth; past = past; future = future }))
    (head-passes records depth past future deep few)
counts-back parts depth past future known told deep few =
    ap (λ n. given_if {X = Counts} (is_written_as (record_head parts n past future) (record_head parts depth past future) && is_head n past future)
    (record { format = parts; depth = n; past = past; future = future })) (sym (eqb-true depth most_past told))
    ∙ ap (λ b. given_if {X = Counts} b (record { format = parts; depth = depth; past = past; future = future }))
    (head-passes parts depth past future deep few)
counts-back depths depth past future known told deep few =
    ap (λ b. given_if {X = Counts} b (record { format = depths; depth = depth; past = past; future = future }))
    (head-passes depths depth past future deep few)

present-by : (v : Json) (f : Format) (r : Result Bench Fault) (now : Bench)
    → r ≡ Ok now → whole_object now now.timeline.first ≡ v → can_tell_state f now.timeline.first ≡ true
    → elim r
    [ Ok bench ↦ given_if (is_written_as (whole_object bench bench.timeline.first) v && can_tell_state f bench.timeline.first) bench | Err e ↦ None ] ≡ Some now
present-by v f r now is same tells =
    let own = whole_object now now.timeline.first in
    ap
    (λ (r : Result Bench Fault). elim r
    [ Ok bench ↦ given_if (is_written_as (whole_object bench bench.timeline.first) v && can_tell_state f bench.timeline.first) bench | Err e ↦ None ]) is
    ∙ ap (λ b. given_if b now)
    (and_from (is_written_as own v) (can_tell_state f now.timeline.first) (ap (is_written_as own) (sym same) ∙ written-itself own) tells)

module _ (readings : Readings) (f : Format) (known : IsOfRecords f) (bench : Bench) (valid : IsValidBench readings bench)
    (read : HasReadHistory readings bench.timeline) (tells : CanTell f bench) where
  abbrev first : State
  first = bench.timeline.first

  abbrev v : State
  v = present bench.timeline

  abbrev now : Bench
  now = lone_bench bench.depth bench.schema bench.identity v

  abbrev before : List Step
  before = past_steps bench.timeline

  abbrev behind : List Step
  behind = future_steps bench.timeline

  abbrev back_lines : List Json
  back_lines = past_lines bench first before

  abbrev on_lines : List Json
  on_lines = future_lines bench v behind

  abbrev counts : Counts
  counts = record { format = f; depth = bench.depth; past = bench.timeline.place; future = length bench.timeline.later - bench.timeline.place }

  good-first : IsGoodState readings f bench valid first
  good-first = record { valid = valid.states.first; paths = read.first; table = valid.first }

  good-all : AreGoodMoves readings f bench valid first bench.timeline.later
  good-all =
      good-moves readings f bench valid first bench.timeline.later good-first valid.states.later valid.steps read.later valid.order tells.first tells.later

  -- the format can tell the managers of the present state
  told-present : can_tell_state f v ≡ true
  told-present = told-last bench.timeline.place first bench.timeline.later tells.first tells.later
    where
      told-last : (n : ℕ) (w : State) (ss : List Step) → can_tell_state f w ≡ true → All (CanTellStep f) ss → can_tell_state f (last_state w (take n ss)) ≡ true
      told-last zero w ss h all = h
      told-last (suc n) w [] h all = h
      told-last (suc n) w (s ∷ ss) h all = told-last n s.state ss (All-head (CanTellStep f) s ss all).1 (All-tail (CanTellStep f) s ss all)

  present-back : present_in readings f bench.depth bench.schema (whole_object bench v) ≡ Some now
  present-back =
      let good = good-last readings f bench valid bench.timeline.place first bench.timeline.later good-first good-all in
      present-by (whole_object bench v) f (bench_with readings bench.depth bench.schema (whole_object bench v)) now
      (shown-back readings bench valid.named valid.accepted v good.valid good.table bench.depth) refl told-present

  place-many : length back_lines ≡ bench.timeline.place
  place-many = past-many bench first before ∙ length-take-le bench.timeline.place bench.timeline.later valid.place

  past-is : past_in readings f now v (take bench.timeline.place (back_lines ++ on_lines)) [] ≡ Some (first, before)
  past-is =
      ap (λ js. past_in readings f now v js [])
      (ap (λ n. take n (back_lines ++ on_lines)) (sym place-many) ∙ take-append_seam back_lines on_lines ∙ sym (append-nil back_lines))
      ∙ past-back readings f bench valid first before [] [] (good-take readings f bench valid bench.timeline.place first bench.timeline.later good-all)
      ∙ ap (λ ss. Some (first, ss)) (append-nil before)

  future-is : future_in readings f now v (drop bench.timeline.place (back_lines ++ on_lines)) ≡ Some behind
  future-is =
      ap (future_in readings f now v) (ap (λ n. drop n (back_lines ++ on_lines)) (sym place-many) ∙ drop-append_seam back_lines on_lines)
      ∙ future-back readings f bench valid v behind (good-drop readings f bench valid bench.timeline.place first bench.timeline.later good-all)

  moves-are : with_moves counts now (back_lines ++ on_lines) (first, before) behind ≡ Some bench
  moves-are =
      let later = bench.timeline.later in
      let place = bench.timeline.place in
      let both = length-append back_lines on_lines in
      let on = future-many bench v behind in
      let left = length-drop place later in
      let all = place + (length later - place) in
      let lines : length (back_lines ++ on_lines) ≡ all = both ∙ (λ i. place-many i + (on ∙ left) i) in
      let many : (length (back_lines ++ on_lines) == all) ≡ true = ap (λ n. n == all) lines ∙ nat-itself all in
      ap (λ b. given_if b (with_timeline now (record { first = first; later = before ++ behind; place = place })))
      many
      ∙ ap (λ ss. Some (with_timeline now (record { first = first; later = ss; place = place }))) (take-append-drop place later)

  few : bench.timeline.place + (length bench.timeline.later - bench.timeline.place) ≤ bench.depth
  few = let within = valid.place in let short = valid.few in omega (arith, within, short)

  abbrev js : List Json
  js = back_lines ++ on_lines

  lines-back : lines_bench readings counts now js ≡ Some bench
  lines-back =
      ap (option_and_then (λ past. option_and_then (with_moves counts now js past) (future_in readings f now v (drop bench.timeline.place js)))) past-is
      ∙ ap (option_and_then (with_moves counts now js (first, before))) future-is
      ∙ moves-are

  -- from the values that are written of the bench it is taken
  pub recorded-back : recorded_bench readings (recorded_values f bench) ≡ Some bench
  recorded-back =
      ap (option_and_then of_counts) (counts-back f bench.depth bench.timeline.place (length bench.timeline.later - bench.timeline.place) known tells.depth valid.deep few)
      ∙ ap (option_and_then (of_schema counts)) (schema-back bench.schema valid.read)
      ∙ ap (option_and_then (λ b. lines_bench readings counts b js)) present-back
      ∙ lines-back
    where
      of_schema : Counts → Schema → Option Bench
      of_schema c schema = option_and_then (λ b. lines_bench readings c b js) (present_in readings c.format c.depth schema (whole_object bench v))

      of_counts : Counts → Option Bench
      of_counts c = option_and_then (of_schema c) (schema_in bench.schema.source)

  recorded-text-back : length (recorded_text f bench) ≤ most_bench_bytes → All (IsSpelled readings) (recorded_values f bench)
      → recorded_bench_in readings (recorded_text f bench) ≡ Some bench
  recorded-text-back h spelled =
      ap (λ b. if b then of_lines (text_lines (recorded_text f bench)) else None) (nat_le-of (length (recorded_text f bench)) most_bench_bytes h)
      ∙ ap of_lines (text_lines-of (recorded_values f bench))
      ∙ ap (option_and_then (recorded_bench readings)) (spelled_values-of readings (recorded_values f bench) spelled)
      ∙ recorded-back
    where
      of_lines : Option (List Text) → Option Bench
      of_lines o = option_and_then (recorded_bench readings) (option_and_then (spelled_values readings) o)

-- the law
pub recorded_files_are_taken : RecordedFilesAreTaken
recorded_files_are_taken readings states t bench known file = absurd (none-some states known)
recorded_files_are_taken readings records t bench known file =
    ap (recorded_bench_in readings) file.text
    ∙ recorded-text-back readings records known bench file.valid file.paths file.tells (subst (λ x. length x ≤ most_bench_bytes) file.text file.fits) file.spelled
recorded_files_are_taken readings parts t bench known file =
    ap (recorded_bench_in readings) file.text
    ∙ recorded-text-back readings parts known bench file.valid file.paths file.tells (subst (λ x. length x ≤ most_bench_bytes) file.text file.fits) file.spelled
recorded_files_are_taken readings depths t bench known file =
    ap (recorded_bench_in readings) file.text
    ∙ recorded-text-back readings depths known bench file.valid file.paths file.tells (subst (λ x. length x ≤ most_bench_bytes) file.text file.fits) file.spelled
