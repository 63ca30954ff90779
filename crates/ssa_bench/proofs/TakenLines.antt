-- Laws of taking a bench from the lines of its file, one by one.
use Rattle.std.proofs.Common.{◌≡◌, ◌<◌, ◌≤◌, ◌+◌, ℕ, subst, List, [], ◌∷◌, length, take, Bool, true, false, not, ◌&&◌, ◌||◌, Option, Some, None, refl, sym, ap, ◌∙◌, arith}
use Rattle.std.specs.List.{All}
use Rattle.std.proofs.lemmas.List.Elements.{All-cons, All-head, All-tail, All-take}
use Rattle.std.proofs.lemmas.Bool.Decides.{nat_tests}
use Rattle.std.proofs.lemmas.Option.{none-some}
use Rattle.std.specs.Prelude.{codes, if◌then◌else◌, nat_lt, Result, Ok, Err}
use Rattle.ssa_model.specs.definitions.Json.{Json, compact, same_text, member_at}
use Rattle.ssa_model.specs.definitions.BenchText.{Format}
use Rattle.ssa_model.specs.definitions.Commands.{value_in}
use Rattle.ssa_model.specs.definitions.Entries.{text_json, version_in}
use Rattle.ssa_model.specs.definitions.Formats.{can_tell_line, tells_parts}
use Rattle.ssa_model.specs.definitions.Kind.{Kind}
use Rattle.ssa_model.specs.definitions.MemberNames.{has_rising_names}
use Rattle.ssa_model.specs.definitions.Operations.{State}
use Rattle.ssa_model.specs.definitions.Replies.{label_json}
use Rattle.ssa_model.specs.definitions.Schema as schemas
use Rattle.ssa_model.specs.definitions.Schema.{Schema}
use Rattle.ssa_model.specs.definitions.History.{Bench, Label, applied, updated, stripped, Step, Timeline, appended, forgotten, last_state, past_len, present, preceded}
use Rattle.ssa_model.specs.definitions.BenchFile.{IsLabel, IsReadBack, IsStep, IsValidBench}
use Rattle.ssa_model.specs.definitions.Record.{record_of}
use Rattle.ssa_model.specs.definitions.RecordReading.{Test, has_members, is_record_shape, HasReadPaths, IsReadState}
use Rattle.ssa_model.specs.definitions.RecordText.{record_json}
use Rattle.ssa_model.specs.definitions.RecordedBench.{HasReadHistory, HasReadStep}
use Rattle.ssa_model.specs.definitions.Table.{Table}
use Rattle.ssa_model.specs.definitions.ToldParts.{has_subresource, tells_subresource}
use Rattle.ssa_model.specs.definitions.Valid.{AllEntries, IsNextStep, IsValidHistory, IsValidState, KeepsOrder, MakesNamed, MakesValid, is_named}
use Rattle.ssa_model.specs.definitions.BenchOfStates.{given_if, is_label, is_written_as, label_in, said_label, schema_in}
use Rattle.ssa_model.specs.definitions.BenchFaults.{is_label_shape, is_move_shape, MoveFault, no_move_text, record_does_not_fit, told_value, value_move}
use Rattle.ssa_model.specs.laws.RecordedMoves.{IsReadBackState, LineIsMove, LineOfParts, MisfitIsTold, ShapelessIsNoMove, TellsLines}
use Rattle.ssa_model.proofs.Given.{given-back}
use Rattle.ssa_model.proofs.RecordsBack.{record_texts_have_shape}
use Rattle.ssa_model.proofs.ValidHistories.{next_keeps_history}
use Rattle.ssa_model.proofs.ValidTimelines.{present_valid}
use Rattle.ssa_json.specs.Readings.{readings}
use Rattle.ssa_json.specs.View.{view}
use Rattle.ssa_schema.specs.Schemas.{Faults}
use Rattle.ssa_schema.specs.declared.fault.SchemaFault.{SchemaFault}
use Rattle.ssa_schema.specs.declared.fault.SchemaFault.TheVariants as faults
use Rattle.ssa_schema.specs.declared.fault.SchemaFault.TheVariants.{SchemaKeyword, SchemaShape, SchemaKeys, SchemaDepth}
use Rattle.ssa_told.specs.LineValues.{IsLine, line_shape}
use Rattle.ssa_record.specs.RecordAnswers.{IsAnswer, IsFitting, IsMisfit}
use Rattle.ssa_record.specs.declared.read_record.RecordAnswer.{RecordAnswer}
use Rattle.ssa_record.specs.declared.read_record.RecordAnswer.TheVariants.{NoRecord, Misfit, Fits}
use Rattle.ssa_told.specs.declared.line_values.LineValues.{LineValues}
use Rattle.ssa_turn.specs.Histories.{label_view}
use Rattle.ssa_turn.specs.declared.label.Label as labels
use Rattle.ssa_turn_state.specs.declared.live_state.StateDelta.{StateDelta}
use Rattle.ssa_bench.specs.Taking.{IsTaken as IsTakenFrom, IsToldMove, TellsMove, answered_step, of_schema_fault, written_label}

-- ---- the head

-- ---- the schema

abbrev schema_by : Json → Result Kind schemas.SchemaFault → Option Schema
schema_by v r = elim r [ Ok kind ↦ Some (record { source = v; kind = kind }) | Err f ↦ None ]

-- a schema whose kind was read from its value is the one in the value
pub schema-taken : (v : Json) (s : Schema) → s.source ≡ v → schemas.read_schema v ≡ Ok s.kind → schema_in v ≡ Some s
schema-taken v s source read = ap (schema_by v) read ∙ (λ i. Some (record { source = sym source i; kind = s.kind }))

-- where a schema is refused, its value has none, and the fault is told
pub schema-refused : (f : SchemaFault) (v : Json) → Faults f (schemas.read_schema v) → IsTakenFrom (Err (of_schema_fault f)) (schema_in v)
schema-refused SchemaKeyword v h = ap (schema_by v) h
schema-refused SchemaShape v h = ap (schema_by v) h
schema-refused SchemaKeys v h = ap (schema_by v) h
schema-refused SchemaDepth v h = ap (schema_by v) h
schema-refused faults.OutOfMemory v h = tt

-- ---- a command's label

-- where one is said, it is written where both have one text
pub said-written : (v : Json) (l : Label) (same : Bool) → label_in readings v ≡ Some l → same ≡ same_text (compact (label_json l)) (compact v)
    → written_label v ≡ given_if same l
said-written v l same said is =
    let got = given-back (is_label readings (said_label v)) (said_label v) l said in
    ap (λ b. given_if (is_written_as (label_json (said_label v)) v && b) (said_label v)) got.0
    ∙ ap (λ k. given_if (is_written_as (label_json k) v && true) k) got.1
    ∙ ap (λ b. given_if (b && true) l) (sym is)
    ∙ lone same
  where
    lone : (b : Bool) → given_if (b && true) l ≡ given_if b l
    lone true = refl
    lone false = refl

-- ---- the present state

last-read : (s : State) (ts : List Step) → HasReadPaths readings s.body → AllEntries (IsReadBack readings) s.table → All (HasReadStep readings) ts
    → All (IsStep readings) ts
    → HasReadPaths readings (last_state s ts).body × AllEntries (IsReadBack readings) (last_state s ts).table
last-read s [] paths table read steps = (paths, table)
last-read s (t ∷ ts) paths table read steps =
    last-read t.state ts (All-head (HasReadStep readings) t ts read) (All-head (IsStep readings) t ts steps).table (All-tail (HasReadStep readings) t ts read)
    (All-tail (IsStep readings) t ts steps)

-- the present state of a valid bench whose paths are read is one that is read back
pub present-read : (bench : Bench) → IsValidBench readings bench → HasReadHistory readings bench.timeline
    → IsReadBackState readings bench.schema.kind (present bench.timeline)
present-read bench valid read =
    let t = bench.timeline in
    let last = last-read t.first (take t.place t.later) read.first valid.first (All-take (HasReadStep readings) t.place t.later read.later)
    (All-take (IsStep readings) t.place t.later valid.steps) in
    record { valid = present_valid bench.schema.kind t valid.states; paths = last.0; table = last.1 }

-- a valid bench tells the lines of its moves
pub lines-told : (bench : Bench) → IsValidBench readings bench → TellsLines bench
lines-told bench valid = record { accepted = valid.accepted; named = valid.named }

label-named : (l : Label) → IsLabel readings l → is_named l ≡ true
label-named (applied who force at) h = h.0
label-named (updated who at) h = h.0
label-named stripped h = refl

moments-read : (t : Table) → AllEntries (IsReadBack readings) t → AllEntries (λ e. readings.moment e.moment ≡ true) t
moments-read [] h = tt
moments-read (e ∷ es) h = (h.0.moment, moments-read es h.1)

-- ---- the line of a move

-- no label is written where one is asked for
unwritten-shape : (v : Json) → written_label v ≡ None → is_label_shape readings v ≡ false
unwritten-shape v none = by (is_label_shape readings v) none
  where
    by : (b : Bool) → given_if b (said_label v) ≡ None → b ≡ false
    by true h = absurd (none-some (said_label v) (sym h))
    by false h = refl

-- a line has the shape of a move where its label has the shape of one and its record too
pub shape-of : (l : LineValues) (v : Json) → IsLine l v → is_move_shape readings v
    ≡ (is_label_shape readings (view l.command.now) && is_record_shape readings (view l.record.now))
shape-of l v line = line.shape (is_label_shape readings) (is_record_shape readings)

-- a line whose label is not the text of one has not the shape of a move
pub no-label : (l : LineValues) (v : Json) → IsLine l v → written_label (view l.command.now) ≡ None → is_move_shape readings v ≡ false
no-label l v line none = shape-of l v line ∙ ap (λ b. b && is_record_shape readings (view l.record.now)) (unwritten-shape (view l.command.now) none)

-- a line whose record has not the shape of one has not the shape of a move
pub no-record : (l : LineValues) (v : Json) → IsLine l v → is_record_shape readings (view l.record.now) ≡ false → is_move_shape readings v ≡ false
no-record l v line none = shape-of l v line ∙ ap (λ b. is_label_shape readings (view l.command.now) && b) none
    ∙ never (is_label_shape readings (view l.command.now))
  where
    never : (b : Bool) → (b && false) ≡ false
    never true = refl
    never false = refl

-- a line with a label's text and a record of the right shape has the shape of a move
pub has-shape : (l : LineValues) (v : Json) (label : Label) → IsLine l v → written_label (view l.command.now) ≡ Some label
    → is_record_shape readings (view l.record.now) ≡ true
    → is_move_shape readings v ≡ true
has-shape l v label line written shape =
    let got = given-back (is_label_shape readings (view l.command.now)) (said_label (view l.command.now)) label written in
    shape-of l v line ∙ (λ i. got.0 i && shape i)

-- the record's value, under the version of the bench
record-value : (bench : Bench) (l : LineValues) (v : Json) (from to : State) → IsLine l v
    → value_in (member_at (codes "record") v) ≡ record_json (version_in bench.identity.version) bench.schema.kind (record_of from to)
    → view l.record.now ≡ record_json (version_in bench.identity.version) bench.schema.kind (record_of from to)
record-value bench l v from to line is = ap value_in (sym line.written) ∙ is

-- ---- what the format of a line can tell

abbrev told_if : Bool → Result (Label × State) MoveFault → Result (Label × State) MoveFault
told_if b r = if b then r else Err no_move_text

-- a line of which the format cannot tell is no move's text
pub untold : (f : Format) (bench : Bench) (s : State) (v : Json) → can_tell_line f v ≡ false → told_value readings f bench s v ≡ Err no_move_text
untold f bench s v h = ap (λ b. told_if b (value_move readings bench s v)) h

-- one of which it can tell is told as in any
told-as : (f : Format) (bench : Bench) (s : State) (v : Json) → can_tell_line f v ≡ true → told_value readings f bench s v ≡ value_move readings bench s v
told-as f bench s v h = ap (λ b. told_if b (value_move readings bench s v)) h

-- what is no move's text is none in any format
never-told : (f : Format) (bench : Bench) (s : State) (v : Json) → value_move readings bench s v ≡ Err no_move_text
    → told_value readings f bench s v ≡ Err no_move_text
never-told f bench s v h = by (can_tell_line f v)
  where
    by : (b : Bool) → told_if b (value_move readings bench s v) ≡ Err no_move_text
    by true = h
    by false = refl

-- whether the format can tell of a line is told by its command and its record
pub line-can-tell : (f : Format) (l : LineValues) (v : Json) → IsLine l v
    → (tells_parts f || not (has_subresource (view l.command.now) || tells_subresource (view l.record.now))) ≡ can_tell_line f v
line-can-tell f l v line =
    sym (λ i. tells_parts f || not (has_subresource (value_in (line.command i)) || tells_subresource (value_in (line.written i))))

-- a line that has not the shape of a move is refused as no move's text
pub shapeless-told : (f : Format) (bench : Bench) (v : Json) → ShapelessIsNoMove → IsValidBench readings bench → HasReadHistory readings bench.timeline
    → is_move_shape readings v ≡ false
    → told_value readings f bench (present bench.timeline) v ≡ Err no_move_text
shapeless-told f bench v told valid read shape =
    never-told f bench (present bench.timeline) v
    (told readings bench (present bench.timeline) v (lines-told bench valid) (present-read bench valid read) shape)

-- whatever is tested, the value is no line
pub no-line : (v : Json) → ((s t : Test) → has_members (line_shape s t) v ≡ false) → is_move_shape readings v ≡ false
no-line v none = none (is_label_shape readings) (is_record_shape readings)

-- a line whose record does not fit the present state is refused for that
pub misfit-told : (bench : Bench) (l : LineValues) (v : Json) (label : Label) (version : List ℕ) → MisfitIsTold → IsValidBench readings bench
    → HasReadHistory readings bench.timeline
    → version_in bench.identity.version ≡ text_json version → IsLine l v → written_label (view l.command.now) ≡ Some label
    → IsMisfit bench.schema.kind version (present bench.timeline) (view l.record.now)
    → value_move readings bench (present bench.timeline) v ≡ Err record_does_not_fit
misfit-told bench l v label version told valid read named line written misfit =
    let now = present bench.timeline in
    let here = present-read bench valid read in
    told readings bench now v (lines-told bench valid) here (has-shape l v label line written misfit.shape)
    (λ w valid_next order read_next is. misfit.none w (record {
      valid = valid_next;
      order = order;
      read_from = record { paths = here.paths; moments = moments-read now.table here.table };
      read_to = read_next;
      value = record-value bench l v now w line is ∙ ap (λ t. record_json t bench.schema.kind (record_of now w)) named;
    }))

-- the line whose record was made ready is that of the move
pub move-told : (f : Format) (bench : Bench) (l : LineValues) (v : Json) (label : labels.Label) (version : List ℕ) (d : StateDelta) (w : State) → LineIsMove → LineOfParts
    → IsValidBench readings bench → HasReadHistory readings bench.timeline → version_in bench.identity.version ≡ text_json version → has_rising_names v ≡ true
    → IsLine l v → written_label (view l.command.now) ≡ Some (label_view label) → is_record_shape readings (view l.record.now) ≡ true
    → IsFitting bench.schema.kind version (present bench.timeline) w (view l.record.now) d → can_tell_line f v ≡ true
    → IsToldMove f bench (record { label = label; delta = d }) v w
move-told f bench l v label version d w moves parts valid read named rise line written shape fitting tells =
    let now = present bench.timeline in
    let kind = bench.schema.kind in
    let here = present-read bench valid read in
    let got = given-back (is_label_shape readings (view l.command.now)) (said_label (view l.command.now)) (label_view label) written in
    let said = ap (λ o. said_label (value_in o)) line.command ∙ got.1 in
    let is = ap value_in line.written ∙ fitting.value ∙ (λ i. record_json (sym named i) kind (fitting.takes.is i)) in
    let whole = parts readings bench (label_view label) now w v (has-shape l v (label_view label) line written shape) rise said is in
    let there : IsReadBackState readings kind w = record { valid = fitting.takes.to; paths = fitting.read.paths; table = fitting.table } in
    record {
      move = told-as f bench now v tells ∙ ap (value_move readings bench now) whole.0 ∙ moves readings bench (label_view label) now w (lines-told bench valid) whole.1 here there
          fitting.takes.order;
      takes = fitting.takes;
      room = fitting.room;
      back = fitting.table;
      named = label-named (label_view label) whole.1;
    }

-- what is told of a line whose record was looked at
pub told-answer : (f : Format) (bench : Bench) (l : LineValues) (v : Json) (label : labels.Label) (version : List ℕ) → LineIsMove → ShapelessIsNoMove → MisfitIsTold
    → LineOfParts
    → IsValidBench readings bench → HasReadHistory readings bench.timeline → version_in bench.identity.version ≡ text_json version → has_rising_names v ≡ true
    → IsLine l v → written_label (view l.command.now) ≡ Some (label_view label) → can_tell_line f v ≡ true
    → (a : RecordAnswer) → IsAnswer bench.schema.kind version (present bench.timeline) (view l.record.now) a → TellsMove f bench (answered_step label a) v
told-answer f bench l v label version moves shapeless misfits parts valid read named rise line written tells NoRecord h =
    shapeless-told f bench v shapeless valid read (no-record l v line h)
told-answer f bench l v label version moves shapeless misfits parts valid read named rise line written tells Misfit h =
    told-as f bench (present bench.timeline) v tells
    ∙ misfit-told bench l v (label_view label) version misfits valid read named line written h
told-answer f bench l v label version moves shapeless misfits parts valid read named rise line written tells (Fits d) h =
    let w = h.0 in
    let fitting = h.1 in
    let now = present bench.timeline in
    let kind = bench.schema.kind in
    let here = present-read bench valid read in
    let from : IsReadState readings now = record { paths = here.paths; moments = moments-read now.table here.table } in
    let shape = ap (is_record_shape readings) (fitting.value ∙ ap (record_json (text_json version) kind) fitting.takes.is)
    ∙ record_texts_have_shape readings version kind now w here.valid fitting.takes.to from fitting.read in
    (w, move-told f bench l v label version d w moves parts valid read named rise line written shape fitting tells)

-- ---- the history behind a move

-- a state before all others, which the record led to
pub preceded-history : (kind : Kind) (depth : ℕ) (t : Timeline) (label : Label) (w : State) → IsValidHistory kind depth t → length t.later < depth
    → IsValidState kind w → KeepsOrder t.first.table w.table → is_named label ≡ true → IsValidHistory kind depth (preceded t label w)
preceded-history kind depth t label w h few valid order named =
    let s : Step = record { label = label; state = t.first } in
    record {
      states = record { first = valid; later = All-cons (MakesValid kind) s t.later h.states.first h.states.later };
      order = (sym order, h.order);
      names = All-cons MakesNamed s t.later named h.names;
      few = omega (arith, few);
    }

-- a state behind the present one, where the history is shorter than its depth
pub appended-history : (kind : Kind) (depth : ℕ) (t : Timeline) (label : Label) (w : State) → IsValidHistory kind depth t → t.place ≤ length t.later
    → past_len t < depth → IsValidState kind w → IsNextStep t label w → IsValidHistory kind depth (appended t label w)
appended-history kind depth t label w h within few valid next =
    subst (λ b. IsValidHistory kind depth (if b then forgotten (appended t label w) else appended t label w)) (kept depth t.place few)
    (next_keeps_history kind depth t label w h within valid next)
  where
    kept : (depth place : ℕ) → place < depth → nat_lt depth (place + 1) ≡ false
    kept depth place lt = grind (arith, nat_tests)
