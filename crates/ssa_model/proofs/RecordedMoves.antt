-- What is taken from one line of a bench file of records: a move between two states, or the line's fault.
use Rattle.std.proofs.Common.{◌≡◌, List, [], ◌∷◌, Bool, true, false, ◌&&◌, ◌||◌, Option, Some, None, option_and_then, refl, sym, ap, ◌∙◌, subst, true≢false}
use Rattle.std.proofs.lemmas.Bool.{and_from, and_parts}
use Rattle.std.proofs.lemmas.Option.{same_Some, none-some}
use Rattle.std.specs.Prelude.{if◌then◌else◌, codes, Result, Ok, Err}
use Rattle.std.specs.Cmp.{first_so, second_so}
use Rattle.std.specs.List.{list_any}
use Rattle.std.specs.Ordering.{is_lt, nat_cmp}
use Rattle.std.specs.Cmp.Lexicographic.{slice_cmp}
use Rattle.ssa_model.specs.definitions.Json.{Text, Json, scalar, list, object, Members, no_members, member, member_at, compact, same_text}
use Rattle.ssa_model.specs.definitions.Readings.{Readings}
use Rattle.ssa_model.specs.definitions.Commands.{value_in}
use Rattle.ssa_model.specs.definitions.Entries.{version_in}
use Rattle.ssa_model.specs.definitions.MemberNames.{has_rising_names, is_below, members_rise}
use Rattle.ssa_model.specs.definitions.Objects.{Identity}
use Rattle.ssa_model.specs.definitions.Operations.{State}
use Rattle.ssa_model.specs.definitions.Replies.{label_json}
use Rattle.ssa_model.specs.definitions.Schema.{has_member}
use Rattle.ssa_model.specs.definitions.Table.{Table}
use Rattle.ssa_model.specs.definitions.History.{Label, Bench}
use Rattle.ssa_model.specs.definitions.Answers.{Fault, file_state}
use Rattle.ssa_model.specs.definitions.BenchText.{whole_object}
use Rattle.ssa_model.specs.definitions.Valid.{AllEntries, IsValidState, KeepsOrder}
use Rattle.ssa_model.specs.definitions.BenchFile.{IsReadBack, IsLabel}
use Rattle.ssa_model.specs.definitions.Record.{Record, record_of}
use Rattle.ssa_model.specs.definitions.Carry.{carry}
use Rattle.ssa_model.specs.definitions.RecordText.{record_json}
use Rattle.ssa_model.specs.definitions.RecordReading.{MemberShape, must_have, are_members_of, is_record_shape, record_in, has_read_paths, IsReadState}
use Rattle.ssa_model.specs.definitions.RecordedBench.{record_line}
use Rattle.ssa_model.specs.definitions.BenchOfStates.{given_if, is_written_as, said_label, is_label, label_in, keeps_order}
use Rattle.ssa_model.specs.definitions.BenchOfRecords.{led_state, is_move, move_to, move_in}
use Rattle.ssa_model.specs.definitions.BenchFaults.{MoveFault, no_move_text, record_does_not_fit, is_label_shape, is_move_shape, refused_fault, value_move}
use Rattle.ssa_model.specs.laws.RecordedMoves.{IsReadBackState, TellsLines, IsRecordLineOf, LineIsMove, ShapelessIsNoMove, MisfitIsTold, LineOfParts}
use Rattle.ssa_model.proofs.CompactTexts.{compact-injective}
use Rattle.ssa_model.proofs.Given.{given-back, and_then-back}
use Rattle.ssa_model.proofs.ReadPaths.{read-paths-by, read-paths-test}
use Rattle.ssa_model.proofs.RecordTakes.{record_leads}
use Rattle.ssa_model.proofs.RecordedFaults.{moves_have_shape}
use Rattle.ssa_model.proofs.RecordsBack.{record_texts_are_read}
use Rattle.ssa_model.proofs.ShownObjects.{identity-parts}
use Rattle.ssa_model.proofs.Tables.{either, same_text-true}
use Rattle.ssa_model.proofs.TakenOfWritten.{written-itself, label-back, is_label-by, keeps_order-by, keeps_order-of, state-back}
use Rattle.ssa_model.proofs.TakenStates.{object-state-valid}

moments-of : (readings : Readings) (t : Table) → AllEntries (IsReadBack readings) t → AllEntries (λ e. readings.moment e.moment ≡ true) t
moments-of readings [] h = tt
moments-of readings (e ∷ es) h = (h.0.moment, moments-of readings es h.1)

-- one text is one value
written-same : (v w : Json) → is_written_as v w ≡ true → v ≡ w
written-same v w h = compact-injective v w (same_text-true (compact v) (compact w) h)

module _ (readings : Readings) (bench : Bench) (tells : TellsLines bench) where
  abbrev IsGood : State → Type 0
  IsGood = IsReadBackState readings bench.schema.kind

  read-state : (v : State) → IsGood v → IsReadState readings v
  read-state v a = record { paths = a.paths; moments = moments-of readings v.table a.table }

  -- ---- the line of a move

  record-is : (v w : State) → IsGood v → IsGood w
      → record_in readings bench.schema.kind (record_json (version_in bench.identity.version) bench.schema.kind (record_of v w)) ≡ record_of v w
  record-is v w a b =
      let p = identity-parts bench.identity tells.named in
      ap (λ (i : Identity). record_in readings bench.schema.kind (record_json (version_in i.version) bench.schema.kind (record_of v w))) p.is
      ∙ record_texts_are_read readings p.version bench.schema.kind v w tells.accepted a.valid b.valid (read-state v a) (read-state w b)

  led-back : (label : Label) (v w : State) → IsGood v → IsGood w → KeepsOrder v.table w.table
      → led_state readings bench v (record_line bench label v w) ≡ Some w
  led-back label v w a b order =
      let carried = ap (λ (d : Record). carry d v) (record-is v w a b) ∙ record_leads bench.schema.kind v w a.valid b.valid order in
      ap (λ s. of_result (file_state readings bench.schema.kind (whole_object bench s))) carried
      ∙ ap of_result (state-back readings bench tells.named tells.accepted w b.valid b.table)
    where
      of_result : Result State Fault → Option State
      of_result r = elim r [ Ok x ↦ Some x | Err f ↦ None ]

  -- from the line of a move between two states that are read back this move is taken
  pub move-back : (label : Label) (v w : State) → IsLabel readings label → IsGood v → IsGood w → KeepsOrder v.table w.table
      → move_in readings bench v (record_line bench label v w) ≡ Some (label, w)
  move-back label v w h a b order =
      let j = record_line bench label v w in
      ap (option_and_then (λ l. option_and_then (move_to readings bench v j l) (led_state readings bench v j))) (label-back readings label h)
      ∙ ap (option_and_then (move_to readings bench v j label)) (led-back label v w a b order)
      ∙ ap (λ x. given_if x (label, w))
      (and_from (is_written_as j j) (keeps_order v.table w.table && has_read_paths readings w.body) (written-itself j)
      (and_from (keeps_order v.table w.table) (has_read_paths readings w.body) (keeps_order-of v.table w.table order)
      (read-paths-test readings w.body b.paths)))

  -- ---- what is taken

  abbrev of_move : Json → Option (Label × State) → Result (Label × State) MoveFault
  of_move j o = elim o [ Some m ↦ Ok m | None ↦ Err (refused_fault readings j) ]

  -- what is known of a move that is taken from a value
  record IsMoveOf (v : State) (j : Json) (m : Label × State) : Type 0 where
    line : j ≡ record_line bench m.0 v m.1
    label : IsLabel readings m.0
    valid : IsValidState bench.schema.kind m.1
    read : IsReadState readings m.1
    order : KeepsOrder v.table m.1.table

  result-back : (r : Result State Fault) (w : State) → ◌≡◌ {A = Option State} (elim r [ Ok x ↦ Some x | Err f ↦ None ]) (Some w) → r ≡ Ok w
  result-back (Ok x) w h = ap Ok (same_Some x w h)
  result-back (Err f) w h = absurd (none-some w h)

  move-parts : (v : State) (j : Json) (m : Label × State) → move_in readings bench v j ≡ Some m → IsMoveOf v j m
  move-parts v j m is =
      let kind = bench.schema.kind in
      let command = value_in (member_at (codes "command") j) in
      let made = and_then-back _ (label_in readings command) m is in
      let labelled = given-back (is_label readings (said_label command)) (said_label command) made.0 made.1 in
      let led = and_then-back (move_to readings bench v j made.0) (led_state readings bench v j) m made.2 in
      let w = led.0 in
      let carried = carry (record_in readings kind (value_in (member_at (codes "record") j))) v in
      let taken = object-state-valid readings kind bench.identity carried w tells.named tells.accepted (result-back _ w led.1) in
      let got = given-back (is_move readings bench j made.0 v w) (made.0, w) m led.2 in
      let line = record_line bench made.0 v w in
      let tests = and_parts (is_written_as line j) _ got.0 in
      let kept = and_parts (keeps_order v.table w.table) (has_read_paths readings w.body) tests.1 in
      subst (IsMoveOf v j) got.1
      (record {
        line = sym (written-same line j tests.0);
        label = subst (IsLabel readings) labelled.1 (is_label-by readings (said_label command) labelled.0);
        valid = taken.valid;
        read = record { paths = read-paths-by readings w.body kept.1; moments = taken.moments };
        order = keeps_order-by v.table w.table kept.0;
      })

  -- ---- values without the shape, or whose record doesn't fit

  move-shaped : (v : State) (j : Json) (m : Label × State) → IsGood v → IsMoveOf v j m → is_move_shape readings j ≡ true
  move-shaped v j m a move =
      ap (is_move_shape readings) move.line
      ∙ moves_have_shape readings bench m.0 v m.1 tells.named move.label a.valid move.valid (read-state v a) move.read

  shapeless : (v : State) (j : Json) → IsGood v → is_move_shape readings j ≡ false → value_move readings bench v j ≡ Err no_move_text
  shapeless v j a h = by (move_in readings bench v j) refl
    where
      by : (o : Option (Label × State)) → move_in readings bench v j ≡ o → of_move j o ≡ Err no_move_text
      by None is = ap (λ b. Err (if b then record_does_not_fit else no_move_text)) h
      by (Some m) is = absurd (true≢false (sym (move-shaped v j m a (move-parts v j m is)) ∙ h))

  misfit : (v : State) (j : Json) → IsGood v → is_move_shape readings j ≡ true
      → ((w : State) → IsValidState bench.schema.kind w → KeepsOrder v.table w.table → IsReadState readings w → IsRecordLineOf bench j v w → ⊥)
      → value_move readings bench v j ≡ Err record_does_not_fit
  misfit v j a h none = by (move_in readings bench v j) refl
    where
      by : (o : Option (Label × State)) → move_in readings bench v j ≡ o → of_move j o ≡ Err record_does_not_fit
      by None is = ap (λ b. Err (if b then record_does_not_fit else no_move_text)) h
      by (Some m) is =
          let move = move-parts v j m is in
          absurd (none m.1 move.valid move.order move.read (ap (λ x. value_in (member_at (codes "record") x)) move.line))

-- the laws
pub line_is_move : LineIsMove
line_is_move readings bench label v w tells h a b order =
    ap (of_move readings bench tells (record_line bench label v w)) (move-back readings bench tells label v w h a b order)

-- a value that has not the shape of a line is told so
pub shapeless_is_no_move : ShapelessIsNoMove
shapeless_is_no_move readings bench v j tells a h = shapeless readings bench tells v j a h

-- a value of the shape whose record is none from its state to a valid one that is read is told to have one that doesn't fit
pub misfit_is_told : MisfitIsTold
misfit_is_told readings bench v j tells a h none = misfit readings bench tells v j a h none

-- ---- values of the shape

module _ (readings : Readings) where
  abbrev shapes : List MemberShape
  shapes = must_have (codes "command") (is_label_shape readings) ∷ must_have (codes "record") (is_record_shape readings) ∷ []

  abbrev IsMember : Text → Json → Type 0
  IsMember n v = list_any (λ (s : MemberShape). same_text n s.name && s.test v) shapes ≡ true

  -- a member is the command or the record
  by-name : {A : Type 0} (n : Text) (v : Json) → IsMember n v → (n ≡ codes "command" → is_label_shape readings v ≡ true → A) → (n ≡ codes "record" → A) → A
  by-name n v h first second =
      either (same_text n (codes "command") && is_label_shape readings v) ((same_text n (codes "record") && is_record_shape readings v) || false) h
      (λ both. first (same_text-true n (codes "command") (first_so _ _ both)) (second_so (same_text n (codes "command")) _ both))
      (λ other. either (same_text n (codes "record") && is_record_shape readings v) false other
      (λ both. second (same_text-true n (codes "record") (first_so _ _ both))) (λ none. absurd (true≢false (sym none))))

  abbrev before : Text → Text → Bool
  before n m = is_lt (slice_cmp nat_cmp n m)

  -- no member stands behind the record
  none-behind : {A : Type 0} (n m : Text) (v : Json) → n ≡ codes "record" → IsMember m v → before n m ≡ true → A
  none-behind n m v is h up =
      by-name m v h (λ e _. absurd (true≢false (sym up ∙ (λ i. before (is i) (e i))))) (λ e. absurd (true≢false (sym up ∙ (λ i. before (is i) (e i)))))

  record IsPair (ms : Members) : Type 0 where
    command : Json
    value : Json
    is : ms ≡ member (codes "command") command (member (codes "record") value no_members)
    shaped : is_label_shape readings command ≡ true

  -- what stands behind the command is the record alone
  record-alone : (n : Text) (v : Json) (ms : Members) → n ≡ codes "command" → is_label_shape readings v ≡ true
      → are_members_of shapes ms ≡ true → has_member (codes "record") (member n v ms) ≡ true → is_below n ms ≡ true → members_rise ms ≡ true
      → IsPair (member n v ms)
  record-alone n v no_members is shaped all has up rise = absurd (true≢false (sym has ∙ ap (λ m. has_member (codes "record") (member m v no_members)) is))
  record-alone n v (member m w no_members) is shaped all has up rise =
      by-name m w (first_so _ _ all) (λ e _. absurd (true≢false (sym up ∙ (λ i. before (is i) (e i)))))
      (λ e. record { command = v; value = w; is = (λ i. member (is i) v (member (e i) w no_members)); shaped = shaped })
  record-alone n v (member m w (member l x ms)) is shaped all has up rise =
      by-name m w (first_so _ _ all) (λ e _. absurd (true≢false (sym up ∙ (λ i. before (is i) (e i)))))
      (λ e. none-behind m l x e (first_so _ _ (second_so (list_any (λ (s : MemberShape). same_text m s.name && s.test w) shapes) _ all)) (first_so _ _ rise))

  two-members : (ms : Members) → are_members_of shapes ms ≡ true → has_member (codes "command") ms ≡ true → has_member (codes "record") ms ≡ true
      → members_rise ms ≡ true → IsPair ms
  two-members no_members all command value rise = absurd (true≢false (sym command))
  two-members (member n v ms) all command value rise =
      let own = first_so (list_any (λ (s : MemberShape). same_text n s.name && s.test v) shapes) _ all in
      let rest = second_so (list_any (λ (s : MemberShape). same_text n s.name && s.test v) shapes) _ all in
      let up = first_so (is_below n ms) _ rise in
      let rises = second_so (has_rising_names v) (members_rise ms) (second_so (is_below n ms) _ rise) in
      by-name n v own (λ is shaped. record-alone n v ms is shaped rest value up rises) (λ is. alone n v ms is rest command up)
    where
      alone : (n : Text) (v : Json) (ms : Members) → n ≡ codes "record" → are_members_of shapes ms ≡ true → has_member (codes "command") (member n v ms) ≡ true
          → is_below n ms ≡ true → IsPair (member n v ms)
      alone n v no_members is all has up = absurd (true≢false (sym has ∙ ap (λ m. has_member (codes "command") (member m v no_members)) is))
      alone n v (member m w ms) is all has up = none-behind n m w is (first_so _ _ all) up

-- a value of the shape, whose names rise, is the line of the label and the record that its members say
pub line_of_parts : LineOfParts
line_of_parts readings bench label v w (object ms) shape rise said made =
    let has = second_so (are_members_of (shapes readings) ms) _ shape in
    let p = two-members readings ms (first_so _ _ shape) (first_so (has_member (codes "command") ms) _ has)
    (first_so (has_member (codes "record") ms) _ (second_so (has_member (codes "command") ms) _ has)) rise in
    let tests = and_parts (is_written_as (label_json (said_label p.command)) p.command) (is_label readings (said_label p.command)) p.shaped in
    let own : said_label p.command ≡ label = ap (λ x. said_label (value_in (member_at (codes "command") (object x)))) (sym p.is) ∙ said in
    let command = sym (written-same (label_json (said_label p.command)) p.command tests.0) ∙ ap label_json own in
    let value : p.value ≡ record_json (version_in bench.identity.version) bench.schema.kind (record_of v w) =
    ap (λ x. value_in (member_at (codes "record") (object x))) (sym p.is) ∙ made in (
      ap object p.is ∙ (λ i. object (member (codes "command") (command i) (member (codes "record") (value i) no_members))),
      subst (IsLabel readings) own (is_label-by readings (said_label p.command) tests.1),
    )
line_of_parts readings bench label v w (list vs) shape rise said made = absurd (true≢false (sym shape))
line_of_parts readings bench label v w (scalar s) shape rise said made = absurd (true≢false (sym shape))
