-- Laws of the lines of records: which of them each record of a history gives, and that they make the text.
use Rattle.std.proofs.Common.{◌≡◌, ℕ, zero, suc, ◌+◌, ◌-◌, ◌<◌, ◌≤◌, List, [], ◌∷◌, ◌++◌, length, take, drop, slice_get, flat_map, map, Some, option_map, true, false, refl, sym, ap, subst, ◌∙◌, append_assoc, arith}
use Rattle.std.proofs.lemmas.Bool.{le-ltb, lt-ltb}
use Rattle.std.proofs.lemmas.Grind.{flat_map-append}
use Rattle.std.proofs.lemmas.List.{append-nil, drop_all, take_more}
use Rattle.std.proofs.lemmas.List.Elements.{All-cons}
use Rattle.std.proofs.lemmas.Option.{get_or_from_slice_get, none-some, same_Some, slice_get-map, slice_get_within}
use Rattle.std.specs.List.{All}
use Rattle.std.specs.Prelude.{nat_lt, if◌then◌else◌}
use Rattle.ssa_model.specs.definitions.Json.{Text, Json}
use Rattle.ssa_model.specs.definitions.BenchText.{Format, depths, line, whole_object}
use Rattle.ssa_model.specs.definitions.History.{Bench, Label, Step, Timeline, future_len, last_state, moved_to, past_len, present}
use Rattle.ssa_model.specs.definitions.HistoryRecords.{kept_from, kept_to, state_at}
use Rattle.ssa_model.specs.definitions.Kind.{Kind}
use Rattle.ssa_model.specs.definitions.Objects.{Identity}
use Rattle.ssa_model.specs.definitions.Operations.{State}
use Rattle.ssa_model.specs.definitions.Record.{Record, record_of}
use Rattle.ssa_model.specs.definitions.RecordedBench.{future_lines, future_steps, past_lines, past_steps, record_head, record_line, recorded_text, recorded_values}
use Rattle.ssa_model.specs.definitions.Schema.{Schema}
use Rattle.ssa_model.specs.definitions.Takes.{Takes}
use Rattle.ssa_model.specs.definitions.Valid.{AllValid, IsValidHistory, IsValidState, KeepsOrder, KeepsOrders}
use Rattle.ssa_model.proofs.ValidTimelines.{state-valid}
use Rattle.ssa_json.specs.Writable.{IsOfProgram}
use Rattle.ssa_file.specs.Recording.{bench_of, bench_with, future_values, kept_value, opening_values, past_values}
use Rattle.ssa_lines.specs.Saving.{CannotHold}
use Rattle.ssa_lines.specs.declared.saving.SaveFault.{SaveFault}
use Rattle.ssa_lines.proofs.SavingFacts.{lines-refused}
use Rattle.ssa_file.proofs.Walking.{left-from, step-there}
use Rattle.ssa_model.proofs.Tables.{last-push as last_state-push}

-- ---- the states that a record leads between

taken-next : (ss : List Step) (n : ℕ) (s : Step) → slice_get ss n ≡ Some s → take (n + 1) ss ≡ take n ss ++ s ∷ []
taken-next ss n s here = take_more ss n s (slice_get_within ss n s here) ∙ ap (λ x. take n ss ++ x ∷ []) (get_or_from_slice_get ss n s s here)

state-behind : (t : Timeline) (n : ℕ) (s : Step) → slice_get t.later n ≡ Some s → state_at t (n + 1) ≡ s.state
state-behind t n s here = ap (last_state t.first) (taken-next t.later n s here) ∙ last_state-push t.first (take n t.later) s

order-at : (v : State) (ss : List Step) (n : ℕ) (s : Step) → KeepsOrders v ss → slice_get ss n ≡ Some s
    → KeepsOrder (last_state v (take n ss)).table s.state.table
order-at v [] n s kept at = absurd (none-some s at)
order-at v (x ∷ ss) zero s kept at = subst (λ (y : Step). KeepsOrder v.table y.state.table) (same_Some x s at) kept.0
order-at v (x ∷ ss) (suc n) s kept at = order-at x.state ss n s kept.1 at

kept-order : (t : Timeline) (n : ℕ) (s : Step) → KeepsOrders t.first t.later → slice_get t.later n ≡ Some s
    → KeepsOrder (kept_from t n).table (kept_to t n).table
kept-order t n s kept here =
    let order : KeepsOrder (state_at t n).table (state_at t (n + 1)).table =
    subst (λ (w : State). KeepsOrder (state_at t n).table w.table) (sym (state-behind t n s here)) (order-at t.first t.later n s kept here) in
    elim (nat_lt n t.place) as (λ b. KeepsOrder (state_at t (if b then n + 1 else n)).table (state_at t (if b then n else n + 1)).table) [
      | true ↦ sym order
      | false ↦ order
    ]

-- the record of a valid history takes its one state to the other
pub kept-takes : (kind : Kind) (t : Timeline) (n : ℕ) (s : Step) (d : Record) → (m : ℕ) × IsValidHistory kind m t → slice_get t.later n ≡ Some s
    → d ≡ record_of (kept_from t n) (kept_to t n) → Takes kind d (kept_from t n) (kept_to t n)
kept-takes kind t n s d valid here is = record {
  from = state-valid kind t (if nat_lt n t.place then n + 1 else n) valid.1.states;
  to = state-valid kind t (if nat_lt n t.place then n else n + 1) valid.1.states;
  order = kept-order t n s valid.1.order here;
  is = is;
}

-- the line with the label of the step is the step's
pub kept-is : (schema : Schema) (identity : Identity) (t : Timeline) (n : ℕ) (s : Step) (label : Label) → slice_get t.later n ≡ Some s
    → slice_get (map (λ x. x.label) t.later) n ≡ Some label
    → record_line (bench_with schema identity t) label (kept_from t n) (kept_to t n) ≡ kept_value schema identity t n s
kept-is schema identity t n s label here labelled =
    let told = same_Some label s.label (sym labelled ∙ slice_get-map (λ x. x.label) t.later n ∙ ap (option_map (λ x. x.label)) here) in
    ap (λ l. record_line (bench_with schema identity t) l (kept_from t n) (kept_to t n)) told

-- ---- the lines that are left

-- those back from the state after so many commands
abbrev pub past_left : Schema → Identity → Timeline → ℕ → List Json
past_left schema identity t n = past_lines (bench_with schema identity t) t.first (take n t.later)

-- and those on from there
abbrev pub future_left : Schema → Identity → Timeline → ℕ → List Json
future_left schema identity t n = future_lines (bench_with schema identity t) (state_at t n) (drop n t.later)

past_lines-push : (bench : Bench) (v : State) (ss : List Step) (s : Step)
    → past_lines bench v (ss ++ s ∷ []) ≡ record_line bench s.label s.state (last_state v ss) ∷ past_lines bench v ss
past_lines-push bench v [] s = refl
past_lines-push bench v (t ∷ ss) s = ap (λ js. js ++ record_line bench t.label t.state v ∷ []) (past_lines-push bench t.state ss s)

-- the next line back is the record's before it
pub past-next : (schema : Schema) (identity : Identity) (t : Timeline) (n : ℕ) (s : Step) → slice_get t.later n ≡ Some s → n < t.place
    → past_left schema identity t (n + 1) ≡ kept_value schema identity t n s ∷ past_left schema identity t n
past-next schema identity t n s here before =
    let bench = bench_with schema identity t in
    let rest = past_left schema identity t n in
    let test = lt-ltb n t.place before in
    let from : s.state ≡ kept_from t n = sym (state-behind t n s here) ∙ ap (λ b. state_at t (if b then n + 1 else n)) (sym test) in
    let to : state_at t n ≡ kept_to t n = ap (λ b. state_at t (if b then n else n + 1)) (sym test) in
    ap (past_lines bench t.first) (taken-next t.later n s here)
    ∙ past_lines-push bench t.first (take n t.later) s
    ∙ (λ i. record_line bench s.label (from i) (to i) ∷ rest)

-- the next line on is the record's at it
pub future-next : (schema : Schema) (identity : Identity) (t : Timeline) (n : ℕ) (s : Step) → slice_get t.later n ≡ Some s → t.place ≤ n
    → future_left schema identity t n ≡ kept_value schema identity t n s ∷ future_left schema identity t (n + 1)
future-next schema identity t n s here behind =
    let bench = bench_with schema identity t in
    let rest = drop (n + 1) t.later in
    let test = le-ltb n t.place behind in
    let made = sym (state-behind t n s here) in
    let from : state_at t n ≡ kept_from t n = ap (λ b. state_at t (if b then n + 1 else n)) (sym test) in
    let to : s.state ≡ kept_to t n = made ∙ ap (λ b. state_at t (if b then n else n + 1)) (sym test) in
    ap (future_lines bench (state_at t n)) (left-from t.later n s here)
    ∙ (λ i. record_line bench s.label (from i) (to i) ∷ future_lines bench (made i) rest)

-- the record at a number, and its line, the first of those that are left
pub record NextLine (later : List Step) (n : ℕ) (value : Step → Json) (left next : List Json) : Type 0 where
  -- the step of the record
  pub step : Step
  -- it is the one at the record's number
  pub here : slice_get later n ≡ Some step
  -- its line is the first of those that are left
  pub left_is : left ≡ value step ∷ next

-- where so many lines of the past are done
pub past-line : (schema : Schema) (identity : Identity) (t : Timeline) (past done : ℕ) → past ≡ past_len t → t.place ≤ length t.later → done < past
    → NextLine t.later (past - 1 - done) (kept_value schema identity t (past - 1 - done))
    (past_left schema identity t (past - done)) (past_left schema identity t (past - (done + 1)))
past-line schema identity t past done count within more =
    let n = past - 1 - done in
    let there = step-there t.later n (omega (arith, count, within, more)) in
    let now : past - done ≡ n + 1 = omega (arith, more) in
    let behind : n ≡ past - (done + 1) = omega (arith, more) in
    record {
      step = there.0;
      here = there.1;
      left_is = ap (past_left schema identity t) now
          ∙ past-next schema identity t n there.0 there.1 (omega (arith, count, more))
          ∙ ap (λ m. kept_value schema identity t n there.0 ∷ past_left schema identity t m) behind;
    }

-- and at a number of the future
pub future-line : (schema : Schema) (identity : Identity) (t : Timeline) (n : ℕ) → t.place ≤ n → n < length t.later
    → NextLine t.later n (kept_value schema identity t n) (future_left schema identity t n) (future_left schema identity t (n + 1))
future-line schema identity t n behind within =
    let there = step-there t.later n within in
    record { step = there.0; here = there.1; left_is = future-next schema identity t n there.0 there.1 behind }

-- none are left behind the last command
pub future-done : (schema : Schema) (identity : Identity) (t : Timeline) (n : ℕ) → length t.later ≤ n → future_left schema identity t n ≡ []
future-done schema identity t n past = ap (future_lines (bench_with schema identity t) (state_at t n)) (drop_all n t.later past)

-- ---- a line more

-- the lines so far and those that are left are all of them
pub made-next : (text new whole : Text) (j : Json) (left next : List Json) → left ≡ j ∷ next → text ++ flat_map line left ≡ whole → new ≡ text ++ line j
    → new ++ flat_map line next ≡ whole
made-next text new whole j left next left-is made new-is =
    ap (λ t. t ++ flat_map line next) new-is ∙ append_assoc text (line j) (flat_map line next) ∙ ap (λ js. text ++ flat_map line js) (sym left-is) ∙ made

-- where those that are left are ones that the program makes, so are they with the line
pub of_program-next : (j : Json) (left next : List Json) → left ≡ j ∷ next → IsOfProgram j → All IsOfProgram next → All IsOfProgram left
of_program-next j left next left-is here behind = subst (All IsOfProgram) (sym left-is) (All-cons IsOfProgram j next here behind)

-- where the line is too much, so are all
pub refused-next : (f : SaveFault) (text whole : Text) (j : Json) (left next : List Json) → left ≡ j ∷ next → text ++ flat_map line left ≡ whole
    → CannotHold f (text ++ line j) → CannotHold f whole
refused-next f text whole j left next left-is made h =
    lines-refused f text (line j) (flat_map line next) whole (ap (λ js. text ++ flat_map line js) (sym left-is) ∙ made) h

-- where none are left, all are made
pub all-made : (text whole : Text) (left : List Json) → left ≡ [] → text ++ flat_map line left ≡ whole → text ≡ whole
all-made text whole left none made = sym (append-nil text) ∙ ap (λ js. text ++ flat_map line js) (sym none) ∙ made

-- ---- the text

-- the three lines in front of the records
pub opening-is : (f : Format) (schema : Schema) (identity : Identity) (n : ℕ) (t : Timeline) (none head_text schema_text : Text) (h s p : Json)
    → none ≡ [] → head_text ≡ none ++ line h → schema_text ≡ head_text ++ line s
    → h ≡ record_head f n (past_len t) (future_len t) → s ≡ schema.source → p ≡ whole_object (bench_of schema identity n t) (present t)
    → schema_text ++ (line p ++ []) ≡ flat_map line (opening_values f (bench_of schema identity n t))
opening-is f schema identity n t none head_text schema_text h s p none-is head-is schema-is h-is s-is p-is =
    ap (λ x. x ++ (line p ++ [])) (schema-is ∙ ap (λ x. x ++ line s) (head-is ∙ ap (λ x. x ++ line h) none-is))
    ∙ append_assoc (line h) (line s) (line p ++ [])
    ∙ (λ i. line (h-is i) ++ (line (s-is i) ++ (line (p-is i) ++ [])))

-- three lists of lines, one after the other
in-three : (front back on : List Json) → flat_map line front ++ (flat_map line back ++ flat_map line on) ≡ flat_map line (front ++ (back ++ on))
in-three front back on = ap (λ x. flat_map line front ++ x) (sym (flat_map-append line back on)) ∙ sym (flat_map-append line front (back ++ on))

-- the lines back tell nothing of the depth
past_lines-any : (schema : Schema) (identity : Identity) (n : ℕ) (t : Timeline) (v : State) (ss : List Step)
    → past_lines (bench_with schema identity t) v ss ≡ past_lines (bench_of schema identity n t) v ss
past_lines-any schema identity n t v [] = refl
past_lines-any schema identity n t v (s ∷ ss) =
    ap (λ js. js ++ record_line (bench_with schema identity t) s.label s.state v ∷ []) (past_lines-any schema identity n t s.state ss)

-- nor do those on
future_lines-any : (schema : Schema) (identity : Identity) (n : ℕ) (t : Timeline) (v : State) (ss : List Step)
    → future_lines (bench_with schema identity t) v ss ≡ future_lines (bench_of schema identity n t) v ss
future_lines-any schema identity n t v [] = refl
future_lines-any schema identity n t v (s ∷ ss) =
    ap (λ js. record_line (bench_with schema identity t) s.label v s.state ∷ js) (future_lines-any schema identity n t s.state ss)

module _ (schema : Schema) (identity : Identity) (n : ℕ) (t : Timeline) where
  -- the opening, and the lines back and on, are all lines of the bench
  pub values-are : opening_values depths (bench_of schema identity n t)
      ++ (past_values (bench_with schema identity t) ++ future_values (bench_with schema identity t)) ≡ recorded_values depths (bench_of schema identity n t)
  values-are =
      λ i. opening_values depths (bench_of schema identity n t)
      ++ (past_lines-any schema identity n t t.first (past_steps t) i ++ future_lines-any schema identity n t (present t) (future_steps t) i)

  -- so their texts are the text of its file
  pub texts-are : flat_map line (opening_values depths (bench_of schema identity n t))
      ++ (flat_map line (past_values (bench_with schema identity t)) ++ flat_map line (future_values (bench_with schema identity t)))
      ≡ recorded_text depths (bench_of schema identity n t)
  texts-are =
      in-three (opening_values depths (bench_of schema identity n t)) (past_values (bench_with schema identity t)) (future_values (bench_with schema identity t))
      ∙ ap (flat_map line) values-are
