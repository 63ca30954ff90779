-- What is read of a bench file of records line by line is what is taken of its text, or the fault of its first faulty line.
use Rattle.std.proofs.Common.{◌≡◌, ◌≤◌, ◌<◌, ℕ, zero, suc, ◌+◌, length, List, [], ◌∷◌, ◌++◌, map, take, drop, Bool, true, false, ◌⊎◌, inl, inr, Option, Some, None, option_map, option_and_then, refl, sym, ap, ◌∙◌, arith, append_assoc, append-nil, length-append, length-drop, eqb-true}
use Rattle.std.proofs.Math.Seq.{take-append_seam, drop-append_seam, take-length}
use Rattle.std.proofs.lemmas.Bool.Decides.{nat_tests}
use Rattle.std.proofs.lemmas.List.{drop_all, length-take-le, take-append-drop, take_all}
use Rattle.std.proofs.lemmas.Option.{same_Some, none-some}
use Rattle.std.specs.Prelude.{◌==◌, if◌then◌else◌, nat_le, Result, Ok, Err}
use Rattle.ssa_model.specs.definitions.Answers.{bench_with}
use Rattle.ssa_model.specs.definitions.Json.{Text, Json}
use Rattle.ssa_model.specs.definitions.Limits.{most_bench_bytes}
use Rattle.ssa_model.specs.definitions.Operations.{State}
use Rattle.ssa_model.specs.definitions.Readings.{Readings}
use Rattle.ssa_model.specs.definitions.Schema.{Schema}
use Rattle.ssa_model.specs.definitions.History.{Label, Step, Timeline, Bench, appended, last_state, moved_to, present, with_timeline, preceded}
use Rattle.ssa_model.specs.definitions.BenchText.{Format}
use Rattle.ssa_model.specs.definitions.BenchOfStates.{given_if, schema_in, spelled_value, values_of}
use Rattle.ssa_model.specs.definitions.BenchOfRecords.{Counts, counts_in, present_in, told_move, past_in, future_in, with_moves, lines_bench, recorded_bench, recorded_bench_in}
use Rattle.ssa_model.specs.definitions.BenchFaults.{MoveFault, no_move_text, lines_fault, moves_fault, opening_in, texts_fault, recorded_fault}
use Rattle.ssa_model.specs.definitions.NextLines.{Next, at_end, no_value, value_then, next_value}
use Rattle.ssa_model.specs.laws.LineByLine.{at_last, along, ended_with, at_place, on_from, moves_from, with_part}
use Rattle.ssa_model.proofs.AlongLines.{moves_in, all_moved, IsPlaced, Lands, went, reaches, fault-along, same-fault, part_of, part-went, part-reaches, part-fault, PartFails, FailsBehind}
use Rattle.ssa_model.proofs.Given.{and_then-back, given-back, map-back, tested-back}
use Rattle.ssa_model.proofs.LoneBenches.{lone-parts}
use Rattle.ssa_model.proofs.NextValues.{lines_left, same-first, same-tail, no-values, Stands, stands, none-left}
use Rattle.ssa_model.proofs.RecordedWritten.{present-from}
use Rattle.ssa_model.proofs.TakenOfWritten.{nat-itself}
use Rattle.ssa_model.proofs.Tables.{last-push}
use Rattle.ssa_model.proofs.Basics.{nat_le-of}

-- ---- back along moves

-- these states, the place after so many of their steps
abbrev pub standing_after : ℕ → State → List Step → Timeline
standing_after n v later = record { first = v; later = later; place = n }

preceded-lands : Lands preceded
preceded-lands t l s placed = (refl, omega arith)

-- what stands in a row after moves back
record IsBack (v : State) (acc : List Step) (ms : List (Label × State)) : Type 0 where
  -- the place is at the first state
  pub place : (all_moved preceded (standing_after 0 v acc) ms).place ≡ 0
  -- the first state has as many behind it as there are moves, and those that stood there
  pub many : length (all_moved preceded (standing_after 0 v acc) ms).later ≡ length ms + length acc
  -- the last state is still the last
  pub last : last_state (all_moved preceded (standing_after 0 v acc) ms).first (all_moved preceded (standing_after 0 v acc) ms).later ≡ last_state v acc

is-back : (v : State) (acc : List Step) (ms : List (Label × State)) → IsBack v acc ms
is-back v acc [] = record { place = refl; many = omega arith; last = refl }
is-back v acc (m ∷ ms) =
    let rest = is-back m.1 (record { label = m.0; state = v } ∷ acc) ms in
    let many = rest.many in
    record { place = rest.place; many = omega (arith, many); last = rest.last }

past-moved : (readings : Readings) (f : Format) (now : Bench) (v : State) (js : List Json) (acc : List Step) (ms : List (Label × State))
    → moves_in readings f now v js ≡ Some ms
    → past_in readings f now v js acc ≡ Some ((all_moved preceded (standing_after 0 v acc) ms).first, (all_moved preceded (standing_after 0 v acc) ms).later)
past-moved readings f now v [] acc ms is =
    ap (λ ns. Some ((all_moved preceded (standing_after 0 v acc) ns).first, (all_moved preceded (standing_after 0 v acc) ns).later)) (same_Some [] ms is)
past-moved readings f now v (j ∷ js) acc ms is =
    let first = and_then-back (λ m. option_map (λ ns. m ∷ ns) (moves_in readings f now m.1 js)) (told_move readings f now v j) ms is in
    let m = first.0 in
    let later = map-back (λ ns. m ∷ ns) (moves_in readings f now m.1 js) ms first.2 in
    ap (option_and_then (λ m. past_in readings f now m.1 js (record { label = m.0; state = v } ∷ acc))) first.1
    ∙ past-moved readings f now m.1 js (record { label = m.0; state = v } ∷ acc) later.0 later.1
    ∙ ap (λ ns. Some ((all_moved preceded (standing_after 0 v acc) ns).first, (all_moved preceded (standing_after 0 v acc) ns).later)) later.2

moves-of-past : (readings : Readings) (f : Format) (now : Bench) (v : State) (js : List Json) (acc : List Step) (r : State × List Step)
    → past_in readings f now v js acc ≡ Some r
    → (ms : List (Label × State)) × (moves_in readings f now v js ≡ Some ms) × (length ms ≡ length js)
moves-of-past readings f now v [] acc r is = ([], refl, refl)
moves-of-past readings f now v (j ∷ js) acc r is =
    let first = and_then-back (λ m. past_in readings f now m.1 js (record { label = m.0; state = v } ∷ acc)) (told_move readings f now v j) r is in
    let m = first.0 in
    let rest = moves-of-past readings f now m.1 js (record { label = m.0; state = v } ∷ acc) r first.2 in (
      m ∷ rest.0,
      ap (option_and_then (λ m. option_map (λ ns. m ∷ ns) (moves_in readings f now m.1 js))) first.1 ∙ ap (option_map (λ ns. m ∷ ns)) rest.1,
      ap suc rest.2,
    )

moves-many : (readings : Readings) (f : Format) (now : Bench) (v : State) (js : List Json) (ms : List (Label × State)) → moves_in readings f now v js ≡ Some ms
    → length ms ≡ length js
moves-many readings f now v [] ms is = sym (ap length (same_Some [] ms is))
moves-many readings f now v (j ∷ js) ms is =
    let first = and_then-back (λ m. option_map (λ ns. m ∷ ns) (moves_in readings f now m.1 js)) (told_move readings f now v j) ms is in
    let m = first.0 in
    let later = map-back (λ ns. m ∷ ns) (moves_in readings f now m.1 js) ms first.2 in
    sym (ap length later.2) ∙ ap suc (moves-many readings f now m.1 js later.0 later.1)

-- ---- on along moves

-- these states, the place at the last of them
abbrev pub to_last : State → List Step → Timeline
to_last v later = standing_after (length later) v later

abbrev step_of : Label × State → Step
step_of m = record { label = m.0; state = m.1 }

appended-lands : Lands appended
appended-lands t l s placed =
    let step : Step = record { label = l; state = s } in
    let before = take t.place t.later in
    let many = length-take-le t.place t.later placed in
    let all = length-append before (step ∷ []) in
    let fits : length (before ++ step ∷ []) ≤ t.place + 1 = omega (arith, many, all) in
    let placed_at : t.place + 1 ≤ length (before ++ step ∷ []) = omega (arith, many, all) in
    (ap (last_state t.first) (take_all (t.place + 1) (before ++ step ∷ []) fits) ∙ last-push t.first before step, placed_at)

-- a state behind the last one
pub appended-last : (v : State) (ls : List Step) (l : Label) (s : State) → appended (to_last v ls) l s ≡ to_last v (ls ++ record { label = l; state = s } ∷ [])
appended-last v ls l s =
    let step : Step = record { label = l; state = s } in
    let place : length ls + 1 ≡ length (ls ++ step ∷ []) = sym (length-append ls (step ∷ [])) in
    λ i. record { first = v; later = take-length ls i ++ step ∷ []; place = place i }

on-moved : (v : State) (ls : List Step) (ms : List (Label × State)) → all_moved appended (to_last v ls) ms ≡ to_last v (ls ++ map step_of ms)
on-moved v ls [] = ap (to_last v) (sym (append-nil ls))
on-moved v ls (m ∷ ms) =
    ap (λ t. all_moved appended t ms) (appended-last v ls m.0 m.1) ∙ on-moved v (ls ++ step_of m ∷ []) ms
    ∙ ap (to_last v) (append_assoc ls (step_of m ∷ []) (map step_of ms))

future-moved : (readings : Readings) (f : Format) (now : Bench) (v : State) (js : List Json) (ms : List (Label × State)) → moves_in readings f now v js ≡ Some ms
    → future_in readings f now v js ≡ Some (map step_of ms)
future-moved readings f now v [] ms is = ap (λ ns. Some (map step_of ns)) (same_Some [] ms is)
future-moved readings f now v (j ∷ js) ms is =
    let first = and_then-back (λ m. option_map (λ ns. m ∷ ns) (moves_in readings f now m.1 js)) (told_move readings f now v j) ms is in
    let m = first.0 in
    let later = map-back (λ ns. m ∷ ns) (moves_in readings f now m.1 js) ms first.2 in
    ap (option_and_then (λ m. option_map (λ ss. record { label = m.0; state = m.1 } ∷ ss) (future_in readings f now m.1 js))) first.1
    ∙ ap (option_map (λ ss. step_of m ∷ ss)) (future-moved readings f now m.1 js later.0 later.1)
    ∙ ap (λ ns. Some (map step_of ns)) later.2

moves-of-future : (readings : Readings) (f : Format) (now : Bench) (v : State) (js : List Json) (ss : List Step) → future_in readings f now v js ≡ Some ss
    → (ms : List (Label × State)) × (moves_in readings f now v js ≡ Some ms)
moves-of-future readings f now v [] ss is = ([], refl)
moves-of-future readings f now v (j ∷ js) ss is =
    let first = and_then-back (λ m. option_map (λ xs. record { label = m.0; state = m.1 } ∷ xs) (future_in readings f now m.1 js)) (told_move readings f now v j) ss
    is in
    let m = first.0 in
    let later = map-back (λ xs. step_of m ∷ xs) (future_in readings f now m.1 js) ss first.2 in
    let rest = moves-of-future readings f now m.1 js later.0 later.1 in (
      m ∷ rest.0,
      ap (option_and_then (λ m. option_map (λ ns. m ∷ ns) (moves_in readings f now m.1 js))) first.1 ∙ ap (option_map (λ ns. m ∷ ns)) rest.1,
    )

take-none : {X : Type 0} (n : ℕ) → take {A = X} n [] ≡ []
take-none zero = refl
take-none (suc n) = refl

-- ---- the end

abbrev told_bench : Bench → Result Bench MoveFault → Bench
told_bench d (Ok b) = b
told_bench d (Err f) = d

-- what ends with a bench ends with no bytes
pub ended-ok : (readings : Readings) (made bench : Bench) (ys : List ℕ) (left : ℕ) (next : Next) → Stands readings ys left next → at_last made next ≡ Ok bench
    → (ys ≡ []) × (made ≡ bench)
ended-ok readings made bench ys left at_end s h = (s, ap (told_bench made) h)
ended-ok readings made bench ys left no_value s h = absurd cc
ended-ok readings made bench ys left (value_then v zs rest) s h = absurd cc

-- what does not end has this fault
pub ended-fault : (made : Bench) (f : MoveFault) (next : Next) → at_last made next ≡ Err f → no_move_text ≡ f
ended-fault made f at_end h = absurd cc
ended-fault made f no_value h = same-fault no_move_text f h
ended-fault made f (value_then v zs rest) h = same-fault no_move_text f h

-- ---- all moves of a file

module _ (readings : Readings) (now : Bench) (alone : now.timeline ≡ standing_after 0 now.timeline.first []) where
  abbrev v : State
  v = now.timeline.first

  here : now ≡ with_timeline now (standing_after 0 v [])
  here = ap (with_timeline now) alone

  abbrev before : List (Label × State) → Timeline
  before ms = all_moved preceded (standing_after 0 v []) ms

  before-many : (ms : List (Label × State)) (n : ℕ) → length ms ≡ n → n ≡ length (before ms).later
  before-many ms n e = let many = (is-back v [] ms).many in omega (arith, e, many)

  before-row : (ms : List (Label × State)) (n : ℕ) → length ms ≡ n → moved_to (before ms) n ≡ to_last (before ms).first (before ms).later
  before-row ms n e = λ i. record { first = (before ms).first; later = (before ms).later; place = before-many ms n e i }

  before-present : (ms : List (Label × State)) (n : ℕ) → length ms ≡ n → present (moved_to (before ms) n) ≡ v
  before-present ms n e = ap present (before-row ms n e) ∙ ap (last_state (before ms).first) (take-length (before ms).later) ∙ (is-back v [] ms).last

  before-placed : (ms : List (Label × State)) (n : ℕ) → length ms ≡ n → IsPlaced (moved_to (before ms) n)
  before-placed ms n e = let many = before-many ms n e in omega (arith, many)

  -- the bench with all moves
  abbrev whole : ℕ → List (Label × State) → List (Label × State) → Bench
  whole n ms ns = at_place n (with_timeline now (all_moved appended (moved_to (before ms) n) ns))

  whole-is : (n : ℕ) (ms ns : List (Label × State)) → length ms ≡ n
      → whole n ms ns ≡ with_timeline now (record { first = (before ms).first; later = (before ms).later ++ map step_of ns; place = n })
  whole-is n ms ns e =
      ap (λ t. at_place n (with_timeline now t)) (ap (λ t. all_moved appended t ns) (before-row ms n e) ∙ on-moved (before ms).first (before ms).later ns)

  abbrev last_read : ℕ → Bench → List ℕ → ℕ → Result Bench MoveFault
  last_read past last = ended_with readings (at_place past last)

  module _ (counts : Counts) where
    abbrev format : Format
    format = counts.format

    abbrev past : ℕ
    past = counts.past

    abbrev future : ℕ
    future = counts.future

    record AreRead (xs : List ℕ) (room : ℕ) (bench : Bench) : Type 0 where
      -- the values of the lines
      pub js : List Json
      -- the bytes have these values
      pub values : values_of readings xs ≡ Some js
      -- the bench is taken from them
      pub is : lines_bench readings counts now js ≡ Some bench
      -- there is room for the bytes
      pub fits : length xs ≤ room

    -- the lines of moves from which the bench is taken
    lines-taken : (js ks : List Json) (ms ns : List (Label × State)) (bench : Bench) → length js ≡ past → length ks ≡ future
        → moves_in readings format now v js ≡ Some ms → moves_in readings format now v ks ≡ Some ns → whole past ms ns ≡ bench
        → lines_bench readings counts now (js ++ ks) ≡ Some bench
    lines-taken js ks ms ns bench many more moves onward made =
        let both : length (js ++ ks) ≡ past + future = length-append js ks ∙ (λ i. many i + more i) in
        let test : (length (js ++ ks) == past + future) ≡ true = ap (λ n. n == past + future) both ∙ nat-itself (past + future) in
        let back = ap (λ us. past_in readings format now v us []) (ap (λ n. take n (js ++ ks)) (sym many) ∙ take-append_seam js ks)
        ∙ past-moved readings format now v js [] ms moves in
        let on = ap (future_in readings format now v) (ap (λ n. drop n (js ++ ks)) (sym many) ∙ drop-append_seam js ks) ∙ future-moved readings format now v ks ns onward in
        ap (option_and_then (λ p. option_and_then (with_moves counts now (js ++ ks) p) (future_in readings format now v (drop past (js ++ ks))))) back
        ∙ ap (option_and_then (with_moves counts now (js ++ ks) ((before ms).first, (before ms).later))) on
        ∙ ap (λ b. given_if b (with_timeline now (record { first = (before ms).first; later = (before ms).later ++ map step_of ns; place = past }))) test
        ∙ ap Some (sym (whole-is past ms ns (moves-many readings format now v js ms moves ∙ many)) ∙ made)

    lines-read : (xs : List ℕ) (room : ℕ) (bench : Bench) → moves_from readings counts now xs room ≡ Ok bench → AreRead xs room bench
    lines-read xs room bench is =
        let a = went readings format now preceded preceded-lands (on_from readings counts) past (standing_after 0 v []) xs room bench (omega arith)
        (ap (λ (b : Bench). along readings format preceded (on_from readings counts) past b xs room) (sym here) ∙ is) in
        let many = moves-many readings format now v a.js a.ms a.moves ∙ a.many in
        let b = went readings format now appended appended-lands (last_read past) future (moved_to (before a.ms) past) a.ys a.left bench
        (before-placed a.ms past many) a.done in
        let onward = ap (λ s. moves_in readings format now s b.js) (sym (before-present a.ms past many)) ∙ b.moves in
        let end = ended-ok readings (whole past a.ms b.ms) bench b.ys b.left (next_value readings b.left b.ys) (stands readings b.ys b.left) b.done in
        let none = ap length end.0 in
        let first = a.counted in
        let second = b.counted in
        record {
          js = a.js ++ b.js;
          values = a.values ∙ ap (option_map (λ ws. a.js ++ ws)) (b.values
              ∙ ap (option_map (λ ws. b.js ++ ws)) (ap (values_of readings) end.0 ∙ no-values readings))
              ∙ ap (λ ws. Some (a.js ++ ws)) (append-nil b.js);
          is = lines-taken a.js b.js a.ms b.ms bench a.many b.many a.moves onward end.1;
          fits = omega (arith, none, first, second);
        }

    lines-found : (xs : List ℕ) (room : ℕ) (js : List Json) (bench : Bench) → lines_bench readings counts now js ≡ Some bench
        → values_of readings xs ≡ Some js → length xs ≤ room
        → moves_from readings counts now xs room ≡ Ok bench
    lines-found xs room js bench is values fits =
        let of_past = λ (p : State × List Step). option_and_then (with_moves counts now js p) (future_in readings format now v (drop past js)) in
        let p = and_then-back of_past (past_in readings format now v (take past js) []) bench is in
        let f = and_then-back (with_moves counts now js p.0) (future_in readings format now v (drop past js)) bench p.2 in
        let made = with_timeline now (record { first = p.0.0; later = p.0.1 ++ f.0; place = past }) in
        let g = given-back (length js == past + future) made bench f.2 in
        let all = eqb-true (length js) (past + future) g.0 in
        let many : length (take past js) ≡ past = length-take-le past js (omega (arith, all)) in
        let left = length-drop past js in
        let more : length (drop past js) ≡ future = omega (arith, all, left) in
        let a = moves-of-past readings format now v (take past js) [] p.0 p.1 in
        let counted = a.2 ∙ many in
        let c = moves-of-future readings format now v (drop past js) f.0 f.1 in
        let onward = ap (λ s. moves_in readings format now s (drop past js)) (before-present a.0 past counted) ∙ c.1 in
        let r = reaches readings format now preceded preceded-lands (on_from readings counts) (take past js) (drop past js) a.0 (standing_after 0 v []) xs room
        (omega arith) a.1
        (values ∙ ap Some (sym (take-append-drop past js))) fits in
        let q = reaches readings format now appended appended-lands (last_read past) (drop past js) [] c.0 (moved_to (before a.0) past) r.ys r.left
        (before-placed a.0 past counted) onward
        (r.values ∙ ap Some (sym (append-nil (drop past js)))) r.fits in
        let back = same_Some ((before a.0).first, (before a.0).later) p.0 (sym (past-moved readings format now v (take past js) [] a.0 a.1) ∙ p.1) in
        let on = same_Some (map step_of c.0) f.0 (sym (future-moved readings format now v (drop past js) c.0 c.1) ∙ f.1) in
        let same : whole past a.0 c.0 ≡ bench =
        whole-is past a.0 c.0 counted ∙ (λ i. with_timeline now (record { first = (back i).0; later = (back i).1 ++ on i; place = past })) ∙ g.1 in
        ap (λ (b : Bench). along readings format preceded (on_from readings counts) past b xs room) here
        ∙ ap (λ n. along readings format preceded (on_from readings counts) n (with_timeline now (standing_after 0 v [])) xs room) (sym many)
        ∙ r.is
        ∙ ap (λ n. along readings format appended (last_read past) n (with_timeline now (moved_to (before a.0) past)) r.ys r.left) (sym more)
        ∙ q.is
        ∙ ap (λ zs. ended_with readings (whole past a.0 c.0) zs q.left) (none-left readings q.ys q.values)
        ∙ ap Ok same

    lines-fail : (xs : List ℕ) (room : ℕ) (f : MoveFault) → moves_from readings counts now xs room ≡ Err f
        → moves_fault readings counts now (lines_left xs room) ≡ f
    lines-fail xs room f is =
        let ts = lines_left xs room in
        let behind = lines_fault readings format now no_move_text v (take future (drop past ts)) in
        let none : length ts < past → behind ≡ no_move_text =
        λ less. ap (λ us. lines_fault readings format now no_move_text v us) (ap (take future) (drop_all past ts (omega (arith, less))) ∙ take-none future) in
        fault-along readings format now preceded preceded-lands (on_from readings counts) past (standing_after 0 v []) xs room behind f (omega arith) none
        (λ ms ys left many lines failed.
        ap (λ s. lines_fault readings format now no_move_text s (take future (drop past ts))) (sym (before-present ms past many))
        ∙ ap (λ us. lines_fault readings format now no_move_text (present (moved_to (before ms) past)) (take future us)) (sym lines)
        ∙ fault-along readings format now appended appended-lands (last_read past) future (moved_to (before ms) past) ys left no_move_text f
        (before-placed ms past many) (λ less. refl)
        (λ ns zs rest more behind_lines h. ended-fault (whole past ms ns) f (next_value readings rest zs) h) failed)
        (ap (λ (b : Bench). along readings format preceded (on_from readings counts) past b xs room) (sym here) ∙ is)

-- ---- the whole file

-- a present object makes a bench of one state
present-alone : (readings : Readings) (f : Format) (depth : ℕ) (schema : Schema) (v : Json) (now : Bench) → present_in readings f depth schema v ≡ Some now
    → now.timeline ≡ standing_after 0 now.timeline.first []
present-alone readings f depth schema v now is =
    let made = lone-parts readings depth schema v now (present-from v f (bench_with readings depth schema v) now is).0 in
    made.alone

-- what is taken of no more bytes than a file may have comes of so few
pub within-limit : (n : ℕ) (o : Option Bench) (bench : Bench) → (if nat_le n most_bench_bytes then o else None) ≡ Some bench → n ≤ most_bench_bytes
within-limit n o bench h = by (nat_le n most_bench_bytes) refl h
  where
    by : (b : Bool) → nat_le n most_bench_bytes ≡ b → (if b then o else None) ≡ Some bench → n ≤ most_bench_bytes
    by true e h = grind (arith, nat_tests, e)
    by false e h = absurd (none-some bench h)

module _ (readings : Readings) where
  -- what is read behind the present object: the past, the future and the end
  abbrev pub after_now : Counts → Bench → List ℕ → ℕ → Result Bench MoveFault
  after_now counts = moves_from readings counts

  -- what is read behind the schema: the present object, and what follows it
  abbrev pub after_source : Counts → Schema → List ℕ → ℕ → Result Bench MoveFault
  after_source counts schema = with_part readings (present_in readings counts.format counts.depth schema) (after_now counts)

  -- what is read behind the head: the schema, and what follows it
  abbrev pub after_head : Counts → List ℕ → ℕ → Result Bench MoveFault
  after_head counts = with_part readings schema_in (after_source counts)

  -- what is read of a whole file of records
  abbrev pub recorded_from : List ℕ → ℕ → Result Bench MoveFault
  recorded_from = with_part readings counts_in after_head

  abbrev of_now : Counts → List Json → Bench → Option Bench
  of_now counts js b = lines_bench readings counts b js

  abbrev of_schema : Counts → Json → List Json → Schema → Option Bench
  of_schema counts now js schema = option_and_then (of_now counts js) (present_in readings counts.format counts.depth schema now)

  abbrev of_counts : Json → Json → List Json → Counts → Option Bench
  of_counts source now js counts = option_and_then (of_schema counts now js) (schema_in source)

  file-taken : (t : Text) (bench : Bench) → recorded_from t most_bench_bytes ≡ Ok bench → recorded_bench_in readings t ≡ Some bench
  file-taken t bench is =
      let a = part-went readings counts_in after_head t most_bench_bytes bench is in
      let b = part-went readings schema_in (after_source a.taken) a.ys a.left bench a.done in
      let c = part-went readings (present_in readings a.taken.format a.taken.depth b.taken) (after_now a.taken) b.ys b.left bench b.done in
      let d = lines-read readings c.taken (present-alone readings a.taken.format a.taken.depth b.taken c.value c.taken c.took) a.taken c.ys c.left bench c.done in
      let first = a.counted in
      let second = b.counted in
      let third = c.counted in
      let last = d.fits in
      let small : length t ≤ most_bench_bytes = omega (arith, first, second, third, last) in
      let values : values_of readings t ≡ Some (a.value ∷ b.value ∷ c.value ∷ d.js) =
      a.values ∙ ap (option_map (λ ws. a.value ∷ ws)) (b.values
      ∙ ap (option_map (λ ws. b.value ∷ ws)) (c.values ∙ ap (option_map (λ ws. c.value ∷ ws)) d.values)) in
      ap (λ x. if x then option_and_then (recorded_bench readings) (values_of readings t) else None) (nat_le-of (length t) most_bench_bytes small)
      ∙ ap (option_and_then (recorded_bench readings)) values
      ∙ ap (option_and_then (of_counts b.value c.value d.js)) a.took
      ∙ ap (option_and_then (of_schema a.taken c.value d.js)) b.took
      ∙ ap (option_and_then (of_now a.taken d.js)) c.took
      ∙ d.is

  values-taken : (t : Text) (bench : Bench) (vs : List Json) → values_of readings t ≡ Some vs → length t ≤ most_bench_bytes
      → recorded_bench readings vs ≡ Some bench
      → recorded_from t most_bench_bytes ≡ Ok bench
  values-taken t bench [] values small is = absurd (none-some bench is)
  values-taken t bench (head ∷ []) values small is = absurd (none-some bench is)
  values-taken t bench (head ∷ source ∷ []) values small is = absurd (none-some bench is)
  values-taken t bench (head ∷ source ∷ now ∷ js) values small is =
      let counts = and_then-back (of_counts source now js) (counts_in head) bench is in
      let schema = and_then-back (of_schema counts.0 now js) (schema_in source) bench counts.2 in
      let there = and_then-back (of_now counts.0 js) (present_in readings counts.0.format counts.0.depth schema.0 now) bench schema.2 in
      let a = part-reaches readings counts_in after_head t most_bench_bytes head (source ∷ now ∷ js) counts.0 values small counts.1 in
      let b = part-reaches readings schema_in (after_source counts.0) a.ys a.left source (now ∷ js) schema.0 a.values a.fits schema.1 in
      let c = part-reaches readings (present_in readings counts.0.format counts.0.depth schema.0) (after_now counts.0) b.ys b.left now js there.0 b.values b.fits there.1 in
      a.is ∙ b.is ∙ c.is
      ∙ lines-found readings there.0 (present-alone readings counts.0.format counts.0.depth schema.0 now there.0 there.1) counts.0 c.ys c.left js bench there.2 c.values
      c.fits

  file-found : (t : Text) (bench : Bench) → recorded_bench_in readings t ≡ Some bench → recorded_from t most_bench_bytes ≡ Ok bench
  file-found t bench is =
      let small = within-limit (length t) (option_and_then (recorded_bench readings) (values_of readings t)) bench is in
      let values = and_then-back (recorded_bench readings) (values_of readings t) bench (tested-back (nat_le (length t) most_bench_bytes) _ bench is) in
      values-taken t bench values.0 values.1 small values.2

  -- ---- its fault

  abbrev of_opening : List Text → Option (Counts × Bench) → MoveFault
  of_opening ts o = elim o [ Some x ↦ moves_fault readings x.0 x.1 ts | None ↦ no_move_text ]

  -- no three lines open the file
  not-opened : (ts : List Text) (f : MoveFault) → ((a b c : Text) (us : List Text) → ts ≡ a ∷ b ∷ c ∷ us → opening_in readings a b c ≡ None)
      → no_move_text ≡ f → texts_fault readings ts ≡ f
  not-opened [] f none is = is
  not-opened (a ∷ []) f none is = is
  not-opened (a ∷ b ∷ []) f none is = is
  not-opened (a ∷ b ∷ c ∷ ts) f none is = ap (of_opening ts) (none a b c ts refl) ∙ is

  abbrev opened_now : Counts → Text → Schema → Option (Counts × Bench)
  opened_now counts c schema = option_map (λ (x : Bench). (counts, x)) (part_of readings (present_in readings counts.format counts.depth schema) c)

  abbrev opened_schema : Text → Text → Counts → Option (Counts × Bench)
  opened_schema b c counts = option_and_then (opened_now counts c) (part_of readings schema_in b)

  module _ (t : Text) (f : MoveFault) (is : recorded_from t most_bench_bytes ≡ Err f) where
    abbrev all_lines : List Text
    all_lines = lines_left t most_bench_bytes

    abbrev Fails : Type 0
    Fails = texts_fault readings all_lines ≡ f

    after-all : (a : FailsBehind readings counts_in after_head t most_bench_bytes f) → (b : FailsBehind readings schema_in (after_source a.taken) a.ys a.left f)
        → (c : FailsBehind readings (present_in readings a.taken.format a.taken.depth b.taken) (after_now a.taken) b.ys b.left f)
        → (there : (v : Json) × (present_in readings a.taken.format a.taken.depth b.taken v ≡ Some c.taken)) → Fails
    after-all a b c there =
        let lines = a.lines ∙ ap (λ us. a.text ∷ us) (b.lines ∙ ap (λ us. b.text ∷ us) c.lines) in
        let opened : opening_in readings a.text b.text c.text ≡ Some (a.taken, c.taken) =
        ap (option_and_then (opened_schema b.text c.text)) a.took ∙ ap (option_and_then (opened_now a.taken c.text)) b.took
        ∙ ap (option_map (λ (x : Bench). (a.taken, x))) c.took in
        ap (texts_fault readings) lines ∙ ap (of_opening (lines_left c.ys c.left)) opened
        ∙ lines-fail readings c.taken (present-alone readings a.taken.format a.taken.depth b.taken there.0 c.taken there.1) a.taken c.ys c.left f c.failed

    after-two : (a : FailsBehind readings counts_in after_head t most_bench_bytes f) → (b : FailsBehind readings schema_in (after_source a.taken) a.ys a.left f)
        → PartFails readings (present_in readings a.taken.format a.taken.depth b.taken) (after_now a.taken) b.ys b.left f
        ⊎ FailsBehind readings (present_in readings a.taken.format a.taken.depth b.taken) (after_now a.taken) b.ys b.left f → Fails
    after-two a b (inl none) = not-opened all_lines f (λ x y z us e.
        let rest = same-tail a.text x (lines_left a.ys a.left) (y ∷ z ∷ us) (sym a.lines ∙ e) in
        let last = same-tail b.text y (lines_left b.ys b.left) (z ∷ us) (sym b.lines ∙ rest) in
        ap (λ w. opening_in readings w y z) (sym (same-first a.text x (lines_left a.ys a.left) (y ∷ z ∷ us) (sym a.lines ∙ e)))
        ∙ ap (option_and_then (opened_schema y z)) a.took
        ∙ ap (λ w. option_and_then (opened_now a.taken z) (part_of readings schema_in w))
        (sym (same-first b.text y (lines_left b.ys b.left) (z ∷ us) (sym b.lines ∙ rest)))
        ∙ ap (option_and_then (opened_now a.taken z)) b.took
        ∙ ap (option_map (λ (x : Bench). (a.taken, x))) (none.none z us last)) none.fault
    after-two a b (inr c) =
        let spelled = and_then-back (present_in readings a.taken.format a.taken.depth b.taken) (spelled_value readings c.text) c.taken c.took in
        after-all a b c (spelled.0, spelled.2)

    after-one : (a : FailsBehind readings counts_in after_head t most_bench_bytes f)
        → PartFails readings schema_in (after_source a.taken) a.ys a.left f ⊎ FailsBehind readings schema_in (after_source a.taken) a.ys a.left f → Fails
    after-one a (inl none) = not-opened all_lines f (λ x y z us e.
        let rest = same-tail a.text x (lines_left a.ys a.left) (y ∷ z ∷ us) (sym a.lines ∙ e) in
        ap (λ w. opening_in readings w y z) (sym (same-first a.text x (lines_left a.ys a.left) (y ∷ z ∷ us) (sym a.lines ∙ e)))
        ∙ ap (option_and_then (opened_schema y z)) a.took
        ∙ ap (option_and_then (opened_now a.taken z)) (none.none y (z ∷ us) rest)) none.fault
    after-one a (inr b) = after-two a b (part-fault readings (present_in readings a.taken.format a.taken.depth b.taken) (after_now a.taken) b.ys b.left f b.failed)

    after-none : PartFails readings counts_in after_head t most_bench_bytes f ⊎ FailsBehind readings counts_in after_head t most_bench_bytes f → Fails
    after-none (inl none) = not-opened all_lines f (λ x y z us e. ap (option_and_then (opened_schema y z)) (none.none x (y ∷ z ∷ us) e)) none.fault
    after-none (inr a) = after-one a (part-fault readings schema_in (after_source a.taken) a.ys a.left f a.failed)

    file-fails : recorded_fault readings t ≡ f
    file-fails = after-none (part-fault readings counts_in after_head t most_bench_bytes f is)

-- what is read of a file of records line by line is what is taken of its text, or the fault of its first faulty line
pub records_are_read : (readings : Readings) (t : Text)
    → recorded_from readings t most_bench_bytes ≡ elim (recorded_bench_in readings t) [ Some bench ↦ Ok bench | None ↦ Err (recorded_fault readings t) ]
records_are_read readings t = by (recorded_bench_in readings t) refl
  where
    refused : (r : Result Bench MoveFault) → recorded_from readings t most_bench_bytes ≡ r → recorded_bench_in readings t ≡ None
        → r ≡ Err (recorded_fault readings t)
    refused (Ok bench) e none = absurd (none-some bench (sym none ∙ file-taken readings t bench e))
    refused (Err f) e none = ap Err (sym (file-fails readings t f e))

    by : (o : Option Bench) → recorded_bench_in readings t ≡ o
        → recorded_from readings t most_bench_bytes ≡ elim o [ Some bench ↦ Ok bench | None ↦ Err (recorded_fault readings t) ]
    by (Some bench) e = file-found readings t bench e
    by None e = refused (recorded_from readings t most_bench_bytes) refl e
