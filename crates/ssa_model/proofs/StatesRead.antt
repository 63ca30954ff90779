-- What is read of a bench file of whole states line by line is what is taken of its text.
use Rattle.std.proofs.Common.{◌≡◌, ◌≤◌, ℕ, zero, suc, ◌+◌, ◌-◌, length, List, [], ◌∷◌, ◌++◌, true, ◌⊎◌, inl, inr, Option, Some, None, option_map, option_and_then, refl, sym, ap, ◌∙◌, subst, arith, append_assoc, append-nil, eqb-true}
use Rattle.std.proofs.Math.Seq.{take-length}
use Rattle.std.proofs.lemmas.Option.{same_Some, none-some}
use Rattle.std.specs.Prelude.{◌==◌, if◌then◌else◌, nat_le, Result, Ok, Err}
use Rattle.ssa_model.specs.definitions.Answers.{bench_of}
use Rattle.ssa_model.specs.definitions.Json.{Text, Json}
use Rattle.ssa_model.specs.definitions.Limits.{most_past, most_bench_bytes}
use Rattle.ssa_model.specs.definitions.Operations.{State}
use Rattle.ssa_model.specs.definitions.Readings.{Readings}
use Rattle.ssa_model.specs.definitions.Schema.{Schema}
use Rattle.ssa_model.specs.definitions.History.{Step, Bench, last_state, present, with_timeline}
use Rattle.ssa_model.specs.definitions.BenchOfStates.{Head, head_in, schema_in, object_in, lone_in, given_if, step_in, steps_in, with_steps, values_bench, values_of, bench_in}
use Rattle.ssa_model.specs.definitions.BenchFaults.{MoveFault, no_move_text}
use Rattle.ssa_model.specs.definitions.NextLines.{next_value}
use Rattle.ssa_model.specs.laws.LineByLine.{Reader, gone_on, at_place, with_part, ended_with, steps_from, later_from}
use Rattle.ssa_model.proofs.AlongLines.{part-went, part-reaches, part-fault, PartFails, FailsBehind}
use Rattle.ssa_model.proofs.Basics.{nat_le-of}
use Rattle.ssa_model.proofs.Given.{and_then-back, given-back, map-back, tested-back}
use Rattle.ssa_model.proofs.LoneBenches.{lone-parts}
use Rattle.ssa_model.proofs.NextValues.{no-values, stands, none-left}
use Rattle.ssa_model.proofs.RecordsRead.{standing_after, to_last, appended-last, ended-ok, ended-fault, within-limit}
use Rattle.ssa_model.proofs.Tables.{last-push}
use Rattle.ssa_model.proofs.TakenOfWritten.{nat-itself}
use Rattle.ssa_model.proofs.WrittenOfTaken.{head-from, lone-from}

-- ---- the later states

module _ (readings : Readings) (now : Bench) where
  -- the bench with these states, the last of them present
  abbrev with_last : State → List Step → Bench
  with_last v ls = with_timeline now (to_last v ls)

  last-present : (v : State) (ls : List Step) → present (to_last v ls) ≡ last_state v ls
  last-present v ls = ap (last_state v) (take-length ls)

  last-gone : (v : State) (ls : List Step) (s : Step) → gone_on (with_last v ls) s ≡ with_last v (ls ++ s ∷ [])
  last-gone v ls s = ap (with_timeline now) (appended-last v ls s.label s.state)

  all-left : (o : Option (List Json)) → o ≡ option_map (λ ws. [] ++ ws) o
  all-left None = refl
  all-left (Some ws) = refl

  joined : (j : Json) (js : List Json) (o : Option (List Json))
      → option_map (λ ws. j ∷ ws) (option_map (λ ws. js ++ ws) o) ≡ option_map (λ ws. (j ∷ js) ++ ws) o
  joined j js None = refl
  joined j js (Some ws) = refl

  -- the steps of a value and of those behind it
  abbrev with_rest : List Json → Step → Option (List Step)
  with_rest js s = option_map (λ ss. s ∷ ss) (steps_in readings now s.state js)

  -- lines of later states that were read, and a bench that was read behind them
  record HasStepped (go : Bench → Reader) (n : ℕ) (v : State) (ls : List Step) (xs : List ℕ) (room : ℕ) (bench : Bench) : Type 0 where
    -- the values of the lines
    pub js : List Json
    -- the states that they tell, with their commands
    pub ss : List Step
    -- the bytes behind the lines
    pub ys : List ℕ
    -- the room that is left for them
    pub left : ℕ
    -- the values of all bytes are those of the lines, and then those of the bytes behind them
    pub values : values_of readings xs ≡ option_map (λ ws. js ++ ws) (values_of readings ys)
    -- there are as many states as were to be read
    pub many : length ss ≡ n
    -- behind the last state, the values tell these states
    pub steps : steps_in readings now (last_state v ls) js ≡ Some ss
    -- the room has become smaller by the bytes that were read
    pub counted : length xs + left ≡ length ys + room
    -- what is read behind the lines, with these states, is the bench
    pub done : go (with_last v (ls ++ ss)) ys left ≡ Ok bench

  has-stepped : (go : Bench → Reader) (n : ℕ) (v : State) (ls : List Step) (xs : List ℕ) (room : ℕ) (bench : Bench)
      → steps_from readings go n (with_last v ls) xs room ≡ Ok bench → HasStepped go n v ls xs room bench
  has-stepped go zero v ls xs room bench is = record {
    js = [];
    ss = [];
    ys = xs;
    left = room;
    values = all-left (values_of readings xs);
    many = refl;
    steps = refl;
    counted = refl;
    done = ap (λ ks. go (with_last v ks) xs room) (append-nil ls) ∙ is;
  }
  has-stepped go (suc n) v ls xs room bench is =
      let a = part-went readings (step_in readings now (present (to_last v ls))) (λ s. steps_from readings go n (gone_on (with_last v ls) s)) xs room bench is in
      let s = a.taken in
      let rest = has-stepped go n v (ls ++ s ∷ []) a.ys a.left bench
      (ap (λ b. steps_from readings go n b a.ys a.left) (sym (last-gone v ls s)) ∙ a.done) in
      let first = ap (λ u. step_in readings now u a.value) (sym (last-present v ls)) ∙ a.took in
      let onward = ap (λ u. steps_in readings now u rest.js) (sym (last-push v ls s)) ∙ rest.steps in
      let counted = a.counted in
      let later = rest.counted in
      record {
        js = a.value ∷ rest.js;
        ss = s ∷ rest.ss;
        ys = rest.ys;
        left = rest.left;
        values = a.values ∙ ap (option_map (λ ws. a.value ∷ ws)) rest.values ∙ joined a.value rest.js (values_of readings rest.ys);
        many = ap suc rest.many;
        steps = ap (option_and_then (with_rest rest.js)) first ∙ ap (option_map (λ ss. s ∷ ss)) onward;
        counted = omega (arith, counted, later);
        done = ap (λ ks. go (with_last v ks) rest.ys rest.left) (sym (append_assoc ls (s ∷ []) rest.ss)) ∙ rest.done;
      }

  -- values that tell later states, and the reading that goes past them to the end
  record Steps (go : Bench → Reader) (v : State) (ls : List Step) (xs : List ℕ) (room : ℕ) (ss : List Step) : Type 0 where
    -- the bytes behind the lines
    pub ys : List ℕ
    -- the room that is left for them
    pub left : ℕ
    -- reading the lines is reading behind them, with these states
    pub is : steps_from readings go (length ss) (with_last v ls) xs room ≡ go (with_last v (ls ++ ss)) ys left
    -- no values are behind them
    pub none : values_of readings ys ≡ Some []

  steps-more : (go : Bench → Reader) (v : State) (ls : List Step) (xs : List ℕ) (room : ℕ) (s : Step) (ss : List Step) (ys : List ℕ) (left : ℕ)
      → steps_from readings go (suc (length ss)) (with_last v ls) xs room ≡ steps_from readings go (length ss) (gone_on (with_last v ls) s) ys left
      → Steps go v (ls ++ s ∷ []) ys left ss → Steps go v ls xs room (s ∷ ss)
  steps-more go v ls xs room s ss ys left is rest = record {
    ys = rest.ys;
    left = rest.left;
    is = is ∙ ap (λ b. steps_from readings go (length ss) b ys left) (last-gone v ls s) ∙ rest.is
        ∙ ap (λ ks. go (with_last v ks) rest.ys rest.left) (append_assoc ls (s ∷ []) ss);
    none = rest.none;
  }

  steps-reach : (go : Bench → Reader) (js : List Json) (ss : List Step) (v : State) (ls : List Step) (xs : List ℕ) (room : ℕ)
      → steps_in readings now (last_state v ls) js ≡ Some ss → values_of readings xs ≡ Some js → length xs ≤ room → Steps go v ls xs room ss
  steps-reach go [] ss v ls xs room steps is fits =
      subst (Steps go v ls xs room) (same_Some [] ss steps)
      (record { ys = xs; left = room; is = ap (λ ks. go (with_last v ks) xs room) (sym (append-nil ls)); none = is })
  steps-reach go (j ∷ js) ss v ls xs room steps is fits =
      let first = and_then-back (with_rest js) (step_in readings now (last_state v ls) j) ss steps in
      let s = first.0 in
      let later = map-back (λ ks. s ∷ ks) (steps_in readings now s.state js) ss first.2 in
      let took = ap (λ u. step_in readings now u j) (last-present v ls) ∙ first.1 in
      let a = part-reaches readings (step_in readings now (present (to_last v ls))) (λ s. steps_from readings go (length later.0) (gone_on (with_last v ls) s))
      xs room j js s is fits took in
      let onward = ap (λ u. steps_in readings now u js) (last-push v ls s) ∙ later.1 in
      subst (Steps go v ls xs room) later.2
      (steps-more go v ls xs room s later.0 a.ys a.left a.is (steps-reach go js later.0 v (ls ++ s ∷ []) a.ys a.left onward a.values a.fits))

-- ---- a refusal

-- where no text of a line is the only fault of what is read behind a part, it is that of reading with the part
part-fails : (readings : Readings) {X : Type 0} (part : Json → Option X) (go : X → Reader) (xs : List ℕ) (room : ℕ) (f : MoveFault)
    → ((x : X) (ys : List ℕ) (left : ℕ) → go x ys left ≡ Err f → no_move_text ≡ f) → with_part readings part go xs room ≡ Err f → no_move_text ≡ f
part-fails readings part go xs room f behind is = by (part-fault readings part go xs room f is)
  where
    by : PartFails readings part go xs room f ⊎ FailsBehind readings part go xs room f → no_move_text ≡ f
    by (inl none) = none.fault
    by (inr a) = behind a.taken a.ys a.left a.failed

steps-fail : (readings : Readings) (go : Bench → Reader) (n : ℕ) (b : Bench) (xs : List ℕ) (room : ℕ) (f : MoveFault)
    → ((last : Bench) (ys : List ℕ) (left : ℕ) → go last ys left ≡ Err f → no_move_text ≡ f) → steps_from readings go n b xs room ≡ Err f → no_move_text ≡ f
steps-fail readings go zero b xs room f behind is = behind b xs room is
steps-fail readings go (suc n) b xs room f behind is =
    part-fails readings (step_in readings b (present b.timeline)) (λ s. steps_from readings go n (gone_on b s)) xs room f
    (λ s ys left h. steps-fail readings go n (gone_on b s) ys left f behind h) is

-- ---- the whole file

-- the bench of a first state has no other
first-alone : (readings : Readings) (schema : Schema) (v : Json) (lone : Bench) → lone_in readings schema v ≡ Some lone
    → lone.timeline ≡ standing_after 0 lone.timeline.first []
first-alone readings schema v lone is =
    let made = lone-parts readings most_past schema (object_in v) lone (lone-from v (bench_of readings schema (object_in v)) lone is).0 in
    made.alone

module _ (readings : Readings) where
  -- what is read behind the schema: the first state, and the later ones
  abbrev states_from : Head → Schema → List ℕ → ℕ → Result Bench MoveFault
  states_from head schema = with_part readings (lone_in readings schema) (later_from readings head)

  -- what is read behind the head: the schema, and what follows it
  abbrev pub behind_head : Head → List ℕ → ℕ → Result Bench MoveFault
  behind_head head = with_part readings schema_in (states_from head)

  -- what is read of a whole file of states
  abbrev pub stated_from : List ℕ → ℕ → Result Bench MoveFault
  stated_from = with_part readings head_in behind_head

  abbrev last_read : ℕ → Bench → List ℕ → ℕ → Result Bench MoveFault
  last_read place last = ended_with readings (at_place place last)

  abbrev of_lone : Head → List Json → Bench → Option Bench
  of_lone head js lone = option_and_then (with_steps head lone) (steps_in readings lone lone.timeline.first js)

  abbrev of_schema : Head → Json → List Json → Schema → Option Bench
  of_schema head first js schema = option_and_then (of_lone head js) (lone_in readings schema first)

  abbrev of_head : Json → Json → List Json → Head → Option Bench
  of_head source first js head = option_and_then (of_schema head first js) (schema_in source)

  file-taken : (t : Text) (bench : Bench) → stated_from t most_bench_bytes ≡ Ok bench → bench_in readings t ≡ Some bench
  file-taken t bench is =
      let a = part-went readings head_in behind_head t most_bench_bytes bench is in
      let head = a.taken in
      let b = part-went readings schema_in (states_from head) a.ys a.left bench a.done in
      let c = part-went readings (lone_in readings b.taken) (later_from readings head) b.ys b.left bench b.done in
      let lone = c.taken in
      let v = lone.timeline.first in
      let alone = ap (with_timeline lone) (first-alone readings b.taken c.value lone c.took) in
      let d = has-stepped readings lone (last_read head.place) (head.states - 1) v [] c.ys c.left bench
      (ap (λ x. steps_from readings (last_read head.place) (head.states - 1) x c.ys c.left) (sym alone) ∙ c.done) in
      let end = ended-ok readings (at_place head.place (with_timeline lone (to_last v d.ss))) bench d.ys d.left (next_value readings d.left d.ys)
      (stands readings d.ys d.left) d.done in
      let within = (head-from a.value head a.took).1 in
      let many = d.many in
      let count : head.states ≡ length d.ss + 1 = omega (arith, within, many) in
      let test : (head.states == length d.ss + 1) ≡ true = ap (λ n. n == length d.ss + 1) count ∙ nat-itself (length d.ss + 1) in
      let none = ap length end.0 in
      let first = a.counted in
      let second = b.counted in
      let third = c.counted in
      let last = d.counted in
      let small : length t ≤ most_bench_bytes = omega (arith, none, first, second, third, last) in
      let later : values_of readings c.ys ≡ Some d.js =
      d.values ∙ ap (λ zs. option_map (λ ws. d.js ++ ws) (values_of readings zs)) end.0 ∙ ap (option_map (λ ws. d.js ++ ws)) (no-values readings)
      ∙ ap Some (append-nil d.js) in
      let values : values_of readings t ≡ Some (a.value ∷ b.value ∷ c.value ∷ d.js) =
      a.values ∙ ap (option_map (λ ws. a.value ∷ ws)) (b.values
      ∙ ap (option_map (λ ws. b.value ∷ ws)) (c.values ∙ ap (option_map (λ ws. c.value ∷ ws)) later)) in
      ap (λ x. if x then option_and_then (values_bench readings) (values_of readings t) else None) (nat_le-of (length t) most_bench_bytes small)
      ∙ ap (option_and_then (values_bench readings)) values
      ∙ ap (option_and_then (of_head b.value c.value d.js)) a.took
      ∙ ap (option_and_then (of_schema head c.value d.js)) b.took
      ∙ ap (option_and_then (of_lone head d.js)) c.took
      ∙ ap (option_and_then (with_steps head lone)) d.steps
      ∙ ap (λ x. given_if x (with_timeline lone (record { first = v; later = d.ss; place = head.place }))) test
      ∙ ap Some end.1

  values-taken : (t : Text) (bench : Bench) (vs : List Json) → values_of readings t ≡ Some vs → length t ≤ most_bench_bytes
      → values_bench readings vs ≡ Some bench
      → stated_from t most_bench_bytes ≡ Ok bench
  values-taken t bench [] values small is = absurd (none-some bench is)
  values-taken t bench (v ∷ []) values small is = absurd (none-some bench is)
  values-taken t bench (v ∷ source ∷ []) values small is = absurd (none-some bench is)
  values-taken t bench (v ∷ source ∷ first ∷ js) values small is =
      let headed = and_then-back (of_head source first js) (head_in v) bench is in
      let head = headed.0 in
      let schemed = and_then-back (of_schema head first js) (schema_in source) bench headed.2 in
      let there = and_then-back (of_lone head js) (lone_in readings schemed.0 first) bench schemed.2 in
      let lone = there.0 in
      let u = lone.timeline.first in
      let stepped = and_then-back (with_steps head lone) (steps_in readings lone u js) bench there.2 in
      let ss = stepped.0 in
      let made = with_timeline lone (record { first = u; later = ss; place = head.place }) in
      let got = given-back (head.states == length ss + 1) made bench stepped.2 in
      let all = eqb-true head.states (length ss + 1) got.0 in
      let count : head.states - 1 ≡ length ss = omega (arith, all) in
      let a = part-reaches readings head_in behind_head t most_bench_bytes v (source ∷ first ∷ js) head values small headed.1 in
      let b = part-reaches readings schema_in (states_from head) a.ys a.left source (first ∷ js) schemed.0 a.values a.fits schemed.1 in
      let c = part-reaches readings (lone_in readings schemed.0) (later_from readings head) b.ys b.left first js lone b.values b.fits there.1 in
      let d = steps-reach readings lone (last_read head.place) js ss u [] c.ys c.left stepped.1 c.values c.fits in
      let alone = ap (with_timeline lone) (first-alone readings schemed.0 first lone there.1) in
      a.is ∙ b.is ∙ c.is
      ∙ ap (λ x. steps_from readings (last_read head.place) (head.states - 1) x c.ys c.left) alone
      ∙ ap (λ n. steps_from readings (last_read head.place) n (with_timeline lone (to_last u [])) c.ys c.left) count
      ∙ d.is
      ∙ ap (λ zs. ended_with readings made zs d.left) (none-left readings d.ys d.none)
      ∙ ap Ok got.1

  file-found : (t : Text) (bench : Bench) → bench_in readings t ≡ Some bench → stated_from t most_bench_bytes ≡ Ok bench
  file-found t bench is =
      let small = within-limit (length t) (option_and_then (values_bench readings) (values_of readings t)) bench is in
      let values = and_then-back (values_bench readings) (values_of readings t) bench (tested-back (nat_le (length t) most_bench_bytes) _ bench is) in
      values-taken t bench values.0 values.1 small values.2

  file-fails : (t : Text) (f : MoveFault) → stated_from t most_bench_bytes ≡ Err f → no_move_text ≡ f
  file-fails t f =
      part-fails readings head_in behind_head t most_bench_bytes f (λ head ys left.
      part-fails readings schema_in (states_from head) ys left f (λ schema ys left.
      part-fails readings (lone_in readings schema) (later_from readings head) ys left f (λ lone ys left.
      steps-fail readings (last_read head.place) (head.states - 1) lone ys left f (λ last ys left.
      ended-fault (at_place head.place last) f (next_value readings left ys)))))

  -- what is read of a file of states line by line is what is taken of its text, and it has no other fault than that a line is no text of one
  pub states_are_read : (t : Text)
      → stated_from t most_bench_bytes ≡ elim (bench_in readings t) [ Some bench ↦ Ok bench | None ↦ Err no_move_text ]
  states_are_read t = by (bench_in readings t) refl
    where
      refused : (r : Result Bench MoveFault) → stated_from t most_bench_bytes ≡ r → bench_in readings t ≡ None → r ≡ Err no_move_text
      refused (Ok bench) e none = absurd (none-some bench (sym none ∙ file-taken t bench e))
      refused (Err f) e none = ap Err (sym (file-fails t f e))

      by : (o : Option Bench) → bench_in readings t ≡ o → stated_from t most_bench_bytes ≡ elim o [ Some bench ↦ Ok bench | None ↦ Err no_move_text ]
      by (Some bench) e = file-found t bench e
      by None e = refused (stated_from t most_bench_bytes) refl e
