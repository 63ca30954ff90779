-- A journal without its oldest record tells the states in a row without the oldest.
use Rattle.std.proofs.Common.{◌≡◌, ℕ, ◌+◌, ◌-◌, ◌<◌, List, [], ◌∷◌, ◌++◌, length, map, drop, reverse, refl, sym, subst, ap, ◌∙◌, arith}
use Rattle.std.proofs.lemmas.Grind.{reverse_onto}
use Rattle.std.proofs.lemmas.List.{length-append, length-reverse}
use Rattle.std.proofs.lemmas.List.Elements.{All-head, All-tail}
use Rattle.std.specs.List.{All}
use Rattle.ssa_model.specs.definitions.History as model
use Rattle.ssa_model.specs.definitions.History.{forgotten, past_len}
use Rattle.ssa_model.specs.definitions.Operations.{State}
use Rattle.ssa_model.specs.definitions.RecordedBench.{HasReadStep}
use Rattle.ssa_json.specs.Readings.{readings}
use Rattle.ssa_reverse.specs.Timeline.{Timeline, steps_along, steps-length}
use Rattle.ssa_turn.specs.Dated.{MakesDated}
use Rattle.ssa_turn.specs.Histories.{first_of, in_a_row, step_of, steps_to}
use Rattle.ssa_turn.specs.TablesBack.{MakesTableBack}
use Rattle.ssa_turn.specs.declared.label.Label.{Label}
use Rattle.ssa_turn.proofs.InARow.{IsReadBack}

abbrev Past : Type 0
Past = List (State × Label)

abbrev at_present : Past → State → Past → Timeline State Label
at_present past v future = record { past = past; present = v; future = future }

-- the steps of a past begin with the one that leads from its oldest state
steps-oldest : (past : Past) (s : State × Label) (v : State) → steps_to (past ++ s ∷ []) v ≡ step_of (first_of past v, s.1) ∷ steps_to past v
steps-oldest [] s v = refl
steps-oldest (q ∷ past) s v = ap (λ ss. ss ++ step_of (v, q.1) ∷ []) (steps-oldest past s q.0)

-- the states without the oldest are those in a row without the first
without-oldest : (past : Past) (s : State × Label) (v : State) (future : Past)
    → in_a_row (at_present past v future) ≡ forgotten (in_a_row (at_present (past ++ s ∷ []) v future))
without-oldest past s v future =
    let steps = steps-oldest past s v in
    let place : length (past ++ s ∷ []) - 1 ≡ length past = let pushed = length-append past (s ∷ []) in omega (arith, pushed) in
    let row : ℕ → model.Timeline = λ n. record { first = first_of past v; later = steps_to past v ++ map step_of future; place = n } in
    ap row (sym place)
    ∙ (λ i. forgotten (record {
      first = first_of (past ++ s ∷ []) v;
      later = sym steps i ++ map step_of future;
      place = length (past ++ s ∷ []);
    }))

module _ {D : Type 0} (leads : D → State → State) where
  steps-along-oldest : (rs : List (D × Label)) (r : D × Label) (v : State) → (w : State) × (steps_along leads (rs ++ r ∷ []) v ≡ steps_along leads rs v ++ (w, r.1) ∷ [])
  steps-along-oldest [] r v = (leads r.0 v, refl)
  steps-along-oldest (q ∷ rs) r v =
      let rest = steps-along-oldest rs r (leads q.0 v) in
      (rest.0, ap (λ ss. (leads q.0 v, q.1) ∷ ss) rest.1)

  -- the records back without the oldest, which stands first among them, lead to the states in a row without the first
  dropped-is : (rs : List (D × Label)) (v : State) (future : Past) → 0 < length rs
      → in_a_row (at_present (steps_along leads (reverse (drop 1 rs)) v) v future)
      ≡ forgotten (in_a_row (at_present (steps_along leads (reverse rs) v) v future))
  dropped-is [] v future some = absurd (omega (arith, some))
  dropped-is (r ∷ rs) v future some =
      let last = steps-along-oldest (reverse rs) r v in
      without-oldest (steps_along leads (reverse rs) v) (last.0, r.1) v future
      ∙ ap (λ past. forgotten (in_a_row (at_present past v future))) (sym (ap (λ xs. steps_along leads xs v) (reverse_onto rs r []) ∙ last.1))

  -- where the records back are those of before without the oldest, the row is that of before without its first state
  pub forgotten-row : (past kept ahead after : List (D × Label)) (v : State) (now : model.Timeline) → kept ≡ drop 1 past → after ≡ ahead
      → in_a_row (at_present (steps_along leads (reverse past) v) v (steps_along leads ahead v)) ≡ now → 0 < past_len now
      → in_a_row (at_present (steps_along leads (reverse kept) v) v (steps_along leads after v)) ≡ forgotten now
  forgotten-row past kept ahead after v now back on is some =
      let many = steps-length leads (reverse past) v ∙ length-reverse past in
      (λ i. in_a_row (at_present (steps_along leads (reverse (back i)) v) v (steps_along leads (on i) v)))
      ∙ dropped-is past v (steps_along leads ahead v) (subst (λ n. 0 < n) (sym (ap past_len is) ∙ many) some) ∙ ap forgotten is

-- a history that is read back stays so without its oldest state
pub forgotten-back : (t : model.Timeline) → IsReadBack t → IsReadBack (forgotten t)
forgotten-back t h = go t.later h
  where
    go : (later : List model.Step) → IsReadBack (record { first = t.first; later = later; place = t.place })
        → IsReadBack (forgotten (record { first = t.first; later = later; place = t.place }))
    go [] h = h
    go (s ∷ ss) h = record {
      back = record { first = All-head MakesTableBack s ss h.back.later; later = All-tail MakesTableBack s ss h.back.later };
      dated = All-tail MakesDated s ss h.dated;
      read = record { first = All-head (HasReadStep readings) s ss h.read.later; later = All-tail (HasReadStep readings) s ss h.read.later };
    }
