-- What is read along lines of moves, and of a line of which a part is taken: a bench, where their values give it, or the fault of the first faulty line.
use Rattle.std.proofs.Common.{◌≡◌, ◌≤◌, ◌<◌, ℕ, zero, suc, ◌+◌, length, List, [], ◌∷◌, ◌++◌, take, drop, Bool, true, false, ◌⊎◌, inl, inr, Option, Some, None, option_map, option_and_then, refl, sym, ap, ◌∙◌, subst, arith}
use Rattle.std.proofs.lemmas.Option.{same_Some, none-some}
use Rattle.std.specs.Prelude.{if◌then◌else◌, Result, Ok, Err}
use Rattle.ssa_model.specs.definitions.Json.{Text, Json}
use Rattle.ssa_model.specs.definitions.Operations.{State}
use Rattle.ssa_model.specs.definitions.Readings.{Readings}
use Rattle.ssa_model.specs.definitions.History.{Label, Timeline, Bench, present, with_timeline}
use Rattle.ssa_model.specs.definitions.BenchText.{Format}
use Rattle.ssa_model.specs.definitions.Formats.{can_tell_line}
use Rattle.ssa_model.specs.definitions.BenchOfStates.{spelled_value, values_of}
use Rattle.ssa_model.specs.definitions.BenchOfRecords.{move_in, told_move}
use Rattle.ssa_model.specs.definitions.BenchFaults.{MoveFault, no_move_text, refused_fault, value_move, told_value, lines_fault}
use Rattle.ssa_model.specs.definitions.NextLines.{Next, at_end, no_value, value_then, next_value}
use Rattle.ssa_model.specs.laws.LineByLine.{Reader, after_value, after_part, with_part, Move, moved_by, after_move, along}
use Rattle.ssa_model.proofs.Given.{and_then-back, map-back}
use Rattle.ssa_model.proofs.NextValues.{lines_left, no-lines, no-values, HasNext, Stands, stands, next-values, next-counts, lines-of-values, nil-cons, same-first, same-tail}

-- ---- moves in a row

-- the moves from a state along the values of lines
abbrev pub moves_in : Readings → Format → Bench → State → List Json → Option (List (Label × State))
moves_in readings format now v [] = Some []
moves_in readings format now v (j ∷ js) = option_and_then (λ m. option_map (λ ms. m ∷ ms) (moves_in readings format now m.1 js)) (told_move readings format now v j)

-- the history after these moves, one after the other
abbrev pub all_moved : Move → Timeline → List (Label × State) → Timeline
all_moved move t [] = t
all_moved move t (m ∷ ms) = all_moved move (move t m.0 m.1) ms

-- the place is among the states
abbrev pub IsPlaced : Timeline → Type 0
IsPlaced t = t.place ≤ length t.later

-- a move goes to its state
abbrev pub Lands : Move → Type 0
Lands move = (t : Timeline) (l : Label) (s : State) → IsPlaced t → (present (move t l s) ≡ s) × IsPlaced (move t l s)

abbrev ok_move : Result (Label × State) MoveFault → Option (Label × State)
ok_move (Ok m) = Some m
ok_move (Err f) = None

abbrev of_move : Readings → Json → Option (Label × State) → Result (Label × State) MoveFault
of_move readings j o = elim o [ Some m ↦ Ok m | None ↦ Err (refused_fault readings j) ]

moved-value : (readings : Readings) (j : Json) (o : Option (Label × State)) (m : Label × State) → of_move readings j o ≡ Ok m → o ≡ Some m
moved-value readings j (Some n) m is = ap ok_move is
moved-value readings j None m is = absurd cc

-- the same in a format
moved-told : (readings : Readings) (format : Format) (now : Bench) (v : State) (j : Json) (m : Label × State) → told_value readings format now v j ≡ Ok m
    → told_move readings format now v j ≡ Some m
moved-told readings format now v j m is = by (can_tell_line format j) is
  where
    by : (b : Bool) → (if b then value_move readings now v j else Err no_move_text) ≡ Ok m → (if b then move_in readings now v j else None) ≡ Some m
    by true is = moved-value readings j (move_in readings now v j) m is
    by false is = absurd cc

told-moved : (readings : Readings) (format : Format) (now : Bench) (v : State) (j : Json) (m : Label × State) → told_move readings format now v j ≡ Some m
    → told_value readings format now v j ≡ Ok m
told-moved readings format now v j m is = by (can_tell_line format j) is
  where
    by : (b : Bool) → (if b then move_in readings now v j else None) ≡ Some m
        → ◌≡◌ {A = Result (Label × State) MoveFault} (if b then value_move readings now v j else Err no_move_text) (Ok m)
    by true is = ap (of_move readings j) is
    by false is = absurd (none-some m is)

abbrev told_fault : {X : Type 0} → MoveFault → Result X MoveFault → MoveFault
told_fault d (Ok x) = d
told_fault d (Err f) = f

-- where two refusals are one, so are their faults
pub same-fault : {X : Type 0} (f g : MoveFault) → ◌≡◌ {A = Result X MoveFault} (Err f) (Err g) → f ≡ g
same-fault f g e = ap (told_fault f) e

-- ---- along the lines

module _ (readings : Readings) (format : Format) (now : Bench) (move : Move) (lands : Lands move) where
  -- the bench with this history
  abbrev pub at : Timeline → Bench
  at t = with_timeline now t

  -- ---- a bench that was read

  -- lines of moves that were read, and a bench that was read behind them
  pub record Went (go : Bench → Reader) (n : ℕ) (t : Timeline) (xs : List ℕ) (room : ℕ) (bench : Bench) : Type 0 where
    -- the values of the lines
    pub js : List Json
    -- the moves that these values give
    pub ms : List (Label × State)
    -- the bytes behind the lines
    pub ys : List ℕ
    -- the room that is left for them
    pub left : ℕ
    -- the values of all bytes are those of the lines, and then those of the bytes behind them
    pub values : values_of readings xs ≡ option_map (λ ws. js ++ ws) (values_of readings ys)
    -- there are as many lines as were to be read
    pub many : length js ≡ n
    -- from the present state on, the values give the moves
    pub moves : moves_in readings format now (present t) js ≡ Some ms
    -- the room has become smaller by the bytes that were read
    pub counted : length xs + left ≡ length ys + room
    -- what is read behind the lines, after the moves, is the bench
    pub done : go (at (all_moved move t ms)) ys left ≡ Ok bench

  all-left : (o : Option (List Json)) → o ≡ option_map (λ ws. [] ++ ws) o
  all-left None = refl
  all-left (Some ws) = refl

  joined : (j : Json) (js : List Json) (o : Option (List Json))
      → option_map (λ ws. j ∷ ws) (option_map (λ ws. js ++ ws) o) ≡ option_map (λ ws. (j ∷ js) ++ ws) o
  joined j js None = refl
  joined j js (Some ws) = refl

  abbrev Onward : (Bench → Reader) → ℕ → Timeline → Json → Reader
  Onward go n t v = after_move (λ m. along readings format move go n (moved_by move (at t) m)) (told_value readings format now (present t) v)

  went-move : (go : Bench → Reader) (n : ℕ) (t : Timeline) (xs : List ℕ) (room : ℕ) (bench : Bench) → IsPlaced t
      → ((u : Timeline) (ys : List ℕ) (left : ℕ) → IsPlaced u → along readings format move go n (at u) ys left ≡ Ok bench → Went go n u ys left bench)
      → (v : Json) (ys : List ℕ) (left : ℕ) → HasNext readings xs room v ys left
      → (r : Result (Label × State) MoveFault) → told_value readings format now (present t) v ≡ r
      → after_move (λ m. along readings format move go n (moved_by move (at t) m)) r ys left ≡ Ok bench → Went go (suc n) t xs room bench
  went-move go n t xs room bench placed again v ys left next (Ok m) moved h =
      let landed = lands t m.0 m.1 placed in
      let rest = again (move t m.0 m.1) ys left landed.1 h in
      let first = moved-told readings format now (present t) v m moved in
      let onward = ap (λ s. moves_in readings format now s rest.js) (sym landed.0) ∙ rest.moves in
      let counted = next-counts readings xs room v ys left next in
      let later = rest.counted in
      record {
        js = v ∷ rest.js;
        ms = m ∷ rest.ms;
        ys = rest.ys;
        left = rest.left;
        values = next-values readings xs room v ys left next ∙ ap (option_map (λ ws. v ∷ ws)) rest.values ∙ joined v rest.js (values_of readings rest.ys);
        many = ap suc rest.many;
        moves = ap (option_and_then (λ m. option_map (λ ms. m ∷ ms) (moves_in readings format now m.1 rest.js))) first ∙ ap (option_map (λ ms. m ∷ ms)) onward;
        counted = omega (arith, counted, later);
        done = rest.done;
      }
  went-move go n t xs room bench placed again v ys left next (Err f) moved h = absurd cc

  went-next : (go : Bench → Reader) (n : ℕ) (t : Timeline) (xs : List ℕ) (room : ℕ) (bench : Bench) → IsPlaced t
      → ((u : Timeline) (ys : List ℕ) (left : ℕ) → IsPlaced u → along readings format move go n (at u) ys left ≡ Ok bench → Went go n u ys left bench)
      → (next : Next) → Stands readings xs room next → after_value (Onward go n t) next ≡ Ok bench → Went go (suc n) t xs room bench
  went-next go n t xs room bench placed again at_end s h = absurd cc
  went-next go n t xs room bench placed again no_value s h = absurd cc
  went-next go n t xs room bench placed again (value_then v ys left) s h =
      went-move go n t xs room bench placed again v ys left s (told_value readings format now (present t) v) refl h

  -- a bench that is read along so many lines comes of such lines
  pub went : (go : Bench → Reader) (n : ℕ) (t : Timeline) (xs : List ℕ) (room : ℕ) (bench : Bench) → IsPlaced t
      → along readings format move go n (at t) xs room ≡ Ok bench → Went go n t xs room bench
  went go zero t xs room bench placed is = record {
    js = [];
    ms = [];
    ys = xs;
    left = room;
    values = all-left (values_of readings xs);
    many = refl;
    moves = refl;
    counted = refl;
    done = is;
  }
  went go (suc n) t xs room bench placed is =
      went-next go n t xs room bench placed (λ u ys left p h. went go n u ys left bench p h) (next_value readings room xs) (stands readings xs room) is

  -- ---- values that give moves

  -- values that give moves, and the reading that goes past them to what stands behind
  pub record Reaches (go : Bench → Reader) (n : ℕ) (t : Timeline) (xs : List ℕ) (room : ℕ) (ms : List (Label × State)) (ws : List Json) : Type 0 where
    -- the bytes behind the lines of the moves
    pub ys : List ℕ
    -- the room that is left for them
    pub left : ℕ
    -- reading along the lines is reading behind them, after the moves
    pub is : along readings format move go n (at t) xs room ≡ go (at (all_moved move t ms)) ys left
    -- the bytes behind have the values behind
    pub values : values_of readings ys ≡ Some ws
    -- there is room for them
    pub fits : length ys ≤ left

  reaches-next : (go : Bench → Reader) (n : ℕ) (t : Timeline) (xs : List ℕ) (room : ℕ)
      (m : Label × State) (ms : List (Label × State)) (j : Json) (vs ws : List Json)
      → told_value readings format now (present t) j ≡ Ok m → values_of readings xs ≡ Some (j ∷ vs) → length xs ≤ room
      → ((ys : List ℕ) (left : ℕ) → values_of readings ys ≡ Some vs → length ys ≤ left → Reaches go n (move t m.0 m.1) ys left ms ws)
      → (next : Next) → Stands readings xs room next → next_value readings room xs ≡ next → Reaches go (suc n) t xs room (m ∷ ms) ws
  reaches-next go n t xs room m ms j vs ws moved is fits again at_end s e =
      absurd (nil-cons j vs (same_Some [] (j ∷ vs) (sym (no-values readings) ∙ ap (values_of readings) (sym s) ∙ is)))
  reaches-next go n t xs room m ms j vs ws moved is fits again no_value s e =
      let line = lines-of-values readings xs room j vs is fits in
      absurd (none-some j (sym (s.1 line.0 line.1 line.2) ∙ line.3))
  reaches-next go n t xs room m ms j vs ws moved is fits again (value_then v ys left) s e =
      let all = map-back (λ us. v ∷ us) (values_of readings ys) (j ∷ vs) (sym (next-values readings xs room v ys left s) ∙ is) in
      let counted = next-counts readings xs room v ys left s in
      let rest = again ys left (all.1 ∙ ap Some (same-tail v j all.0 vs all.2)) (omega (arith, counted, fits)) in
      let took : told_value readings format now (present t) v ≡ Ok m = ap (told_value readings format now (present t)) (same-first v j all.0 vs all.2) ∙ moved in
      record {
        ys = rest.ys;
        left = rest.left;
        is = ap (after_value (Onward go n t)) e
            ∙ ap (λ (r : Result (Label × State) MoveFault). after_move (λ m. along readings format move go n (moved_by move (at t) m)) r ys left) took
            ∙ rest.is;
        values = rest.values;
        fits = rest.fits;
      }

  -- where the values of the bytes begin with those of moves, the reading reaches what stands behind them
  pub reaches : (go : Bench → Reader) (js ws : List Json) (ms : List (Label × State)) (t : Timeline) (xs : List ℕ) (room : ℕ) → IsPlaced t
      → moves_in readings format now (present t) js ≡ Some ms → values_of readings xs ≡ Some (js ++ ws) → length xs ≤ room → Reaches go (length js) t xs room ms ws
  reaches go [] ws ms t xs room placed moves is fits = record {
    ys = xs;
    left = room;
    is = ap (λ ns. go (at (all_moved move t ns)) xs room) (same_Some [] ms moves);
    values = is;
    fits = fits;
  }
  reaches go (j ∷ js) ws ms t xs room placed moves is fits =
      let first = and_then-back (λ m. option_map (λ ns. m ∷ ns) (moves_in readings format now m.1 js)) (told_move readings format now (present t) j) ms moves in
      let m = first.0 in
      let later = map-back (λ ns. m ∷ ns) (moves_in readings format now m.1 js) ms first.2 in
      let landed = lands t m.0 m.1 placed in
      subst (λ ns. Reaches go (suc (length js)) t xs room ns ws) later.2
      (reaches-next go (length js) t xs room m later.0 j (js ++ ws) ws (told-moved readings format now (present t) j m first.1) is fits
      (λ ys left read few. reaches go js ws later.0 (move t m.0 m.1) ys left landed.1 (ap (λ s. moves_in readings format now s js) landed.0 ∙ later.1) read few)
      (next_value readings room xs) (stands readings xs room) refl)

  -- ---- a fault

  -- where the fault behind the lines is that of what is read behind them
  abbrev pub Behind : (Bench → Reader) → ℕ → Timeline → List Text → MoveFault → MoveFault → Type 0
  Behind go n t ts behind f =
      (ms : List (Label × State)) (ys : List ℕ) (left : ℕ) → length ms ≡ n → lines_left ys left ≡ drop n ts
      → go (at (all_moved move t ms)) ys left ≡ Err f → behind ≡ f

  fault-move : (go : Bench → Reader) (n : ℕ) (t : Timeline) (u : Text) (ts : List Text) (ys : List ℕ) (left : ℕ) (behind f : MoveFault) → IsPlaced t
      → (length (u ∷ ts) < suc n → behind ≡ no_move_text) → Behind go (suc n) t (u ∷ ts) behind f → lines_left ys left ≡ ts
      → ((w : Timeline) → IsPlaced w → (length ts < n → behind ≡ no_move_text) → Behind go n w ts behind f → along readings format move go n (at w) ys left ≡ Err f
      → lines_fault readings format now behind (present w) (take n ts) ≡ f)
      → (r : Result (Label × State) MoveFault)
      → after_move (λ m. along readings format move go n (moved_by move (at t) m)) r ys left ≡ Err f
      → elim r [ Ok m ↦ lines_fault readings format now behind m.1 (take n ts) | Err g ↦ g ] ≡ f
  fault-move go n t u ts ys left behind f placed short reached same again (Ok m) h =
      let landed = lands t m.0 m.1 placed in
      ap (λ s. lines_fault readings format now behind s (take n ts)) (sym landed.0)
      ∙ again (move t m.0 m.1) landed.1 (λ less. short (omega (arith, less)))
      (λ ms zs rest many lines failed. reached (m ∷ ms) zs rest (ap suc many) lines failed) h
  fault-move go n t u ts ys left behind f placed short reached same again (Err g) h = same-fault g f h

  fault-none : (n : ℕ) (v : State) (ts : List Text) (behind f : MoveFault) → (length ts < suc n → behind ≡ no_move_text)
      → ((t : Text) (us : List Text) → ts ≡ t ∷ us → spelled_value readings t ≡ None) → no_move_text ≡ f
      → lines_fault readings format now behind v (take (suc n) ts) ≡ f
  fault-none n v [] behind f short none is = short (omega arith) ∙ is
  fault-none n v (t ∷ ts) behind f short none is =
      ap (λ (r : Result (Label × State) MoveFault). elim r [ Ok m ↦ lines_fault readings format now behind m.1 (take n ts) | Err g ↦ g ])
      (ap (λ (o : Option Json). elim o [ Some j ↦ told_value readings format now v j | None ↦ Err no_move_text ]) (none t ts refl))
      ∙ is

  fault-next : (go : Bench → Reader) (n : ℕ) (t : Timeline) (xs : List ℕ) (room : ℕ) (behind f : MoveFault) → IsPlaced t
      → (length (lines_left xs room) < suc n → behind ≡ no_move_text) → Behind go (suc n) t (lines_left xs room) behind f
      → ((w : Timeline) (ys : List ℕ) (left : ℕ) → IsPlaced w → (length (lines_left ys left) < n → behind ≡ no_move_text)
      → Behind go n w (lines_left ys left) behind f → along readings format move go n (at w) ys left ≡ Err f
      → lines_fault readings format now behind (present w) (take n (lines_left ys left)) ≡ f)
      → (next : Next) → Stands readings xs room next → after_value (Onward go n t) next ≡ Err f
      → lines_fault readings format now behind (present t) (take (suc n) (lines_left xs room)) ≡ f
  fault-next go n t xs room behind f placed short reached again at_end s h =
      fault-none n (present t) (lines_left xs room) behind f short
      (λ u us e. absurd (nil-cons u us (sym (no-lines room) ∙ ap (λ zs. lines_left zs room) (sym s) ∙ e))) (same-fault no_move_text f h)
  fault-next go n t xs room behind f placed short reached again no_value s h =
      fault-none n (present t) (lines_left xs room) behind f short s.1 (same-fault no_move_text f h)
  fault-next go n t xs room behind f placed short reached again (value_then v ys left) s h =
      let ts = lines_left ys left in
      let short_of : length (s.text ∷ ts) < suc n → behind ≡ no_move_text = subst (λ us. length us < suc n → behind ≡ no_move_text) s.lines short in
      let reached_of : Behind go (suc n) t (s.text ∷ ts) behind f = subst (λ us. Behind go (suc n) t us behind f) s.lines reached in
      ap (λ us. lines_fault readings format now behind (present t) (take (suc n) us)) s.lines
      ∙ ap (λ (r : Result (Label × State) MoveFault). elim r [ Ok m ↦ lines_fault readings format now behind m.1 (take n ts) | Err g ↦ g ])
      (ap (λ (o : Option Json). elim o [ Some j ↦ told_value readings format now (present t) j | None ↦ Err no_move_text ]) s.spelled)
      ∙ fault-move go n t s.text ts ys left behind f placed short_of reached_of refl (λ w p few back e. again w ys left p few back e)
      (told_value readings format now (present t) v) h

  -- a fault that is read along lines is that of the first faulty one, or what is told behind them
  pub fault-along : (go : Bench → Reader) (n : ℕ) (t : Timeline) (xs : List ℕ) (room : ℕ) (behind f : MoveFault) → IsPlaced t
      → (length (lines_left xs room) < n → behind ≡ no_move_text) → Behind go n t (lines_left xs room) behind f
      → along readings format move go n (at t) xs room ≡ Err f
      → lines_fault readings format now behind (present t) (take n (lines_left xs room)) ≡ f
  fault-along go zero t xs room behind f placed short reached h = reached [] xs room refl refl h
  fault-along go (suc n) t xs room behind f placed short reached h =
      fault-next go n t xs room behind f placed short reached (λ w ys left p few back e. fault-along go n w ys left behind f p few back e)
      (next_value readings room xs) (stands readings xs room) h

-- ---- a part

-- the part of a line
abbrev pub part_of : {X : Type 0} → Readings → (Json → Option X) → Text → Option X
part_of readings part t = option_and_then part (spelled_value readings t)

module _ (readings : Readings) {X : Type 0} (part : Json → Option X) (go : X → Reader) where
  -- a first line of which a part was taken, and a bench that was read behind it
  pub record PartWent (xs : List ℕ) (room : ℕ) (bench : Bench) : Type 0 where
    -- the value of the line
    pub value : Json
    -- the part that is taken of it
    pub taken : X
    -- the bytes behind the line
    pub ys : List ℕ
    -- the room that is left for them
    pub left : ℕ
    -- the values of all bytes are the line's, and then those of the bytes behind it
    pub values : values_of readings xs ≡ option_map (λ ws. value ∷ ws) (values_of readings ys)
    -- the part is taken of the value
    pub took : part value ≡ Some taken
    -- the room has become smaller by the bytes that were read
    pub counted : length xs + left ≡ length ys + room
    -- what is read behind the line, with the part, is the bench
    pub done : go taken ys left ≡ Ok bench

  -- a bench that is read with a part of the first line comes of such a line
  pub part-went : (xs : List ℕ) (room : ℕ) (bench : Bench) → with_part readings part go xs room ≡ Ok bench → PartWent xs room bench
  part-went xs room bench is = by-next (next_value readings room xs) (stands readings xs room) is
    where
      by-part : (v : Json) (ys : List ℕ) (left : ℕ) → HasNext readings xs room v ys left → (o : Option X) → part v ≡ o → after_part go o ys left ≡ Ok bench
          → PartWent xs room bench
      by-part v ys left next (Some x) took h = record {
        value = v;
        taken = x;
        ys = ys;
        left = left;
        values = next-values readings xs room v ys left next;
        took = took;
        counted = next-counts readings xs room v ys left next;
        done = h;
      }
      by-part v ys left next None took h = absurd cc

      by-next : (next : Next) → Stands readings xs room next → after_value (λ v. after_part go (part v)) next ≡ Ok bench → PartWent xs room bench
      by-next at_end s h = absurd cc
      by-next no_value s h = absurd cc
      by-next (value_then v ys left) s h = by-part v ys left s (part v) refl h

  -- a first value of which a part is taken, and the reading that goes past its line to what stands behind
  pub record PartReaches (xs : List ℕ) (room : ℕ) (x : X) (ws : List Json) : Type 0 where
    -- the bytes behind the line
    pub ys : List ℕ
    -- the room that is left for them
    pub left : ℕ
    -- reading with the part is reading behind the line, with this part
    pub is : with_part readings part go xs room ≡ go x ys left
    -- the bytes behind have the other values
    pub values : values_of readings ys ≡ Some ws
    -- there is room for them
    pub fits : length ys ≤ left

  -- where a part is taken of the first value, the reading reaches what stands behind its line
  pub part-reaches : (xs : List ℕ) (room : ℕ) (v : Json) (vs : List Json) (x : X) → values_of readings xs ≡ Some (v ∷ vs) → length xs ≤ room → part v ≡ Some x
      → PartReaches xs room x vs
  part-reaches xs room v vs x is fits took = by-next (next_value readings room xs) (stands readings xs room) refl
    where
      by-next : (next : Next) → Stands readings xs room next → next_value readings room xs ≡ next → PartReaches xs room x vs
      by-next at_end s e = absurd (nil-cons v vs (same_Some [] (v ∷ vs) (sym (no-values readings) ∙ ap (values_of readings) (sym s) ∙ is)))
      by-next no_value s e =
          let line = lines-of-values readings xs room v vs is fits in
          absurd (none-some v (sym (s.1 line.0 line.1 line.2) ∙ line.3))
      by-next (value_then w ys left) s e =
          let all = map-back (λ us. w ∷ us) (values_of readings ys) (v ∷ vs) (sym (next-values readings xs room w ys left s) ∙ is) in
          let counted = next-counts readings xs room w ys left s in
          record {
            ys = ys;
            left = left;
            is = ap (after_value (λ u. after_part go (part u))) e
                ∙ ap (λ o. after_part go o ys left) (ap part (same-first w v all.0 vs all.2) ∙ took);
            values = all.1 ∙ ap Some (same-tail w v all.0 vs all.2);
            fits = omega (arith, counted, fits);
          }

  -- no part is taken of the first line
  pub record PartFails (xs : List ℕ) (room : ℕ) (f : MoveFault) : Type 0 where
    -- the fault is that of a text that is no line's
    pub fault : no_move_text ≡ f
    -- where there is a first line within the room, no part is taken of it
    pub none : (t : Text) (ts : List Text) → lines_left xs room ≡ t ∷ ts → part_of readings part t ≡ None

  -- a part is, and what follows fails
  pub record FailsBehind (xs : List ℕ) (room : ℕ) (f : MoveFault) : Type 0 where
    -- the text of the first line
    pub text : Text
    -- the part that is taken of it
    pub taken : X
    -- the bytes behind the line
    pub ys : List ℕ
    -- the room that is left for them
    pub left : ℕ
    -- the lines within the room are this one and those of the bytes behind it
    pub lines : lines_left xs room ≡ text ∷ lines_left ys left
    -- the part is taken of the text
    pub took : part_of readings part text ≡ Some taken
    -- what is read behind the line, with the part, has the fault
    pub failed : go taken ys left ≡ Err f

  -- where reading with a part of the first line has a fault, no part is taken, or what is read behind the line has it
  pub part-fault : (xs : List ℕ) (room : ℕ) (f : MoveFault) → with_part readings part go xs room ≡ Err f → PartFails xs room f ⊎ FailsBehind xs room f
  part-fault xs room f is = by-next (next_value readings room xs) (stands readings xs room) is
    where
      by-part : (v : Json) (ys : List ℕ) (left : ℕ) → HasNext readings xs room v ys left → (o : Option X) → part v ≡ o → after_part go o ys left ≡ Err f
          → PartFails xs room f ⊎ FailsBehind xs room f
      by-part v ys left next (Some x) took h =
          inr (record {
            text = next.text;
            taken = x;
            ys = ys;
            left = left;
            lines = next.lines;
            took = ap (option_and_then part) next.spelled
                ∙ took;
            failed = h;
          })
      by-part v ys left next None took h =
          inl (record {
            fault = same-fault no_move_text f h;
            none = λ t ts e. ap (part_of readings part) (same-first t next.text ts (lines_left ys left) (sym e ∙ next.lines))
                ∙ ap (option_and_then part) next.spelled ∙ took;
          })

      by-next : (next : Next) → Stands readings xs room next → after_value (λ v. after_part go (part v)) next ≡ Err f → PartFails xs room f
          ⊎ FailsBehind xs room f
      by-next at_end s h =
          inl (record {
            fault = same-fault no_move_text f h;
            none = λ t ts e. absurd (nil-cons t ts (sym (no-lines room) ∙ ap (λ zs. lines_left zs room) (sym s) ∙ e));
          })
      by-next no_value s h = inl (record { fault = same-fault no_move_text f h; none = λ t ts e. ap (option_and_then part) (s.1 t ts e) })
      by-next (value_then v ys left) s h = by-part v ys left s (part v) refl h
