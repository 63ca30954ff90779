-- Laws of loading the lines along which a bench goes, one after the other.
use Rattle.std.proofs.Common.{◌≡◌, ◌<◌, ◌+◌, ◌-◌, ℕ, suc, List, Option, Some, None, refl, sym, ap, subst, ◌∙◌, arith}
use Rattle.std.specs.Prelude.{Result, Ok, Err}
use Rattle.ssa_model.specs.definitions.BenchText.{Format}
use Rattle.ssa_model.specs.definitions.Json.{Json}
use Rattle.ssa_model.specs.definitions.Operations.{State}
use Rattle.ssa_model.specs.definitions.History.{Bench, Label, Step, present}
use Rattle.ssa_model.specs.definitions.BenchOfStates.{step_in}
use Rattle.ssa_model.specs.laws.LineByLine.{Move, Reader, after_move, after_part, after_value, along, gone_on, moved_by, steps_from, with_value}
use Rattle.ssa_model.specs.definitions.BenchFaults.{MoveFault, told_value}
use Rattle.ssa_json.specs.Readings.{readings}
use Rattle.ssa_json.specs.View.{view}
use Rattle.ssa_lines.specs.declared.loading.FileLine.{FileLine}
use Rattle.ssa_lines.specs.declared.loading.LoadFault.{LoadFault}
use Rattle.ssa_lines.specs.declared.loading.LoadFault.TheVariants.{BenchText, RecordDoesNotFit, Io, OutOfMemory}
use Rattle.ssa_bench.specs.Loading.{ReadRefuses, ReadsAlong, ReadsLine, ReadsMoves, ReadsSteps, Walk}
use Rattle.ssa_bench.specs.Taking.{GoesOn, MovesBy, Refuses}

-- so many of the lines were read: what is read of all is what is read of the rest
abbrev pub Went : Walk → ℕ → ℕ → Option (List ℕ) → Option (List ℕ) → ℕ → ℕ → Bench → Bench → Type 0
Went walk count done None now room room_left old bench = Unit {0}
Went walk count done (Some xs) None room room_left old bench = ⊥
Went walk count done (Some xs) (Some ys) room room_left old bench =
    (go : Bench → Reader) → walk go count old xs room ≡ walk go (count - done) bench ys room_left

-- how reading goes on with a line's value
abbrev Onward : Type 0
Onward = (Bench → Reader) → ℕ → Bench → Json → Reader

one-more : (count done : ℕ) → done < count → count - done ≡ suc (count - (done + 1))
one-more count done less = omega (arith, less)

-- ---- one line more

-- a line is read, and then the others
module _ (walk : Walk) (onward : Onward)
    (by_line : (go : Bench → Reader) (n : ℕ) (b : Bench) (xs : List ℕ) (room : ℕ) → walk go (suc n) b xs room ≡ with_value readings (onward go n b) xs room)
    (count done : ℕ) (less : done < count) where
  abbrev behind : ℕ
  behind = count - (done + 1)

  next-line : (go : Bench → Reader) (bench : Bench) (ys : List ℕ) (room_left : ℕ)
      → walk go (count - done) bench ys room_left ≡ with_value readings (onward go behind bench) ys room_left
  next-line go bench ys room_left =
      ap (λ n. walk go n bench ys room_left) (one-more count done less) ∙ by_line go behind bench ys room_left

  -- one line more was read: what is read of all is what is read of the rest behind it
  more : (a b c : Option (List ℕ)) (room room_left room_after : ℕ) (old bench next : Bench) (l : FileLine)
      → Went walk count done a b room room_left old bench → ReadsLine b c room_left room_after (Ok l)
      → ((go : Bench → Reader) (rest : List ℕ) → onward go behind bench (view l.value) rest room_after ≡ walk go behind next rest room_after)
      → Went walk count (done + 1) a c room room_after old next
  more None b c room room_left room_after old bench next l went line on = tt
  more (Some xs) None c room room_left room_after old bench next l went line on = absurd went
  more (Some xs) (Some ys) c room room_left room_after old bench next l went line on =
      subst (λ d. Went walk count (done + 1) (Some xs) d room room_after old next) (sym line.left)
      (λ go. went go ∙ next-line go bench ys room_left ∙ ap (after_value (onward go behind bench)) line.next ∙ on go line.rest)

  -- no line stands next
  unread : (a b c : Option (List ℕ)) (room room_left room_after : ℕ) (old bench new : Bench) (f : LoadFault)
      → Went walk count done a b room room_left old bench → ReadsLine b c room_left room_after (Err f)
      → ReadsAlong walk count a c room room_after old new (Err f)
  unread None b c room room_left room_after old bench new f went line = tt
  unread (Some xs) None c room room_left room_after old bench new f went line = absurd went
  unread (Some xs) (Some ys) c room room_left room_after old bench new f went line =
      λ go. subst (ReadRefuses f) (sym (went go ∙ next-line go bench ys room_left)) (line (onward go behind bench))

  -- the line that stands next is refused
  refused : (a b c : Option (List ℕ)) (room room_left room_after : ℕ) (old bench next : Bench) (l : FileLine) (f : LoadFault)
      → Went walk count done a b room room_left old bench → ReadsLine b c room_left room_after (Ok l)
      → ((go : Bench → Reader) (rest : List ℕ) → ReadRefuses f (onward go behind bench (view l.value) rest room_after))
      → ReadsAlong walk count a c room room_after old next (Err f)
  refused None b c room room_left room_after old bench next l f went line off = tt
  refused (Some xs) None c room room_left room_after old bench next l f went line off = absurd went
  refused (Some xs) (Some ys) c room room_left room_after old bench next l f went line off =
      λ go. subst (ReadRefuses f) (sym (went go ∙ next-line go bench ys room_left ∙ ap (after_value (onward go behind bench)) line.next)) (off go line.rest)

-- ---- moves

abbrev move_onward : Format → Move → Onward
move_onward f move go n bench v = after_move (λ m. along readings f move go n (moved_by move bench m)) (told_value readings f bench (present bench.timeline) v)

-- one move more was read
pub went-more : (f : Format) (move : Move) (count done : ℕ) (a b c : Option (List ℕ)) (room room_left room_after : ℕ) (old bench next : Bench) (l : FileLine)
    → done < count → Went (along readings f move) count done a b room room_left old bench → ReadsLine b c room_left room_after (Ok l)
    → MovesBy f move bench next (Ok tt) (view l.value)
    → Went (along readings f move) count (done + 1) a c room room_after old next
went-more f move count done a b c room room_left room_after old bench next l less went line moved =
    let left = count - (done + 1) in
    more (along readings f move) (move_onward f move) (λ go n b xs room. refl) count done less a b c room room_left room_after old bench next l went line
    (λ go rest. ap (λ (r : Result (Label × State) MoveFault). after_move (λ m. along readings f move go left (moved_by move bench m)) r rest room_after) moved.1
    ∙ ap (λ b. along readings f move go left b rest room_after) (sym moved.2))

-- where one result has each fault of the other, a reader with this result refuses for the same reason
pub refuses-as : {X Y : Type 0} (f : LoadFault) (r : Result X MoveFault) (s : Result Y MoveFault) → ((g : MoveFault) → r ≡ Err g → s ≡ Err g) → Refuses f r
    → ReadRefuses f s
refuses-as BenchText r s on h = on _ h
refuses-as RecordDoesNotFit r s on h = on _ h
refuses-as Io r s on h = absurd h
refuses-as OutOfMemory r s on h = tt

-- no line of a move stands next
pub went-unread : (f : Format) (move : Move) (count done : ℕ) (a b c : Option (List ℕ)) (room room_left room_after : ℕ) (old bench new : Bench) (e : LoadFault)
    → done < count → Went (along readings f move) count done a b room room_left old bench → ReadsLine b c room_left room_after (Err e)
    → ReadsMoves f move count a c room room_after old new (Err e)
went-unread f move count done a b c room room_left room_after old bench new e less went line =
    unread (along readings f move) (move_onward f move) (λ go n b xs room. refl) count done less a b c room room_left room_after old bench new e went line

-- the line of a move that stands next is refused
pub went-refused : (f : Format) (move : Move) (count done : ℕ) (a b c : Option (List ℕ)) (room room_left room_after : ℕ) (old bench next : Bench) (l : FileLine)
    (e : LoadFault)
    → done < count → Went (along readings f move) count done a b room room_left old bench → ReadsLine b c room_left room_after (Ok l)
    → MovesBy f move bench next (Err e) (view l.value)
    → ReadsMoves f move count a c room room_after old next (Err e)
went-refused f move count done a b c room room_left room_after old bench next l e less went line moved =
    let left = count - (done + 1) in
    refused (along readings f move) (move_onward f move) (λ go n b xs room. refl) count done less a b c room room_left room_after old bench next l e went line
    (λ go rest. refuses-as e (told_value readings f bench (present bench.timeline) (view l.value)) (move_onward f move go left bench (view l.value) rest room_after)
    (λ g e. ap (λ (r : Result (Label × State) MoveFault). after_move (λ m. along readings f move go left (moved_by move bench m)) r rest room_after) e)
    moved)

-- ---- later states

abbrev step_onward : Onward
step_onward go n bench v = after_part (λ s. steps_from readings go n (gone_on bench s)) (step_in readings bench (present bench.timeline) v)

-- one state more was read
pub stepped-more : (count done : ℕ) (a b c : Option (List ℕ)) (room room_left room_after : ℕ) (old bench next : Bench) (l : FileLine)
    → done < count → Went (steps_from readings) count done a b room room_left old bench → ReadsLine b c room_left room_after (Ok l)
    → GoesOn bench next (Ok tt) (view l.value)
    → Went (steps_from readings) count (done + 1) a c room room_after old next
stepped-more count done a b c room room_left room_after old bench next l less went line on =
    let left = count - (done + 1) in
    more (steps_from readings) step_onward (λ go n b xs room. refl) count done less a b c room room_left room_after old bench next l went line
    (λ go rest. ap (λ (o : Option Step). after_part (λ s. steps_from readings go left (gone_on bench s)) o rest room_after) on.1
    ∙ ap (λ b. steps_from readings go left b rest room_after) (sym on.2))

-- no line of a state stands next
pub stepped-unread : (count done : ℕ) (a b c : Option (List ℕ)) (room room_left room_after : ℕ) (old bench new : Bench) (f : LoadFault)
    → done < count → Went (steps_from readings) count done a b room room_left old bench → ReadsLine b c room_left room_after (Err f)
    → ReadsSteps count a c room room_after old new (Err f)
stepped-unread count done a b c room room_left room_after old bench new f less went line =
    unread (steps_from readings) step_onward (λ go n b xs room. refl) count done less a b c room room_left room_after old bench new f went line

no-step : (bench next : Bench) (v : Json) (f : LoadFault) (go : Bench → Reader) (n : ℕ) (rest : List ℕ) (room : ℕ) → GoesOn bench next (Err f) v
    → ReadRefuses f (step_onward go n bench v rest room)
no-step bench next v BenchText go n rest room h = ap (λ (o : Option Step). after_part (λ s. steps_from readings go n (gone_on bench s)) o rest room) h
no-step bench next v RecordDoesNotFit go n rest room h = absurd h
no-step bench next v Io go n rest room h = absurd h
no-step bench next v OutOfMemory go n rest room h = tt

-- the line of a state that stands next is refused
pub stepped-refused : (count done : ℕ) (a b c : Option (List ℕ)) (room room_left room_after : ℕ) (old bench next : Bench) (l : FileLine) (f : LoadFault)
    → done < count → Went (steps_from readings) count done a b room room_left old bench → ReadsLine b c room_left room_after (Ok l)
    → GoesOn bench next (Err f) (view l.value)
    → ReadsSteps count a c room room_after old next (Err f)
stepped-refused count done a b c room room_left room_after old bench next l f less went line off =
    let left = count - (done + 1) in
    refused (steps_from readings) step_onward (λ go n b xs room. refl) count done less a b c room room_left room_after old bench next l f went line
    (λ go rest. no-step bench next (view l.value) f go left rest room_after off)
