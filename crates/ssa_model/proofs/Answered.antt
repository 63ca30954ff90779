-- What an answer may be: nothing new, another place, or a deed's state behind the present one.
use Rattle.std.proofs.Common.{◌≡◌, ℕ, ◌+◌, ◌-◌, ◌≤◌, ◌==◌, length, Bool, true, false, not, refl, ap, arith}
use Rattle.std.proofs.lemmas.Bool.Decides.{nat_tests}
use Rattle.std.specs.Prelude.{Result, Ok, Err, if◌then◌else◌, codes, Some, option_map}
use Rattle.ssa_model.specs.definitions.Json.{Text, Json}
use Rattle.ssa_model.specs.definitions.Body.{Body}
use Rattle.ssa_model.specs.definitions.Parts.{Actor}
use Rattle.ssa_model.specs.definitions.Operations.{State, Refusal}
use Rattle.ssa_model.specs.definitions.History.{Bench, present, past_len, future_len, moved_to, with_timeline, is_manager_name}
use Rattle.ssa_model.specs.definitions.Answers.{Answer, Reply, moved, shown, owned_by, logged, refused, manager_name, no_subresource, has_part, nothing_to_undo, nothing_to_redo, Fault, fault, Command, apply, update, strip, undo, redo, show, owners, log, answer, accept, accept_or_refuse, with_body, apply_answer, command_body}
use Rattle.ssa_model.specs.definitions.Effect.{is_accepted, body_in, deed_of, Deed, applying, updating, stripping, label_of, carried_out}

module _ (bench : Bench) (Holds : Command → Answer → Type 0)
    -- where the bench stays as it is
    (stays : (c : Command) (reply : Reply) → is_accepted reply ≡ false → Holds c (reply, bench))
    -- where a command is accepted
    (accepts : (c : Command) (word : Text) (d : Deed) (s : State) → deed_of bench c ≡ Some d → carried_out (present bench.timeline) d ≡ Ok s
    → Holds c (accept bench word (label_of d) s))
    -- where the place moves
    (moves : (c : Command) (word : Text) (past future n : ℕ) → n ≤ length bench.timeline.later
    → Holds c (moved word past future, with_timeline bench (moved_to bench.timeline n))) where
  given : (c : Command) (word : Text) (d : Deed) (r : Result State Refusal) → deed_of bench c ≡ Some d → carried_out (present bench.timeline) d ≡ r
      → Holds c (accept_or_refuse bench word (label_of d) r)
  given c word d (Ok s) own e = accepts c word d s own e
  given c word d (Err r) own e = stays c (fault (refused r)) refl

  one_of : (c : Command) (b : Bool) (x y : Answer) → Holds c x → Holds c y → Holds c (if b then x else y)
  one_of c true x y p q = p
  one_of c false x y p q = q

  of_body : (c : Command) (r : Result Body Fault) (go : Body → Answer) → ((body : Body) → r ≡ Ok body → Holds c (go body))
      → Holds c (elim r [ Ok body ↦ go body | Err f ↦ (fault f, bench) ])
  of_body c (Ok body) go p = p body refl
  of_body c (Err f) go p = stays c (fault f) refl

  with_body-holds : (c : Command) (who : Actor) (v : Json) (go : Body → Answer) → ((body : Body) → command_body bench v ≡ Ok body → Holds c (go body))
      → Holds c (with_body bench who v go)
  with_body-holds c who v go p =
      one_of c (not (is_manager_name who.name)) _ _ (stays c (fault manager_name) refl)
      (one_of c (not (has_part bench.schema.kind who.part)) _ _ (stays c (fault no_subresource) refl) (of_body c (command_body bench v) go p))

  unless : (c : Command) (b : Bool) (x y : Answer) → Holds c x → (b ≡ false → Holds c y) → Holds c (if b then x else y)
  unless c true x y p q = p
  unless c false x y p q = q refl

  back : (n m : ℕ) → n ≤ m → n - 1 ≤ m
  back n m le = omega (arith, le)

  forth : (n m : ℕ) → (m - n == 0) ≡ false → n + 1 ≤ m
  forth n m e = grind (arith, nat_tests)

  -- so it holds of each answer of a bench whose place is that of one of its states
  pub answers-hold : bench.timeline.place ≤ length bench.timeline.later → (c : Command) → Holds c (answer bench c)
  answers-hold place (apply who force at v) =
      with_body-holds (apply who force at v) who v (apply_answer bench who force at)
      (λ config e. given (apply who force at v) (codes "apply") (applying who force at config) _ (ap (λ r. option_map (applying who force at) (body_in r)) e)
      refl)
  answers-hold place (update who at v) =
      with_body-holds (update who at v) who v _
      (λ body e. given (update who at v) (codes "update") (updating who at body) _ (ap (λ r. option_map (updating who at) (body_in r)) e) refl)
  answers-hold place strip = accepts strip (codes "strip") stripping _ refl refl
  answers-hold place undo = one_of undo (past_len bench.timeline == 0) _ _ (stays undo (fault nothing_to_undo) refl)
      (moves undo (codes "undo") _ _ (bench.timeline.place - 1) (back bench.timeline.place (length bench.timeline.later) place))
  answers-hold place redo =
      unless redo (future_len bench.timeline == 0) _ _ (stays redo (fault nothing_to_redo) refl)
      (λ e. moves redo (codes "redo") _ _ (bench.timeline.place + 1) (forth bench.timeline.place (length bench.timeline.later) e))
  answers-hold place (show managed) = stays (show managed) (shown _) refl
  answers-hold place (owners p) = stays (owners p) (owned_by _) refl
  answers-hold place log = stays log (logged _ _) refl
