-- What a call comes to, by what its parts come to.
use Rattle.std.specs.Prelude.{◌⊎◌, codes, if◌then◌else◌, is_some}
use Rattle.std.proofs.Common.{◌≡◌, ◌∙◌, ◌++◌, ◌∷◌, [], ℕ, refl, sym, subst, ap, inr, Bool, true, false, Option, Some, None, Result, Ok, Err}
use Rattle.std.specs.Result.{IfErr, IfOk, OnErr, OnOk}
use Rattle.std.specs.Io.KnownBytes.{Appends}
use Rattle.ssa_model.specs.definitions.BenchText.{depths}
use Rattle.ssa_model.specs.definitions.Files.{bench_with_file, schema_of_file}
use Rattle.ssa_model.specs.definitions.History.{Bench}
use Rattle.ssa_model.specs.definitions.Json.{Text}
use Rattle.ssa_model.specs.definitions.Lines.{line_feed}
use Rattle.ssa_model.specs.definitions.RecordedBench.{recorded_text}
use Rattle.ssa_model.specs.definitions.Schema.{Schema}
use Rattle.ssa_model.specs.definitions.Subcommands as subcommands
use Rattle.ssa_model.specs.definitions.Subcommands.{asked_answer, init_text}
use Rattle.ssa_json.specs.Readings.{readings}
use Rattle.ssa_disk.specs.Files.{Files, Standing, IsAsBut, draft_of, under}
use Rattle.ssa_program.specs.Asked.{is_asked_accepted, is_asked_change}
use Rattle.ssa_program.specs.Done.{ChangeStops, Changes, ComesTo, EndsAs, IsHeld, LookStops, Looks, MakeStops, Makes, WithDraft}
use Rattle.ssa_program.specs.Kept.{IsKept, IsKeptBy, IsPut}
use Rattle.ssa_program.specs.Outcome.{Outcome, IsBenchAt, IsInput, IsMade, IsSeen, answered, saved_for}
use Rattle.ssa_program.specs.Status.{status_for}
use Rattle.ssa_program.specs.Stops.{Stops, IsNoFault, IsSaid, IsUnchanged, IsUnloaded, IsUnsaved}
use Rattle.ssa_program.specs.Telling.{IsCut}
use Rattle.ssa_program.specs.declared.status.Status.{Status}
use Rattle.ssa_program.specs.declared.status.Status.TheVariants.{Done}
use Rattle.ssa_program.specs.declared.trouble.Trouble.{Trouble}
use Rattle.ssa_program.proofs.Kept.{comes, ends, kept, left, saved, untouched}
use Rattle.ssa_program.proofs.Stopping.{stops, unchanged_unsaved, unloaded, unmade_unsaved}

-- what holds anyhow holds where a call succeeds
pub on_ok : {T E : Type 0} (r : Result T E) (K : Type 0) → K → OnOk r K
on_ok (Ok x) K k = k
on_ok (Err e) K k = tt

-- what was saved for a reply is what has to be
pub saved_change : (tells empty : Type 0) (held after : Bench) (asked : subcommands.Asked) (is_change placed : Bool) (draft place : Text) (old new : Files)
    → is_change ≡ is_asked_change held asked → after ≡ (asked_answer readings held asked).1
    → (tells → empty → IsKeptBy (if is_change then Some (recorded_text depths after) else None) placed draft place old new)
    → tells → empty → IsKeptBy (saved_for held asked) placed draft place old new
saved_change tells empty held after asked is_change placed draft place old new change last keeps told blank =
    subst (λ s. IsKeptBy s placed draft place old new) (λ i. if change i then Some (recorded_text depths (last i)) else None) (keeps told blank)

some_if : (b : Bool) (x : Text) → is_some (if b then Some x else None) ≡ b
some_if true x = refl
some_if false x = refl

-- something is saved where the command is a change
pub said_change : (held : Bench) (asked : subcommands.Asked) (is_change saved : Bool) → is_change ≡ is_asked_change held asked → saved ≡ is_change
    → saved ≡ is_some (saved_for held asked)
said_change held asked is_change saved change told =
    told ∙ change ∙ sym (some_if (is_asked_change held asked) (recorded_text depths (asked_answer readings held asked).1))

-- ---- with a writer

module _ {W : Type 0} (contents : W → Option Text) (has_failed : W → Bool) (writer writer_new : W) where
  -- a reply that is cut ends the call at its reply, and what is kept was kept before
  pub cut_stops : (A : Trouble → Type 0) (saved saved_for : Bool) (K tells empty : Type 0) (text : Text) (r : Result Status Trouble)
      → saved ≡ saved_for → (tells → empty → K)
      → IfErr r (Stops ⊥ (λ said. (said ≡ saved) × IsCut contents has_failed writer writer_new text) ⊥)
      → IfErr r (λ t. tells → empty → Stops (A t) (λ said. IsCut contents has_failed writer writer_new text × ((said ≡ saved_for) × K)) ⊥ t)
  cut_stops A saved saved_for K tells empty text (Ok s) same keeps cut = tt
  cut_stops A saved saved_for K tells empty text (Err t) same keeps cut = λ told blank.
      stops _ _ _ _ _ _ _ _ (λ no. absurd no) (λ c. (c.1, (c.0 ∙ same, keeps told blank))) (λ c. (c.1, (c.0 ∙ same, keeps told blank))) (λ no. no) t cut

  -- ---- a look

  pub look_done : (tells : Type 0) (files : Files) (name : Text) (asked : subcommands.Asked) (held : Bench) → (tells → IsBenchAt (under files name) held)
      → (r : Result Status Trouble)
      → OnOk r (Appends (contents writer) (contents writer_new) ((asked_answer readings held asked).0 ++ line_feed ∷ []))
      → IfOk r (λ s. s ≡ status_for (is_asked_accepted held asked))
      → IfOk r (λ s. tells → Looks files files contents has_failed writer writer_new (IsSeen files name asked) s)
  look_done tells files name asked held loads (Ok s) writes ended = λ told. record {
    comes_to = record {
      outcome = record { line = (asked_answer readings held asked).0; status = status_for (is_asked_accepted held asked); saved = None };
      is = record { held = held; is_held = loads told; outcome = refl };
      keeps = (refl, refl);
      writes = writes;
    };
    status = ended;
  }
  look_done tells files name asked held loads (Err t) writes ended = tt

  look_cut : (files : Files) (name : Text) (asked : subcommands.Asked) (held : Bench) → IsBenchAt (under files name) held → (said : Bool)
      → (said ≡ false) × IsCut contents has_failed writer writer_new ((asked_answer readings held asked).0 ++ line_feed ∷ [])
      → ComesTo (IsSeen files name asked) (IsSaid said (λ saved. (saved ≡ None) × (files ≡ files))) (IsCut contents has_failed writer writer_new)
  look_cut files name asked held loads said cut = record {
    outcome = record { line = (asked_answer readings held asked).0; status = status_for (is_asked_accepted held asked); saved = None };
    is = record { held = held; is_held = loads; outcome = refl };
    keeps = (cut.0, (refl, refl));
    writes = cut.1;
  }

  pub look_stopped : (tells : Type 0) (files : Files) (name : Text) (asked : subcommands.Asked) (held : Bench) → (tells → IsBenchAt (under files name) held)
      → (r : Result Status Trouble)
      → IfErr r (λ t. Stops ((writer_new ≡ writer) × IsNoFault t)
      (λ said. (said ≡ false) × IsCut contents has_failed writer writer_new ((asked_answer readings held asked).0 ++ line_feed ∷ [])) ⊥ t)
      → IfErr r (λ t. tells → LookStops files files contents has_failed writer writer_new name (IsSeen files name asked) t)
  look_stopped tells files name asked held loads (Ok s) stopped = tt
  look_stopped tells files name asked held loads (Err t) stopped = λ told.
      stops _ _ _ _ _ _ _ _ (λ b. (refl, b.0, unloaded (under files name) t b.1))
      (look_cut files name asked held (loads told) false) (look_cut files name asked held (loads told) true) (λ no. no) t stopped

  -- ---- a change, while its draft is there

  module _ (tells empty : Type 0) (Is : Outcome → Type 0) (held : Bench) (asked : subcommands.Asked) (draft place : Text) (placed : Bool) (old new : Files)
      (is : tells → Is (answered held asked)) (r : Result Status Trouble) where
    pub locked_done : OnOk r (Appends (contents writer) (contents writer_new) ((asked_answer readings held asked).0 ++ line_feed ∷ []))
        → IfOk r (λ s. s ≡ status_for (is_asked_accepted held asked))
        → OnOk r (tells → empty → IsKeptBy (saved_for held asked) placed draft place old new)
        → IfOk r (λ s. tells → empty → EndsAs Is (λ text. IsKeptBy text placed draft place old new) (Appends (contents writer) (contents writer_new)) s)
    locked_done writes ended keeps =
        elim r as (λ v. OnOk v (Appends (contents writer) (contents writer_new) ((asked_answer readings held asked).0 ++ line_feed ∷ []))
        → IfOk v (λ s. s ≡ status_for (is_asked_accepted held asked))
        → OnOk v (tells → empty → IsKeptBy (saved_for held asked) placed draft place old new)
        → IfOk v (λ s. tells → empty → EndsAs Is (λ text. IsKeptBy text placed draft place old new) (Appends (contents writer) (contents writer_new)) s)) [
          | Ok s ↦ λ w e k told blank. record {
            comes_to = record { outcome = answered held asked; is = is told; keeps = k told blank; writes = w };
            status = e;
          }
          | Err t ↦ λ w e k. tt
        ] writes ended keeps

    pub locked_stopped : (s : Standing)
        → IfErr r (λ t. tells → empty → Stops (IsAsBut draft old new × ((writer_new ≡ writer) × IsUnsaved (saved_for held asked) t))
        (λ said. IsCut contents has_failed writer writer_new ((asked_answer readings held asked).0 ++ line_feed ∷ [])
        × IsSaid said (λ text. IsKeptBy text placed draft place old new) (saved_for held asked)) ⊥ t)
        → IfErr r (λ t. tells → empty → Stops (IsAsBut draft old new × ((writer_new ≡ writer) × IsUnchanged s Is t))
        (λ said. ComesTo Is (IsSaid said (λ text. IsKeptBy text placed draft place old new)) (IsCut contents has_failed writer writer_new)) ⊥ t)
    locked_stopped s stopped =
        elim r as (λ v. IfErr v (λ t. tells → empty → Stops (IsAsBut draft old new × ((writer_new ≡ writer) × IsUnsaved (saved_for held asked) t))
        (λ said. IsCut contents has_failed writer writer_new ((asked_answer readings held asked).0 ++ line_feed ∷ [])
        × IsSaid said (λ text. IsKeptBy text placed draft place old new) (saved_for held asked)) ⊥ t)
        → IfErr v (λ t. tells → empty → Stops (IsAsBut draft old new × ((writer_new ≡ writer) × IsUnchanged s Is t))
        (λ said. ComesTo Is (IsSaid said (λ text. IsKeptBy text placed draft place old new)) (IsCut contents has_failed writer writer_new)) ⊥ t)) [
          | Ok v ↦ λ st. tt
          | Err t ↦ λ st told blank.
              stops _ _ _ _ _ _ _ _ (λ b. (b.0, (b.1.0, unchanged_unsaved s Is (answered held asked) (is told) t b.1.1)))
              (λ b. record { outcome = answered held asked; is = is told; keeps = b.1; writes = b.0 })
              (λ b. record { outcome = answered held asked; is = is told; keeps = b.1; writes = b.0 })
              (λ no. no) t (st told blank)
        ] stopped

  -- ---- a change, its draft made before and ended behind it

  module _ (tells : Type 0) (bench draft place : Text) (placed : Bool) (old locked last new : Files)
      (same : tells → draft ≡ draft_of old bench) (leads : tells → old.place place ≡ old.place bench) (made : IsAsBut draft old locked)
      (stays : placed ≡ true → new ≡ last) (ended : IsAsBut draft last new) where
    pub change_done : (empty : Type 0) (Is : Files → Outcome → Type 0) → (tells → empty) → (r : Result Status Trouble)
        → IfOk r (λ s. tells → empty → EndsAs (Is locked) (λ text. IsKeptBy text placed draft place locked last) (Appends (contents writer) (contents writer_new)) s)
        → IfOk r (λ s. tells → Changes old new contents has_failed writer writer_new bench Is s)
    change_done empty Is blank (Ok s) does = λ told.
        ends Is (Appends (contents writer) (contents writer_new)) s placed bench draft place old locked last new
        (same told) (leads told) made stays ended (does told (blank told))
    change_done empty Is blank (Err t) does = tt

    pub change_stopped : (empty : Type 0) (Is : Files → Outcome → Type 0) → (tells → empty) → (r : Result Status Trouble)
        → IfErr r (λ t. tells → empty → Stops (IsAsBut draft locked last × ((writer_new ≡ writer) × IsUnchanged (under locked bench) (Is locked) t))
        (λ said. ComesTo (Is locked) (IsSaid said (λ text. IsKeptBy text placed draft place locked last)) (IsCut contents has_failed writer writer_new)) ⊥ t)
        → IfErr r (λ t. tells → ChangeStops old new contents has_failed writer writer_new bench Is t)
    change_stopped empty Is blank (Ok s) does = tt
    change_stopped empty Is blank (Err t) does = λ told.
        stops _ _ _ _ _ _ _ _
        (λ b. (
          left bench draft old locked last new (same told) made b.0 ended,
          b.1.0,
          record {
            locked = locked;
            draft = subst (λ d. IsAsBut d old locked) (same told) made;
            work = b.1.1;
          },
        ))
        (comes Is (IsCut contents has_failed writer writer_new) false placed bench draft place old locked last new (same told) (leads told) made stays ended)
        (comes Is (IsCut contents has_failed writer writer_new) true placed bench draft place old locked last new (same told) (leads told) made stays ended)
        (λ no. no) t (does told (blank told))

-- ---- a session

module _ (tells : Type 0) (All Breaks : Bench → Bench → Type 0) (Same : Type 0) where
  module _ (draft place : Text) (placed : Bool) (old new : Files) (name : Text) (held after : Bench) (loads : tells → IsBenchAt (under old name) held) where
    pub held_done : (empty : Type 0) (r : Result Status Trouble) → IfOk r (λ s. s ≡ Done) → OnOk r (All held after)
        → OnOk r (tells → empty → IsKeptBy (Some (recorded_text depths after)) placed draft place old new)
        → IfOk r (λ s. tells → empty → (s ≡ Done)
        × IsHeld old name (λ h a. All h a × IsKeptBy (Some (recorded_text depths a)) placed draft place old new))
    held_done empty (Ok s) done runs keeps = λ told blank. (
      done,
      record {
        held = held;
        is_held = loads told;
        after = after;
        runs = (runs, keeps told blank);
      },
    )
    held_done empty (Err t) done runs keeps = tt

    pub held_stopped : (r : Result Status Trouble)
        → IfErr r (λ t. Stops (All held after × IsUnsaved (Some (recorded_text depths after)) t) (λ said. ⊥) (Breaks held after) t)
        → OnErr r (IsAsBut draft old new)
        → IfErr r (λ t. tells → Stops
        (IsAsBut draft old new × ((IsUnloaded (under old name) t × Same) ⊎ IsHeld old name (λ h a. All h a × IsUnsaved (Some (recorded_text depths a)) t)))
        (λ said. ⊥) (IsAsBut draft old new × IsHeld old name (λ h a. Breaks h a)) t)
    held_stopped (Ok s) stopped leaves = tt
    held_stopped (Err t) stopped leaves = λ told.
        stops _ _ _ _ _ _ _ _
        (λ b. (leaves, inr (record { held = held; is_held = loads told; after = after; runs = b })))
        (λ no. no)
        (λ no. no)
        (λ b. (leaves, record { held = held; is_held = loads told; after = after; runs = b })) t stopped

  module _ (bench draft place : Text) (placed : Bool) (old locked last new : Files)
      (same : tells → draft ≡ draft_of old bench) (leads : tells → old.place place ≡ old.place bench) (made : IsAsBut draft old locked)
      (stays : placed ≡ true → new ≡ last) (ended : IsAsBut draft last new) where
    -- a session that is saved
    pub session_done : (empty : Type 0) → (tells → empty) → (r : Result Status Trouble)
        → IfOk r (λ s. tells → empty → (s ≡ Done)
        × IsHeld locked bench (λ h a. All h a × IsKeptBy (Some (recorded_text depths a)) placed draft place locked last))
        → IfOk r (λ s. tells → (s ≡ Done)
        × WithDraft bench old (λ files. IsHeld files bench (λ h a. All h a × IsPut (recorded_text depths a) (draft_of old bench) bench old new)))
    session_done empty blank (Ok s) does = λ told.
        let d = does told (blank told) in (
          d.0,
          record {
            locked = locked;
            draft = subst (λ n. IsAsBut n old locked) (same told) made;
            work = record {
              held = d.1.held;
              is_held = d.1.is_held;
              after = d.1.after;
              runs = (
                d.1.runs.0,
                kept (Some (recorded_text depths d.1.after)) placed bench draft place old locked last new (same told) (leads told) made d.1.runs.1 stays ended,
              );
            };
          },
        )
    session_done empty blank (Err t) does = tt

    -- one that is not
    pub session_stopped : (r : Result Status Trouble)
        → IfErr r (λ t. tells → Stops
        (IsAsBut draft locked last
        × ((IsUnloaded (under locked bench) t × Same) ⊎ IsHeld locked bench (λ h a. All h a × IsUnsaved (Some (recorded_text depths a)) t)))
        (λ said. ⊥) (IsAsBut draft locked last × IsHeld locked bench (λ h a. Breaks h a)) t)
        → IfErr r (λ t. tells → Stops
        (IsAsBut (draft_of old bench) old new
        × WithDraft bench old (λ files. (IsUnloaded (under files bench) t × Same)
        ⊎ IsHeld files bench (λ h a. All h a × IsUnsaved (Some (recorded_text depths a)) t)))
        (λ said. ⊥) (IsAsBut (draft_of old bench) old new × WithDraft bench old (λ files. IsHeld files bench (λ h a. Breaks h a))) t)
    session_stopped (Ok s) does = tt
    session_stopped (Err t) does = λ told.
        stops _ _ _ _ _ _ _ _
        (λ b. (
          left bench draft old locked last new (same told) made b.0 ended,
          record {
            locked = locked;
            draft = subst (λ n. IsAsBut n old locked) (same told) made;
            work = b.1;
          },
        ))
        (λ no. no)
        (λ no. no)
        (λ b. (
          left bench draft old locked last new (same told) made b.0 ended,
          record {
            locked = locked;
            draft = subst (λ n. IsAsBut n old locked) (same told) made;
            work = b.1;
          },
        )) t (does told)

-- ---- a bench that is made

-- what the call comes to that makes this bench
abbrev pub made_outcome : Bench → Outcome
made_outcome made = record { line = init_text made; status = Done; saved = Some (recorded_text depths made) }

pub made_of : (files : Files) (schema object : Text) (depth : ℕ) (schema_bytes : Text) (read : Schema) (object_bytes : Text) (made : Bench)
    → IsInput (under files schema) schema_bytes → schema_of_file readings schema_bytes ≡ Ok read
    → IsInput (under files object) object_bytes → bench_with_file readings depth read object_bytes ≡ Ok made
    → IsMade files schema object depth (made_outcome made)
made_of files schema object depth schema_bytes read object_bytes made is_schema is_read is_object is_made = record {
  schema_bytes = schema_bytes;
  is_schema = is_schema;
  schema_read = read;
  is_schema_read = is_read;
  object_bytes = object_bytes;
  is_object = is_object;
  made = made;
  is_made = is_made;
  outcome = refl;
}

make_put : (bench place : Text) (old new : Files) (made : Bench) → place ≡ old.own bench → old.place place ≡ old.place bench
    → IsPut (recorded_text depths made) (place ++ codes ".new") place old new → IsPut (recorded_text depths made) (draft_of old bench) bench old new
make_put bench place old new made own leads put =
    saved (recorded_text depths made) bench (place ++ codes ".new") place old old new (ap (λ n. n ++ codes ".new") own) leads
    (untouched (place ++ codes ".new") old old refl) put

module _ {W : Type 0} (contents : W → Option Text) (has_failed : W → Bool) (writer writer_new : W) (tells : Type 0)
    (schema object bench place : Text) (depth : ℕ) (old new : Files) (made : Bench)
    (own : tells → place ≡ old.own bench) (leads : tells → old.place place ≡ old.place bench)
    (is : tells → IsMade old schema object depth (made_outcome made)) where
  pub new_done : (r : Result Status Trouble)
      → IfOk r (λ s. tells → (s ≡ Done)
      × (Appends (contents writer) (contents writer_new) (init_text made ++ line_feed ∷ [])
      × IsPut (recorded_text depths made) (place ++ codes ".new") place old new))
      → IfOk r (λ s. tells → Makes old new contents has_failed writer writer_new schema object bench depth s)
  new_done (Ok s) does = λ told. record {
    comes_to = record {
      outcome = made_outcome made;
      is = is told;
      keeps = make_put bench place old new made (own told) (leads told) (does told).1.1;
      writes = (does told).1.0;
    };
    status = (does told).0;
  }
  new_done (Err t) does = tt

  new_cut : tells → (said : Bool) → (said ≡ true) × (IsCut contents has_failed writer writer_new (init_text made ++ line_feed ∷ [])
      × IsPut (recorded_text depths made) (place ++ codes ".new") place old new)
      → ComesTo (IsMade old schema object depth) (IsSaid said (λ saved. IsKept saved bench old new)) (IsCut contents has_failed writer writer_new)
  new_cut told said b = record {
    outcome = made_outcome made;
    is = is told;
    keeps = (b.0, make_put bench place old new made (own told) (leads told) b.1.1);
    writes = b.1.0;
  }

  pub new_stopped : (r : Result Status Trouble)
      → IfErr r (λ t. tells → Stops
      (IsAsBut (place ++ codes ".new") old new × ((writer_new ≡ writer) × IsUnsaved (Some (recorded_text depths made)) t))
      (λ said. (said ≡ true) × (IsCut contents has_failed writer writer_new (init_text made ++ line_feed ∷ [])
      × IsPut (recorded_text depths made) (place ++ codes ".new") place old new)) ⊥ t)
      → IfErr r (λ t. tells → MakeStops old new contents has_failed writer writer_new schema object bench depth t)
  new_stopped (Ok s) does = tt
  new_stopped (Err t) does = λ told.
      stops _ _ _ _ _ _ _ _
      (λ b. (
        subst (λ d. IsAsBut d old new) (ap (λ n. n ++ codes ".new") (own told)) b.0,
        b.1.0,
        unmade_unsaved old schema object depth (made_outcome made) (is told) t b.1.1,
      ))
      (new_cut told false) (new_cut told true) (λ no. no) t (does told)
