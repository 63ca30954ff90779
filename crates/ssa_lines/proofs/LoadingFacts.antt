-- Laws of reading the values of a bench file.
use Rattle.std.proofs.Common.{◌≡◌, ◌≢◌, ◌≤◌, ◌<◌, ◌-◌, ℕ, ◌+◌, ◌↔◌, IsTrue, Bool, true, false, length, List, [], ◌∷◌, ◌++◌, Option, Some, None, OnSome, Result, Ok, Err, refl, sym, ap, subst, ◌∙◌, arith}
use Rattle.std.proofs.lemmas.Bool.{false≢true}
use Rattle.std.proofs.lemmas.List.{append-nil}
use Rattle.std.proofs.lemmas.Result.{err_from_is_err_and}
use Rattle.std.specs.Result.{IsErrAnd}
use Rattle.std.specs.Io.KnownBytes.{IsAtEnd}
use Rattle.std.specs.Prelude.{Vec}
use Rattle.std.specs.declared.alloc.Global.{Global}
use Rattle.ssa_model.specs.definitions.Json.{Text, compact, same_text}
use Rattle.ssa_model.specs.definitions.Lines.{line_feed}
use Rattle.ssa_model.specs.definitions.BenchOfStates.{spelled_value}
use Rattle.ssa_model.specs.definitions.NextLines.{next_value, value_then}
use Rattle.ssa_model.proofs.FirstValues.{spelled-found}
use Rattle.ssa_model.proofs.NextValues.{next-beyond, next-of-line, next-refused, next-unended}
use Rattle.ssa_model.proofs.Tables.{same_text-true}
use Rattle.ssa_json.specs.Reading.{json_reading}
use Rattle.ssa_json.specs.Readings.{readings}
use Rattle.ssa_json.specs.View.{view}
use Rattle.ssa_lines.specs.Held.{Holds}
use Rattle.ssa_lines.specs.Loading.{IsSpelledAs, ReadsValue}
use Rattle.ssa_lines.specs.Reading.{TakesLine}
use Rattle.ssa_lines.specs.declared.line.Line.{Line}
use Rattle.ssa_lines.specs.declared.line.Line.TheVariants.{Kept, TooLong}
use Rattle.ssa_lines.specs.declared.loading.FileLine.{FileLine}
use Rattle.ssa_lines.specs.declared.loading.LoadFault.{LoadFault}
use Rattle.ssa_lines.specs.declared.loading.LoadFault.TheVariants.{BenchText, RecordDoesNotFit, Io, OutOfMemory}

-- a line whose value is read from its text, and written as it
pub spelled-as : (l : FileLine) (read written shown spelled : Text)
    → read ≡ l.text.items → written ≡ spelled → shown ≡ l.text.items
    → json_reading read ≡ Ok (view l.value) → spelled ≡ compact (view l.value) → same_text written shown ≡ true → IsSpelledAs l l.text.items
spelled-as l read written shown spelled read-is written-is shown-is value spelled-is same = record {
  same = refl;
  spelled = spelled-found readings l.text.items (view l.value) (subst (λ t. json_reading t ≡ Ok (view l.value)) read-is value)
      ((λ i. same_text (sym (written-is ∙ spelled-is) i) (sym shown-is i)) ∙ same);
  compact_is = sym shown-is ∙ sym (same_text-true written shown same) ∙ written-is ∙ spelled-is;
}

-- ---- a line, and the bytes that follow it

-- the last bytes, which no line feed ends
pub refused-unended : (most room room_after : ℕ) (a b : Option (List ℕ)) (line : Line) (empty : Bool)
    → TakesLine most a b line [] → OnSome a (IsAtEnd b) → ((text : List ℕ) → Holds most line text → IsTrue empty ↔ (text ≡ [])) → empty ≡ false
    → ReadsValue a b room room_after (Err BenchText)
refused-unended most room room_after None b line empty takes end test some = tt
refused-unended most room room_after (Some xs) None line empty takes end test some = absurd takes.taken
refused-unended most room room_after (Some xs) (Some ys) line empty takes end test some =
    let whole : xs ≡ takes.text = takes.taken ∙ ap (λ t. (takes.text ++ []) ++ t) end ∙ append-nil (takes.text ++ []) ∙ append-nil takes.text in
    let there : takes.text ≢ [] = λ none. false≢true (sym some ∙ (test takes.text takes.held).1 none) in
    ap (next_value readings room) whole ∙ next-unended readings takes.text room takes.plain there

-- a line that is no value's
pub refused-line : (most room room_after : ℕ) (a b : Option (List ℕ)) (line : Line) (bytes : Vec ℕ Global)
    → line ≡ Kept bytes → TakesLine most a b line (line_feed ∷ []) → spelled_value readings bytes.items ≡ None → ReadsValue a b room room_after (Err BenchText)
refused-line most room room_after None b line bytes is takes none = tt
refused-line most room room_after (Some xs) None line bytes is takes none = absurd takes.taken
refused-line most room room_after (Some xs) (Some ys) line bytes is takes none =
    let held : Holds most (Kept bytes) takes.text = subst (λ l. Holds most l takes.text) is takes.held in
    ap (next_value readings room) takes.taken ∙ next-refused readings takes.text ys room takes.plain (ap (spelled_value readings) (sym held.0) ∙ none)

-- a line for which there is no room
pub refused-beyond : (room room_after : ℕ) (a b : Option (List ℕ)) (line : Line)
    → TakesLine room a b line (line_feed ∷ []) → ((text : List ℕ) → Holds room line text → room ≤ length text) → ReadsValue a b room room_after (Err BenchText)
refused-beyond room room_after None b line takes more = tt
refused-beyond room room_after (Some xs) None line takes more = absurd takes.taken
refused-beyond room room_after (Some xs) (Some ys) line takes more =
    ap (next_value readings room) takes.taken ∙ next-beyond readings takes.text ys room takes.plain (more takes.text takes.held)

-- a line longer than any may be is a fault of the bench's text
pub too-long : (room room_after : ℕ) (a b : Option (List ℕ)) (line : Line) → line ≡ TooLong → TakesLine room a b line (line_feed ∷ [])
    → ReadsValue a b room room_after (Err BenchText)
too-long room room_after a b line is takes =
    refused-beyond room room_after a b line takes (λ text held. let more = subst (λ l. Holds room l text) is held in omega (arith, more))

-- a line for which what is left of the file's limit is too little is a fault of the bench's text
pub too-much : (room room_after : ℕ) (a b : Option (List ℕ)) (line : Line) (bytes : Vec ℕ Global) → line ≡ Kept bytes → TakesLine room a b line (line_feed ∷ [])
    → room ≤ length bytes.items → ReadsValue a b room room_after (Err BenchText)
too-much room room_after a b line bytes is takes more =
    refused-beyond room room_after a b line takes (λ text held.
    let same = subst (λ l. Holds room l text) is held in
    subst (λ t. room ≤ length t) same.0 more)

-- a value's line
pub first-line : (most room room_after : ℕ) (a b : Option (List ℕ)) (line : Line) (bytes : Vec ℕ Global) (l : FileLine)
    → line ≡ Kept bytes → TakesLine most a b line (line_feed ∷ []) → IsSpelledAs l bytes.items → length bytes.items + 1 + room_after ≡ room
    → ReadsValue a b room room_after (Ok (Some l))
first-line most room room_after None b line bytes l is takes spelled room_is = tt
first-line most room room_after (Some xs) None line bytes l is takes spelled room_is = absurd takes.taken
first-line most room room_after (Some xs) (Some ys) line bytes l is takes spelled room_is =
    let held : Holds most (Kept bytes) takes.text = subst (λ l. Holds most l takes.text) is takes.held in
    let same : length bytes.items ≡ length takes.text = ap length held.0 in
    let less : length takes.text < room = omega (arith, same, room_is) in
    let left : room - (length takes.text + 1) ≡ room_after = omega (arith, same, room_is) in
    record {
      rest = ys;
      left = refl;
      next = ap (next_value readings room) takes.taken
          ∙ next-of-line readings takes.text ys room (view l.value) takes.plain (ap (spelled_value readings) (sym held.0) ∙ spelled.spelled) less
          ∙ ap (value_then (view l.value) ys) left;
    }

-- what is said of a fault that is handed on
pub reads-handed_on : (room room_after : ℕ) (a b : Option (List ℕ)) (r : Result (Option FileLine) LoadFault) (f : LoadFault)
    → IsErrAnd r (λ g. g ≡ f) → ReadsValue a b room room_after (Err f) → ReadsValue a b room room_after r
reads-handed_on room room_after a b r f h told =
    let e = err_from_is_err_and r h in
    subst (ReadsValue a b room room_after) (sym (e.1 ∙ ap Err e.2)) told

-- a fault, which is that of the text only where the line is no value's
pub refused-by : (most room room_after : ℕ) (a b : Option (List ℕ)) (line : Line) (bytes : Vec ℕ Global) (f : LoadFault)
    → line ≡ Kept bytes → TakesLine most a b line (line_feed ∷ [])
    → (◌≡◌ {A = Result FileLine LoadFault} (Err f) (Err BenchText) → spelled_value readings bytes.items ≡ None)
    → f ≢ RecordDoesNotFit → ReadsValue a b room room_after (Err f)
refused-by most room room_after a b line bytes BenchText is takes told other = refused-line most room room_after a b line bytes is takes (told refl)
refused-by most room room_after a b line bytes RecordDoesNotFit is takes told other = absurd (other refl)
refused-by most room room_after None b line bytes Io is takes told other = tt
refused-by most room room_after (Some xs) b line bytes Io is takes told other = tt
refused-by most room room_after None b line bytes OutOfMemory is takes told other = tt
refused-by most room room_after (Some xs) b line bytes OutOfMemory is takes told other = tt
