-- Which call the words are, and why others are none.
use Rattle.std.specs.Prelude.{◌≡◌, ℕ, Bool, List, [], Option, Some, None, codes, find, option_and_then, is_some, pos, true, false, ◌∷◌, IfSome}
use Rattle.std.specs.List.{list_all}
use Rattle.std.specs.Str.{bytes_eq}
use Rattle.std.specs.Str.Parse.{signed_digits_value}
use Rattle.clap.specs.Words.{IsAmong, IsSignedIn, Row, Text, fault_of, first_of, subcommand_of}
use Rattle.clap.specs.declared.error.kind.ErrorKind.{ErrorKind}
use Rattle.clap.specs.declared.error.kind.ErrorKind.TheVariants as kind
use Rattle.clap.specs.declared.parser.matches.ValueSource.{ValueSource}
use Rattle.clap.specs.declared.parser.matches.ValueSource.TheVariants.{CommandLine}
use Rattle.ssa_words.specs.Table.{Choice, IsStatus, table}
use Rattle.ssa_words.specs.declared.call.Call.{Call}
use Rattle.ssa_words.specs.declared.call.Call.TheVariants.{Init, Apply, Update, Strip, Undo, Redo, Show, Owners, Log, Session}
use Rattle.ssa_words.specs.declared.usage.Usage.{Usage}
use Rattle.ssa_words.specs.declared.usage.Usage.TheVariants.{Asked, Refused, OutOfMemory}

-- the text that clap matched for an argument, by the words or by its default
abbrev pub HasText : List Row → Text → Text → Type 0
HasText rows id text = first_of id rows ≡ Some text

abbrev pub by_words : Option ValueSource → Bool
by_words (Some CommandLine) = true
by_words _ = false

-- the words gave the argument, and not its default alone
abbrev pub was_given : Text → List Row → Bool
was_given id rows = by_words (option_and_then (λ r. r.source) (find (λ r. bytes_eq r.id id) rows))

-- ---- what clap matches where it takes the words

-- each word with the arguments of which a text is matched
abbrev pub wanted : List (Text × List Text)
wanted = (codes "init", codes "SCHEMA" ∷ codes "OBJECT" ∷ codes "BENCH" ∷ codes "depth" ∷ [])
    ∷ (codes "apply", codes "BENCH" ∷ codes "FILE" ∷ codes "at" ∷ codes "field-manager" ∷ [])
    ∷ (codes "update", codes "BENCH" ∷ codes "FILE" ∷ codes "at" ∷ codes "field-manager" ∷ [])
    ∷ (codes "strip", codes "BENCH" ∷ [])
    ∷ (codes "undo", codes "BENCH" ∷ [])
    ∷ (codes "redo", codes "BENCH" ∷ [])
    ∷ (codes "show", codes "BENCH" ∷ [])
    ∷ (codes "owners", codes "BENCH" ∷ codes "PATH" ∷ [])
    ∷ (codes "log", codes "BENCH" ∷ [])
    ∷ (codes "session", codes "BENCH" ∷ [])
    ∷ []

abbrev pub has_texts : List Row → List Text → Bool
has_texts rows = list_all (λ id. is_some (first_of id rows))

abbrev pub HasTexts : List Row → Option (Text × List Text) → Type 0
HasTexts rows None = ⊥
HasTexts rows (Some w) = has_texts rows w.1 ≡ true

-- no subresource but `status` is matched
abbrev pub HasStatusAtMost : List Row → Type 0
HasStatusAtMost rows = IfSome (first_of (codes "subresource") rows) (λ t. t ≡ codes "status")

-- no depth but a number from 1 to 1,000 is matched
abbrev pub HasDepthAtMost : List Row → Type 0
HasDepthAtMost rows = IfSome (first_of (codes "depth") rows) (IsSignedIn (pos 1) (pos 1000))

-- it is a word of the table, each of its texts is there, no subresource but `status` and no depth but a number from 1 to 1,000
abbrev pub IsWhole : Text → List Row → Type 0
IsWhole name rows = HasTexts rows (find (λ w. bytes_eq w.0 name) wanted) × HasStatusAtMost rows × HasDepthAtMost rows

abbrev pub IsWholeMatch : Option (Text × List Row) → Type 0
IsWholeMatch None = ⊥
IsWholeMatch (Some p) = IsWhole p.0 p.1

-- ---- calls

-- the subresource is `status`, or none is matched
abbrev pub IsThrough : List Row → Bool → Type 0
IsThrough rows true = HasText rows (codes "subresource") (codes "status")
IsThrough rows false = first_of (codes "subresource") rows ≡ None

-- the number is the one whose text is matched
abbrev pub IsDepth : List Row → ℕ → Type 0
IsDepth rows depth = (text : Text) × HasText rows (codes "depth") text × (signed_digits_value 10 text ≡ pos depth)

-- The call is the word of this name with what was matched for it.
abbrev pub IsCallOf : Text → List Row → Call → Type 0
IsCallOf name rows (Init schema object bench depth) = (name ≡ codes "init") × HasText rows (codes "SCHEMA") schema.now
    × HasText rows (codes "OBJECT") object.now × HasText rows (codes "BENCH") bench.now × IsDepth rows depth
IsCallOf name rows (Apply bench file at manager status force) = (name ≡ codes "apply") × HasText rows (codes "BENCH") bench.now
    × HasText rows (codes "FILE") file.now × HasText rows (codes "at") at.now
    × HasText rows (codes "field-manager") manager.now × IsThrough rows status
    × (force ≡ was_given (codes "force-conflicts") rows)
IsCallOf name rows (Update bench file at manager status) = (name ≡ codes "update") × HasText rows (codes "BENCH") bench.now
    × HasText rows (codes "FILE") file.now × HasText rows (codes "at") at.now
    × HasText rows (codes "field-manager") manager.now × IsThrough rows status
IsCallOf name rows (Strip bench) = (name ≡ codes "strip") × HasText rows (codes "BENCH") bench.now
IsCallOf name rows (Undo bench) = (name ≡ codes "undo") × HasText rows (codes "BENCH") bench.now
IsCallOf name rows (Redo bench) = (name ≡ codes "redo") × HasText rows (codes "BENCH") bench.now
IsCallOf name rows (Show bench managed) = (name ≡ codes "show") × HasText rows (codes "BENCH") bench.now
    × (managed ≡ was_given (codes "show-managed-fields") rows)
IsCallOf name rows (Owners bench path) = (name ≡ codes "owners") × HasText rows (codes "BENCH") bench.now
    × HasText rows (codes "PATH") path.now
IsCallOf name rows (Log bench) = (name ≡ codes "log") × HasText rows (codes "BENCH") bench.now
IsCallOf name rows (Session bench) = (name ≡ codes "session") × HasText rows (codes "BENCH") bench.now

abbrev pub IsMatched : Option (Text × List Row) → Call → Type 0
IsMatched None call = ⊥
IsMatched (Some p) call = IsCallOf p.0 p.1 call

-- clap takes the words for the table, whose one subresource is `status`, and the call is what it
-- matches
abbrev pub IsCall : List Text → Call → Type 0
IsCall words call = (names : Choice) × IsStatus names × (fault_of (table names) words ≡ [])
    × IsMatched (subcommand_of (table names) words) call

abbrev pub is_asked : ErrorKind → Bool
is_asked kind.DisplayHelp = true
is_asked kind.DisplayVersion = true
is_asked _ = false

-- The answer to a fault of this kind; where memory ran out, nothing is said.
abbrev pub IsUsageOf : ErrorKind → Usage → Type 0
IsUsageOf k (Asked text) = is_asked k ≡ true
IsUsageOf k (Refused text) = (is_asked k ≡ false) × (k ≡ kind.OutOfMemory → ⊥)
IsUsageOf k OutOfMemory = Unit {0}

-- clap refuses the words for the table, by help or version or by a mistake as is said; want of
-- memory aside
abbrev pub IsUsage : List Text → Usage → Type 0
IsUsage words OutOfMemory = Unit {0}
IsUsage words usage = (names : Choice) × IsStatus names × (k : ErrorKind)
    × IsAmong k (fault_of (table names) words) × IsUsageOf k usage
