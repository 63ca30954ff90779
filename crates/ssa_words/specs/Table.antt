-- The table of the program's words, as clap reads a command: the code builds its command from it,
-- and the contracts speak of it.
use Rattle.std.specs.Prelude.{◌≡◌, ◌∷◌, ◌++◌, List, [], Some, false, pos, true, codes}
use Rattle.std.specs.Borrow.{Bor}
use Rattle.clap.specs.Words.{App, Rule, Shape, Text, app_of, new_rule}
use Rattle.clap.specs.Simple.{new_shape}
use Rattle.clap.specs.Walk.{rule_of, texts}
use Rattle.clap.specs.declared.builder.arg.Arg.{Arg}
use Rattle.clap.specs.declared.builder.command.Command.{Command}
use Rattle.clap.specs.declared.builder.command.Command.TheViews.{out-Command}
use Rattle.clap.specs.declared.builder.action.ArgAction.TheVariants.{SetTrue}
use Rattle.clap.specs.declared.builder.value_parser.ValueParser.TheVariants.{Names, Signed}

-- a word that has to stand at its place
abbrev pub place : Text → Rule
place id = record (new_rule id) { required = true }

-- `--at MOMENT`, which has to be given
abbrev pub at : Rule
at = record (new_rule (codes "at")) {
  long = Some (codes "at");
  value_names = 1;
  required = true;
}

-- `--field-manager NAME`
abbrev pub field_manager : Rule
field_manager = record (new_rule (codes "field-manager")) {
  long = Some (codes "field-manager");
  value_names = 1;
  defaults = codes "kubectl" ∷ [];
}

-- the names that an argument's value may be, as the code lends them to clap
abbrev pub Choice : Type 0
Choice = Bor (List (Bor Text))

-- the name is `status`, wherever its text lies
abbrev pub IsStatus : Choice → Type 0
IsStatus names = texts names.now ≡ codes "status" ∷ []

-- `--subresource NAME`, with one of these names
abbrev pub subresource : Choice → Rule
subresource names = record (new_rule (codes "subresource")) {
  long = Some (codes "subresource");
  value_names = 1;
  parser = Some (Names names);
}

-- `--depth N`, with a number from 1 to 1,000
abbrev pub depth : Rule
depth = record (new_rule (codes "depth")) {
  long = Some (codes "depth");
  value_names = 1;
  parser = Some (Signed (pos 1) (pos 1000));
  defaults = codes "1000" ∷ [];
}

-- `--NAME`, given or not
abbrev pub flag : Text → Rule
flag name = record (new_rule name) { long = Some name; action = Some SetTrue }

abbrev pub bench : Rule
bench = place (codes "BENCH")

abbrev pub file : Rule
file = place (codes "FILE")

-- a word of the program with what may stand behind it
abbrev pub word : Text → List Rule → App
word name rules = record { top = record (new_shape name) { rules = rules }; subs = [] }

abbrev pub init : App
init = word (codes "init") (place (codes "SCHEMA") ∷ place (codes "OBJECT") ∷ bench ∷ depth ∷ [])

-- a word with a bench, a file and a moment, and with more
abbrev pub timed : Text → List Rule → App
timed name more = word name (bench ∷ file ∷ at ∷ more)

-- the same with a manager and a subresource
abbrev pub writing : Choice → Text → List Rule → App
writing names name more = timed name (field_manager ∷ subresource names ∷ more)

abbrev pub apply : Choice → App
apply names = writing names (codes "apply") (flag (codes "force-conflicts") ∷ [])

abbrev pub update : Choice → App
update names = writing names (codes "update") []

abbrev pub show : App
show = word (codes "show") (bench ∷ flag (codes "show-managed-fields") ∷ [])

abbrev pub owners : App
owners = word (codes "owners") (bench ∷ place (codes "PATH") ∷ [])

-- a word with a bench alone
abbrev pub of_bench : Text → App
of_bench name = word name (bench ∷ [])

-- the program: one of its words has to come first; it answers to `--help` and `--version`
abbrev pub bare : App
bare = record {
  top = record (new_shape (codes "ssabench")) {
    no_binary_name = true;
    disable_help_subcommand = true;
    has_version = true;
    subcommand_required = true;
  };
  subs = [];
}

abbrev pub with_words : List Shape → App
with_words words = record { top = record bare.top { is_leaf = false }; subs = words }

-- the words that write, those that move in the history, and those that tell
abbrev pub writes : Choice → List Shape
writes names = init.top ∷ (apply names).top ∷ (update names).top ∷ []

abbrev pub moves : List Shape
moves = (of_bench (codes "strip")).top ∷ (of_bench (codes "undo")).top ∷ (of_bench (codes "redo")).top ∷ []

abbrev pub tells : List Shape
tells = show.top ∷ owners.top ∷ (of_bench (codes "log")).top ∷ (of_bench (codes "session")).top ∷ []

-- the program's words, where the subresources have these names
abbrev pub table : Choice → App
table names = with_words (writes names ++ moves ++ tells)

-- the code's argument is this one
abbrev pub IsArg : Rule → Arg → Type 0
IsArg r a = (rule_of a ≡ r) × (a.global ≡ false)

-- the code's command is this one
abbrev pub IsCommand : App → Command → Type 0
IsCommand a c = (app_of c ≡ a) × ((out-Command c).has_globals ≡ false)
