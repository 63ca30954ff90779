-- Putting a word into the program.
use Rattle.std.proofs.Common.{◌∙◌, ◌||◌, ap, ap₂}
use Rattle.clap.specs.Words.{AddsSubcommand, App, with_subcommand}
use Rattle.clap.specs.declared.builder.command.Command.{Command}
use Rattle.ssa_words.specs.Table.{IsCommand}

-- the table's command with a word more is the definitions' with that word
pub adds_word : (old sub new : Command) (a b : App) → IsCommand a old → IsCommand b sub → AddsSubcommand old sub new → IsCommand (with_subcommand a b.top) new
adds_word old sub new a b o s h =
    (h.shape s.1 ∙ ap₂ with_subcommand o.0 (ap (λ (x : App). x.top) s.0), h.globals ∙ ap₂ ◌||◌ o.1 s.1)
