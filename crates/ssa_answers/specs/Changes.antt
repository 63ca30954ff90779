-- What commands are.
use Rattle.std.specs.Prelude.{codes, string_bytes}
use Rattle.ssa_model.specs.definitions.Json.{Text}
use Rattle.ssa_model.specs.definitions.Answers as model
use Rattle.ssa_json.specs.View.{view}
use Rattle.ssa_path.specs.Subresources.{part_view}
use Rattle.ssa_merge.specs.States.{actor}
use Rattle.ssa_answers.specs.declared.change.Command.{Command}
use Rattle.ssa_answers.specs.declared.change.Command.TheVariants.{Apply, Update, Strip}

abbrev pub command_view : Command → model.Command
command_view (Apply who part force at object) = model.apply (actor (string_bytes who) (part_view part)) force at (view object)
command_view (Update who part at object) = model.update (actor (string_bytes who) (part_view part)) at (view object)
command_view Strip = model.strip

-- the word under which the reply tells of the command
abbrev pub command_word : Command → Text
command_word (Apply who part force at object) = codes "apply"
command_word (Update who part at object) = codes "update"
command_word Strip = codes "strip"
