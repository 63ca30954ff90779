use Rattle.std.proofs.Common.{ap, ◌∙◌}
use Rattle.serde_json.proofs.FreeTexts.{text_of_value}
use Rattle.ssa_json.specs.Reading.{json_reading}
use Rattle.ssa_json.specs.View.{view}
use Rattle.ssa_json.specs.Written.{data_of}
use Rattle.ssa_json.proofs.Printing.{compact_text-data_of}
use Rattle.ssa_json.proofs.ReadingBack.{compact-is-read}
use Rattle.ssa_json.proofs.SentItems.{data_of-plain}
use Rattle.ssa_json.proofs.value.Json.to_text.Goals as goal

pub returns-in-Ok-clause-text : goal.returns-in-Ok-clause-text
returns-in-Ok-clause-text c =
    let value = view c.args.self.now in
    let sent = c.in-Ok.ensures.events in
    text_of_value (data_of value) sent.0 c.in-Ok.text.items sent.1.0 sent.2 (data_of-plain value) ∙ compact_text-data_of value sent.1.1.narrow

pub returns-in-Ok-clause-is_read : goal.returns-in-Ok-clause-is_read
returns-in-Ok-clause-is_read c = λ shallow.
    let value = view c.args.self.now in
    ap json_reading (returns-in-Ok-clause-text c) ∙ compact-is-read value (record { of_program = c.in-Ok.ensures.events.1.1; shallow = shallow })
