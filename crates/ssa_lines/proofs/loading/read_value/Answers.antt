use Rattle.std.proofs.Common.{ap, Ok, Err, subst, arith}
use Rattle.ssa_lines.specs.Reading.{TakesLine, end_bytes}
use Rattle.ssa_lines.specs.declared.read_line.LineEnd.{LineEnd}
use Rattle.ssa_lines.proofs.LoadingFacts.{refused-unended, refused-by, first-line, reads-handed_on, too-long, too-much}
use Rattle.ssa_lines.proofs.loading.read_value.Goals as goal

pub returns-in-EndOfInput-default-clause-read : goal.returns-in-EndOfInput-default-clause-read
returns-in-EndOfInput-default-clause-read g c =
    let told : LineEnd → _ = λ e. TakesLine c.args.room.now (g.R.Source.remaining c.args.reader.now) (g.R.Source.remaining c.read_line.new.reader)
    c.read_line.new.line (end_bytes e) in
    refused-unended c.args.room.now c.args.room.now c.args.room.now _ _ c.read_line.new.line c.is_empty.result
    (subst told c.in-EndOfInput-default.is-0 c.in_ok-end.ensures.takes) (c.in_ok-end.ensures.end (ap Ok c.in-EndOfInput-default.is-0))
    (c.is_empty.ensures c.args.room.now) c.if-is_empty.false

pub returns-in_err-value_of-in-LineFeed-Kept-clause-read : goal.returns-in_err-value_of-in-LineFeed-Kept-clause-read
returns-in_err-value_of-in-LineFeed-Kept-clause-read g c =
    let told : LineEnd → _ = λ e. TakesLine c.args.room.now (g.R.Source.remaining c.args.reader.now) (g.R.Source.remaining c.read_line.new.reader)
    c.read_line.new.line (end_bytes e) in
    let fault = c.in_err-value_of-in-LineFeed-Kept.field-0.0 in
    reads-handed_on c.args.room.now c.take_room.new.room _ _ _ fault c.from_residual-in_err-value_of-in-LineFeed-Kept.ensures.1
    (refused-by c.args.room.now c.args.room.now c.take_room.new.room _ _ c.read_line.new.line c.in-LineFeed-Kept.text fault c.in-LineFeed-Kept.is-1
    (subst told c.in-LineFeed-Kept.is-0 c.in_ok-end.ensures.takes) c.in_err-value_of-in-LineFeed-Kept.ensures.refused
    (λ e. c.in_err-value_of-in-LineFeed-Kept.ensures.told (ap Err e)))

pub returns-clause-read : goal.returns-clause-read
returns-clause-read g c =
    let told : LineEnd → _ = λ e. TakesLine c.args.room.now (g.R.Source.remaining c.args.reader.now) (g.R.Source.remaining c.read_line.new.reader)
    c.read_line.new.line (end_bytes e) in
    first-line c.args.room.now c.args.room.now c.take_room.new.room _ _ c.read_line.new.line c.in-LineFeed-Kept.text c.in_ok-value_of-in-LineFeed-Kept.field-0
    c.in-LineFeed-Kept.is-1
    (subst told c.in-LineFeed-Kept.is-0 c.in_ok-end.ensures.takes) c.in_ok-value_of-in-LineFeed-Kept.ensures.ok
    (omega (arith, c.take_room.ensures.taken c.if-not-take_room.false, c.len.ensures))

pub returns-in-LineFeed-TooLong-clause-read : goal.returns-in-LineFeed-TooLong-clause-read
returns-in-LineFeed-TooLong-clause-read g c =
    let told : LineEnd → _ = λ e. TakesLine c.args.room.now (g.R.Source.remaining c.args.reader.now) (g.R.Source.remaining c.read_line.new.reader)
    c.read_line.new.line (end_bytes e) in
    too-long c.args.room.now c.args.room.now _ _ c.read_line.new.line c.in-LineFeed-TooLong.is-1
    (subst told c.in-LineFeed-TooLong.is-0 c.in_ok-end.ensures.takes)

pub returns-then-not-take_room-clause-read : goal.returns-then-not-take_room-clause-read
returns-then-not-take_room-clause-read g c =
    let told : LineEnd → _ = λ e. TakesLine c.args.room.now (g.R.Source.remaining c.args.reader.now) (g.R.Source.remaining c.read_line.new.reader)
    c.read_line.new.line (end_bytes e) in
    too-much c.args.room.now c.take_room.new.room _ _ c.read_line.new.line c.in-LineFeed-Kept.text c.in-LineFeed-Kept.is-1
    (subst told c.in-LineFeed-Kept.is-0 c.in_ok-end.ensures.takes)
    (omega (arith, c.take_room.ensures.refused c.if-not-take_room.true, c.len.ensures))
