use Rattle.std.proofs.Common.{◌+◌, ◌++◌, drop, get_or, sym, ap, ◌∙◌, arith, append_assoc}
use Rattle.std.proofs.lemmas.List.{drop_more}
use Rattle.ssa_model.specs.definitions.Json.{escaped_byte, escaped}
use Rattle.ssa_json.proofs.write.push_byte_by_byte.Goals as goal

pub loop-byte-preserved : goal.loop-byte-preserved
loop-byte-preserved c =
    let l = c.loop-byte in
    let bytes = c.as_bytes-byte-items.result.now in
    let left = drop (l.byte-index + 1) bytes in
    ap (λ t. t ++ escaped left) c.in_ok-push_escaped.ensures ∙ append_assoc l.text.items (escaped_byte (get_or bytes l.byte-index 0)) (escaped left)
    ∙ ap (λ bs. l.text.items ++ escaped bs) (sym (drop_more bytes l.byte-index 0 (omega arith))) ∙ l.invariant
