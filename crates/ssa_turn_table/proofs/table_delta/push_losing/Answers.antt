use Rattle.std.proofs.Common.{◌&&◌, Some, None, ap, sym, ◌∙◌}
use Rattle.std.proofs.lemmas.List.{append-nil}
use Rattle.std.specs.Prelude.{if◌then◌else◌}
use Rattle.ssa_model.specs.definitions.Json.{same_text}
use Rattle.ssa_model.specs.definitions.PathMap.{minus}
use Rattle.ssa_model.specs.definitions.Record.{change_to}
use Rattle.ssa_merge.specs.Managers.{entry_view}
use Rattle.ssa_turn_table.specs.Changing.{owning}
use Rattle.ssa_turn_table.specs.declared.delta.EntryChange.{EntryChange}
use Rattle.ssa_turn_table.proofs.Compared.{change-made, steps-between}
use Rattle.ssa_turn_table.proofs.Lessening.{lessened}
use Rattle.ssa_turn_table.proofs.table_delta.push_losing.Goals as goal

pub is_kept-requires : goal.is_kept-requires
is_kept-requires c = c.in_ok-delta.ensures.room.lose_trie

pub returns-then-is_kept : goal.returns-then-is_kept
returns-then-is_kept c =
    let e = entry_view c.args.entry.now in
    let s = c.args.entry.now.set in
    let steps = steps-between s (minus s c.args.lost) c.in_ok-delta.delta c.in_ok-delta.ensures in
    let kept = sym (c.is_kept.ensures ∙ ap (λ b. b && same_text e.moment c.args.at) (lessened s c.args.lost c.in_ok-delta.delta steps))
    ∙ c.if-is_kept.true in
    record {
      made = None;
      behind = sym (append-nil c.args.changed.now.items);
      tells = sym (ap (λ b. if b then None else Some (change_to e (owning e (minus s c.args.lost) c.args.at))) kept);
      room = tt;
    }

pub returns : goal.returns
returns c =
    let e = entry_view c.args.entry.now in
    let s = c.args.entry.now.set in
    let steps = steps-between s (minus s c.args.lost) c.in_ok-delta.delta c.in_ok-delta.ensures in
    let other = sym (c.is_kept.ensures ∙ ap (λ b. b && same_text e.moment c.args.at) (lessened s c.args.lost c.in_ok-delta.delta steps))
    ∙ c.if-is_kept.false in
    let made : EntryChange = record { key = c.in_ok-key.key; set = c.in_ok-delta.delta; at = c.new_moment.result } in
    record {
      made = Some made;
      behind = c.in_ok-push.ensures.items;
      tells = change-made e (owning e (minus s c.args.lost) c.args.at) made other c.in_ok-key.ensures steps c.new_moment.ensures;
      room = c.in_ok-delta.ensures.room;
    }
