use Rattle.std.proofs.Common.{◌≡◌, ◌+◌, ◌<◌, true, length, get_or, refl, ap, sym, ◌∙◌, subst, arith}
use Rattle.std.specs.Prelude.{vec_len}
use Rattle.ssa_merge.specs.Managers.{key_view, entry_view}
use Rattle.ssa_path.proofs.Lists.{left-at, same-at, taken-at}
use Rattle.ssa_turn_table.specs.Tables.{keys_view}
use Rattle.ssa_turn_table.specs.Going.{AllKeysAgree, is_first_key}
use Rattle.ssa_turn_table.proofs.Taking.{taking_passes, taking_takes, taking_same, keys-push, first-key}
use Rattle.ssa_turn_table.proofs.going.take_gone.Goals as goal

pub loop-i-preserved-then-is_first_gone : goal.loop-i-preserved-then-is_first_gone
loop-i-preserved-then-is_first_gone c =
    let now = c.loop-i.entries.items in
    let gone = c.loop-i.gone.items in
    let out = c.loop-i.out.items in
    let i = c.loop-i.i in
    let e = c.remove-entry.result in
    let lt : i < length now = omega arith in
    let read = c.index-deref-i.is ∙ ap (λ xs. get_or xs i c.index-deref-i.result) c.deref-in-loop-i.ensures.0 in
    let same = same-at now i c.index-deref-i.result e lt read c.remove-entry.ensures.value in
    let first : is_first_key (keys_view gone) (key_view e.key) ≡ true =
    (λ j. is_first_key (keys_view (sym c.deref.ensures.value j)) (key_view ((sym same ∙ c.index-deref-i.is) j).key)) ∙ sym c.is_first_gone.ensures
    ∙ c.if-is_first_gone.true in
    let key = first-key gone c.remove-key.result (key_view e.key) c.remove-key.ensures.value first in
    record {
      taking = λ u told.
          taking_same u c.args.entries.now.items _ _ _ _ _ _ i _ _ c.remove-entry.ensures.items c.remove-key.ensures.items c.push_within.ensures.items
          (omega arith)
          (taking_takes u c.args.entries.now.items now gone out i (i + vec_len c.loop-i.out) e _ lt (c.loop-i.invariant.taking u told)
          (left-at now i e lt c.remove-entry.ensures.value)
          (λ j. (i + c.len-then-is_first_gone.ensures j, entry_view e)) first);
      keys = subst AllKeysAgree (sym c.push_within.ensures.items) (keys-push out _ c.loop-i.invariant.keys (key, tt));
      room = omega arith;
      left = c.remove-key.ensures.capacity ∙ c.loop-i.invariant.left;
      told = c.loop-i.invariant.told;
    }

pub loop-i-preserved : goal.loop-i-preserved
loop-i-preserved c =
    let now = c.loop-i.entries.items in
    let i = c.loop-i.i in
    let e = c.index-deref-i.result in
    let lt : i < length now = omega arith in
    let read = c.index-deref-i.is ∙ ap (λ xs. get_or xs i e) c.deref-in-loop-i.ensures.0 in
    let first = (λ j. is_first_key (keys_view (sym c.deref.ensures.value j)) (key_view (c.index-deref-i.is j).key)) ∙ sym c.is_first_gone.ensures
    ∙ c.if-is_first_gone.false in
    record {
      taking = λ u told.
          taking_same u c.args.entries.now.items _ _ _ _ _ _ (i + 1) _ _ refl refl refl (omega arith)
          (taking_passes u c.args.entries.now.items now c.loop-i.gone.items c.loop-i.out.items i (i + vec_len c.loop-i.out) e
          (c.loop-i.invariant.taking u told) (taken-at now i e lt read) (left-at now i e lt read) first);
      keys = c.loop-i.invariant.keys;
      room = c.loop-i.invariant.room;
      left = c.loop-i.invariant.left;
      told = c.loop-i.invariant.told;
    }
