use Rattle.std.proofs.Common.{◌≡◌, ◌-◌, ◌<◌, ◌∷◌, ◌++◌, length, true, Some, None, string_bytes, refl, subst, sym, ap, to_z, of_z, w64, [], ◌∙◌, arith, rules}
use Rattle.json.specs.Json.{parse_map, after_end_array, read_key, items, members, value}
use Rattle.json.specs.Reads.{token_of}
use Rattle.json.proofs.Grammar.{value_is, value-begin_array, value-begin_object, read_key-shorter}
use Rattle.serde_json.specs.Data.{number, string, array, object}
use Rattle.std.specs.Prelude.{option_map}
use Rattle.serde_json.specs.Find.{of_integer}
use Rattle.serde_json.specs.Read.{of_json, converted}
use Rattle.ssa_model.specs.definitions.Json as model
use Rattle.ssa_model.specs.definitions.Json.{Members, no_members}
use Rattle.ssa_members.specs.Texts.{text_bytes}
use Rattle.ssa_json.specs.PutInTurn.{put_in_turn}
use Rattle.ssa_json.specs.View.{view, items_view}
use Rattle.ssa_json.specs.Written.{data_of, items_data, members_data, members_narrow}
use Rattle.ssa_json.specs.declared.value.Scalar.TheVariants.{Text, Int, Bool}
use Rattle.ssa_json.proofs.Views.{view-Scalar, view-List, view-Object}
use Rattle.ssa_json.proofs.Printing.{items_narrow-push}
use Rattle.ssa_json.proofs.StraightData.{before, before-none, one_more}
use Rattle.ssa_json.proofs.MembersMade.{made-of-pairs}
use Rattle.ssa_json.proofs.PairsRead.{pair-read, pair-narrow}
use Rattle.ssa_json.proofs.TokensRead.{array-read, object-read, item_read, items_over, members_over}
use Rattle.ssa_json.proofs.MovedBehind.{none_wait, one_waits, still_wait}
use Rattle.ssa_json.proofs.straight.+straight.Goals as goal

pub value_from-returns-in_ok-from_str-in-String-clause-ok : goal.value_from-returns-in_ok-from_str-in-String-clause-ok
value_from-returns-in_ok-from_str-in-String-clause-ok t c =
    let is = ap (λ k. token_of k ∷ c.args.reader.now) c.in-String.is in
    let copied : text_bytes c.in_ok-from_str-in-String.field-0 ≡ c.in-String.text.now = search rules in
    let seen = ap data_of (view-Scalar (Text c.in_ok-from_str-in-String.field-0)) ∙ ap string copied in
    ap (converted of_json) (ap (value c.args.depth) is ∙ value_is c.args.depth _) ∙ ap (λ d. Some (d, c.args.reader.now)) (sym seen)

pub value_from-returns-in-Some-clause-ok : goal.value_from-returns-in-Some-clause-ok
value_from-returns-in-Some-clause-ok t c =
    let rest = c.args.reader.now in
    let is = ap (λ k. token_of k ∷ rest) c.in-Number.is in
    let same : c.in-Some.number ≡ to_z w64 (of_z w64 c.in-Some.number) = search rules in
    let seen = ap data_of (view-Scalar (Int (to_z w64 (of_z w64 c.in-Some.number)))) in
    ap (converted of_json) (ap (value c.args.depth) is ∙ value_is c.args.depth _)
    ∙ ap (λ n. option_map (λ d. (d, rest)) (option_map number n)) (c.in-Some.ensures.number ∙ ap (λ z. Some (of_integer z)) same)
    ∙ ap (λ d. Some (d, rest)) (sym seen)

pub value_from-returns-in-Bool-clause-ok : goal.value_from-returns-in-Bool-clause-ok
value_from-returns-in-Bool-clause-ok t c =
    let is = ap (λ k. token_of k ∷ c.args.reader.now) c.in-Bool.is in
    ap (converted of_json) (ap (value c.args.depth) is ∙ value_is c.args.depth _)
    ∙ ap (λ d. Some (d, c.args.reader.now)) (sym (ap data_of (view-Scalar (Bool c.in-Bool.b))))

pub value_from-returns-in_ok-read_items-in-BeginArray-clause-ok : goal.value_from-returns-in_ok-read_items-in-BeginArray-clause-ok
value_from-returns-in_ok-read_items-in-BeginArray-clause-ok t c =
    let opened = ap (converted of_json) (ap (value c.args.depth) (ap (λ k. token_of k ∷ c.args.reader.now) c.in-BeginArray.is)
    ∙ value-begin_array c.args.depth c.args.reader.now (omega arith))
    ∙ array-read (items (value (c.args.depth - 1)) (length c.args.reader.now) c.args.reader.now) in
    let found = c.in_ok-read_items-in-BeginArray in
    opened ∙ ap (parse_map array) found.ensures.ok ∙ ap (λ d. Some (data_of d, c.read_items.new.reader)) (sym (view-List found.field-0))

pub value_from-returns-in_ok-read_members-in-BeginObject-clause-ok : goal.value_from-returns-in_ok-read_members-in-BeginObject-clause-ok
value_from-returns-in_ok-read_members-in-BeginObject-clause-ok t c =
    let opened = ap (converted of_json) (ap (value c.args.depth) (ap (λ k. token_of k ∷ c.args.reader.now) c.in-BeginObject.is)
    ∙ value-begin_object c.args.depth c.args.reader.now (omega arith))
    ∙ object-read (members (value (c.args.depth - 1)) (length c.args.reader.now) c.args.reader.now) in
    let found = c.in_ok-read_members-in-BeginObject in
    opened ∙ ap (parse_map object) found.ensures.ok ∙ ap (λ d. Some (data_of d, c.read_members.new.reader)) (sym (view-Object found.field-0))

pub read_members-returns-clause-ok : goal.read_members-returns-clause-ok
read_members-returns-clause-ok t c =
    let pairs = c.in_ok-pairs.pairs.items in
    c.in_ok-pairs.ensures.ok no_members (length c.args.reader.now) (omega arith)
    ∙ ap (λ ms. Some (members_data ms, c.read_pairs.new.reader)) (sym (made-of-pairs pairs c.in_ok-of_pairs.field-0 c.in_ok-of_pairs.ensures))

pub read_members-returns-clause-narrow : goal.read_members-returns-clause-narrow
read_members-returns-clause-narrow t c =
    subst (λ ms. members_narrow ms ≡ true) (sym (made-of-pairs c.in_ok-pairs.pairs.items c.in_ok-of_pairs.field-0 c.in_ok-of_pairs.ensures))
    (c.in_ok-pairs.ensures.narrow no_members refl)

pub read_items-items-init : goal.read_items-items-init
read_items-items-init t c = record {
  most = length c.args.reader.now;
  all = [];
  enough = omega arith;
  read = search rules;
  shorter = omega arith;
  narrow = refl;
  wait = none_wait c.len-start.result c.args.waiting.now.items.items (search rules) c.new-found.result.items
      c.new-found.ensures.items;
  pairs = refl;
}

pub read_items-items-preserved : goal.read_items-items-preserved
read_items-items-preserved t c =
    let p = value c.args.depth in
    let l = c.items in
    let n = l.invariant.most in
    let going : (after_end_array l.reader ≡ None) × (c.take_end_array.new.self ≡ l.reader) = grind arith in
    let done = c.in_ok-item.ensures in
    let v = c.in_ok-item.item in
    let r = c.read_value.new.reader in
    let less : length r < length l.reader = rw (← going.1) done.shorter in
    let turn = item_read p n l.reader r (data_of (view v)) (omega (arith, l.invariant.enough)) going.0 (rw (← going.1) done.ok) in
    let all = l.invariant.all in
    let start = c.len-start.result in
    let outer = c.args.waiting.now.items.items in
    let together = c.in_ok-move_many.ensures in
    let found = c.move_many.new.found.items in
    let waiting = c.move_many.new.waiting.items in
    let wait = still_wait start outer l.found.items l.waiting.items.items all found waiting l.invariant.wait together.all together.within together.outer in
    let same : c.read_value.new.waiting.items.items ≡ waiting = done.items in
    let pushed = subst (λ ws. c.push.new.self.items ≡ ws ++ v ∷ []) same c.in_ok-push.ensures.items in
    record {
      most = n - 1;
      all = all ++ v ∷ [];
      enough = omega (arith, l.invariant.enough);
      read = l.invariant.read ∙ ap (parse_map (before all)) turn ∙ one_more all v _;
      shorter = omega (arith, l.invariant.shorter);
      narrow = items_narrow-push all v l.invariant.narrow done.narrow;
      wait = one_waits start outer found waiting all c.push.new.self.items v wait pushed;
      pairs = done.pairs ∙ l.invariant.pairs;
    }

pub read_items-returns-clause-ok : goal.read_items-returns-clause-ok
read_items-returns-clause-ok t c =
    let p = value c.args.depth in
    let l = c.items in
    let n = l.invariant.most in
    let r = c.take_end_array.new.self in
    let all : c.move_behind.new.found.items ≡ l.invariant.all = c.in_ok-move_behind.ensures.found ∙ l.invariant.wait.0 in
    l.invariant.read ∙ ap (parse_map (before l.invariant.all)) (items_over p n l.reader r l.invariant.enough (grind arith))
    ∙ ap (λ ds. Some (ds, r)) (before-none l.invariant.all) ∙ ap (λ vs. Some (items_data (items_view vs), r)) (sym all)

pub read_pairs-members-init : goal.read_pairs-members-init
read_pairs-members-init t c = record {
  all = [];
  read = λ found most enough. (most, enough, refl);
  shorter = omega arith;
  narrow = λ found h. h;
  wait = none_wait c.len-start.result c.args.waiting.now.pairs.items (search rules) c.new-found.result.items
      c.new-found.ensures.items;
  items = refl;
}

pub read_pairs-members-preserved-then-branch : goal.read_pairs-members-preserved-then-branch
read_pairs-members-preserved-then-branch t c =
    let p = value c.args.depth in
    let l = c.members in
    let k = c.in-Some.name.now in
    let s = c.next_key.new.self in
    let r = c.next.new.self in
    let named : read_key l.reader ≡ Some (Some k, s) = grind arith in
    let first : s ≡ token_of c.in_ok-token.token ∷ r = grind arith in
    let put = c.in_ok-push_short.ensures.pushed c.if-branch.true in
    let v = model.scalar (model.text put.3) in
    let read : converted of_json (p s) ≡ Some (data_of v, r) =
    ap (converted of_json) (ap p (first ∙ ap (λ k. k ∷ r) put.4) ∙ value_is c.args.depth _) in
    let less = read_key-shorter l.reader (Some k) s named in
    let size = ap (λ ts. length ts) first in
    let all = l.invariant.all in
    let start = c.len-start.result in
    let outer = c.args.waiting.now.pairs.items in
    let together = c.in_ok-move_many.ensures in
    let found = c.move_many.new.found.items in
    let waiting = c.move_many.new.waiting.items in
    let wait = still_wait start outer l.found.items l.waiting.pairs.items all found waiting l.invariant.wait together.all together.within together.outer in
    record {
      all = all ++ put.0 ∷ [];
      read = pair-read k v put.0 all put.2 put.5 p c.args.reader.now l.reader s r named read (omega arith) l.invariant.read;
      shorter = omega (arith, l.invariant.shorter);
      narrow = pair-narrow k v put.0 all put.2 put.5 refl l.invariant.narrow;
      wait = one_waits start outer found waiting all c.push_short.new.pairs.items put.0 wait put.1;
      items = l.invariant.items;
    }

pub read_pairs-members-preserved : goal.read_pairs-members-preserved
read_pairs-members-preserved t c =
    let p = value c.args.depth in
    let l = c.members in
    let k = c.in-Some.name.now in
    let key = c.in_ok-key.key in
    let s = c.next_key.new.self in
    let named : read_key l.reader ≡ Some (Some k, s) = grind arith in
    let first : s ≡ token_of c.in_ok-token.token ∷ c.next.new.self = grind arith in
    let done = c.in_ok-member.ensures in
    let v = c.in_ok-member.member in
    let r = c.value_from.new.reader in
    let read = ap (λ ts. converted of_json (p ts)) first ∙ done.ok in
    let less = read_key-shorter l.reader (Some k) s named in
    let size = ap (λ ts. length ts) first in
    let copied : string_bytes key ≡ k = search rules in
    let all = l.invariant.all in
    let start = c.len-start.result in
    let outer = c.args.waiting.now.pairs.items in
    let together = c.in_ok-move_many.ensures in
    let found = c.move_many.new.found.items in
    let waiting = c.move_many.new.waiting.items in
    let wait = still_wait start outer l.found.items l.waiting.pairs.items all found waiting l.invariant.wait together.all together.within together.outer in
    let kept = c.in_ok-push_short.ensures.kept c.if-branch.false in
    let same : c.value_from.new.waiting.pairs.items ≡ waiting = done.pairs ∙ kept in
    let pushed = subst (λ ws. c.push.new.self.items ≡ ws ++ (key, v) ∷ []) same c.in_ok-push.ensures.items in
    record {
      all = all ++ (key, v) ∷ [];
      read = pair-read k (view v) (key, v) all copied refl p c.args.reader.now l.reader s r named read (omega arith) l.invariant.read;
      shorter = omega (arith, l.invariant.shorter);
      narrow = pair-narrow k (view v) (key, v) all copied refl done.narrow l.invariant.narrow;
      wait = one_waits start outer found waiting all c.push.new.self.items (key, v) wait pushed;
      items = done.items ∙ l.invariant.items;
    }

pub read_pairs-returns-clause-ok : goal.read_pairs-returns-clause-ok
read_pairs-returns-clause-ok t c = λ found most enough.
    let l = c.members in
    let before = l.invariant.read found most enough in
    let old = members_data (put_in_turn l.invariant.all found) in
    let all : c.move_behind.new.found.items ≡ l.invariant.all = c.in_ok-move_behind.ensures.found ∙ l.invariant.wait.0 in
    before.2 ∙ members_over (value c.args.depth) old before.0 l.reader c.next_key.new.self before.1 (grind arith)
    ∙ ap (λ ps. Some (members_data (put_in_turn ps found), c.next_key.new.self)) (sym all)
