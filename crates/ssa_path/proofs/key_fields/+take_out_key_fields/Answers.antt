use Rattle.std.proofs.Common.{◌<◌, ◌≤◌, length, ◌∷◌, not, sym, subst, refl, arith, rules}
use Rattle.ssa_model.specs.definitions.Path.{key, is_key_field}
use Rattle.ssa_path.specs.Keys.{members_view}
use Rattle.ssa_path.specs.View.{element_view}
use Rattle.ssa_path.specs.declared.trie.Trie.{the_lemmas}
use Rattle.ssa_path.specs.declared.trie.Trie.TheViews.{out-Trie}
use Rattle.ssa_path.proofs.KeyFields.{IsLeft, child-left, keys-all, keys-more, keys-next, keys-none, left-place}
use Rattle.ssa_path.proofs.Lists.{unvisited-set}
use Rattle.ssa_path.proofs.key_fields.+take_out_key_fields.Goals as goal

pub take_out_key_fields-loop-i-init : goal.take_out_key_fields-loop-i-init
take_out_key_fields-loop-i-init t c = record {
  unvisited = (refl, λ k d le. refl);
  taking = keys-none (λ p. not (is_key_field (key (members_view c.args.keys.now) ∷ p))) c.args.own.now _ refl c.requires;
}

pub take_out_key_fields-take_out_of_child-any_bare-requires : goal.take_out_key_fields-take_out_of_child-any_bare-requires
take_out_key_fields-take_out_of_child-any_bare-requires t c =
    let within : c.loop-i.i < length c.loop-i.below.items = omega (arith, c.loop-i.invariant.unvisited.0, (out-Trie c.args.own.now).below.ok.0) in (
      search (rules, the_lemmas),
      keys-next (λ p. not (is_key_field (key (members_view c.args.keys.now) ∷ p))) (out-Trie c.args.own.now).below.items c.loop-i.below.items c.loop-i.i
          c.loop-i.any_bare c.index_mut.result.now within c.index_mut.ensures.value c.loop-i.invariant.taking,
    )

pub take_out_key_fields-loop-i-preserved : goal.take_out_key_fields-loop-i-preserved
take_out_key_fields-loop-i-preserved t c =
    let keys = members_view c.args.keys.now in
    let child = c.take_out_of_child-any_bare in
    let old = c.index_mut.result.now in
    let within : c.loop-i.i < length c.loop-i.below.items = omega (arith, c.loop-i.invariant.unvisited.0, (out-Trie c.args.own.now).below.ok.0) in
    record {
      unvisited = unvisited-set c.loop-i.below.items (out-Trie c.args.own.now).below.items c.loop-i.i child.new.child c.loop-i.invariant.unvisited;
      taking = keys-more (λ p. not (is_key_field (key keys ∷ p))) (out-Trie c.args.own.now).below.items c.loop-i.below.items c.loop-i.i c.loop-i.any_bare
          child.result old child.new.child within c.index_mut.ensures.value child.ensures.element child.ensures.left.trie
          (child-left keys (element_view old.0) old.1 child.new.child.1 _ refl child.ensures.left) child.ensures.bare c.loop-i.invariant.taking;
    }

pub take_out_key_fields-returns : goal.take_out_key_fields-returns
take_out_key_fields-returns t c =
    let keys = members_view c.args.keys.now in
    let end : length c.loop-i.below.items ≤ c.loop-i.i = omega (arith, c.loop-i.invariant.unvisited.0, (out-Trie c.args.own.now).below.ok.0) in
    let left = keys-all (λ p. not (is_key_field (key keys ∷ p))) (out-Trie c.args.own.now).below.items c.loop-i.below.items c.loop-i.i c.loop-i.any_bare
    end c.loop-i.invariant.taking in
    left-place keys c.args.own.now _ (out-Trie c.args.own.now).below.items refl
    (subst (IsLeft (λ p. not (is_key_field (key keys ∷ p))) (out-Trie c.args.own.now).below.items) (sym c.take_out_bare.ensures.items) left.0)
