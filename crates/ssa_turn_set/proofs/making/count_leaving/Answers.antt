use Rattle.std.proofs.Common.{◌≡◌, ℕ, true, false, Option, Some, None, ap, sym, ◌∙◌, true≢false}
use Rattle.std.specs.Option.{is_some, option_copied}
use Rattle.ssa_path.specs.declared.trie.Trie.{Trie}
use Rattle.ssa_path.specs.Trie.{paths}
use Rattle.ssa_path.specs.View.{element_view}
use Rattle.ssa_path.proofs.Orders.{both_first}
use Rattle.ssa_turn_set.specs.Room.{gone_of, unless_there}
use Rattle.ssa_turn_set.proofs.NewRooms.{found-child}
use Rattle.ssa_turn_set.proofs.making.count_leaving.Goals as goal
use denote.Bor.{Bor}

-- what counts only where there is no such child, told by a look for it
unless-found : (r : Option (Bor Trie)) (o : Option Trie) (n : ℕ) → option_copied r ≡ o → is_some r ≡ true → 0 ≡ unless_there o n
unless-found None o n same found = absurd (true≢false (sym found))
unless-found (Some c) o n same found = ap (λ x. unless_there x n) same

unless-absent : (r : Option (Bor Trie)) (o : Option Trie) (n : ℕ) → option_copied r ≡ o → is_some r ≡ false → n ≡ unless_there o n
unless-absent None o n same absent = ap (λ x. unless_there x n) same
unless-absent (Some c) o n same absent = absurd (true≢false absent)

pub returns-then-is_some : goal.returns-then-is_some
returns-then-is_some c = unless-found c.find_child.result _ _ c.find_child.ensures (sym c.is_some.ensures ∙ c.if-is_some.true)

pub count_gone-requires-clause-place : goal.count_gone-requires-clause-place
count_gone-requires-clause-place c =
    let at = sym c.find_child-2.ensures ∙ ap option_copied c.in-Some.is in
    both_first _ _ (found-child (element_view c.args.lost.now.0) c.args.own.now c.in-Some.place.now c.requires.tries at)

pub returns-in-Some : goal.returns-in-Some
returns-in-Some c =
    let at = sym c.find_child-2.ensures ∙ ap option_copied c.in-Some.is in
    c.count_gone.ensures.one ∙ sym (ap (λ o. gone_of o (paths c.args.lost.now.1)) at)
    ∙ unless-absent c.find_child.result _ _ c.find_child.ensures (sym c.is_some.ensures ∙ c.if-is_some.false)

pub returns-in-None : goal.returns-in-None
returns-in-None c =
    let at = sym c.find_child-2.ensures ∙ ap option_copied c.in-None.is in
    sym (ap (λ o. gone_of o (paths c.args.lost.now.1)) at)
    ∙ unless-absent c.find_child.result _ _ c.find_child.ensures (sym c.is_some.ensures ∙ c.if-is_some.false)
