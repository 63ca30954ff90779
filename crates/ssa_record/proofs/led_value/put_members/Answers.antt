use Rattle.std.proofs.Common.{◌≡◌, ◌<◌, ◌∷◌, [], ◌++◌, get_or, take, length, sym, ap, subst, ◌∙◌, arith}
use Rattle.std.proofs.lemmas.List.{take_all}
use Rattle.std.specs.Prelude.{option_map}
use Rattle.ssa_json.specs.View.{members_view, view}
use Rattle.ssa_path.specs.View.{element_view, path_view}
use Rattle.ssa_path.specs.declared.trie.Trie.TheViews.{out-Trie}
use Rattle.ssa_path.proofs.Lists.{taken-at}
use Rattle.ssa_typed.specs.Values.{with_member_under}
use Rattle.ssa_record.specs.Places.{maps_of}
use Rattle.ssa_record.proofs.LedPuts.{ArePutSoFar, puts-add, puts-end, puts-skip}
use Rattle.ssa_record.proofs.led_value.put_members.Goals as goal
use Rattle.ssa_record.proofs.led_value.put_members.Goals.{in-Some+in_ok-value-in-Some+in_ok-put_under-in-Some, in-None}

pub loop-child-preserved : goal.loop-child-preserved
loop-child-preserved c =
    let m = maps_of c.args.told.now in
    let p = path_view c.args.path.now in
    let ts = (out-Trie c.args.touched.now).below.items in
    let i = c.loop-child.child-index in
    let child = c.child-item.result in
    let lent = c.deref-child-items.ensures.value in
    let within : i < length ts = subst (λ xs. i < length xs) lent c.loop-child-test.true in
    let more = taken-at ts i child within (c.child-item.is ∙ ap (λ xs. get_or xs i child) lent) in
    let before = members_view c.args.members.now.entries in
    let now = members_view c.loop-child.members.entries in
    elim c.match-put_at.branch [
      | in-Some+in_ok-value-in-Some+in_ok-put_under-in-Some w ↦
          let told = sym c.put_at.ensures ∙ ap (option_map (λ x. (view x.now.value, x.now.place))) w.in-Some.is in
          let made : members_view c.match-put_at.members.entries ≡ with_member_under (element_view child.0) (view w.in-Some.put.now.value) now =
          ap (λ x. members_view x.entries) w.members-is ∙ w.in_ok-put_under-in-Some.ensures.put
          ∙ ap (λ j. with_member_under (element_view child.0) j now) w.in_ok-value-in-Some.ensures in
          subst (λ xs. ArePutSoFar m p xs before (members_view c.match-put_at.members.entries)) (sym more)
          (subst (λ x. ArePutSoFar m p (take i ts ++ child ∷ []) before x) (sym made)
          (puts-add m p (take i ts) child before now c.loop-child.invariant (view w.in-Some.put.now.value, w.in-Some.put.now.place) told))
      | in-None w ↦
          let told = sym c.put_at.ensures ∙ ap (option_map (λ x. (view x.now.value, x.now.place))) w.in-None.is in
          subst (λ xs. ArePutSoFar m p xs before (members_view c.match-put_at.members.entries)) (sym more)
          (subst (λ x. ArePutSoFar m p (take i ts ++ child ∷ []) before x) (ap (λ x. members_view x.entries) (sym w.members-is))
          (puts-skip m p (take i ts) child before now c.loop-child.invariant told))
    ]

pub returns : goal.returns
returns c =
    let m = maps_of c.args.told.now in
    let p = path_view c.args.path.now in
    let ts = (out-Trie c.args.touched.now).below.items in
    let i = c.loop-child.child-index in
    let all : take i ts ≡ ts = take_all i ts (omega (arith, c.loop-child-test.false, ap length c.deref-child-items.ensures.value)) in
    puts-end m p c.args.touched.now (members_view c.args.members.now.entries) (members_view c.loop-child.members.entries) c.requires.all c.requires.touched
    (subst (λ xs. ArePutSoFar m p xs (members_view c.args.members.now.entries) (members_view c.loop-child.members.entries)) all c.loop-child.invariant)
