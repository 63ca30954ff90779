use Rattle.std.proofs.Common.{◌≡◌, ◌+◌, ◌≤◌, ◌<◌, [], ◌∷◌, length, drop, reverse, refl, sym, ap, subst, ◌∙◌, arith, true, false, true≢false, eqb, ℕ, List, vec_len, vec_capacity, Vec, Global}
use Rattle.ssa_turn_body.specs.Woven.{left}
use Rattle.std.proofs.lemmas.List.{drop_all, drop-drop}
use Rattle.std.proofs.lemmas.Bool.{eqb-true}
use Rattle.ssa_turn_body.specs.Woven.{is_first}
use Rattle.ssa_turn_body.proofs.Weaving.{IsWeaving, held-due, weaving-put, after-cut, after-stay, weaving-due, weaving-end, first-within, drop-some}
use Rattle.ssa_turn_body.proofs.weave.weave.Goals as goal
use Rattle.ssa_turn_body.proofs.weave.weave.Goals.{then-not-is_empty, else-not-is_empty+then-come_done-come, then-is_next-2, else-is_next-2}

pub unreachable-requires : goal.unreachable-requires
unreachable-requires g c =
    let v = c.loop-room.room in
    let long : c.len.result ≡ length v.items = omega (arith, c.len.ensures, v.ok.0) in
    let first : is_first (drop c.loop-room.come_done c.args.come.now) (length v.items) ≡ true =
    ap (is_first (drop c.loop-room.come_done c.args.come.now)) (sym long) ∙ sym c.if-is_next.ensures in
    held-due _ _ _ _ _ _ _ _ (reverse c.loop-room.held.items) _ _ first (ap reverse c.in_default.ensures.none) c.loop-room.invariant.0

pub loop-room-preserved-then-is_next : goal.loop-room-preserved-then-is_next
loop-room-preserved-then-is_next g c =
    let v = c.loop-room.room in
    let long : c.len.result ≡ length v.items = omega (arith, c.len.ensures, v.ok.0) in
    let first : is_first (drop c.loop-room.come_done c.args.come.now) (length v.items) ≡ true =
    ap (is_first (drop c.loop-room.come_done c.args.come.now)) (sym long) ∙ sym c.if-is_next.ensures in
    let w = weaving-put _ _ _ _ _ _ _ _ (reverse c.loop-room.held.items) _ _ c.in-Some.item (reverse c.next.new.stack.items) c.push_within.new.items.items
    first c.in-Some.ensures.items c.push_within.ensures.items c.loop-room.invariant.0 in
    let inv = c.loop-room.invariant in (
      subst (λ es. IsWeaving c.args.gone.now c.args.come.now c.args.held.now.items c.args.items.now.items c.loop-room.place
          (drop c.loop-room.gone_done c.args.gone.now) es (reverse c.loop-room.items.items) (reverse c.next.new.stack.items) c.loop-room.out.items
          c.push_within.new.items.items)
          (drop-drop 1 c.loop-room.come_done c.args.come.now) w,
      inv.1,
      first-within c.loop-room.come_done c.args.come.now (length v.items) first,
      omega (arith, inv.3, c.push_within.ensures.capacity),
      inv.4,
      inv.5,
      c.next.ensures.capacity ∙ inv.6,
    )

pub unreachable-requires-in_default-next : goal.unreachable-requires-in_default-next
unreachable-requires-in_default-next g c =
    let v = c.loop-room.room in
    let long : c.len.result ≡ length v.items = omega (arith, c.len.ensures, v.ok.0) in
    let first : is_first (drop c.loop-room.come_done c.args.come.now) (length v.items) ≡ false =
    ap (is_first (drop c.loop-room.come_done c.args.come.now)) (sym long) ∙ sym c.if-is_next.ensures in
    let none = c.in_default-next.ensures.none in
    let empty : c.is_empty-in-loop-room.result ≡ true = c.is_empty-in-loop-room.ensures
    ∙ ap (λ n. eqb n 0) (let l : vec_len c.loop-room.items ≡ 0 = omega (arith, ap length none, c.loop-room.items.ok.0) in l) in
    let more : c.loop-room.come_done < length c.args.come.now =
    elim c.if-not-is_empty.branch [
      | then-not-is_empty w ↦ absurd (true≢false (sym empty ∙ w.if-not-is_empty.true))
      | else-not-is_empty+then-come_done-come w ↦ w.if-come_done-come.true
    ] in
    weaving-due _ _ _ _ _ _ _ (reverse c.loop-room.items.items) _ _ _ (drop-some c.loop-room.come_done c.args.come.now more) (ap reverse none) first
    c.loop-room.invariant.0

pub loop-room-preserved : goal.loop-room-preserved
loop-room-preserved g c =
    let v = c.loop-room.room in
    let long : c.len.result ≡ length v.items = omega (arith, c.len.ensures, v.ok.0) in
    let not_due : is_first (drop c.loop-room.come_done c.args.come.now) (length v.items) ≡ false =
    ap (is_first (drop c.loop-room.come_done c.args.come.now)) (sym long) ∙ sym c.if-is_next.ensures in
    let inv = c.loop-room.invariant in
    let next = c.in-Some-next.ensures.items in
    elim c.if-is_next-2.branch [
      | then-is_next-2 w ↦
          let first : is_first (drop c.loop-room.gone_done c.args.gone.now) c.loop-room.place ≡ true = sym w.if-is_next-2.ensures in
          let items = ap (λ (x : Vec _ Global). x.items) w.out-is ∙ w.push_within-then-is_next-2.ensures.items in (
            after-cut c.args.gone.now c.args.come.now c.args.held.now.items c.args.items.now.items c.loop-room.place c.loop-room.gone_done
                (drop c.loop-room.come_done c.args.come.now) _ (reverse c.loop-room.held.items)
                c.loop-room.out.items v.items c.in-Some-next.item (reverse c.next-else-is_next.new.stack.items) c.if-is_next-2.out.items
                c.if-is_next-2.room.items c.if-is_next-2.gone_done
                first next items w.gone_done-is (ap (λ (x : Vec _ Global). x.items) w.room-is) inv.0,
            subst (λ n. n ≤ length c.args.gone.now) (sym w.gone_done-is) (first-within c.loop-room.gone_done c.args.gone.now c.loop-room.place first),
            inv.2,
            subst (λ (x : Vec _ Global). length c.args.held.now.items + length (left c.args.gone.now 0 c.args.items.now.items) ≤ vec_capacity x)
                (sym w.room-is) inv.3,
            subst (λ (x : Vec _ Global). length c.args.gone.now ≤ vec_capacity x) (sym w.out-is)
                (omega (arith, inv.4, w.push_within-then-is_next-2.ensures.capacity)),
            c.next-else-is_next.ensures.capacity ∙ inv.5,
            inv.6,
          )
      | else-is_next-2 w ↦
          let first : is_first (drop c.loop-room.gone_done c.args.gone.now) c.loop-room.place ≡ false = sym w.if-is_next-2.ensures in
          let items = ap (λ (x : Vec _ Global). x.items) w.room-is ∙ w.push_within-else-is_next-2.ensures.items in (
            after-stay c.args.gone.now c.args.come.now c.args.held.now.items c.args.items.now.items c.loop-room.place c.loop-room.gone_done
                (drop c.loop-room.come_done c.args.come.now) _ (reverse c.loop-room.held.items)
                c.loop-room.out.items v.items c.in-Some-next.item (reverse c.next-else-is_next.new.stack.items) c.if-is_next-2.out.items
                c.if-is_next-2.room.items c.if-is_next-2.gone_done
                first not_due next (ap (λ (x : Vec _ Global). x.items) w.out-is) w.gone_done-is items inv.0,
            subst (λ n. n ≤ length c.args.gone.now) (sym w.gone_done-is) inv.1,
            inv.2,
            subst (λ (x : Vec _ Global). length c.args.held.now.items + length (left c.args.gone.now 0 c.args.items.now.items) ≤ vec_capacity x)
                (sym w.room-is) (omega (arith, inv.3, w.push_within-else-is_next-2.ensures.capacity)),
            subst (λ (x : Vec _ Global). length c.args.gone.now ≤ vec_capacity x) (sym w.out-is) inv.4,
            c.next-else-is_next.ensures.capacity ∙ inv.5,
            inv.6,
          )
    ]

none-left : {A : Type 0} (n : ℕ) (xs : List A) → true ≡ eqb n 0 → n ≡ length xs → xs ≡ []
none-left n [] e l = refl
none-left n (x ∷ xs) e l = let zero : n ≡ 0 = eqb-true n 0 (sym e) in absurd (omega (arith, zero, l))

pub returns-clause-items : goal.returns-clause-items
returns-clause-items g c =
    let v = c.loop-room.items in
    let none = none-left (vec_len v) v.items c.if-not-is_empty.ensures (omega (arith, v.ok.0)) in
    ap (λ v. v.items) c.swap.ensures.x_after
    ∙ (weaving-end _ _ _ _ _ _ _ (reverse v.items) _ _ _ (drop_all c.loop-room.come_done c.args.come.now c.if-come_done-come.false) (ap reverse none)
    c.loop-room.invariant.0).0

pub returns-clause-held : goal.returns-clause-held
returns-clause-held g c =
    let v = c.loop-room.items in
    let none = none-left (vec_len v) v.items c.if-not-is_empty.ensures (omega (arith, v.ok.0)) in
    ap (λ v. v.items) c.swap-2.ensures.x_after
    ∙ (weaving-end _ _ _ _ _ _ _ (reverse v.items) _ _ _ (drop_all c.loop-room.come_done c.args.come.now c.if-come_done-come.false) (ap reverse none)
    c.loop-room.invariant.0).1
