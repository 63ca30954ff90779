-- Sets changed by what they gain and lose.
use Rattle.std.proofs.Common.{◌≡◌, List, Bool, true, false, not, ◌&&◌, ◌||◌, refl, sym, ap, ◌∙◌, true≢false, subst}
use Rattle.std.specs.List.{filter}
use Rattle.ssa_model.specs.definitions.Path.{Path}
use Rattle.ssa_model.specs.definitions.PathMap.{PathSet, has, listed, minus, union, paths as set_paths}
use Rattle.ssa_model.proofs.PathMaps.{has-union, has-minus, paths-tested, same_sets}
use Rattle.ssa_path.specs.declared.trie.Trie.{Trie}
use Rattle.ssa_path.specs.declared.combine.Combination.TheVariants.{Union, Minus}
use Rattle.ssa_path.specs.Combine.{IsCombination}
use Rattle.ssa_path.specs.Trie.{is_one_of, is_trie, paths}
use Rattle.ssa_turn_set.specs.declared.room.Room.{Room}
use Rattle.ssa_turn_set.specs.declared.turn.SetDelta.{SetDelta}
use Rattle.ssa_turn_set.specs.Room.{gain_room, left, lose_room}
use Rattle.ssa_path.proofs.Sets.{listed-combined}
use Rattle.ssa_path.proofs.InOrder.{paths-listed, rise-trie}
use Rattle.ssa_turn_set.specs.Turn.{SetSteps, SetFits, SetTakes, IsBetween, IsLed, set_steps, set_target, set_back, set_between, TargetIsFixed, StepsAreFixed, LeadsBack, SetsAreLed}
use Rattle.ssa_model.proofs.Lists.{has-listed}
use Rattle.ssa_model.proofs.Basics.{both-true as both, there_and_back as led}

-- ---- small laws of tests

turned : (s g l : Bool) → (g ≡ true → s ≡ false) → (l ≡ true → s ≡ true) → (((((s && not l) || g) && not g) || l)) ≡ s
turned true true l lacks lost = absurd (true≢false (lacks refl))
turned true false true lacks lost = refl
turned true false false lacks lost = refl
turned false g true lacks lost = absurd (true≢false (sym (lost refl)))
turned false true false lacks lost = refl
turned false false false lacks lost = refl

without-again : (s g l : Bool) → (g ≡ true → s ≡ false) → (((s && not l) || g) && not g) ≡ (s && not l)
without-again true true l lacks = absurd (true≢false (lacks refl))
without-again true false true lacks = refl
without-again true false false lacks = refl
without-again false true l lacks = refl
without-again false false l lacks = refl

lost-is-lacked : (s g l : Bool) → (g ≡ true → s ≡ false) → (l ≡ true → s ≡ true) → l ≡ true → ((s && not l) || g) ≡ false
lost-is-lacked true true l lacks lost k = absurd (true≢false (lacks refl))
lost-is-lacked true false true lacks lost k = refl
lost-is-lacked true false false lacks lost k = absurd (true≢false (sym k))
lost-is-lacked false g true lacks lost k = absurd (true≢false (sym (lost k)))
lost-is-lacked false g false lacks lost k = absurd (true≢false (sym k))

or_true : (b : Bool) → (b || true) ≡ true
or_true true = refl
or_true false = refl

or_comm : (a b : Bool) → (a || b) ≡ (b || a)
or_comm true true = refl
or_comm true false = refl
or_comm false true = refl
or_comm false false = refl

gain-told : (s g l t : Bool) → (g ≡ true → s ≡ false) → (l ≡ true → s ≡ true) → ((s && not l) || g) ≡ t → g ≡ (t && not s)
gain-told true true l t lacks lost e = absurd (true≢false (lacks refl))
gain-told true false l true lacks lost e = refl
gain-told true false l false lacks lost e = refl
gain-told false g true t lacks lost e = absurd (true≢false (sym (lost refl)))
gain-told false true false true lacks lost e = refl
gain-told false true false false lacks lost e = e
gain-told false false false true lacks lost e = e
gain-told false false false false lacks lost e = refl

lose-told : (s g l t : Bool) → (g ≡ true → s ≡ false) → (l ≡ true → s ≡ true) → ((s && not l) || g) ≡ t → l ≡ (s && not t)
lose-told true true l t lacks lost e = absurd (true≢false (lacks refl))
lose-told true false true true lacks lost e = sym e
lose-told true false true false lacks lost e = refl
lose-told true false false true lacks lost e = refl
lose-told true false false false lacks lost e = sym e
lose-told false g true t lacks lost e = absurd (true≢false (sym (lost refl)))
lose-told false g false t lacks lost e = refl

in-second : (s t : Bool) → (t && not s) ≡ true → s ≡ false
in-second true true k = sym k
in-second true false k = absurd (true≢false (sym k))
in-second false t k = refl

in-first : (s t : Bool) → (s && not t) ≡ true → s ≡ true
in-first true t k = refl
in-first false t k = k

-- ---- sets

-- the turned set has what the set had and did not lose, and what it gained
pub has-target : (d : SetSteps) (s : PathSet) (p : Path) → has (set_target d s) p ≡ ((has s p && not (has d.lose p)) || has d.gain p)
has-target d s p = has-union (minus s d.lose) d.gain p ∙ ap (λ b. b || has d.gain p) (has-minus s d.lose p)

-- steps that fit a set, turned back, fit the turned set
pub fits-back : (d : SetSteps) (s : PathSet) → SetFits d s → SetFits (set_back d) (set_target d s)
fits-back d s h = record {
  lacks = λ p k. has-target d s p ∙ lost-is-lacked (has s p) (has d.gain p) (has d.lose p) (h.lacks p) (h.has_lost p) k;
  has_lost = λ p k. has-target d s p ∙ ap (λ b. (has s p && not (has d.lose p)) || b) k ∙ or_true _;
}

-- steps turned back lead back
pub target-back : (d : SetSteps) (s : PathSet) → SetFits d s → set_target (set_back d) (set_target d s) ≡ s
target-back d s h =
    same_sets _ _ (λ p.
    has-target (set_back d) (set_target d s) p ∙ ap (λ b. (b && not (has d.gain p)) || has d.lose p) (has-target d s p)
    ∙ turned (has s p) (has d.gain p) (has d.lose p) (h.lacks p) (h.has_lost p))

-- the turned set without what it gained is the set without what it lost
pub middle-back : (d : SetSteps) (s : PathSet) → SetFits d s → minus (set_target d s) d.gain ≡ minus s d.lose
middle-back d s h =
    same_sets _ _ (λ p.
    has-minus (set_target d s) d.gain p ∙ ap (λ b. b && not (has d.gain p)) (has-target d s p)
    ∙ without-again (has s p) (has d.gain p) (has d.lose p) (h.lacks p) ∙ sym (has-minus s d.lose p))

-- where a record leads is fixed by the record and the set
pub target-is-fixed : TargetIsFixed
target-is-fixed d s t h = h.leads

gain-is : (d : SetSteps) (s t : PathSet) (p : Path) → SetTakes d s t → has d.gain p ≡ (has t p && not (has s p))
gain-is d s t p h = gain-told (has s p) (has d.gain p) (has d.lose p) (has t p) (h.fits.lacks p) (h.fits.has_lost p) (sym (has-target d s p)
    ∙ ap (λ x. has x p) h.leads)

lose-is : (d : SetSteps) (s t : PathSet) (p : Path) → SetTakes d s t → has d.lose p ≡ (has s p && not (has t p))
lose-is d s t p h = lose-told (has s p) (has d.gain p) (has d.lose p) (has t p) (h.fits.lacks p) (h.fits.has_lost p) (sym (has-target d s p)
    ∙ ap (λ x. has x p) h.leads)

-- what is gained and lost is fixed by the two sets
pub steps-are-fixed : StepsAreFixed
steps-are-fixed c d s t h k = (
  same_sets _ _ (λ p. gain-is c s t p h ∙ sym (gain-is d s t p k)),
  same_sets _ _ (λ p. lose-is c s t p h ∙ sym (lose-is d s t p k)),
)

-- a record turned back leads back
pub leads-back : LeadsBack
leads-back d s t h = record {
  fits = subst (SetFits (set_back d)) h.leads (fits-back d s h.fits);
  leads = ap (set_target (set_back d)) (sym h.leads) ∙ target-back d s h.fits;
}

-- between each two sets there is a record
pub sets-are-led : SetsAreLed
sets-are-led s t = record {
  fits = record {
    lacks = λ p k. in-second (has s p) (has t p) (sym (has-minus t s p) ∙ k);
    has_lost = λ p k. in-first (has s p) (has t p) (sym (has-minus s t p) ∙ k);
  };
  leads = same_sets _ _ (λ p. has-target (set_between s t) s p ∙ (λ i. (has s p && not (has-minus s t p i)) || has-minus t s p i) ∙ led (has s p) (has t p));
}

-- ---- tries

-- a trie without the paths of another is the set without the other set
pub lost-set : (l s t : Trie) → ((p : Path) → is_one_of (paths t) p ≡ (is_one_of (paths s) p && not (is_one_of (paths l) p))) → is_trie t ≡ true
    → listed (paths t) ≡ minus (listed (paths s)) (listed (paths l))
lost-set l s t h trie = listed-combined Minus s l t (record { paths_are = h; trie = trie })

-- a trie with the paths of another is the union of the two sets
pub gained-set : (g s t : Trie) → ((p : Path) → is_one_of (paths t) p ≡ (is_one_of (paths g) p || is_one_of (paths s) p)) → is_trie t ≡ true
    → listed (paths t) ≡ union (listed (paths s)) (listed (paths g))
gained-set g s t h trie = listed-combined Union s g t (record { paths_are = λ p. h p ∙ or_comm (is_one_of (paths g) p) (is_one_of (paths s) p); trie = trie })

-- the paths of the set of a trie are the trie's
pub listed-paths : (t : Trie) → is_trie t ≡ true → set_paths (listed (paths t)) ≡ paths t
listed-paths t h = paths-listed (paths t) (rise-trie t h)

-- a set that is listed has the listed paths, and no others
pub member : (ps : List Path) (p : Path) (b : Bool) → is_one_of ps p ≡ b → has (listed ps) p ≡ b
member ps p b h = has-listed ps p ∙ h

-- where one set lies within another, so do the paths of the tries
pub within-sets : (l s : Trie) → ((p : Path) → has (listed (paths l)) p ≡ true → has (listed (paths s)) p ≡ true) → (p : Path) → is_one_of (paths l) p ≡ true
    → is_one_of (paths s) p ≡ true
within-sets l s h p k = sym (has-listed (paths s) p) ∙ h p (member (paths l) p true k)

-- ---- the record between two sets

-- the record between two sets leads from the first to the second, and back
pub led-between : (s t : PathSet) → IsLed (set_between s t) s t
led-between s t =
    let there = sets-are-led s t in
    let back = sets-are-led t s in
    record { fits = there.fits; leads = there.leads; fits_back = back.fits; leads_back = back.leads; between = refl }

-- what is in both is what is in the one and not in the one alone
pub meets : (s t : Bool) → (s && t) ≡ (s && not (s && not t))
meets true true = refl
meets true false = refl
meets false t = refl

-- the paths of a set without those of another are what is left of them
pub left-paths : (s l : Trie) → is_trie s ≡ true → set_paths (minus (listed (paths s)) (listed (paths l))) ≡ left (paths s) (paths l)
left-paths s l trie =
    paths-tested (listed (paths s)) (λ p. not (has (listed (paths l)) p))
    ∙ (λ i. filter (λ p. not (has-listed (paths l) p i)) (listed-paths s trie i))

-- the record of these tries, with this room
abbrev pub record_of : Trie → Trie → Room → Room → SetDelta
record_of gain lose gain_room lose_room = record { gain = gain; lose = lose; room = record { gain = gain_room; lose = lose_room } }

-- a record of what comes, what goes and room for both leads from the one set to the other
pub between-is : (s t : Trie) (d : SetDelta) → is_trie s ≡ true → IsCombination Minus t s d.gain → IsCombination Minus s t d.lose
    → gain_room d.gain (left (paths s) (paths d.lose)) d.room.gain ≡ true → lose_room d.lose (left (paths s) (paths d.lose)) d.room.lose ≡ true
    → IsBetween (listed (paths s)) (listed (paths t)) d
between-is s t d trie gained lost gain lose =
    let steps : set_steps d ≡ set_between (listed (paths s)) (listed (paths t)) =
    λ i. record { gain = listed-combined Minus t s d.gain gained i; lose = listed-combined Minus s t d.lose lost i } in
    let ps = left-paths s d.lose trie in
    let led : IsLed (set_between (listed (paths s)) (listed (paths t))) (listed (paths s)) (listed (paths t)) =
    led-between (listed (paths s)) (listed (paths t)) in
    let own : IsLed (set_steps d) (listed (paths s)) (listed (paths t)) = subst (λ x. IsLed x (listed (paths s)) (listed (paths t))) (sym steps) led in
    record {
      led = subst (IsLed (set_steps d) (listed (paths s))) (sym own.leads) own;
      leads = own.leads;
      room = record {
        gain_trie = gained.trie;
        lose_trie = lost.trie;
        room = both _ _ (ap (λ l. gain_room d.gain l d.room.gain) ps ∙ gain) (ap (λ l. lose_room d.lose l d.room.lose) ps ∙ lose);
      };
    }

-- a record between the sets of two tries is one between equal sets
pub between-sets : (s t : Trie) (u v : PathSet) (d : SetDelta) → listed (paths s) ≡ u → listed (paths t) ≡ v
    → IsBetween (listed (paths s)) (listed (paths t)) d → IsBetween u v d
between-sets s t u v d own other h = subst (λ x. IsBetween x v d) own (subst (λ y. IsBetween (listed (paths s)) y d) other h)
