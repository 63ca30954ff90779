-- What the tests of an entry and of its change tell.
use Rattle.std.proofs.Common.{◌≡◌, map, List, [], ◌∷◌, Bool, true, false, not, ◌&&◌, ◌||◌, Option, Some, refl, sym, ap, subst, ◌∙◌, true≢false}
use Rattle.std.proofs.lemmas.Option.{same_Some}
use Rattle.std.specs.Cmp.{first_so, second_so}
use Rattle.std.specs.Prelude.{Decides, IfOk, Result, Ok, Err}
use Rattle.ssa_model.specs.definitions.Json.{Text, same_text}
use Rattle.ssa_model.specs.definitions.Path.{Path, under}
use Rattle.ssa_model.specs.definitions.PathMap.{PathSet, has, has_at_or_above, has_at_or_below, is_empty, minus, paths, same_set, set_of, union}
use Rattle.ssa_model.specs.definitions.Body.{Body}
use Rattle.ssa_model.specs.definitions.Table.{Entry}
use Rattle.ssa_model.specs.definitions.Record.{Change, TableRecord}
use Rattle.ssa_model.specs.definitions.Carry.{is_key_among, change_for}
use Rattle.ssa_model.specs.laws.FittingRecords.{loses, ChangeFits, EntryFits}
use Rattle.ssa_model.proofs.PathMaps.{is_one_of, has-minus, has-paths, has-set_of, has-union, same_sets, same_set-true}
use Rattle.ssa_model.proofs.Pruned.{from_one, some_one}
use Rattle.ssa_model.proofs.Tables.{true_or}
use Rattle.ssa_model.proofs.Tests.{by_test, same_tests}
use Rattle.ssa_model.proofs.FittingTables.{no-path, same_set-itself}
use Rattle.ssa_record.specs.EntryTests.{GivesUp, IsApart, ToldFits}
use Rattle.ssa_model.proofs.TakenTables.{empty-has}
use Rattle.ssa_model.proofs.Basics.{or_true, not_true as no, first_false, second_false, yes_no}

-- ---- answers of a test

-- yes
pub told : {P : Type 0} → P → Decides true P
told p = (λ h. p, λ q. refl)

-- no
pub refused : {P : Type 0} → (P → ⊥) → Decides false P
refused f = (λ h. absurd (true≢false (sym h)), λ p. absurd (f p))

-- no, where the answer is told
pub off-refused : {P : Type 0} (b : Bool) → b ≡ false → (P → ⊥) → Decides b P
off-refused b off f = (λ t. absurd (true≢false (sym t ∙ off)), λ p. absurd (f p))

-- what an answer refuses
pub not-so : {P : Type 0} (b : Bool) → Decides b P → b ≡ false → P → ⊥
not-so b h off p = true≢false (sym (h.1 p) ∙ off)

-- ---- empty sets

-- no path of the first set is in the second
pub lacks-decides : (s o both : PathSet) → both ≡ set_of (paths s) (has o) → Decides (is_empty both) ((p : Path) → has s p ≡ true → has o p ≡ false)
lacks-decides s o both is =
    let here : (p : Path) → has both p ≡ (has s p && has o p) =
    λ p. ap (λ x. has x p) is ∙ has-set_of (paths s) (has o) p ∙ ap (λ b. b && has o p) (sym (has-paths s p)) in (
      λ h p there. ap (λ b. b && has o p) (sym there) ∙ sym (here p) ∙ empty-has both p h,
      λ h. no-path both (λ p. here p ∙ by_test (has s p) (λ t. (λ i. t i && h p t i)) (λ f. ap (λ b. b && has o p) f)),
    )

-- each path of the first set is in the second
pub lies-decides : (s o more : PathSet) → more ≡ minus s o → Decides (is_empty more) ((p : Path) → has s p ≡ true → has o p ≡ true)
lies-decides s o more is =
    let here : (p : Path) → has more p ≡ (has s p && not (has o p)) = λ p. ap (λ x. has x p) is ∙ has-minus s o p in (
      λ h p there. by_test (has o p) (λ t. t) (λ f. yes_no (has more p) (here p ∙ (λ i. there i && not (f i))) (empty-has more p h)),
      λ h. no-path more (λ p. here p ∙ by_test (has s p) (λ t. (λ i. t i && not (h p t i))) (λ f. ap (λ b. b && not (has o p)) f)),
    )

-- a union is empty where both sets are
pub union-empty : (s t : PathSet) → is_empty (union s t) ≡ (is_empty s && is_empty t)
union-empty s t =
    same_tests (is_empty (union s t)) (is_empty s && is_empty t)
    (λ h.
    let off : (p : Path) → (has s p || has t p) ≡ false = λ p. sym (has-union s t p) ∙ empty-has (union s t) p h in
    (λ i. no-path s (λ p. first_false (has s p) (has t p) (off p)) i && no-path t (λ p. second_false (has s p) (has t p) (off p)) i))
    (λ h. no-path (union s t) (λ p.
    has-union s t p ∙ (λ i. empty-has s p (first_so (is_empty s) (is_empty t) h) i || empty-has t p (second_so (is_empty s) (is_empty t) h) i)))

-- ---- what is cut

-- none of the paths that are cut has a path of the set at or below it
pub apart-decides : (s cut bare : PathSet) → bare ≡ set_of (paths cut) (λ g. not (has_at_or_below s g)) → Decides (same_set bare cut) (IsApart s cut)
apart-decides s cut bare is =
    let here : (g : Path) → has bare g ≡ (has cut g && not (has_at_or_below s g)) =
    λ g.
    ap (λ x. has x g) is ∙ has-set_of (paths cut) (λ g. not (has_at_or_below s g)) g
    ∙ ap (λ b. b && not (has_at_or_below s g)) (sym (has-paths cut g)) in (
      λ h p there.
          by_test (has_at_or_above cut p)
          (λ t.
          let g = some_one (λ g. under g p) (paths cut) t in
          let cuts : has cut g.0 ≡ true = has-paths cut g.0 ∙ g.1 in
          let above : has_at_or_below s g.0 ≡ true = from_one (under g.0) (paths s) p (sym (has-paths s p) ∙ there) g.2 in
          yes_no (has bare g.0) (ap (λ x. has x g.0) (same_set-true bare cut h) ∙ cuts) (here g.0 ∙ (λ i. cuts i && not (above i))))
          (λ f. f),
      λ h.
          let same : bare ≡ cut = same_sets bare cut (λ g.
          here g ∙ by_test (has cut g)
          (λ t.
          let none : has_at_or_below s g ≡ false =
          by_test (has_at_or_below s g)
          (λ b.
          let p = some_one (under g) (paths s) b in
          yes_no (has_at_or_above cut p.0) (from_one (λ x. under x p.0) (paths cut) g (sym (has-paths cut g) ∙ t) p.2) (h p.0 (has-paths s p.0 ∙ p.1)))
          (λ b. b) in
          (λ i. t i && not (none i)) ∙ sym t)
          (λ f. ap (λ b. b && not (has_at_or_below s g)) f ∙ sym f)) in
          ap (λ x. same_set x cut) same ∙ same_set-itself cut,
    )

-- the entry of a manager who stays gives up what is cut where the rest of its set is apart from it
pub gives-up-decides : (d : TableRecord) (cut left : PathSet) (e : Entry) (b : Bool) → is_key_among d.gone e.manager ≡ false
    → ((p : Path) → has left p ≡ (has e.owned p && not (loses (change_for d.changed e.manager) p))) → Decides b (IsApart left cut) → Decides b (GivesUp d cut e)
gives-up-decides d cut left e b stays here h = (
  λ t p there above.
      let lost = loses (change_for d.changed e.manager) p in
      or_true (is_key_among d.gone e.manager) lost
      (by_test lost (λ l. l) (λ k. yes_no (has_at_or_above cut p) above (h.0 t p (here p ∙ (λ i. there i && not (k i)))))),
  λ gives. h.1 (λ p there.
      let lost = loses (change_for d.changed e.manager) p in
      let own = sym (here p) ∙ there in
      by_test (has_at_or_above cut p)
      (λ above. yes_no lost
      (ap (λ g. g || lost) (sym stays) ∙ gives p (first_so (has e.owned p) (not lost) own) above)
      (no lost (second_so (has e.owned p) (not lost) own)))
      (λ k. k)),
)

-- ---- answers from others

-- of a test that is another
pub test-is : {P : Type 0} (b s : Bool) → b ≡ s → Decides s P → Decides b P
test-is b s is h = (λ t. h.0 (sym is ∙ t), λ p. is ∙ h.1 p)

-- another moment is told, or none
pub moment-decides : (a m : Text) (o : Option Text) (b : Bool) → o ≡ Some m → b ≡ not (same_text a m)
    → Decides b ((n : Text) → o ≡ Some n → same_text a n ≡ false)
moment-decides a m o b told is = (
  λ t n h. ap (same_text a) (sym (same_Some m n (sym told ∙ h))) ∙ no (same_text a m) (sym is ∙ t),
  λ h. is ∙ ap not (h m told),
)

-- a change is told of the entry
pub told-decides : (cs : List Change) (w : Body) (e : Entry) (c : Change) (b : Bool) → change_for cs e.manager ≡ Some c
    → Decides b (ChangeFits w c e) → Decides b (ToldFits cs w e)
told-decides cs w e c b here h = (
  λ t d is. subst (λ x. ChangeFits w x e) (same_Some c d (sym here ∙ is)) (h.0 t),
  λ f. h.1 (f c here),
)

-- the record fits the entry where the change does and what is cut is given up
pub entry-decides : (d : TableRecord) (w : Body) (cut : PathSet) (e : Entry) (b : Bool) → ToldFits d.changed w e
    → Decides b (GivesUp d cut e) → Decides b (EntryFits d w cut e)
entry-decides d w cut e b change h = (λ t. record { change = change; given_up = h.0 t }, λ f. h.1 f.given_up)

-- what a function that may run out of memory answers
pub ok-so : {E P Q : Type 0} (r : Result Bool E) → ((b : Bool) → Decides b P → Decides b Q) → IfOk r (λ b. Decides b P) → IfOk r (λ b. Decides b Q)
ok-so (Ok b) f h = f b h
ok-so (Err e) f h = h
