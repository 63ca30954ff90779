-- What becomes of the children of one place: some stay, some go and others come, where what stays keeps its order.
use Rattle.std.proofs.Common.{◌≡◌, ℕ, zero, suc, ◌+◌, ◌<◌, List, [], ◌∷◌, ◌++◌, length, false, ◌||◌, eqb, Option, Some, None, refl, sym, ap, ◌∙◌, arith, append-nil}
use Rattle.std.specs.List.{range_with_len}
use Rattle.std.proofs.lemmas.Bool.Decides.{nat_tests}
use Rattle.ssa_path.specs.Children.{elements}
use Rattle.ssa_path.specs.View.{element_view}
use Rattle.ssa_turn_body.specs.Found.{IsReordering, IsTurnedRound, filled, fresh, is_in, is_told, nones, somes}
use Rattle.ssa_turn_body.specs.Marks.{Child}
use Rattle.ssa_turn_body.specs.Turnovers.{Passing, with_come, with_gone}
use Rattle.ssa_turn_body.proofs.Weaving.{same_number}

abbrev Found : Type 0
Found = List (Option ℕ)

-- a live child stays, as the second child; it goes; or another comes
pub data Fate : Type 0 where
  Stays : Child → Child → Fate
  Goes : Child → Fate
  Comes : Child → Fate

-- the children before
abbrev pub before : List Fate → List Child
before [] = []
before (Stays c d ∷ fs) = c ∷ before fs
before (Goes c ∷ fs) = c ∷ before fs
before (Comes d ∷ fs) = before fs

-- the children afterwards
abbrev pub after : List Fate → List Child
after [] = []
after (Stays c d ∷ fs) = d ∷ after fs
after (Goes c ∷ fs) = after fs
after (Comes d ∷ fs) = d ∷ after fs

-- those that go
abbrev pub goers : List Fate → List Child
goers [] = []
goers (Stays c d ∷ fs) = goers fs
goers (Goes c ∷ fs) = c ∷ goers fs
goers (Comes d ∷ fs) = goers fs

-- those that come
abbrev pub comers : List Fate → List Child
comers [] = []
comers (Stays c d ∷ fs) = comers fs
comers (Goes c ∷ fs) = comers fs
comers (Comes d ∷ fs) = d ∷ comers fs

-- where those that go stood, counted from this number
abbrev pub left_at : ℕ → List Fate → List ℕ
left_at k [] = []
left_at k (Stays c d ∷ fs) = left_at (k + 1) fs
left_at k (Goes c ∷ fs) = k ∷ left_at (k + 1) fs
left_at k (Comes d ∷ fs) = left_at k fs

-- where those that come stand, counted from this number
abbrev pub come_at : ℕ → List Fate → List ℕ
come_at k [] = []
come_at k (Stays c d ∷ fs) = come_at (k + 1) fs
come_at k (Goes c ∷ fs) = come_at k fs
come_at k (Comes d ∷ fs) = k ∷ come_at (k + 1) fs

-- of each child afterwards, where it stood before, counted from this number
abbrev pub stood_at : ℕ → List Fate → Found
stood_at k [] = []
stood_at k (Stays c d ∷ fs) = Some k ∷ stood_at (k + 1) fs
stood_at k (Goes c ∷ fs) = stood_at (k + 1) fs
stood_at k (Comes d ∷ fs) = None ∷ stood_at k fs

-- of each child before, whether it stays
abbrev pub stay_told : List Fate → Found
stay_told [] = []
stay_told (Stays c d ∷ fs) = Some 0 ∷ stay_told fs
stay_told (Goes c ∷ fs) = None ∷ stay_told fs
stay_told (Comes d ∷ fs) = stay_told fs

-- what goes and what comes
abbrev pub passed : List Fate → Passing
passed fs = record { gone = (left_at 0 fs, elements (goers fs)); come = (come_at 0 fs, elements (comers fs)); held = comers fs }

-- ---- one fate more

-- the children before of fates behind others stand behind theirs
pub before-append : (fs gs : List Fate) → before (fs ++ gs) ≡ before fs ++ before gs
before-append [] gs = refl
before-append (Stays c d ∷ fs) gs = ap (λ xs. c ∷ xs) (before-append fs gs)
before-append (Goes c ∷ fs) gs = ap (λ xs. c ∷ xs) (before-append fs gs)
before-append (Comes d ∷ fs) gs = before-append fs gs

-- so do the children afterwards
pub after-append : (fs gs : List Fate) → after (fs ++ gs) ≡ after fs ++ after gs
after-append [] gs = refl
after-append (Stays c d ∷ fs) gs = ap (λ xs. d ∷ xs) (after-append fs gs)
after-append (Goes c ∷ fs) gs = after-append fs gs
after-append (Comes d ∷ fs) gs = ap (λ xs. d ∷ xs) (after-append fs gs)

-- so do those that come
pub comers-append : (fs gs : List Fate) → comers (fs ++ gs) ≡ comers fs ++ comers gs
comers-append [] gs = refl
comers-append (Stays c d ∷ fs) gs = comers-append fs gs
comers-append (Goes c ∷ fs) gs = comers-append fs gs
comers-append (Comes d ∷ fs) gs = ap (λ xs. d ∷ xs) (comers-append fs gs)

goers-append : (fs gs : List Fate) → elements (goers (fs ++ gs)) ≡ elements (goers fs) ++ elements (goers gs)
goers-append [] gs = refl
goers-append (Stays c d ∷ fs) gs = goers-append fs gs
goers-append (Goes c ∷ fs) gs = ap (λ xs. element_view c.0 ∷ xs) (goers-append fs gs)
goers-append (Comes d ∷ fs) gs = goers-append fs gs

comers-names : (fs gs : List Fate) → elements (comers (fs ++ gs)) ≡ elements (comers fs) ++ elements (comers gs)
comers-names [] gs = refl
comers-names (Stays c d ∷ fs) gs = comers-names fs gs
comers-names (Goes c ∷ fs) gs = comers-names fs gs
comers-names (Comes d ∷ fs) gs = ap (λ xs. element_view d.0 ∷ xs) (comers-names fs gs)

left-append : (k : ℕ) (fs gs : List Fate) (n : ℕ) → n ≡ k + length (before fs) → left_at k (fs ++ gs) ≡ left_at k fs ++ left_at n gs
left-append k [] gs n e = ap (λ m. left_at m gs) (omega (arith, e))
left-append k (Stays c d ∷ fs) gs n e = left-append (k + 1) fs gs n (omega (arith, e))
left-append k (Goes c ∷ fs) gs n e = ap (λ xs. k ∷ xs) (left-append (k + 1) fs gs n (omega (arith, e)))
left-append k (Comes d ∷ fs) gs n e = left-append k fs gs n e

come-append : (k : ℕ) (fs gs : List Fate) (n : ℕ) → n ≡ k + length (after fs) → come_at k (fs ++ gs) ≡ come_at k fs ++ come_at n gs
come-append k [] gs n e = ap (λ m. come_at m gs) (omega (arith, e))
come-append k (Stays c d ∷ fs) gs n e = come-append (k + 1) fs gs n (omega (arith, e))
come-append k (Goes c ∷ fs) gs n e = come-append k fs gs n e
come-append k (Comes d ∷ fs) gs n e = ap (λ xs. k ∷ xs) (come-append (k + 1) fs gs n (omega (arith, e)))

-- with one more that stays nothing else passes
pub passed-stays : (fs : List Fate) (c d : Child) → passed (fs ++ Stays c d ∷ []) ≡ passed fs
passed-stays fs c d = λ i. record {
  gone = (
    (left-append 0 fs (Stays c d ∷ []) (length (before fs)) (omega arith) ∙ append-nil (left_at 0 fs)) i,
    (goers-append fs (Stays c d ∷ []) ∙ append-nil (elements (goers fs))) i,
  );
  come = (
    (come-append 0 fs (Stays c d ∷ []) (length (after fs)) (omega arith) ∙ append-nil (come_at 0 fs)) i,
    (comers-names fs (Stays c d ∷ []) ∙ append-nil (elements (comers fs))) i,
  );
  held = (comers-append fs (Stays c d ∷ []) ∙ append-nil (comers fs)) i;
}

-- one more goes
pub passed-goes : (fs : List Fate) (c : Child) (k : ℕ) → k ≡ length (before fs) → passed (fs ++ Goes c ∷ []) ≡ with_gone k (element_view c.0) (passed fs)
passed-goes fs c k is = λ i. record {
  gone = (left-append 0 fs (Goes c ∷ []) k (omega (arith, is)) i, goers-append fs (Goes c ∷ []) i);
  come = (
    (come-append 0 fs (Goes c ∷ []) (length (after fs)) (omega arith) ∙ append-nil (come_at 0 fs)) i,
    (comers-names fs (Goes c ∷ []) ∙ append-nil (elements (comers fs))) i,
  );
  held = (comers-append fs (Goes c ∷ []) ∙ append-nil (comers fs)) i;
}

-- one more comes
pub passed-comes : (fs : List Fate) (d : Child) (k : ℕ) → k ≡ length (after fs) → passed (fs ++ Comes d ∷ []) ≡ with_come k d (passed fs)
passed-comes fs d k is = λ i. record {
  gone = (
    (left-append 0 fs (Comes d ∷ []) (length (before fs)) (omega arith) ∙ append-nil (left_at 0 fs)) i,
    (goers-append fs (Comes d ∷ []) ∙ append-nil (elements (goers fs))) i,
  );
  come = (come-append 0 fs (Comes d ∷ []) k (omega (arith, is)) i, comers-names fs (Comes d ∷ []) i);
  held = comers-append fs (Comes d ∷ []) i;
}

-- ---- the places, as an edit between the two lists has them

-- where those that go stood is where none is told to stay
pub left-nones : (k : ℕ) (fs : List Fate) → left_at k fs ≡ nones k (stay_told fs)
left-nones k [] = refl
left-nones k (Stays c d ∷ fs) = left-nones (k + 1) fs
left-nones k (Goes c ∷ fs) = ap (λ xs. k ∷ xs) (left-nones (k + 1) fs)
left-nones k (Comes d ∷ fs) = left-nones k fs

-- those that go are the children before of which none is told to stay
pub goers-fresh : (fs : List Fate) → elements (goers fs) ≡ fresh (stay_told fs) (elements (before fs))
goers-fresh [] = refl
goers-fresh (Stays c d ∷ fs) = goers-fresh fs
goers-fresh (Goes c ∷ fs) = ap (λ xs. element_view c.0 ∷ xs) (goers-fresh fs)
goers-fresh (Comes d ∷ fs) = goers-fresh fs

-- where those that come stand is where no place before is told
pub come-nones : (j k : ℕ) (fs : List Fate) → come_at j fs ≡ nones j (stood_at k fs)
come-nones j k [] = refl
come-nones j k (Stays c d ∷ fs) = come-nones (j + 1) (k + 1) fs
come-nones j k (Goes c ∷ fs) = come-nones j (k + 1) fs
come-nones j k (Comes d ∷ fs) = ap (λ xs. j ∷ xs) (come-nones (j + 1) k fs)

-- those that come are named by the elements of which no place before is told
pub names-fresh : (k : ℕ) (fs : List Fate) → elements (comers fs) ≡ fresh (stood_at k fs) (elements (after fs))
names-fresh k [] = refl
names-fresh k (Stays c d ∷ fs) = names-fresh (k + 1) fs
names-fresh k (Goes c ∷ fs) = names-fresh (k + 1) fs
names-fresh k (Comes d ∷ fs) = ap (λ xs. element_view d.0 ∷ xs) (names-fresh k fs)

-- those that come are the children afterwards of which no place before is told
pub comers-fresh : (k : ℕ) (fs : List Fate) → comers fs ≡ fresh (stood_at k fs) (after fs)
comers-fresh k [] = refl
comers-fresh k (Stays c d ∷ fs) = comers-fresh (k + 1) fs
comers-fresh k (Goes c ∷ fs) = comers-fresh (k + 1) fs
comers-fresh k (Comes d ∷ fs) = ap (λ xs. d ∷ xs) (comers-fresh k fs)

told-long : (fs : List Fate) → length (stay_told fs) ≡ length (before fs)
told-long [] = refl
told-long (Stays c d ∷ fs) = ap suc (told-long fs)
told-long (Goes c ∷ fs) = ap suc (told-long fs)
told-long (Comes d ∷ fs) = told-long fs

told-count : (k : ℕ) (fs : List Fate) → length (somes (stay_told fs)) ≡ length (somes (stood_at k fs))
told-count k [] = refl
told-count k (Stays c d ∷ fs) = ap suc (told-count (k + 1) fs)
told-count k (Goes c ∷ fs) = told-count (k + 1) fs
told-count k (Comes d ∷ fs) = told-count k fs

-- no place below the number is told
none-below : (k x : ℕ) (fs : List Fate) → x < k → is_in x (somes (stood_at k fs)) ≡ false
none-below k x [] lt = refl
none-below k x (Stays c d ∷ fs) lt =
    let other : eqb x k ≡ false = grind (arith, nat_tests) in
    ap (λ b. b || is_in x (somes (stood_at (k + 1) fs))) other ∙ none-below (k + 1) x fs (omega arith)
none-below k x (Goes c ∷ fs) lt = none-below (k + 1) x fs (omega arith)
none-below k x (Comes d ∷ fs) lt = none-below k x fs lt

told-there : (k x y : ℕ) (fs : List Fate) → y ≡ k + x → is_told (stay_told fs) x ≡ is_in y (somes (stood_at k fs))
told-there k x y [] e = refl
told-there k zero y (Stays c d ∷ fs) e =
    let same : y ≡ k = omega (arith, e) in
    sym (ap (λ b. b || is_in y (somes (stood_at (k + 1) fs))) (ap (λ z. eqb z k) same ∙ same_number k))
told-there k (suc x) y (Stays c d ∷ fs) e =
    let other : eqb y k ≡ false = grind (arith, nat_tests) in
    told-there (k + 1) x y fs (omega (arith, e)) ∙ sym (ap (λ b. b || is_in y (somes (stood_at (k + 1) fs))) other)
told-there k zero y (Goes c ∷ fs) e = sym (none-below (k + 1) y fs (omega (arith, e)))
told-there k (suc x) y (Goes c ∷ fs) e = told-there (k + 1) x y fs (omega (arith, e))
told-there k x y (Comes d ∷ fs) e = told-there k x y fs e

-- of the children before those are told to stay of which a place is told afterwards
pub fates-turned : (fs : List Fate) → IsTurnedRound (length (before fs)) (stood_at 0 fs) (stay_told fs)
fates-turned fs = record { long = told-long fs; count = told-count 0 fs; there = λ x. told-there 0 x x fs (omega arith) }

fates-filled : (k : ℕ) (fs : List Fate) → range_with_len k (length (stay_told fs)) ≡ filled k (stay_told fs) (somes (stood_at k fs))
fates-filled k [] = refl
fates-filled k (Stays c d ∷ fs) = ap (λ xs. k ∷ xs) (fates-filled (k + 1) fs)
fates-filled k (Goes c ∷ fs) = ap (λ xs. k ∷ xs) (fates-filled (k + 1) fs)
fates-filled k (Comes d ∷ fs) = fates-filled k fs

-- what stays keeps its order
pub fates-order : (fs : List Fate) → IsReordering (stood_at 0 fs) (stay_told fs) []
fates-order fs = record { range = tt; order = fates-filled 0 fs; none = λ e. refl; few = omega arith }
