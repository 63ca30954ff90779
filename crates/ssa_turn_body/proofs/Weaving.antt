-- What is taken out of a list and what is left make the list again; what is woven in can be taken out.
use Rattle.std.proofs.Common.{◌≡◌, ℕ, zero, suc, ◌+◌, ◌-◌, ◌<◌, ◌≤◌, eqb, List, [], ◌∷◌, ◌++◌, length, take, drop, true, false, cond, refl, sym, ap, subst, ◌∙◌, arith, append_assoc, append-nil, true≢false, map}
use Rattle.std.specs.List.{take-map, drop-map}
use Rattle.std.proofs.lemmas.List.{map-append, length-append, length-take-le, length-drop, drop-drop}
use Rattle.std.proofs.lemmas.Bool.{eqb-true}
use Rattle.std.proofs.lemmas.Bool.Decides.{nat_tests}
use Rattle.ssa_turn_body.specs.Woven.{ArePlaces, taken, left, woven, is_first}

-- a number is equal to itself
pub same_number : (k : ℕ) → eqb k k ≡ true
same_number k = grind (arith, nat_tests)

other_number : (p k : ℕ) → k < p → eqb p k ≡ false
other_number p k lt = grind (arith, nat_tests)

-- places within a list, from one on, are no more than the elements there
pub places-within : (k : ℕ) (ps : List ℕ) (n : ℕ) → ArePlaces k ps n → k + length ps ≤ n
places-within k [] n h = omega (arith, h)
places-within k (p ∷ ps) n h = let rest = places-within (p + 1) ps n h.1 in let le = h.0 in omega arith

-- one place further, where nothing stands
pub places-further : (k p : ℕ) (ps : List ℕ) (n : ℕ) → k < p → ArePlaces k (p ∷ ps) n → ArePlaces (k + 1) (p ∷ ps) n
places-further k p ps n lt h = (omega arith, h.1)

-- a list that begins with a number has one more than its rest
pub some-first : (ds : List ℕ) (k : ℕ) → is_first ds k ≡ true → length ds ≡ suc (length (drop 1 ds))
some-first [] k f = absurd (true≢false (sym f))
some-first (d ∷ ds) k f = refl

-- ---- what is left of a list of places

-- where the next of the places is met, there is one more of them
pub first-within : (i : ℕ) (ps : List ℕ) (k : ℕ) → is_first (drop i ps) k ≡ true → i + 1 ≤ length ps
first-within zero [] k f = absurd (true≢false (sym f))
first-within (suc i) [] k f = absurd (true≢false (sym f))
first-within zero (p ∷ ps) k f = omega arith
first-within (suc i) (p ∷ ps) k f = let rest = first-within i ps k f in omega arith

-- behind fewer elements than a list has something is left
pub drop-some : {A : Type 0} (i : ℕ) (xs : List A) → i < length xs → 0 < length (drop i xs)
drop-some i [] h = absurd (omega arith)
drop-some zero (x ∷ xs) h = omega arith
drop-some (suc i) (x ∷ xs) h = drop-some i xs (omega arith)

module _ {X : Type 0} where
  -- ---- steps

  -- at a place that is told, its element is taken
  pub taken-here : (p : ℕ) (ps : List ℕ) (x : X) (xs : List X) → taken (p ∷ ps) p (x ∷ xs) ≡ x ∷ taken ps (p + 1) xs
  taken-here p ps x xs = ap (λ b. cond b (x ∷ taken ps (p + 1) xs) (taken (p ∷ ps) (p + 1) xs)) (same_number p)

  -- at a place that is told, its element is not left
  pub left-here : (p : ℕ) (ps : List ℕ) (x : X) (xs : List X) → left (p ∷ ps) p (x ∷ xs) ≡ left ps (p + 1) xs
  left-here p ps x xs = ap (λ b. cond b (left ps (p + 1) xs) (x ∷ left (p ∷ ps) (p + 1) xs)) (same_number p)

  -- before the next place nothing is taken
  pub taken-past : (p k : ℕ) (ps : List ℕ) (x : X) (xs : List X) → eqb p k ≡ false → taken (p ∷ ps) k (x ∷ xs) ≡ taken (p ∷ ps) (k + 1) xs
  taken-past p k ps x xs o = ap (λ b. cond b (x ∷ taken ps (k + 1) xs) (taken (p ∷ ps) (k + 1) xs)) o

  -- before the next place each element is left
  pub left-past : (p k : ℕ) (ps : List ℕ) (x : X) (xs : List X) → eqb p k ≡ false → left (p ∷ ps) k (x ∷ xs) ≡ x ∷ left (p ∷ ps) (k + 1) xs
  left-past p k ps x xs o = ap (λ b. cond b (left ps (k + 1) xs) (x ∷ left (p ∷ ps) (k + 1) xs)) o

  -- at a place that is told, the next that comes stands
  pub woven-here : (p : ℕ) (ps : List ℕ) (h : X) (hs ys : List X) → woven (p ∷ ps) p (h ∷ hs) ys ≡ h ∷ woven ps (p + 1) hs ys
  woven-here p ps h hs ys = let none : p - p ≡ 0 = omega arith in λ i. take (none i) ys ++ h ∷ woven ps (p + 1) hs (drop (none i) ys)

  -- before the next place the next that stays stands
  pub woven-past : (p k : ℕ) (ps : List ℕ) (h : X) (hs : List X) (y : X) (ys : List X) → k < p
      → woven (p ∷ ps) k (h ∷ hs) (y ∷ ys) ≡ y ∷ woven (p ∷ ps) (k + 1) (h ∷ hs) ys
  woven-past p k ps h hs y ys lt =
      let one : p - k ≡ suc (p - (k + 1)) = omega arith in
      λ i. take (one i) (y ∷ ys) ++ h ∷ woven ps (p + 1) hs (drop (one i) (y ∷ ys))

  -- ---- lengths

  -- as many are taken as places are told
  pub length-taken : (ps : List ℕ) (k : ℕ) (xs : List X) → ArePlaces k ps (k + length xs) → length (taken ps k xs) ≡ length ps
  length-taken [] k xs h = refl
  length-taken (p ∷ ps) k [] h = let in_list = places-within k (p ∷ ps) (k + 0) h in absurd (omega arith)
  length-taken (p ∷ ps) k (x ∷ xs) h =
      elim (eqb p k) as (λ b. eqb p k ≡ b → length (cond b (x ∷ taken ps (k + 1) xs) (taken (p ∷ ps) (k + 1) xs)) ≡ suc (length ps)) [
        | true ↦ λ t.
            let same = eqb-true p k t in
            let long : k + length (x ∷ xs) ≡ (k + 1) + length xs = omega arith in
            ap suc (length-taken ps (k + 1) xs (subst (λ n. ArePlaces (k + 1) ps n) long (subst (λ q. ArePlaces (q + 1) ps (k + length (x ∷ xs))) same h.1)))
        | false ↦ λ t.
            let long : k + length (x ∷ xs) ≡ (k + 1) + length xs = omega arith in
            let le = h.0 in
            let lt : k < p = grind (arith, nat_tests) in
            length-taken (p ∷ ps) (k + 1) xs (subst (λ n. ArePlaces (k + 1) (p ∷ ps) n) long (places-further k p ps (k + length (x ∷ xs)) lt h))
      ] refl

  -- ---- taken and left make the list

  -- what is taken, woven into what is left, makes the list again
  pub whole-again : (ps : List ℕ) (k : ℕ) (xs : List X) → ArePlaces k ps (k + length xs) → woven ps k (taken ps k xs) (left ps k xs) ≡ xs
  whole-again [] k xs h = refl
  whole-again (p ∷ ps) k [] h = refl
  whole-again (p ∷ ps) k (x ∷ xs) h =
      elim (eqb p k) as (λ b. eqb p k ≡ b → woven (p ∷ ps) k (cond b (x ∷ taken ps (k + 1) xs) (taken (p ∷ ps) (k + 1) xs))
      (cond b (left ps (k + 1) xs) (x ∷ left (p ∷ ps) (k + 1) xs)) ≡ x ∷ xs) [
        | true ↦ λ t.
            let same = eqb-true p k t in
            let long : k + length (x ∷ xs) ≡ (k + 1) + length xs = omega arith in
            let rest = whole-again ps (k + 1) xs (subst (λ n. ArePlaces (k + 1) ps n) long
            (subst (λ q. ArePlaces (q + 1) ps (k + length (x ∷ xs))) same h.1)) in
            subst (λ q. woven (q ∷ ps) k (x ∷ taken ps (k + 1) xs) (left ps (k + 1) xs) ≡ x ∷ xs) (sym same)
            (woven-here k ps x (taken ps (k + 1) xs) (left ps (k + 1) xs) ∙ ap (λ ys. x ∷ ys) rest)
        | false ↦ λ t.
            let long : k + length (x ∷ xs) ≡ (k + 1) + length xs = omega arith in
            let le = h.0 in
            let lt : k < p = grind (arith, nat_tests) in
            let places = subst (λ n. ArePlaces (k + 1) (p ∷ ps) n) long (places-further k p ps (k + length (x ∷ xs)) lt h) in
            past (taken (p ∷ ps) (k + 1) xs) lt (length-taken (p ∷ ps) (k + 1) xs places) (whole-again (p ∷ ps) (k + 1) xs places)
      ] refl
    where
      past : (ts : List X) → k < p → length ts ≡ suc (length ps) → woven (p ∷ ps) (k + 1) ts (left (p ∷ ps) (k + 1) xs) ≡ xs
          → woven (p ∷ ps) k ts (x ∷ left (p ∷ ps) (k + 1) xs) ≡ x ∷ xs
      past [] lt long e = absurd (omega arith)
      past (t ∷ ts) lt long e = woven-past p k ps t ts x (left (p ∷ ps) (k + 1) xs) lt ∙ ap (λ ys. x ∷ ys) e

  -- ---- one pass that takes out and puts in

  -- so far: what is left of the list from place k on, of the places and of what comes; what went and what stands
  pub record IsWeaving (gone come : List ℕ) (hs cs : List X) (k : ℕ) (ds es : List ℕ) (rest held out room : List X) : Type 0 where
    -- the elements met and the rest are as many as all
    pub whole : k + length rest ≡ length cs
    -- the places still to be taken from are within the rest
    pub gone_left : ArePlaces k ds (k + length rest)
    -- the places still to be put at are within what is still to come and to stay
    pub come_left : ArePlaces (length room) es (length room + length held + length (left ds k rest))
    -- what still comes is as much as the places for it
    pub held_left : length held ≡ length es
    -- what stands, comes and stays is as much as shall stand at last
    pub room_total : length room + length held + length (left ds k rest) ≡ length hs + length (left gone 0 cs)
    -- what went and what still goes is as much as shall go
    pub out_total : length out + length ds ≡ length gone
    -- what went, with what is still taken from the rest, is what is taken from the whole
    pub taken_is : taken gone 0 cs ≡ out ++ taken ds k rest
    -- what stands, with what is still woven, is what is woven of the whole
    pub woven_is : woven come 0 hs (left gone 0 cs) ≡ room ++ woven es (length room) held (left ds k rest)

  length-push : (xs : List X) (x : X) → length (xs ++ x ∷ []) ≡ length xs + 1
  length-push [] x = refl
  length-push (y ∷ xs) x = let rest = length-push xs x in omega arith

  put-here : (es : List ℕ) (n : ℕ) (held : List X) → is_first es n ≡ true → length held ≡ length es → (h : X) (held2 : List X) → held ≡ h ∷ held2
      → (ys : List X)
      → (m : ℕ) → ArePlaces n es m → ArePlaces (n + 1) (drop 1 es) m × (length held2 ≡ length (drop 1 es))
      × (woven es n held ys ≡ h ∷ woven (drop 1 es) (n + 1) held2 ys)
  put-here [] n held f l h held2 e ys m places = absurd (true≢false (sym f))
  put-here (p ∷ es) n held f l h held2 e ys m places =
      let same : p ≡ n = eqb-true p n f in
      let long : suc (length held2) ≡ suc (length es) = ap length (sym e) ∙ l in (
        subst (λ q. ArePlaces (q + 1) es m) same places.1,
        omega (arith, long),
        ap (λ hs. woven (p ∷ es) n hs ys) e ∙ subst (λ q. woven (q ∷ es) n (h ∷ held2) ys ≡ h ∷ woven es (n + 1) held2 ys) (sym same)
            (woven-here n es h held2 ys),
      )

  -- with the next that comes put in, the pass goes on
  pub weaving-put : (gone come : List ℕ) (hs cs : List X) (k : ℕ) (ds es : List ℕ) (rest held out room : List X) (h : X) (held2 room2 : List X)
      → is_first es (length room) ≡ true → held ≡ h ∷ held2 → room2 ≡ room ++ h ∷ []
      → IsWeaving gone come hs cs k ds es rest held out room → IsWeaving gone come hs cs k ds (drop 1 es) rest held2 out room2
  weaving-put gone come hs cs k ds es rest held out room h held2 room2 f e r w =
      let step = put-here es (length room) held f w.held_left h held2 e (left ds k rest) _ w.come_left in
      let long : length room2 ≡ length room + 1 = ap length r ∙ length-push room h in
      let held_long : length held ≡ suc (length held2) = ap length e in
      let total : length room + length held + length (left ds k rest) ≡ length room2 + length held2 + length (left ds k rest) = omega arith in
      record {
        whole = w.whole;
        gone_left = w.gone_left;
        come_left = subst (λ n. ArePlaces n (drop 1 es) (length room2 + length held2 + length (left ds k rest))) (sym long)
            (subst (λ m. ArePlaces (length room + 1) (drop 1 es) m) total step.0);
        held_left = step.1;
        room_total = sym total ∙ w.room_total;
        out_total = w.out_total;
        taken_is = w.taken_is;
        woven_is =
            w.woven_is ∙ ap (λ ys. room ++ ys) step.2 ∙ sym (append_assoc room (h ∷ []) _)
            ∙ ap (λ xs. xs ++ woven (drop 1 es) (length room + 1) held2 (left ds k rest)) (sym r)
            ∙ ap (λ n. room2 ++ woven (drop 1 es) n held2 (left ds k rest)) (sym long);
      }

  cut-here : (ds : List ℕ) (k : ℕ) (x : X) (rest : List X) → is_first ds k ≡ true → ArePlaces k ds (k + length (x ∷ rest))
      → ArePlaces (k + 1) (drop 1 ds) ((k + 1) + length rest) × (taken ds k (x ∷ rest) ≡ x ∷ taken (drop 1 ds) (k + 1) rest)
      × (left ds k (x ∷ rest) ≡ left (drop 1 ds) (k + 1) rest)
  cut-here [] k x rest f places = absurd (true≢false (sym f))
  cut-here (p ∷ ds) k x rest f places =
      let same : p ≡ k = eqb-true p k f in
      let long : k + length (x ∷ rest) ≡ (k + 1) + length rest = omega arith in (
        subst (λ n. ArePlaces (k + 1) ds n) long (subst (λ q. ArePlaces (q + 1) ds (k + length (x ∷ rest))) same places.1),
        subst (λ q. taken (q ∷ ds) k (x ∷ rest) ≡ x ∷ taken ds (k + 1) rest) (sym same) (taken-here k ds x rest),
        subst (λ q. left (q ∷ ds) k (x ∷ rest) ≡ left ds (k + 1) rest) (sym same) (left-here k ds x rest),
      )

  -- where a place is due, something is there to be put in
  pub held-due : (gone come : List ℕ) (hs cs : List X) (k : ℕ) (ds es : List ℕ) (rest held out room : List X) → is_first es (length room) ≡ true → held ≡ []
      → IsWeaving gone come hs cs k ds es rest held out room → ⊥
  held-due gone come hs cs k ds es rest held out room f e w = let one = some-first es (length room) f in let long = w.held_left in
      let none : length held ≡ 0 = ap length e in omega arith

  -- with the next element taken out, the pass goes on
  pub weaving-cut : (gone come : List ℕ) (hs cs : List X) (k : ℕ) (ds es : List ℕ) (rest held out room : List X) (x : X) (rest2 out2 : List X)
      → is_first ds k ≡ true → rest ≡ x ∷ rest2 → out2 ≡ out ++ x ∷ []
      → IsWeaving gone come hs cs k ds es rest held out room → IsWeaving gone come hs cs (k + 1) (drop 1 ds) es rest2 held out2 room
  weaving-cut gone come hs cs k ds es rest held out room x rest2 out2 f e r w =
      let places : ArePlaces k ds (k + length (x ∷ rest2)) = subst (λ xs. ArePlaces k ds (k + length xs)) e w.gone_left in
      let step = cut-here ds k x rest2 f places in
      let left_is : left ds k rest ≡ left (drop 1 ds) (k + 1) rest2 = ap (left ds k) e ∙ step.2 in
      let long : length rest ≡ suc (length rest2) = ap length e in
      let whole_before = w.whole in
      record {
        whole = omega arith;
        gone_left = step.0;
        come_left = subst (λ ys. ArePlaces (length room) es (length room + length held + length ys)) left_is w.come_left;
        held_left = w.held_left;
        room_total = ap (λ ys. length room + length held + length ys) (sym left_is) ∙ w.room_total;
        out_total = (let out_before = w.out_total in let out_long = ap length r ∙ length-push out x in let one = some-first ds k f in omega arith);
        taken_is = w.taken_is ∙ ap (λ xs. out ++ taken ds k xs) e ∙ ap (λ ys. out ++ ys) step.1 ∙ sym (append_assoc out (x ∷ []) _)
            ∙ ap (λ xs. xs ++ taken (drop 1 ds) (k + 1) rest2) (sym r);
        woven_is = w.woven_is ∙ ap (λ ys. room ++ woven es (length room) held ys) left_is;
      }

  stay-left : (ds : List ℕ) (k : ℕ) (x : X) (rest : List X) → is_first ds k ≡ false → ArePlaces k ds (k + length (x ∷ rest))
      → ArePlaces (k + 1) ds ((k + 1) + length rest) × (taken ds k (x ∷ rest) ≡ taken ds (k + 1) rest) × (left ds k (x ∷ rest) ≡ x ∷ left ds (k + 1) rest)
  stay-left [] k x rest f places = (omega arith, refl, refl)
  stay-left (p ∷ ds) k x rest f places =
      let long : k + length (x ∷ rest) ≡ (k + 1) + length rest = omega arith in
      let le = places.0 in
      let lt : k < p = grind (arith, nat_tests) in (
        subst (λ n. ArePlaces (k + 1) (p ∷ ds) n) long (places-further k p ds (k + length (x ∷ rest)) lt places),
        taken-past p k ds x rest f,
        left-past p k ds x rest f,
      )

  stay-put : (es : List ℕ) (n m : ℕ) (held : List X) (y : X) (ys : List X) → is_first es n ≡ false → length held ≡ length es → n < m → ArePlaces n es m
      → ArePlaces (n + 1) es m × (woven es n held (y ∷ ys) ≡ y ∷ woven es (n + 1) held ys)
  stay-put [] n m held y ys f l lt places = (omega arith, refl)
  stay-put (p ∷ es) n m [] y ys f l lt places = absurd (omega (arith, l))
  stay-put (p ∷ es) n m (h ∷ held) y ys f l lt places =
      let le = places.0 in
      let above : n < p = grind (arith, nat_tests) in (places-further n p es m above places, woven-past p n es h held y ys above)

  -- with the next element left to stay, the pass goes on
  pub weaving-stay : (gone come : List ℕ) (hs cs : List X) (k : ℕ) (ds es : List ℕ) (rest held out room : List X) (x : X) (rest2 room2 : List X)
      → is_first ds k ≡ false → is_first es (length room) ≡ false → rest ≡ x ∷ rest2 → room2 ≡ room ++ x ∷ []
      → IsWeaving gone come hs cs k ds es rest held out room → IsWeaving gone come hs cs (k + 1) ds es rest2 held out room2
  weaving-stay gone come hs cs k ds es rest held out room x rest2 room2 f g e r w =
      let places : ArePlaces k ds (k + length (x ∷ rest2)) = subst (λ xs. ArePlaces k ds (k + length xs)) e w.gone_left in
      let step = stay-left ds k x rest2 f places in
      let left_is : left ds k rest ≡ x ∷ left ds (k + 1) rest2 = ap (left ds k) e ∙ step.2 in
      let left_long : length (left ds k rest) ≡ suc (length (left ds (k + 1) rest2)) = ap length left_is in
      let long : length rest ≡ suc (length rest2) = ap length e in
      let room_long : length room2 ≡ length room + 1 = ap length r ∙ length-push room x in
      let whole_before = w.whole in
      let put = stay-put es (length room) (length room + length held + length (left ds k rest)) held x (left ds (k + 1) rest2) g w.held_left (omega arith)
      w.come_left in
      let total : length room + length held + length (left ds k rest) ≡ length room2 + length held + length (left ds (k + 1) rest2) = omega arith in
      record {
        whole = omega arith;
        gone_left = step.0;
        come_left = subst (λ n. ArePlaces n es (length room2 + length held + length (left ds (k + 1) rest2))) (sym room_long)
            (subst (λ m. ArePlaces (length room + 1) es m) total put.0);
        held_left = w.held_left;
        room_total = sym total ∙ w.room_total;
        out_total = w.out_total;
        taken_is = w.taken_is ∙ ap (λ xs. out ++ taken ds k xs) e ∙ ap (λ ys. out ++ ys) step.1;
        woven_is =
            w.woven_is ∙ ap (λ ys. room ++ woven es (length room) held ys) left_is ∙ ap (λ ys. room ++ ys) put.1 ∙ sym (append_assoc room (x ∷ []) _)
            ∙ ap (λ xs. xs ++ woven es (length room + 1) held (left ds (k + 1) rest2)) (sym r)
            ∙ ap (λ n. room2 ++ woven es n held (left ds (k + 1) rest2)) (sym room_long);
      }

  left-none : (ds : List ℕ) (k : ℕ) → left {X = X} ds k [] ≡ []
  left-none [] k = refl
  left-none (d ∷ ds) k = refl

  taken-none : (ds : List ℕ) (k : ℕ) → taken {X = X} ds k [] ≡ []
  taken-none [] k = refl
  taken-none (d ∷ ds) k = refl

  -- what comes stands next where nothing else is left
  pub weaving-due : (gone come : List ℕ) (hs cs : List X) (k : ℕ) (ds es : List ℕ) (rest held out room : List X) → 0 < length es → rest ≡ []
      → is_first es (length room) ≡ false
      → IsWeaving gone come hs cs k ds es rest held out room → ⊥
  weaving-due gone come hs cs k ds [] rest held out room lt e f w = omega arith
  weaving-due gone come hs cs k ds (p ∷ es) rest held out room lt e f w =
      let none : length (left ds k rest) ≡ 0 = ap length (ap (left ds k) e ∙ left-none ds k) in
      let within = places-within (p + 1) es _ w.come_left.1 in
      let le = w.come_left.0 in
      let long = w.held_left in
      let same : p ≡ length room = omega arith in
      true≢false (sym (subst (λ n. eqb p n ≡ true) same (same_number p)) ∙ f)

  nothing-held : (held : List X) → length held ≡ 0 → held ≡ []
  nothing-held [] h = refl
  nothing-held (x ∷ held) h = absurd (omega (arith, h))

  -- at the end what stands is what is woven, and what went is what is taken
  pub weaving-end : (gone come : List ℕ) (hs cs : List X) (k : ℕ) (ds es : List ℕ) (rest held out room : List X) → es ≡ [] → rest ≡ []
      → IsWeaving gone come hs cs k ds es rest held out room → (room ≡ woven come 0 hs (left gone 0 cs)) × (out ≡ taken gone 0 cs) × (held ≡ [])
  weaving-end gone come hs cs k ds es rest held out room n e w = (
    sym (w.woven_is ∙ (λ i. room ++ woven (n i) (length room) held (left ds k (e i))) ∙ ap (λ ys. room ++ ys) (left-none ds k) ∙ append-nil room),
    sym (w.taken_is ∙ ap (λ xs. out ++ taken ds k xs) e ∙ ap (λ ys. out ++ ys) (taken-none ds k) ∙ append-nil out),
    nothing-held held (w.held_left ∙ ap length n),
  )

  -- ---- the same steps, by how many of the places are done

  -- with one place more done and its element taken out, the pass goes on
  pub after-cut : (gone come : List ℕ) (hs cs : List X) (k i : ℕ) (es : List ℕ) (rest held out room : List X) (x : X) (rest2 out2 room2 : List X) (i2 : ℕ)
      → is_first (drop i gone) k ≡ true → rest ≡ x ∷ rest2
      → out2 ≡ out ++ x ∷ [] → i2 ≡ i + 1 → room2 ≡ room → IsWeaving gone come hs cs k (drop i gone) es rest held out room
      → IsWeaving gone come hs cs (k + 1) (drop i2 gone) es rest2 held out2 room2
  after-cut gone come hs cs k i es rest held out room x rest2 out2 room2 i2 f e r i_is room_is w =
      subst (λ rs. IsWeaving gone come hs cs (k + 1) (drop i2 gone) es rest2 held out2 rs) (sym room_is)
      (subst (λ ds. IsWeaving gone come hs cs (k + 1) ds es rest2 held out2 room) (drop-drop 1 i gone ∙ ap (λ n. drop n gone) (sym i_is))
      (weaving-cut gone come hs cs k (drop i gone) es rest held out room x rest2 out2 f e r w))

  -- with no place done and the element left to stay, the pass goes on
  pub after-stay : (gone come : List ℕ) (hs cs : List X) (k i : ℕ) (es : List ℕ) (rest held out room : List X) (x : X) (rest2 out2 room2 : List X) (i2 : ℕ)
      → is_first (drop i gone) k ≡ false → is_first es (length room) ≡ false → rest ≡ x ∷ rest2
      → out2 ≡ out → i2 ≡ i → room2 ≡ room ++ x ∷ [] → IsWeaving gone come hs cs k (drop i gone) es rest held out room
      → IsWeaving gone come hs cs (k + 1) (drop i2 gone) es rest2 held out2 room2
  after-stay gone come hs cs k i es rest held out room x rest2 out2 room2 i2 f g e out_is i_is r w =
      subst (λ os. IsWeaving gone come hs cs (k + 1) (drop i2 gone) es rest2 held os room2) (sym out_is)
      (subst (λ n. IsWeaving gone come hs cs (k + 1) (drop n gone) es rest2 held out room2) (sym i_is)
      (weaving-stay gone come hs cs k (drop i gone) es rest held out room x rest2 room2 f g e r w))

  -- ---- what was woven in can be taken out

  abbrev IsBack : List ℕ → ℕ → List X → List X → Type 0
  IsBack ps k hs ys = (taken ps k (woven ps k hs ys) ≡ hs) × (left ps k (woven ps k hs ys) ≡ ys)

  back-here : (p : ℕ) (ps : List ℕ) (h : X) (hs ys : List X) → IsBack ps (p + 1) hs ys → IsBack (p ∷ ps) p (h ∷ hs) ys
  back-here p ps h hs ys rest =
      let is = woven-here p ps h hs ys in (
        ap (taken (p ∷ ps) p) is ∙ taken-here p ps h (woven ps (p + 1) hs ys) ∙ ap (λ xs. h ∷ xs) rest.0,
        ap (left (p ∷ ps) p) is ∙ left-here p ps h (woven ps (p + 1) hs ys) ∙ rest.1,
      )

  back-past : (p k : ℕ) (ps : List ℕ) (h : X) (hs : List X) (y : X) (ys : List X) → k < p → IsBack (p ∷ ps) (k + 1) (h ∷ hs) ys
      → IsBack (p ∷ ps) k (h ∷ hs) (y ∷ ys)
  back-past p k ps h hs y ys lt rest =
      let is = woven-past p k ps h hs y ys lt in
      let other = other_number p k lt in (
        ap (taken (p ∷ ps) k) is ∙ taken-past p k ps y (woven (p ∷ ps) (k + 1) (h ∷ hs) ys) other ∙ rest.0,
        ap (left (p ∷ ps) k) is ∙ left-past p k ps y (woven (p ∷ ps) (k + 1) (h ∷ hs) ys) other ∙ ap (λ xs. y ∷ xs) rest.1,
      )

  -- the first of the places, where the rest goes back from each place on
  back-from : (p : ℕ) (ps : List ℕ) (h : X) (hs : List X) (n : ℕ) → ArePlaces (p + 1) ps n → length hs ≡ length ps
      → ((ys : List X) → n ≡ (p + 1) + (length hs + length ys) → IsBack ps (p + 1) hs ys)
      → (ys : List X) (k : ℕ) → k ≤ p → n ≡ k + (length (h ∷ hs) + length ys) → IsBack (p ∷ ps) k (h ∷ hs) ys
  back-from p ps h hs n places l rest [] k le long =
      let within = places-within (p + 1) ps n places in
      let same : p ≡ k = omega (arith, l) in
      subst (λ q. IsBack (p ∷ ps) q (h ∷ hs) []) same (back-here p ps h hs [] (rest [] (omega arith)))
  back-from p ps h hs n places l rest (y ∷ ys) k le long =
      elim (eqb p k) as (λ b. eqb p k ≡ b → IsBack (p ∷ ps) k (h ∷ hs) (y ∷ ys)) [
        | true ↦ λ t. let same = eqb-true p k t in subst (λ q. IsBack (p ∷ ps) q (h ∷ hs) (y ∷ ys)) same
            (back-here p ps h hs (y ∷ ys) (rest (y ∷ ys) (omega arith)))
        | false ↦ λ t.
            let lt : k < p = grind (arith, nat_tests) in
            back-past p k ps h hs y ys lt (back-from p ps h hs n places l rest ys (k + 1) (omega arith) (omega arith))
      ] refl

  -- what was woven in is what is taken out, and what stayed is what is left
  pub back-again : (ps : List ℕ) (k : ℕ) (hs ys : List X) (n : ℕ) → ArePlaces k ps n → n ≡ k + (length hs + length ys) → length hs ≡ length ps
      → IsBack ps k hs ys
  back-again [] k [] ys n places long l = (refl, refl)
  back-again [] k (h ∷ hs) ys n places long l = absurd (omega (arith, l))
  back-again (p ∷ ps) k [] ys n places long l = absurd (omega (arith, l))
  back-again (p ∷ ps) k (h ∷ hs) ys n places long l =
      let shorter : length hs ≡ length ps = omega (arith, l) in
      back-from p ps h hs n places.1 shorter (λ zs e. back-again ps (p + 1) hs zs n places.1 e shorter) ys k places.0 long

  -- what is woven is as long as what comes and what stays
  pub length-woven : (ps : List ℕ) (k : ℕ) (hs ys : List X) (n : ℕ) → ArePlaces k ps n → n ≡ k + (length hs + length ys) → length hs ≡ length ps
      → length (woven ps k hs ys) ≡ length hs + length ys
  length-woven [] k [] ys n places long l = omega arith
  length-woven [] k (h ∷ hs) ys n places long l = absurd (omega (arith, l))
  length-woven (p ∷ ps) k [] ys n places long l = absurd (omega (arith, l))
  length-woven (p ∷ ps) k (h ∷ hs) ys n places long l =
      let shorter : length hs ≡ length ps = omega (arith, l) in
      let within = places-within (p + 1) ps n places.1 in
      let le = places.0 in
      let d = p - k in
      let taken_long : length (take d ys) ≡ d = length-take-le d ys (omega arith) in
      let dropped_long : length (drop d ys) ≡ length ys - d = length-drop d ys in
      let rest = length-woven ps (p + 1) hs (drop d ys) n places.1 (omega arith) shorter in
      length-append (take d ys) (h ∷ woven ps (p + 1) hs (drop d ys)) ∙ omega arith

  -- what is left is as much as there are elements without a told place
  pub length-left : (ps : List ℕ) (k : ℕ) (xs : List X) → ArePlaces k ps (k + length xs) → length (left ps k xs) + length ps ≡ length xs
  length-left [] k xs h = omega arith
  length-left (p ∷ ps) k [] h = let in_list = places-within k (p ∷ ps) (k + 0) h in absurd (omega arith)
  length-left (p ∷ ps) k (x ∷ xs) h =
      elim (eqb p k) as (λ b. eqb p k ≡ b → length (cond b (left ps (k + 1) xs) (x ∷ left (p ∷ ps) (k + 1) xs)) + length (p ∷ ps) ≡ length (x ∷ xs)) [
        | true ↦ λ t.
            let same = eqb-true p k t in
            let long : k + length (x ∷ xs) ≡ (k + 1) + length xs = omega arith in
            let rest = length-left ps (k + 1) xs (subst (λ n. ArePlaces (k + 1) ps n) long
            (subst (λ q. ArePlaces (q + 1) ps (k + length (x ∷ xs))) same h.1)) in
            omega arith
        | false ↦ λ t.
            let long : k + length (x ∷ xs) ≡ (k + 1) + length xs = omega arith in
            let le = h.0 in
            let lt : k < p = grind (arith, nat_tests) in
            let rest = length-left (p ∷ ps) (k + 1) xs (subst (λ n. ArePlaces (k + 1) (p ∷ ps) n) long (places-further k p ps (k + length (x ∷ xs)) lt h)) in
            omega arith
      ] refl

-- ---- what the elements are seen as

module _ {X Y : Type 0} (f : X → Y) where
  -- what is taken of elements that a function shows is what it shows of those taken
  pub map-taken : (ps : List ℕ) (k : ℕ) (xs : List X) → taken ps k (map f xs) ≡ map f (taken ps k xs)
  map-taken [] k xs = refl
  map-taken (p ∷ ps) k [] = refl
  map-taken (p ∷ ps) k (x ∷ xs) =
      elim (eqb p k) as (λ b. cond b (f x ∷ taken ps (k + 1) (map f xs)) (taken (p ∷ ps) (k + 1) (map f xs))
      ≡ map f (cond b (x ∷ taken ps (k + 1) xs) (taken (p ∷ ps) (k + 1) xs))) [
        | true ↦ ap (λ ys. f x ∷ ys) (map-taken ps (k + 1) xs)
        | false ↦ map-taken (p ∷ ps) (k + 1) xs
      ]

  -- what is left of elements that a function shows is what it shows of those left
  pub map-left : (ps : List ℕ) (k : ℕ) (xs : List X) → left ps k (map f xs) ≡ map f (left ps k xs)
  map-left [] k xs = refl
  map-left (p ∷ ps) k [] = refl
  map-left (p ∷ ps) k (x ∷ xs) =
      elim (eqb p k) as (λ b. cond b (left ps (k + 1) (map f xs)) (f x ∷ left (p ∷ ps) (k + 1) (map f xs))
      ≡ map f (cond b (left ps (k + 1) xs) (x ∷ left (p ∷ ps) (k + 1) xs))) [
        | true ↦ map-left ps (k + 1) xs
        | false ↦ ap (λ ys. f x ∷ ys) (map-left (p ∷ ps) (k + 1) xs)
      ]

  -- what is woven of elements that a function shows is what it shows of the woven list
  pub map-woven : (ps : List ℕ) (k : ℕ) (hs ys : List X) → woven ps k (map f hs) (map f ys) ≡ map f (woven ps k hs ys)
  map-woven [] k hs ys = refl
  map-woven (p ∷ ps) k [] ys = refl
  map-woven (p ∷ ps) k (h ∷ hs) ys =
      (λ i. take-map f (p - k) ys i ++ f h ∷ woven ps (p + 1) (map f hs) (drop-map f (p - k) ys i))
      ∙ ap (λ zs. map f (take (p - k) ys) ++ f h ∷ zs) (map-woven ps (p + 1) hs (drop (p - k) ys))
      ∙ sym (map-append f (take (p - k) ys) (h ∷ woven ps (p + 1) hs (drop (p - k) ys)))
