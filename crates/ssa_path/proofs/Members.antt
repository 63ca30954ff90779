-- The order of key fields, member by member.
use Rattle.std.proofs.Common.{◌≡◌, ◌⊎◌, inl, inr, ℕ, ◌+◌, ◌<◌, ◌≤◌, List, [], ◌∷◌, ◌++◌, ◌-◌, ⊎_elim, length, drop, get_or, Bool, true, false, Ordering, Less, Equal, Greater, ap, sym, ◌∙◌, refl, arith, append_assoc, true≢false}
use Rattle.std.proofs.lemmas.List.{drop_all, drop_more, drop-map, length-map, length-drop, drop-drop}
use Rattle.std.specs.Prelude.{nat_lt}
use Rattle.std.specs.Ordering.{nat_cmp, ordering_then, is_ne}
use Rattle.std.proofs.lemmas.Bool.Decides.{nat_tests}
use Rattle.ssa_members.specs.Texts.{text_bytes}
use Rattle.ssa_members.specs.declared.small_text.SmallText.{SmallText}
use Rattle.ssa_model.specs.definitions.Json.{Text, Scalar, quoted, scalar_text, compact_members}
use Rattle.ssa_model.specs.definitions.Path.{key_members}
use Rattle.ssa_json.specs.declared.value.Scalar as json
use Rattle.ssa_json.specs.View.{scalar_view}
use Rattle.ssa_path.specs.Keys.{Members, members_view}
use Rattle.ssa_path.specs.Order.{key_end, member_text}
use Rattle.ssa_path.proofs.Parts.{text_cmp, AreWords, cmp-words}
use Rattle.ssa_path.proofs.Escapes.{quoted-words, words-append, tied}
use Rattle.ssa_path.proofs.Numbers.{scalar-words, is_end, quoted-cmp}
use Rattle.ssa_model.proofs.Basics.{same-tails as tails}

-- ---- what stands behind a member

some_end : (ms : Members) → 0 < length ms → key_end ms ≡ 44 ∷ []
some_end [] h = absurd (omega arith)
some_end (m ∷ ms) h = refl

length-left : (ks : List (SmallText × json.Scalar)) (i : ℕ) → i < length ks → 0 < length (drop i (members_view ks))
length-left ks i h = simp (drop-map, length-map, length-drop) (omega arith)

-- in front of the members that are left stands a comma
pub key_end-more : (ks : List (SmallText × json.Scalar)) (i : ℕ) → i < length ks → key_end (drop i (members_view ks)) ≡ 44 ∷ []
key_end-more ks i h = some_end (drop i (members_view ks)) (length-left ks i h)

-- where no member is left, the closing brace stands
pub key_end-none : (ks : List (SmallText × json.Scalar)) (i : ℕ) → length ks ≤ i → key_end (drop i (members_view ks)) ≡ 125 ∷ []
key_end-none ks i h = ap key_end (drop-map (λ m. (text_bytes m.0, scalar_view m.1)) i ks ∙ ap members_view (drop_all i ks h))

-- ---- one member after another

-- the members behind the first, or all
abbrev pub keys_text : Bool → Members → List ℕ
keys_text later ms = compact_members later (key_members ms)

-- what follows a member's end
abbrev behind_end : Members → List ℕ
behind_end [] = []
behind_end (m ∷ ms) = quoted m.0 ++ 58 ∷ (scalar_text m.1 ++ keys_text true ms)

end-first : (ms : Members) → keys_text true ms ≡ key_end ms ++ behind_end ms
end-first [] = refl
end-first (m ∷ ms) = refl

end_of : Members → ℕ
end_of [] = 125
end_of (m ∷ ms) = 44

key_end-is : (ms : Members) → key_end ms ≡ end_of ms ∷ []
unfolding end_of
key_end-is [] = refl
key_end-is (m ∷ ms) = refl

end_of-is : (ms : Members) → is_end (end_of ms) ≡ true
unfolding end_of
end_of-is [] = refl
end_of-is (m ∷ ms) = refl

ends-words : (m n : Text × Scalar) (ms ns : Members) → AreWords (scalar_text m.1 ++ key_end ms) (scalar_text n.1 ++ key_end ns)
ends-words m n ms ns = rw (key_end-is ms, key_end-is ns) (scalar-words m.1 n.1 (end_of ms) (end_of ns) (end_of-is ms) (end_of-is ns))

colon-words : (a b : List ℕ) → AreWords a b → AreWords (58 ∷ a) (58 ∷ b)
colon-words a b h r s e = ap (λ w. 58 ∷ w) (h r s (tails 58 58 _ _ e))

-- where two members with what ends them begin one text, they are one
pub member-words : (m n : Text × Scalar) (ms ns : Members) → AreWords (member_text (m ∷ ms)) (member_text (n ∷ ns))
member-words m n ms ns =
    words-append (quoted m.0) (quoted n.0) (58 ∷ (scalar_text m.1 ++ key_end ms)) (58 ∷ (scalar_text n.1 ++ key_end ns)) (quoted-words m.0 n.0)
    (colon-words (scalar_text m.1 ++ key_end ms) (scalar_text n.1 ++ key_end ns) (ends-words m n ms ns))

whole-member : (m : Text × Scalar) (ms : Members) → quoted m.0 ++ 58 ∷ (scalar_text m.1 ++ keys_text true ms) ≡ member_text (m ∷ ms) ++ behind_end ms
whole-member m ms =
    ap (λ w. quoted m.0 ++ 58 ∷ w) (ap (λ w. scalar_text m.1 ++ w) (end-first ms) ∙ sym (append_assoc (scalar_text m.1) (key_end ms) (behind_end ms)))
    ∙ sym (append_assoc (quoted m.0) (58 ∷ (scalar_text m.1 ++ key_end ms)) (behind_end ms))

-- the first members decide, and those behind them after
members-parts : (m n : Text × Scalar) (ms ns : Members) → text_cmp (quoted m.0 ++ 58 ∷ (scalar_text m.1 ++ keys_text true ms))
    (quoted n.0 ++ 58 ∷ (scalar_text n.1 ++ keys_text true ns))
    ≡ ordering_then (text_cmp (member_text (m ∷ ms)) (member_text (n ∷ ns))) (text_cmp (behind_end ms) (behind_end ns))
members-parts m n ms ns = (λ i. text_cmp (whole-member m ms i) (whole-member n ns i))
    ∙ cmp-words (member_text (m ∷ ms)) (member_text (n ∷ ns)) (behind_end ms) (behind_end ns) (member-words m n ms ns)

-- ---- where the first members are one, so are their ends

last_of : ℕ → List ℕ → ℕ
last_of b [] = b
last_of b (c ∷ bs) = last_of c bs

last-append : (b : ℕ) (a : List ℕ) (e : ℕ) → last_of b (a ++ e ∷ []) ≡ e
unfolding last_of
last-append b [] e = refl
last-append b (c ∷ a) e = last-append c a e

last-member : (m : Text × Scalar) (ms : Members) → last_of 0 (member_text (m ∷ ms)) ≡ end_of ms
last-member m ms =
    ap (last_of 0) (ap (λ w. quoted m.0 ++ 58 ∷ (scalar_text m.1 ++ w)) (key_end-is ms)
    ∙ sym (append_assoc (quoted m.0) (58 ∷ scalar_text m.1) (end_of ms ∷ [])))
    ∙ last-append 0 (quoted m.0 ++ 58 ∷ scalar_text m.1) (end_of ms)

-- behind equal ends the rest decides alike with or without them
rest-alike : (ms ns : Members) → end_of ms ≡ end_of ns → text_cmp (behind_end ms) (behind_end ns) ≡ text_cmp (keys_text true ms) (keys_text true ns)
unfolding end_of
rest-alike [] [] e = refl
rest-alike [] (n ∷ ns) e = absurd (let wrong : 125 ≡ 44 = e in omega arith)
rest-alike (m ∷ ms) [] e = absurd (let wrong : 44 ≡ 125 = e in omega arith)
rest-alike (m ∷ ms) (n ∷ ns) e = refl

same-comma : (later : Bool) (m n : Text × Scalar) (ms ns : Members) → text_cmp (keys_text later (m ∷ ms)) (keys_text later (n ∷ ns))
    ≡ ordering_then (text_cmp (member_text (m ∷ ms)) (member_text (n ∷ ns))) (text_cmp (behind_end ms) (behind_end ns))
same-comma true m n ms ns = members-parts m n ms ns
same-comma false m n ms ns = members-parts m n ms ns

-- where the first members are one, those behind them decide
pub keys-same : (later : Bool) (m n : Text × Scalar) (ms ns : Members) → text_cmp (member_text (m ∷ ms)) (member_text (n ∷ ns)) ≡ Equal
    → text_cmp (keys_text later (m ∷ ms)) (keys_text later (n ∷ ns)) ≡ text_cmp (keys_text true ms) (keys_text true ns)
keys-same later m n ms ns e =
    let ends : end_of ms ≡ end_of ns = sym (last-member m ms) ∙ ap (last_of 0) (tied (member_text (m ∷ ms)) (member_text (n ∷ ns)) e) ∙ last-member n ns in
    same-comma later m n ms ns ∙ ap (λ o. ordering_then o (text_cmp (behind_end ms) (behind_end ns))) e ∙ rest-alike ms ns ends

not_tied : (o q : Ordering) → is_ne o ≡ true → ordering_then o q ≡ o
not_tied Less q h = refl
not_tied Equal q h = absurd (true≢false (sym h))
not_tied Greater q h = refl

-- where the first members differ, they decide
pub keys-differ : (later : Bool) (m n : Text × Scalar) (ms ns : Members) → is_ne (text_cmp (member_text (m ∷ ms)) (member_text (n ∷ ns))) ≡ true
    → text_cmp (keys_text later (m ∷ ms)) (keys_text later (n ∷ ns)) ≡ text_cmp (member_text (m ∷ ms)) (member_text (n ∷ ns))
keys-differ later m n ms ns h = same-comma later m n ms ns ∙ not_tied _ _ h

above : (a b : ℕ) → b < a → nat_cmp a b ≡ Greater
above a b h = grind (arith, nat_tests)

below : (a b : ℕ) → a < b → nat_cmp a b ≡ Less
below a b h = grind (arith, nat_tests)

-- where one list has ended, the longer stands in front
pub keys-ended : (later : Bool) (ms ns : Members) → (ms ≡ []) ⊎ (ns ≡ []) → text_cmp (keys_text later ms) (keys_text later ns) ≡ nat_cmp (length ns) (length ms)
keys-ended later [] [] h = refl
keys-ended true [] (n ∷ ns) h = sym (above (length (n ∷ ns)) 0 (omega arith))
keys-ended false [] (n ∷ ns) h = sym (above (length (n ∷ ns)) 0 (omega arith))
keys-ended true (m ∷ ms) [] h = sym (below 0 (length (m ∷ ms)) (omega arith))
keys-ended false (m ∷ ms) [] h = sym (below 0 (length (m ∷ ms)) (omega arith))
keys-ended later (m ∷ ms) (n ∷ ns) (inl e) = cc
keys-ended later (m ∷ ms) (n ∷ ns) (inr e) = cc

-- ---- a loop over both lists

-- the members from i on decide
pub record IsDecidedBehind (ms ns : Members) (i : ℕ) : Type 0 where
  -- the place is not behind the end of the first list
  pub own : i ≤ length ms
  -- the place is not behind the end of the second list
  pub others : i ≤ length ns
  -- the whole texts compare as those from the place on
  pub same : text_cmp (keys_text false ms) (keys_text false ns) ≡ text_cmp (keys_text (nat_lt 0 i) (drop i ms)) (keys_text (nat_lt 0 i) (drop i ns))

-- from the first member on, all decide
pub decided-none : (ms ns : Members) → IsDecidedBehind ms ns 0
decided-none ms ns = record { own = omega arith; others = omega arith; same = refl }

heads-same : (later : Bool) (ms ns : Members) → 0 < length ms → 0 < length ns → text_cmp (member_text ms) (member_text ns) ≡ Equal
    → text_cmp (keys_text later ms) (keys_text later ns) ≡ text_cmp (keys_text true (drop 1 ms)) (keys_text true (drop 1 ns))
heads-same later [] ns g h e = absurd (omega arith)
heads-same later (m ∷ ms) [] g h e = absurd (omega arith)
heads-same later (m ∷ ms) (n ∷ ns) g h e = keys-same later m n ms ns e

heads-differ : (later : Bool) (ms ns : Members) → 0 < length ms → 0 < length ns → is_ne (text_cmp (member_text ms) (member_text ns)) ≡ true
    → text_cmp (keys_text later ms) (keys_text later ns) ≡ text_cmp (member_text ms) (member_text ns)
heads-differ later [] ns g h e = absurd (omega arith)
heads-differ later (m ∷ ms) [] g h e = absurd (omega arith)
heads-differ later (m ∷ ms) (n ∷ ns) g h e = keys-differ later m n ms ns e

left : (ms : Members) (i : ℕ) → i < length ms → 0 < length (drop i ms)
left ms i h = simp length-drop (omega arith)

not_ne : (o : Ordering) → is_ne o ≡ false → o ≡ Equal
not_ne Less e = absurd (true≢false e)
not_ne Equal e = refl
not_ne Greater e = absurd (true≢false e)

-- where the members at the place are one, those behind it decide
pub decided-more : (ms ns : Members) (i : ℕ) → i < length ms → i < length ns → is_ne (text_cmp (member_text (drop i ms)) (member_text (drop i ns))) ≡ false
    → IsDecidedBehind ms ns i → IsDecidedBehind ms ns (i + 1)
decided-more ms ns i g h e d =
    let later : nat_lt 0 (i + 1) ≡ true = grind (arith, nat_tests) in
    record {
      own = omega arith;
      others = omega arith;
      same = d.same ∙ heads-same (nat_lt 0 i) (drop i ms) (drop i ns) (left ms i g) (left ns i h) (not_ne _ e)
          ∙ (λ j. text_cmp (keys_text (sym later j) (drop-drop 1 i ms j)) (keys_text (sym later j) (drop-drop 1 i ns j)));
    }

-- where the members at the place differ, they decide
pub decided-here : (ms ns : Members) (i : ℕ) → i < length ms → i < length ns → is_ne (text_cmp (member_text (drop i ms)) (member_text (drop i ns))) ≡ true
    → IsDecidedBehind ms ns i → text_cmp (keys_text false ms) (keys_text false ns) ≡ text_cmp (member_text (drop i ms)) (member_text (drop i ns))
decided-here ms ns i g h e d = d.same ∙ heads-differ (nat_lt 0 i) (drop i ms) (drop i ns) (left ms i g) (left ns i h) e

nat_cmp-less : (a b i : ℕ) → i ≤ a → i ≤ b → nat_cmp (a - i) (b - i) ≡ nat_cmp a b
nat_cmp-less a b i g h = grind (arith, nat_tests)

-- where one list has ended at the place, the longer stands in front
pub decided-all : (ms ns : Members) (i : ℕ) → (length ms ≤ i) ⊎ (length ns ≤ i) → IsDecidedBehind ms ns i
    → text_cmp (keys_text false ms) (keys_text false ns) ≡ nat_cmp (length ns) (length ms)
decided-all ms ns i past d =
    d.same ∙ keys-ended (nat_lt 0 i) (drop i ms) (drop i ns) (⊎_elim (λ h. inl (drop_all i ms h)) (λ h. inr (drop_all i ns h)) past)
    ∙ (λ j. nat_cmp (length-drop i ns j) (length-drop i ms j)) ∙ nat_cmp-less (length ns) (length ms) i d.others d.own

-- ---- a member by its parts

-- the names decide, and then the values with what ends them
pub member-parts : (m n : Text × Scalar) (ms ns : Members) → text_cmp (member_text (m ∷ ms)) (member_text (n ∷ ns))
    ≡ ordering_then (text_cmp (quoted m.0) (quoted n.0)) (text_cmp (scalar_text m.1 ++ key_end ms) (scalar_text n.1 ++ key_end ns))
member-parts m n ms ns = quoted-cmp m.0 n.0 (58 ∷ (scalar_text m.1 ++ key_end ms)) (58 ∷ (scalar_text n.1 ++ key_end ns))

-- what is left at a place is the member there, and then what is left behind it
pub member-at : (ks : List (SmallText × json.Scalar)) (i : ℕ) (k : SmallText × json.Scalar) → i < length ks → k ≡ get_or ks i k
    → drop i (members_view ks) ≡ (text_bytes k.0, scalar_view k.1) ∷ drop (i + 1) (members_view ks)
member-at ks i k h is =
    let view : SmallText × json.Scalar → Text × Scalar = λ m. (text_bytes m.0, scalar_view m.1) in
    drop-map view i ks ∙ ap members_view (drop_more ks i k h) ∙ (λ j. (text_bytes (sym is j).0, scalar_view (sym is j).1) ∷ sym (drop-map view (i + 1) ks) j)

-- at a place of both lists the names decide, and then the values with what ends them
pub members-at : (ks ls : List (SmallText × json.Scalar)) (i : ℕ) (k l : SmallText × json.Scalar) → i < length ks → i < length ls → k ≡ get_or ks i k
    → l ≡ get_or ls i l
    → text_cmp (member_text (drop i (members_view ks))) (member_text (drop i (members_view ls)))
    ≡ ordering_then (text_cmp (quoted (text_bytes k.0)) (quoted (text_bytes l.0)))
    (text_cmp (scalar_text (scalar_view k.1) ++ key_end (drop (i + 1) (members_view ks)))
    (scalar_text (scalar_view l.1) ++ key_end (drop (i + 1) (members_view ls))))
members-at ks ls i k l g h is_k is_l =
    (λ j. text_cmp (member_text (member-at ks i k g is_k j)) (member_text (member-at ls i l h is_l j)))
    ∙ member-parts (text_bytes k.0, scalar_view k.1) (text_bytes l.0, scalar_view l.1) (drop (i + 1) (members_view ks)) (drop (i + 1) (members_view ls))

-- what is decided stays so, whatever follows
pub then_found : (o q : Ordering) → (o ≡ Equal → ⊥) → o ≡ ordering_then o q
then_found Less q h = refl
then_found Equal q h = absurd (h refl)
then_found Greater q h = refl

-- there are as many members as the program holds
pub length-members : (ks : List (SmallText × json.Scalar)) → length (members_view ks) ≡ length ks
length-members ks = length-map ks (λ m. (text_bytes m.0, scalar_view m.1))
