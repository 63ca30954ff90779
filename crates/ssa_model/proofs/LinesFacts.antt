-- Laws of the lines of some bytes.
use Rattle.std.proofs.Common.{◌≡◌, ◌≢◌, ℕ, ◌+◌, ◌<◌, List, [], ◌∷◌, ◌++◌, length, get_or, take, cond, eqb, true, false, refl, ap, sym, ◌∙◌, subst, eqb-true}
use Rattle.std.proofs.lemmas.List.{take_more, append-nil, append_assoc}
use Rattle.ssa_model.specs.definitions.Lines.{line_feed, split_lines, with_first, whole_lines, unfinished_line, ended, HasNoLineFeed}

-- where neither of two texts has a line feed, nor do both in a row
pub HasNoLineFeed-append : (xs ys : List ℕ) → HasNoLineFeed xs → HasNoLineFeed ys → HasNoLineFeed (xs ++ ys)
HasNoLineFeed-append [] ys p q = q
HasNoLineFeed-append (x ∷ xs) ys p q = (p.0, HasNoLineFeed-append xs ys p.1 q)

-- a beginning without a line feed has none with one byte more, where this byte is none
pub HasNoLineFeed-take_more : (xs : List ℕ) (i : ℕ) → i < length xs → HasNoLineFeed (take i xs) → get_or xs i 0 ≢ line_feed → HasNoLineFeed (take (i + 1) xs)
HasNoLineFeed-take_more xs i within before here =
    subst HasNoLineFeed (sym (take_more xs i 0 within)) (HasNoLineFeed-append (take i xs) (get_or xs i 0 ∷ []) before (here, tt))

-- the lines of some bytes, and then of others: the unfinished line goes on in the first of the others
joined : List (List ℕ) → List ℕ → List (List ℕ) → List ℕ → List (List ℕ) × List ℕ
joined ls r [] r2 = (ls, r ++ r2)
joined ls r (l ∷ ls2) r2 = (ls ++ (r ++ l) ∷ ls2, r2)

joined-nil : (ls2 : List (List ℕ)) (r2 : List ℕ) → joined [] [] ls2 r2 ≡ (ls2, r2)
unfolding joined
joined-nil [] r2 = refl
joined-nil (l ∷ ls2) r2 = refl

joined-line : (ls : List (List ℕ)) (r : List ℕ) (ls2 : List (List ℕ)) (r2 : List ℕ)
    → ([] ∷ (joined ls r ls2 r2).0, (joined ls r ls2 r2).1) ≡ joined ([] ∷ ls) r ls2 r2
unfolding joined
joined-line ls r [] r2 = refl
joined-line ls r (l ∷ ls2) r2 = refl

joined-first : (x : ℕ) (ls : List (List ℕ)) (r : List ℕ) (ls2 : List (List ℕ)) (r2 : List ℕ)
    → with_first x (joined ls r ls2 r2).0 (joined ls r ls2 r2).1 ≡ joined (with_first x ls r).0 (with_first x ls r).1 ls2 r2
unfolding joined
joined-first x [] r [] r2 = refl
joined-first x [] r (l ∷ ls2) r2 = refl
joined-first x (k ∷ ls) r [] r2 = refl
joined-first x (k ∷ ls) r (l ∷ ls2) r2 = refl

split_lines-append : (a b : List ℕ) → split_lines (a ++ b) ≡ joined (whole_lines a) (unfinished_line a) (whole_lines b) (unfinished_line b)
unfolding split_lines
split_lines-append [] b = sym (joined-nil (whole_lines b) (unfinished_line b))
split_lines-append (x ∷ xs) b =
    let again = split_lines-append xs b in
    elim (eqb x line_feed) as (λ t. cond t (
      [] ∷ (split_lines (xs ++ b)).0,
      (split_lines (xs ++ b)).1,
    ) (with_first x (split_lines (xs ++ b)).0 (split_lines (xs ++ b)).1)
    ≡ joined (cond t ([] ∷ (split_lines xs).0, (split_lines xs).1) (with_first x (split_lines xs).0 (split_lines xs).1)).0
    (cond t ([] ∷ (split_lines xs).0, (split_lines xs).1) (with_first x (split_lines xs).0 (split_lines xs).1)).1 (whole_lines b) (unfinished_line b)) [
      | true ↦ ap (λ s. ([] ∷ s.0, s.1)) again ∙ joined-line (whole_lines xs) (unfinished_line xs) (whole_lines b) (unfinished_line b)
      | false ↦ ap (λ s. with_first x s.0 s.1) again ∙ joined-first x (whole_lines xs) (unfinished_line xs) (whole_lines b) (unfinished_line b)
    ]

eqb-of_other : (a b : ℕ) → a ≢ b → eqb a b ≡ false
eqb-of_other a b other = elim (eqb a b) as (λ t. (t ≡ true → a ≡ b) → t ≡ false) [ true ↦ λ f. absurd (other (f refl)) | false ↦ λ f. refl ] (eqb-true a b)

-- bytes without a line feed are an unfinished line alone
pub split_lines-plain : (text : List ℕ) → HasNoLineFeed text → split_lines text ≡ ([], text)
unfolding split_lines
split_lines-plain [] p = refl
split_lines-plain (x ∷ xs) p = rw (eqb-of_other x line_feed p.0, split_lines-plain xs p.1) refl

-- bytes whose last line is whole, and then an unfinished line
pub split_lines-unfinished : (bytes text : List ℕ) → unfinished_line bytes ≡ [] → HasNoLineFeed text → split_lines (bytes ++ text) ≡ (whole_lines bytes, text)
unfolding joined
split_lines-unfinished bytes text whole plain =
    split_lines-append bytes text ∙ ap (λ s. joined (whole_lines bytes) (unfinished_line bytes) s.0 s.1) (split_lines-plain text plain)
    ∙ ap (λ r. joined (whole_lines bytes) r [] text) whole

split_lines-line : (text : List ℕ) → HasNoLineFeed text → split_lines (text ++ line_feed ∷ []) ≡ (text ∷ [], [])
unfolding joined split_lines
split_lines-line text plain =
    split_lines-append text (line_feed ∷ []) ∙ ap (λ s. joined s.0 s.1 ([] ∷ []) []) (split_lines-plain text plain) ∙ ap (λ t. (t ∷ [], [])) (append-nil text)

-- bytes whose last line is whole, and then a whole line
pub split_lines-whole : (bytes text : List ℕ) → unfinished_line bytes ≡ [] → HasNoLineFeed text
    → split_lines (bytes ++ (text ++ line_feed ∷ [])) ≡ (whole_lines bytes ++ text ∷ [], [])
unfolding joined
split_lines-whole bytes text whole plain =
    split_lines-append bytes (text ++ line_feed ∷ []) ∙ ap (λ s. joined (whole_lines bytes) (unfinished_line bytes) s.0 s.1) (split_lines-line text plain)
    ∙ ap (λ r. joined (whole_lines bytes) r (text ∷ []) []) whole

-- ---- texts that are ended, and their lines

before-others : (text : List ℕ) (ls : List (List ℕ)) (r : List ℕ) → joined (text ∷ []) [] ls r ≡ (text ∷ ls, r)
unfolding joined
before-others text [] r = refl
before-others text (l ∷ ls) r = refl

-- a line, and then other bytes
pub split_lines-first : (text rest : List ℕ) → HasNoLineFeed text
    → split_lines ((text ++ line_feed ∷ []) ++ rest) ≡ (text ∷ whole_lines rest, unfinished_line rest)
split_lines-first text rest plain =
    split_lines-append (text ++ line_feed ∷ []) rest
    ∙ ap (λ s. joined s.0 s.1 (whole_lines rest) (unfinished_line rest)) (split_lines-line text plain)
    ∙ before-others text (whole_lines rest) (unfinished_line rest)

-- none of the texts has a line feed
abbrev pub HaveNoLineFeed : List (List ℕ) → Type 0
HaveNoLineFeed [] = Unit {0}
HaveNoLineFeed (text ∷ texts) = HasNoLineFeed text × HaveNoLineFeed texts

-- ended texts, and then other bytes
pub split_lines-after : (ts : List (List ℕ)) (rest : List ℕ) → HaveNoLineFeed ts
    → split_lines (ended ts ++ rest) ≡ (ts ++ whole_lines rest, unfinished_line rest)
split_lines-after [] rest plain = refl
split_lines-after (t ∷ ts) rest plain =
    ap split_lines (append_assoc (t ++ line_feed ∷ []) (ended ts) rest)
    ∙ split_lines-first t (ended ts ++ rest) plain.0
    ∙ ap (λ s. (t ∷ s.0, s.1)) (split_lines-after ts rest plain.1)

-- the lines of ended texts are the texts
pub split_lines-ended : (texts : List (List ℕ)) → HaveNoLineFeed texts → split_lines (ended texts) ≡ (texts, [])
unfolding split_lines
split_lines-ended texts plain =
    ap split_lines (sym (append-nil (ended texts))) ∙ split_lines-after texts [] plain ∙ ap (λ ls. (ls, [])) (append-nil texts)

ended-first : (x : ℕ) (ls : List (List ℕ)) (r : List ℕ) → ended (with_first x ls r).0 ++ (with_first x ls r).1 ≡ x ∷ (ended ls ++ r)
ended-first x [] r = refl
ended-first x (l ∷ ls) r = refl

-- some bytes are their lines, ended, and the unfinished line
pub ended-split_lines : (bytes : List ℕ) → ended (whole_lines bytes) ++ unfinished_line bytes ≡ bytes
unfolding split_lines
ended-split_lines [] = refl
ended-split_lines (x ∷ xs) =
    let again = ended-split_lines xs in
    elim (eqb x line_feed) as (λ t. eqb x line_feed ≡ t → joint
    (cond t ([] ∷ whole_lines xs, unfinished_line xs) (with_first x (whole_lines xs) (unfinished_line xs))) ≡ x ∷ xs) [
      | true ↦ λ t. ap (λ n. n ∷ (ended (whole_lines xs) ++ unfinished_line xs)) (sym (eqb-true x line_feed t)) ∙ ap (λ bs. x ∷ bs) again
      | false ↦ λ _. ended-first x (whole_lines xs) (unfinished_line xs) ∙ ap (λ bs. x ∷ bs) again
    ] refl
  where
    joint : List (List ℕ) × List ℕ → List ℕ
    joint s = ended s.0 ++ s.1
