-- Elements whose texts begin alike stand as the texts behind that.
use Rattle.std.proofs.Common.{◌≡◌, ℕ, ◌+◌, ◌<◌, ◌≤◌, List, [], ◌∷◌, ◌++◌, take, length, get_or, codes, true, false, Option, Some, None, Less, refl, sym, ap, subst, ◌∙◌, append_assoc, append-nil, arith}
use Rattle.std.specs.Ordering.{ordering_then}
use Rattle.std.specs.List.{All}
use Rattle.std.proofs.lemmas.List.Elements.{All-more, All-weaker}
use Rattle.std.specs.Prelude.{if◌then◌else◌}
use Rattle.std.proofs.lemmas.List.{length-take, length-take-le, take-take}
use Rattle.std.specs.Cmp.{tied_itself}
use Rattle.std.specs.Cmp.Lexicographic.{nat_list_cmp_total}
use Rattle.ssa_model.specs.definitions.Json.{Text, Scalar, text, whole, truth, quoted, same_text, compact_members}
use Rattle.ssa_model.specs.definitions.Path.{Element, field, key, value, element_text, element_cmp, key_members}
use Rattle.ssa_model.proofs.Basics.{some-same}
use Rattle.ssa_model.proofs.Tables.{same_text-true}
use Rattle.ssa_path.specs.Keys.{Members}
use Rattle.ssa_path.specs.Order.{BeginAlike}
use Rattle.ssa_path.specs.View.{element_view}
use Rattle.ssa_path.specs.declared.element.Elem.{Elem}
use Rattle.ssa_path.specs.SortKeys.{AreBytes, text_in, leading_key, leading_text, BeginsWith, IsShared, sort_key, text_key, element_key}
use Rattle.ssa_path.proofs.Parts.{text_cmp, cmp-words}
use Rattle.ssa_path.proofs.Numbers.{quoted-cmp}
use Rattle.ssa_path.proofs.SortKeys.{sort_key-decides}

-- ---- what stands in front of a leading text

-- the element's text is this lead, the text in quotes and something behind it
record Leads (lead : Text) (t : Text) (e : Element) : Type 0 where
  behind : Text
  is : element_text e ≡ lead ++ (quoted t ++ behind)

-- what elements like this one have in front of their leading texts
abbrev lead_of : Element → Text
lead_of (field n) = []
lead_of (key []) = []
lead_of (key (k ∷ ks)) = codes "k:{" ++ (quoted k.0 ++ 58 ∷ [])
lead_of (value s) = codes "v:"

nothing : {P : Type 0} (t : Text) → ◌≡◌ {A = Option Text} None (Some t) → P
nothing t e = absurd (none≢some e)
  where
    none≢some : ◌≡◌ {A = Option Text} None (Some t) → ⊥
    none≢some e = cc

text-leads : (lead behind : Text) (s : Scalar) (e : Element) (t : Text) → ((u : Text) → s ≡ text u → element_text e ≡ lead ++ (quoted u ++ behind))
    → text_in s ≡ Some t → Leads lead t e
text-leads lead behind (text u) e t is h = record {
  behind = behind;
  is = subst (λ x. element_text e ≡ lead ++ (quoted x ++ behind)) (some-same u t h) (is u refl);
}
text-leads lead behind (whole z) e t is h = nothing t h
text-leads lead behind (truth b) e t is h = nothing t h

-- the text of key fields, where the name and the text of the first are these
key-text : (k l : Text × Scalar) (ls : Members) (u : Text) → k.0 ≡ l.0 → l.1 ≡ text u
    → element_text (key (l ∷ ls)) ≡ lead_of (key (k ∷ [])) ++ (quoted u ++ compact_members true (key_members ls))
key-text k l ls u name is =
    let behind = compact_members true (key_members ls) in
    ap (λ s. element_text (key ((l.0, s) ∷ ls))) is
    ∙ ap (λ n. codes "k:{" ++ (quoted n ++ 58 ∷ (quoted u ++ behind))) (sym name)
    ∙ ap (λ w. codes "k:{" ++ w) (sym (append_assoc (quoted k.0) (58 ∷ []) (quoted u ++ behind)))

key-leads : (ks ls : Members) (t : Text) → leading_key ks ls ≡ Some t → Leads (lead_of (key ks)) t (key ls)
key-leads [] ls t h = nothing t h
key-leads (k ∷ ks) [] t h = nothing t h
key-leads (k ∷ ks) (l ∷ ls) t h =
    elim (same_text k.0 l.0) as (λ b. same_text k.0 l.0 ≡ b → (if b then text_in l.1 else None) ≡ Some t → Leads (lead_of (key (k ∷ ks))) t (key (l ∷ ls))) [
      | true ↦ λ same is. text-leads (lead_of (key (k ∷ ks))) (compact_members true (key_members ls)) l.1 (key (l ∷ ls)) t
          (λ u of. key-text k l ls u (same_text-true k.0 l.0 same) of) is
      | false ↦ λ other is. nothing t is
    ] refl h

leads-of : (first e : Element) (t : Text) → leading_text first e ≡ Some t → Leads (lead_of first) t e
leads-of (value s) (value r) t h =
    text-leads (codes "v:") [] r (value r) t (λ u is. ap (λ x. element_text (value x)) is ∙ ap (λ w. codes "v:" ++ w) (sym (append-nil (quoted u)))) h
leads-of (key ks) (key ls) t h = key-leads ks ls t h
leads-of (value s) (key ls) t h = nothing t h
leads-of (value s) (field n) t h = nothing t h
leads-of (key ks) (value s) t h = nothing t h
leads-of (key ks) (field n) t h = nothing t h
leads-of (field n) e t h = nothing t h

-- elements stand as their leading texts
leading-decides : (first e f : Element) (t u : Text) → leading_text first e ≡ Some t → leading_text first f ≡ Some u → text_cmp (quoted t) (quoted u) ≡ Less
    → element_cmp e f ≡ Less
leading-decides first e f t u own others less =
    let g = leads-of first e t own in
    let h = leads-of first f u others in
    let lead = lead_of first in
    let a = quoted t ++ g.behind in
    let b = quoted u ++ h.behind in
    (λ i. text_cmp (g.is i) (h.is i))
    ∙ cmp-words lead lead a b (λ r s e. refl) ∙ ap (λ o. ordering_then o (text_cmp a b)) (tied_itself nat_list_cmp_total lead)
    ∙ quoted-cmp t u g.behind h.behind ∙ ap (λ o. ordering_then o (text_cmp g.behind h.behind)) less

-- ---- elements whose leading texts begin alike

taken-long : (n : ℕ) (t start : Text) → take n t ≡ start → n ≡ length start → n ≤ length t
taken-long n t start e is =
    let long = length-take n t in
    let same = ap length e in
    omega arith

-- the element with the lesser number stands first
pub element_key-decides : (first e f : Element) (start : Text) → BeginsWith start first e → BeginsWith start first f
    → element_key first (length start) e < element_key first (length start) f → element_cmp e f ≡ Less
element_key-decides first e f start g h lt =
    let n = length start in
    leading-decides first e f g.all h.all g.leads h.leads
    (sort_key-decides g.all h.all n
    (record { own = taken-long n g.all start g.same refl; others = taken-long n h.all start h.same refl; same = g.same ∙ sym h.same })
    g.bytes h.bytes
    (subst (λ o. text_key n o < sort_key n h.all) g.leads (subst (λ o. element_key first n e < text_key n o) h.leads lt)))

-- a leading text begins with what it shares with other bytes
pub shares : (first e : Element) (start t : Text) (n : ℕ) → leading_text first e ≡ Some t → AreBytes t → BeginAlike start t n
    → IsShared start first e (take n start)
shares first e start t n leads bytes alike = record {
  count = n;
  within = alike.own;
  is = refl;
  begins = record {
    all = t;
    leads = leads;
    same = ap (λ m. take m t) (length-take-le n start alike.own) ∙ sym alike.same;
    bytes = bytes;
  };
}

begins-shorter : (first e : Element) (start : Text) (n : ℕ) → n ≤ length start → BeginsWith start first e → BeginsWith (take n start) first e
begins-shorter first e start n within h = record {
  all = h.all;
  leads = h.leads;
  same = ap (λ m. take m h.all) (length-take-le n start within) ∙ sym (take-take n (length start) h.all within) ∙ ap (take n) h.same;
  bytes = h.bytes;
}

-- where one child more begins so, all so far begin with what is left of the bytes
pub begins-more : {A : Type 0} (first : Element) (cs : List (Elem × A)) (i : ℕ) (c : Elem × A) (start shared : Text) → i < length cs → c ≡ get_or cs i c
    → All (λ d. BeginsWith start first (element_view d.0)) (take i cs) → IsShared start first (element_view c.0) shared
    → All (λ d. BeginsWith shared first (element_view d.0)) (take (i + 1) cs)
begins-more {A = A} first cs i c start shared lt is all h =
    let shorter = λ (d : Elem × A) (b : BeginsWith start first (element_view d.0)).
    subst (λ s. BeginsWith s first (element_view d.0)) (sym h.is) (begins-shorter first (element_view d.0) start h.count h.within b) in
    let begins = λ (s : Text) (d : Elem × A). BeginsWith s first (element_view d.0) in
    All-more (begins shared) cs i c lt (All-weaker (begins start) (begins shared) shorter (take i cs) all) (subst (begins shared) is h.begins)
