-- References to the children of a node, in the order of their elements.
use Rattle.std.proofs.Common.{◌≡◌, ℕ, zero, suc, ◌+◌, ◌<◌, inl, inr, List, [], ◌∷◌, length, get_or, drop, true, Some, refl, sym, ap, ◌∙◌, arith, Bor}
use Rattle.std.specs.Prelude.{slice_get}
use Rattle.std.proofs.lemmas.Option.{get_or_from_slice_get, slice_get_cases, slice_get_read}
use Rattle.ssa_model.specs.definitions.Path.{same_element}
use Rattle.ssa_path.specs.Children.{child_at, elements, rises}
use Rattle.ssa_path.specs.declared.element.Elem.{Elem}
use Rattle.ssa_path.specs.View.{element_view}
use Rattle.ssa_path.proofs.Lists.{left-at}
use Rattle.ssa_path.proofs.Searching.{child-found}
use Rattle.ssa_typed.specs.InOrder.{referred, IsInOrder}
use Rattle.ssa_typed.specs.declared.node.Node.{Node}
use Rattle.ssa_model.proofs.Basics.{some≢none as some-none}
use Rattle.ssa_model.proofs.Tables.{element-itself as same_element-itself}

-- a child that is lent
abbrev pub Reference : Type 0
Reference = Bor (Elem × Node)

-- there are as many children as references
pub length-referred : (rs : List Reference) → length (referred rs) ≡ length rs
length-referred [] = refl
length-referred (r ∷ rs) = ap suc (length-referred rs)

get-referred : (rs : List Reference) (i : ℕ) (r : Reference) → i < length rs → r ≡ get_or rs i r → get_or (referred rs) i r.now ≡ r.now
get-referred [] i r lt is = absurd (omega arith)
get-referred (x ∷ rs) zero r lt is = ap (λ (y : Reference). y.now) (sym is)
get-referred (x ∷ rs) (suc i) r lt is = get-referred rs i r (omega arith) is

-- the child that a reference refers to stands at the reference's place
pub get-reference : (rs : List Reference) (i : ℕ) (r : Reference) → i < length (referred rs) → r ≡ get_or rs i r → slice_get (referred rs) i ≡ Some r.now
get-reference rs i r lt is =
    slice_get_read (referred rs) (length (referred rs)) i r.now refl lt (sym (get-referred rs i r (simp length-referred at lt) is))

-- ---- children that are read

-- what is read stands within the list
pub read-within : {A : Type 0} (xs : List A) (i : ℕ) (x : A) → slice_get xs i ≡ Some x → i < length xs
read-within xs i x is = elim (slice_get_cases xs i).1 [
  | inl w ↦ w.1
  | inr w ↦ absurd (some-none x (sym is ∙ w.1))
]

-- what is read is what stands at the index
pub read-at : {A : Type 0} (xs : List A) (i : ℕ) (x : A) → slice_get xs i ≡ Some x → x ≡ get_or xs i x
read-at xs i x is = sym (get_or_from_slice_get xs i x x is)

-- what is left begins with the value that is read
pub left-read : {A : Type 0} (xs : List A) (i : ℕ) (x : A) → slice_get xs i ≡ Some x → drop i xs ≡ x ∷ drop (i + 1) xs
left-read xs i x is = left-at xs i x (read-within xs i x is) (read-at xs i x is)

-- each of the children in order is the child of its element
pub child-read : (cs ds : List (Elem × Node)) (i : ℕ) (d : Elem × Node) → slice_get ds i ≡ Some d → IsInOrder cs ds → child_at (element_view d.0) cs ≡ Some d.1
child-read cs ds i d is h =
    let e = element_view d.0 in
    let there = get_or_from_slice_get ds i d d is in
    let same = ap (λ (x : Elem × Node). same_element e (element_view x.0)) there ∙ same_element-itself e in
    sym (h.same e) ∙ child-found e ds i d h.rise (read-within ds i d is) same ∙ ap (λ (x : Elem × Node). Some x.1) there

-- children that stand in the order of their elements, lent where they stand
pub standing-order : (cs ds lent : List (Elem × Node)) → cs ≡ ds → lent ≡ ds → rises (elements ds) ≡ true → IsInOrder cs lent
standing-order cs ds lent is lent_is rise = record {
  rise = ap (λ l. rises (elements l)) lent_is ∙ rise;
  same = λ e. ap (child_at e) (lent_is ∙ sym is);
}
