-- The items of a list as far as they are read: those that stay, and those that are put.
use Rattle.std.proofs.Common.{◌≡◌, ℕ, ◌+◌, ◌<◌, List, [], ◌∷◌, ◌++◌, length, get_or, take, drop, Bool, true, false, Option, sym, ap, ◌∙◌, append-nil}
use Rattle.std.proofs.lemmas.List.{map-append, take_more}
use Rattle.std.proofs.lemmas.List.Elements.{filter-append}
use Rattle.std.specs.Borrow.{Bor}
use Rattle.std.specs.Option.{option_map}
use Rattle.std.specs.Prelude.{filter}
use Rattle.ssa_model.specs.definitions.Path.{Element}
use Rattle.ssa_model.proofs.Tests.{filter-kept, filter-dropped}
use Rattle.ssa_path.specs.Children.{elements}
use Rattle.ssa_path.specs.View.{element_view}
use Rattle.ssa_path.specs.declared.element.Elem.{Elem}
use Rattle.ssa_path.proofs.Lists.{elements-append}
use Rattle.ssa_record.specs.Refilled.{lent_elements, lent_puts, puts_told}

-- ---- those that stay

module _ {A : Type 0} where
  next : (cs : List (Elem × A)) (i : ℕ) (c : Elem × A) → i < length cs → c ≡ get_or cs i c
      → elements (take (i + 1) cs) ≡ elements (take i cs) ++ element_view c.0 ∷ []
  next cs i c lt is = ap elements (take_more cs i c lt ∙ ap (λ x. take i cs ++ x ∷ []) (sym is)) ∙ elements-append (take i cs) (c ∷ [])

  module _ (test : Element → Bool) (cs : List (Elem × A)) (i : ℕ) (c : Elem × A) (lt : i < length cs) (is : c ≡ get_or cs i c) where
    all-next : filter test (elements (take (i + 1) cs)) ≡ filter test (elements (take i cs)) ++ filter test (element_view c.0 ∷ [])
    all-next = ap (filter test) (next cs i c lt is) ∙ filter-append test (elements (take i cs)) (element_view c.0 ∷ [])

    -- one that passes is lent behind those before it
    pub stays-more : (b : Bor Elem) (bs ds : List (Bor Elem)) → b.now ≡ c.0 → test (element_view c.0) ≡ true
        → lent_elements bs ≡ filter test (elements (take i cs)) → ds ≡ bs ++ b ∷ []
        → lent_elements ds ≡ filter test (elements (take (i + 1) cs))
    stays-more b bs ds now t h more =
        ap lent_elements more ∙ map-append (λ (x : Bor Elem). element_view x.now) bs (b ∷ []) ∙ (λ k. h k ++ element_view (now k) ∷ [])
        ∙ sym (all-next ∙ ap (λ l. filter test (elements (take i cs)) ++ l) (filter-kept test (element_view c.0) [] t))

    -- one that doesn't is left out
    pub stays-same : (bs : List (Bor Elem)) → test (element_view c.0) ≡ false → lent_elements bs ≡ filter test (elements (take i cs))
        → lent_elements bs ≡ filter test (elements (take (i + 1) cs))
    stays-same bs f h =
        let before = filter test (elements (take i cs)) in
        h ∙ sym (all-next ∙ ap (λ l. before ++ l) (filter-dropped test (element_view c.0) [] f) ∙ append-nil before)

-- ---- those that are put

module _ {A : Type 0} (at : Element → Option (Option ℕ)) where
  -- what is read of the puts, where the children from i on are left
  abbrev pub IsPutTo : List (Elem × A) → ℕ → List (ℕ × Bor Elem) → Type 0
  IsPutTo cs i ps = puts_told at (elements cs) ≡ option_map (λ l. lent_puts ps ++ l) (puts_told at (elements (drop i cs)))
