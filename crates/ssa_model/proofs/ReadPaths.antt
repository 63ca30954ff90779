-- Whether the paths of a body are read from their texts, by a test of its entries.
use Rattle.std.proofs.Common.{◌≡◌, List, [], ◌∷◌, Bool, true, ◌&&◌, refl, sym, ap, ◌∙◌, subst, true≢false}
use Rattle.std.specs.Prelude.{is_ok, Result, Ok, Err}
use Rattle.std.specs.Cmp.{first_so, second_so}
use Rattle.std.specs.List.{list_all, AllByRecursion}
use Rattle.ssa_model.specs.definitions.Path.{Element, Path, element_text, same_path}
use Rattle.ssa_model.specs.definitions.PathMap.{paths}
use Rattle.ssa_model.specs.definitions.Body.{Body}
use Rattle.ssa_model.specs.definitions.Readings.{Readings}
use Rattle.ssa_model.specs.definitions.ElementTexts.{ElementFault, element_of}
use Rattle.ssa_model.specs.definitions.RecordReading.{IsReadPath, HasReadPaths, has_read_paths}
use Rattle.ssa_model.proofs.PathMaps.{is_one_of, has-paths, same_path-true, same_path-itself}
use Rattle.ssa_model.proofs.SaidSets.{own-text}
use Rattle.ssa_model.proofs.ShownItems.{each-among}
use Rattle.ssa_model.proofs.Tables.{either}
use Rattle.ssa_model.proofs.Texts.{element_text-injective}

-- what holds of each path of a list holds of one that is among them
one-of : (P : Path → Type 0) (ps : List Path) → AllByRecursion P ps → (p : Path) → is_one_of ps p ≡ true → P p
one-of P [] h p one = absurd (true≢false (sym one))
one-of P (q ∷ ps) h p one = either (same_path p q) (is_one_of ps p) one (λ t. subst P (sym (same_path-true p q t)) h.0) (λ later. one-of P ps h.1 p later)

-- where each path in a body's list is read from its texts, each path that the body has is
pub read-paths-of : (readings : Readings) (b : Body) → AllByRecursion (IsReadPath readings) (paths b) → HasReadPaths readings b
read-paths-of readings b h p one = one-of (IsReadPath readings) (paths b) h p (sym (has-paths b p) ∙ one)

module _ (readings : Readings) where
  abbrev is_read : Element → Bool
  is_read e = is_ok (element_of readings.value (element_text e))

  -- an element whose text is read is the one that is read from it
  read-itself : (e : Element) → is_read e ≡ true → element_of readings.value (element_text e) ≡ Ok e
  read-itself e h = by (element_of readings.value (element_text e)) refl h
    where
      by : (r : Result Element ElementFault) → element_of readings.value (element_text e) ≡ r → is_ok r ≡ true → r ≡ Ok e
      by (Ok d) is h = ap Ok (element_text-injective d e (own-text readings.value (element_text e) d is))
      by (Err f) is h = absurd (true≢false (sym h))

  path-by : (p : Path) → list_all is_read p ≡ true → IsReadPath readings p
  path-by [] h = tt
  path-by (e ∷ p) h = (read-itself e (first_so (is_read e) _ h), path-by p (second_so (is_read e) _ h))

  path-of : (p : Path) → IsReadPath readings p → list_all is_read p ≡ true
  path-of [] h = refl
  path-of (e ∷ p) h = λ i. is_ok (h.0 i) && path-of p h.1 i

  each-by : (ps : List Path) → list_all (list_all is_read) ps ≡ true → AllByRecursion (IsReadPath readings) ps
  each-by [] h = tt
  each-by (p ∷ ps) h = (path-by p (first_so (list_all is_read p) _ h), each-by ps (second_so (list_all is_read p) _ h))

  each-of : (ps : List Path) → AllByRecursion (IsReadPath readings) ps → list_all (list_all is_read) ps ≡ true
  each-of [] h = refl
  each-of (p ∷ ps) h = λ i. path-of p h.0 i && each-of ps h.1 i

  -- the test is right
  pub read-paths-by : (b : Body) → has_read_paths readings b ≡ true → HasReadPaths readings b
  read-paths-by b h = read-paths-of readings b (each-by (paths b) h)

  -- where the paths of a body are read from their texts, the test passes
  pub read-paths-test : (b : Body) → HasReadPaths readings b → has_read_paths readings b ≡ true
  read-paths-test b h = each-of (paths b) (each-among same_path same_path-itself (IsReadPath readings) (paths b) (λ p one. h p (has-paths b p ∙ one)))
