-- Values under names as a list of pairs that holds the values: what a type needs that leads back to itself by such a list.
use Rattle.std.specs.Prelude.{◌≡◌, ℕ, max, List, [], ◌∷◌, map}
use Rattle.std.specs.Map.{keys_of, values_of}
use Rattle.ssa_members.specs.Members.{Name, name_row}
use base.Stored.{code_map, coded×, coded_list, gcons}
use denote.HoleLaws.{Alike}
use denote.HolePlaces.{Recodes, laid, stays, struct_places}
use denote.Hole.Carrier.{listed}
use denote.Param.Nested.{deepest}
use denote.Param.Weighed.{Weighed, most, none_max, List-puts, w_pair, w_const}
use denote.RattleType.{RattleType}
use denote.Struct.Tuple.{Tuple, tuple_type}
use mathlib.Core.Former.{Former, Count, Row, this, const, pair, list, list_count, list_put, children}
use mathlib.Core.Path.{refl, sym, ap, ◌∙◌}

-- a name beside a value
abbrev pub named : Former {0} → Former {0}
named g = pair (const Name) g

-- the pair, with h applied to its value
abbrev pub at_value : {X Y : Type 0} → (X → Y) → Name × X → Name × Y
at_value h p = (p.0, h p.1)

-- the deepest pair is that of the deepest value
most_of_values : {Y : Type 0} (f : Y → ℕ) (es : List (Name × Y)) → most (λ p. max 0 (f p.1)) es ≡ most f (values_of es)
most_of_values f [] = refl
most_of_values f (e ∷ es) = λ i. max (sym (none_max (f e.1)) i) (most_of_values f es i)

pub named_puts : {g : Former {0}} (w : Weighed g) (X : Type 0) (μ : X → ℕ) (es : List (Name × g.Of X)) (n : Count) (t : Row X n)
    → deepest μ (list_count (named g) (map ((named g).shape X) es) n) (list_put (named g) X es n t) ≡ max (most (w.weight X μ) (values_of es)) (deepest μ n t)
named_puts w X μ es n t = List-puts (w_pair (w_const Name) w) X μ es n t ∙ ap (λ a. max a (deepest μ n t)) (most_of_values (w.weight X μ) es)

pub values_are_listed : (X : Type 0) (es : List (Name × X)) → listed _ (children (list (named this)) X es) ≡ values_of es
values_are_listed X [] = refl
values_are_listed X (e ∷ es) = ap (λ l. e.1 ∷ l) (values_are_listed X es)

pub names_stay : {X Y : Type 0} (h : X → Y) (es : List (Name × X)) → keys_of (map (at_value h) es) ≡ keys_of es
names_stay h [] = refl
names_stay h (e ∷ es) = ap (λ l. e.0 ∷ l) (names_stay h es)

abbrev pub pair_row : RattleType → RattleType
pair_row R = Tuple (name_row ∷ R ∷ [])

module _ (R S : RattleType) (h : R.Denot → S.Denot) where
  pub pair_places : Alike R S h → Alike (pair_row R) (pair_row S) (at_value h)
  pair_places a = struct_places (tuple_type (name_row ∷ R ∷ [])) (tuple_type (name_row ∷ S ∷ [])) ((λ k. k), (h, tt)) (at_value h) (λ d. refl) refl (stays name_row, (laid R S h a, tt))

  pub named_recoded : Recodes R S h → (es : List (Name × R.Denot))
      → (coded_list (coded× name_row.coded S.coded)).code (map (at_value h) es) ≡ (coded_list (coded× name_row.coded R.coded)).code es
  named_recoded e es = sym (code_map (coded× name_row.coded R.coded).code (coded× name_row.coded S.coded).code (at_value h) (λ x i. gcons (name_row.coded.code x.0) (sym (e x.1) i)) es)
