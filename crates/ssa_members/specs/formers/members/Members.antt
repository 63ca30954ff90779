-- `Members` as a type that may hold the type that holds it, by its values.
use Rattle.ssa_members.specs.Members.{Members}
use Rattle.ssa_members.specs.Named.{named, at_value, named_puts, values_are_listed, names_stay, pair_row, pair_places, named_recoded}
use Rattle.ssa_members.specs.contracts.members.Members as contracts
use Rattle.ssa_members.specs.contracts.members.Members.TheInside as inside
use Rattle.ssa_members.specs.declared.members.Members.TheInside.{Inside}
use Rattle.ssa_members.specs.declared.members.Members.TheView.{view, invariant}
use Rattle.std.specs.List.Sorted.{IsStrictlySortedBy, IsStrictlySortedBy-prop}
use Rattle.std.specs.Map.{values_of}
use Rattle.std.specs.Prelude.{◌≡◌, List, [], string_cmp}
use Rattle.std.specs.contracts.alloc.Global as heap
use Rattle.std.specs.contracts.impls.GlobalAllocator.TheImpl.{ghosts}
use Rattle.std.specs.declared.alloc.Global.{Global}
use Rattle.std.specs.formers.vec.Vec as vec
use denote.HoleLaws.{Alike}
use denote.HolePlaces.{Recodes, struct_places, laid}
use denote.Hole.Carrier.{listed}
use denote.Hole.Fix.{over}
use denote.Model.Placed.{view_places}
use denote.Param.Weighed.{Weighed, most}
use denote.RattleType.{RattleType}
use mathlib.Core.Former.{Former, this, list, via, children}
use mathlib.Core.Path.{refl, sym, subst}

abbrev pub the_former : Former {0} → Former {0}
the_former g = via (list (named g)) (λ X. Members (g.Of X)) (λ X m. m.entries) (λ X es. record { entries = es }) (λ X m. refl) (λ X es. refl)

abbrev pub the_weighed : {g : Former {0}} → Weighed g → Weighed (the_former g)
the_weighed w = record { weight = λ X μ m. most (w.weight X μ) (values_of m.entries); puts = λ X μ m. named_puts w X μ m.entries }

pub the_empty : Members ⊥
the_empty = record { entries = [] }

abbrev pub the_items : (X : Type 0) → Members X → List X
the_items X m = values_of m.entries

pub the_items_listed : (X : Type 0) (m : Members X) → listed _ (children (the_former this) X m) ≡ the_items X m
the_items_listed X m = values_are_listed X m.entries

abbrev fields : Former {0}
fields = via (vec.the_former (named this) Global) Inside (λ X a. a.entries) (λ X v. record { entries = v }) (λ X a. refl) (λ X v. refl)

module _ (R S : RattleType) (h : R.Denot → S.Denot) where
  pub the_places : Alike R S h → Alike (contracts.the_row R) (contracts.the_row S) ((the_former this).map R.Denot S.Denot h)
  the_places a = view_places fields (the_former this) view (λ X Y k u. refl) (λ X u. refl) R.Denot S.Denot h (contracts.the_row R).coded (contracts.the_row S).coded
      (invariant R.Denot) (invariant S.Denot) (λ u. IsStrictlySortedBy-prop string_cmp _) (λ u. IsStrictlySortedBy-prop string_cmp _)
      (λ u. subst (IsStrictlySortedBy string_cmp) (sym (names_stay h u.entries.items))) (λ u. subst (IsStrictlySortedBy string_cmp) (names_stay h u.entries.items))
      (over (inside.the_row R)) (over (inside.the_row S))
      (struct_places (inside.the_type R) (inside.the_type S) (vec.mapped (at_value h), tt) _ (λ d. refl) refl
      (laid _ _ _ (vec.the_places heap.the_row ghosts (pair_row R) (pair_row S) (at_value h) (pair_places R S h a)), tt))

  pub the_codes_placed : Recodes R S h → Recodes (contracts.the_row R) (contracts.the_row S) ((the_former this).map R.Denot S.Denot h)
  the_codes_placed e m = named_recoded R S h e m.entries
