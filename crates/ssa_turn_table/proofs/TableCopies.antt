-- A copy of a record of tables says the same and has room wherever the record has.
use Rattle.std.proofs.Common.{◌≡◌, ℕ, ◌≤◌, List, [], ◌∷◌, map, length, refl, sym, ap, subst, ◌∙◌, arith}
use Rattle.std.specs.List.{AllZip}
use Rattle.std.specs.Prelude.{vec_capacity, vec_len}
use Rattle.ssa_model.specs.definitions.Carry.{carry_table}
use Rattle.ssa_model.specs.definitions.Limits.{most_managers}
use Rattle.ssa_model.specs.definitions.Record as record_model
use Rattle.ssa_model.specs.definitions.Table as model
use Rattle.ssa_merge.specs.Managers.{key_view}
use Rattle.ssa_turn_set.specs.Turn.{HasRoom}
use Rattle.ssa_turn_table.specs.Changing.{AllHaveRoom}
use Rattle.ssa_turn_table.specs.Copies.{ChangeIsCopied, HereIsCopied, KeyIsCopied}
use Rattle.ssa_turn_table.specs.Going.{AllKeysAgree}
use Rattle.ssa_turn_table.specs.Tables.{change_view, here_view}
use Rattle.ssa_turn_table.specs.Turning.{HasTableRoom, table_steps}
use Rattle.ssa_turn_table.specs.declared.delta.EntryChange.{EntryChange}
use Rattle.ssa_turn_table.specs.declared.delta.Here.{Here}
use Rattle.ssa_turn_table.specs.declared.delta.TableDelta.{TableDelta}

-- ---- lists of copies

same-views : {X Y : Type 0} (view : X → Y) (R : X → X → Type 0) → ((x y : X) → R x y → view y ≡ view x) → (xs ys : List X) → AllZip R xs ys
    → map view ys ≡ map view xs
same-views view R same [] [] z = refl
same-views view R same [] (y ∷ ys) z = absurd z
same-views view R same (x ∷ xs) [] z = absurd z
same-views view R same (x ∷ xs) (y ∷ ys) z = λ i. same x y z.0 i ∷ same-views view R same xs ys z.1 i

same-length : {X : Type 0} (R : X → X → Type 0) (xs ys : List X) → AllZip R xs ys → length ys ≡ length xs
same-length R [] [] z = refl
same-length R [] (y ∷ ys) z = absurd z
same-length R (x ∷ xs) [] z = absurd z
same-length R (x ∷ xs) (y ∷ ys) z = let e = same-length R xs ys z.1 in omega (arith, e)

all-have-room : (t : model.Table) (cs ds : List EntryChange) → AllZip ChangeIsCopied cs ds → AllHaveRoom t cs → AllHaveRoom t ds
all-have-room t [] [] z h = tt
all-have-room t [] (d ∷ ds) z h = absurd z
all-have-room t (c ∷ cs) [] z h = absurd z
all-have-room t (c ∷ cs) (d ∷ ds) z h =
    let named = ap (λ (x : record_model.Change). model.owned_by t x.manager) z.0.same in
    (z.0.room _ (subst (HasRoom c.set) (sym named) h.0), all-have-room t cs ds z.1 h.1)

all-keys-agree : (hs gs : List Here) → AllZip HereIsCopied hs gs → AllKeysAgree hs → AllKeysAgree gs
all-keys-agree [] [] z h = tt
all-keys-agree [] (g ∷ gs) z h = absurd z
all-keys-agree (x ∷ hs) [] z h = absurd z
all-keys-agree (x ∷ hs) (g ∷ gs) z h = (
  z.0.key ∙ h.0 ∙ sym (ap (λ (y : ℕ × model.Entry). y.1.manager) z.0.same),
  all-keys-agree hs gs z.1 h.1,
)

-- ---- the record

module _ (d c : TableDelta) (changed : AllZip ChangeIsCopied d.changed.items c.changed.items) (gone : AllZip KeyIsCopied d.gone.items c.gone.items)
    (here : AllZip HereIsCopied d.here.items c.here.items) where
  -- the copy says the same of the two tables
  pub same-steps : table_steps c ≡ table_steps d
  same-steps = λ i. record {
    changed = same-views change_view ChangeIsCopied (λ x y copy. copy.same) d.changed.items c.changed.items changed i;
    gone = same-views key_view KeyIsCopied (λ x y copy. copy) d.gone.items c.gone.items gone i;
    here = same-views here_view HereIsCopied (λ x y copy. copy.same) d.here.items c.here.items here i;
  }

  -- the copy has room for a turn of each table that the record has room for
  pub has-table-room : c.room.gone.items ≡ [] → vec_capacity c.room.gone ≡ vec_capacity d.room.gone → c.room.here.items ≡ []
      → vec_capacity c.room.here ≡ vec_capacity d.room.here → (t : model.Table) → HasTableRoom d t → HasTableRoom c t
  has-table-room gone_empty gone_room here_empty here_room t h =
      let heres : vec_len c.here ≡ vec_len d.here = c.here.ok.0 ∙ same-length HereIsCopied d.here.items c.here.items here ∙ sym d.here.ok.0 in
      let gones : vec_len c.gone ≡ vec_len d.gone = c.gone.ok.0 ∙ same-length KeyIsCopied d.gone.items c.gone.items gone ∙ sym d.gone.ok.0 in
      let gone_fits = h.gone_room in
      let here_fits = h.here_room in
      record {
        few = subst (λ r. length (carry_table r t) ≤ most_managers) (sym same-steps) h.few;
        sets = all-have-room t d.changed.items c.changed.items changed h.sets;
        keys = all-keys-agree d.here.items c.here.items here h.keys;
        gone_empty = gone_empty;
        gone_room = omega (arith, heres, gone_room, gone_fits);
        here_empty = here_empty;
        here_room = omega (arith, gones, here_room, here_fits);
      }
