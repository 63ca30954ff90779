-- The worked record of one field of an item.
use Rattle.std.proofs.Common.{[], ◌∷◌, ◌++◌, false, ◌||◌, refl, sym, ap, ◌∙◌, true≢false}
use Rattle.std.specs.Prelude.{codes}
use Rattle.ssa_model.specs.definitions.Path.{field, Path, same_path, parent, under}
use Rattle.ssa_model.specs.definitions.PathMap.{has, same_entries_map}
use Rattle.ssa_model.specs.definitions.Objects.{body_value}
use Rattle.ssa_model.specs.definitions.Record.{BodyRecord, body_record}
use Rattle.ssa_model.specs.laws.RecordPlaces.{TellsBelow}
use Rattle.ssa_model.specs.examples.PlaceRows.{after, before, b_path, other_b, IsPlaceMet, ItemReplaced, OtherPartKept}
use Rattle.ssa_model.specs.examples.Rows.{abc, with_ports}
use Rattle.ssa_model.specs.examples.Sample.{sample_kind}
use Rattle.ssa_model.proofs.FlatFits.{flat_fits}
use Rattle.ssa_model.proofs.PathMaps.{has-paths, same_path-true}
use Rattle.ssa_model.proofs.Tables.{either}
use Rattle.ssa_model.proofs.Tables.{either}

-- the body after is the body before with another item, and it is so with another list around the item
pub item_replaced : ItemReplaced
item_replaced = (same_entries_map _ _ refl, same_entries_map _ _ refl)

-- with what the body after has at another item, the body before is as it was
pub other_part_kept : OtherPartKept
other_part_kept = same_entries_map _ _ refl

-- the one field that the record tells of
abbrev port_path : Path
port_path = b_path ++ field (codes "port") ∷ []

abbrev d : BodyRecord
d = body_record before after

tells-below : TellsBelow b_path d
tells-below q told =
    either (has d.cut q) (has d.leaves q || (has d.order q || has d.put q)) told
    (λ cut. absurd (true≢false (sym (sym (has-paths d.cut q) ∙ cut))))
    (λ rest. either (has d.leaves q) (has d.order q || has d.put q) rest
    (λ leaf. either (same_path q port_path) false (sym (has-paths d.leaves q) ∙ leaf)
    (λ same. ap (λ r. under b_path (parent r)) (same_path-true q port_path same))
    (λ none. absurd (true≢false (sym none))))
    (λ more. either (has d.order q) (has d.put q) more
    (λ order. absurd (true≢false (sym (sym (has-paths d.order q) ∙ order))))
    (λ put. absurd (true≢false (sym (sym (has-paths d.put q) ∙ put))))))

-- the two bodies and their record meet what the laws ask
pub place_met : IsPlaceMet
place_met = record {
  takes = record {
    from = flat_fits sample_kind (body_value (with_ports abc)) refl refl refl;
    to = flat_fits sample_kind (body_value other_b) refl refl refl;
    is = refl;
  };
  tells = tells-below;
  there = refl;
}
