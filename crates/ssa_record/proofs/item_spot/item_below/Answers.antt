use Rattle.std.proofs.Common.{sym, ap, ◌∙◌}
use Rattle.std.specs.Option.{option_copied}
use Rattle.ssa_model.specs.definitions.Path.{key}
use Rattle.ssa_path.specs.View.{element_view}
use Rattle.ssa_schema.specs.Kinds.{kind_view, names_view}
use Rattle.ssa_schema.proofs.Kinding.{kind_view-ItemsOf}
use Rattle.ssa_record.proofs.item_spot.item_below.Goals as goal

pub returns-in_ok-node-in-ItemsOf-Key : goal.returns-in_ok-node-in-ItemsOf-Key
returns-in_ok-node-in-ItemsOf-Key c = record {
  touched = c.in_ok-element.ensures;
  node = sym c.child.ensures ∙ ap option_copied c.in_ok-node-in-ItemsOf-Key.was;
  names = names_view c.in-ItemsOf-Key.keys-0.items;
  kind = ap kind_view c.in-ItemsOf-Key.is-0 ∙ kind_view-ItemsOf c.in-ItemsOf-Key.keys-0 c.in-ItemsOf-Key.fields;
  keys = ap element_view c.in-ItemsOf-Key.is-1 ∙ ap key (sym c.members.ensures.same);
}
