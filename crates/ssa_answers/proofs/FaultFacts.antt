-- The texts of faults.
use Rattle.std.proofs.Common.{◌≡◌, ◌≢◌, [], ◌∷◌, ◌++◌, true, refl, sym, ap, ◌∙◌}
use Rattle.std.specs.Prelude.{codes}
use Rattle.ssa_model.specs.definitions.Json.{Text, list, object, no_members, member, compact, compact_members}
use Rattle.ssa_model.specs.definitions.Path.{Path, element_text}
use Rattle.ssa_model.specs.definitions.Kind as kinds
use Rattle.ssa_model.specs.definitions.Entries.{operation_text, part_members, text_json}
use Rattle.ssa_model.specs.definitions.Operations.{Clash}
use Rattle.ssa_model.specs.definitions.Parts.{Subresource, main, status}
use Rattle.ssa_model.specs.definitions.Answers.{Fault, body_fault}
use Rattle.ssa_model.specs.definitions.GivenEntries as entries
use Rattle.ssa_model.specs.definitions.Faults.{body_fault_code}
use Rattle.ssa_model.specs.definitions.Replies.{clash_json, with_fault, fault_json, entry_fault_json, fault_reply, paths_json}
use Rattle.ssa_path.specs.PartMembers.{part_text}
use Rattle.ssa_path.specs.PartMembers.{part-closed}
use Rattle.ssa_schema.specs.Finds.{told}
use Rattle.ssa_schema.specs.declared.body_fault.BodyFault.{BodyFault}
use Rattle.ssa_answers.specs.Faults.{IsFault, bench_code}
use Rattle.ssa_merge.specs.GivenEntries.{IsEntryFault}
use Rattle.ssa_merge.specs.declared.entry_fault.EntryFault.{EntryFault}
use Rattle.ssa_merge.specs.declared.entry_fault.EntryFault.TheVariants as faults
use Rattle.ssa_answers.specs.declared.fault.Fault as engine
use Rattle.ssa_answers.specs.declared.fault.Fault.TheVariants.{Body, Conflict, Entry, OutOfMemory}
use Rattle.ssa_answers.specs.Replies.{bench_json, told_json, entry_json}
use Rattle.ssa_json.proofs.ItemTexts.{items_json-map, joined}

-- ---- a fault with its path

told_json-told : (f : kinds.BodyFault) (p : Path) → told_json (told (kinds.fault_at f p)) ≡ fault_reply (body_fault f p)
told_json-told f p = ap (λ vs. object (with_fault (body_fault_code f) (member (codes "path") (list vs) no_members)))
    (sym (items_json-map text_json element_text p))

-- ---- faults of entries

entry_fault-json : (f : EntryFault) (h : entries.EntryFault) → IsEntryFault f h → entry_json f ≡ entry_fault_json h
entry_fault-json (faults.AbsentPath p) h is = ap entry_fault_json (sym is)
entry_fault-json faults.OutOfMemory h is = absurd is
entry_fault-json _ h is = ap entry_fault_json (sym is)

-- ---- faults of commands and objects

-- told by its number and its name alone
pub plain-json : (f : engine.Fault) → ((b : BodyFault) → f ≢ Body b) → ((cs : _) → f ≢ Conflict cs) → ((e : EntryFault) → f ≢ Entry e)
    → fault_json (bench_code f) ≡ bench_json f
plain-json (Body b) body clashes entry = absurd (body b refl)
plain-json (Conflict cs) body clashes entry = absurd (clashes cs refl)
plain-json (Entry e) body clashes entry = absurd (entry e refl)
plain-json _ body clashes entry = refl

-- what the bench's fault is told as is the reply of the definitions' fault
pub bench_json-told : (f : engine.Fault) (g : Fault) → IsFault f g → bench_json f ≡ fault_reply g
bench_json-told (Body f) g is = ap told_json is.2 ∙ told_json-told is.0.fault is.0.path ∙ ap fault_reply (sym is.1)
bench_json-told (Entry f) g is = entry_fault-json f is.0 is.2 ∙ ap fault_reply (sym is.1)
bench_json-told OutOfMemory g is = absurd is
bench_json-told _ g is = ap fault_reply (sym is)

-- ---- conflicts

-- the text is that of its members, one behind another
pub clash-written : (c : Clash) (t0 : Text) {t1 t2 t3 t4 t5 t6 t7 t8 : Text}
    → t1 ≡ t0 ++ codes "{\"fields\":" → t2 ≡ t1 ++ compact (paths_json c.fields)
    → t3 ≡ t2 ++ codes ",\"manager\":" → t4 ≡ t3 ++ compact (text_json c.manager.name)
    → t5 ≡ t4 ++ codes ",\"operation\":" → t6 ≡ t5 ++ compact (text_json (operation_text c.manager.operation))
    → t7 ≡ t6 ++ part_text c.manager.part → t8 ≡ t7 ++ 125 ∷ [] → t8 ≡ t0 ++ compact (clash_json c)
clash-written c t0 {t1 = t1} {t2 = t2} {t3 = t3} {t4 = t4} {t5 = t5} {t6 = t6} e0 e1 e2 e3 e4 e5 e6 e7 =
    let s = c.manager.part in
    let from_part = joined t6 (part_text s) (125 ∷ []) e6 e7 ∙ ap (λ t. t6 ++ t) (part-closed s) in
    let from_operation =
    joined t4 (codes ",\"operation\":") _ e4 (joined t5 (compact (text_json (operation_text c.manager.operation))) _ e5 from_part) in
    let from_manager = joined t2 (codes ",\"manager\":") _ e2 (joined t3 (compact (text_json c.manager.name)) _ e3 from_operation) in
    joined t0 (codes "{\"fields\":") _ e0 (joined t1 (compact (paths_json c.fields)) _ e1 from_manager)
