-- Which fault is told, and results that may be refused.
use Rattle.std.specs.Prelude.{◌≡◌, Result, Ok, Err}
use Rattle.ssa_model.specs.definitions.Kind as kinds
use Rattle.ssa_model.specs.definitions.Operations as operations
use Rattle.ssa_model.specs.definitions.GivenEntries as entries
use Rattle.ssa_model.specs.definitions.Answers as model
use Rattle.ssa_model.specs.definitions.Faults as code
use Rattle.ssa_model.specs.definitions.Faults.{Code, body_fault_code}
use Rattle.ssa_schema.specs.Finds.{told, told_view}
use Rattle.ssa_merge.specs.Managers.{clashes_view}
use Rattle.ssa_merge.specs.GivenEntries.{IsEntryFault, entry_code}
use Rattle.ssa_answers.specs.declared.fault.Fault.{Fault}
use Rattle.ssa_answers.specs.declared.fault.Fault.TheVariants.{Body, TooManyPaths, Identity, ManagedFieldsGiven, Entry, ManagerName, NoSubresource, NothingToUndo, NothingToRedo, Conflict, TooManyManagers, OutOfMemory}

-- The fault is the given one; a body's fault tells its path by the texts of the elements.
abbrev pub IsFault : Fault → model.Fault → Type 0
IsFault (Body f) g = (m : kinds.FaultAt) × (g ≡ model.body_fault m.fault m.path) × (told_view f ≡ told m)
IsFault TooManyPaths g = g ≡ model.refused operations.too_many_paths
IsFault Identity g = g ≡ model.identity_fault
IsFault ManagedFieldsGiven g = g ≡ model.managed_fields_given
IsFault (Entry f) g = (h : entries.EntryFault) × (g ≡ model.entry_fault h) × IsEntryFault f h
IsFault ManagerName g = g ≡ model.manager_name
IsFault NoSubresource g = g ≡ model.no_subresource
IsFault NothingToUndo g = g ≡ model.nothing_to_undo
IsFault NothingToRedo g = g ≡ model.nothing_to_redo
IsFault (Conflict cs) g = g ≡ model.refused (operations.conflict (clashes_view cs.items))
IsFault TooManyManagers g = g ≡ model.refused operations.too_many_managers
IsFault OutOfMemory g = ⊥

-- how the fault is told
abbrev pub bench_code : Fault → Code
bench_code (Body f) = body_fault_code (told_view f).0
bench_code TooManyPaths = code.too_many_paths
bench_code Identity = code.identity
bench_code ManagedFieldsGiven = code.managed_fields_given
bench_code (Entry f) = entry_code f
bench_code ManagerName = code.manager_name
bench_code NoSubresource = code.no_subresource
bench_code NothingToUndo = code.nothing_to_undo
bench_code NothingToRedo = code.nothing_to_redo
bench_code (Conflict cs) = code.conflict
bench_code TooManyManagers = code.too_many_managers
bench_code OutOfMemory = code.out_of_memory

-- The result is the given one; of want of memory nothing is said.
abbrev pub IsGiven : {A : Type 0} → Result A Fault → Result A model.Fault → Type 0
IsGiven (Ok a) given = given ≡ Ok a
IsGiven (Err OutOfMemory) given = Unit {0}
IsGiven (Err f) given = (g : model.Fault) × (given ≡ Err g) × IsFault f g
