-- What reading managers' entries answers.
use Rattle.std.specs.Prelude.{◌≡◌, Result, Ok, Err}
use Rattle.ssa_model.specs.definitions.ElementTexts as texts
use Rattle.ssa_model.specs.definitions.GivenEntries as model
use Rattle.ssa_model.specs.definitions.Faults as code
use Rattle.ssa_model.specs.definitions.Faults.{Code}
use Rattle.ssa_merge.specs.declared.entry_fault.EntryFault.{EntryFault}
use Rattle.ssa_merge.specs.declared.entry_fault.EntryFault.TheVariants.{TooManyManagers, BadEntry, ManagerName, OtherVersion, BadMoment, BadElement, IndexElement, NotCanonical, EmptyEntry, AbsentPath, DuplicateManager, OutOfMemory}

-- the fault is the given one
abbrev pub IsEntryFault : EntryFault → model.EntryFault → Type 0
IsEntryFault TooManyManagers g = g ≡ model.too_many_managers
IsEntryFault BadEntry g = g ≡ model.bad_entry
IsEntryFault ManagerName g = g ≡ model.manager_name
IsEntryFault OtherVersion g = g ≡ model.other_version
IsEntryFault BadMoment g = g ≡ model.bad_moment
IsEntryFault BadElement g = g ≡ model.of_fields texts.bad_element
IsEntryFault IndexElement g = g ≡ model.of_fields texts.index_element
IsEntryFault NotCanonical g = g ≡ model.of_fields texts.not_canonical
IsEntryFault EmptyEntry g = g ≡ model.empty_entry
IsEntryFault (AbsentPath p) g = g ≡ model.absent_path p
IsEntryFault DuplicateManager g = g ≡ model.duplicate_manager
IsEntryFault OutOfMemory g = ⊥

-- how the fault is told
abbrev pub entry_code : EntryFault → Code
entry_code TooManyManagers = code.too_many_managers
entry_code BadEntry = code.bad_entry
entry_code ManagerName = code.manager_name
entry_code OtherVersion = code.other_version
entry_code BadMoment = code.bad_moment
entry_code BadElement = code.bad_element
entry_code IndexElement = code.index_element
entry_code NotCanonical = code.not_canonical
entry_code EmptyEntry = code.empty_entry
entry_code (AbsentPath p) = code.absent_path
entry_code DuplicateManager = code.duplicate_manager
entry_code OutOfMemory = code.out_of_memory

-- What is read is the given table or its first fault; of want of memory nothing is said.
abbrev pub GivesEntries : {A : Type 0} → Result A EntryFault → Result A model.EntryFault → Type 0
GivesEntries (Ok a) given = given ≡ Ok a
GivesEntries (Err OutOfMemory) given = Unit {0}
GivesEntries (Err f) given = (g : model.EntryFault) × (given ≡ Err g) × IsEntryFault f g
