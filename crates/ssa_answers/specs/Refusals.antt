-- The faults that a plan's refusals and the faults of managers' entries are.
use Rattle.ssa_merge.specs.declared.plan.Refusal.{Refusal}
use Rattle.ssa_merge.specs.declared.plan.Refusal.TheVariants as plan
use Rattle.ssa_merge.specs.declared.entry_fault.EntryFault.{EntryFault}
use Rattle.ssa_merge.specs.declared.entry_fault.EntryFault.TheVariants as entries
use Rattle.ssa_answers.specs.declared.fault.Fault.{Fault}
use Rattle.ssa_answers.specs.declared.fault.Fault.TheVariants.{TooManyPaths, Entry, Conflict, TooManyManagers, OutOfMemory}

abbrev pub refusal_fault : Refusal → Fault
refusal_fault (plan.Conflict clashes) = Conflict clashes
refusal_fault plan.TooManyPaths = TooManyPaths
refusal_fault plan.TooManyManagers = TooManyManagers
refusal_fault plan.OutOfMemory = OutOfMemory

abbrev pub entry_fault : EntryFault → Fault
entry_fault entries.OutOfMemory = OutOfMemory
entry_fault f = Entry f
