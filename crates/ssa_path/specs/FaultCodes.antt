-- The codes of the faults of elements and sets.
use Rattle.ssa_model.specs.definitions.ElementTexts.{bad_element, index_element, not_canonical}
use Rattle.ssa_model.specs.definitions.Faults.{Code, out_of_memory, element_fault_code}
use Rattle.ssa_path.specs.declared.element_fault.ElemFault.{ElemFault}
use Rattle.ssa_path.specs.declared.element_fault.ElemFault.TheVariants.{BadElement, IndexElement, NotCanonical, OutOfMemory}

abbrev pub elem_fault_code : ElemFault → Code
elem_fault_code BadElement = element_fault_code bad_element
elem_fault_code IndexElement = element_fault_code index_element
elem_fault_code NotCanonical = element_fault_code not_canonical
elem_fault_code OutOfMemory = out_of_memory
