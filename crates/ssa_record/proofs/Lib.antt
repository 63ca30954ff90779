mod ByPaths
pub mod FittingEntries
pub mod FittingLists
pub mod FittingPlaces
mod CutPaths
mod ItemsRead
mod LedBodies
mod LedChildren
mod LedFields
mod LedItems
mod LedLeaves
mod LedMembers
mod LedPlaces
mod LedPuts
pub mod LedStates
mod LedUntouched
pub mod OwnablePaths
mod PathSearch
mod RefilledOrder
mod Slots
pub mod ToldLists
pub mod ToldTables
pub mod ToldSets
mod Spots
mod StepsThere
mod Touched
mod WithinPlaces
mod Stands
