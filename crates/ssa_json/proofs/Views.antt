-- What a value of each sort is seen as.
pub use Rattle.ssa_json.specs.Views.{view-List, view-Object, view-Scalar}
