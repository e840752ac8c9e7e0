pub mod DeltaItems
