pub mod DeerRows
pub mod DomainPolls
pub mod EerPlaces
