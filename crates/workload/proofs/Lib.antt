pub mod OwnKeys
pub mod MadeRuns
