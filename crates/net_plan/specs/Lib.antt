pub mod NetDraft
pub mod NetPlan
