pub mod RingModel
pub mod PlanText
