pub mod ClientViews
pub mod Rising
pub mod ServerViews
pub mod SessionViews
