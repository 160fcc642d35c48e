pub mod PlanLaws
pub mod CallLaws
pub mod InsideLaws
pub mod PayLaws
