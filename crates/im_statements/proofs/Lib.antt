mod StatementLaws
pub mod AlteredLaws
pub mod AnswerLaws
pub mod CursorLaws
pub mod LeavingLaws
pub mod LineLaws
pub mod OtherLaws
pub mod PlanLaws
pub mod RoundLaws
