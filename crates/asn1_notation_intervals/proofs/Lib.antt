pub mod EndLaws
pub mod MeetLaws
pub mod JoinLaws
pub mod HullLaws
