pub mod SameLaws
pub mod PlaceLaws
pub mod FollowLaws
pub mod AnswerLaws
pub mod TableLaws
pub mod FindLaws
pub mod PutLaws
pub mod InternLaws
