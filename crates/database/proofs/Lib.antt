pub mod ColumnLaws
pub mod MemberLaws
pub mod FindLaws
pub mod GatherLaws
pub mod RowLaws
pub mod KindLaws
pub mod OwnerLaws
