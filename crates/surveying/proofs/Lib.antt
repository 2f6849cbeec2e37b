pub mod SurveyLaws
pub mod ArchiveLaws
