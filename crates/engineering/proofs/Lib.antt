pub mod EngineeringLaws
