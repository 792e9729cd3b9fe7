pub mod DifferenceLaws
pub mod ListedLaws
pub mod PartingLaws
pub mod VerdictLaws
pub mod Determined
