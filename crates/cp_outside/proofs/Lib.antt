pub mod PutLaws
pub mod FailedNameLaws
