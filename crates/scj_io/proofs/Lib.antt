pub mod CounterLaws
pub mod LoadLaws
pub mod PutLaws
