pub mod GrammarLaws
pub mod SampleLaws
pub mod StandLaws
pub mod SyntaxLaws
pub mod VerdictLaws
