pub mod Bytes
pub mod Lex
pub mod Lexeme
pub mod NameSupport
pub mod Rule
pub mod RunFault
pub mod Status
pub mod Vocabulary
