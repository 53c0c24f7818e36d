pub mod Again
mod AssignmentsAgain
mod DeclarationsAgain
mod DeclarationsLexed
mod ExpressionsAgain
mod ExpressionsLexed
pub mod FilesAgain
mod FlagsAgain
mod HeadersAgain
mod Lexing
mod NodesLexed
mod MembersAgain
mod MembersLexed
mod Printing
mod Rests
pub mod Sources
mod StatementsAgain
mod StatementsLexed
mod Unfolding
mod WorkedRows
