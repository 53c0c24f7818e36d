mod ExpressionNumbers
mod FileNumbers
mod HeaderNumbers
mod LiteralLemmas
mod NumberLemmas
mod Numbers
mod StatementNumbers
