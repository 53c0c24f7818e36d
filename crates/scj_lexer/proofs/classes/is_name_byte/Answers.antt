use Rattle.std.proofs.Common.{arith}
use Rattle.scj_lexer.proofs.TableChecks.{name_byte_at}
use Rattle.scj_lexer.proofs.classes.is_name_byte.Goals as goal

pub returns : goal.returns
returns c = name_byte_at c.args.byte (omega arith)
