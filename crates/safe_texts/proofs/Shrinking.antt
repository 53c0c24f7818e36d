-- What has no nodes: reading it takes lexemes alone.
use Rattle.std.specs.Prelude.{List, length, ◌≤◌}
use Rattle.std.proofs.Common.{arith}
use Rattle.scj_tree.specs.Lexemes.{Lexeme}
use Rattle.scj_tree.specs.Headers.{Dotted, Imported, Imports, PlainValue, PlainPair, PlainPairs, PlainArguments, dotted_name, dotted_longer, imported_name, imported_all, no_imports, plain_import, static_import, plain_text, plain_dotted, plain_true, plain_false, value_alone, named_value, last_pair, more_pairs, no_parentheses, empty_parentheses, pairs_in_parentheses}

pub dotted_shrinks : {i o : List Lexeme} → Dotted i o → length o ≤ length i
dotted_shrinks dotted_name = omega arith
dotted_shrinks (dotted_longer d) = omega (arith, dotted_shrinks d)

imported_shrinks : {i o : List Lexeme} → Imported i o → length o ≤ length i
imported_shrinks (imported_name d) = dotted_shrinks d
imported_shrinks (imported_all d) = omega (arith, dotted_shrinks d)

pub imports_shrink : {i o : List Lexeme} → Imports i o → length o ≤ length i
imports_shrink no_imports = omega arith
imports_shrink (plain_import d e) = omega (arith, imported_shrinks d, imports_shrink e)
imports_shrink (static_import d e) = omega (arith, imported_shrinks d, imports_shrink e)

value_shrinks : {i o : List Lexeme} → PlainValue i o → length o ≤ length i
value_shrinks plain_text = omega arith
value_shrinks (plain_dotted d) = dotted_shrinks d
value_shrinks plain_true = omega arith
value_shrinks plain_false = omega arith

pair_shrinks : {i o : List Lexeme} → PlainPair i o → length o ≤ length i
pair_shrinks (value_alone v) = value_shrinks v
pair_shrinks (named_value v) = omega (arith, value_shrinks v)

pairs_shrink : {i o : List Lexeme} → PlainPairs i o → length o ≤ length i
pairs_shrink (last_pair d) = omega (arith, pair_shrinks d)
pairs_shrink (more_pairs d e) = omega (arith, pair_shrinks d, pairs_shrink e)

pub arguments_shrink : {i o : List Lexeme} → PlainArguments i o → length o ≤ length i
arguments_shrink no_parentheses = omega arith
arguments_shrink empty_parentheses = omega arith
arguments_shrink (pairs_in_parentheses d) = omega (arith, pairs_shrink d)
