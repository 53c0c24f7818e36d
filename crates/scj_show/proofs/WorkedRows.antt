-- The text of some files, computed.
use Rattle.std.proofs.Common.{◌≡◌, true, false, [], ◌∷◌, Some, None, refl}
use Rattle.std.specs.Prelude.{codes}
use Rattle.std.specs.Fmt.{digits}
use Rattle.scj_base.specs.Vocabulary.{words, signs, sign_plus, sign_star}
use Rattle.scj_base.specs.declared.positions.Position.{Position}
use Rattle.scj_tree.specs.declared.nodes.Node.TheVariants.{Class, Flags, DefineScope, ScopeName, Supers, SuperType, TypeArgument, IntType, VoidType, Field, Method, Constructor, Parameters, Parameter, SuperCall, Block, LocalWithValue, Assign, For, Binary, Cast, Parenthesized, SimpleName, Text, Number, Null}
use Rattle.scj_tree.specs.Forest.{forest_of}
use Rattle.scj_tree.specs.Recursion.{bottom_up}
use Rattle.scj_show.specs.Parts.{maybe, each, each_behind_comma, listed, in_parentheses, word_if_set, sign_if_set, annotation, scope_definition, argument_in_brackets, brackets, extended, implemented, assigned, parameters_or_none, body_or_semicolon, body_with_call, class_parts, flag_parts, field_parts, method_parts, constructor_parts, super_call_parts, block_end, parts_of, bare_parts}
use Rattle.scj_show.specs.Symbols.{bytes_of, separator, canonical, symbols_of_part, symbols_of_parts, own_symbols, written_node, written, symbols_of, text_of_file}

abbrev p : Position
p = record { file = 0; line = 1; col = 1 }

-- `/* c */ public class A{int x;}`
a_field : text_of_file
    (forest_of (IntType p false ∷ Field p (codes "x") None 0 None None ∷ Class p (codes "A") None None (1 ∷ []) ∷ [])
    ((2 ∷ []) ∷ [])) 0 ≡ codes "class A {\nint x ;\n}\n"
unfolding text_of_file symbols_of written written_node own_symbols symbols_of_parts symbols_of_part canonical separator
    bytes_of words signs bottom_up parts_of class_parts field_parts maybe each assigned brackets
a_field = refl

-- `class A{void m(int x){x+=2*3;x++;}}`
compound : text_of_file
    (forest_of (VoidType p ∷ IntType p false ∷ Parameter p (codes "x") None 1 ∷ Parameters p (2 ∷ [])
    ∷ SimpleName p (codes "x") ∷ SimpleName p (codes "x") ∷ Number p 2 false ∷ Number p 3 false ∷ Binary p sign_star 6 7
    ∷ Parenthesized p 8 ∷ Binary p sign_plus 5 9 ∷ Assign p 4 10 ∷ SimpleName p (codes "x") ∷ SimpleName p (codes "x")
    ∷ Number p 1 false ∷ Binary p sign_plus 13 14 ∷ Assign p 12 15 ∷ Block p (11 ∷ 16 ∷ [])
    ∷ Method p (codes "m") None 0 (Some 3) (Some 17) ∷ Class p (codes "A") None None (18 ∷ []) ∷ []) ((19 ∷ []) ∷ [])) 0
    ≡ codes "class A {\nvoid m ( int x ) {\nx = x + ( 2 * 3 ) ;\nx = x + 1 ;\n}\n}\n"
unfolding digits text_of_file symbols_of written written_node own_symbols symbols_of_parts symbols_of_part canonical
    separator bytes_of words signs bottom_up parts_of class_parts method_parts parameters_or_none body_or_semicolon
    in_parentheses listed each_behind_comma block_end maybe each brackets sign_if_set
compound = refl

-- `@DefineScope(parent="IMMORTAL",name=M) abstract @Scope(Scope.M) class B extends Q<Main>{}`
annotated : text_of_file
    (forest_of (ScopeName p (codes "IMMORTAL") ∷ ScopeName p (codes "M") ∷ DefineScope p 0 1 true
    ∷ ScopeName p (codes "M") ∷ Flags p (Some 2) (Some 3) None false true false ∷ TypeArgument p (codes "Main")
    ∷ SuperType p (codes "Q") (Some 5) ∷ Supers p (Some 6) [] ∷ Class p (codes "B") (Some 4) (Some 7) [] ∷ [])
    ((8 ∷ []) ∷ [])) 0
    ≡ codes
    "@ DefineScope ( name = \"M\" , parent = \"IMMORTAL\" ) @ Scope ( \"M\" ) abstract class B extends Q < Main > {\n}\n"
unfolding text_of_file symbols_of written written_node own_symbols symbols_of_parts symbols_of_part canonical separator
    bytes_of words signs bottom_up parts_of class_parts flag_parts annotation scope_definition word_if_set extended
    implemented argument_in_brackets maybe each
annotated = refl

-- `class C{C(){super((C)null,"t");for(int i=0;i;i=-2147483648)m();}}`, without the statement's own `;`
nested : text_of_file
    (forest_of (Null p ∷ Cast p p (codes "C") 0 ∷ Text p (codes "t") ∷ SuperCall p (1 ∷ 2 ∷ []) ∷ IntType p false
    ∷ Number p 0 false ∷ LocalWithValue p p (codes "i") None 4 5 ∷ SimpleName p (codes "i") ∷ SimpleName p (codes "i")
    ∷ Number p 2147483648 true ∷ Assign p 8 9 ∷ Block p [] ∷ For p 6 7 10 11 ∷ Block p (12 ∷ [])
    ∷ Constructor p (codes "C") None None (Some 3) 13 ∷ Class p (codes "C") None None (14 ∷ []) ∷ []) ((15 ∷ []) ∷ []))
    0
    ≡ codes
    "class C {\nC ( ) {\nsuper ( ( C ) null , \"t\" ) ;\nfor ( int i = 0 ;\ni ;\ni = - 2147483648 ) {\n}\n}\n}\n"
unfolding digits text_of_file symbols_of written written_node own_symbols symbols_of_parts symbols_of_part canonical
    separator bytes_of words signs bottom_up parts_of bare_parts class_parts constructor_parts parameters_or_none
    body_with_call super_call_parts in_parentheses listed each_behind_comma block_end maybe each brackets sign_if_set
nested = refl
