-- Behind the end of a file stands nothing, and what the way over its lexemes tells.
use Rattle.std.proofs.Common.{◌≡◌, List, [], ◌∷◌, ◌++◌, Option, Some, None, refl, ap}
use Rattle.parser_machine.specs.Blocks.{first_start, local_named_step, name_bracket_step, name_first_step, return_step, statement_sign, statement_start, statement_word, statements_step, target_start, test_open_step}
use Rattle.parser_machine.specs.Closing.{}
use Rattle.parser_machine.specs.Declarations.{annotation_named, class_start, define_assign_step, define_name_step, define_open_step, define_other_assign_step, define_other_step, define_scope_named, element_node, member_start, member_word, other_word, pair_ended, plain_assigned_step, plain_dot_step, plain_end_step, plain_first_step, plain_name_step, plain_next_step, plain_open_step, plain_path_step, plain_value_step, runs_in_named, scope_named, type_argument_end_step, type_argument_name_step, type_bracket_step, type_end_step, type_name_step, type_start, value_dot_step, value_end_step, value_open_step, value_scope_step, value_start_step}
use Rattle.parser_machine.specs.Files.{class_name_step, class_named_step, classes_step, file_start_step, import_dot_step, import_end_step, import_name_step, import_star_step, import_start_step, imports_step, interface_sign, package_end_step, package_name_step, super_argument_end_step, super_argument_name_step, super_name_step, super_named_step, superclass_sign}
use Rattle.parser_machine.specs.Members.{constructor_start_step, is_else, literal_end_step, literal_minus_step, literal_step, literal_word, member_named_step, members_step, method_named_step, parameter_end_step, parameters_end_step, parameters_first_step, result_step, super_end_step, super_open_step}
use Rattle.parser_machine.specs.Operands.{argument_first_step, argument_start, closed_name_step, compound_step, dot_name_step, dot_step, is_operand_start, minus_step, name_step, new_element_step, new_name_step, new_step, opened_name_step, opened_step, operand_sign, operand_start, operand_word, stepping_step, target_name_step}
use Rattle.parser_machine.specs.Machine.{run, step, step_mode}
use Rattle.parser_machine.specs.States.{State, at}
use Rattle.parser_machine.specs.declared.entries.Entry.{Entry}
use Rattle.parser_machine.specs.declared.modes.Mode.{Mode}
use Rattle.parser_machine.specs.declared.modes.Mode.TheVariants.{ArgumentFirst, ArgumentNext, Assigned, At, ClassName, ClassNamed, ClosedName, ConstructorStart, DefineAssign, DefineName, DefineOpen, DefineOther, DefineOtherAssign, Dot, DotName, FileStart, Finished, FlagsRead, ForFirst, ForOpen, ForStepStart, IfOpen, ImportDot, ImportEnd, ImportName, ImportStar, ImportStart, InClasses, InImports, InMembers, InStatements, LiteralDone, LiteralMinus, LiteralStart, LocalNamed, MemberNamed, MethodNamed, Minus, NameBracket, NameFirst, NameRead, NewElement, NewName, NewStart, Opened, OpenedName, Operand, PackageEnd, PackageName, ParameterDone, ParametersDone, ParametersFirst, PlainAssigned, PlainDot, PlainEnd, PlainFirst, PlainName, PlainNext, PlainOpen, PlainPath, PostDone, ResultDone, ReturnStart, StatementEnd, StatementStart, SuperArgumentEnd, SuperArgumentName, SuperDone, SuperEnd, SuperName, SuperNamed, SuperOpen, TextRead, TypeArgumentEnd, TypeArgumentName, TypeBracket, TypeDone, TypeEnd, TypeName, ValueDot, ValueOpen, ValueRead, ValueScope, ValueStart, WhileOpen}
use Rattle.scj_base.specs.declared.positions.Position.{Position}
use Rattle.scj_tree.specs.Lexemes.{Lexeme, the_end}
use Rattle.scj_tree.specs.Terminals.{is_unary1_start}
use Rattle.scj_tree.specs.declared.nodes.Node.{Node}
use Rattle.machine_laws.proofs.Ends.{end_assign, end_at, end_flags, end_plain, end_post, end_statement, end_super, end_text, end_typed}

-- one lexeme more
then_step : Option State → Lexeme → Option State
then_step o r = elim o [ Some st ↦ step st r | None ↦ None ]

left_none : {o : Option State} (r : Lexeme) → o ≡ None → then_step o r ≡ None
unfolding then_step
left_none r e = ap (λ o. then_step o r) e

behind_end : (mode : Mode) (N : List Node) (s : List Entry) (p : Position) (r : Lexeme) →
    then_step (step_mode mode N s (the_end p)) r ≡ None
unfolding then_step step step_mode is_unary1_start target_start first_start name_first_step name_bracket_step
    local_named_step test_open_step return_step statement_word statement_sign statement_start statements_step
    element_node type_end_step type_bracket_step type_name_step type_argument_name_step type_argument_end_step
    type_start member_word member_start class_start scope_named runs_in_named define_scope_named annotation_named
    plain_open_step pair_ended plain_value_step plain_next_step plain_first_step plain_path_step plain_name_step
    plain_assigned_step plain_dot_step plain_end_step value_end_step value_open_step value_start_step value_scope_step
    value_dot_step define_open_step define_name_step define_assign_step other_word define_other_step
    define_other_assign_step package_name_step package_end_step import_name_step import_start_step import_dot_step
    import_end_step import_star_step classes_step imports_step file_start_step class_name_step class_named_step
    super_name_step superclass_sign interface_sign super_named_step super_argument_name_step super_argument_end_step
    member_named_step literal_word literal_step literal_minus_step literal_end_step result_step method_named_step
    parameters_first_step parameter_end_step parameters_end_step constructor_start_step super_open_step super_end_step
    members_step is_else dot_step dot_name_step compound_step stepping_step target_name_step name_step operand_word
    operand_sign operand_start is_operand_start minus_step opened_step opened_name_step closed_name_step new_step
    new_name_step new_element_step argument_start argument_first_step
behind_end FileStart N s p r = refl
behind_end PackageName N s p r = refl
behind_end PackageEnd N s p r = refl
behind_end InImports N s p r = refl
behind_end ImportStart N s p r = refl
behind_end ImportName N s p r = refl
behind_end ImportDot N s p r = refl
behind_end ImportEnd N s p r = refl
behind_end ImportStar N s p r = refl
behind_end InClasses N s p r = refl
behind_end Finished N s p r = refl
behind_end (FlagsRead is_local flags) N s p r = left_none r (end_flags _ _ _ _ p)
behind_end (At z) N s p r = left_none r (end_at _ _ _ p)
behind_end PlainOpen N s p r = left_none r (end_plain _ _ p)
behind_end PlainFirst N s p r = refl
behind_end PlainNext N s p r = refl
behind_end PlainName N s p r = refl
behind_end PlainAssigned N s p r = refl
behind_end PlainPath N s p r = refl
behind_end PlainDot N s p r = refl
behind_end PlainEnd N s p r = refl
behind_end ValueOpen N s p r = refl
behind_end ValueStart N s p r = refl
behind_end (ValueScope z) N s p r = refl
behind_end (ValueDot z) N s p r = refl
behind_end (ValueRead id) N s p r = refl
behind_end (DefineOpen z) N s p r = refl
behind_end (DefineName z) N s p r = refl
behind_end (DefineAssign z parent_first) N s p r = refl
behind_end (DefineOther z parent_first first) N s p r = refl
behind_end (DefineOtherAssign z parent_first first) N s p r = refl
behind_end (ClassName flags) N s p r = refl
behind_end ClassNamed N s p r = refl
behind_end SuperName N s p r = refl
behind_end (SuperNamed z w) N s p r = left_none r (end_super _ _ _ p)
behind_end (SuperArgumentName z w) N s p r = refl
behind_end (SuperArgumentEnd z w argument) N s p r = refl
behind_end (SuperDone id) N s p r = left_none r (end_super _ _ _ p)
behind_end InMembers N s p r = left_none r (end_flags _ _ _ _ p)
behind_end (TypeName z w) N s p r = left_none r (end_typed _ _ _ p)
behind_end (TypeArgumentName z w) N s p r = refl
behind_end (TypeArgumentEnd z w argument) N s p r = refl
behind_end (TypeEnd z element) N s p r = left_none r (end_typed _ _ _ p)
behind_end (TypeBracket z element) N s p r = refl
behind_end (TypeDone id) N s p r = left_none r (end_typed _ _ _ p)
behind_end (MemberNamed flags declared z w) N s p r = refl
behind_end (ResultDone flags result) N s p r = refl
behind_end (MethodNamed flags result z w) N s p r = refl
behind_end LiteralStart N s p r = refl
behind_end (LiteralMinus z) N s p r = refl
behind_end (LiteralDone id) N s p r = refl
behind_end (ParametersFirst z) N s p r = left_none r (end_flags _ _ _ _ p)
behind_end (ParameterDone id) N s p r = refl
behind_end (ParametersDone parameters) N s p r = refl
behind_end (ConstructorStart b) N s p r = refl
behind_end (SuperOpen b z) N s p r = refl
behind_end (SuperEnd b) N s p r = refl
behind_end InStatements N s p r = refl
behind_end StatementStart N s p r = refl
behind_end (StatementEnd id) N s p r = left_none r (end_statement _ _ _ p)
behind_end (IfOpen z) N s p r = refl
behind_end (WhileOpen z) N s p r = refl
behind_end (ForOpen z) N s p r = refl
behind_end ForFirst N s p r = refl
behind_end ForStepStart N s p r = refl
behind_end (ReturnStart z) N s p r = refl
behind_end (NameFirst z w) N s p r = refl
behind_end (NameBracket z w b) N s p r = refl
behind_end (LocalNamed flags declared z w) N s p r = refl
behind_end (Assigned id) N s p r = left_none r (end_assign _ _ _ p)
behind_end Operand N s p r = refl
behind_end (NameRead z w) N s p r = left_none r (end_post _ _ _ _ _ p)
behind_end (Opened z) N s p r = refl
behind_end (OpenedName z q w) N s p r = left_none r (end_post _ _ _ _ _ p)
behind_end (ClosedName z q w) N s p r = left_none r (end_post _ _ _ _ _ p)
behind_end (Minus z) N s p r = refl
behind_end (NewStart z) N s p r = refl
behind_end (NewName z q w) N s p r = refl
behind_end (NewElement z element) N s p r = refl
behind_end (PostDone kind z id) N s p r = left_none r (end_post _ _ _ _ _ p)
behind_end (Dot object) N s p r = refl
behind_end (DotName object z w) N s p r = left_none r (end_post _ _ _ _ _ p)
behind_end ArgumentFirst N s p r = refl
behind_end ArgumentNext N s p r = refl
behind_end (TextRead id) N s p r = left_none r (end_text _ _ _ p)

-- behind the last of these lexemes, which is the end of a file, no lexeme may stand
run_last : (o : Option State) (last : State) (r : Lexeme) → then_step o r ≡ None →
    elim o [ Some next ↦ run next [] | None ↦ None ] ≡ Some last → step last r ≡ None
unfolding then_step run
run_last None last r h e = cc
run_last (Some next) last r h e = let same : next ≡ last = cc in rw (← same) h

pub nothing_behind : (st last : State) (before : List Lexeme) (p : Position) (r : Lexeme) →
    run st (before ++ the_end p ∷ []) ≡ Some last → step last r ≡ None
unfolding run step
nothing_behind (at mode s N) last [] p r e =
    run_last (step_mode mode N s (the_end p)) last r (behind_end mode N s p r) e
nothing_behind st last (t ∷ before) p r e = go (λ next h. nothing_behind next last before p r h) (step st t) e
  where
    go : ((next : State) → run next (before ++ the_end p ∷ []) ≡ Some last → step last r ≡ None) → (o : Option State) →
        elim o [ Some next ↦ run next (before ++ the_end p ∷ []) | None ↦ None ] ≡ Some last → step last r ≡ None
    go f None e = cc
    go f (Some next) e = f next e
