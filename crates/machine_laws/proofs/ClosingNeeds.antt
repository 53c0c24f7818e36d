-- What each entry that was put aside awaits: which entries may lie under a mode and under each other.
use Rattle.std.specs.Prelude.{Bool, List, None, Option, Some, [], false, if◌then◌else◌, true, ◌&&◌, ◌∷◌}
use Rattle.parser_machine.specs.States.{State, at}
use Rattle.parser_machine.specs.declared.entries.Entry.{Entry}
use Rattle.parser_machine.specs.declared.entries.Entry.TheVariants.{AnnotationOpen, ArgumentsOpen, AssignValue, BinaryLeft, BlockOpen, CallOpen, CastOpen, ClassBody, ClassOpen, CompoundValue, ConstructorBody, ConstructorOpen, DefineFirst, DefineSecond, FieldOpen, FileOpen, ForBody, ForHead, ForStep, ForTest, GroupOpen, IfElse, IfTest, IfThen, IndexOpen, LengthOpen, LocalOpen, LocalValue, MemberOpen, MethodBody, MethodOpen, NewOpen, ParameterOpen, ParametersOpen, ReturnValue, RunsInOpen, ScopeOpen, Simple, SuperCallOpen, SupersOpen, Target, UnaryOpen, WhileBody, WhileTest}
use Rattle.parser_machine.specs.declared.modes.Mode.{Mode}
use Rattle.parser_machine.specs.declared.modes.Mode.TheVariants.{ArgumentFirst, ArgumentNext, Assigned, At, ClassName, ClassNamed, ClosedName, ConstructorStart, DefineAssign, DefineName, DefineOpen, DefineOther, DefineOtherAssign, Dot, DotName, FileStart, Finished, FlagsRead, ForFirst, ForOpen, ForStepStart, IfOpen, ImportDot, ImportEnd, ImportName, ImportStar, ImportStart, InClasses, InImports, InMembers, InStatements, LiteralDone, LiteralMinus, LiteralStart, LocalNamed, MemberNamed, MethodNamed, Minus, NameBracket, NameFirst, NameRead, NewElement, NewName, NewStart, Opened, OpenedName, Operand, PackageEnd, PackageName, ParameterDone, ParametersDone, ParametersFirst, PlainAssigned, PlainDot, PlainEnd, PlainFirst, PlainName, PlainNext, PlainOpen, PlainPath, PostDone, ResultDone, ReturnStart, StatementEnd, StatementStart, SuperArgumentEnd, SuperArgumentName, SuperDone, SuperEnd, SuperName, SuperNamed, SuperOpen, TextRead, TypeArgumentEnd, TypeArgumentName, TypeBracket, TypeDone, TypeEnd, TypeName, ValueDot, ValueOpen, ValueRead, ValueScope, ValueStart, WhileOpen}
use Rattle.scj_tree.specs.declared.nodes.Node.{Node}

-- what is awaited on top of the entries put aside
pub data Need : Type 0 where
  a_file : Need
  a_head : Need
  a_super : Need
  a_member : Need
  flagged_thing : Need
  an_annotation : Need
  a_scope : Need
  a_type : Need
  a_literal : Need
  a_body_owner : Need
  a_parameter : Need
  a_constructor_body : Need
  a_statement_of_block : Need
  a_statement : Need
  a_simple : Need
  a_first : Need
  an_assignment : Need
  a_value : Need
  an_operand : Need
  an_argument : Need
  arguments_of : Need

-- the entries that await this
pub data Awaits : Need → List Entry → Type 0 where
  file_open : {ids : _} → Awaits a_file (FileOpen ids ∷ [])
  class_open : {f : _} {p : _} {w : _} {s : _} → Awaits a_file s → Awaits a_head (ClassOpen f p w ∷ s)
  supers_open : {p : _} {c : _} {ids : _} {s : _} (e : Bool) → Awaits a_head s →
      Awaits a_super (SupersOpen p e c ids ∷ s)
  class_body : {f : _} {p : _} {w : _} {h : _} {ids : _} {s : _} → Awaits a_file s →
      Awaits a_member (ClassBody f p w h ids ∷ s)
  flags_of_class : {s : _} → Awaits a_file s → Awaits flagged_thing s
  flags_of_member : {s : _} → Awaits a_member s → Awaits flagged_thing s
  flags_of_parameter : {s : _} → Awaits a_parameter s → Awaits flagged_thing s
  flags_of_local : {s : _} → Awaits a_simple s → Awaits flagged_thing s
  annotation_open : {l : _} {f : _} {s : _} → Awaits flagged_thing s → Awaits an_annotation (AnnotationOpen l f ∷ s)
  scope_open : {s : _} → Awaits an_annotation s → Awaits a_scope (ScopeOpen ∷ s)
  runs_in_open : {s : _} → Awaits an_annotation s → Awaits a_scope (RunsInOpen ∷ s)
  define_first : {p : _} {b : _} {s : _} → Awaits an_annotation s → Awaits a_scope (DefineFirst p b ∷ s)
  define_second : {p : _} {b : _} {id : _} {s : _} → Awaits an_annotation s → Awaits a_scope (DefineSecond p b id ∷ s)
  member_open : {f : _} {s : _} → Awaits a_member s → Awaits a_type (MemberOpen f ∷ s)
  parameter_open : {f : _} {s : _} → Awaits a_parameter s → Awaits a_type (ParameterOpen f ∷ s)
  local_open : {f : _} {s : _} → Awaits a_first s → Awaits a_type (LocalOpen f ∷ s)
  field_open : {f : _} {t : _} {p : _} {w : _} {q : _} {s : _} → Awaits a_member s →
      Awaits a_literal (FieldOpen f t p w q ∷ s)
  method_open : {f : _} {t : _} {p : _} {w : _} {s : _} → Awaits a_member s →
      Awaits a_body_owner (MethodOpen f t p w ∷ s)
  constructor_open : {f : _} {p : _} {w : _} {s : _} → Awaits a_member s →
      Awaits a_body_owner (ConstructorOpen f p w ∷ s)
  parameters_open : {p : _} {ids : _} {s : _} → Awaits a_body_owner s → Awaits a_parameter (ParametersOpen p ids ∷ s)
  constructor_body : {f : _} {p : _} {w : _} {ps : _} {c : _} {s : _} → Awaits a_member s →
      Awaits a_constructor_body (ConstructorBody f p w ps c ∷ s)
  block_open : {p : _} {ids : _} {s : _} → Awaits a_statement s → Awaits a_statement_of_block (BlockOpen p ids ∷ s)
  of_constructor : {s : _} → Awaits a_constructor_body s → Awaits a_statement s
  of_block : {s : _} → Awaits a_statement_of_block s → Awaits a_statement s
  method_body : {f : _} {t : _} {p : _} {w : _} {ps : _} {s : _} → Awaits a_member s →
      Awaits a_statement (MethodBody f t p w ps ∷ s)
  if_then : {p : _} {c : _} {s : _} → Awaits a_statement s → Awaits a_statement (IfThen p c ∷ s)
  if_other : {p : _} {c : _} {a : _} {s : _} → Awaits a_statement s → Awaits a_statement (IfElse p c a ∷ s)
  while_body : {p : _} {c : _} {s : _} → Awaits a_statement s → Awaits a_statement (WhileBody p c ∷ s)
  for_body : {p : _} {f : _} {c : _} {u : _} {s : _} → Awaits a_statement s → Awaits a_statement (ForBody p f c u ∷ s)
  simple_open : {s : _} → Awaits a_statement s → Awaits a_simple (Simple ∷ s)
  of_simple : {s : _} → Awaits a_simple s → Awaits a_first s
  for_head : {p : _} {s : _} → Awaits a_statement s → Awaits a_first (ForHead p ∷ s)
  of_first : {s : _} → Awaits a_first s → Awaits an_assignment s
  for_step : {p : _} {f : _} {c : _} {s : _} → Awaits a_statement s → Awaits an_assignment (ForStep p f c ∷ s)
  for_test : {p : _} {f : _} {s : _} → Awaits a_statement s → Awaits a_value (ForTest p f ∷ s)
  if_test : {p : _} {s : _} → Awaits a_statement s → Awaits a_value (IfTest p ∷ s)
  while_test : {p : _} {s : _} → Awaits a_statement s → Awaits a_value (WhileTest p ∷ s)
  return_open : {p : _} {s : _} → Awaits a_statement s → Awaits a_value (ReturnValue p ∷ s)
  assign_value : {p : _} {t : _} {s : _} → Awaits an_assignment s → Awaits a_value (AssignValue p t ∷ s)
  compound_value : {p : _} {o : _} {t : _} {l : _} {s : _} → Awaits an_assignment s →
      Awaits a_value (CompoundValue p o t l ∷ s)
  local_value : {p : _} {q : _} {w : _} {f : _} {t : _} {s : _} → Awaits a_first s →
      Awaits a_value (LocalValue p q w f t ∷ s)
  binary_left : {p : _} {o : _} {l : _} {s : _} → Awaits a_value s → Awaits a_value (BinaryLeft p o l ∷ s)
  unary_open : {p : _} {o : _} {s : _} → Awaits a_value s → Awaits a_value (UnaryOpen p o ∷ s)
  cast_open : {p : _} {q : _} {w : _} {s : _} → Awaits a_value s → Awaits a_value (CastOpen p q w ∷ s)
  group_open : {p : _} {s : _} → Awaits an_operand s → Awaits a_value (GroupOpen p ∷ s)
  index_open : {p : _} {a : _} {s : _} → Awaits an_operand s → Awaits a_value (IndexOpen p a ∷ s)
  length_open : {p : _} {e : _} {s : _} → Awaits an_operand s → Awaits a_value (LengthOpen p e ∷ s)
  argument_value : {ids : _} {s : _} → Awaits arguments_of s → Awaits a_value (ArgumentsOpen ids ∷ s)
  argument_here : {ids : _} {s : _} → Awaits arguments_of s → Awaits an_argument (ArgumentsOpen ids ∷ s)
  call_open : {p : _} {w : _} {o : _} {s : _} → Awaits an_operand s → Awaits arguments_of (CallOpen p w o ∷ s)
  new_open : {p : _} {q : _} {w : _} {s : _} → Awaits an_operand s → Awaits arguments_of (NewOpen p q w ∷ s)
  super_call_open : {b : _} {p : _} {s : _} → Awaits a_constructor_body s → Awaits arguments_of (SuperCallOpen b p ∷ s)
  of_value : {s : _} → Awaits a_value s → Awaits an_operand s
  target_open : {s : _} → Awaits an_assignment s → Awaits an_operand (Target ∷ s)

-- what the entries under a mode await
unfoldable pub due : Mode → Need
due FileStart = a_file
due PackageName = a_file
due PackageEnd = a_file
due InImports = a_file
due ImportStart = a_file
due ImportName = a_file
due ImportDot = a_file
due ImportEnd = a_file
due ImportStar = a_file
due InClasses = a_file
due Finished = a_file
due (ClassName flags) = a_file
due (FlagsRead is_local flags) = flagged_thing
due (At p) = an_annotation
due PlainOpen = an_annotation
due PlainFirst = an_annotation
due PlainNext = an_annotation
due PlainName = an_annotation
due PlainAssigned = an_annotation
due PlainPath = an_annotation
due PlainDot = an_annotation
due PlainEnd = an_annotation
due (DefineOpen p) = an_annotation
due (DefineName p) = an_annotation
due (DefineAssign p b) = an_annotation
due (DefineOther p b id) = an_annotation
due (DefineOtherAssign p b id) = an_annotation
due ValueOpen = a_scope
due ValueStart = a_scope
due (ValueScope p) = a_scope
due (ValueDot p) = a_scope
due (ValueRead id) = a_scope
due ClassNamed = a_head
due SuperName = a_super
due (SuperNamed p w) = a_super
due (SuperArgumentName p w) = a_super
due (SuperArgumentEnd p w id) = a_super
due (SuperDone id) = a_super
due InMembers = a_member
due (MemberNamed flags t p w) = a_member
due (ResultDone flags t) = a_member
due (MethodNamed flags t p w) = a_member
due (TypeName p w) = a_type
due (TypeArgumentName p w) = a_type
due (TypeArgumentEnd p w id) = a_type
due (TypeEnd p e) = a_type
due (TypeBracket p e) = a_type
due (TypeDone id) = a_type
due LiteralStart = a_literal
due (LiteralMinus p) = a_literal
due (LiteralDone id) = a_literal
due (ParametersFirst p) = a_body_owner
due (ParametersDone ps) = a_body_owner
due (ParameterDone id) = a_parameter
due (ConstructorStart p) = a_constructor_body
due (SuperOpen b p) = a_constructor_body
due (SuperEnd b) = a_constructor_body
due InStatements = a_statement_of_block
due StatementStart = a_statement
due (StatementEnd id) = a_statement
due (IfOpen p) = a_statement
due (WhileOpen p) = a_statement
due (ForOpen p) = a_statement
due (ReturnStart p) = a_statement
due ForFirst = a_first
due (NameFirst p w) = a_first
due (NameBracket p w b) = a_first
due (LocalNamed flags t p w) = a_first
due ForStepStart = an_assignment
due (Assigned id) = an_assignment
due Operand = a_value
due (Minus p) = a_value
due (NameRead p w) = an_operand
due (Opened p) = an_operand
due (OpenedName p q w) = an_operand
due (ClosedName p q w) = an_operand
due (NewStart p) = an_operand
due (NewName p q w) = an_operand
due (NewElement p id) = an_operand
due (PostDone kind p id) = an_operand
due (Dot id) = an_operand
due (DotName id p w) = an_operand
due ArgumentFirst = an_argument
due ArgumentNext = an_argument
due (TextRead id) = an_argument

-- in the state, if there is one, the entries await what the mode goes on with
pub data Kept : Option State → Type 0 where
  refused : Kept None
  kept : {m : Mode} {s : List Entry} {N : List Node} → Awaits (due m) s → Kept (Some (at m s N))

-- a choice keeps this where both sides do
pub either : (b : Bool) {x y : Option State} → Kept x → Kept y → Kept (if b then x else y)
either true h k = h
either false h k = k

pub never_both : (b : Bool) (x y : Option State) → Kept y → Kept (if b && false then x else y)
never_both true x y k = k
never_both false x y k = k

pub chosen : {A : Type 0} (r : Option A) (f : A → Option State) (y : Option State) → ((a : A) → Kept (f a)) → Kept y →
    Kept (elim r [ Some x ↦ f x | None ↦ y ])
chosen None f y h k = k
chosen (Some a) f y h k = h a
