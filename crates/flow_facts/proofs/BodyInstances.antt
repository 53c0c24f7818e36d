-- The facts of statements and bodies at a whole controller, whose nodes are computed: none of the laws speaks of
-- nothing.
use Rattle.std.proofs.Common.{ℕ, ◌<◌, List, [], ◌∷◌, length, refl, Some, None, codes, true≢false, sym, arith}
use Rattle.scj_base.specs.declared.positions.Position.{Position}
use Rattle.scj_builtins.specs.Framework.{aperiodic_handler}
use Rattle.scj_tree.specs.declared.nodes.Node.{Node}
use Rattle.scj_tree.specs.declared.nodes.Node.TheVariants.{Assign, Block, Constructor, SuperCall}
use Rattle.scj_rules.specs.CheckedProgram.{IsReadFromTexts}
use Rattle.scj_rules.specs.declared.typing.Scope.TheVariants.{In}
use Rattle.scj_rules.specs.declared.typing.Ty.TheVariants.{Class as ClassTy}
use Rattle.scj_rules.specs.Contexts.{Declarations, declarations_of, known_variables}
use Rattle.scj_rules.specs.LimitRules.{variables_of}
use Rattle.scj_rules.specs.Bindings.{bindings_in}
use Rattle.scj_rules.specs.Bodies.{class_of_body}
use Rattle.scj_rules.proofs.Computing.{computing}
use Rattle.scj_rules.proofs.RowOfUse.{controller, controller_accepted, controller_is_forest}
use Rattle.accepted_laws.specs.Judgements.{Inside}
use Rattle.accepted_laws.specs.Kinds.{reference, kind_of, kind_of_variable}
use Rattle.accepted_laws.specs.Sorts.{is_class}
use Rattle.accepted_laws.specs.Variables.{parameter_list}
use Rattle.accepted_laws.proofs.Instances.{controller_sorted}
use Rattle.scj_model.specs.Code.{Code, code_of}
use Rattle.scope_flow.specs.Facts.{FormFact, EntryFact}
use Rattle.scope_flow.specs.Signatures.{Signature, IsBody, may_run, parameters_of, kinds_of_variables, kind_given}
use Rattle.scope_flow.specs.StatementFacts.{AssignFact}
use Rattle.scope_flow.specs.ValueFacts.{HaveStatements}
use Rattle.flow_facts.proofs.Assignments.{assign_fact}
use Rattle.flow_facts.proofs.Blocks.{block_statements}
use Rattle.flow_facts.proofs.EntryKinds.{entry_fact}
use Rattle.flow_facts.proofs.Forms.{form_fact}

abbrev p : Declarations
p = declarations_of controller

abbrev code : Code
code = record { program = p; bindings = bindings_in p }

abbrev at : ℕ → ℕ → Position
at line col = record { file = 1; line = line; col = col }

-- ---- statements

-- the mission's `initialize` is a block of eight statements, in which each local is in scope behind its declaration
initialize : List ℕ
initialize = 60 ∷ 65 ∷ 69 ∷ 72 ∷ 77 ∷ 80 ∷ 84 ∷ 87 ∷ []

initialize_inside : Inside p 89 18 88
unfolding computing initialize
initialize_inside = record { here = (Block (at 4 41) initialize, refl); class = refl; member = refl }

initialize_statements : HaveStatements p 89 18 88 (known_variables p 88) initialize
unfolding initialize
initialize_statements = block_statements controller controller_accepted controller_is_forest controller_sorted 89 18 88
    (at 4 41) initialize refl initialize_inside

-- the tank's method `set` assigns `level = v`
set_inside : Inside p 105 19 103
unfolding computing
set_inside = record { here = (Assign (at 17 56) 101 102, refl); class = refl; member = refl }

set_assigns : AssignFact (code_of controller) 105 19 103 101 102
set_assigns = assign_fact controller controller_accepted controller_is_forest controller_sorted 105 19 103 101 102
    (at 17 56) refl set_inside

-- ---- bodies

-- the alarm's constructor begins with the form of its handler: two numbers
form_arguments : List ℕ
form_arguments = 138 ∷ 139 ∷ 141 ∷ []

form_inside : Inside p 147 21 142
unfolding computing form_arguments
form_inside = record { here = (SuperCall (at 23 19) form_arguments, refl); class = refl; member = refl }

within : 21 < length p.classes
unfolding computing
within = omega arith

alarm_form : FormFact code 147 21 142 form_arguments aperiodic_handler
unfolding computing form_arguments
alarm_form =
    form_fact controller controller_accepted controller_is_forest controller_sorted 147 21 142 aperiodic_handler
    form_arguments (138 ∷ 141 ∷ 139 ∷ []) within refl refl
    (record { position = at 23 19; is_there = refl; inside = form_inside; form = refl }) refl

-- it takes a tank of the mission, and runs where the alarm lies
abbrev alarm_signature : Signature
alarm_signature = record { takes = reference (ClassTy 19) (In 18) ∷ []; gives = None; runs_in = In 18 }

alarm_constructor : Node
alarm_constructor = Constructor (at 23 3) (codes "Alarm") None (Some 136) (Some 142) 146

alarm_body : IsBody p 147 21 alarm_signature
unfolding computing may_run class_of_body kind_given variables_of parameters_of kinds_of_variables kind_of_variable
    kind_of parameter_list is_class alarm_constructor
alarm_body = record {
  node = alarm_constructor;
  is_there = refl;
  runs = refl;
  unwritten = λ e. absurd (true≢false (sym e));
  is_class = refl;
  gives = refl;
  more = [];
  variables = refl;
  first = λ i v e h. e;
  takes = refl;
  runs_in = refl;
  home = In 18;
  is_home = refl;
}

alarm_constructs : IsReadFromTexts controller → EntryFact code 147 21 alarm_signature alarm_body.node
alarm_constructs r =
    entry_fact controller controller_accepted controller_is_forest controller_sorted r 147 21 alarm_signature alarm_body
