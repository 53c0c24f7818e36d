-- Behind the end of a file the machine is finished.
use Rattle.std.proofs.Common.{ap, append-nil, refl, subst, sym, ◌∙◌}
use Rattle.std.specs.Prelude.{Bool, List, None, Option, Some, [], false, if◌then◌else◌, nat_lt, true, ℕ, ◌++◌, ◌∷◌, ◌≡◌}
use Rattle.machine_laws.proofs.ClosingNeeds.{Awaits, Kept, a_file, a_statement, a_super, a_type, a_value, an_annotation, an_argument, an_assignment, an_operand, annotation_open, argument_here, assign_value, binary_left, block_open, cast_open, class_body, compound_value, constructor_body, due, file_open, flagged_thing, flags_of_class, flags_of_local, flags_of_member, flags_of_parameter, for_body, for_head, for_step, for_test, if_other, if_then, kept, local_open, local_value, member_open, method_body, of_block, of_constructor, of_first, of_simple, of_value, parameter_open, parameters_open, refused, simple_open, supers_open, target_open, unary_open, while_body}
use Rattle.machine_laws.proofs.ClosingPlaces.{answer_over, run_over, running_on}
use Rattle.machine_laws.proofs.ClosingSteps.{run_kept, start_kept}
use Rattle.machine_laws.proofs.Soundness.{answer_is_tree}
use Rattle.machine_laws.proofs.Tools.{after, machine}
use Rattle.parser_machine.specs.Closing.{admits, argument_ended, assigned, closed, ended, operation, shifted, target_ended}
use Rattle.machine_laws.specs.ClosingEnds.{ReadWhole}
use Rattle.parser_machine.specs.Declarations.{at_step, flags_step, plain_without, typed}
use Rattle.parser_machine.specs.Files.{super_ended}
use Rattle.parser_machine.specs.Machine.{answer, finished, run, start, step, step_mode}
use Rattle.parser_machine.specs.Members.{statement_ended}
use Rattle.parser_machine.specs.Operands.{closed_name_step, dot_name_step, name_step, opened_name_step, post_ended, post_step, text_step}
use Rattle.parser_machine.specs.States.{State, at, level_of}
use Rattle.parser_machine.specs.declared.entries.Entry.{Entry}
use Rattle.parser_machine.specs.declared.entries.Entry.TheVariants.{FileOpen}
use Rattle.parser_machine.specs.declared.modes.Mode.{Mode}
use Rattle.parser_machine.specs.declared.modes.Mode.TheVariants.{Assigned, At, ClosedName, DotName, FileStart, Finished, FlagsRead, InClasses, InImports, InMembers, NameRead, OpenedName, PlainOpen, PostDone, StatementEnd, SuperDone, SuperNamed, TextRead, TypeDone, TypeEnd, TypeName}
use Rattle.scj_base.specs.declared.positions.Position.{Position}
use Rattle.scj_tree.specs.Lexemes.{Lexeme, the_end}
use Rattle.scj_tree.specs.Terminals.{is_unary1_start, level, no_flags}
use Rattle.scj_tree.specs.declared.nodes.Node.{Node}
use Rattle.scj_tree.specs.declared.parsed_parts.FlagSet.{FlagSet}
use Rattle.scj_tree.specs.declared.parsed_parts.PostKind.{PostKind}

-- there is no state, or a file was read
pub data Final : Option State → Type 0 where
  stopped : Final None
  read_whole : {ids : List ℕ} {N : List Node} → Final (Some (at Finished (FileOpen ids ∷ []) N))

either_final : (b : Bool) {x y : Option State} → Final x → Final y → Final (if b then x else y)
either_final true h k = h
either_final false h k = k

file_final : {s : List Entry} → Awaits a_file s → (N : List Node) → Final (Some (at Finished s N))
file_final file_open N = read_whole

flags_final : {s : List Entry} → Awaits flagged_thing s → (l : Bool) (f : FlagSet) (N : List Node) (p : Position) →
    Final (flags_step l f N s (the_end p))
unfolding machine
flags_final (flags_of_class file_open) l f N p = stopped
flags_final (flags_of_member (class_body a)) l f N p = stopped
flags_final (flags_of_parameter (parameters_open a)) l f N p = stopped
flags_final (flags_of_local (simple_open a)) l f N p = stopped

plain_final : {s : List Entry} → Awaits an_annotation s → (N : List Node) (p : Position) →
    Final (plain_without N s (the_end p))
unfolding plain_without
plain_final (annotation_open a) N p = flags_final a _ _ N p

at_final : {s : List Entry} → Awaits an_annotation s → (q : Position) (N : List Node) (p : Position) →
    Final (at_step q N s (the_end p))
unfolding at_step
at_final (annotation_open a) q N p = stopped

super_final : {s : List Entry} → Awaits a_super s → (id : ℕ) (N : List Node) (p : Position) →
    Final (super_ended id N s (the_end p))
unfolding machine
super_final (supers_open true a) id N p = stopped
super_final (supers_open false a) id N p = stopped

typed_final : {s : List Entry} → Awaits a_type s → (id : ℕ) (N : List Node) (p : Position) → Final (typed id N s (the_end p))
unfolding machine
typed_final (member_open a) id N p = stopped
typed_final (parameter_open a) id N p = stopped
typed_final (local_open a) id N p = stopped

text_final : {s : List Entry} → Awaits an_argument s → (id : ℕ) (N : List Node) (p : Position) →
    Final (text_step id N s (the_end p))
unfolding machine
text_final (argument_here a) id N p = stopped

assigned_final : {s : List Entry} → Awaits an_assignment s → (id : ℕ) (N : List Node) (p : Position) →
    Final (assigned id N s (the_end p))
unfolding machine
assigned_final (of_first (of_simple (simple_open a))) id N p = stopped
assigned_final (of_first (for_head a)) id N p = stopped
assigned_final (for_step a) id N p = stopped

closed_final : {s : List Entry} → Awaits a_value s → (id : ℕ) (N : List Node) (p : Position) →
    Final (closed id N s (the_end p))
unfolding closed admits operation shifted level_of ended argument_ended
closed_final (binary_left {o = o} a) id N p = either_final (nat_lt (level o) 0) stopped (closed_final a _ _ p)
closed_final (unary_open a) id N p = closed_final a _ _ p
closed_final (cast_open a) id N p = closed_final a _ _ p
closed_final (assign_value a) id N p = assigned_final a _ _ p
closed_final (compound_value a) id N p = assigned_final a _ _ p
closed_final (local_value a) id N p = assigned_final (of_first a) _ _ p
closed_final a id N p = stopped

post_final : {s : List Entry} → Awaits an_operand s → (kind : PostKind) (q : Position) (id : ℕ) (N : List Node) (p : Position) →
    Final (post_ended kind q id N s (the_end p))
unfolding post_ended target_ended
post_final (target_open a) kind q id N p = stopped
post_final (of_value (for_test a)) kind q id N p = closed_final (for_test a) id N p
post_final (of_value a) kind q id N p = closed_final a id N p

group_final : {s : List Entry} → Awaits an_operand s → (q r : Position) (w : List ℕ) (N : List Node) (p : Position) →
    Final (opened_name_step q r w N s (the_end p))
unfolding machine
group_final a q r w N p = stopped

name_final : {s : List Entry} → Awaits an_operand s → (q : Position) (w : List ℕ) (N : List Node) (p : Position) →
    Final (name_step q w N s (the_end p))
unfolding name_step post_step
name_final a q w N p = post_final a _ _ _ _ p

dot_name_final : {s : List Entry} → Awaits an_operand s → (id : ℕ) (q : Position) (w : List ℕ) (N : List Node) (p : Position) →
    Final (dot_name_step id q w N s (the_end p))
unfolding dot_name_step post_step
dot_name_final a id q w N p = post_final a _ _ _ _ p

closed_name_final : {s : List Entry} → Awaits an_operand s → (q r : Position) (w : List ℕ) (N : List Node) (p : Position) →
    Final (closed_name_step q r w N s (the_end p))
unfolding closed_name_step is_unary1_start post_step
closed_name_final a q r w N p = post_final a _ _ _ _ p

statement_final : {s : List Entry} → Awaits a_statement s → (id : ℕ) (N : List Node) (p : Position) →
    Final (statement_ended id N s (the_end p))
unfolding machine
statement_final (of_block (block_open a)) id N p = stopped
statement_final (if_then a) id N p = statement_final a _ _ p
statement_final (if_other a) id N p = statement_final a _ _ p
statement_final (while_body a) id N p = statement_final a _ _ p
statement_final (for_body a) id N p = statement_final a _ _ p
statement_final (method_body (class_body a)) id N p = stopped
statement_final (of_constructor (constructor_body (class_body a))) id N p = stopped

mode_final : (m : Mode) {s : List Entry} → Awaits (due m) s → (N : List Node) (p : Position) →
    Final (step_mode m N s (the_end p))
unfolding machine due
mode_final FileStart a N p = file_final a N
mode_final InImports a N p = file_final a N
mode_final InClasses a N p = file_final a N
mode_final (FlagsRead l f) a N p = flags_final a l f N p
mode_final PlainOpen a N p = plain_final a N p
mode_final (At q) a N p = at_final a q N p
mode_final (SuperNamed q w) a N p = super_final a _ _ p
mode_final (SuperDone id) a N p = super_final a id N p
mode_final InMembers a N p = flags_final (flags_of_member a) false no_flags N p
mode_final (TypeName q w) a N p = typed_final a _ _ p
mode_final (TypeEnd q e) a N p = typed_final a _ _ p
mode_final (TypeDone id) a N p = typed_final a id N p
mode_final (StatementEnd id) a N p = statement_final a id N p
mode_final (Assigned id) a N p = assigned_final a id N p
mode_final (NameRead q w) a N p = name_final a q w N p
mode_final (OpenedName q r w) a N p = group_final a q r w N p
mode_final (ClosedName q r w) a N p = closed_name_final a q r w N p
mode_final (PostDone kind q id) a N p = post_final a kind q id N p
mode_final (DotName id q w) a N p = dot_name_final a id q w N p
mode_final (TextRead id) a N p = text_final a id N p
mode_final m a N p = stopped

-- ---- the end behind a run

nothing_more : (r : Option State) → Final r → Final (running_on r [])
unfolding running_on run
nothing_more None f = f
nothing_more (Some st) f = f

end_behind : {r : Option State} → Kept r → (p : Position) → Final (running_on r (the_end p ∷ []))
unfolding running_on run step
end_behind refused p = stopped
end_behind (kept {m = m} {s = s} {N = N} a) p = nothing_more (step_mode m N s (the_end p)) (mode_final m a N p)

end_of_run : (N : List Node) (i : List Lexeme) (p : Position) → Final (run (start N) (i ++ the_end p ∷ []))
end_of_run N i p =
    subst Final (sym (run_over i (start N) (the_end p ∷ []))) (end_behind (run_kept i (start N) (start_kept N)) p)

given : (N : List Node) (i : List Lexeme) (last : State) → run (start N) i ≡ Some last → Final (Some last) →
    ReadWhole N i last
unfolding after answer finished
given N i last e (read_whole {ids = ids} {N = N1}) =
    record {
      nodes = N1;
      classes = ids;
      state = refl;
      tree = answer_is_tree N i
          (ap (λ j. answer (start N) j) (sym (append-nil i))
          ∙ (sym (answer_over i (start N) []) ∙ ap (λ r. after r []) e));
    }

pub end_read : (N : List Node) (i : List Lexeme) (p : Position) (last : State) →
    run (start N) (i ++ the_end p ∷ []) ≡ Some last → ReadWhole N (i ++ the_end p ∷ []) last
end_read N i p last e = given N (i ++ the_end p ∷ []) last e (subst Final e (end_of_run N i p))
