-- Each statement of an accepted program has the facts of its kind.
use Rattle.std.proofs.Common.{◌≡◌, ℕ, sym, ap, ◌∙◌, Some, None, true, true≢false, slice_get}
use Rattle.scj_tree.specs.declared.nodes.Node.{Node}
use Rattle.scj_tree.specs.declared.nodes.Node.TheVariants.{Block, Empty as EmptyStatement, Local as LocalNode, LocalWithValue, Assign, ExpressionStatement, If, While, For, Return}
use Rattle.scj_tree.specs.Forest.{Forest, IsForest}
use Rattle.scj_rules.specs.Contexts.{Declarations, declarations_of}
use Rattle.scj_rules.specs.Bindings.{bindings_in}
use Rattle.scj_rules.specs.CheckedProgram.{IsReadFromTexts}
use Rattle.scj_rules.specs.Phases.{IsAccepted}
use Rattle.accepted_laws.specs.Judgements.{Inside}
use Rattle.accepted_laws.specs.Sorts.{IsWellSorted, is_statement}
use Rattle.accepted_laws.proofs.Tools.{some_inj}
use Rattle.scj_model.specs.Code.{Code, code_of}
use Rattle.scope_flow.specs.Guards.{SparesGuards}
use Rattle.scope_flow.specs.Needs.{IsStatement}
use Rattle.scope_flow.specs.Signatures.{Signature, IsBody}
use Rattle.scope_flow.specs.StatementFacts.{StatementFact, ReturnFact}
use Rattle.flow_facts.proofs.Assignments.{assign_fact}
use Rattle.flow_facts.proofs.Blocks.{block_statements}
use Rattle.flow_facts.proofs.Conditions.{if_fact, while_fact, for_fact}
use Rattle.flow_facts.proofs.DeclaredGuards.{declaration_spares}
use Rattle.flow_facts.proofs.Invocations.{invocation_fact}
use Rattle.flow_facts.proofs.Locals.{local_fact, initial_value_fact}
use Rattle.flow_facts.proofs.Returns.{return_none_fact, return_value_fact}

module _ (forest : Forest) (accepted : IsAccepted forest) (whole : IsForest forest) (sorted : IsWellSorted forest.nodes)
    (is_read : IsReadFromTexts forest) where
  abbrev p : Declarations
  p = declarations_of forest

  abbrev code : Code
  code = record { program = p; bindings = bindings_in p }

  spares : (id : ℕ) → SparesGuards code id id
  spares id = declaration_spares forest accepted whole sorted is_read id

  by_kind : (b c : ℕ) (sig : Signature) (id : ℕ) (node : Node) → IsBody p b c sig → Inside p b c id →
      slice_get forest.nodes id ≡ Some node → is_statement node ≡ true → StatementFact code b c sig id node
  unfolding StatementFact ReturnFact is_statement code_of
  by_kind b c sig id (Block position statements) body inside there e =
      block_statements forest accepted whole sorted b c id position statements there inside
  by_kind b c sig id (EmptyStatement position) body inside there e = tt
  by_kind b c sig id (LocalNode position name flags declared_type) body inside there e =
      local_fact forest accepted whole sorted b c id declared_type position name flags there inside (spares id)
  by_kind b c sig id (LocalWithValue position name_position name flags declared_type value) body inside there e =
      initial_value_fact forest accepted whole sorted b c id value declared_type position name_position name flags there
      inside (spares id)
  by_kind b c sig id (Assign position target value) body inside there e =
      assign_fact forest accepted whole sorted b c id target value position there inside
  by_kind b c sig id (ExpressionStatement position expression) body inside there e =
      invocation_fact forest accepted whole sorted b c id expression position there inside
  by_kind b c sig id (If position condition then_part else_part) body inside there e =
      if_fact forest accepted whole sorted b c id condition then_part position else_part there inside
  by_kind b c sig id (While position condition body_part) body inside there e =
      while_fact forest accepted whole sorted b c id condition body_part position there inside
  by_kind b c sig id (For position first condition step body_part) body inside there e =
      for_fact forest accepted whole sorted b c id first condition step body_part position there inside
  by_kind b c sig id (Return position None) body inside there e =
      return_none_fact forest accepted whole sorted b c id sig position body there inside
  by_kind b c sig id (Return position (Some value)) body inside there e =
      return_value_fact forest accepted whole sorted b c id value sig position body there inside
  by_kind b c sig id _ body inside there e = absurd (true≢false (sym e))

  pub statement_fact : (b c : ℕ) (sig : Signature) (id : ℕ) (node : Node) → IsBody p b c sig → IsStatement p b c id →
      slice_get p.nodes id ≡ Some node → StatementFact code b c sig id node
  unfolding declarations_of
  statement_fact b c sig id node body is there =
      by_kind b c sig id node body is.inside there (ap is_statement (some_inj node is.node (sym there ∙ is.is_there))
      ∙ is.is_statement)
